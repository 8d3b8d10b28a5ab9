use Rattle.dat_volume.proofs.Recording.{name_differs, first, second, appended}
use Rattle.dat_volume.proofs.writing.append_record.Goals as goal

pub returns-in_err-append_firm-clause-effect : goal.returns-in_err-append_firm-clause-effect
returns-in_err-append_firm-clause-effect g c = λ told. first _ _ _ c.args.entry.now (name_differs c.args.server _ _ c.requires.differ) (c.append_firm.ensures.effect told)

pub returns-in_err-append_firm-2-clause-effect : goal.returns-in_err-append_firm-2-clause-effect
returns-in_err-append_firm-2-clause-effect g c = λ told. second _ _ _ _ (name_differs c.args.server _ _ c.requires.differ) (c.append_firm.ensures.effect told) (c.in_ok-append_firm.ensures.done told) (c.append_firm-2.ensures.effect told)

pub returns-clause-effect : goal.returns-clause-effect
returns-clause-effect g c = λ told. second _ _ _ _ (name_differs c.args.server _ _ c.requires.differ) (c.append_firm.ensures.effect told) (c.in_ok-append_firm.ensures.done told) (c.append_firm-2.ensures.effect told)

pub returns-clause-done : goal.returns-clause-done
returns-clause-done g c = λ told. appended _ _ _ _ (name_differs c.args.server _ _ c.requires.differ) (c.append_firm.ensures.effect told) (c.in_ok-append_firm.ensures.done told) (c.append_firm-2.ensures.effect told) (c.in_ok-append_firm-2.ensures.done told)
