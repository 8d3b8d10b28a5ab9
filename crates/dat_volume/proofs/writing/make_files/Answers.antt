use Rattle.std.proofs.Common.{ℕ, List, sym, ◌∙◌, ap}
use Rattle.dat_volume.proofs.Making.{here, first_temp, second_temp, only_temps, both_temps, names_dat, has_dat, names_idx, made, index_stands}
use Rattle.dat_volume.proofs.writing.make_files.Goals as goal

pub returns-in_err-append_firm-clause-effect : goal.returns-in_err-append_firm-clause-effect
returns-in_err-append_firm-clause-effect g c = λ told. first_temp _ _ c.requires.apart (here c.args.server c.deref.ensures) (c.append_firm.ensures.effect told)

pub returns-in_err-append_firm-2-clause-effect : goal.returns-in_err-append_firm-2-clause-effect
returns-in_err-append_firm-2-clause-effect g c = λ told.
    only_temps _ _ c.requires.apart (second_temp _ _ c.requires.apart (here c.args.server c.deref.ensures) (here c.args.server c.deref-2.ensures) (c.append_firm.ensures.effect told) (c.append_firm-2.ensures.effect told))

pub returns-in_err-rename-clause-effect : goal.returns-in_err-rename-clause-effect
returns-in_err-rename-clause-effect g c = λ told.
    let temps = both_temps _ _ c.requires.apart (here c.args.server c.deref.ensures) (here c.args.server c.deref-2.ensures)
    (c.append_firm.ensures.effect told) (c.in_ok-append_firm.ensures.done told) (c.append_firm-2.ensures.effect told) (c.in_ok-append_firm-2.ensures.done told) in
    names_dat _ _ c.requires.apart (here c.args.server c.deref-3.ensures) (here c.args.server c.deref-4.ensures) temps (c.rename.ensures.effect told)

pub rename-requires-2-clause-stands : goal.rename-requires-2-clause-stands
rename-requires-2-clause-stands g c = λ told.
    index_stands _ c.args.super_block.now c.requires.apart (here c.args.server c.deref-3.ensures) (here c.args.server c.deref-4.ensures) (here c.args.server c.deref-5.ensures)
    (ap (λ (n : List ℕ). (g.T.Site.disk c.append_firm-2.new.site).files (c.args.server, n)) (c.deref-5.ensures ∙ sym c.deref-2.ensures) ∙ c.in_ok-append_firm-2.ensures.done told) (c.rename.ensures.effect told)

pub returns-in_err-rename-2-clause-effect : goal.returns-in_err-rename-2-clause-effect
returns-in_err-rename-2-clause-effect g c = λ told.
    let temps = both_temps _ _ c.requires.apart (here c.args.server c.deref.ensures) (here c.args.server c.deref-2.ensures)
    (c.append_firm.ensures.effect told) (c.in_ok-append_firm.ensures.done told) (c.append_firm-2.ensures.effect told) (c.in_ok-append_firm-2.ensures.done told) in
    let has = has_dat _ _ c.requires.apart (here c.args.server c.deref-3.ensures) (here c.args.server c.deref-4.ensures) temps (c.rename.ensures.effect told) (c.in_ok-rename.ensures.done told) in
    names_idx _ _ c.requires.apart (here c.args.server c.deref-5.ensures) (here c.args.server c.deref-6.ensures) has (c.rename-2.ensures.effect told)

pub returns-clause-effect : goal.returns-clause-effect
returns-clause-effect g c = λ told.
    let temps = both_temps _ _ c.requires.apart (here c.args.server c.deref.ensures) (here c.args.server c.deref-2.ensures)
    (c.append_firm.ensures.effect told) (c.in_ok-append_firm.ensures.done told) (c.append_firm-2.ensures.effect told) (c.in_ok-append_firm-2.ensures.done told) in
    let has = has_dat _ _ c.requires.apart (here c.args.server c.deref-3.ensures) (here c.args.server c.deref-4.ensures) temps (c.rename.ensures.effect told) (c.in_ok-rename.ensures.done told) in
    names_idx _ _ c.requires.apart (here c.args.server c.deref-5.ensures) (here c.args.server c.deref-6.ensures) has (c.rename-2.ensures.effect told)

pub returns-clause-done : goal.returns-clause-done
returns-clause-done g c = λ told.
    let temps = both_temps _ _ c.requires.apart (here c.args.server c.deref.ensures) (here c.args.server c.deref-2.ensures)
    (c.append_firm.ensures.effect told) (c.in_ok-append_firm.ensures.done told) (c.append_firm-2.ensures.effect told) (c.in_ok-append_firm-2.ensures.done told) in
    let has = has_dat _ _ c.requires.apart (here c.args.server c.deref-3.ensures) (here c.args.server c.deref-4.ensures) temps (c.rename.ensures.effect told) (c.in_ok-rename.ensures.done told) in
    made _ _ c.requires.apart (here c.args.server c.deref-5.ensures) (here c.args.server c.deref-6.ensures) has (c.rename-2.ensures.effect told) (c.in_ok-rename-2.ensures.done told)
