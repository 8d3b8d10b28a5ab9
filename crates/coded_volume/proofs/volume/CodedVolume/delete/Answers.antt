use Rattle.std.proofs.Common.{◌∙◌, subst}
use Rattle.wire_num.specs.Laws.Pair.{AreIds}
use Rattle.coded_volume.proofs.Deleted.{deletes, deletes_done, deletes_none}
use Rattle.coded_volume.proofs.volume.CodedVolume.delete.Goals as goal

pub returns-in_err-name-clause-effect : goal.returns-in_err-name-clause-effect
returns-in_err-name-clause-effect g c = λ told. deletes_none _ _ _ _ _ _ c.numbers_fit.ensures.volume (subst AreIds c.deref.ensures.value c.numbers_fit.ensures.ids)

pub returns-in_err-enter-clause-effect : goal.returns-in_err-enter-clause-effect
returns-in_err-enter-clause-effect g c = λ told. deletes_none _ _ _ _ _ _ c.numbers_fit.ensures.volume (subst AreIds c.deref.ensures.value c.numbers_fit.ensures.ids)

pub returns-in-Ok-clause-effect : goal.returns-in-Ok-clause-effect
returns-in-Ok-clause-effect g c = λ told.
    deletes _ _ _ _ _ _ _ _ (c.deref-2.ensures ∙ c.in_ok-name.ensures) c.numbers_fit.ensures.volume (subst AreIds c.deref.ensures.value c.numbers_fit.ensures.ids) (c.append_everywhere.ensures.effect told)

pub returns-in-Ok-clause-done : goal.returns-in-Ok-clause-done
returns-in-Ok-clause-done g c = λ told start.
    deletes_done _ _ _ _ _ _ _ _ (c.deref-2.ensures ∙ c.in_ok-name.ensures) c.numbers_fit.ensures.volume (subst AreIds c.deref.ensures.value c.numbers_fit.ensures.ids) c.ranges.id.fits (c.append_everywhere.ensures.effect told) (c.in-Ok.ensures.done told) start

pub returns-clause-effect : goal.returns-clause-effect
returns-clause-effect g c = λ told.
    deletes _ _ _ _ _ _ _ _ (c.deref-2.ensures ∙ c.in_ok-name.ensures) c.numbers_fit.ensures.volume (subst AreIds c.deref.ensures.value c.numbers_fit.ensures.ids) (c.append_everywhere.ensures.effect told)
