use Rattle.std.proofs.Common.{◌≡◌, ◌∙◌, None, subst}
use Rattle.std.proofs.lemmas.List.{nil_from_length}
use Rattle.std.proofs.lemmas.Result.{err_from_is_err_and}
use Rattle.site_model.specs.Disk.{Disk}
use Rattle.site_model.specs.Laws.Count.{calls_on, calls_failed}
use Rattle.dat_volume.specs.Needles.{header_damage}
use Rattle.volume_vacuum.specs.Copies.{TellsFirst}
use Rattle.volume_vacuum.specs.Home.{own_dat}
use Rattle.volume_vacuum.proofs.Checked.{right_more, right_all, wrong_one}
use Rattle.volume_vacuum.proofs.checking.check_entries.Goals as goal

pub returns-in_err-check_entry-clause-told : goal.returns-in_err-check_entry-clause-told
returns-in_err-check_entry-clause-told g c =
    let p = err_from_is_err_and c.from_residual-in_err-check_entry.result c.from_residual-in_err-check_entry.ensures.1 in
    let fault = c.in_err-check_entry.field-0.0 in
    rw (p.1, p.2) (λ told.
    wrong_one c.in-Some.entry.now fault c.in-Some.ensures.cases.0
    (subst (λ (d : Disk). TellsFirst (header_damage (own_dat d.files c.args.home.now) c.in-Some.entry.now) fault) (c.loop-entry.invariant.same told) (c.in_err-check_entry.ensures.told told))
    (c.loop-entry.invariant.right told))

pub loop-entry-preserved : goal.loop-entry-preserved
loop-entry-preserved g c = record {
  runs = calls_failed (λ fails. absurd cc) (calls_on c.loop-entry.invariant.runs c.in_ok-check_entry.ensures.runs);
  same = λ told. c.check_entry.ensures.same told ∙ c.loop-entry.invariant.same told;
  long = c.loop-entry.invariant.long;
  right = λ told.
      right_more c.in-Some.entry.now c.in-Some.ensures.cases.0
      (subst (λ (d : Disk). header_damage (own_dat d.files c.args.home.now) c.in-Some.entry.now ≡ None) (c.loop-entry.invariant.same told) (c.in_ok-check_entry.ensures.ok told))
      (c.loop-entry.invariant.right told);
}

pub returns-clause-ok : goal.returns-clause-ok
returns-clause-ok g c = λ told. right_all (nil_from_length c.loop-entry.rest.now c.in_default.ensures.cases) (c.loop-entry.invariant.right told)
