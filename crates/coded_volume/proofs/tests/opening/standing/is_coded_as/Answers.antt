use Rattle.std.proofs.Common.{◌≡◌, inl, inr, false, refl, sym, ◌∙◌, subst, arith}
use Rattle.std.proofs.lemmas.Bool.{cases_lt}
use Rattle.site_model.specs.Disk.{IsPossible}
use Rattle.site_mem.specs.Site.{disk_at}
use Rattle.image_meaning.specs.Files.{has_index}
use Rattle.coded_volume.specs.Checking.{files_on}
use Rattle.coded_volume.specs.CheckingTests.{HasRow}
use Rattle.coded_volume.proofs.Enough.{coded_as}
use Rattle.coded_volume.proofs.tests.opening.standing.is_coded_as.Goals as goal

pub loop-server-preserved : goal.loop-server-preserved
loop-server-preserved c = λ s low. elim (cases_lt s c.loop-server.server) [
  | inl before ↦ c.loop-server.invariant s before
  | inr here ↦
      let files = files_on (disk_at c.args.site.now).files 7 in
      let same : c.loop-server.server ≡ s = omega (arith, low, here) in
      subst (λ j. (has_index files j ≡ false) × HasRow c.args.places.now files j 16) same
      (sym c.in_ok-has_index.ensures ∙ c.if-branch.false, c.in_ok-has_row.ensures c.if-not-branch.false)
]

pub returns : goal.returns
returns c = λ coded.
    let files = (disk_at c.args.site.now).files in
    let possible : IsPossible 4 files = subst (λ n. IsPossible n files) c.requires.servers (c.servers-server-end.ensures.possible refl) in
    coded_as c.args.places.now files possible c.requires.row (c.if-not-has_enough.ensures refl)
    (λ s low. c.loop-server.invariant s (omega (arith, low, c.loop-server-test.false, c.servers-server-end.ensures.servers, c.requires.servers)))
