use Rattle.std.proofs.Common.{ℕ, List, ◌≡◌, ◌∙◌, length, refl, ap, subst, sym, arith}
use Rattle.std.specs.Prelude.{slice_index_or}
use mathlib.Core.Bool.{true≢false}
use Rattle.site_model.specs.Disk.{Disk}
use Rattle.site_model.specs.Laws.Count.{calls_on_anywhere, calls_untold}
use Rattle.image_meaning.specs.Coded.{ratio_at}
use Rattle.coded_volume.specs.Checking.{files_on}
use Rattle.coded_volume.proofs.Each.{each_next, each_all}
use Rattle.site_recovery.proofs.Ratios.{ratios_pass, ratios_differ}
use Rattle.site_recovery.proofs.testing.ratios.test_ratios.Goals as goal

pub returns-then-not-is_same-clause-broken : goal.returns-then-not-is_same-clause-broken
returns-then-not-is_same-clause-broken g c = (
  refl,
  refl,
  λ told.
      let F = files_on (g.T.Site.disk c.args.site.now).files c.args.volume in
      let server : ℕ = slice_index_or c.deref-server-items.result.now c.loop-server.server-index 0 in
      let read = subst (λ (d : Disk). c.in_ok-found.found ≡ ratio_at (files_on d.files c.args.volume) server) (c.loop-server.invariant.same_disk told) (c.in_ok-found.ensures.ratio told) in
      let named = subst (λ (l : List ℕ). c.in_ok-found.found ≡ ratio_at F (slice_index_or l c.loop-server.server-index 0)) c.deref-server-items.ensures.value read in
      ratios_differ F c.args.holders.now (c.requires.holders told) c.args.ratio (c.requires.first told) c.loop-server.server-index 0
      (omega (arith, c.loop-server-test.true, ap length c.deref-server-items.ensures.value))
      (λ same. true≢false (sym (c.is_same.ensures.1 (named ∙ same)) ∙ c.if-not-is_same.true)),
)

pub loop-server-preserved : goal.loop-server-preserved
loop-server-preserved g c = record {
  runs = calls_untold (calls_on_anywhere c.loop-server.invariant.runs c.ratio_at.ensures.runs);
  same_disk = λ told. c.ratio_at.ensures.same told ∙ c.loop-server.invariant.same_disk told;
  texts = λ told.
      let F = files_on (g.T.Site.disk c.args.site.now).files c.args.volume in
      let server : ℕ = slice_index_or c.deref-server-items.result.now c.loop-server.server-index 0 in
      let read = subst (λ (d : Disk). c.in_ok-found.found ≡ ratio_at (files_on d.files c.args.volume) server) (c.loop-server.invariant.same_disk told) (c.in_ok-found.ensures.ratio told) in
      each_next (λ s. ratio_at F s ≡ c.args.ratio) c.args.holders.now.others.items c.loop-server.server-index 0
      (omega (arith, c.loop-server-test.true, ap length c.deref-server-items.ensures.value)) (c.loop-server.invariant.texts told)
      (subst (λ (l : List ℕ). ratio_at F (slice_index_or l c.loop-server.server-index 0) ≡ c.args.ratio) c.deref-server-items.ensures.value (sym read ∙ c.is_same.ensures.0 c.if-not-is_same.false));
}

pub returns-clause-one : goal.returns-clause-one
returns-clause-one g c = λ told.
    let F = files_on (g.T.Site.disk c.args.site.now).files c.args.volume in
    ratios_pass F c.args.holders.now (c.requires.holders told) c.args.ratio (c.requires.first told)
    (each_all (λ s. ratio_at F s ≡ c.args.ratio) c.args.holders.now.others.items c.loop-server.server-index (omega (arith, c.loop-server-test.false, ap length c.deref-server-items.ensures.value)) (c.loop-server.invariant.texts told))
