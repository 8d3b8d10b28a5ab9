use Rattle.std.proofs.Common.{ℕ, List, ◌≡◌, ◌∙◌, length, refl, ap, subst, sym, arith}
use Rattle.std.specs.Prelude.{slice_index_or}
use mathlib.Core.Bool.{true≢false}
use Rattle.site_model.specs.Disk.{Disk, standing}
use Rattle.site_model.specs.Laws.Count.{calls_on_anywhere, calls_untold}
use Rattle.file_names.specs.Names.{final_place}
use Rattle.file_names.specs.declared.Kind.TheVariants.{Ecx}
use Rattle.coded_volume.specs.Checking.{files_on}
use Rattle.coded_volume.proofs.Each.{each_next, each_all}
use Rattle.coded_volume.proofs.Sorted.{first_loaded, ends_fail, indexes_pass}
use Rattle.coded_volume.proofs.checking.indexes.check_indexes.Goals as goal

pub returns-then-not-ends_within-clause-broken : goal.returns-then-not-ends_within-clause-broken
returns-then-not-ends_within-clause-broken g c = (
  refl,
  refl,
  λ told.
      let F = files_on (g.T.Site.disk c.args.site.now).files c.args.volume in
      let o = (g.T.Site.disk c.args.site.now).files (final_place c.args.holders.now.first c.args.volume Ecx) in
      ends_fail F c.args.holders.now c.args.info.now (c.requires.holders told) c.in_ok-index.index (first_loaded F c.args.holders.now c.in_ok-index.index o refl (c.in_ok-index.ensures.index told))
      (λ ends. true≢false (sym (c.ends_within.ensures.1 ends) ∙ c.if-not-ends_within.true)),
)

pub loop-server-preserved : goal.loop-server-preserved
loop-server-preserved g c = record {
  runs = calls_untold (calls_on_anywhere c.loop-server.invariant.runs c.are_same_files.ensures.runs);
  same_disk = λ told. c.are_same_files.ensures.same told ∙ c.loop-server.invariant.same_disk told;
  equal = λ told.
      let F = files_on (g.T.Site.disk c.args.site.now).files c.args.volume in
      let first : ℕ = c.args.holders.now.first in
      let server : ℕ = slice_index_or c.deref-server-items.result.now c.loop-server.server-index 0 in
      let name : List ℕ = c.deref.result.now in
      let read = subst (λ (d : Disk). standing (d.files (first, name)) ≡ standing (d.files (server, name))) (c.loop-server.invariant.same_disk told) ((c.in_ok-are_same_files.ensures.equal told).0 c.if-not-branch.false) in
      let named = subst (λ (n : List ℕ). standing ((g.T.Site.disk c.args.site.now).files (first, n)) ≡ standing ((g.T.Site.disk c.args.site.now).files (server, n))) (c.deref.ensures ∙ c.in_ok-name.ensures) read in
      each_next (λ s. F first Ecx ≡ F s Ecx) c.args.holders.now.others.items c.loop-server.server-index 0
      (omega (arith, c.loop-server-test.true, ap length c.deref-server-items.ensures.value)) (c.loop-server.invariant.equal told)
      (subst (λ (l : List ℕ). F first Ecx ≡ F (slice_index_or l c.loop-server.server-index 0) Ecx) c.deref-server-items.ensures.value named);
}

pub returns-clause-index : goal.returns-clause-index
returns-clause-index g c = λ told.
    let F = files_on (g.T.Site.disk c.args.site.now).files c.args.volume in
    let o = (g.T.Site.disk c.args.site.now).files (final_place c.args.holders.now.first c.args.volume Ecx) in
    indexes_pass F c.args.holders.now c.args.info.now (c.requires.holders told) c.in_ok-index.index (first_loaded F c.args.holders.now c.in_ok-index.index o refl (c.in_ok-index.ensures.index told))
    (c.ends_within.ensures.0 c.if-not-ends_within.false)
    (each_all (λ s. F c.args.holders.now.first Ecx ≡ F s Ecx) c.args.holders.now.others.items c.loop-server.server-index (omega (arith, c.loop-server-test.false, ap length c.deref-server-items.ensures.value)) (c.loop-server.invariant.equal told))
