use Rattle.std.proofs.Common.{ℕ, List, ◌≡◌, ◌∙◌, Some, length, ap, subst, sym, arith}
use Rattle.std.specs.Prelude.{slice_index_or}
use Rattle.site_model.specs.Disk.{Disk}
use Rattle.site_model.specs.Laws.Count.{calls_on_anywhere, calls_untold}
use Rattle.image_meaning.specs.Coded.{info_at}
use Rattle.coded_volume.specs.Checking.{files_on}
use Rattle.coded_volume.proofs.Each.{each_next, each_all}
use Rattle.coded_volume.proofs.Accepted.{texts_pass}
use Rattle.coded_volume.proofs.checking.texts.check_texts.Goals as goal

pub loop-server-preserved : goal.loop-server-preserved
loop-server-preserved g c = record {
  runs = calls_untold (calls_on_anywhere c.loop-server.invariant.runs c.info_at-in-loop-server.ensures.runs);
  same_disk = λ told. c.info_at-in-loop-server.ensures.same told ∙ c.loop-server.invariant.same_disk told;
  texts = λ told.
      let server : ℕ = slice_index_or c.deref-server-items.result.now c.loop-server.server-index 0 in
      let read = subst (λ (d : Disk). c.in_ok-found.found ≡ info_at (files_on d.files c.args.volume) server) (c.loop-server.invariant.same_disk told) (c.in_ok-found.ensures.info told) in
      each_next (λ s. info_at (files_on (g.T.Site.disk c.args.site.now).files c.args.volume) s ≡ Some c.in-Some.info) c.args.holders.now.others.items c.loop-server.server-index 0
      (omega (arith, c.loop-server-test.true, ap length c.deref-server-items.ensures.value)) (c.loop-server.invariant.texts told)
      (subst (λ (l : List ℕ). info_at (files_on (g.T.Site.disk c.args.site.now).files c.args.volume) (slice_index_or l c.loop-server.server-index 0) ≡ Some c.in-Some.info) c.deref-server-items.ensures.value (sym read ∙ c.says_same.ensures.0 c.if-not-says_same.false));
}

pub returns-clause-texts : goal.returns-clause-texts
returns-clause-texts g c = λ told.
    let F = files_on (g.T.Site.disk c.args.site.now).files c.args.volume in
    texts_pass F c.args.holders.now (c.requires.holders told) c.in-Some.info (sym (c.in_ok-info.ensures.info told) ∙ c.in-Some.is)
    (each_all (λ s. info_at F s ≡ Some c.in-Some.info) c.args.holders.now.others.items c.loop-server.server-index (omega (arith, c.loop-server-test.false, ap length c.deref-server-items.ensures.value)) (c.loop-server.invariant.texts told))
