use Rattle.std.proofs.Common.{ℕ, List, ◌≡◌, ◌∙◌, ◌+◌, [], ◌∷◌, ◌++◌, length, ap, subst, sym, arith}
use Rattle.std.specs.Prelude.{slice_index_or}
use Rattle.std.proofs.lemmas.List.{length_push}
use Rattle.site_model.specs.Laws.Count.{calls_on_anywhere, calls_untold}
use Rattle.ecj_journal.specs.declared.reading.Journal.{Journal}
use Rattle.image_meaning.specs.Files.{VolumeFiles}
use Rattle.coded_volume.specs.Checking.{files_on, IsJournalAt}
use Rattle.coded_volume.proofs.Each.{as_before}
use Rattle.coded_volume.proofs.Longest.{HasRead, read_first, read_next, read_all}
use Rattle.coded_volume.proofs.checking.journals.read_journals.Goals as goal

pub loop-server-init : goal.loop-server-init
loop-server-init g c =
    let one : c.push.new.self.items ≡ c.in_ok-journal.journal ∷ [] = c.in_ok-push.ensures.items ∙ ap (λ (l : List Journal). l ++ c.in_ok-journal.journal ∷ []) c.new-journals.ensures.items in
    record {
      runs = calls_untold c.journal_at.ensures.runs;
      same_disk = c.journal_at.ensures.same;
      some = omega (arith, ap length one);
      read = λ told.
          let F = files_on (g.T.Site.disk c.args.site.now).files c.args.volume in
          subst (HasRead F c.args.holders.now 0) (sym one) (read_first F c.args.holders.now (c.requires.holders told) c.in_ok-journal.journal (c.in_ok-journal.ensures.journal told));
    }

pub loop-server-preserved : goal.loop-server-preserved
loop-server-preserved g c = record {
  runs = calls_untold (calls_on_anywhere c.loop-server.invariant.runs c.journal_at-in-loop-server.ensures.runs);
  same_disk = λ told. c.journal_at-in-loop-server.ensures.same told ∙ c.loop-server.invariant.same_disk told;
  some = omega (arith, ap length c.in_ok-push-2.ensures.items, length_push c.loop-server.journals.items c.in_ok-journal-2.journal);
  read = λ told.
      let F = files_on (g.T.Site.disk c.args.site.now).files c.args.volume in
      let server : ℕ = slice_index_or c.deref-server-items.result.now c.loop-server.server-index 0 in
      let here = as_before (λ (f : VolumeFiles). IsJournalAt f server c.in_ok-journal-2.journal) c.args.volume (g.T.Site.disk c.loop-server.site) (g.T.Site.disk c.args.site.now) (c.loop-server.invariant.same_disk told) (c.in_ok-journal-2.ensures.journal told) in
      subst (HasRead F c.args.holders.now (c.loop-server.server-index + 1)) (sym c.in_ok-push-2.ensures.items)
      (read_next F c.args.holders.now (c.requires.holders told) c.loop-server.server-index c.loop-server.journals.items c.in_ok-journal-2.journal 0
      (omega (arith, c.loop-server-test.true, ap length c.deref-server-items.ensures.value)) (c.loop-server.invariant.read told)
      (subst (λ (l : List ℕ). IsJournalAt F (slice_index_or l c.loop-server.server-index 0) c.in_ok-journal-2.journal) c.deref-server-items.ensures.value here));
}

pub returns-clause-journals : goal.returns-clause-journals
returns-clause-journals g c = λ told.
    read_all (files_on (g.T.Site.disk c.args.site.now).files c.args.volume) c.args.holders.now (c.requires.holders told) c.loop-server.server-index c.loop-server.journals.items
    (omega (arith, c.loop-server-test.false, ap length c.deref-server-items.ensures.value)) (c.loop-server.invariant.read told)
