use Rattle.std.proofs.Common.{◌∙◌, inl, inr, refl, sym, subst}
use Rattle.std.proofs.lemmas.Result.{err_from_is_err_and}
use Rattle.site_model.specs.Disk.{Disk}
use Rattle.image_meaning.specs.Sound.{HasOneIndex, HasLengths, HasJournal}
use Rattle.coded_volume.specs.Checking.{files_on, AreCopies, AreStanding, AreBelow, AreHolders, HasIndexOf, HasLongest}
use Rattle.coded_volume.proofs.Standing.{are_below, holders_are}
use Rattle.coded_volume.proofs.Passed.{all_pass, texts_fail, index_fails, lengths_fail, journal_fails, tells_rule, tells_first}
use Rattle.coded_volume.proofs.checking.check.Goals as goal

pub check_texts-requires-clause-servers : goal.check_texts-requires-clause-servers
check_texts-requires-clause-servers g c = are_below (files_on (g.T.Site.disk c.args.site.now).files c.args.volume) (g.T.Site.servers c.args.site.now) c.args.copies.now c.in_ok-holders.holders c.requires.copies c.in_ok-holders.ensures

pub check_texts-requires-clause-holders : goal.check_texts-requires-clause-holders
check_texts-requires-clause-holders g c = λ told. holders_are (files_on (g.T.Site.disk c.args.site.now).files c.args.volume) (g.T.Site.servers c.args.site.now) c.args.copies.now c.in_ok-holders.holders c.requires.copies c.in_ok-holders.ensures (c.requires.stand told)

pub check_indexes-requires-clause-servers : goal.check_indexes-requires-clause-servers
check_indexes-requires-clause-servers g c = subst (λ n. AreBelow n c.in_ok-holders.holders) (sym c.check_texts.ensures.runs.servers)
    (are_below (files_on (g.T.Site.disk c.args.site.now).files c.args.volume) (g.T.Site.servers c.args.site.now) c.args.copies.now c.in_ok-holders.holders c.requires.copies c.in_ok-holders.ensures)

pub check_indexes-requires-clause-holders : goal.check_indexes-requires-clause-holders
check_indexes-requires-clause-holders g c = λ told. subst (λ (d : Disk). AreHolders (files_on d.files c.args.volume) c.in_ok-holders.holders) (sym (c.check_texts.ensures.same told))
    (holders_are (files_on (g.T.Site.disk c.args.site.now).files c.args.volume) (g.T.Site.servers c.args.site.now) c.args.copies.now c.in_ok-holders.holders c.requires.copies c.in_ok-holders.ensures (c.requires.stand told))

pub check_lengths-requires-clause-copies : goal.check_lengths-requires-clause-copies
check_lengths-requires-clause-copies g c = subst (λ n. AreCopies n c.args.copies.now) (sym (c.check_indexes.ensures.runs.servers ∙ c.check_texts.ensures.runs.servers)) c.requires.copies

pub check_lengths-requires-clause-stand : goal.check_lengths-requires-clause-stand
check_lengths-requires-clause-stand g c = λ told. subst (λ (d : Disk). AreStanding (files_on d.files c.args.volume) c.args.copies.now) (sym (c.check_indexes.ensures.same told ∙ c.check_texts.ensures.same told)) (c.requires.stand told)

pub check_journals-requires-clause-servers : goal.check_journals-requires-clause-servers
check_journals-requires-clause-servers g c = subst (λ n. AreBelow n c.in_ok-holders.holders) (sym (c.check_lengths.ensures.runs.servers ∙ c.check_indexes.ensures.runs.servers ∙ c.check_texts.ensures.runs.servers))
    (are_below (files_on (g.T.Site.disk c.args.site.now).files c.args.volume) (g.T.Site.servers c.args.site.now) c.args.copies.now c.in_ok-holders.holders c.requires.copies c.in_ok-holders.ensures)

pub check_journals-requires-clause-holders : goal.check_journals-requires-clause-holders
check_journals-requires-clause-holders g c = λ told. subst (λ (d : Disk). AreHolders (files_on d.files c.args.volume) c.in_ok-holders.holders) (sym (c.check_lengths.ensures.same told ∙ c.check_indexes.ensures.same told ∙ c.check_texts.ensures.same told))
    (holders_are (files_on (g.T.Site.disk c.args.site.now).files c.args.volume) (g.T.Site.servers c.args.site.now) c.args.copies.now c.in_ok-holders.holders c.requires.copies c.in_ok-holders.ensures (c.requires.stand told))

pub check_journals-requires-clause-index : goal.check_journals-requires-clause-index
check_journals-requires-clause-index g c = λ told. subst (λ (d : Disk). HasIndexOf (files_on d.files c.args.volume) c.in_ok-holders.holders c.in_ok-info.info c.in_ok-index.index) (sym (c.check_lengths.ensures.same told ∙ c.check_indexes.ensures.same told)) (c.in_ok-index.ensures.index told)

pub returns-in_err-info-clause-unsound : goal.returns-in_err-info-clause-unsound
returns-in_err-info-clause-unsound g c =
    let p = err_from_is_err_and c.from_residual-in_err-info.result c.from_residual-in_err-info.ensures.1 in
    rw (p.1, p.2) (
      tells_rule c.args.volume 4 _ (inl refl) c.in_err-info.field-0.0 c.in_err-info.ensures.broken,
      λ told.
          tells_first (files_on (g.T.Site.disk c.args.site.now).files c.args.volume) c.args.volume 4 _ (λ broken. texts_fail (files_on (g.T.Site.disk c.args.site.now).files c.args.volume) (c.requires.coded told) (broken told)) c.in_err-info.field-0.0 c.in_err-info.ensures.broken,
    )

pub returns-in_err-index-clause-unsound : goal.returns-in_err-index-clause-unsound
returns-in_err-index-clause-unsound g c =
    let p = err_from_is_err_and c.from_residual-in_err-index.result c.from_residual-in_err-index.ensures.1 in
    rw (p.1, p.2) (
      tells_rule c.args.volume 5 _ (inr (inl refl)) c.in_err-index.field-0.0 c.in_err-index.ensures.broken,
      λ told.
          tells_first (files_on (g.T.Site.disk c.args.site.now).files c.args.volume) c.args.volume 5 _ (λ broken.
          index_fails (files_on (g.T.Site.disk c.args.site.now).files c.args.volume) (c.requires.coded told) c.in_ok-info.info (c.in_ok-info.ensures.texts told)
          (subst (λ (d : Disk). ¬ HasOneIndex (files_on d.files c.args.volume) c.in_ok-info.info) (c.check_texts.ensures.same told) (broken told))) c.in_err-index.field-0.0 c.in_err-index.ensures.broken,
    )

pub returns-in_err-check_lengths-clause-unsound : goal.returns-in_err-check_lengths-clause-unsound
returns-in_err-check_lengths-clause-unsound g c =
    let p = err_from_is_err_and c.from_residual-in_err-check_lengths.result c.from_residual-in_err-check_lengths.ensures.1 in
    rw (p.1, p.2) (
      tells_rule c.args.volume 6 _ (inr (inr (inl refl))) c.in_err-check_lengths.field-0.0 c.in_err-check_lengths.ensures.broken,
      λ told.
          tells_first (files_on (g.T.Site.disk c.args.site.now).files c.args.volume) c.args.volume 6 _ (λ broken.
          lengths_fail (files_on (g.T.Site.disk c.args.site.now).files c.args.volume) (c.requires.coded told) c.in_ok-info.info (c.in_ok-info.ensures.texts told)
          (subst (λ (d : Disk). HasOneIndex (files_on d.files c.args.volume) c.in_ok-info.info) (c.check_texts.ensures.same told) (c.in_ok-index.ensures.index told).one)
          (subst (λ (d : Disk). ¬ HasLengths (files_on d.files c.args.volume) c.in_ok-info.info) (c.check_indexes.ensures.same told ∙ c.check_texts.ensures.same told) (broken told))) c.in_err-check_lengths.field-0.0 c.in_err-check_lengths.ensures.broken,
    )

pub returns-in_err-deleted-clause-unsound : goal.returns-in_err-deleted-clause-unsound
returns-in_err-deleted-clause-unsound g c =
    let p = err_from_is_err_and c.from_residual-in_err-deleted.result c.from_residual-in_err-deleted.ensures.1 in
    rw (p.1, p.2) (
      tells_rule c.args.volume 8 _ (inr (inr (inr refl))) c.in_err-deleted.field-0.0 c.in_err-deleted.ensures.broken,
      λ told.
          tells_first (files_on (g.T.Site.disk c.args.site.now).files c.args.volume) c.args.volume 8 _ (λ broken.
          journal_fails (files_on (g.T.Site.disk c.args.site.now).files c.args.volume) (c.requires.coded told) c.in_ok-info.info (c.in_ok-info.ensures.texts told)
          (subst (λ (d : Disk). HasOneIndex (files_on d.files c.args.volume) c.in_ok-info.info) (c.check_texts.ensures.same told) (c.in_ok-index.ensures.index told).one)
          (subst (λ (d : Disk). HasLengths (files_on d.files c.args.volume) c.in_ok-info.info) (c.check_indexes.ensures.same told ∙ c.check_texts.ensures.same told) (c.in_ok-check_lengths.ensures.lengths told))
          (subst (λ (d : Disk). ¬ HasJournal (files_on d.files c.args.volume) c.in_ok-info.info) (c.check_lengths.ensures.same told ∙ c.check_indexes.ensures.same told ∙ c.check_texts.ensures.same told) (broken told))) c.in_err-deleted.field-0.0 c.in_err-deleted.ensures.broken,
    )

pub returns-clause-checked : goal.returns-clause-checked
returns-clause-checked g c = λ told.
    all_pass (files_on (g.T.Site.disk c.args.site.now).files c.args.volume) c.in_ok-info.info c.in_ok-deleted.deleted.items (c.in_ok-info.ensures.texts told)
    (subst (λ (d : Disk). HasOneIndex (files_on d.files c.args.volume) c.in_ok-info.info) (c.check_texts.ensures.same told) (c.in_ok-index.ensures.index told).one)
    (subst (λ (d : Disk). HasLengths (files_on d.files c.args.volume) c.in_ok-info.info) (c.check_indexes.ensures.same told ∙ c.check_texts.ensures.same told) (c.in_ok-check_lengths.ensures.lengths told))
    (subst (λ (d : Disk). HasLongest (files_on d.files c.args.volume) c.in_ok-info.info c.in_ok-deleted.deleted.items) (c.check_lengths.ensures.same told ∙ c.check_indexes.ensures.same told ∙ c.check_texts.ensures.same told) (c.in_ok-deleted.ensures.journal.1 told))

pub returns-clause-room : goal.returns-clause-room
returns-clause-room g c = c.in_ok-deleted.ensures.journal.0
