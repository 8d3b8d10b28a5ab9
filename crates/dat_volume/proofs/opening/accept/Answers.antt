use Rattle.std.proofs.Common.{inl, true, refl, sym, ◌∙◌, ap}
use Rattle.std.specs.Option.{option_map_or}
use Rattle.std.proofs.lemmas.Bool.{MatchBool-at_true, MatchBool-at_false}
use Rattle.site_model.specs.Disk.{Disk, bytes_of}
use Rattle.dat_volume.specs.Opening.{has_record, last_counts}
use Rattle.dat_volume.specs.Laws.Opening.{PassesEntries}
use Rattle.dat_volume.specs.Scanning.{FailsEntries}
use Rattle.dat_volume.proofs.Accepting.{accept_all, accept_fewer, accept_none}
use Rattle.dat_volume.proofs.opening.accept.Goals as goal

pub returns-then-not-branch-clause-kept : goal.returns-then-not-branch-clause-kept
returns-then-not-branch-clause-kept g c = λ told es has.
    let dat = bytes_of ((g.T.Site.disk c.args.site.now).files (c.args.server, c.args.dat.now)) in
    inl (MatchBool-at_false (PassesEntries dat es) (FailsEntries dat es) c.if-not-branch.true (c.in_ok-passes_entries.ensures.passes told es has))

pub returns-then-branch-clause-kept : goal.returns-then-branch-clause-kept
returns-then-branch-clause-kept g c = λ told es has.
    let dat = bytes_of ((g.T.Site.disk c.args.site.now).files (c.args.server, c.args.dat.now)) in
    let counts = sym (ap (λ (d : Disk). last_counts (bytes_of (d.files (c.args.server, c.args.dat.now))) es) (c.passes_entries.ensures.same told)) ∙ sym (c.in_ok-last_counts.ensures.counts told es has) ∙ c.if-branch.true in
    accept_all dat es c.args.chain has (record { count = c.args.chain.count; end = c.end_behind.result }) (MatchBool-at_true (PassesEntries dat es) (FailsEntries dat es) c.if-not-branch.false (c.in_ok-passes_entries.ensures.passes told es has)) counts refl c.end_behind.ensures

pub returns-then-not-branch-2-clause-kept : goal.returns-then-not-branch-2-clause-kept
returns-then-not-branch-2-clause-kept g c = λ told es has.
    let dat = bytes_of ((g.T.Site.disk c.args.site.now).files (c.args.server, c.args.dat.now)) in
    let counts = sym (ap (λ (d : Disk). last_counts (bytes_of (d.files (c.args.server, c.args.dat.now))) es) (c.passes_entries.ensures.same told)) ∙ sym (c.in_ok-last_counts.ensures.counts told es has) ∙ c.if-branch.false in
    let without = sym (ap (λ (d : Disk). option_map_or (has_record (bytes_of (d.files (c.args.server, c.args.dat.now)))) c.args.chain.earlier true) (c.last_counts.ensures.same told ∙ c.passes_entries.ensures.same told)) ∙ sym (c.in_ok-has_record_if_any.ensures.has told) ∙ c.if-not-branch-2.true in
    accept_none dat es c.args.chain has counts without

pub returns-clause-kept : goal.returns-clause-kept
returns-clause-kept g c = λ told es has.
    let dat = bytes_of ((g.T.Site.disk c.args.site.now).files (c.args.server, c.args.dat.now)) in
    let counts = sym (ap (λ (d : Disk). last_counts (bytes_of (d.files (c.args.server, c.args.dat.now))) es) (c.passes_entries.ensures.same told)) ∙ sym (c.in_ok-last_counts.ensures.counts told es has) ∙ c.if-branch.false in
    let earlier = sym (ap (λ (d : Disk). option_map_or (has_record (bytes_of (d.files (c.args.server, c.args.dat.now)))) c.args.chain.earlier true) (c.last_counts.ensures.same told ∙ c.passes_entries.ensures.same told)) ∙ sym (c.in_ok-has_record_if_any.ensures.has told) ∙ c.if-not-branch-2.false in
    accept_fewer dat es c.args.chain has counts (record { count = c.saturating_sub.result; end = c.end_behind-2.result }) (MatchBool-at_true (PassesEntries dat es) (FailsEntries dat es) c.if-not-branch.false (c.in_ok-passes_entries.ensures.passes told es has)) earlier c.saturating_sub.ensures c.end_behind-2.ensures
