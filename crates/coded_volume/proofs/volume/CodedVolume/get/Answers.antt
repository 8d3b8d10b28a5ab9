use Rattle.std.proofs.Common.{sym, ◌∙◌, ap, subst}
use Rattle.std.specs.Prelude.{IsTrue, None, Some}
use Rattle.std.proofs.lemmas.Result.{err_from_is_err_and}
use Rattle.site_model.specs.Disk.{Disk}
use Rattle.site_model.specs.Laws.Count.{calls_on_anywhere, calls_told, calls_untold}
use Rattle.shard_table.specs.Table.{row_of}
use Rattle.dat_volume.specs.declared.fault.GetFault.TheVariants as get_fault
use Rattle.degraded_read.specs.Reading.{HasPlaces}
use Rattle.coded_volume.specs.Reading.{IsLookedUp, length_by}
use Rattle.coded_volume.proofs.Answering.{is_needle, no_damage, no_difference, no_needle, not_err, told_err}
use Rattle.coded_volume.proofs.Faults.{few_since, takes_both, takes_search}
use Rattle.coded_volume.proofs.volume.CodedVolume.get.Goals as goal

pub returns-in_err-found-clause-answer : goal.returns-in_err-found-clause-answer
returns-in_err-found-clause-answer g c =
    let p = err_from_is_err_and c.from_residual.result c.from_residual.ensures.1 in
    rw (p.1, p.2) (no_difference _ c.in_err-found.ensures.fault.undamaged, λ told agrees. c.in_err-found.ensures.fault.undamaged)

pub returns-in_err-found-clause-few : goal.returns-in_err-found-clause-few
returns-in_err-found-clause-few g c =
    let p = err_from_is_err_and c.from_residual.result c.from_residual.ensures.1 in
    rw (p.1, p.2) c.in_err-found.ensures.fault.few

pub returns-in_err-found-clause-calls : goal.returns-in_err-found-clause-calls
returns-in_err-found-clause-calls g c = λ told.
    takes_search c.args.self.now (row_of c.args.table.now c.args.self.now.volume) (g.T.Site.disk c.args.site.now).files c.args.id length_by (c.look_up.ensures.calls told)

pub returns-in_err-found-clause-runs : goal.returns-in_err-found-clause-runs
returns-in_err-found-clause-runs g c =
    let p = err_from_is_err_and c.from_residual.result c.from_residual.ensures.1 in
    rw (p.1, p.2) (calls_told (λ s h. told_err c.in_err-found.field-0.0 (get_fault.Fault (record { server = s })) h) c.in_err-found.ensures.runs)

pub returns-in_default-clause-answer : goal.returns-in_default-clause-answer
returns-in_default-clause-answer g c =
    no_needle (IsTrue g.T.Site.tells) c.args.self.now (row_of c.args.table.now c.args.self.now.volume) (g.T.Site.disk c.args.site.now).files c.args.id c.requires.placed
    (subst (IsLookedUp (IsTrue g.T.Site.tells) c.args.self.now (row_of c.args.table.now c.args.self.now.volume) (g.T.Site.disk c.args.site.now).files c.args.id) c.in_default.is c.in_ok-found.ensures.found)

pub returns-in_default-clause-calls : goal.returns-in_default-clause-calls
returns-in_default-clause-calls g c = λ told.
    takes_search c.args.self.now (row_of c.args.table.now c.args.self.now.volume) (g.T.Site.disk c.args.site.now).files c.args.id length_by (c.look_up.ensures.calls told)

pub returns-in_default-clause-runs : goal.returns-in_default-clause-runs
returns-in_default-clause-runs g c = calls_told (λ s h. absurd (not_err None (get_fault.Fault (record { server = s })) h)) (calls_untold c.look_up.ensures.runs)

pub record_at-requires-clause-servers : goal.record_at-requires-clause-servers
record_at-requires-clause-servers g c = c.requires.servers ∙ sym c.look_up.ensures.runs.servers

pub record_at-requires-clause-placed : goal.record_at-requires-clause-placed
record_at-requires-clause-placed g c = λ told.
    subst (λ (d : Disk). HasPlaces d.files c.args.self.now.volume c.args.self.now.info (row_of c.args.table.now c.args.self.now.volume)) (sym (c.look_up.ensures.same told)) (c.requires.placed told)

pub returns-in_err-record-clause-answer : goal.returns-in_err-record-clause-answer
returns-in_err-record-clause-answer g c =
    let looked : IsLookedUp (IsTrue g.T.Site.tells) c.args.self.now (row_of c.args.table.now c.args.self.now.volume) (g.T.Site.disk c.args.site.now).files c.args.id (Some c.in-Some.found) =
    subst (IsLookedUp (IsTrue g.T.Site.tells) c.args.self.now (row_of c.args.table.now c.args.self.now.volume) (g.T.Site.disk c.args.site.now).files c.args.id) c.in-Some.is c.in_ok-found.ensures.found in
    let p = err_from_is_err_and c.from_residual-in_err-record.result c.from_residual-in_err-record.ensures.1 in
    rw (p.1, p.2) (no_damage (IsTrue g.T.Site.tells) c.args.self.now (row_of c.args.table.now c.args.self.now.volume) (g.T.Site.disk c.args.site.now).files c.args.id c.requires.placed c.in-Some.found looked
    (g.T.Site.disk c.look_up.new.site).files (λ told. ap (λ (d : Disk). d.files) (c.look_up.ensures.same told)) (g.T.Site.counts c.look_up.new.site) (g.T.Site.counts c.record_at.new.site) c.in_err-record.field-0.0 c.in_err-record.ensures.fault)

pub returns-in_err-record-clause-few : goal.returns-in_err-record-clause-few
returns-in_err-record-clause-few g c =
    let p = err_from_is_err_and c.from_residual-in_err-record.result c.from_residual-in_err-record.ensures.1 in
    rw (p.1, p.2) (few_since c.args.self.now (row_of c.args.table.now c.args.self.now.volume) (g.T.Site.counts c.args.site.now) (g.T.Site.counts c.look_up.new.site) (g.T.Site.counts c.record_at.new.site) c.in_err-record.field-0.0
    c.look_up.ensures.runs.later c.in_err-record.ensures.fault.few)

pub returns-in_err-record-clause-same : goal.returns-in_err-record-clause-same
returns-in_err-record-clause-same g c = λ told. c.record_at.ensures.same told ∙ c.look_up.ensures.same told

pub returns-in_err-record-clause-calls : goal.returns-in_err-record-clause-calls
returns-in_err-record-clause-calls g c = λ told.
    let looked : IsLookedUp (IsTrue g.T.Site.tells) c.args.self.now (row_of c.args.table.now c.args.self.now.volume) (g.T.Site.disk c.args.site.now).files c.args.id (Some c.in-Some.found) =
    subst (IsLookedUp (IsTrue g.T.Site.tells) c.args.self.now (row_of c.args.table.now c.args.self.now.volume) (g.T.Site.disk c.args.site.now).files c.args.id) c.in-Some.is c.in_ok-found.ensures.found in
    takes_both c.args.self.now (row_of c.args.table.now c.args.self.now.volume) (g.T.Site.disk c.args.site.now).files c.args.id length_by (c.look_up.ensures.calls told) c.in-Some.found looked.0 (looked.1 told) c.record_at.ensures.calls

pub returns-in_err-record-clause-runs : goal.returns-in_err-record-clause-runs
returns-in_err-record-clause-runs g c =
    let p = err_from_is_err_and c.from_residual-in_err-record.result c.from_residual-in_err-record.ensures.1 in
    rw (p.1, p.2) (calls_told (λ s h. told_err c.in_err-record.field-0.0 (get_fault.Fault (record { server = s })) h) (calls_on_anywhere c.look_up.ensures.runs c.in_err-record.ensures.runs))

pub returns-clause-answer : goal.returns-clause-answer
returns-clause-answer g c =
    let looked : IsLookedUp (IsTrue g.T.Site.tells) c.args.self.now (row_of c.args.table.now c.args.self.now.volume) (g.T.Site.disk c.args.site.now).files c.args.id (Some c.in-Some.found) =
    subst (IsLookedUp (IsTrue g.T.Site.tells) c.args.self.now (row_of c.args.table.now c.args.self.now.volume) (g.T.Site.disk c.args.site.now).files c.args.id) c.in-Some.is c.in_ok-found.ensures.found in
    is_needle (IsTrue g.T.Site.tells) c.args.self.now (row_of c.args.table.now c.args.self.now.volume) (g.T.Site.disk c.args.site.now).files c.args.id c.requires.placed c.in-Some.found looked
    (g.T.Site.disk c.look_up.new.site).files (λ told. ap (λ (d : Disk). d.files) (c.look_up.ensures.same told)) c.in_ok-record.record c.in_ok-record.ensures.read

pub returns-clause-same : goal.returns-clause-same
returns-clause-same g c = λ told. c.record_at.ensures.same told ∙ c.look_up.ensures.same told

pub returns-clause-calls : goal.returns-clause-calls
returns-clause-calls g c = λ told.
    let looked : IsLookedUp (IsTrue g.T.Site.tells) c.args.self.now (row_of c.args.table.now c.args.self.now.volume) (g.T.Site.disk c.args.site.now).files c.args.id (Some c.in-Some.found) =
    subst (IsLookedUp (IsTrue g.T.Site.tells) c.args.self.now (row_of c.args.table.now c.args.self.now.volume) (g.T.Site.disk c.args.site.now).files c.args.id) c.in-Some.is c.in_ok-found.ensures.found in
    takes_both c.args.self.now (row_of c.args.table.now c.args.self.now.volume) (g.T.Site.disk c.args.site.now).files c.args.id length_by (c.look_up.ensures.calls told) c.in-Some.found looked.0 (looked.1 told) c.record_at.ensures.calls

pub returns-clause-runs : goal.returns-clause-runs
returns-clause-runs g c = calls_told (λ s h. absurd (not_err (Some c.in_ok-record.record) (get_fault.Fault (record { server = s })) h)) (calls_untold (calls_on_anywhere c.look_up.ensures.runs c.record_at.ensures.runs))
