use Rattle.std.proofs.Common.{◌≡◌, ◌+◌, ◌*◌, length, sym, ◌∙◌, ap, subst}
use Rattle.std.specs.Prelude.{IsTrue}
use Rattle.std.proofs.lemmas.Result.{err_from_is_err_and}
use Rattle.shard_table.specs.Table.{row_of}
use Rattle.degraded_read.specs.Reading.{HasPlaces, NoneRose}
use Rattle.degraded_read.specs.Ranges.{GivesRange}
use Rattle.coded_volume.specs.Reading.{IsFront}
use Rattle.coded_volume.proofs.Faults.{front_is, other_header, past_end, read_same, taken_back}
use Rattle.coded_volume.proofs.volume.CodedVolume.front_at.Goals as goal

pub returns-in_err-check_end-clause-fault : goal.returns-in_err-check_end-clause-fault
returns-in_err-check_end-clause-fault g c =
    let p = err_from_is_err_and c.from_residual.result c.from_residual.ensures.1 in
    rw (p.1, p.2) (past_end (IsTrue g.T.Site.tells) c.args.self.now (row_of c.args.table.now c.args.self.now.volume) (g.T.Site.disk c.args.site.now).files c.args.entry _ _ c.in_err-check_end.field-0.0
    (c.place_of-place.result.at + c.place_of-place.result.length) (ap (λ n. n + c.place_of-place.result.length) c.place_of-place.ensures.at ∙ ap (λ n. 8 * c.args.entry.offset + n) c.place_of-place.ensures.length)
    c.in_err-check_end.ensures.told.0 c.in_err-check_end.ensures.told.1)

pub read_range-read-requires-clause-placed : goal.read_range-read-requires-clause-placed
read_range-read-requires-clause-placed g c = λ told.
    subst (λ v. HasPlaces (g.T.Site.disk c.args.site.now).files v c.args.self.now.info (row_of c.args.table.now v)) (sym c.in_ok-reader.ensures.volume) (c.requires.placed told)

pub returns-in_err-check_header-clause-fault : goal.returns-in_err-check_header-clause-fault
returns-in_err-check_header-clause-fault g c =
    let out = c.read_range-read.new.out in
    let calm = NoneRose (g.T.Site.counts c.args.site.now) (g.T.Site.counts c.read_range-read.new.site) in
    let given : IsTrue g.T.Site.tells → GivesRange (g.T.Site.disk c.args.site.now).files c.args.self.now.volume c.args.self.now.info (row_of c.args.table.now c.args.self.now.volume) calm c.place_of-place.result.at out =
    λ told. subst (λ v. GivesRange (g.T.Site.disk c.args.site.now).files v c.args.self.now.info (row_of c.args.table.now v) calm c.place_of-place.result.at out) c.in_ok-reader.ensures.volume (c.in_default.ensures.range told) in
    let long : length out ≡ length c.in_ok-bytes.bytes.items = c.read_range-read.auto.out ∙ ap length c.deref_mut.ensures.value in
    let read : c.deref.result.now ≡ out = c.deref.ensures.value ∙ taken_back c.in_ok-bytes.bytes.len out c.in_ok-bytes.bytes.items long c.in_ok-bytes.bytes.ok.0 in
    let p = err_from_is_err_and c.from_residual-in_err-check_header.result c.from_residual-in_err-check_header.ensures.1 in
    rw (p.1, p.2) (other_header (IsTrue g.T.Site.tells) c.args.self.now (row_of c.args.table.now c.args.self.now.volume) (g.T.Site.disk c.args.site.now).files c.args.entry (g.T.Site.counts c.args.site.now) (g.T.Site.counts c.read_range-read.new.site)
    c.in_err-check_header.field-0.0 c.deref.result.now c.args.count c.requires.header
    (read_same (IsTrue g.T.Site.tells) c.args.self.now (row_of c.args.table.now c.args.self.now.volume) calm (g.T.Site.disk c.args.site.now).files c.args.entry c.args.count c.place_of-place.result.at c.deref.result.now out
    c.place_of-place.ensures.at read (long ∙ c.in_ok-bytes.ensures) given)
    c.in_err-check_header.ensures.told c.in_err-check_header.ensures.differ)

pub returns-clause-front : goal.returns-clause-front
returns-clause-front g c =
    let out = c.read_range-read.new.out in
    let calm = NoneRose (g.T.Site.counts c.args.site.now) (g.T.Site.counts c.read_range-read.new.site) in
    let given : IsTrue g.T.Site.tells → GivesRange (g.T.Site.disk c.args.site.now).files c.args.self.now.volume c.args.self.now.info (row_of c.args.table.now c.args.self.now.volume) calm c.place_of-place.result.at out =
    λ told. subst (λ v. GivesRange (g.T.Site.disk c.args.site.now).files v c.args.self.now.info (row_of c.args.table.now v) calm c.place_of-place.result.at out) c.in_ok-reader.ensures.volume (c.in_default.ensures.range told) in
    let long : length out ≡ length c.in_ok-bytes.bytes.items = c.read_range-read.auto.out ∙ ap length c.deref_mut.ensures.value in
    let read : c.deref.result.now ≡ out = c.deref.ensures.value ∙ taken_back c.in_ok-bytes.bytes.len out c.in_ok-bytes.bytes.items long c.in_ok-bytes.bytes.ok.0 in
    subst (IsFront (IsTrue g.T.Site.tells) c.args.self.now (g.T.Site.disk c.args.site.now).files c.args.entry c.args.count) c.deref.ensures.value
    (front_is (IsTrue g.T.Site.tells) c.args.self.now (row_of c.args.table.now c.args.self.now.volume) calm (g.T.Site.disk c.args.site.now).files c.args.entry c.args.count c.place_of-place.result.at c.deref.result.now out
    c.place_of-place.ensures.at read (long ∙ c.in_ok-bytes.ensures) c.in_ok-check_header.ensures.ok given)
