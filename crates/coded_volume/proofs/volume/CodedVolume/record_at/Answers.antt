use Rattle.std.proofs.Common.{length, subst, ◌∙◌}
use Rattle.std.specs.Prelude.{IsTrue}
use Rattle.shard_table.specs.Table.{row_of}
use Rattle.dat_volume.proofs.Faults.{given_fault}
use Rattle.dat_volume.proofs.Heads.{head_whole, own_bytes, own_length}
use Rattle.coded_volume.specs.Agrees.{own_dat}
use Rattle.coded_volume.specs.Reading.{IsFront, length_by}
use Rattle.coded_volume.proofs.Faults.{other_record}
use Rattle.coded_volume.proofs.volume.CodedVolume.record_at.Goals as goal

pub damage-requires : goal.damage-requires
damage-requires g c =
    let front = c.in_ok-bytes.ensures.front in
    given_fault c.in_ok-bytes.bytes.items c.in-Err.fault
    (head_whole c.in_ok-bytes.bytes.items c.args.entry front.header (front.long ∙ c.place_of-length.ensures.length))
    c.in-Err.ensures.exact

pub returns-in-Ok-clause-read : goal.returns-in-Ok-clause-read
returns-in-Ok-clause-read g c = λ told agrees.
    let front : IsFront (IsTrue g.T.Site.tells) c.args.self.now (g.T.Site.disk c.args.site.now).files c.args.entry (length_by c.args.entry) c.in_ok-bytes.bytes.items =
    subst (λ n. IsFront (IsTrue g.T.Site.tells) c.args.self.now (g.T.Site.disk c.args.site.now).files c.args.entry n c.in_ok-bytes.bytes.items) c.place_of-length.ensures.length c.in_ok-bytes.ensures.front in
    own_bytes (own_dat c.args.self.now (g.T.Site.disk c.args.site.now).files) c.in_ok-bytes.bytes.items c.args.entry front.header front.long (front.same told agrees)
    ∙ own_length c.in_ok-bytes.bytes.items c.in-Ok.record c.in-Ok.field-0-1 c.in-Ok.ensures.exact

pub returns-in-Err-clause-fault : goal.returns-in-Err-clause-fault
returns-in-Err-clause-fault g c =
    let front : IsFront (IsTrue g.T.Site.tells) c.args.self.now (g.T.Site.disk c.args.site.now).files c.args.entry (length_by c.args.entry) c.in_ok-bytes.bytes.items =
    subst (λ n. IsFront (IsTrue g.T.Site.tells) c.args.self.now (g.T.Site.disk c.args.site.now).files c.args.entry n c.in_ok-bytes.bytes.items) c.place_of-length.ensures.length c.in_ok-bytes.ensures.front in
    other_record (IsTrue g.T.Site.tells) c.args.self.now (row_of c.args.table.now c.args.self.now.volume) (g.T.Site.disk c.args.site.now).files c.args.entry (g.T.Site.counts c.args.site.now) (g.T.Site.counts c.front_at.new.site)
    c.damage.result c.in_ok-bytes.bytes.items c.in-Err.fault front c.in-Err.ensures.exact c.damage.ensures.told c.damage.ensures.differ
