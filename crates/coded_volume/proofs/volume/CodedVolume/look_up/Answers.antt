use Rattle.std.proofs.Common.{◌≡◌, false, sym, ◌∙◌, ap}
use Rattle.std.specs.Prelude.{nat_eq}
use Rattle.std.specs.List.{list_any}
use Rattle.shard_table.specs.Table.{row_of}
use Rattle.coded_volume.specs.Reading.{is_deleted}
use Rattle.coded_volume.proofs.Answering.{takes_look_up}
use Rattle.coded_volume.proofs.volume.CodedVolume.look_up.Goals as goal

pub returns-in-Ok-clause-calls : goal.returns-in-Ok-clause-calls
returns-in-Ok-clause-calls g c = λ told.
    let kept : is_deleted c.args.self.now c.args.id ≡ false = sym (ap (list_any (λ other. nat_eq other c.args.id)) c.deref.ensures.value) ∙ sym c.contains.ensures.value ∙ c.if-contains.false in
    takes_look_up c.args.self.now (row_of c.args.table.now c.args.self.now.volume) (g.T.Site.disk c.args.site.now).files c.args.id c.shard_count-shards.result c.deref-2.result.now
    c.shard_count-shards.ensures (c.deref-2.ensures ∙ c.in_ok-index.ensures) kept (c.find_anywhere.ensures.calls told)

pub returns-clause-calls : goal.returns-clause-calls
returns-clause-calls g c = λ told.
    let kept : is_deleted c.args.self.now c.args.id ≡ false = sym (ap (list_any (λ other. nat_eq other c.args.id)) c.deref.ensures.value) ∙ sym c.contains.ensures.value ∙ c.if-contains.false in
    takes_look_up c.args.self.now (row_of c.args.table.now c.args.self.now.volume) (g.T.Site.disk c.args.site.now).files c.args.id c.shard_count-shards.result c.deref-2.result.now
    c.shard_count-shards.ensures (c.deref-2.ensures ∙ c.in_ok-index.ensures) kept (c.find_anywhere.ensures.calls told)
