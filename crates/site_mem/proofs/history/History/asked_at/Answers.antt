use Rattle.std.proofs.Common.{◌<◌, ◌∙◌, length, get_or, ap, arith}
use Rattle.site_mem.proofs.Replaying.{call_more}
use Rattle.site_mem.proofs.history.History.asked_at.Goals as goal

pub loop-entry-preserved : goal.loop-entry-preserved
loop-entry-preserved c =
    let all = c.deref-entry-items.ensures.value in
    let i = c.loop-entry.entry-index in
    let within : i < length c.args.self.now.entries.items = omega (arith, ap length all) in
    call_more c.args.number i c.args.self.now.entries.items c.args.self.now.lost.since c.entry-item.result within (c.entry-item.is ∙ ap (λ l. get_or l i c.entry-item.result) all) c.if-number-entry.false c.loop-entry.invariant
