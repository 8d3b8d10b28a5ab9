use Rattle.std.proofs.Common.{◌<◌, ◌≤◌, ◌∙◌, length, get_or, ap, arith}
use Rattle.site_mem.proofs.Replaying.{so_far_none, so_far_more, so_far_end, so_far_all}
use Rattle.site_mem.proofs.history.History.contents_at.Goals as goal

pub loop-entry-init : goal.loop-entry-init
loop-entry-init c = so_far_none _ _ _ c.new-contents.result c.new-contents.ensures.files c.new-contents.ensures.said

pub loop-entry-preserved : goal.loop-entry-preserved
loop-entry-preserved c =
    let all = c.deref-entry-items.ensures.value in
    let i = c.loop-entry.entry-index in
    let within : i < length c.args.self.now.entries.items = omega (arith, ap length all) in
    so_far_more c.args.number i c.args.self.now.entries.items c.args.self.now.lost.since c.entry-item.result within (c.entry-item.is ∙ ap (λ l. get_or l i c.entry-item.result) all)
    c.loop-entry.contents c.replay.new.contents c.if-number-entry.false c.loop-entry.invariant c.in_ok-replay.ensures

pub returns-then-number-entry : goal.returns-then-number-entry
returns-then-number-entry c =
    let all = c.deref-entry-items.ensures.value in
    let i = c.loop-entry.entry-index in
    let within : i < length c.args.self.now.entries.items = omega (arith, ap length all) in
    so_far_end c.args.number i c.args.self.now.entries.items c.args.self.now.lost.since c.entry-item.result within (c.entry-item.is ∙ ap (λ l. get_or l i c.entry-item.result) all)
    c.loop-entry.contents c.lose_by.new.self c.if-number-entry.true c.loop-entry.invariant c.lose_by.ensures.files c.lose_by.ensures.said

pub returns : goal.returns
returns c =
    let all : length c.args.self.now.entries.items ≤ c.loop-entry.entry-index = omega (arith, ap length c.deref-entry-items.ensures.value) in
    so_far_all c.args.number c.loop-entry.entry-index c.args.self.now.entries.items c.args.self.now.lost.since c.loop-entry.contents c.lose_by-2.new.self all c.loop-entry.invariant c.lose_by-2.ensures.files c.lose_by-2.ensures.said
