use Rattle.std.proofs.Common.{get_or, ◌≡◌, ◌<◌, ◌++◌, List, length, subst}
use Rattle.shard_table.specs.declared.moves.ShardMove.{ShardMove}
use Rattle.plan_steps.specs.Beginning.{first_states, has_after, names_of_move}
use Rattle.plan_steps.specs.Laws.Beginning.{moves_on}
use Rattle.plan_steps.proofs.plan.Plan.add_moves.Goals as goal

pub loop-count-preserved : goal.loop-count-preserved
loop-count-preserved c =
    let none : ShardMove = record { shard = 0; from = 0; to = 0 } in
    let value = c.deref-shard_move-items.ensures.value in
    moves_on c.args.self.now c.args.files.now.items c.loop-count.files.items c.add_move.new.files.items c.loop-count.count none c.has_after-has.result
    (subst (λ (ms : List ShardMove). c.loop-count.count < length ms) value c.loop-count-test.true)
    c.loop-count.invariant
    (subst (λ (ms : List ShardMove). c.has_after-has.result ≡ has_after c.args.self.now c.loop-count.count (get_or ms c.loop-count.count none).to) value c.has_after-has.ensures)
    (subst (λ (ms : List ShardMove). c.add_move.new.files.items ≡ c.loop-count.files.items ++ first_states c.args.self.now (names_of_move c.has_after-has.result (get_or ms c.loop-count.count none))) value c.in_ok-add_move.ensures)
