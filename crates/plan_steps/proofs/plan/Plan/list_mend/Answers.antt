use Rattle.std.proofs.lemmas.Result.{on_ok_weaker}
use Rattle.plan_steps.specs.Laws.Beginning.{mend_listed}
use Rattle.plan_steps.proofs.plan.Plan.list_mend.Goals as goal

pub returns : goal.returns
returns c = on_ok_weaker c.add_moves.result
    (λ moves. mend_listed c.args.self.now c.args.files.now.items c.add_servers.new.files.items c.add_shards.new.files.items c.add_moves.new.files.items c.in_ok-servers.servers.items
    c.in_ok-servers.ensures (rw c.deref.ensures.value at c.in_ok-add_servers.ensures) (rw c.deref-2.ensures.value at c.in_ok-add_shards.ensures) moves)
    c.add_moves.ensures
