use Rattle.std.proofs.lemmas.Result.{on_ok_weaker}
use Rattle.plan_steps.specs.Laws.Beginning.{decode_listed}
use Rattle.plan_steps.proofs.plan.Plan.list_decode.Goals as goal

pub returns : goal.returns
returns c = on_ok_weaker c.add_servers.result
    (λ left. decode_listed c.args.self.now c.args.files.now.items c.add_kinds.new.files.items c.add_shards.new.files.items c.add_servers.new.files.items c.in_ok-servers.servers.items
    c.in_ok-servers.ensures c.in_ok-add_kinds.ensures (rw c.deref.ensures.value at c.in_ok-add_shards.ensures) (rw c.deref-2.ensures.value at left))
    c.add_servers.ensures
