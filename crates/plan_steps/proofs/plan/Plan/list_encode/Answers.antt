use Rattle.std.proofs.lemmas.Result.{on_ok_weaker}
use Rattle.plan_steps.specs.Laws.Beginning.{encode_listed}
use Rattle.plan_steps.proofs.plan.Plan.list_encode.Goals as goal

pub returns : goal.returns
returns c = on_ok_weaker c.add_kinds.result
    (λ ends. encode_listed c.args.self.now c.args.files.now.items c.add_servers.new.files.items c.add_servers-2.new.files.items c.add_shards.new.files.items c.in_ok-servers.servers.items c.add_kinds.new.files.items
    c.in_ok-servers.ensures (rw c.deref.ensures.value at c.in_ok-add_servers.ensures) (rw c.deref-2.ensures.value at c.in_ok-add_servers-2.ensures) (rw c.deref-3.ensures.value at c.in_ok-add_shards.ensures) ends)
    c.add_kinds.ensures
