use Rattle.std.proofs.Common.{ℕ, ◌∙◌, ap}
use Rattle.std.specs.Prelude.{Vec}
use Rattle.std.specs.declared.alloc.Global.{Global}
use Rattle.coded_volume.specs.declared.checking.ShardCopy.{ShardCopy}
use Rattle.coded_volume.proofs.Standing.{servers_then, servers_else}
use Rattle.coded_volume.proofs.checking.holders.holders_of.Goals as goal
use Rattle.coded_volume.proofs.checking.holders.holders_of.Goals.{then-copy-last+in_ok-push, else-copy-last}

pub loop-copy-preserved : goal.loop-copy-preserved
loop-copy-preserved c =
    let d : ShardCopy = record { server = 0; shard = 0 } in
    elim c.if-copy-last.branch [
      | then-copy-last+in_ok-push w ↦ servers_then c.args.copies.now c.loop-copy.copy-index _ c.loop-copy.last c.loop-copy.others.items d c.loop-copy-test.true c.loop-copy.invariant c.if-copy-last.last c.if-copy-last.others.items w.last-is (ap (λ (v : Vec ℕ Global). v.items) w.others-is ∙ w.in_ok-push.ensures.items)
      | else-copy-last w ↦ servers_else c.args.copies.now c.loop-copy.copy-index _ c.loop-copy.last c.loop-copy.others.items d c.loop-copy-test.true c.loop-copy.invariant c.if-copy-last.last c.if-copy-last.others.items w.if-copy-last.false w.last-is (ap (λ (v : Vec ℕ Global). v.items) w.others-is)
    ]
