use Rattle.std.proofs.Common.{arith, below_more, rules}
use Rattle.rs_code.specs.Shards.{shards_from_apart, apart_from_shards}
use Rattle.rs_code.proofs.Repeats.{apart_here, found_in_shards}
use Rattle.rs_code.proofs.differ_below.Goals as goal
use Rattle.rs_code.proofs.differ_below.Goals.{then-from-count-via-then-from-count, then-from-count-via-else-from-count+then-contains}

pub returns-then-from-count : goal.returns-then-from-count
returns-then-from-count c = (
  (λ no. absurd (search rules)),
  λ shards. elim c.then-from-count.branch [
    | then-from-count-via-then-from-count w ↦
        let here = apart_from_shards c.args.count c.args.numbers.now shards c.loop-i.i c.loop-i-test.true in
        absurd (omega (arith, here.below, w.if-from-count.true, c.from.ensures))
    | then-from-count-via-else-from-count+then-contains w ↦
        let none = found_in_shards c.args.count c.args.numbers.now c.loop-i.i w.contains.result shards c.loop-i-test.true w.contains.ensures.value in
        let some = w.if-contains.true in
        absurd cc
  ],
)

pub loop-i-preserved : goal.loop-i-preserved
loop-i-preserved c =
    below_more _ _ c.loop-i.invariant
    (apart_here c.args.count c.args.numbers.now c.loop-i.i c.contains.result (omega (arith, c.from.ensures, c.if-from-count.false)) c.contains.ensures.value c.if-contains.false)

pub returns : goal.returns
returns c = ((λ yes. shards_from_apart c.args.count c.args.numbers.now (λ i h. c.loop-i.invariant i (omega arith))), λ shards. search rules)
