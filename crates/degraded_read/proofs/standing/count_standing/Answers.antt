use Rattle.std.proofs.Common.{◌≡◌, ◌≤◌, Bool, true, false, None, is_some, refl, ◌∙◌, ap, arith}
use Rattle.std.specs.Prelude.{if◌then◌else◌, slice_index_or}
use mir.Val.{bool_byte}
use Rattle.degraded_read.specs.Gathering.{reads_of, stands_in}
use Rattle.degraded_read.proofs.Steps.{standing_next}
use Rattle.degraded_read.proofs.standing.count_standing.Goals as goal

one_if : (b : Bool) → bool_byte b ≡ (if b then 1 else 0)
one_if true = refl
one_if false = refl

at_most : (b : Bool) → (if b then 1 else 0) ≤ 1
at_most true = omega arith
at_most false = omega arith

pub loop-shard-preserved : goal.loop-shard-preserved
loop-shard-preserved c =
    let row = c.args.places.now in
    let there = c.is_some.ensures ∙ ap (λ j. is_some (slice_index_or row j None)) c.from.ensures in
    let one : c.from-count.result ≡ reads_of c.args.places.now c.loop-shard.shard = c.from-count.ensures ∙ one_if c.is_some.result ∙ ap (λ (b : Bool). if b then 1 else 0) there in
    record {
      count = omega (arith, c.loop-shard.invariant.count, one, standing_next row c.loop-shard.shard);
      few = omega (arith, c.loop-shard.invariant.few, one, at_most (stands_in row c.loop-shard.shard));
    }
