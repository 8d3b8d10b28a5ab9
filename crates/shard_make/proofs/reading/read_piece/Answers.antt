use Rattle.std.proofs.Common.{◌≡◌, ℕ, List, ◌++◌, ◌+◌, ◌-◌, ◌*◌, ◌<◌, ◌≤◌, length, take, drop, ◌∙◌, ap, length-take, length-drop, arith}
use Rattle.std.specs.Prelude.{slice_index}
use Rattle.std.proofs.lemmas.List.{get_or_append_left, get_or-take}
use Rattle.std.proofs.Math.Nat.{mul-le-mul_right}
use Rattle.world_model.specs.Ratios.{data_count}
use Rattle.shard_make.specs.Made.{dat_in}
use Rattle.shard_make.proofs.Fetched.{at_middle}
use Rattle.shard_make.proofs.reading.read_piece.Goals as goal

pub returns-in-Ok-clause-piece : goal.returns-in-Ok-clause-piece
returns-in-Ok-clause-piece g c =
    let size = c.args.row.size in
    let room = c.args.room.now in
    let from = c.from-2.result * c.args.row.size in
    let place : c.from-2.result * c.args.row.size ≡ c.args.shard * c.args.row.size = ap (λ m. m * c.args.row.size) c.from-2.ensures in
    let next : c.args.shard + 1 ≤ data_count c.args.names.now.ratio = omega (arith, c.requires.shard) in
    let fits : c.args.shard * c.args.row.size + c.args.row.size ≤ length c.args.room.now = omega (arith, mul-le-mul_right c.args.row.size next, c.requires.room) in
    let long : length (take (c.from-2.result * c.args.row.size) c.args.room.now) ≡ c.args.shard * c.args.row.size = omega (arith, length-take from room, place, fits) in
    let wide : length (take (c.from-2.result * c.args.row.size + c.args.row.size - c.from-2.result * c.args.row.size) (drop (c.from-2.result * c.args.row.size) c.args.room.now)) ≡ c.args.row.size =
    omega (arith, length-take (from + size - from) (drop from room), length-drop from room, place, fits) in
    λ told j h.
    at_middle (take from room) c.fill.new.out _ (c.args.shard * c.args.row.size) j long (omega (arith, h, wide, c.fill.auto.out))
    ∙ c.in-Ok.ensures.bytes told j (omega (arith, h, wide))
    ∙ ap (λ m. slice_index (dat_in c.args.names.now (g.T.Site.disk c.args.site.now).files) (c.args.row.from + m * c.args.row.apart + j)) c.from.ensures

-- what stands before the piece
before_it : (room out rest : List ℕ) (from shard size width : ℕ) → from ≡ shard * size → shard + 1 ≤ width → width * size ≤ length room
    → (j : ℕ) → j < shard * size → slice_index (take from room ++ (out ++ rest)) j ≡ slice_index room j
before_it room out rest from shard size width place next fits j h =
    let long : length (take from room) ≡ shard * size = omega (arith, length-take from room, place, fits, mul-le-mul_right size next) in
    get_or_append_left (take from room) (out ++ rest) 0 j (omega (arith, h, long)) ∙ get_or-take from room j 0 (omega (arith, h, place))

pub returns-in-Ok-clause-before : goal.returns-in-Ok-clause-before
returns-in-Ok-clause-before g c j h =
    before_it c.args.room.now c.fill.new.out _ (c.from-2.result * c.args.row.size) c.args.shard c.args.row.size (data_count c.args.names.now.ratio) (ap (λ m. m * c.args.row.size) c.from-2.ensures)
    (omega (arith, c.requires.shard)) c.requires.room j h

pub returns-in-Err-clause-before : goal.returns-in-Err-clause-before
returns-in-Err-clause-before g c j h =
    before_it c.args.room.now c.fill.new.out _ (c.from-2.result * c.args.row.size) c.args.shard c.args.row.size (data_count c.args.names.now.ratio) (ap (λ m. m * c.args.row.size) c.from-2.ensures)
    (omega (arith, c.requires.shard)) c.requires.room j h
