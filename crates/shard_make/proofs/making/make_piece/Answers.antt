use Rattle.std.proofs.Common.{◌≡◌, ℕ, ◌+◌, ◌*◌, ◌^◌, ◌<◌, ◌≤◌, List, length, take, sym, ◌∙◌, ap, subst, length-take, arith}
use Rattle.std.proofs.Math.Nat.{mul-le-mul_left}
use Rattle.site_model.specs.Counts.{widest_piece}
use Rattle.world_model.specs.declared.types.Ratio.{Ratio}
use Rattle.world_model.specs.Ratios.{data_count}
use Rattle.shard_make.specs.Made.{count_of}
use Rattle.shard_make.proofs.Fetched.{on_ok}
use Rattle.shard_make.proofs.Located.{row_ends}
use Rattle.shard_make.proofs.Pieces.{made_is}
use Rattle.shard_make.proofs.making.make_piece.Goals as goal

-- how long a front of a long enough buffer is
front_long : (buffer : List ℕ) (all count size width : ℕ) → all ≡ count * size → size ≤ width → count * width ≤ length buffer → length (take all buffer) ≡ count * size
front_long buffer all count size width same narrow room = omega (arith, length-take all buffer, same, mul-le-mul_left count narrow, room)

pub make_in-requires-clause-range : goal.make_in-requires-clause-range
make_in-requires-clause-range g c =
    let place = c.pieces_of_row-pieces.ensures in
    let ends = row_ends c.args.geometry c.args.dat_size c.args.row c.args.at c.requires.geometry c.requires.size c.requires.row c.requires.at in
    let all : c.pieces_of_row-pieces.result.from + data_count c.args.geometry.ratio * c.pieces_of_row-pieces.result.apart < 2 ^ 63 =
    subst (λ n. n < 2 ^ 63) (sym (λ i. place.from i + data_count c.args.geometry.ratio * place.apart i)) ends in
    subst (λ (r : Ratio). c.pieces_of_row-pieces.result.from + data_count r * c.pieces_of_row-pieces.result.apart < 2 ^ 63) c.requires.ratio all

pub returns-clause-done : goal.returns-clause-done
returns-clause-done g c =
    let place = c.pieces_of_row-pieces.ensures in
    let all : ℕ = c.from.result * c.pieces_of_row-pieces.result.size in
    let count : c.from.result * c.pieces_of_row-pieces.result.size ≡ count_of c.args.names.now * c.pieces_of_row-pieces.result.size = ap (λ n. n * c.pieces_of_row-pieces.result.size) (c.from.ensures ∙ c.shard_count.ensures) in
    let narrow : c.pieces_of_row-pieces.result.size ≤ widest_piece = omega (arith, place.size) in
    let long : length c.make_in.new.room ≡ count_of c.args.names.now * c.pieces_of_row-pieces.result.size =
    c.make_in.auto.room ∙ front_long c.args.buffer.now all (count_of c.args.names.now) c.pieces_of_row-pieces.result.size widest_piece count narrow c.requires.buffer in
    on_ok c.make_in.result
    (λ made told.
    made_is c.args.names.now c.args.geometry c.args.dat_size c.args.row c.args.at c.pieces_of_row-pieces.result.from c.pieces_of_row-pieces.result.apart c.pieces_of_row-pieces.result.size c.make_in.new.room
    (g.T.Site.disk c.args.site.now) (g.T.Site.disk c.make_in.new.site) c.requires.geometry c.requires.ratio (c.requires.dat told) c.requires.row c.requires.at place.from place.apart place.size long (made told))
    c.make_in.ensures.done
