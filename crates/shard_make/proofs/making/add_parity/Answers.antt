use Rattle.std.proofs.Common.{◌≡◌, ◌*◌, ◌<◌, length, ◌∙◌, ap, arith}
use Rattle.world_model.specs.declared.types.Ratio.{Ratio}
use Rattle.world_model.specs.declared.types.Ratio.TheVariants.{ThreeTwo, SixThree, TenFour, TwelveFour}
use Rattle.world_model.specs.Ratios.{data_count, parity_count}
use Rattle.shard_make.proofs.Coded.{columns_are}
use Rattle.shard_make.proofs.making.add_parity.Goals as goal

some_parity : (r : Ratio) → 0 < parity_count r
some_parity ThreeTwo = omega arith
some_parity SixThree = omega arith
some_parity TenFour = omega arith
some_parity TwelveFour = omega arith

pub returns-clause-columns : goal.returns-clause-columns
returns-clause-columns c =
    let k = data_count c.args.ratio in
    let m = parity_count c.args.ratio in
    let front : c.from.result * c.args.size ≡ data_count c.args.ratio * c.args.size = ap (λ n. n * c.args.size) (c.from.ensures ∙ c.data_count.ensures) in
    let first : length c.split_at_mut-source.result.0.now ≡ data_count c.args.ratio * c.args.size = c.split_at_mut-source.ensures.front_len ∙ front in
    let second : length c.encode_piece.new.parity ≡ parity_count c.args.ratio * c.args.size = omega (arith, c.encode_piece.auto.parity, c.split_at_mut-source.ensures.back_len, front, c.requires) in
    columns_are k m c.args.size c.split_at_mut-source.result.0.now c.encode_piece.new.parity (some_parity c.args.ratio) first second c.encode_piece.ensures
