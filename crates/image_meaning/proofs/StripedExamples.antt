-- The shards of one needle, as another program computes them.
use Rattle.std.proofs.Common.{◌≡◌, ℕ, List, [], ◌∷◌, ◌++◌, replicate, refl}
use Rattle.world_model.specs.declared.types.Ratio.TheVariants.{ThreeTwo}
use Rattle.gf256.specs.Field.{carry_less, reduced, field_mul, field_pow, field_inv}
use Rattle.stripe_layout.specs.declared.Geometry.{Geometry}
use Rattle.rs_code.specs.Codeword.{value_through, value_through_in}
use Rattle.image_meaning.specs.Striped.{shards_of}

-- 3 and 2 shards in blocks of 16 and 8
abbrev three_two : Geometry
three_two = record { ratio = ThreeTwo; large = 16; small = 8 }

-- a super block, and a needle of 48 bytes
abbrev needle : List ℕ
needle =
    (3 ∷ 0 ∷ 0 ∷ 0 ∷ 0 ∷ 0 ∷ 0 ∷ 0 ∷ 0 ∷ 0 ∷ 0 ∷ 0x2a ∷ 0 ∷ 0 ∷ 0 ∷ 0 ∷ 0 ∷ 0 ∷ 0 ∷ 1 ∷ 0 ∷ 0 ∷ 0 ∷ 0x0e ∷ 0 ∷ 0 ∷ 0 ∷ 9 ∷ 0x31 ∷ 0x32 ∷ 0x33 ∷ 0x34 ∷ [])
    ++ (0x35 ∷ 0x36 ∷ 0x37 ∷ 0x38 ∷ 0x39 ∷ 0 ∷ 0xe3 ∷ 6 ∷ 0x92 ∷ 0x83 ∷ 0 ∷ 0 ∷ 0 ∷ 0 ∷ 0 ∷ 0 ∷ 0 ∷ 0 ∷ 0 ∷ 0 ∷ 0 ∷ 0 ∷ 0 ∷ 0 ∷ [])

needle_shards : shards_of three_two needle ≡
    (3 ∷ 0 ∷ 0 ∷ 0 ∷ 0 ∷ 0 ∷ 0 ∷ 0 ∷ 0 ∷ 0 ∷ 0 ∷ 0x2a ∷ 0 ∷ 0 ∷ 0 ∷ 0 ∷ replicate 8 0)
    ∷ (0 ∷ 0 ∷ 0 ∷ 1 ∷ 0 ∷ 0 ∷ 0 ∷ 0x0e ∷ 0 ∷ 0 ∷ 0 ∷ 9 ∷ 0x31 ∷ 0x32 ∷ 0x33 ∷ 0x34 ∷ replicate 8 0)
    ∷ (0x35 ∷ 0x36 ∷ 0x37 ∷ 0x38 ∷ 0x39 ∷ 0 ∷ 0xe3 ∷ 6 ∷ 0x92 ∷ 0x83 ∷ 0 ∷ 0 ∷ 0 ∷ 0 ∷ 0 ∷ 0 ∷ replicate 8 0)
    ∷ (0x36 ∷ 0x36 ∷ 0x37 ∷ 0x39 ∷ 0x39 ∷ 0 ∷ 0xe3 ∷ 8 ∷ 0x92 ∷ 0x83 ∷ 0 ∷ 0x23 ∷ 0x31 ∷ 0x32 ∷ 0x33 ∷ 0x34 ∷ replicate 8 0)
    ∷ (0xaf ∷ 0xb4 ∷ 0xb2 ∷ 0x98 ∷ 0x96 ∷ 0 ∷ 0x70 ∷ 0x64 ∷ 0x4b ∷ 0x2d ∷ 0 ∷ 0xd3 ∷ 0x95 ∷ 0x8d ∷ 0x85 ∷ 0xbd ∷ replicate 8 0)
    ∷ []
unfolding shards_of value_through value_through_in field_mul reduced carry_less field_inv field_pow
needle_shards = refl
