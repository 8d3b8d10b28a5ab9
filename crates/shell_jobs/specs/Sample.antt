-- The lines of a sample run. For the samples of `weed_shell`, to come.
use Rattle.std.proofs.Common.{refl}
use Rattle.std.specs.Prelude.{◌≡◌, ℕ, zero, suc, ◌+◌, ◌*◌, ◌/◌, ◌%◌, ◌^◌, ◌==◌, ◌&&◌, not, false, List, ◌∷◌, ◌++◌, length, map, filter, None}
use Rattle.std.specs.List.{range_with_len}
use Rattle.world_model.specs.declared.types.Content.{Content}
use Rattle.world_model.specs.declared.types.Command.TheVariants.{Encode, Rebuild, Balance, Decode}
use Rattle.world_model.specs.declared.types.Ratio.TheVariants.{TenFour}
use Rattle.world_model.specs.declared.types.Line.{Line}
use Rattle.world_model.specs.declared.types.Line.TheVariants as line

-- the numbers that follow a seed
unfoldable pub sample_number : ℕ → ℕ → ℕ
sample_number seed zero = seed
sample_number seed (suc i) = (sample_number seed i * 6364136223846793005 + 1442695040888963407) % 2 ^ 64

abbrev pub sample_cookie : ℕ → ℕ → ℕ
sample_cookie seed i = sample_number seed i / 2 ^ 32

-- the bytes of the number, the lowest first, over and over
abbrev pub sample_data : ℕ → ℕ → List ℕ
sample_data seed i = map (λ k. sample_number seed i / 256 ^ (k % 8) % 256) (range_with_len 0 (1 + sample_cookie seed i % 1000))

abbrev pub sample_content : ℕ → ℕ → Content
sample_content seed i = record { bytes = sample_data seed i; flags = 0; name = None; mime = None; modified = None; ttl = None; pairs = None }

abbrev pub sample_puts : ℕ → List ℕ → List Line
sample_puts seed ids = map (λ i. line.Put 1 i (sample_cookie seed i) (sample_content seed i)) ids

abbrev pub sample_gets : ℕ → List ℕ → List Line
sample_gets seed ids = map (λ i. line.Get 1 i (sample_cookie seed i)) ids

abbrev pub sample_deletes : ℕ → List ℕ → List Line
sample_deletes seed ids = map (λ i. line.Delete 1 i (sample_cookie seed i)) ids

-- a life of one volume, plain, coded and plain again
unfoldable pub sample_lines : ℕ → ℕ → List Line
sample_lines seed count =
    let ids = range_with_len 1 count in
    line.Create 1 0
    ∷ sample_puts seed ids
    ++ sample_deletes seed (filter (λ i. i % 7 == 0) ids)
    ++ line.Start 1 (Encode TenFour) false
    ∷ sample_gets seed ids
    ++ sample_deletes seed (filter (λ i. (i % 11 == 0) && not (i % 7 == 0)) ids)
    ++ line.Start 1 Rebuild false
    ∷ line.Start 1 Balance false
    ∷ sample_gets seed ids
    ++ line.Start 1 Decode false
    ∷ sample_gets seed ids

-- of a hundred needles there are as many lines
lines_of_a_hundred : length (sample_lines 5 100) ≡ 427
unfolding sample_lines
lines_of_a_hundred = refl

first_cookie : sample_cookie 5 1 ≡ (5 * 6364136223846793005 + 1442695040888963407) % 2 ^ 64 / 2 ^ 32
unfolding sample_number
first_cookie = refl
