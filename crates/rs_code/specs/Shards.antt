-- Shards of a code, by their numbers.
use Rattle.std.proofs.Common.{◌≡◌, ℕ, zero, suc, ◌+◌, ◌<◌, ◌≤◌, ◌≢◌, List, [], ◌∷◌, length, drop, sym, arith}
use Rattle.std.specs.Prelude.{slice_index}
use Rattle.std.specs.List.{AllByRecursion}
use Rattle.rs_code.specs.Roots.{IsElsewhere}
use Rattle.rs_code.specs.Combination.{AreDistinct}

-- at least one shard of each kind, and no more than 32
pub record HasSizes (k m : ℕ) : Type 0 where
  pub some_data : 1 ≤ k
  pub some_parity : 1 ≤ m
  pub few : k + m ≤ 32

-- different shards, all below n
pub record AreShards (n : ℕ) (have : List ℕ) : Type 0 where
  pub below : AllByRecursion (λ r. r < n) have
  pub distinct : AreDistinct have

-- data that are 1 at d and 0 elsewhere
pub record IsUnit (k d : ℕ) (c : List ℕ) : Type 0 where
  pub here : slice_index c d ≡ 1
  pub elsewhere : (i : ℕ) → i < k → i ≢ d → slice_index c i ≡ 0

-- ---- what a caller may know of the shards, place by place

below_from_places : (n : ℕ) (have : List ℕ) → ((i : ℕ) → i < length have → slice_index have i < n) → AllByRecursion (λ r. r < n) have
below_from_places n [] h = tt
below_from_places n (r ∷ have) h = (h 0 (omega arith), below_from_places n have (λ i k. h (suc i) (omega arith)))

elsewhere_from_places : (r : ℕ) (have : List ℕ) → ((i : ℕ) → i < length have → slice_index have i ≢ r) → IsElsewhere r have
elsewhere_from_places r [] h = tt
elsewhere_from_places r (s ∷ have) h = (h 0 (omega arith), elsewhere_from_places r have (λ i k. h (suc i) (omega arith)))

distinct_from_places : (have : List ℕ) → ((i j : ℕ) → i < j → j < length have → slice_index have i ≢ slice_index have j) → AreDistinct have
distinct_from_places [] h = tt
distinct_from_places (r ∷ have) h = (
  elsewhere_from_places r have (λ i k e. h 0 (suc i) (omega arith) (omega arith) (sym e)),
  distinct_from_places have (λ i j k l. h (suc i) (suc j) (omega arith) (omega arith)),
)

pub shards_from_places : (n : ℕ) (have : List ℕ) → ((i : ℕ) → i < length have → slice_index have i < n)
    → ((i j : ℕ) → i < j → j < length have → slice_index have i ≢ slice_index have j) → AreShards n have
shards_from_places n have below apart = record { below = below_from_places n have below; distinct = distinct_from_places have apart }

-- what holds of each place, of those behind it too
pub record IsApartAt (n : ℕ) (have : List ℕ) (i : ℕ) : Type 0 where
  pub below : slice_index have i < n
  pub apart : IsElsewhere (slice_index have i) (drop (suc i) have)

pub shards_from_apart : (n : ℕ) (have : List ℕ) → ((i : ℕ) → i < length have → IsApartAt n have i) → AreShards n have
shards_from_apart n [] h = record { below = tt; distinct = tt }
shards_from_apart n (r ∷ have) h =
    let first = h 0 (omega arith) in
    let rest = shards_from_apart n have (λ i k. let next = h (suc i) (omega arith) in record { below = next.below; apart = next.apart }) in
    record { below = (first.below, rest.below); distinct = (first.apart, rest.distinct) }

pub apart_from_shards : (n : ℕ) (have : List ℕ) → AreShards n have → (i : ℕ) → i < length have → IsApartAt n have i
apart_from_shards n [] shards i h = absurd (omega arith)
apart_from_shards n (r ∷ have) shards zero h = record { below = shards.below.0; apart = shards.distinct.0 }
apart_from_shards n (r ∷ have) shards (suc i) h =
    let rest = apart_from_shards n have record { below = shards.below.1; distinct = shards.distinct.1 } i (omega arith) in record { below = rest.below; apart = rest.apart }
