-- Pieces that were appended to the temporary files, one after the other.
use Rattle.std.proofs.Common.{◌≡◌, ◌≢◌, inl, inr, ℕ, ◌+◌, ◌*◌, ◌^◌, ◌<◌, ◌≤◌, List, [], length, drop, Option, Some, refl, sym, ◌∙◌, ap, subst, length-take, arith}
use Rattle.std.specs.Prelude.{true}
use Rattle.std.proofs.lemmas.Bool.{cases_lt, cases_eq}
use Rattle.site_model.specs.Disk.{File, Place, Image, LeftIn, Disk, Appends, grown, IsPartlyGrown, appends}
use Rattle.site_model.specs.Leaves.{Leaves, starts, by_append}
use Rattle.site_model.specs.Touches.{Touches, touches_none, touches_on, touches_more, touches_append}
use Rattle.world_model.specs.Ratios.{counts-sixteen}
use Rattle.file_names.specs.declared.Kind.TheVariants.{Shard}
use Rattle.file_names.specs.declared.FileName.{FileName}
use Rattle.file_names.specs.Names.{name_bytes}
use Rattle.file_names.specs.Laws.Name.{same_name}
use Rattle.shard_make.specs.declared.names.ShardNames.{ShardNames}
use Rattle.shard_make.specs.Rooms.{piece_in}
use Rattle.shard_make.specs.Made.{count_of, shard_place, AtShards, HavePieces, LeftGrowing, Grows}

-- ---- no two shards have one file

abbrev temp_name : ℕ → ℕ → FileName
temp_name volume i = record { volume = volume; kind = Shard i; temp = true }

same_shard : (a b : FileName) → a ≡ b → (i j : ℕ) → a.kind ≡ Shard i → b.kind ≡ Shard j → i ≡ j
same_shard a b e i j p q = cc

same_number : (volume i j : ℕ) → volume < 2 ^ 32 → i < 16 → j < 16 → name_bytes (temp_name volume i) ≡ name_bytes (temp_name volume j) → i ≡ j
same_number volume i j fits low high e =
    same_shard (temp_name volume i) (temp_name volume j) (same_name (temp_name volume i) (temp_name volume j) (record { volume = fits; kind = low }) (record { volume = fits; kind = high }) e) i j refl refl

places_apart : (names : ShardNames) (i j : ℕ) → names.volume < 2 ^ 32 → i < count_of names → j < count_of names → i ≢ j → shard_place names i ≢ shard_place names j
places_apart names i j fits low high other e =
    let few = counts-sixteen names.ratio in
    other (same_number names.volume i j fits (omega (arith, low, few)) (omega (arith, high, few)) (ap (λ (p : Place). p.1) e))

-- ---- so far

-- The first n temporary files have their pieces, and the others are as they were.
pub record HasAppended (names : ShardNames) (size : ℕ) (pieces : List ℕ) (n : ℕ) (old now : Disk) : Type 0 where
  pub touches : Touches (AtShards names) old now
  pub done : (i : ℕ) → i < n → now.files (shard_place names i) ≡ Some (grown (old.files (shard_place names i)) (piece_in pieces size i))
  pub ahead : (i : ℕ) → n ≤ i → i < count_of names → now.files (shard_place names i) ≡ old.files (shard_place names i)
  pub leaves : Leaves old now (λ image said. (i : ℕ) → i < count_of names → LeftGrowing size (old.files (shard_place names i)) (image (shard_place names i)))

pub appended_none : (names : ShardNames) (size : ℕ) (pieces : List ℕ) (disk : Disk) → HasAppended names size pieces 0 disk disk
appended_none names size pieces disk = record {
  touches = touches_none disk;
  done = λ i h. absurd (omega (arith, h));
  ahead = λ i low high. refl;
  leaves = starts disk (λ image left i h. (disk.files (shard_place names i), inl refl, left (shard_place names i)));
}

piece_long : (pieces : List ℕ) (size i : ℕ) → length (piece_in pieces size i) ≤ size
piece_long pieces size i = omega (arith, length-take size (drop (i * size) pieces))

grew_within : (m n : ℕ) (old new : Option File) → m ≤ n → IsPartlyGrown m old new → IsPartlyGrown n old new
grew_within m n old new h (inl same) = inl same
grew_within m n old new h (inr grew) = inr (grew.0, omega (arith, h, grew.1), grew.2)

module _ (names : ShardNames) (size : ℕ) (pieces : List ℕ) (n : ℕ) (old mid : Disk) (so_far : HasAppended names size pieces n old mid) where
  grew_so_far : (i : ℕ) → i < count_of names → IsPartlyGrown size (old.files (shard_place names i)) (mid.files (shard_place names i))
  grew_so_far i h = elim (cases_lt i n) [
    | inl less ↦ inr (piece_in pieces size i, piece_long pieces size i, so_far.done i less)
    | inr more ↦ inl (so_far.ahead i more h)
  ]

  -- all of them have theirs
  pub appended_grow : Grows names size old mid
  appended_grow = record { touches = so_far.touches; partly = grew_so_far; leaves = so_far.leaves }

  pub appended_all : count_of names ≤ n → HavePieces names (piece_in pieces size) old mid
  appended_all all i h = so_far.done i (omega (arith, all, h))

  module _ (new : Disk) (fits : names.volume < 2 ^ 32) (below : n < count_of names) (did : Appends (shard_place names n) (piece_in pieces size n) mid new) where
    -- of each other file the append leaves what there was
    other_file : (i : ℕ) → i < count_of names → i ≢ n → new.files (shard_place names i) ≡ mid.files (shard_place names i)
    other_file i h other = did.others (shard_place names i) (places_apart names i n fits h below other)

    -- in an image within it
    left_within : (image : Image) → LeftIn (appends (shard_place names n) (piece_in pieces size n)) mid.files image
        → (i : ℕ) → i < count_of names → LeftGrowing size (old.files (shard_place names i)) (image (shard_place names i))
    left_within image left i h = elim (cases_eq i n) [
      | inl same ↦ subst (λ j. LeftGrowing size (old.files (shard_place names j)) (image (shard_place names j))) (sym same) (
        left.1.0,
        subst (λ f. IsPartlyGrown size f left.1.0) (so_far.ahead n (omega arith) below) (grew_within (length (piece_in pieces size n)) size (mid.files (shard_place names n)) left.1.0 (piece_long pieces size n) left.1.1),
        left.1.2,
      )
      | inr other ↦ (mid.files (shard_place names i), grew_so_far i h, left.0 (shard_place names i) (places_apart names i n fits h below other))
    ]

    leaves_next : Leaves old new (λ image said. (i : ℕ) → i < count_of names → LeftGrowing size (old.files (shard_place names i)) (image (shard_place names i)))
    leaves_next = by_append so_far.leaves did left_within

    touches_next : Touches (AtShards names) old new
    touches_next = touches_on so_far.touches (touches_more (λ k is. (n, below, is)) (touches_append did))

    -- one more append, which may have been cut short
    pub appended_partly : Grows names size old new
    appended_partly = record {
      touches = touches_next;
      partly = λ i h. elim (cases_eq i n) [
        | inl same ↦ subst (λ j. IsPartlyGrown size (old.files (shard_place names j)) (new.files (shard_place names j))) (sym same)
            (subst (λ f. IsPartlyGrown size f (new.files (shard_place names n))) (so_far.ahead n (omega arith) below)
            (grew_within (length (piece_in pieces size n)) size (mid.files (shard_place names n)) (new.files (shard_place names n)) (piece_long pieces size n) did.partly))
        | inr other ↦ subst (IsPartlyGrown size (old.files (shard_place names i))) (sym (other_file i h other)) (grew_so_far i h)
      ];
      leaves = leaves_next;
    }

    -- or is done
    pub appended_next : new.files (shard_place names n) ≡ Some (grown (mid.files (shard_place names n)) (piece_in pieces size n)) → HasAppended names size pieces (n + 1) old new
    appended_next is = record {
      touches = touches_next;
      done = λ i h. elim (cases_lt i n) [
        | inl less ↦ other_file i (omega (arith, less, below)) (λ e. omega (arith, e, less)) ∙ so_far.done i less
        | inr more ↦
            let same : i ≡ n = omega (arith, h, more) in
            subst (λ j. new.files (shard_place names j) ≡ Some (grown (old.files (shard_place names j)) (piece_in pieces size j))) (sym same)
            (is ∙ ap (λ f. Some (grown f (piece_in pieces size n))) (so_far.ahead n (omega arith) below))
      ];
      ahead = λ i low high. other_file i high (λ e. omega (arith, e, low)) ∙ so_far.ahead i (omega (arith, low)) high;
      leaves = leaves_next;
    }

-- where nothing changed, nothing grew
pub grows_none : (names : ShardNames) (size : ℕ) (old new : Disk) → new ≡ old → Grows names size old new
grows_none names size old new same = subst (λ (d : Disk). Grows names size old d) (sym same) (appended_grow names size [] 0 old old (appended_none names size [] old))
