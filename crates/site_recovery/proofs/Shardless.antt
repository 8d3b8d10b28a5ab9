-- A volume without index and shards, and its data files.
use Rattle.std.proofs.Common.{◌≡◌, ◌⊎◌, inl, inr, ℕ, zero, suc, ◌<◌, ◌≤◌, Bool, true, false, List, length, Option, Some, None, is_some, refl, sym, ◌∙◌, ap, subst, arith}
use Rattle.std.specs.Prelude.{◌||◌, nat_eq, nat_le, nat_lt, if◌then◌else◌, slice_index_or}
use Rattle.std.specs.List.{All}
use mathlib.Core.Bool.{true≢false}
use Rattle.std.proofs.lemmas.Bool.{cases_lt, eqb-true, lt-leb}
use Rattle.site_model.specs.Disk.{Files, length_of, bytes_of}
use Rattle.site_model.specs.Disk as disk
use Rattle.world_model.specs.declared.types.Mode.TheVariants as mode
use Rattle.world_model.specs.Ratios.{data_count, data_count-some}
use Rattle.file_names.specs.declared.Kind.TheVariants.{Dat}
use Rattle.file_names.specs.Names.{place_of}
use Rattle.image_meaning.specs.Files.{VolumeFiles, contents, files_of, bytes_at, is_holder, standing}
use Rattle.image_meaning.specs.Plain.{index_home}
use Rattle.image_meaning.specs.Coded.{ratio_of}
use Rattle.image_meaning.specs.Meaning.{mode_of, has_long_dat, max_volumes}
use Rattle.image_meaning.specs.Sound.{IsHolder, IsLost, HasOneRatio}
use Rattle.image_meaning.specs.Laws.Servers.{lowest-some}
use Rattle.image_meaning.specs.Laws.CodedLoss.{some_holder}
use Rattle.coded_volume.specs.declared.checking.ShardCopy.{ShardCopy}
use Rattle.coded_volume.specs.Checking.{AreStanding}
use Rattle.coded_volume.proofs.Standing.{stands_holder}
use Rattle.site_recovery.specs.declared.forms.Listed.{Listed}
use Rattle.site_recovery.specs.Listing.{AreFilesOf, IsLongDat}
use Rattle.site_recovery.proofs.Homing.{long_here, long_nowhere}
use Rattle.site_recovery.proofs.Settled.{bytes_same}

module _ (files : VolumeFiles) (copies : List ShardCopy) (empty : length copies ≡ 0) (stand : AreStanding files copies) where
  none_holds : (server : ℕ) → IsHolder files server → ⊥
  none_holds server holds =
      let shard = stands_holder files server holds in
      let has = stand.all server shard.0 shard.1 shard.2 in
      absurd (omega (arith, has.1, empty))

  none_stands : length (standing files) ≡ 0
  none_stands = by_length (cases_lt 0 (length (standing files)))
    where
      by_length : (0 < length (standing files)) ⊎ (length (standing files) ≤ 0) → length (standing files) ≡ 0
      by_length (inl some) =
          let home = some_holder files some in
          let is = lowest-some (is_holder files) home.0 home.1 in
          absurd (none_holds home.0 (is.1, is.0.passes))
      by_length (inr none) = omega arith

  pub one_ratio : HasOneRatio files
  one_ratio = record { same = λ s t a b. absurd (none_holds s a) }

  module _ (none : index_home files ≡ None) where
    mode_is : mode_of files ≡ (if has_long_dat files then Some mode.Lost else None)
    unfolding mode_of
    mode_is =
        ap (λ o. if is_some o then Some mode.Plain else if nat_le (data_count (ratio_of files)) (length (standing files)) then Some mode.Coded else if nat_lt 0 (length (standing files)) || has_long_dat files then Some mode.Lost else None) none
        ∙ ap (λ b. if b then Some mode.Coded else if nat_lt 0 (length (standing files)) || has_long_dat files then Some mode.Lost else None) (lt-leb (data_count (ratio_of files)) (length (standing files)) (omega (arith, none_stands, data_count-some (ratio_of files))))
        ∙ ap (λ n. if nat_lt 0 n || has_long_dat files then Some mode.Lost else None) none_stands

    pub long_lost : true ≡ has_long_dat files → IsLost files
    long_lost long = mode_is ∙ ap (λ b. if b then Some mode.Lost else None) (sym long)

    pub short_absent : false ≡ has_long_dat files → mode_of files ≡ None
    short_absent short = mode_is ∙ ap (λ b. if b then Some mode.Lost else None) (sym short)

-- ---- the data files

module _ (files : Files) (v : ℕ) (h : v < max_volumes) (its : List Listed) (are : AreFilesOf files v its) where
  length_is : (server : ℕ) → length (bytes_at (files_of (contents files) v) server Dat) ≡ length_of (files (place_of v server Dat false))
  length_is server = ap length (bytes_same (files (place_of v server Dat false)))

  pub listed_long : (servers k : ℕ) (now : Files) (d : Listed) → servers ≤ 64 → All (λ (l : Listed). l.server < servers) its → k < length its → now ≡ files → IsLongDat now v (slice_index_or its k d)
      → true ≡ has_long_dat (files_of (contents files) v)
  listed_long servers k now d few all fits same is =
      let l : Listed = slice_index_or its k d in
      let was : IsLongDat files v l = subst (λ (f : Files). IsLongDat f v l) same is in
      long_here (files_of (contents files) v) l.server (omega (arith, few, all k d fits)) (omega (arith, was.long, length_is l.server))

  some_bytes : (o : Option disk.File) → 8 < length (bytes_of o) → is_some o ≡ true
  some_bytes None more = absurd (omega arith)
  some_bytes (Some file) more = refl

  pub none_long : ((k : ℕ) (d : Listed) → k < length its → IsLongDat files v (slice_index_or its k d) → ⊥) → false ≡ has_long_dat (files_of (contents files) v)
  none_long none = long_nowhere (files_of (contents files) v) (λ server low. by_length server (cases_lt 8 (length (bytes_at (files_of (contents files) v) server Dat))))
    where
      by_length : (server : ℕ) → (8 < length (bytes_at (files_of (contents files) v) server Dat)) ⊎ (length (bytes_at (files_of (contents files) v) server Dat) ≤ 8) → length (bytes_at (files_of (contents files) v) server Dat) ≤ 8
      by_length server (inr short) = short
      by_length server (inl long) =
          let l : Listed = record { server = server; file = record { volume = v; kind = Dat; temp = false } } in
          let more : 8 < length_of (files (place_of v server Dat false)) = omega (arith, long, length_is server) in
          let has = (are l).1 (record { named = record { volume = h; kind = tt }; stands = some_bytes (files (place_of v server Dat false)) more }, refl) in
          absurd (none has.0 l has.1 (subst (IsLongDat files v) (sym has.2) (record { final = refl; kind = refl; long = more })))

-- ---- whether there are copies

pub some_of : (n m : ℕ) (b : Bool) → b ≡ nat_eq n 0 → b ≡ false → m ≡ n → 0 < m
some_of zero m b is off same = absurd (true≢false (sym is ∙ off))
some_of (suc n) m b is off same = omega (arith, same)

pub none_of : (n m : ℕ) (b : Bool) → b ≡ nat_eq n 0 → b ≡ true → m ≡ n → m ≡ 0
none_of n m b is on same = same ∙ eqb-true n 0 (sym is ∙ on)
