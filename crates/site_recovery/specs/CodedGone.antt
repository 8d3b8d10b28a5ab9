-- Which copies of a coded volume's files may go. For the recovery of coded volumes, to come.
use Rattle.std.proofs.Common.{◌≡◌, ◌≢◌, ◌⊎◌, inl, inr, ⊎_elim, ℕ, ◌<◌, Bool, false, true, List, Option, Some, None, sym, subst}
use Rattle.std.specs.Prelude.{slice_index_or, Contains}
use Rattle.site_model.specs.Disk.{Place, Files, Image, Disk}
use Rattle.site_model.specs.Leaves.{weaker}
use Rattle.whole_file.specs.Whole.{Clears}
use Rattle.file_names.specs.declared.Kind.{Kind}
use Rattle.file_names.specs.declared.Kind.TheVariants.{Dat, Idx, Cpd, Cpx, Shard, Ecx, Ecj, Vif}
use Rattle.file_names.specs.Names.{IsKind, max_shards, place_of}
use Rattle.image_meaning.specs.Files.{VolumeFiles, contents, files_of, shard_home}
use Rattle.image_meaning.specs.Meaning.{max_volumes}
use Rattle.image_meaning.specs.Sound.{IsHolder, IsCoded}
use Rattle.image_meaning.specs.Places.{finals_apart}
use Rattle.image_meaning.specs.CodedCopies.{IsCodedThinned, gone_held}
use Rattle.site_recovery.specs.Steps.{KeepsMeaning}
use Rattle.site_recovery.specs.Changes.{LacksSome, TakesAway, Settles}
use Rattle.site_recovery.specs.CodedSteps.{HaveSameIds}
use Rattle.site_recovery.specs.Laws.CodedStep.{keeps_coded_thinned}

-- a data file, also one that a vacuum made, any copy of a shard but the lowest, and what stands beside no shard
abbrev pub MayGo : VolumeFiles → ℕ → Kind → Type 0
MayGo files server Dat = Unit {0}
MayGo files server Idx = ⊥
MayGo files server Cpd = Unit {0}
MayGo files server Cpx = ⊥
MayGo files server (Shard i) = shard_home files i ≢ Some server
MayGo files server Ecx = IsHolder files server → ⊥
MayGo files server Ecj = IsHolder files server → ⊥
MayGo files server Vif = IsHolder files server → ⊥

-- one of these files of the volume
abbrev pub IsSpare : ℕ → VolumeFiles → Place → Type 0
IsSpare v files k = (server : ℕ) × (kind : Kind) × (k ≡ place_of v server kind false) × MayGo files server kind × IsKind kind

-- ---- the law

module _ (old new : Image) (v : ℕ) (h : v < max_volumes) (lacks : LacksSome (IsSpare v (files_of old v)) old new) where
  each : (server : ℕ) (kind : Kind) → (files_of new v server kind ≡ files_of old v server kind) ⊎ (files_of new v server kind ≡ None)
  each server kind = ⊎_elim (λ same. inl same) (λ gone. inr gone.1) (lacks (place_of v server kind false))

  -- what may not go is as it was
  stays : (server : ℕ) (kind : Kind) → (MayGo (files_of old v) server kind → ⊥) → files_of new v server kind ≡ files_of old v server kind
  stays server kind keeps = ⊎_elim
      (λ same. same)
      (λ gone. absurd (keeps (
      let at = finals_apart v server gone.0.0 kind gone.0.1 h gone.0.2 in
      subst (λ (p : ℕ × Kind). MayGo (files_of old v) p.0 p.1) (λ i. (sym at.0 i, sym at.1 i)) gone.0.3)))
      (lacks (place_of v server kind false))

  pub spare_thinned : IsCodedThinned (files_of old v) (files_of new v)
  spare_thinned = record {
    each = each;
    homes = λ i server home. stays server (Shard i) (λ other. other home);
    texts = λ server holds. stays server Vif (λ none. none (gone_held (files_of old v) (files_of new v) each server holds));
    indexes = λ server holds. stays server Ecx (λ none. none (gone_held (files_of old v) (files_of new v) each server holds));
    journals = λ server holds. stays server Ecj (λ none. none (gone_held (files_of old v) (files_of new v) each server holds));
  }

  pub keeps_spare_gone : IsCoded (files_of old v) → HaveSameIds (files_of old v) → KeepsMeaning old new
  keeps_spare_gone coded same =
      keeps_coded_thinned old new v h coded same (λ k none. ⊎_elim (λ is. is) (λ gone. absurd (none gone.0.0 gone.0.1 false gone.0.2)) (lacks k)) spare_thinned

-- A run that takes some of them away, from settled files of a coded volume whose holders have the same deleted ids.
pub spare_settles : (v : ℕ) (touched : Place → Type 0) (old new : Disk) → v < max_volumes → IsCoded (files_of (contents old.files) v) → HaveSameIds (files_of (contents old.files) v)
    → ((k : Place) → touched k → IsSpare v (files_of (contents old.files) v) k) → TakesAway touched old new → Settles touched old new
spare_settles v touched old new h coded same spare takes = record {
  touches = takes.touches;
  leaves = λ settled. weaker (takes.leaves settled) (λ image said lacks.
      keeps_spare_gone (contents old.files) image v h (λ k. ⊎_elim (λ is. inl is) (λ gone. inr (spare k gone.0, gone.1)) (lacks k)) coded same);
}

-- ---- what is asked of a list of homes, and what is gone

-- of each shard its lowest server, if it stands
abbrev pub HasShardHomes : VolumeFiles → List (Option ℕ) → Type 0
HasShardHomes files homes = (i : ℕ) → i < max_shards → slice_index_or homes i None ≡ shard_home files i

-- of the first n shards no spare copy stands, nor a data file, nor one that a vacuum made
pub record AreGoneBelow (v : ℕ) (files : VolumeFiles) (n : ℕ) (new : Files) : Type 0 where
  pub no_dat : (server : ℕ) → new (place_of v server Dat false) ≡ None
  pub no_cpd : (server : ℕ) → new (place_of v server Cpd false) ≡ None
  pub no_copies : (i server : ℕ) → i < n → shard_home files i ≢ Some server → new (place_of v server (Shard i) false) ≡ None

abbrev pub AreCopiesGone : ℕ → VolumeFiles → Files → Type 0
AreCopiesGone v files new = AreGoneBelow v files max_shards new

-- ---- what stands beside no shard

-- the file is removed, or kept with nothing done
pub record ClearsUnless (keep : Bool) (p : Place) (old new : Disk) : Type 0 where
  pub kept : keep ≡ true → new ≡ old
  pub cleared : keep ≡ false → Clears p old new

-- ---- the files beside shards

-- the text of a volume, its index or its journal
abbrev pub IsBesideKind : Kind → Type 0
IsBesideKind Dat = ⊥
IsBesideKind Idx = ⊥
IsBesideKind Cpd = ⊥
IsBesideKind Cpx = ⊥
IsBesideKind (Shard i) = ⊥
IsBesideKind Ecx = Unit {0}
IsBesideKind Ecj = Unit {0}
IsBesideKind Vif = Unit {0}

-- such a file at a server that doesn't keep it
abbrev pub IsStray : ℕ → List Bool → Place → Type 0
IsStray v keeps k = (server : ℕ) × (kind : Kind) × (k ≡ place_of v server kind false) × IsBesideKind kind × (slice_index_or keeps server false ≡ false)

abbrev pub AreStraysGone : ℕ → List Bool → Files → Type 0
AreStraysGone v keeps files = (server : ℕ) (kind : Kind) → IsBesideKind kind → slice_index_or keeps server false ≡ false → files (place_of v server kind false) ≡ None

-- of these servers none has the journal that doesn't keep it
abbrev pub AreJournalsGone : ℕ → List ℕ → List Bool → Files → Type 0
AreJournalsGone v servers keeps files = (server : ℕ) → Contains servers server → slice_index_or keeps server false ≡ false → files (place_of v server Ecj false) ≡ None
