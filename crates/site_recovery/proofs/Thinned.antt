-- How spare copies go, shard by shard.
use Rattle.std.proofs.Common.{◌≡◌, ◌≢◌, inl, inr, ℕ, ◌+◌, ◌<◌, false, Option, Some, None, sym, ◌∙◌, ap, subst, arith}
use Rattle.std.proofs.lemmas.Bool.{cases_eq}
use Rattle.site_model.specs.Disk.{Place, Files, Disk}
use Rattle.file_names.specs.Names.{max_shards, place_of}
use Rattle.file_names.specs.declared.Kind.TheVariants.{Dat, Cpd, Shard}
use Rattle.image_meaning.specs.Files.{VolumeFiles, shard_home}
use Rattle.site_recovery.specs.Changes.{IsKindAt, LacksSome, TakesAway}
use Rattle.site_recovery.specs.CodedGone.{IsSpare, AreGoneBelow}
use Rattle.site_recovery.proofs.Taking.{takes_on, takes_more}
use Rattle.site_recovery.proofs.Gone.{stays_gone}

-- data files
pub takes_dat : (v : ℕ) (files : VolumeFiles) {old new : Disk} → TakesAway (IsKindAt v Dat false None) old new → TakesAway (IsSpare v files) old new
takes_dat v files takes = takes_more (λ k is. (is.0, Dat, is.1, tt, tt)) takes

-- those that a vacuum made too
pub takes_cpd : (v : ℕ) (files : VolumeFiles) {old mid new : Disk} → TakesAway (IsSpare v files) old mid → TakesAway (IsKindAt v Cpd false None) mid new → TakesAway (IsSpare v files) old new
takes_cpd v files first takes = takes_on first (takes_more (λ k is. (is.0, Cpd, is.1, tt, tt)) takes)

-- and the copies of one shard more
pub takes_shard : (v : ℕ) (files : VolumeFiles) (i : ℕ) (keeper : Option ℕ) {old mid new : Disk} → i < max_shards → keeper ≡ shard_home files i → TakesAway (IsSpare v files) old mid
    → TakesAway (IsKindAt v (Shard i) false keeper) mid new → TakesAway (IsSpare v files) old new
takes_shard v files i keeper small same first takes = takes_on first (takes_more (λ k is. (is.0, Shard i, is.1, subst (λ (o : Option ℕ). o ≢ Some is.0) same is.2, small)) takes)

module _ (v : ℕ) (files : VolumeFiles) where
  pub dat_gone : {touched : Place → Type 0} (mid new : Files) → LacksSome touched mid new → ((server : ℕ) → None ≢ Some server → mid (place_of v server Dat false) ≡ None)
      → ((server : ℕ) → None ≢ Some server → new (place_of v server Cpd false) ≡ None) → AreGoneBelow v files 0 new
  dat_gone mid new lacks no_dat no_cpd = record {
    no_dat = λ server. stays_gone (place_of v server Dat false) lacks (no_dat server (λ e. cc));
    no_cpd = λ server. no_cpd server (λ e. cc);
    no_copies = λ i server h. absurd (omega arith);
  }

  pub shard_gone : {touched : Place → Type 0} (i : ℕ) (keeper : Option ℕ) (mid new : Files) → keeper ≡ shard_home files i → LacksSome touched mid new → AreGoneBelow v files i mid
      → ((server : ℕ) → keeper ≢ Some server → new (place_of v server (Shard i) false) ≡ None) → AreGoneBelow v files (i + 1) new
  shard_gone i keeper mid new same lacks below gone = record {
    no_dat = λ server. stays_gone (place_of v server Dat false) lacks (below.no_dat server);
    no_cpd = λ server. stays_gone (place_of v server Cpd false) lacks (below.no_cpd server);
    no_copies = λ j server h other. elim (cases_eq j i) [
      | inl at ↦ subst (λ k. new (place_of v server (Shard k) false) ≡ None) (sym at) (gone server (λ e. other (ap (shard_home files) at ∙ sym same ∙ e)))
      | inr less ↦ stays_gone (place_of v server (Shard j) false) lacks (below.no_copies j server (omega arith) other)
    ];
  }
