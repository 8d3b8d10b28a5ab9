-- One file of a volume changes.
use Rattle.std.specs.Prelude.{◌≡◌, ℕ, List, Option, None}
use Rattle.file_names.specs.declared.Kind.{Kind}
use Rattle.file_names.specs.declared.Kind.TheVariants.{Shard}
use Rattle.image_meaning.specs.Files.{VolumeFiles}

-- One file is this now, and the others are as they were.
pub record IsChanged (files left : VolumeFiles) (server : ℕ) (kind : Kind) (now : Option (List ℕ)) : Type 0 where
  pub here : left server kind ≡ now
  pub others : (s : ℕ) (k : Kind) → (s ≡ server → k ≡ kind → ⊥) → left s k ≡ files s k

-- a shard goes
abbrev pub TakesShard : Kind → Option (List ℕ) → Type 0
TakesShard kind now = (i : ℕ) × (kind ≡ Shard i) × (now ≡ None)
