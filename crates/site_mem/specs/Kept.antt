-- The files that are kept, as a function of places.
use Rattle.std.specs.Prelude.{◌≡◌, ◌≢◌, ◌⊎◌, ℕ, ◌==◌, ◌<◌, ◌&&◌, Bool, true, not, if◌then◌else◌, is_some, string_bytes, List, [], ◌∷◌, length, slice_index_or, Option, Some, None}
use Rattle.std.specs.Borrow.{Bor}
use Rattle.site_model.specs.Disk.{File, Place, Files}
use Rattle.site_mem.specs.declared.stored.Stored.{Stored}
use Rattle.site_mem.specs.Events.{is_place}

abbrev pub place_kept : Stored → Place
place_kept s = (s.server, string_bytes s.name)

abbrev pub file_of : Stored → File
file_of s = record { bytes = s.bytes.items; firm = s.firm; is_named = s.is_named }

-- the first file that stands at a place
abbrev pub files_kept : List Stored → Files
files_kept [] k = None
files_kept (s ∷ kept) k = if is_place (place_kept s) k then Some (file_of s) else files_kept kept k

-- no place has two files
abbrev pub are_apart : List Stored → Bool
are_apart [] = true
are_apart (s ∷ kept) = not (is_some (files_kept kept (place_kept s))) && are_apart kept

-- the file of this place is kept there
pub record IsAt (kept : List Stored) (at : ℕ) (p : Place) : Type 0 where
  pub within : at < length kept
  pub place : (d : Stored) → place_kept (slice_index_or kept at d) ≡ p

-- what a look-up answers
abbrev pub found : Option (Bor Stored) → Option File
found None = None
found (Some file) = Some (file_of file.now)

-- the bytes that are answered
abbrev pub seen : Option (Bor (List ℕ)) → Option (List ℕ)
seen None = None
seen (Some bytes) = Some bytes.now

-- nothing stands at q but the file that stands at p, if they are the same
pub record MakesRoom (p q : Place) (old new : Files) : Type 0 where
  pub free : (q ≡ p) ⊎ (new q ≡ None)
  pub here : new p ≡ old p
  pub others : (k : Place) → k ≢ q → new k ≡ old k

-- the names of the files at a server
abbrev pub names_at : ℕ → List Stored → List (List ℕ)
names_at server [] = []
names_at server (s ∷ kept) = if s.server == server then string_bytes s.name ∷ names_at server kept else names_at server kept
