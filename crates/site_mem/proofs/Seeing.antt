-- What is read of a file.
use Rattle.std.proofs.Common.{◌≡◌, ℕ, ◌+◌, ◌≤◌, false, List, [], ◌∷◌, length, take, drop, Option, Some, None, is_some, refl, ap, arith}
use Rattle.site_model.specs.Disk.{File, standing, size_of, bytes_of}

pub sized : (file : Option File) (bytes : List ℕ) → ◌≡◌ {A = Option (List ℕ)} (Some bytes) (standing file) → ◌≡◌ {A = Option ℕ} (Some (length bytes)) (size_of file)
sized None bytes is = absurd (cc is)
sized (Some file) bytes is = let same : bytes ≡ file.bytes = cc is in ap (λ l. Some (length l)) same

pub no_size : (file : Option File) → ◌≡◌ {A = Option (List ℕ)} None (standing file) → ◌≡◌ {A = Option ℕ} None (size_of file)
no_size None is = refl
no_size (Some file) is = absurd (cc is)

pub bytes_are : (file : Option File) (bytes : List ℕ) → ◌≡◌ {A = Option (List ℕ)} (Some bytes) (standing file) → bytes ≡ bytes_of file
bytes_are None bytes is = absurd (cc is)
bytes_are (Some file) bytes is = cc is

pub no_bytes : (file : Option File) → ◌≡◌ {A = Option (List ℕ)} None (standing file) → bytes_of file ≡ []
no_bytes None is = refl
no_bytes (Some file) is = absurd (cc is)

pub no_file : (file : Option File) → is_some file ≡ false → file ≡ None
no_file None off = refl
no_file (Some file) off = absurd (cc off)

-- of nothing nothing is read
pub reads_none : (out bytes : List ℕ) (at : ℕ) → at + length out ≤ length bytes → bytes ≡ [] → out ≡ take (length out) (drop at bytes)
reads_none [] bytes at within none = refl
reads_none (x ∷ out) bytes at within none = absurd (omega (arith, within, ap length none))
