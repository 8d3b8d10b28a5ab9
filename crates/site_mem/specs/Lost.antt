-- The servers that lost their files, from the numbers of the calls that found them lost.
use Rattle.std.specs.List.{list_any}
use Rattle.std.specs.Prelude.{◌≡◌, ◌≢◌, ℕ, Bool, ◌&&◌, nat_lt, nat_le, if◌then◌else◌, List, slice_index, None}
use Rattle.site_model.specs.Disk.{Files, Disk}

abbrev pub has_lost : List ℕ → ℕ → Bool
has_lost since server = nat_lt 0 (slice_index since server)

-- the call with this number found them lost
abbrev pub had_lost : List ℕ → ℕ → ℕ → Bool
had_lost since number server = nat_lt 0 (slice_index since server) && nat_le (slice_index since server) number

-- some server lost its files after the call with this number
abbrev pub has_lost_after : ℕ → List ℕ → Bool
has_lost_after number since = list_any (λ n. nat_lt number n) since

-- what is left of the files when these servers lose theirs
abbrev pub files_without : (ℕ → Bool) → Files → Files
files_without lost files = λ k. if lost k.0 then None else files k

abbrev pub without : (ℕ → Bool) → Disk → Disk
without lost d = record { files = files_without lost d.files; said = d.said; past = d.past }

-- the server's files are lost too, before the call with this number
pub record Loses (server number : ℕ) (old new : List ℕ) : Type 0 where
  pub here : slice_index new server ≡ (if nat_lt 0 (slice_index old server) then slice_index old server else number)
  pub others : (other : ℕ) → other ≢ server → slice_index new other ≡ slice_index old other
