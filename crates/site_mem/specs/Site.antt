-- What a site in memory shows, and what each of its calls leaves of that.
use Rattle.std.specs.Prelude.{◌≡◌, ℕ, ◌+◌, ◌-◌, ◌^◌, ◌<◌, ◌≤◌, ◌⊎◌, ◌&&◌, ◌||◌, not, min, Bool, true, false, IsTrue, if◌then◌else◌, Option, None, slice_index_or}
use Rattle.site_model.specs.Disk.{Disk, Image, standing}
use Rattle.site_model.specs.Leaves.{Left}
use Rattle.site_model.specs.Counts.{Counts}
use Rattle.site_mem.specs.declared.mem.MemSite.{MemSite}
use Rattle.site_mem.specs.Events.{Event}
use Rattle.site_mem.specs.Record.{nothing}
use Rattle.site_mem.specs.Held.{disk_held, call_held, loss_held}
use Rattle.site_mem.specs.Calls.{Underway, call_of, Begins}
use Rattle.site_model.specs.Tallies.{counts_of, next_call, AreNone}
use Rattle.site_mem.specs.Failing.{lists, lists_read}

-- the files, what was said, and the calls so far
abbrev pub disk_at : MemSite → Disk
disk_at m = disk_held m.history

abbrev pub counts_at : MemSite → Counts
counts_at m = counts_of m.tally

-- the number of the next call
abbrev pub next_at : MemSite → ℕ
next_at m = next_call m.tally

-- the calls that failed for want of memory
abbrev pub wants_at : MemSite → ℕ
wants_at m = m.wants

-- whether the call with this number is to fail
abbrev pub fails_at : MemSite → ℕ → Bool
fails_at m number = lists m.listed.calls.items number

-- the number from which on reads at this server are to fail
abbrev pub reads_fail_at : MemSite → ℕ → Option ℕ
reads_fail_at m server = slice_index_or m.listed.reads server None

-- what stood as the call with this number was made
abbrev pub call_at : MemSite → ℕ → Underway
call_at m number = call_held m.history number

-- Whether a server lost its files after the call with this number, and before the next call that can change
-- something. A loss is no call, so what stood before it may be what no recorded call found.
abbrev pub loses_at : MemSite → ℕ → Bool
loses_at m number = loss_held m.history number

-- what stands on a disk
abbrev pub image_of : Disk → Image
image_of d = λ k. standing (d.files k)

-- a stop at some moment since the site's start may leave this, when that had been said
abbrev pub IsLeftSinceStart : MemSite → Disk → Type 0
IsLeftSinceStart m left = Left (disk_at m) 0 (image_of left) left.said

-- what is to fail stays listed
pub record KeepsListed (old new : MemSite) : Type 0 where
  pub fails : (number : ℕ) → fails_at new number ≡ fails_at old number
  pub reads_fail : (server : ℕ) → reads_fail_at new server ≡ reads_fail_at old server

-- a call with the last number isn't told from an earlier one
abbrev pub CanCount : MemSite → Type 0
CanCount m = (counts_at m).calls < 2 ^ 64 - 1

-- what earlier calls found stays known
abbrev pub KeepsCalls : MemSite → MemSite → Type 0
KeepsCalls old new = CanCount old → (number : ℕ) → number ≤ (counts_at old).calls → call_at new number ≡ call_at old number

-- A call more that can change something. One that is listed fails, and another for want of memory alone.
pub record Makes (event : Event) (old new : MemSite) (is_failed : Bool) : Type 0 where
  pub calls : (counts_at new).calls ≡ next_at old
  pub listed : fails_at old (next_at old) ≡ true → is_failed ≡ true
  pub wants : wants_at new ≡ (if is_failed && not (fails_at old (next_at old)) then min (wants_at old + 1) (2 ^ 64 - 1) else wants_at old)
  pub keeps : KeepsListed old new
  pub earlier : KeepsCalls old new
  -- it is recorded, or failed for want of memory
  pub begins : CanCount old → Begins (disk_at old) (call_of event) (call_at new (next_at old)) ⊎ ((is_failed ≡ true) × Begins (disk_at old) None (call_at new (next_at old)))

-- A call more that changes nothing. It fails where it is listed, and never for want of memory.
pub record Looks (is_listed : Bool) (old new : MemSite) (is_failed : Type 0) : Type 0 where
  pub calls : (counts_at new).calls ≡ next_at old
  pub listed : IsTrue is_listed → is_failed
  pub only_listed : is_failed → IsTrue is_listed
  pub wants : wants_at new ≡ wants_at old
  pub keeps : KeepsListed old new
  pub earlier : KeepsCalls old new
  pub begins : CanCount old → Begins (disk_at old) None (call_at new (next_at old))

-- whether the next call fails, if it is a read at this server
abbrev pub read_fails_next : MemSite → ℕ → Bool
read_fails_next m server = fails_at m (next_at m) || lists_read (reads_fail_at m server) (next_at m)

-- all but the files and what was said
pub record KeepsCounts (old new : MemSite) : Type 0 where
  pub servers : new.servers ≡ old.servers
  pub counts : counts_at new ≡ counts_at old
  pub wants : wants_at new ≡ wants_at old

-- all but what is listed
pub record KeepsAll (old new : MemSite) : Type 0 where
  pub disk : disk_at new ≡ disk_at old
  pub counts : KeepsCounts old new
  pub calls : (number : ℕ) → call_at new number ≡ call_at old number

-- no call was made and none is listed
pub record IsUnused (servers : ℕ) (m : MemSite) : Type 0 where
  pub servers_are : m.servers ≡ servers
  pub counts : AreNone (counts_at m)
  pub wants : wants_at m ≡ 0
  pub fails : (number : ℕ) → fails_at m number ≡ false
  pub reads_fail : (server : ℕ) → reads_fail_at m server ≡ None

-- nothing is called or listed
pub record KeepsUnused (old new : MemSite) : Type 0 where
  pub counts : KeepsCounts old new
  pub listed : KeepsListed old new

-- no file, nothing said, no call made and none listed
pub record IsFresh (servers : ℕ) (m : MemSite) : Type 0 where
  pub disk : disk_at m ≡ nothing
  pub unused : IsUnused servers m
