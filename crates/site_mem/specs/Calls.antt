-- What stood as a call was made, from the record of all that was asked.
use Rattle.std.specs.Prelude.{◌≡◌, ℕ, ◌==◌, ◌&&◌, ◌||◌, nat_lt, nat_le, Bool, true, false, if◌then◌else◌, List, [], ◌∷◌, Option, Some, None, is_some, ◌≤◌}
use Rattle.site_model.specs.Disk.{Place, Files, Call, Disk}
use Rattle.site_mem.specs.declared.entry.Entry.{Entry}
use Rattle.site_mem.specs.Events.{Event, event_kept, added, told, called}
use Rattle.site_mem.specs.Counting.{is_within}
use Rattle.site_mem.specs.Lost.{had_lost, has_lost_after, files_without}
use Rattle.site_mem.specs.Record.{after_entry, AreSame}

-- What stood and had been said as a call was made, and the call, where it could change anything and is recorded.
pub record Underway : Type 0 where
  pub files : Files
  pub said : List ℕ
  pub call : Option Call

abbrev pub call_of : Event → Option Call
call_of (added p bytes) = None
call_of (told bytes) = None
call_of (called call) = Some call

-- the call with number n, after these entries
abbrev pub at_call : ℕ → Disk → List Entry → List ℕ → Underway
at_call n d [] since = record { files = files_without (had_lost since n) d.files; said = d.said; call = None }
at_call n d (e ∷ entries) since =
    if nat_lt e.number n then at_call n (after_entry d e) entries since
    else record { files = files_without (had_lost e.lost.since n) d.files; said = d.said; call = if e.number == n then call_of (event_kept e.asked) else None }

-- a server lost its files after the call with number n, and before the next call that is recorded
abbrev pub loses_after : ℕ → List Entry → List ℕ → Bool
loses_after n [] since = has_lost_after n since
loses_after n (e ∷ entries) since = if nat_lt e.number n then loses_after n entries since else has_lost_after n e.lost.since

-- this stood, and this was asked
pub record Begins (d : Disk) (call : Option Call) (under_way : Underway) : Type 0 where
  pub files : AreSame under_way.files d.files
  pub said : under_way.said ≡ d.said
  pub asked : under_way.call ≡ call

-- no number of a call is above this one
abbrev pub are_numbered : ℕ → List Entry → Bool
are_numbered n [] = true
are_numbered n (e ∷ entries) = nat_le e.number n && are_numbered n entries

-- each names servers below this number alone
abbrev pub are_within : ℕ → List Entry → Bool
are_within servers [] = true
are_within servers (e ∷ entries) = is_within servers (event_kept e.asked) && are_within servers entries

-- it is a call, or has the number of what is none
abbrev pub is_numbered : ℕ → Event → Bool
is_numbered n event = (n == 0) || is_some (call_of event)

-- each with the number of a call is a call
abbrev pub are_calls : List Entry → Bool
are_calls [] = true
are_calls (e ∷ entries) = is_numbered e.number (event_kept e.asked) && are_calls entries

-- no file stands at a server from this number on
abbrev pub IsNowhereElse : ℕ → Files → Type 0
IsNowhereElse servers files = (k : Place) → servers ≤ k.0 → is_some (files k) ≡ false
