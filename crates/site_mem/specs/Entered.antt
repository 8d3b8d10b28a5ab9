-- What an entry more makes of a history.
use Rattle.std.specs.Prelude.{◌≡◌, ℕ, Bool, [], ◌∷◌, ◌++◌, slice_index}
use Rattle.site_mem.specs.declared.entry.Entry.{Entry}
use Rattle.site_mem.specs.declared.history.History.{History}
use Rattle.site_mem.specs.Events.{Event, event_kept}

-- One entry more of this number and event, carried out or begun. It takes on what was lost.
pub record IsEntered (n : ℕ) (b : Bool) (asked : Event) (old new : History) : Type 0 where
  pub entry : Entry
  pub number : entry.number ≡ n
  pub is_done : entry.is_done ≡ b
  pub lost : entry.lost.since ≡ old.lost.since
  pub event : event_kept entry.asked ≡ asked
  pub entries : new.entries.items ≡ old.entries.items ++ entry ∷ []
  pub emptied : (server : ℕ) → slice_index new.lost.since server ≡ 0

-- no entry more
pub record IsUnentered (old new : History) : Type 0 where
  pub entries : new.entries.items ≡ old.entries.items
  pub lost : new.lost.since ≡ old.lost.since
