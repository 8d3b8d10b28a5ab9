-- A site's disk, from the record of all that was asked.
use Rattle.std.specs.Prelude.{◌≡◌, ℕ, Bool, List, [], ◌∷◌, None, refl}
use Rattle.std.specs.Coded.{Coded, code_by, coded×, coded_ℕ, coded_bool, coded_list, coded_option, Coded-set}
use Rattle.site_model.specs.Disk.{File, Place, Files, Disk}
use Rattle.site_mem.specs.declared.entry.Entry.{Entry}
use Rattle.site_mem.specs.Events.{event_kept, after}
use Rattle.site_mem.specs.Lost.{has_lost, without}

-- no file, and nothing said
abbrev pub nothing : Disk
nothing = record { files = λ k. None; said = []; past = [] }

abbrev pub after_entry : Disk → Entry → Disk
after_entry d e = after e.is_done (event_kept e.asked) (without (has_lost e.lost.since) d)

abbrev pub from : Disk → List Entry → Disk
from d [] = d
from d (e ∷ entries) = from (after_entry d e) entries

-- the disk, where these servers lost their files since the last entry
abbrev pub disk_of : List Entry → List ℕ → Disk
disk_of entries since = without (has_lost since) (from nothing entries)

-- at each place the same file
abbrev pub AreSame : Files → Files → Type 0
AreSame a b = (k : Place) → a k ≡ b k

abbrev file_code : Coded File
file_code = code_by (List ℕ × (ℕ × Bool)) (coded× (coded_list coded_ℕ) (coded× coded_ℕ coded_bool)) (λ f. (f.bytes, (f.firm, f.is_named))) (λ p. record { bytes = p.0; firm = p.1.0; is_named = p.1.1 }) (λ _. refl)

pub AreSame-prop : (a b : Files) → IsProp (AreSame a b)
AreSame-prop a b = λ f g i k. Coded-set (coded_option file_code) (a k) (b k) (f k) (g k) i
