-- What a stop leaves, by what it makes of the bytes that aren't firm.
use Rattle.std.specs.Prelude.{◌≡◌, ℕ, ◌+◌, ◌-◌, ◌/◌, if◌then◌else◌, List, [], ◌++◌, length, take, replicate, Option, Some, None, Vec}
use Rattle.std.specs.declared.alloc.Global.{Global}
use Rattle.site_model.specs.Disk.{File, Place, Files, Call, Disk, LeftIn, LeftOfAll, SaidIn, firm_file, standing, appends, syncs, cuts, renames, removes, says}
use Rattle.site_mem.specs.declared.tear.Tear.{Tear}
use Rattle.site_mem.specs.declared.tear.Tear.TheVariants.{None as KeepsNone, All, Half, Fill}
use Rattle.site_mem.specs.Events.{files_called}
use Rattle.site_mem.specs.Calls.{Underway}

abbrev pub torn_bytes : Tear → ℕ → List ℕ → List ℕ
torn_bytes KeepsNone firm bytes = take firm bytes
torn_bytes All firm bytes = bytes
torn_bytes Half firm bytes = take (firm + (length bytes - firm) / 2) bytes
torn_bytes (Fill value) firm bytes = take firm bytes ++ replicate (length bytes - firm) value

-- the bytes that are left of a file, if it is left
abbrev pub torn_file : Tear → File → Option (List ℕ)
torn_file KeepsNone f = if f.is_named then Some (torn_bytes KeepsNone f.firm f.bytes) else None
torn_file All f = Some (torn_bytes All f.firm f.bytes)
torn_file Half f = Some (torn_bytes Half f.firm f.bytes)
torn_file (Fill value) f = Some (torn_bytes (Fill value) f.firm f.bytes)

-- the bytes of a vector that may be left
abbrev pub bytes_left : Option (Vec ℕ Global) → Option (List ℕ)
bytes_left None = None
bytes_left (Some bytes) = Some bytes.items

abbrev pub torn : Tear → Option File → Option (List ℕ)
torn tear None = None
torn tear (Some f) = torn_file tear f

-- What a call has done to the files as the stop comes: nothing yet, where the tear leaves nothing of it. A sync
-- has made nothing firm.
abbrev pub files_reached : Tear → Option Call → Files → Files
files_reached KeepsNone call files = files
files_reached tear None files = files
files_reached tear (Some (syncs p)) files = files
files_reached tear (Some (appends p bytes)) files = files_called (appends p bytes) files
files_reached tear (Some (cuts p n)) files = files_called (cuts p n) files
files_reached tear (Some (renames p q)) files = files_called (renames p q) files
files_reached tear (Some (removes p)) files = files_called (removes p) files
files_reached tear (Some (says bytes)) files = files

-- what is said of some bytes as the stop comes
abbrev pub said_part : Tear → List ℕ → List ℕ
said_part KeepsNone bytes = []
said_part All bytes = bytes
said_part Half bytes = take (length bytes / 2) bytes
said_part (Fill value) bytes = bytes

abbrev pub said_reached : Tear → Option Call → List ℕ → List ℕ
said_reached tear (Some (says bytes)) said = said ++ said_part tear bytes
said_reached tear None said = said
said_reached tear (Some (appends p bytes)) said = said
said_reached tear (Some (syncs p)) said = said
said_reached tear (Some (cuts p n)) said = said
said_reached tear (Some (renames p q)) said = said
said_reached tear (Some (removes p)) said = said

-- a firm file of these bytes, if there are any
abbrev pub firm_of : Option (List ℕ) → Option File
firm_of None = None
firm_of (Some bytes) = Some (firm_file bytes)

-- All that is left is firm, and there is no record of a call.
pub record IsTorn (tear : Tear) (under_way : Underway) (left : Disk) : Type 0 where
  pub files : (k : Place) → left.files k ≡ firm_of (torn tear (files_reached tear under_way.call under_way.files k))
  pub said : left.said ≡ said_reached tear under_way.call under_way.said
  pub past : left.past ≡ []

abbrev pub IsLeftIn : Option Call → Files → List ℕ → Disk → Type 0
IsLeftIn None files said left = LeftOfAll files (λ k. standing (left.files k)) × (left.said ≡ said)
IsLeftIn (Some call) files said left = LeftIn call files (λ k. standing (left.files k)) × SaidIn call said left.said

-- A stop within the call may leave this, or a stop beside it, where it changes nothing.
abbrev pub IsLeftBy : Underway → Disk → Type 0
IsLeftBy under_way left = IsLeftIn under_way.call under_way.files under_way.said left
