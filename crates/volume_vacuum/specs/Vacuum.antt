-- What a vacuum does to a volume and its files, and what a stop leaves.
use Rattle.std.specs.Prelude.{◌≡◌, ℕ, Bool, true, false, IsTrue, List, length, take, Option, None}
use Rattle.std.specs.FinMap.{empty}
use Rattle.site_model.specs.Counts.{widest_piece}
use Rattle.site_model.specs.Disk.{Files, Disk}
use Rattle.site_model.specs.Leaves.{Leaves}
use Rattle.site_model.specs.Touches.{Touches}
use Rattle.file_names.specs.declared.Kind.TheVariants.{Cpd, Cpx}
use Rattle.file_names.specs.Names.{place_of}
use Rattle.volume_forms.specs.declared.Entry.{Entry}
use Rattle.needle_record.specs.Records.{Placed, Index, index_of}
use Rattle.image_meaning.specs.Files.{files_of}
use Rattle.dat_volume.specs.declared.volume.DatVolume.{DatVolume}
use Rattle.dat_volume.specs.declared.fault.GetFault.{GetFault}
use Rattle.dat_volume.specs.declared.fault.GetFault.TheVariants as get_fault
use Rattle.dat_volume.specs.Causes.{ReadBlamesServer}
use Rattle.dat_volume.specs.Needles.{Damage, damage_of, first_damage, HasDifference, IsNoDamage}
use Rattle.dat_volume.specs.Places.{AreFirmRecords, dat_in}
use Rattle.volume_vacuum.specs.Live.{vacuumed, new_dat, new_idx}
use Rattle.volume_vacuum.specs.Copies.{IsByPlace, moved_entries, moved_end, with_all, index_bytes, overlap, headers_damage}
use Rattle.volume_vacuum.specs.Home.{IsNamed, IsTouched, IsOnlyHolder, IsHeldByEither}
use Rattle.volume_vacuum.specs.declared.preparing.Plan.{Plan}

-- The volume's two files are these records and their entries to the end, firm, and no other index of it stands. Its index in
-- memory is that of the records.
pub record HoldsRecords (volume : DatVolume) (files : Files) (dat idx : List ℕ) (ps : List Placed) : Type 0 where
  pub firm : AreFirmRecords volume.server volume.volume files dat idx ps
  pub only : IsOnlyHolder volume.server volume.volume files
  pub live : volume.index ≡ index_of ps

-- A stop leaves the volume held by the old two files or by the new two.
pub record Vacuums (volume : DatVolume) (old new : Disk) : Type 0 where
  pub touches : Touches (IsTouched volume.server volume.volume) old new
  pub leaves : (dat idx : List ℕ) (ps : List Placed) → HoldsRecords volume old.files dat idx ps
      → Leaves old new (λ image said. IsHeldByEither (files_of image volume.volume) volume.server dat idx (new_dat dat ps) (new_idx ps))

-- ---- damages

-- the first damage of live entries in the order of their places: a record overlaps the one before it, or a header isn't its entry's
abbrev pub vacuum_damage : List ℕ → List Entry → Option Damage
vacuum_damage dat es = first_damage (overlap 8 es) (headers_damage dat es)

-- it is that of the live entries
pub record IsLiveDamage (index : Index) (dat : List ℕ) (damage : Option Damage) : Type 0 where
  pub entries : List Entry
  pub by_place : IsByPlace index entries
  pub first : vacuum_damage dat entries ≡ damage

-- ---- a vacuum that is done

-- The volume has the new two files, and nothing else that was made is left. No live entry was damaged.
pub record IsVacuumed (volume made : DatVolume) (old new : Files) : Type 0 where
  pub holds : (dat idx : List ℕ) (ps : List Placed) → HoldsRecords volume old dat idx ps
      → HoldsRecords made new (new_dat dat ps) (new_idx ps) (vacuumed ps) × (made.used ≡ length (new_dat dat ps))
  pub undamaged : IsLiveDamage volume.index (dat_in old volume.server volume.volume) None
  pub no_cpd : new (place_of volume.volume volume.server Cpd false) ≡ None
  pub no_cpd_temp : new (place_of volume.volume volume.server Cpd true) ≡ None
  pub no_cpx_temp : new (place_of volume.volume volume.server Cpx true) ≡ None

-- ---- what is read and taken before the first write

-- all is there for the writes, and nothing is damaged
pub record IsPrepared (tells : Bool) (volume : DatVolume) (files : Files) (plan : Plan) : Type 0 where
  pub named : IsNamed plan.home
  pub server : plan.home.server ≡ volume.server
  pub number : plan.home.volume ≡ volume.volume
  pub by_place : IsByPlace volume.index plan.entries.items
  pub index : plan.layout.index ≡ with_all empty (moved_entries 8 plan.entries.items)
  pub bytes : plan.layout.bytes.items ≡ index_bytes (moved_entries 8 plan.entries.items)
  pub end : plan.layout.end ≡ moved_end 8 plan.entries.items
  pub room : length plan.buffer.items ≡ widest_piece
  pub front : IsTrue tells → plan.front ≡ take 8 (dat_in files volume.server volume.volume)
  pub undamaged : IsTrue tells → vacuum_damage (dat_in files volume.server volume.volume) plan.entries.items ≡ None

-- a damage that is told is that of the live entries
abbrev pub TellsLive : Index → List ℕ → GetFault → Type 0
TellsLive index dat (get_fault.Fault device) = Unit {0}
TellsLive index dat (get_fault.Damaged w a b) = IsLiveDamage index dat (damage_of w a b)
TellsLive index dat get_fault.Memory = Unit {0}

-- A damage that is told is there, and there is none in files that hold the records.
pub record IsRefusal (tells : Bool) (volume : DatVolume) (files : Files) (fault : GetFault) : Type 0 where
  pub blame : ReadBlamesServer volume.server fault
  pub differ : HasDifference fault
  pub told : IsTrue tells → TellsLive volume.index (dat_in files volume.server volume.volume) fault
  pub sound : IsTrue tells → (dat idx : List ℕ) (ps : List Placed) → HoldsRecords volume files dat idx ps → IsNoDamage fault

-- ---- a vacuum that fails

abbrev pub IsUnchanged : Disk → Disk → GetFault → Type 0
IsUnchanged old new (get_fault.Fault device) = Unit {0}
IsUnchanged old new (get_fault.Damaged w a b) = new ≡ old
IsUnchanged old new get_fault.Memory = new ≡ old

-- The volume is as before, and but for a fault the files too.
pub record Refuses (tells : Bool) (volume made : DatVolume) (old new : Disk) (fault : GetFault) : Type 0 where
  pub same : made ≡ volume
  pub unchanged : IsTrue tells → IsUnchanged old new fault
  pub why : IsRefusal tells volume old.files fault
