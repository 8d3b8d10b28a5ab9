-- What an opening answers of volumes of any form. For the recovery of coded volumes, to come.
use Rattle.std.specs.Prelude.{◌≡◌, ◌≢◌, ℕ, List, Option, Some, None, Contains}
use Rattle.std.specs.List.{filter_map}
use Rattle.shard_table.specs.Table.{Table, Row, IsAdded, row_of, no_places}
use Rattle.coded_volume.specs.declared.checking.ShardCopy.{ShardCopy}
use Rattle.site_recovery.specs.Homes.{home_row}
use Rattle.site_recovery.specs.Placing.{AreHomesOf}
use Rattle.site_recovery.specs.declared.forms.ListedForm.{ListedForm}
use Rattle.site_recovery.specs.declared.forms.ListedForm.TheVariants as form
use Rattle.site_recovery.specs.declared.forms.TestedGroup.{TestedGroup}
use Rattle.site_recovery.specs.declared.recovered.Recovered.{Recovered}

-- ---- the lists

abbrev pub home_in : ListedForm → Option ℕ
home_in (form.Plain home dat_length idx_length) = Some home
home_in (form.Coded copies checked) = None
home_in form.Lost = None
home_in form.Absent = None

-- a plain volume with its home
abbrev pub plain_home : TestedGroup → Option (ℕ × ℕ)
plain_home t = home_row t.group.volume (home_in t.form)

abbrev pub if_coded : ℕ → ListedForm → Option ℕ
if_coded v (form.Plain home dat_length idx_length) = None
if_coded v (form.Coded copies checked) = Some v
if_coded v form.Lost = None
if_coded v form.Absent = None

abbrev pub coded_number : TestedGroup → Option ℕ
coded_number t = if_coded t.group.volume t.form

abbrev pub if_lost : ℕ → ListedForm → Option ℕ
if_lost v (form.Plain home dat_length idx_length) = None
if_lost v (form.Coded copies checked) = None
if_lost v form.Lost = Some v
if_lost v form.Absent = None

abbrev pub lost_number : TestedGroup → Option ℕ
lost_number t = if_lost t.group.volume t.form

-- ---- the table

-- Nothing but the volume's places is otherwise, which are these.
pub record HasRow (volume : ℕ) (places : Row) (old new : Table) : Type 0 where
  pub row : row_of new volume ≡ places
  pub added : (other : ℕ) → IsAdded old other → IsAdded new other
  pub others : (other : ℕ) → other ≢ volume → row_of new other ≡ row_of old other
  pub servers : new.servers ≡ old.servers

-- The volume was added, with each shard at the lowest server that has a copy.
pub record HasHomes (table : Table) (volume : ℕ) (copies : List ShardCopy) : Type 0 where
  pub added : IsAdded table volume
  pub homes : AreHomesOf copies (row_of table volume)

-- so was the volume, if it is coded
abbrev pub HasHomesIn : Table → ℕ → ListedForm → Type 0
HasHomesIn table v (form.Plain home dat_length idx_length) = Unit {0}
HasHomesIn table v (form.Coded copies checked) = HasHomes table v copies.items
HasHomesIn table v form.Lost = Unit {0}
HasHomesIn table v form.Absent = Unit {0}

-- The table has the shards of the coded ones of these volumes, and no others.
pub record HasShardsOf (tested : List TestedGroup) (table : Table) : Type 0 where
  pub each : (t : TestedGroup) → Contains tested t → HasHomesIn table t.group.volume t.form
  pub others : (v : ℕ) → ((t : TestedGroup) → Contains tested t → coded_number t ≢ Some v) → row_of table v ≡ no_places

-- ---- all of it

-- the volumes by what was found of them, and where they stand
pub record IsAnswerOf (servers : ℕ) (tested : List TestedGroup) (found : Recovered) : Type 0 where
  pub plain : found.plain.items ≡ filter_map plain_home tested
  pub coded : found.coded.items ≡ filter_map coded_number tested
  pub lost : found.lost.items ≡ filter_map lost_number tested
  pub servers_are : found.table.servers ≡ servers
  pub shards : HasShardsOf tested found.table
