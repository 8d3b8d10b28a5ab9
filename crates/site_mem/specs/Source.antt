-- What a source in memory shows.
use Rattle.std.specs.Prelude.{◌≡◌, ℕ, ◌+◌, ◌-◌, ◌^◌, min, List, drop, Option, None}
use Rattle.site_mem.specs.declared.source.MemSource.{MemSource}

abbrev pub left_of : MemSource → List ℕ
left_of m = drop m.at m.bytes.items

abbrev pub faults_of : MemSource → ℕ
faults_of m = m.faults

abbrev pub taken_of : MemSource → ℕ
taken_of m = m.taken

-- the number of reads that were made, which ends at its type's last value
abbrev pub reads_of : MemSource → ℕ
reads_of m = m.reads

abbrev pub next_read : MemSource → ℕ
next_read m = min (m.reads + 1) (2 ^ 64 - 1)

-- the number of the read that is to fail
abbrev pub failing_of : MemSource → Option ℕ
failing_of m = m.failing

pub record IsAtStart (bytes : List ℕ) (m : MemSource) : Type 0 where
  pub left : left_of m ≡ bytes
  pub faults : faults_of m ≡ 0
  pub taken : taken_of m ≡ 0
  pub reads : reads_of m ≡ 0
  pub failing : failing_of m ≡ None

-- all but what is listed
pub record KeepsPlace (old new : MemSource) : Type 0 where
  pub left : left_of new ≡ left_of old
  pub faults : faults_of new ≡ faults_of old
  pub taken : taken_of new ≡ taken_of old
  pub reads : reads_of new ≡ reads_of old
