-- What the calls on a journal do, and what a stop within them leaves.
use Rattle.std.specs.Prelude.{◌≡◌, ◌+◌, ◌*◌, ◌≤◌, ℕ, List, [], ◌++◌, length, unwrap_or}
use Rattle.site_model.specs.Disk.{Place, Disk, IsFirm, bytes_of}
use Rattle.site_model.specs.Leaves.{Leaves}
use Rattle.site_model.specs.Touches.{Touches, At}
use Rattle.wire_num.specs.Pairs.{pairs, journal_bytes}
use Rattle.wire_num.specs.Laws.Pair.{AreIds, HasOrGains}
use Rattle.ecj_journal.specs.declared.reading.Journal.{Journal}

-- the bytes, and at most so many behind them
pub record GrowsBy (n : ℕ) (old new : List ℕ) : Type 0 where
  pub more : List ℕ
  pub few : length more ≤ n
  pub behind : new ≡ old ++ more

-- An id is put behind the journal, twice. Where it was absent or firm and of whole pairs, a stop leaves its ids or this one
-- more, and at most 16 bytes behind them.
pub record AppendsPair (p : Place) (id : ℕ) (old new : Disk) : Type 0 where
  pub touches : Touches (At p) old new
  pub grown : GrowsBy 16 (bytes_of (old.files p)) (bytes_of (new.files p))
  pub leaves : (ids : List ℕ) → AreIds ids → IsFirm (old.files p) → bytes_of (old.files p) ≡ journal_bytes ids → Leaves old new (λ image said. HasOrGains ids id (unwrap_or (image p) []))

-- the ids of the pairs, and how many bytes stand behind them: where there are none, the bytes are the journal of these ids
pub record IsJournalOf (bytes : List ℕ) (journal : Journal) : Type 0 where
  pub ids : journal.ids.items ≡ pairs bytes
  pub rest : length bytes ≡ 16 * length (pairs bytes) + journal.rest
  pub exact : journal.rest ≡ 0 → bytes ≡ journal_bytes (pairs bytes)
