-- Laws of spellings and readings, for the crates above. `Laws` proves them.
use Rattle.std.specs.Prelude.{◌≡◌, ℕ, ◌%◌, ◌^◌, ◌<◌, ◌≤◌, List, ◌++◌, length, take, Ok, IfSome}
use Rattle.wire_num.specs.Laws.Number.{AreBytes}
use Rattle.world_model.specs.Sizes.{FitsRecord}
use Rattle.needle_record.specs.declared.Record.{Record}
use Rattle.needle_record.specs.Spelling.{HasRoom, SpellsNeedle, canonical, length_of_record, record_size}
use Rattle.needle_record.specs.Reading.{needle_at, HasWholeRecord, IsReadAs, HasHeader}
use Rattle.needle_record.specs.Laws.Spelled as spelled
use Rattle.needle_record.specs.Laws.Found as found_laws
use Rattle.needle_record.specs.Laws.Fronts as fronts
use Rattle.needle_record.specs.Laws.Headers as headers
use Rattle.needle_record.specs.Laws.Pushes as pushes
use Rattle.needle_record.specs.Laws.Places as places
use Rattle.needle_record.specs.Laws.Ends as ends

-- ---- from a record to bytes, and back

-- what is spelled is read, and nothing else stands in the bytes
pub spelled-reads : (r : Record) (bytes : List ℕ) → SpellsNeedle r bytes → IsReadAs r bytes
spelled-reads = spelled.spelled-reads

-- and so it is, whatever follows
pub spelled-reads_append : (r : Record) (bytes more : List ℕ) → SpellsNeedle r bytes → needle_at (bytes ++ more) ≡ Ok (r, length_of_record r)
spelled-reads_append = spelled.spelled-reads_append

-- no bytes begin with spellings of two records
pub one_spelling : (r s : Record) (a b x y : List ℕ) → SpellsNeedle r a → SpellsNeedle s b → a ++ x ≡ b ++ y → r ≡ s
one_spelling = spelled.one_spelling

-- what is written is a spelling
pub canonical-spells : (r : Record) → HasRoom r → IfSome r.content FitsRecord → SpellsNeedle r (canonical r)
canonical-spells = spelled.canonical-spells

-- so it is read again
pub canonical-reads : (r : Record) → HasRoom r → IfSome r.content FitsRecord → IsReadAs r (canonical r)
canonical-reads = pushes.canonical_read

-- what is read is spelled by the bytes that it took
pub found-spelled : (bytes : List ℕ) (found : Record × ℕ) → AreBytes bytes → needle_at bytes ≡ Ok found → SpellsNeedle found.0 (take found.1 bytes)
found-spelled = found_laws.found-spelled

-- ---- what is read at a front

pub found-whole : (bytes : List ℕ) (found : Record × ℕ) → needle_at bytes ≡ Ok found → HasWholeRecord bytes
found-whole = fronts.found_whole

-- it takes as many bytes as its record does
pub found-length : (bytes : List ℕ) (found : Record × ℕ) → needle_at bytes ≡ Ok found → found.1 ≡ length_of_record found.0
found-length = ends.found_record_length

-- which are there
pub found-within : (bytes : List ℕ) (found : Record × ℕ) → needle_at bytes ≡ Ok found → found.1 ≤ length bytes
found-within = headers.found_within

-- it is read again, whatever follows
pub needle_at-append : (bytes more : List ℕ) (found : Record × ℕ) → needle_at bytes ≡ Ok found → needle_at (bytes ++ more) ≡ Ok found
needle_at-append = fronts.needle_at-append

-- its own bytes are enough to read it
pub needle_at-take : (bytes : List ℕ) (found : Record × ℕ) (n : ℕ) → needle_at bytes ≡ Ok found → found.1 ≤ n → needle_at (take n bytes) ≡ Ok found
needle_at-take = headers.front_read

-- and sixteen bytes to read its header
pub header-take : (bytes : List ℕ) (found : Record × ℕ) (n : ℕ) → needle_at bytes ≡ Ok found → 16 ≤ n → HasHeader found.0 (take n bytes)
header-take = headers.front_header

-- ---- sizes

-- a record's length is a multiple of eight
pub length_of_record-in_eights : (r : Record) → length_of_record r % 8 ≡ 0
length_of_record-in_eights r = places.record_length-in_eights (record_size r)

pub length_of_record-least : (r : Record) → 32 ≤ length_of_record r
length_of_record-least r = places.record_length-least (record_size r)

-- a size has room in a signed number of four bytes, and is not 0 where there is a content
pub record_size-fits : (r : Record) → IfSome r.content FitsRecord → record_size r < 2 ^ 31
record_size-fits = pushes.size_small
