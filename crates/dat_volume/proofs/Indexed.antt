-- The index that entries make, taken one after the other.
use Rattle.std.proofs.Common.{◌≡◌, ℕ, ◌+◌, ◌%◌, ◌<◌, ◌≤◌, List, [], ◌∷◌, ◌++◌, length, take, drop, ℤ, pos, negsuc, ◌<ℤ◌, ◌≤ℤ◌, refl, sym, ◌∙◌, ap, arith}
use Rattle.std.specs.FinMap.{empty, insert, remove}
use Rattle.std.proofs.lemmas.Int.{ints}
use Rattle.volume_forms.specs.declared.Entry.{Entry}
use Rattle.volume_forms.specs.Forms.{entries, entry_at}
use Rattle.needle_record.specs.Records.{Index}
use Rattle.dat_volume.specs.Opening.{index_after_entry, index_by, index_by_from}
use Rattle.dat_volume.proofs.Scanned.{entries-first, entries-none, entries-pieces}

-- a negative size takes the id out, and another sets it
pub after_negative : (index : Index) (e : Entry) (n : ℤ) → n <ℤ pos 0 → index_after_entry index e n ≡ remove index e.id
after_negative index e (pos n) h = absurd (omega (arith, ints))
after_negative index e (negsuc n) h = refl

pub after_positive : (index : Index) (e : Entry) (n : ℤ) → pos 0 ≤ℤ n → index_after_entry index e n ≡ insert index e.id e
after_positive index e (pos n) h = refl
after_positive index e (negsuc n) h = absurd (omega (arith, ints))

-- the first entry of what is left
pub index_step : (index next : Index) (rest first behind : List ℕ) (e : Entry) → first ≡ take 16 rest → behind ≡ drop 16 rest → 16 ≤ length rest → e ≡ entry_at first → next ≡ index_after_entry index e e.size
    → index_by_from next (entries behind) ≡ index_by_from index (entries rest)
index_step index next rest first behind e front back long reads after =
    (λ i. index_by_from (after i) (entries (back i))) ∙ ap (λ (x : Entry). index_by_from (index_after_entry index x x.size) (entries (drop 16 rest))) (reads ∙ ap entry_at front)
    ∙ ap (index_by_from index) (sym (entries-first rest long))

pub index_end : (index : Index) (rest : List ℕ) → length rest < 16 → index ≡ index_by_from index (entries rest)
index_end index rest short = sym (ap (index_by_from index) (entries-none rest short))

pub index_by_from-append : (index : Index) (es fs : List Entry) → index_by_from index (es ++ fs) ≡ index_by_from (index_by_from index es) fs
index_by_from-append index [] fs = refl
index_by_from-append index (e ∷ es) fs = index_by_from-append (index_after_entry index e e.size) es fs

-- a piece more
pub index_more : (bytes : List ℕ) (at count : ℕ) (index next : Index) (piece : List ℕ) → at % 16 ≡ 0 → at ≤ length bytes → piece ≡ take count (drop at bytes)
    → index ≡ index_by (entries (take at bytes)) → next ≡ index_by_from index (entries piece) → next ≡ index_by (entries (take (at + count) bytes))
index_more bytes at count index next piece whole within is so_far goes =
    goes ∙ (λ i. index_by_from (so_far i) (entries (is i))) ∙ sym (index_by_from-append empty (entries (take at bytes)) (entries (take count (drop at bytes)))) ∙ ap index_by (sym (entries-pieces bytes at count whole within))

pub index_none : (bytes : List ℕ) → empty ≡ index_by (entries (take 0 bytes))
index_none bytes = sym (ap index_by (entries-none (take 0 bytes) (omega arith)))
