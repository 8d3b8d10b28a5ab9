-- A part of the bytes is enough for a record, or for its header.
use Rattle.std.proofs.Common.{◌≡◌, ℕ, ◌+◌, ◌≤◌, List, ◌++◌, length, take, drop, Ok, sym, ◌∙◌, ap, subst, arith}
use Rattle.std.specs.Option.{option_map_or}
use Rattle.std.proofs.lemmas.List.{take-append-drop, take-take, length-take, length-take-le, length-drop, drop-append-le}
use Rattle.wire_num.specs.Numbers.{number_of, record_length}
use Rattle.wire_num.specs.Laws.Number.{number_of-append}
use Rattle.world_model.specs.Sizes.{size_of_content}
use Rattle.needle_record.specs.declared.Record.{Record}
use Rattle.needle_record.specs.Reading.{needle_at, needle_of, size_at, length_at, content_in, HasWholeRecord, HasHeader}
use Rattle.needle_record.specs.Laws.FieldSizes.{on_bind, ok_same}
use Rattle.needle_record.specs.Laws.Fronts.{found_whole, needle_at-whole, needle_at-append}
use Rattle.needle_record.specs.Laws.Appended.{found_length}
use Rattle.needle_record.specs.Laws.Ends.{content_in_size, fields_there}

-- a number that stands in a front
front_number : (n k m : ℕ) (bytes : List ℕ) → k + n ≤ m → k + n ≤ length bytes → number_of n (drop k (take m bytes)) ≡ number_of n (drop k bytes)
front_number n k m bytes h long =
    sym (number_of-append n (drop k (take m bytes)) (drop m bytes) (omega (arith, length-drop k (take m bytes), length-take m bytes)))
    ∙ ap (number_of n) (sym (drop-append-le k (take m bytes) (drop m bytes) (omega (arith, length-take m bytes))))
    ∙ ap (λ l. number_of n (drop k l)) (take-append-drop m bytes)

pub found_within : (bytes : List ℕ) (found : Record × ℕ) → needle_at bytes ≡ Ok found → found.1 ≤ length bytes
found_within bytes found e = omega (arith, found_length bytes found e, (found_whole bytes found e).has_end)

-- the record's own bytes are enough
exact_read : (bytes : List ℕ) (found : Record × ℕ) → needle_at bytes ≡ Ok found → needle_at (take found.1 bytes) ≡ Ok found
exact_read bytes found e =
    let whole = found_whole bytes found e in
    let n : found.1 ≡ length_at bytes = found_length bytes found e in
    let size : size_at (take (length_at bytes) bytes) ≡ size_at bytes = front_number 4 12 (length_at bytes) bytes (omega arith) (omega (arith, whole.has_header)) in
    let front : HasWholeRecord (take (length_at bytes) bytes) = record {
      has_header = omega (arith, length-take-le (length_at bytes) bytes whole.has_end);
      has_end = omega (arith, length-take-le (length_at bytes) bytes whole.has_end, ap record_length size);
    } in
    ap (λ k. needle_at (take k bytes)) n
    ∙ needle_at-whole (take (length_at bytes) bytes) front
    ∙ ap (λ k. needle_of k (take (record_length k) (take (length_at bytes) bytes))) size
    ∙ ap (needle_of (size_at bytes)) (take-take (length_at bytes) (length_at bytes) bytes (omega arith))
    ∙ sym (needle_at-whole bytes whole) ∙ e

pub front_read : (bytes : List ℕ) (found : Record × ℕ) (m : ℕ) → needle_at bytes ≡ Ok found → found.1 ≤ m → needle_at (take m bytes) ≡ Ok found
front_read bytes found m e enough =
    ap needle_at (sym (take-append-drop found.1 (take m bytes)))
    ∙ ap (λ l. needle_at (l ++ drop found.1 (take m bytes))) (take-take found.1 m bytes enough)
    ∙ needle_at-append (take found.1 bytes) (drop found.1 (take m bytes)) found (exact_read bytes found e)

whole_header : (bytes : List ℕ) (found : Record × ℕ) → needle_at bytes ≡ Ok found → HasHeader found.0 bytes
unfolding needle_of
whole_header bytes found e =
    let whole = found_whole bytes found e in
    on_bind (content_in (size_at bytes) (drop 16 (take (length_at bytes) bytes))) _ found (sym (needle_at-whole bytes whole) ∙ e)
    (λ content e1 h1.
    let size : option_map_or size_of_content content 0 ≡ size_at bytes = content_in_size (size_at bytes) (drop 16 (take (length_at bytes) bytes)) content (fields_there (size_at bytes) bytes whole.has_end) e1 in
    subst (λ (q : Record × ℕ). HasHeader q.0 bytes) (ok_same _ found h1) (record {
      cookie = sym (front_number 4 0 (length_at bytes) bytes (omega arith) (omega (arith, whole.has_header)));
      id = sym (front_number 8 4 (length_at bytes) bytes (omega arith) (omega (arith, whole.has_header)));
      size = sym size;
    }))

-- sixteen bytes are enough for the header
pub front_header : (bytes : List ℕ) (found : Record × ℕ) (m : ℕ) → needle_at bytes ≡ Ok found → 16 ≤ m → HasHeader found.0 (take m bytes)
front_header bytes found m e enough =
    let whole = found_whole bytes found e in
    let there = whole_header bytes found e in
    record {
      cookie = front_number 4 0 m bytes (omega arith) (omega (arith, whole.has_header)) ∙ there.cookie;
      id = front_number 8 4 m bytes (omega arith) (omega (arith, whole.has_header)) ∙ there.id;
      size = front_number 4 12 m bytes (omega arith) (omega (arith, whole.has_header)) ∙ there.size;
    }
