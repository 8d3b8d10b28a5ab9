-- Pieces of a journal.
use Rattle.std.proofs.Common.{◌≡◌, ◌⊎◌, inl, inr, ℕ, zero, suc, ◌+◌, ◌-◌, ◌*◌, ◌<◌, ◌≤◌, List, [], ◌∷◌, ◌++◌, length, take, drop, get_or, sym, ◌∙◌, ap, arith, append_assoc, length-append, take-append-drop}
use Rattle.std.specs.Prelude.{min}
use Rattle.std.proofs.lemmas.Bool.{cases_lt}
use Rattle.std.proofs.lemmas.List.{take_all, take_at, append-nil, length-take-le, length-take, length-drop}
use Rattle.std.proofs.Math.Seq.{drop-append_seam}
use Rattle.std.proofs.lemmas.Grind.{flat_map-append}
use Rattle.wire_num.specs.Numbers.{bytes_of}
use Rattle.wire_num.specs.Laws.Number.{length-bytes_of}
use Rattle.wire_num.specs.Pairs.{journal_bytes, pair_bytes}
use Rattle.wire_num.specs.Laws.Pair.{length-journal_bytes}

-- ---- fields that are put

pub put_front : (old new field : List ℕ) (at n : ℕ) → new ≡ take at old ++ (field ++ drop (at + n) old) → length field ≡ n → at + n ≤ length old → take (at + n) new ≡ take at old ++ field
put_front old new field at n is long room =
    ap (take (at + n)) (is ∙ sym (append_assoc (take at old) field (drop (at + n) old)))
    ∙ take_at (take at old ++ field) (drop (at + n) old) (at + n) (omega (arith, length-append (take at old) field, length-take-le at old (omega (arith, room)), long))

pub put_size : (old new field : List ℕ) (at n : ℕ) → new ≡ take at old ++ (field ++ drop (at + n) old) → length field ≡ n → at + n ≤ length old → length new ≡ length old
put_size old new field at n is long room =
    ap length is ∙ length-append (take at old) (field ++ drop (at + n) old) ∙ omega (
      arith,
      length-append field (drop (at + n) old),
      length-take-le at old (omega (arith, room)),
      length-drop (at + n) old,
      long,
      room,
    )

-- an id twice
pub pair_put : (old mid new : List ℕ) (at id : ℕ) → mid ≡ take at old ++ (bytes_of 8 id ++ drop (at + 8) old) → new ≡ take (at + 8) mid ++ (bytes_of 8 id ++ drop (at + 8 + 8) mid) → at + 16 ≤ length old
    → (take (at + 16) new ≡ take at old ++ pair_bytes id) × (length new ≡ length old)
pair_put old mid new at id first second room =
    let half : length (bytes_of 8 id) ≡ 8 = length-bytes_of 8 id in
    let size = put_size old mid (bytes_of 8 id) at 8 first half (omega (arith, room)) in
    let last : at + 16 ≡ at + 8 + 8 = omega arith in (
      ap (λ n. take n new) last ∙ put_front mid new (bytes_of 8 id) (at + 8) 8 second half (omega (arith, room, size))
          ∙ ap (λ l. l ++ bytes_of 8 id) (put_front old mid (bytes_of 8 id) at 8 first half (omega (arith, room))) ∙ append_assoc (take at old) (bytes_of 8 id) (bytes_of 8 id),
      put_size mid new (bytes_of 8 id) (at + 8) 8 second half (omega (arith, room, size)) ∙ size,
    )

-- ---- the room that is filled

pub record AreFilled (count : ℕ) (ids first room : List ℕ) : Type 0 where
  pub pairs : take (16 * count) room ≡ journal_bytes (take count ids)
  pub size : length room ≡ length first

take_one : (xs : List ℕ) (k x : ℕ) → k < length xs → x ≡ get_or xs k x → take (suc k) xs ≡ take k xs ++ x ∷ []
take_one [] k x short there = absurd (omega (arith, short))
take_one (y ∷ ys) zero x short there = ap (λ z. z ∷ []) (sym there)
take_one (y ∷ ys) (suc k) x short there = ap (λ zs. y ∷ zs) (take_one ys k x (omega (arith, short)) there)

pub one_more : (count : ℕ) (ids first old new : List ℕ) (id : ℕ) → AreFilled count ids first old → count < length ids → id ≡ get_or ids count id → take (16 * count + 16) new ≡ take (16 * count) old ++ pair_bytes id → length new ≡ length old
    → AreFilled (count + 1) ids first new
one_more count ids first old new id so_far short there put size =
    let next : count + 1 ≡ suc count = omega arith in
    let end : 16 * (count + 1) ≡ 16 * count + 16 = omega arith in record {
      pairs = ap (λ n. take n new) end ∙ put ∙ ap (λ l. l ++ pair_bytes id) so_far.pairs
          ∙ sym (ap (λ n. journal_bytes (take n ids)) next ∙ ap journal_bytes (take_one ids count id short there) ∙ flat_map-append pair_bytes (take count ids) (id ∷ []) ∙ ap (λ l. journal_bytes (take count ids) ++ l) (append-nil (pair_bytes id)));
      size = size ∙ so_far.size;
    }

-- ---- where the pairs stand in the journal

pub journal_piece : (ids : List ℕ) (k n : ℕ) → k ≤ length ids → journal_bytes (take n (drop k ids)) ≡ take (16 * min n (length ids - k)) (drop (16 * k) (journal_bytes ids))
journal_piece ids k n short =
    let rest = drop k ids in
    let count : length (take n rest) ≡ min n (length ids - k) = length-take n rest ∙ ap (min n) (length-drop k ids) in
    let front : length (journal_bytes (take k ids)) ≡ 16 * k = length-journal_bytes (take k ids) ∙ ap (λ m. 16 * m) (length-take-le k ids short) in
    let split : journal_bytes ids ≡ journal_bytes (take k ids) ++ journal_bytes rest =
    ap journal_bytes (sym (take-append-drop k ids)) ∙ flat_map-append pair_bytes (take k ids) rest in
    let behind : drop (16 * k) (journal_bytes ids) ≡ journal_bytes rest =
    ap (drop (16 * k)) split ∙ ap (λ m. drop m (journal_bytes (take k ids) ++ journal_bytes rest)) (sym front) ∙ drop-append_seam (journal_bytes (take k ids)) (journal_bytes rest) in
    let parts : journal_bytes rest ≡ journal_bytes (take n rest) ++ journal_bytes (drop n rest) =
    ap journal_bytes (sym (take-append-drop n rest)) ∙ flat_map-append pair_bytes (take n rest) (drop n rest) in
    sym (ap (take (16 * min n (length ids - k))) (behind ∙ parts)
    ∙ take_at (journal_bytes (take n rest)) (journal_bytes (drop n rest)) (16 * min n (length ids - k)) (length-journal_bytes (take n rest) ∙ ap (λ m. 16 * m) count))

-- the ids of a piece
pub front_of : {A : Type 0} (xs : List A) (at n : ℕ) → n ≡ min (length (take (length xs - at) (drop at xs))) 2048 → take n (take (length xs - at) (drop at xs)) ≡ take 2048 (drop at xs)
front_of {A} xs at n is = ap (take n) all ∙ by_length (cases_lt 2048 (length (drop at xs)))
  where
    all : take (length xs - at) (drop at xs) ≡ drop at xs
    all = take_all (length xs - at) (drop at xs) (omega (arith, length-drop at xs))

    count : n ≡ min (length (drop at xs)) 2048
    count = is ∙ ap (λ (l : List A). min (length l) 2048) all

    by_length : (2048 < length (drop at xs)) ⊎ (length (drop at xs) ≤ 2048) → take n (drop at xs) ≡ take 2048 (drop at xs)
    by_length (inl more) = let full : n ≡ 2048 = omega (arith, count, more) in ap (λ m. take m (drop at xs)) full
    by_length (inr less) = take_all n (drop at xs) (omega (arith, count, less)) ∙ sym (take_all 2048 (drop at xs) less)
