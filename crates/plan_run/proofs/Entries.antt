-- Pieces of a coded index, which an encode writes.
use Rattle.std.proofs.Common.{◌≡◌, ℕ, zero, suc, ◌+◌, ◌-◌, ◌*◌, ◌<◌, ◌≤◌, List, [], ◌∷◌, ◌++◌, length, take, drop, get_or, refl, sym, ◌∙◌, ap, arith, length-append, take-append-drop}
use Rattle.std.specs.Prelude.{flat_map, min}
use Rattle.std.specs.Int.{w32, cast_unsigned}
use Rattle.std.proofs.lemmas.List.{take_at, append-nil, length-take-le, length-take, length-drop, drop-drop}
use Rattle.std.proofs.Math.Seq.{drop-append_seam}
use Rattle.std.proofs.lemmas.Grind.{flat_map-append}
use Rattle.wire_num.specs.Numbers.{bytes_of}
use Rattle.wire_num.specs.Laws.Number.{length-bytes_of}
use Rattle.volume_forms.specs.declared.Entry.{Entry}
use Rattle.volume_forms.specs.Forms.{entry_bytes}
use Rattle.plan_run.proofs.Pairs.{put_front, put_size}

entry_long : (e : Entry) → length (entry_bytes e) ≡ 16
entry_long e =
    length-append (bytes_of 8 e.id ++ bytes_of 4 e.offset) (bytes_of 4 (cast_unsigned w32 e.size))
    ∙ ap (λ n. n + length (bytes_of 4 (cast_unsigned w32 e.size))) (length-append (bytes_of 8 e.id) (bytes_of 4 e.offset))
    ∙ λ i. length-bytes_of 8 e.id i + length-bytes_of 4 e.offset i + length-bytes_of 4 (cast_unsigned w32 e.size) i

pub entries_long : (es : List Entry) → length (flat_map entry_bytes es) ≡ 16 * length es
entries_long [] = refl
entries_long (e ∷ es) = length-append (entry_bytes e) (flat_map entry_bytes es) ∙ omega (arith, entry_long e, entries_long es)

behind : (at : ℕ) (out : List ℕ) → drop ((at + 16) - at) (drop at out) ≡ drop (at + 16) out
behind at out = drop-drop ((at + 16) - at) at out ∙ ap (λ k. drop k out) (omega arith)

pub entry_put : (old new field : List ℕ) (at : ℕ) (e : Entry) → new ≡ take at old ++ (field ++ drop ((at + 16) - at) (drop at old)) → field ≡ entry_bytes e → at + 16 ≤ length old
    → (take (at + 16) new ≡ take at old ++ entry_bytes e) × (length new ≡ length old)
entry_put old new field at e is spelled room =
    let whole : new ≡ take at old ++ (entry_bytes e ++ drop (at + 16) old) = is ∙ λ i. take at old ++ (spelled i ++ behind at old i) in
    (put_front old new (entry_bytes e) at 16 whole (entry_long e) room, put_size old new (entry_bytes e) at 16 whole (entry_long e) room)

-- ---- the room that is filled

pub record AreFilled (count : ℕ) (entries : List Entry) (first room : List ℕ) : Type 0 where
  pub spelled : take (16 * count) room ≡ flat_map entry_bytes (take count entries)
  pub size : length room ≡ length first

take_one : (xs : List Entry) (k : ℕ) (x : Entry) → k < length xs → x ≡ get_or xs k x → take (suc k) xs ≡ take k xs ++ x ∷ []
take_one [] k x short there = absurd (omega (arith, short))
take_one (y ∷ ys) zero x short there = ap (λ z. z ∷ []) (sym there)
take_one (y ∷ ys) (suc k) x short there = ap (λ zs. y ∷ zs) (take_one ys k x (omega (arith, short)) there)

pub one_more : (count : ℕ) (entries : List Entry) (first old new : List ℕ) (e : Entry) → AreFilled count entries first old → count < length entries → e ≡ get_or entries count e → take (16 * count + 16) new ≡ take (16 * count) old ++ entry_bytes e
    → length new ≡ length old → AreFilled (count + 1) entries first new
one_more count entries first old new e so_far short there put size =
    let next : count + 1 ≡ suc count = omega arith in
    let end : 16 * (count + 1) ≡ 16 * count + 16 = omega arith in record {
      spelled = ap (λ n. take n new) end ∙ put ∙ ap (λ l. l ++ entry_bytes e) so_far.spelled
          ∙ sym (ap (λ n. flat_map entry_bytes (take n entries)) next ∙ ap (flat_map entry_bytes) (take_one entries count e short there) ∙ flat_map-append entry_bytes (take count entries) (e ∷ [])
          ∙ ap (λ l. flat_map entry_bytes (take count entries) ++ l) (append-nil (entry_bytes e)));
      size = size ∙ so_far.size;
    }

-- ---- where the entries stand in the index

pub entries_piece : (es : List Entry) (k n : ℕ) → k ≤ length es → flat_map entry_bytes (take n (drop k es)) ≡ take (16 * min n (length es - k)) (drop (16 * k) (flat_map entry_bytes es))
entries_piece es k n short =
    let rest = drop k es in
    let count : length (take n rest) ≡ min n (length es - k) = length-take n rest ∙ ap (min n) (length-drop k es) in
    let front : length (flat_map entry_bytes (take k es)) ≡ 16 * k = entries_long (take k es) ∙ ap (λ m. 16 * m) (length-take-le k es short) in
    let split : flat_map entry_bytes es ≡ flat_map entry_bytes (take k es) ++ flat_map entry_bytes rest =
    ap (flat_map entry_bytes) (sym (take-append-drop k es)) ∙ flat_map-append entry_bytes (take k es) rest in
    let after : drop (16 * k) (flat_map entry_bytes es) ≡ flat_map entry_bytes rest =
    ap (drop (16 * k)) split ∙ ap (λ m. drop m (flat_map entry_bytes (take k es) ++ flat_map entry_bytes rest)) (sym front) ∙ drop-append_seam (flat_map entry_bytes (take k es)) (flat_map entry_bytes rest) in
    let parts : flat_map entry_bytes rest ≡ flat_map entry_bytes (take n rest) ++ flat_map entry_bytes (drop n rest) =
    ap (flat_map entry_bytes) (sym (take-append-drop n rest)) ∙ flat_map-append entry_bytes (take n rest) (drop n rest) in
    sym (ap (take (16 * min n (length es - k))) (after ∙ parts)
    ∙ take_at (flat_map entry_bytes (take n rest)) (flat_map entry_bytes (drop n rest)) (16 * min n (length es - k)) (entries_long (take n rest) ∙ ap (λ m. 16 * m) count))
