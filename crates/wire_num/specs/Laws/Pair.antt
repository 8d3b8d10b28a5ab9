-- Which pairs a journal has, whatever stands behind them.
use Rattle.std.proofs.Common.{◌≡◌, ℕ, zero, suc, ◌+◌, ◌-◌, ◌*◌, ◌/◌, ◌^◌, ◌<◌, ◌≤◌, Bool, true, false, cond, List, [], ◌∷◌, ◌++◌, length, take, drop, refl, sym, ◌∙◌, ap, arith, append_assoc}
use Rattle.std.specs.Prelude.{◌==◌, ◌⊎◌}
use Rattle.std.specs.List.{AllByRecursion}
use Rattle.std.proofs.Common.{inl, inr}
use Rattle.std.proofs.lemmas.List.{length-drop, append-nil, drop-drop, take-append-drop}
use Rattle.std.proofs.Math.ListN.{length-append}
use Rattle.std.proofs.Math.Seq.{drop-append_seam}
use Rattle.std.proofs.lemmas.Bool.{eq-eqb, eqb-true, cases_lt}
use Rattle.std.proofs.lemmas.Grind.{flat_map-append}
use Rattle.wire_num.specs.Numbers.{number_of, bytes_of}
use Rattle.wire_num.specs.Laws.Number.{AreBytes, bytes_drop, bytes_there, number_of-append, length-bytes_of, number_of-bytes_of}
use Rattle.wire_num.specs.Pairs.{pairs, pairs_within, pair_bytes, journal_bytes}

-- these are ids: they fit eight bytes
abbrev pub AreIds : List ℕ → Type 0
AreIds ids = AllByRecursion (λ id. id < 2 ^ 64) ids

-- fewer bytes than a pair has are none
pub pairs_short : (bytes : List ℕ) → length bytes < 16 → pairs bytes ≡ []
unfolding pairs pairs_within
pairs_short bytes h = ap (λ n. pairs_within n bytes) (none (length bytes) h)
  where
    none : (n : ℕ) → n < 16 → n / 16 ≡ zero
    none n h = omega arith

-- the first pair, if its halves are equal, and then the others
pub pairs_next : (bytes : List ℕ) → 16 ≤ length bytes → pairs bytes ≡ cond (number_of 8 bytes == number_of 8 (drop 8 bytes)) (number_of 8 bytes ∷ pairs (drop 16 bytes)) []
unfolding pairs pairs_within
pairs_next bytes h =
    ap (λ n. pairs_within n bytes) (one_more (length bytes) (length (drop 16 bytes)) h (length-drop 16 bytes))
  where
    one_more : (n m : ℕ) → 16 ≤ n → m ≡ n - 16 → n / 16 ≡ suc (m / 16)
    one_more n m h e = omega arith

-- two halves of eight bytes
pub pairs_halves : (a b rest : List ℕ) → length a ≡ 8 → length b ≡ 8 → pairs (a ++ (b ++ rest)) ≡ cond (number_of 8 a == number_of 8 b) (number_of 8 a ∷ pairs rest) []
pairs_halves a b rest p q =
    let first : number_of 8 (a ++ (b ++ rest)) ≡ number_of 8 a = number_of-append 8 a (b ++ rest) (omega arith) in
    let behind : drop 8 (a ++ (b ++ rest)) ≡ b ++ rest = ap (λ n. drop n (a ++ (b ++ rest))) (sym p) ∙ drop-append_seam a (b ++ rest) in
    let second : number_of 8 (drop 8 (a ++ (b ++ rest))) ≡ number_of 8 b = ap (number_of 8) behind ∙ number_of-append 8 b rest (omega arith) in
    let both : length (a ++ b) ≡ 16 = omega (arith, length-append a b) in
    let last : drop 16 (a ++ (b ++ rest)) ≡ rest = ap (drop 16) (sym (append_assoc a b rest)) ∙ ap (λ n. drop n ((a ++ b) ++ rest)) (sym both) ∙ drop-append_seam (a ++ b) rest in
    pairs_next (a ++ (b ++ rest)) (omega (arith, length-append a (b ++ rest), length-append b rest))
    ∙ ap (λ x. cond (x == number_of 8 (drop 8 (a ++ (b ++ rest)))) (x ∷ pairs (drop 16 (a ++ (b ++ rest)))) []) first
    ∙ ap (λ x. cond (number_of 8 a == x) (number_of 8 a ∷ pairs (drop 16 (a ++ (b ++ rest)))) []) second
    ∙ ap (λ l. cond (number_of 8 a == number_of 8 b) (number_of 8 a ∷ pairs l) []) last

half_is : (id : ℕ) → id < 2 ^ 64 → number_of 8 (bytes_of 8 id) ≡ id
half_is id h = ap (number_of 8) (sym (append-nil (bytes_of 8 id))) ∙ number_of-bytes_of 8 id [] (omega arith)

-- an id that stands twice
pub pairs_pair : (id : ℕ) (rest : List ℕ) → id < 2 ^ 64 → pairs (pair_bytes id ++ rest) ≡ id ∷ pairs rest
pairs_pair id rest h =
    let is : number_of 8 (bytes_of 8 id) ≡ id = half_is id h in
    ap pairs (append_assoc (bytes_of 8 id) (bytes_of 8 id) rest)
    ∙ pairs_halves (bytes_of 8 id) (bytes_of 8 id) rest (length-bytes_of 8 id) (length-bytes_of 8 id)
    ∙ ap (λ x. cond (x == x) (x ∷ pairs rest) []) is
    ∙ ap (λ b. cond b (id ∷ pairs rest) []) (eq-eqb id id refl)

-- a journal with something behind it
pub pairs_journal : (ids rest : List ℕ) → AreIds ids → pairs (journal_bytes ids ++ rest) ≡ ids ++ pairs rest
pairs_journal [] rest h = refl
pairs_journal (id ∷ ids) rest h =
    ap pairs (append_assoc (pair_bytes id) (journal_bytes ids) rest) ∙ pairs_pair id (journal_bytes ids ++ rest) h.0 ∙ ap (λ l. id ∷ l) (pairs_journal ids rest h.1)

-- a journal has the ids that it was made of
pub pairs_of_journal : (ids : List ℕ) → AreIds ids → pairs (journal_bytes ids) ≡ ids
pairs_of_journal ids h = ap pairs (sym (append-nil (journal_bytes ids))) ∙ pairs_journal ids [] h ∙ ap (λ l. ids ++ l) (pairs_short [] (omega arith)) ∙ append-nil ids

pub length-journal_bytes : (ids : List ℕ) → length (journal_bytes ids) ≡ 16 * length ids
length-journal_bytes [] = refl
length-journal_bytes (id ∷ ids) =
    let one : length (pair_bytes id) ≡ 16 = length-append (bytes_of 8 id) (bytes_of 8 id) ∙ omega (arith, length-bytes_of 8 id) in
    omega (arith, length-append (pair_bytes id) (journal_bytes ids), one, length-journal_bytes ids)

-- ---- an id more, a half at a time

-- The bytes have the ids or one more, and at most 16 bytes behind.
pub record HasOrGains (ids : List ℕ) (id : ℕ) (bytes : List ℕ) : Type 0 where
  pub pairs_are : (pairs bytes ≡ ids) ⊎ (pairs bytes ≡ ids ++ id ∷ [])
  pub rest : length bytes ≤ 16 * length (pairs bytes) + 16

has_ids : (ids : List ℕ) (id : ℕ) (rest : List ℕ) → AreIds ids → pairs rest ≡ [] → length rest ≤ 16 → HasOrGains ids id (journal_bytes ids ++ rest)
has_ids ids id rest h none short =
    let is : pairs (journal_bytes ids ++ rest) ≡ ids = pairs_journal ids rest h ∙ ap (λ l. ids ++ l) none ∙ append-nil ids in
    record {
      pairs_are = inl is;
      rest = omega (arith, length-append (journal_bytes ids) rest, length-journal_bytes ids, ap length is);
    }

-- with up to a half behind
pub has_behind : (ids : List ℕ) (id : ℕ) (more : List ℕ) → AreIds ids → length more ≤ 8 → HasOrGains ids id (journal_bytes ids ++ more)
has_behind ids id more h short = has_ids ids id more h (pairs_short more (omega arith)) (omega arith)

-- with the first half behind, and up to another
pub has_half : (ids : List ℕ) (id : ℕ) (more : List ℕ) → AreIds ids → id < 2 ^ 64 → length more ≤ 8 → HasOrGains ids id (journal_bytes ids ++ (bytes_of 8 id ++ more))
has_half ids id more h fits short = elim (cases_lt (length more) 8) [
  | inl less ↦ has_ids ids id (bytes_of 8 id ++ more) h (pairs_short (bytes_of 8 id ++ more) (omega (arith, long))) (omega (arith, long))
  | inr enough ↦ by_half (number_of 8 (bytes_of 8 id) == number_of 8 more) (whole (omega arith))
]
  where
    long : length (bytes_of 8 id ++ more) ≡ 8 + length more
    long = omega (arith, length-append (bytes_of 8 id) more, length-bytes_of 8 id)

    whole : length more ≡ 8 → pairs (bytes_of 8 id ++ more) ≡ cond (number_of 8 (bytes_of 8 id) == number_of 8 more) (number_of 8 (bytes_of 8 id) ∷ []) []
    whole is =
        ap (λ l. pairs (bytes_of 8 id ++ l)) (sym (append-nil more))
        ∙ pairs_halves (bytes_of 8 id) more [] (length-bytes_of 8 id) is
        ∙ ap (λ l. cond (number_of 8 (bytes_of 8 id) == number_of 8 more) (number_of 8 (bytes_of 8 id) ∷ l) []) (pairs_short [] (omega arith))

    by_half : (b : Bool) → pairs (bytes_of 8 id ++ more) ≡ cond b (number_of 8 (bytes_of 8 id) ∷ []) [] → HasOrGains ids id (journal_bytes ids ++ (bytes_of 8 id ++ more))
    by_half false none = has_ids ids id (bytes_of 8 id ++ more) h none (omega (arith, long))
    by_half true one =
        let is : pairs (journal_bytes ids ++ (bytes_of 8 id ++ more)) ≡ ids ++ id ∷ [] =
        pairs_journal ids (bytes_of 8 id ++ more) h ∙ ap (λ l. ids ++ l) (one ∙ ap (λ x. x ∷ []) (half_is id fits)) in
        record {
          pairs_are = inr is;
          rest = omega (arith, length-append (journal_bytes ids) (bytes_of 8 id ++ more), length-journal_bytes ids, long, ap length is, length-append ids (id ∷ []));
        }

-- both halves
pub journal_with : (ids : List ℕ) (id : ℕ) → (journal_bytes ids ++ bytes_of 8 id) ++ bytes_of 8 id ≡ journal_bytes (ids ++ id ∷ [])
journal_with ids id =
    append_assoc (journal_bytes ids) (bytes_of 8 id) (bytes_of 8 id)
    ∙ ap (λ l. journal_bytes ids ++ l) (sym (append-nil (pair_bytes id)))
    ∙ sym (flat_map-append pair_bytes ids (id ∷ []))

-- ---- bytes that are whole pairs

halves : (bytes : List ℕ) → take 8 bytes ++ (take 8 (drop 8 bytes) ++ drop 16 bytes) ≡ bytes
halves bytes =
    ap (λ l. take 8 bytes ++ (take 8 (drop 8 bytes) ++ l)) (sym (drop-drop 8 8 bytes))
    ∙ ap (λ l. take 8 bytes ++ l) (take-append-drop 8 (drop 8 bytes))
    ∙ take-append-drop 8 bytes

pair_there : (bytes : List ℕ) → AreBytes bytes → 16 ≤ length bytes → number_of 8 bytes ≡ number_of 8 (drop 8 bytes) → pair_bytes (number_of 8 bytes) ++ drop 16 bytes ≡ bytes
pair_there bytes all long same =
    append_assoc (bytes_of 8 (number_of 8 bytes)) (bytes_of 8 (number_of 8 bytes)) (drop 16 bytes)
    ∙ ap (λ l. l ++ (bytes_of 8 (number_of 8 bytes) ++ drop 16 bytes)) (bytes_there 8 0 bytes (omega arith) all)
    ∙ ap (λ l. take 8 bytes ++ (l ++ drop 16 bytes)) (ap (bytes_of 8) same ∙ bytes_there 8 8 bytes (omega arith) all)
    ∙ halves bytes

within_whole : (n : ℕ) (bytes : List ℕ) → AreBytes bytes → length bytes ≡ 16 * n → length (pairs_within n bytes) ≡ n → bytes ≡ journal_bytes (pairs_within n bytes)
unfolding pairs_within
within_whole zero [] all long whole = refl
within_whole zero (x ∷ bytes) all long whole = absurd (omega arith)
within_whole (suc n) bytes all long whole = by_halves (number_of 8 bytes == number_of 8 (drop 8 bytes)) refl whole (within_whole n (drop 16 bytes) (bytes_drop 16 bytes all) (omega (arith, length-drop 16 bytes, long)))
  where
    by_halves : (b : Bool) → (number_of 8 bytes == number_of 8 (drop 8 bytes)) ≡ b → length (cond b (number_of 8 bytes ∷ pairs_within n (drop 16 bytes)) []) ≡ suc n
        → (length (pairs_within n (drop 16 bytes)) ≡ n → drop 16 bytes ≡ journal_bytes (pairs_within n (drop 16 bytes)))
        → bytes ≡ journal_bytes (cond b (number_of 8 bytes ∷ pairs_within n (drop 16 bytes)) [])
    by_halves true e k rest =
        sym (pair_there bytes all (omega (arith, long)) (eqb-true (number_of 8 bytes) (number_of 8 (drop 8 bytes)) e))
        ∙ ap (λ l. pair_bytes (number_of 8 bytes) ++ l) (rest (omega (arith, k)))
    by_halves false e k rest = absurd (omega (arith, k))

-- bytes with nothing behind their pairs are the journal of these
pub exact_journal : (bytes : List ℕ) → AreBytes bytes → length bytes ≡ 16 * length (pairs bytes) → bytes ≡ journal_bytes (pairs bytes)
unfolding pairs
exact_journal bytes all long =
    let places : length bytes / 16 ≡ length (pairs_within (length bytes / 16) bytes) = omega (arith, long) in
    within_whole (length bytes / 16) bytes all (omega (arith, long)) (sym places)
