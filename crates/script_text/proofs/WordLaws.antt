-- The words of a line, from its front.
use Rattle.std.proofs.Common.{◌≡◌, ℕ, suc, ◌+◌, ◌<◌, ◌==◌, not, nat_lt, Bool, true, false, cond, List, [], ◌∷◌, length, take, drop, refl, sym, ap, subst, ◌∙◌, arith}
use Rattle.std.specs.Prelude.{filter}
use Rattle.std.specs.List.{prefix_len}
use Rattle.std.proofs.lemmas.Bool.{lt-ltb, cond-true, cases_Bool}
use Rattle.std.proofs.Math.Logic.{⊎_elim}
use Rattle.script_text.specs.Lines.{onto_first, parts_at, words}

-- how many spaces stand in front, and how many bytes before the first space
abbrev pub spaces : List ℕ → ℕ
spaces text = prefix_len (λ b. b == 32) text

abbrev pub letters : List ℕ → ℕ
letters text = prefix_len (λ b. not (b == 32)) text

abbrev not_empty : List ℕ → Bool
not_empty word = nat_lt 0 (length word)

keep_first : (b : ℕ) (w : List ℕ) (ws : List (List ℕ)) → filter not_empty ((b ∷ w) ∷ ws) ≡ (b ∷ w) ∷ filter not_empty ws
keep_first b w ws = cond-true (not_empty (b ∷ w)) ((b ∷ w) ∷ filter not_empty ws) (filter not_empty ws) (lt-ltb 0 (length (b ∷ w)) (omega arith))

-- one byte more in front of a first part that isn't empty
one_more : (b c : ℕ) (ps : List (List ℕ)) (w : List ℕ) (ws : List (List ℕ)) → filter not_empty (onto_first c ps) ≡ (c ∷ w) ∷ ws → filter not_empty (onto_first b (onto_first c ps)) ≡ (b ∷ c ∷ w) ∷ ws
one_more b c [] w ws e =
    let h : (c ∷ []) ∷ [] ≡ (c ∷ w) ∷ ws = sym (keep_first c [] []) ∙ e in
    let first : [] ≡ w = cc in
    let rest : [] ≡ ws = cc in
    keep_first b (c ∷ []) [] ∙ (λ i. (b ∷ c ∷ first i) ∷ rest i)
one_more b c (p ∷ ps) w ws e =
    let h : (c ∷ p) ∷ filter not_empty ps ≡ (c ∷ w) ∷ ws = sym (keep_first c p ps) ∙ e in
    let first : p ≡ w = cc in
    let rest : filter not_empty ps ≡ ws = cc in
    keep_first b (c ∷ p) ps ∙ (λ i. (b ∷ c ∷ first i) ∷ rest i)

-- ---- a space in front, and another byte

parts-letter : (c : ℕ) (xs : List ℕ) → (c == 32) ≡ false → parts_at 32 (c ∷ xs) ≡ onto_first c (parts_at 32 xs)
parts-letter c xs e = ap (λ t. cond t ([] ∷ parts_at 32 xs) (onto_first c (parts_at 32 xs))) e

parts-space : (c : ℕ) (xs : List ℕ) → (c == 32) ≡ true → parts_at 32 (c ∷ xs) ≡ [] ∷ parts_at 32 xs
parts-space c xs e = ap (λ t. cond t ([] ∷ parts_at 32 xs) (onto_first c (parts_at 32 xs))) e

words-space : (c : ℕ) (xs : List ℕ) → (c == 32) ≡ true → words (c ∷ xs) ≡ words xs
words-space c xs e = ap (filter not_empty) (parts-space c xs e)

letters-space : (c : ℕ) (xs : List ℕ) → (c == 32) ≡ true → letters (c ∷ xs) ≡ 0
letters-space c xs e = ap (λ t. cond (not t) (1 + letters xs) 0) e

letters-letter : (c : ℕ) (xs : List ℕ) → (c == 32) ≡ false → letters (c ∷ xs) ≡ suc (letters xs)
letters-letter c xs e = ap (λ t. cond (not t) (1 + letters xs) 0) e ∙ omega arith

spaces-space : (c : ℕ) (xs : List ℕ) → (c == 32) ≡ true → spaces (c ∷ xs) ≡ suc (spaces xs)
spaces-space c xs e = ap (λ t. cond t (1 + spaces xs) 0) e ∙ omega arith

spaces-letter : (c : ℕ) (xs : List ℕ) → (c == 32) ≡ false → spaces (c ∷ xs) ≡ 0
spaces-letter c xs e = ap (λ t. cond t (1 + spaces xs) 0) e

-- ---- the first word

-- the first n bytes as a word, and the words behind them
abbrev cut_at : ℕ → List ℕ → List (List ℕ)
cut_at n xs = take n xs ∷ words (drop n xs)

-- a word that has begun goes to the first space
word_on : (b : ℕ) (xs : List ℕ) → filter not_empty (onto_first b (parts_at 32 xs)) ≡ (b ∷ take (letters xs) xs) ∷ words (drop (letters xs) xs)
word_on b [] = keep_first b [] []
word_on b (c ∷ xs) = ⊎_elim
    (λ (e : (c == 32) ≡ true). ap (λ ps. filter not_empty (onto_first b ps)) (parts-space c xs e) ∙ keep_first b [] (parts_at 32 xs)
    ∙ ap (λ ws. (b ∷ []) ∷ ws) (sym (words-space c xs e)) ∙ ap (λ n. (b ∷ take n (c ∷ xs)) ∷ words (drop n (c ∷ xs))) (sym (letters-space c xs e)))
    (λ (e : (c == 32) ≡ false). ap (λ ps. filter not_empty (onto_first b ps)) (parts-letter c xs e)
    ∙ one_more b c (parts_at 32 xs) (take (letters xs) xs) (words (drop (letters xs) xs)) (word_on c xs)
    ∙ ap (λ n. (b ∷ take n (c ∷ xs)) ∷ words (drop n (c ∷ xs))) (sym (letters-letter c xs e)))
    (cases_Bool (c == 32))

-- What stands behind the spaces in front: nothing, or the first word.
pub words-none : (xs : List ℕ) → length (drop (spaces xs) xs) ≡ 0 → words xs ≡ []
words-none [] h = refl
words-none (c ∷ xs) h = ⊎_elim
    (λ (e : (c == 32) ≡ true). words-space c xs e ∙ words-none xs (ap (λ n. length (drop n (c ∷ xs))) (sym (spaces-space c xs e)) ∙ h))
    (λ (e : (c == 32) ≡ false). absurd (some (ap (λ n. length (drop n (c ∷ xs))) (sym (spaces-letter c xs e)) ∙ h)))
    (cases_Bool (c == 32))
  where
    some : suc (length xs) ≡ 0 → ⊥
    some k = omega arith

pub words-first : (xs : List ℕ) → 0 < length (drop (spaces xs) xs) → words xs ≡ cut_at (letters (drop (spaces xs) xs)) (drop (spaces xs) xs)
words-first [] h = absurd (omega arith)
words-first (c ∷ xs) h = ⊎_elim
    (λ (e : (c == 32) ≡ true).
    let behind = ap (λ n. drop n (c ∷ xs)) (spaces-space c xs e) in
    words-space c xs e ∙ words-first xs (subst (λ ys. 0 < length ys) behind h) ∙ ap (λ ys. cut_at (letters ys) ys) (sym behind))
    (λ (e : (c == 32) ≡ false).
    let here = ap (λ n. drop n (c ∷ xs)) (spaces-letter c xs e) in
    ap (filter not_empty) (parts-letter c xs e) ∙ word_on c xs
    ∙ ap (λ n. cut_at n (c ∷ xs)) (sym (letters-letter c xs e)) ∙ ap (λ ys. cut_at (letters ys) ys) (sym here))
    (cases_Bool (c == 32))

-- the first word and what follows it, as they are cut off
pub words-cut : (xs rest word more : List ℕ) (s n : ℕ) → s ≡ spaces xs → rest ≡ drop s xs → 0 < length rest → n ≡ letters rest → word ≡ take n rest → more ≡ drop n rest → words xs ≡ word ∷ words more
words-cut xs rest word more s n es er h en ew em =
    let behind : drop (spaces xs) xs ≡ rest = ap (λ m. drop m xs) (sym es) ∙ sym er in
    words-first xs (subst (λ ys. 0 < length ys) (sym behind) h) ∙ ap (λ ys. cut_at (letters ys) ys) behind ∙ ap (λ m. cut_at m rest) (sym en)
    ∙ (λ i. sym ew i ∷ words (sym em i))
