-- A carriage return at the end of a line.
use Rattle.std.proofs.Common.{◌≡◌, ◌≢◌, ℕ, ◌==◌, true, false, List, [], ◌∷◌, ◌++◌, Option, Some, None, refl, sym, ap, ◌∙◌}
use Rattle.std.specs.Prelude.{MatchOption}
use Rattle.std.specs.Option.{unwrap_or}
use Rattle.std.proofs.Math.Logic.{⊎_elim}
use Rattle.std.proofs.lemmas.Bool.{cases_Bool, eqb-true, cond-false}
use denote.Ref.{Bor}
use Rattle.script_text.specs.Lines.{without_return}

-- the return goes
pub without_return-return : (front : List ℕ) → without_return (front ++ 13 ∷ []) ≡ front
without_return-return [] = refl
without_return-return (b ∷ []) = refl
without_return-return (b ∷ c ∷ front) = ap (λ rest. b ∷ rest) (without_return-return (c ∷ front))

-- another end stays
pub without_return-other : (line : List ℕ) → ((front : List ℕ) → line ≢ front ++ 13 ∷ []) → without_return line ≡ line
without_return-other [] h = refl
without_return-other (b ∷ []) h =
    ⊎_elim (λ (e : (b == 13) ≡ true). absurd (h [] (ap (λ x. x ∷ []) (eqb-true b 13 e)))) (λ (e : (b == 13) ≡ false). cond-false (b == 13) [] (b ∷ []) e) (cases_Bool (b == 13))
without_return-other (b ∷ c ∷ line) h = ap (λ rest. b ∷ rest) (without_return-other (c ∷ line) (λ front e. h (b ∷ front) (ap (λ rest. b ∷ rest) e)))

pub without_return-is : (line : Bor (List ℕ)) (found : Option (Bor (List ℕ))) (kept : Bor (List ℕ)) → MatchOption found ((front : List ℕ) → line.now ≢ front ++ 13 ∷ []) (λ x. line.now ≡ x.now ++ 13 ∷ []) → kept ≡ unwrap_or found line → kept.now ≡ without_return line.now
without_return-is line None kept m e = ap (λ (b : Bor (List ℕ)). b.now) e ∙ sym (without_return-other line.now m)
without_return-is line (Some x) kept m e = ap (λ (b : Bor (List ℕ)). b.now) e ∙ sym (ap without_return m ∙ without_return-return x.now)
