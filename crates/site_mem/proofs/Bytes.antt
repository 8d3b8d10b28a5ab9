-- Bytes of a file that is made or grows.
use Rattle.std.proofs.Common.{◌≡◌, ℕ, ◌<◌, ◌≤◌, suc, Bool, cond, List, [], ◌∷◌, ◌++◌, length, get_or, sym, subst, arith, length-append}
use Rattle.std.proofs.lemmas.Bool.{cond_both}
use Rattle.site_model.specs.Disk.{AreBytes}

-- numbers below 256 at each place
pub bytes_are : (xs : List ℕ) → ((k : ℕ) → get_or xs k 0 < 256) → AreBytes xs
bytes_are [] h = tt
bytes_are (x ∷ xs) h = (h 0, bytes_are xs (λ k. h (suc k)))

bytes_append : (xs ys : List ℕ) → AreBytes xs → AreBytes ys → AreBytes (xs ++ ys)
bytes_append [] ys h k = k
bytes_append (x ∷ xs) ys h k = (h.0, bytes_append xs ys h.1 k)

-- Bytes are put behind others, or not.
module _ (is_done : Bool) (old more new : List ℕ) (is : new ≡ cond is_done (old ++ more) old) where
  pub bytes_more : AreBytes old → ((k : ℕ) → get_or more k 0 < 256) → AreBytes new
  bytes_more h each = subst AreBytes (sym is) (cond_both is_done (old ++ more) old AreBytes (λ _. bytes_append old more h (bytes_are more each)) (λ _. h))

  pub no_shorter : (n : ℕ) → n ≤ length old → n ≤ length new
  no_shorter n fits = subst (λ l. n ≤ length l) (sym is) (cond_both is_done (old ++ more) old (λ l. n ≤ length l) (λ _. omega (arith, length-append old more, fits)) (λ _. fits))
