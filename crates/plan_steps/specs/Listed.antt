-- Whether two kinds of file are one, and whether a file is in a plan's list.
use Rattle.std.proofs.Common.{◌≡◌, ◌≢◌, ◌⊎◌, inl, inr, ⊎_elim, ℕ, zero, suc, List, [], ◌∷◌, Some, refl, sym, ◌∙◌, ap}
use Rattle.std.specs.Prelude.{slice_get}
use Rattle.std.proofs.lemmas.Bool.{cases_eq}
use Rattle.image_meaning.specs.Laws.Options.{none_some, some_is}
use Rattle.file_names.specs.declared.Kind.{Kind}
use Rattle.file_names.specs.declared.Kind.TheVariants.{Dat, Idx, Cpd, Cpx, Shard, Ecx, Ecj, Vif}
use Rattle.plan_steps.specs.declared.plan.FileState.{FileState}
use Rattle.plan_steps.specs.Fitting.{IsOther}

-- the kinds, numbered
number_of : Kind → ℕ
number_of Dat = 0
number_of Idx = 1
number_of Cpd = 2
number_of Cpx = 3
number_of Ecx = 4
number_of Ecj = 5
number_of Vif = 6
number_of (Shard i) = suc (suc (suc (suc (suc (suc (suc i))))))

kind_by : ℕ → Kind
kind_by zero = Dat
kind_by (suc zero) = Idx
kind_by (suc (suc zero)) = Cpd
kind_by (suc (suc (suc zero))) = Cpx
kind_by (suc (suc (suc (suc zero)))) = Ecx
kind_by (suc (suc (suc (suc (suc zero))))) = Ecj
kind_by (suc (suc (suc (suc (suc (suc zero)))))) = Vif
kind_by (suc (suc (suc (suc (suc (suc (suc i))))))) = Shard i

kind_again : (kind : Kind) → kind_by (number_of kind) ≡ kind
unfolding kind_by number_of
kind_again Dat = refl
kind_again Idx = refl
kind_again Cpd = refl
kind_again Cpx = refl
kind_again Ecx = refl
kind_again Ecj = refl
kind_again Vif = refl
kind_again (Shard i) = refl

pub kind_cases : (a b : Kind) → (a ≡ b) ⊎ (a ≢ b)
kind_cases a b = ⊎_elim (λ e. inl (sym (kind_again a) ∙ ap kind_by e ∙ kind_again b)) (λ other. inr (λ e. other (ap number_of e))) (cases_eq (number_of a) (number_of b))

-- the file's place in the list and its state
abbrev pub IsListed : List FileState → ℕ → Kind → Type 0
IsListed states server kind = (j : ℕ) × (s : FileState) × (slice_get states j ≡ Some s) × (s.server ≡ server) × (s.kind ≡ kind)

pub listed_or_other : (states : List FileState) (server : ℕ) (kind : Kind) → IsListed states server kind ⊎ IsOther states server kind
listed_or_other [] server kind = inr (λ j s at a b. none_some at)
listed_or_other (t ∷ states) server kind = ⊎_elim
    (λ listed. inl (suc listed.0, listed.1, listed.2, listed.3, listed.4))
    (λ other. by_first (cases_eq t.server server) (kind_cases t.kind kind) other)
    (listed_or_other states server kind)
  where
    by_first : (t.server ≡ server) ⊎ (t.server ≢ server) → (t.kind ≡ kind) ⊎ (t.kind ≢ kind) → IsOther states server kind → IsListed (t ∷ states) server kind ⊎ IsOther (t ∷ states) server kind
    by_first (inl a) (inl b) other = inl (0, t, refl, a, b)
    by_first (inl a) (inr apart) other = inr (λ j. at_kind j)
      where
        at_kind : (j : ℕ) (s : FileState) → slice_get (t ∷ states) j ≡ Some s → s.server ≡ server → s.kind ≡ kind → ⊥
        at_kind zero s at a b = apart (ap (λ (x : FileState). x.kind) (some_is t s at) ∙ b)
        at_kind (suc j) s at a b = other j s at a b
    by_first (inr apart) either other = inr (λ j. at_server j)
      where
        at_server : (j : ℕ) (s : FileState) → slice_get (t ∷ states) j ≡ Some s → s.server ≡ server → s.kind ≡ kind → ⊥
        at_server zero s at a b = apart (ap (λ (x : FileState). x.server) (some_is t s at) ∙ a)
        at_server (suc j) s at a b = other j s at a b
