-- The removal of listed files, one by one.
use Rattle.std.proofs.Common.{◌≡◌, inl, inr, ℕ, ◌+◌, ◌<◌, ◌≤◌, List, length, None, sym, ◌∙◌, ap, subst, arith}
use Rattle.std.specs.Prelude.{slice_index_or}
use Rattle.std.proofs.lemmas.Bool.{cases_eq}
use Rattle.std.proofs.lemmas.List.{get_or_default}
use Rattle.std.proofs.lemmas.List.Elements.{Contains-get_or}
use Rattle.site_model.specs.Disk.{Files, Disk}
use Rattle.whole_file.specs.Whole.{Clears}
use Rattle.file_names.specs.Names.{name_bytes}
use Rattle.site_recovery.specs.declared.forms.Listed.{Listed}
use Rattle.site_recovery.specs.declared.forms.Goes.{Goes}
use Rattle.site_recovery.specs.Changes.{LacksSome, TakesAway}
use Rattle.site_recovery.specs.Removing.{place_in, IsGoing, IsGoingAt, IsGoingAmong, AreGone}
use Rattle.site_recovery.proofs.Taking.{takes_clear, takes_more}
use Rattle.site_recovery.proofs.Gone.{stays_gone}

-- the file goes
pub takes_one : (which : Goes) (l : Listed) (name : List ℕ) {old new : Disk} → name ≡ name_bytes l.file → IsGoing which l → Clears (l.server, name) old new → TakesAway (IsGoingAt which l) old new
takes_one which l name e is clears = takes_clear (is, (λ i. (l.server, e i))) clears

-- of the first n files those that go are gone
abbrev pub AreGoneBelow : Goes → List Listed → ℕ → Files → Type 0
AreGoneBelow which found n files = (l : Listed) (k : ℕ) → k < n → slice_index_or found k l ≡ l → IsGoing which l → files (place_in l) ≡ None

module _ (which : Goes) (found : List Listed) where
  pub gone_before : (files : Files) → AreGoneBelow which found 0 files
  gone_before files l k low at is = absurd (omega arith)

  module _ (n : ℕ) (d : Listed) (fits : n < length found) where
    abbrev this : Listed
    this = slice_index_or found n d

    pub takes_this : {old new : Disk} → TakesAway (IsGoingAt which this) old new → TakesAway (IsGoingAmong which found) old new
    takes_this takes = takes_more (λ k is. (this, Contains-get_or found n d fits, is)) takes

    pub gone_next : (old new : Files) → LacksSome (IsGoingAmong which found) old new → AreGoneBelow which found n old → (IsGoing which this → new (place_in this) ≡ None) → AreGoneBelow which found (n + 1) new
    gone_next old new lacks below gone l k low at is = elim (cases_eq k n) [
      | inl same ↦
          let it : this ≡ l = get_or_default found n d l fits ∙ ap (λ j. slice_index_or found j l) (sym same) ∙ at in
          subst (λ (w : Listed). new (place_in w) ≡ None) it (gone (subst (IsGoing which) (sym it) is))
      | inr other ↦ stays_gone (place_in l) lacks (below l k (omega arith) at is)
    ]

  pub gone_all_listed : (n : ℕ) (files : Files) → length found ≤ n → AreGoneBelow which found n files → AreGone which found files
  gone_all_listed n files all below l has is = below l has.0 (omega (arith, has.1, all)) has.2 is
