-- What the code counts is what the lists give.
use Rattle.std.proofs.Common.{◌≡◌, inl, inr, ℕ, ◌-◌, ◌*◌, ◌/◌, ◌%◌, List, length, take, Some, None, Ok, Err, sym, ◌∙◌, ap, subst, arith}
use Rattle.std.proofs.lemmas.Bool.{false≢true}
use Rattle.std.proofs.lemmas.List.{take_all}
use Rattle.volume_forms.specs.Forms.{entries}
use Rattle.volume_forms.specs.Laws.Entry.{length-entries}
use Rattle.image_meaning.specs.Plain.{FollowsRecords}
use Rattle.image_meaning.specs.Laws.Plain.{entries-take}
use Rattle.dat_volume.specs.declared.chain.Chain.{Chain}
use Rattle.dat_volume.specs.declared.opening.Kept.{Kept}
use Rattle.site_model.specs.declared.error.OpenFault.{OpenFault}
use Rattle.site_model.specs.declared.error.OpenFault.TheVariants as open_fault
use Rattle.dat_volume.specs.Opening.{counted, tested, end_by, Blames, TellsCount, TellsRule}
use Rattle.dat_volume.specs.Laws.Opening.{counted-gap, counted-alien, counted-earlier, counted-passed, follows-passes, follows-earlier, tested-rule}
use Rattle.dat_volume.specs.Scanning.{no_chain, with_entries, HasChain, FailsEntries, IsAccepted}
use Rattle.dat_volume.proofs.Scanned.{has_chain}

-- a scan of all whole entries
pub whole_scan : (idx : List ℕ) (size : ℕ) (chain : Chain) → size ≡ length idx → chain ≡ with_entries no_chain (entries (take (size - size % 16) idx)) → HasChain (entries idx) chain
whole_scan idx size chain long scanned = subst (HasChain (entries idx)) (sym (scanned ∙ ap (with_entries no_chain) all)) (has_chain (entries idx))
  where
    all : entries (take (size - size % 16) idx) ≡ entries idx
    all =
        ap (λ n. entries (take n idx)) (sixteens size (length idx) long) ∙ entries-take (length idx / 16) idx (omega arith)
        ∙ take_all (length idx / 16) (entries idx) (omega (arith, length-entries idx))
      where
        sixteens : (m n : ℕ) → m ≡ n → m - m % 16 ≡ 16 * (n / 16)
        sixteens m n e = omega arith

-- entries that don't pass
pub count_fails : (dat idx : List ℕ) → FailsEntries dat (entries idx) → (counted dat idx ≡ Err 1) × (FollowsRecords dat idx → ⊥)
count_fails dat idx (inl gap) = (counted-gap dat idx gap, λ follows. absurd (omega (arith, gap, (follows-passes dat idx follows).chain)))
count_fails dat idx (inr alien) = (counted-alien dat idx alien.0 alien.1, λ follows. absurd (false≢true (sym alien.1 ∙ (follows-passes dat idx follows).has alien.0)))

-- nothing is kept of them
pub none_told : (dat idx : List ℕ) → IsAccepted dat (entries idx) None → (counted dat idx ≡ Err 1) × (FollowsRecords dat idx → ⊥)
none_told dat idx (inl fails) = count_fails dat idx fails
none_told dat idx (inr alien) = (counted-earlier dat idx alien.0 alien.1 alien.2, λ follows. absurd (false≢true (sym alien.2 ∙ follows-earlier dat idx follows alien.0 alien.1)))

-- so many of entries that do
pub count_passes : (dat idx : List ℕ) (kept : Kept) → IsAccepted dat (entries idx) (Some kept) → (counted dat idx ≡ Ok kept.count) × (kept.end ≡ end_by idx kept.count)
count_passes dat idx kept accepts = (counted-passed dat idx accepts.0 accepts.1 ∙ ap (λ n. Ok n) (sym accepts.2), accepts.3)

-- the fault of a count is told of the whole test
pub rule_told : (Told : Type 0) (server v : ℕ) (dat idx : List ℕ) (fault : OpenFault) → Blames server v fault × (Told → TellsCount v dat idx fault) → Blames server v fault × (Told → TellsRule v dat idx fault)
rule_told Told server v dat idx (open_fault.Unsound volume rule) told = (
  told.0,
  λ is_told.
      let why = told.1 is_told in
      (why.0, (subst (λ n. tested dat idx ≡ Err n) (sym why.1) (tested-rule dat idx 1 why.2), inl (why.1, why.3))),
)
rule_told Told server v dat idx (open_fault.Fault blamed) told = (told.0, λ is_told. tt)
rule_told Told server v dat idx open_fault.Memory told = (told.0, λ is_told. tt)
