-- What is kept of entries, by what a scan tells of them.
use Rattle.std.proofs.Common.{◌≡◌, inr, ⊎_elim, ℕ, zero, suc, ◌-◌, ◌<◌, ◌≤◌, List, [], ◌∷◌, length, take, true, false, cond, Option, Some, None, sym, ◌∙◌, ap, arith, refl}
use Rattle.std.specs.Prelude.{slice_get}
use Rattle.std.specs.Option.{option_map_or}
use Rattle.std.proofs.lemmas.Bool.{cases_lt, false≢true}
use Rattle.std.proofs.lemmas.List.{take_all}
use Rattle.volume_forms.specs.declared.Entry.{Entry}
use Rattle.volume_forms.specs.Kept.{kept_length}
use Rattle.dat_volume.specs.declared.chain.Chain.{Chain}
use Rattle.dat_volume.specs.declared.opening.Kept.{Kept}
use Rattle.dat_volume.specs.Opening.{has_record, has_record_of, last_counts, accepted}
use Rattle.dat_volume.specs.Laws.Opening.{PassesEntries}
use Rattle.dat_volume.specs.Scanning.{end_behind, HasChain, IsAccepted}

-- there is an entry with this number
either_default : (dat : List ℕ) (es : List Entry) (n : ℕ) → n < length es → option_map_or (has_record dat) (slice_get es n) true ≡ has_record_of dat es n
either_default dat [] n h = absurd (omega arith)
either_default dat (e ∷ es) zero h = refl
either_default dat (e ∷ es) (suc n) h = either_default dat es n (omega arith)

module _ (dat : List ℕ) (es : List Entry) (chain : Chain) (has : HasChain es chain) where
  the_earlier : 3 ≤ length es → option_map_or (has_record dat) chain.earlier true ≡ has_record_of dat es (length es - 3)
  the_earlier long =
      ap (λ (o : Option Entry). option_map_or (has_record dat) o true) (has.earlier long)
      ∙ either_default dat es (length es - 3) (omega (arith, long))

  -- the last entry is kept
  pub accept_all : (kept : Kept) → PassesEntries dat es → last_counts dat es ≡ true → kept.count ≡ chain.count → kept.end ≡ end_behind chain.last → IsAccepted dat es (Some kept)
  accept_all kept passes counts count end = (
    passes,
    (λ short long. absurd (omega (arith, all, short))),
    count ∙ has.count ∙ sym all,
    end ∙ has.last_end ∙ ap kept_length (sym (take_all kept.count es (omega (arith, count, has.count)))),
  )
    where
      all : accepted dat es ≡ length es
      all = ap (λ b. cond b (length es) (length es - 1)) counts

  module _ (other : last_counts dat es ≡ false) where
    fewer : accepted dat es ≡ length es - 1
    fewer = ap (λ b. cond b (length es) (length es - 1)) other

    -- or it isn't
    pub accept_fewer : (kept : Kept) → PassesEntries dat es → option_map_or (has_record dat) chain.earlier true ≡ true → kept.count ≡ chain.count - 1 → kept.end ≡ end_behind chain.before → IsAccepted dat es (Some kept)
    accept_fewer kept passes earlier count end = (
      passes,
      (λ short long. sym (the_earlier long) ∙ earlier),
      count ∙ ap (λ n. n - 1) has.count ∙ sym fewer,
      end ∙ has.before_end ∙ ap (λ n. kept_length (take n es)) (sym (count ∙ ap (λ n. n - 1) has.count)),
    )

    -- and the last but two is without its record
    pub accept_none : option_map_or (has_record dat) chain.earlier true ≡ false → IsAccepted dat es None
    accept_none without =
        ⊎_elim
        (λ few. absurd (false≢true (sym without ∙ ap (λ (o : Option Entry). option_map_or (has_record dat) o true) (has.no_earlier few))))
        (λ long. inr (short long, long, sym (the_earlier long) ∙ without))
        (cases_lt (length es) 3)
      where
        short : 3 ≤ length es → accepted dat es < length es
        short long = omega (arith, fewer, long)
