-- No other file of a volume has the name of a journal of it.
use Rattle.std.proofs.Common.{◌≡◌, ◌≢◌, ℕ, ◌<◌, false, List, length, get_or, refl, sym, ◌∙◌, ap, arith}
use Rattle.std.specs.Prelude.{decimal}
use Rattle.site_model.specs.Disk.{Place}
use Rattle.file_names.specs.declared.Kind.{Kind}
use Rattle.file_names.specs.declared.Kind.TheVariants.{Dat, Idx, Cpd, Cpx, Shard, Ecx, Ecj, Vif}
use Rattle.file_names.specs.declared.FileName.{FileName}
use Rattle.file_names.specs.Names.{name_bytes, place_of}
use Rattle.file_names.specs.Laws.Name.{after_dot, name_in_parts, no_dot, parts_apart}
use Rattle.image_meaning.specs.Meaning.{max_volumes}

pub journal_apart : (v s t : ℕ) (kind : Kind) → v < max_volumes → kind ≢ Ecj → place_of v s kind false ≢ place_of v t Ecj false
journal_apart v s t kind h other e =
    let f : FileName = record { volume = v; kind = kind; temp = false } in
    let g : FileName = record { volume = v; kind = Ecj; temp = false } in
    let names : name_bytes f ≡ name_bytes g = ap (λ (q : Place). q.1) e in
    let apart = parts_apart (decimal v) (decimal v) (after_dot f) (after_dot g) (no_dot v h) (no_dot v h) (sym (name_in_parts f) ∙ names ∙ name_in_parts g) in
    by_kind kind other apart.1
  where
    by_kind : (kind : Kind) → kind ≢ Ecj → after_dot (record { volume = v; kind = kind; temp = false }) ≡ after_dot (record { volume = v; kind = Ecj; temp = false }) → ⊥
    by_kind Dat n e = absurd (omega (arith, ap (λ (l : List ℕ). get_or l 0 0) e))
    by_kind Idx n e = absurd (omega (arith, ap (λ (l : List ℕ). get_or l 0 0) e))
    by_kind Cpd n e = absurd (omega (arith, ap (λ (l : List ℕ). get_or l 0 0) e))
    by_kind Cpx n e = absurd (omega (arith, ap (λ (l : List ℕ). get_or l 0 0) e))
    by_kind (Shard i) n e = absurd (omega (arith, ap length e))
    by_kind Ecx n e = absurd (omega (arith, ap (λ (l : List ℕ). get_or l 2 0) e))
    by_kind Ecj n e = n refl
    by_kind Vif n e = absurd (omega (arith, ap (λ (l : List ℕ). get_or l 0 0) e))
