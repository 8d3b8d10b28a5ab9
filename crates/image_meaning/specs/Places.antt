-- Files of one volume stand at different places, whatever their kinds, those of no name too.
use Rattle.std.proofs.Common.{◌≡◌, ℕ, ◌+◌, ◌-◌, ◌*◌, ◌/◌, ◌%◌, ◌<◌, false, cond, eqb, List, ◌∷◌, length, get_or, drop, refl, sym, ◌∙◌, ap, arith}
use Rattle.std.specs.Prelude.{decimal}
use Rattle.std.proofs.lemmas.List.{append-nil}
use Rattle.file_names.specs.declared.Kind.{Kind}
use Rattle.file_names.specs.declared.Kind.TheVariants.{Dat, Idx, Cpd, Cpx, Shard, Ecx, Ecj, Vif}
use Rattle.file_names.specs.declared.FileName.{FileName}
use Rattle.file_names.specs.Names.{ending, name_bytes, place_of}
use Rattle.file_names.specs.Laws.Ending.{dotted}
use Rattle.file_names.specs.Laws.Name.{after_dot, name_in_parts, no_dot, parts_apart}
use Rattle.site_model.specs.Disk.{Place}
use Rattle.image_meaning.specs.Meaning.{max_volumes}

-- the kind, read from its ending: a shard's alone has five bytes
kind_of : List ℕ → Kind
kind_of bytes =
    cond (eqb (length bytes) 5) (Shard (10 * (get_or bytes 3 0 - 48) + (get_or bytes 4 0 - 48)))
    (cond (eqb (get_or bytes 1 0) 100) Dat
    (cond (eqb (get_or bytes 1 0) 105) Idx
    (cond (eqb (get_or bytes 1 0) 118) Vif
    (cond (eqb (get_or bytes 1 0) 99) (cond (eqb (get_or bytes 3 0) 100) Cpd Cpx)
    (cond (eqb (get_or bytes 3 0) 120) Ecx Ecj)))))

digits_read : (i : ℕ) → 10 * (48 + i / 10 - 48) + (48 + i % 10 - 48) ≡ i
digits_read i = omega arith

ending_read : (kind : Kind) → kind_of (ending kind) ≡ kind
unfolding kind_of
ending_read Dat = refl
ending_read Idx = refl
ending_read Cpd = refl
ending_read Cpx = refl
ending_read (Shard i) = ap Shard (digits_read i)
ending_read Ecx = refl
ending_read Ecj = refl
ending_read Vif = refl

same_kind : (a b : Kind) → ending a ≡ ending b → a ≡ b
same_kind a b e = sym (ending_read a) ∙ ap kind_of e ∙ ending_read b

-- a place tells the server and the kind
pub finals_apart : (v s t : ℕ) (a b : Kind) → v < max_volumes → place_of v s a false ≡ place_of v t b false → (s ≡ t) × (a ≡ b)
finals_apart v s t a b h e =
    let f : FileName = record { volume = v; kind = a; temp = false } in
    let g : FileName = record { volume = v; kind = b; temp = false } in
    let names : name_bytes f ≡ name_bytes g = ap (λ (q : Place). q.1) e in
    let apart = parts_apart (decimal v) (decimal v) (after_dot f) (after_dot g) (no_dot v h) (no_dot v h) (sym (name_in_parts f) ∙ names ∙ name_in_parts g) in
    let bare : drop 1 (ending a) ≡ drop 1 (ending b) = sym (append-nil (drop 1 (ending a))) ∙ apart.1 ∙ append-nil (drop 1 (ending b)) in
    (ap (λ (q : Place). q.0) e, same_kind a b (dotted a ∙ ap (λ l. 46 ∷ l) bare ∙ sym (dotted b)))
