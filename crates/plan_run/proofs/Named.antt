-- The names of a list's files, one after the other, and those of one.
use Rattle.std.proofs.Common.{◌≡◌, ℕ, zero, suc, ◌+◌, ◌<◌, Bool, List, [], ◌∷◌, ◌++◌, length, map, take, get_or, Some, refl, sym, ◌∙◌, ap, subst, arith}
use Rattle.std.specs.Prelude.{All, slice_get}
use Rattle.std.proofs.lemmas.List.{map-append}
use Rattle.image_meaning.specs.Laws.Options.{none_some, some_is}
use Rattle.file_names.specs.declared.Kind.{Kind}
use Rattle.file_names.specs.Names.{IsKind, name_bytes}
use Rattle.plan_steps.specs.declared.plan.FileState.{FileState}
use Rattle.plan_steps.specs.Order.{Names, names_of}
use Rattle.plan_run.specs.Names.{name_for}

-- one name more
pub name_more : {S : Type 0} (text : S → List ℕ) (volume : ℕ) (temp : Bool) (names more : List S) (name : S) (files : List FileState) (k : ℕ) (file : FileState) → map text names ≡ map (name_for volume temp) (names_of (take k files))
    → more ≡ names ++ name ∷ [] → k < length files → file ≡ get_or files k file → text name ≡ name_bytes (record { volume = volume; kind = file.kind; temp = temp })
    → map text more ≡ map (name_for volume temp) (names_of (take (k + 1) files))
name_more text volume temp names more name files k file so_far is short there spelled =
    ap (map text) is ∙ map-append text names (name ∷ []) ∙ (λ i. so_far i ++ spelled i ∷ [])
    ∙ sym (ap (λ n. map (name_for volume temp) (names_of (take n files))) next ∙ ap (λ fs. map (name_for volume temp) (names_of fs)) (take_one files k file short there) ∙ of_both (take k files))
  where
    next : k + 1 ≡ suc k
    next = omega arith

    take_one : (xs : List FileState) (k : ℕ) (x : FileState) → k < length xs → x ≡ get_or xs k x → take (suc k) xs ≡ take k xs ++ x ∷ []
    take_one [] k x short there = absurd (omega (arith, short))
    take_one (y ∷ ys) zero x short there = ap (λ z. z ∷ []) (sym there)
    take_one (y ∷ ys) (suc k) x short there = ap (λ zs. y ∷ zs) (take_one ys k x (omega (arith, short)) there)

    of_both : (xs : List FileState) → map (name_for volume temp) (names_of (xs ++ file ∷ [])) ≡ map (name_for volume temp) (names_of xs) ++ name_for volume temp (file.server, file.kind) ∷ []
    of_both xs = ap (map (name_for volume temp)) (map-append (λ (s : FileState). (s.server, s.kind)) xs (file ∷ [])) ∙ map-append (name_for volume temp) (names_of xs) ((file.server, file.kind) ∷ [])

-- the kinds of a list's files, by their places
pub kinds_all : (files : List FileState) → ((k : ℕ) (s : FileState) → slice_get files k ≡ Some s → IsKind s.kind) → All (λ (s : FileState). IsKind s.kind) files
kinds_all [] each k d short = absurd (omega (arith, short))
kinds_all (s ∷ files) each zero d short = each 0 s refl
kinds_all (s ∷ files) each (suc k) d short = kinds_all files (λ i u at. each (suc i) u at) k d (omega (arith, short))

-- that of one file
pub named_file : (names : List (List ℕ)) (volume : ℕ) (temp : Bool) (files : Names) (k server : ℕ) (kind : Kind) → names ≡ map (name_for volume temp) files → slice_get files k ≡ Some (server, kind)
    → (k < length names) × (get_or names k [] ≡ name_bytes (record { volume = volume; kind = kind; temp = temp }))
named_file names volume temp files k server kind is at = subst (λ ns. (k < length ns) × (get_or ns k [] ≡ name_bytes (record { volume = volume; kind = kind; temp = temp }))) (sym is) (each files k at)
  where
    each : (fs : Names) (k : ℕ) → slice_get fs k ≡ Some (server, kind)
        → (k < length (map (name_for volume temp) fs)) × (get_or (map (name_for volume temp) fs) k [] ≡ name_bytes (record { volume = volume; kind = kind; temp = temp }))
    each [] k e = absurd (none_some e)
    each (f ∷ fs) zero e = (omega arith, ap (name_for volume temp) (some_is f (server, kind) e))
    each (f ∷ fs) (suc k) e = let rest = each fs k e in (omega (arith, rest.0), rest.1)
