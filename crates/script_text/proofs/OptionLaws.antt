-- Two options in either order.
use Rattle.std.proofs.Common.{◌≡◌, List, [], ◌∷◌, Option, Some, None, refl, sym, ap, ◌∙◌}
use Rattle.std.specs.Prelude.{option_map}
use Rattle.std.specs.Option.{option_or}
use Rattle.script_text.specs.Grammar.{Word, both, or_else, two_options}

map-or_else : {A B : Type 0} (f : A → B) (a b : Option A) → option_or (option_map f a) (option_map f b) ≡ option_map f (or_else a b)
map-or_else f None b = refl
map-or_else f (Some x) b = refl

-- a line of two options is read in one order or in the other
pub in_either_order : {A B C : Type 0} (f : A × B → C) (a : Word → Option A) (b : Word → Option B) (ws : List Word) (u v : Word) (x y r : Option C) → ws ≡ u ∷ v ∷ []
    → x ≡ option_map f (both (a u) (b v)) → y ≡ option_map f (both (a v) (b u)) → r ≡ option_or x y → r ≡ option_map f (two_options a b ws)
in_either_order f a b ws u v x y r ew ex ey er =
    er ∙ (λ i. option_or (ex i) (ey i)) ∙ map-or_else f (both (a u) (b v)) (both (a v) (b u)) ∙ ap (λ w. option_map f (two_options a b w)) (sym ew)
