-- A file that comes after those that it waits for may be finished once they are.
use Rattle.std.proofs.Common.{◌≡◌, ◌≢◌, inl, inr, ⊎_elim, ℕ, zero, suc, ◌<◌, List, [], ◌∷◌, map, Some, refl, sym, ◌∙◌, ap, subst}
use Rattle.std.specs.Prelude.{slice_get}
use mathlib.Core.Bool.{true≢false}
use Rattle.std.proofs.lemmas.Bool.{cases_lt}
use Rattle.image_meaning.specs.Laws.Options.{none_some, some_is}
use Rattle.file_names.specs.declared.Kind.{Kind}
use Rattle.file_names.specs.declared.Kind.TheVariants.{Dat, Idx, Cpd, Cpx, Shard, Ecx, Ecj, Vif}
use Rattle.file_names.specs.Names.{max_shards}
use Rattle.shard_table.specs.Table.{Row}
use Rattle.site_model.specs.Counts.{max_servers}
use Rattle.plan_steps.specs.declared.plan.Plan.{Plan}
use Rattle.plan_steps.specs.declared.plan.Stage.TheVariants.{Registered, Gone}
use Rattle.plan_steps.specs.declared.plan.FileState.{FileState}
use Rattle.plan_steps.specs.Fitting.{AreStates}
use Rattle.plan_steps.specs.Legal.{HasStage, HasFile, HasAnIndex, HasBeside, MayRegister, MayRemove}
use Rattle.plan_steps.specs.Legal.{IsFound, IsNew}
use Rattle.plan_steps.specs.Order.{Names, names_of, IsUnfinished, IsReached, IsBefore, IsThere, HasBesideBefore, HasNoIndexBefore, HasIndexBefore, WaitsToRegister, WaitsToGo}

-- ---- lists

-- the file whose name stands at a place
pub named_at : {A B : Type 0} (f : A → B) (xs : List A) (k : ℕ) (y : B) → slice_get (map f xs) k ≡ Some y → (x : A) × (slice_get xs k ≡ Some x) × (f x ≡ y)
named_at f [] k y e = absurd (none_some e)
named_at f (x ∷ xs) zero y e = (x, refl, some_is (f x) y e)
named_at f (x ∷ xs) (suc k) y e = named_at f xs k y e

pub name_at : {A B : Type 0} (f : A → B) (xs : List A) (k : ℕ) (x : A) → slice_get xs k ≡ Some x → slice_get (map f xs) k ≡ Some (f x)
name_at f [] k x e = absurd (none_some e)
name_at f (z ∷ xs) zero x e = ap (λ y. Some (f y)) (some_is z x e)
name_at f (z ∷ xs) (suc k) x e = name_at f xs k x e

module _ (plan : Plan) (states : List FileState) (are : AreStates states) (j : ℕ) (reached : IsReached plan states j) where
  abbrev names : Names
  names = names_of states

  new_at : (s : FileState) (server : ℕ) (kind : Kind) → ◌≡◌ {A = ℕ × Kind} (s.server, s.kind) (server, kind) → IsNew plan server kind → IsNew plan s.server s.kind
  new_at s server kind e new = subst (λ (p : ℕ × Kind). IsNew plan p.0 p.1) (sym e) new

  has_before : (server : ℕ) (kind : Kind) → IsBefore plan names j server kind → HasStage states server kind Registered
  has_before server kind (k, before, at, new) =
      let found = named_at (λ (s : FileState). (s.server, s.kind)) states k (server, kind) at in
      (k, found.0, found.1, ap (λ (p : ℕ × Kind). p.0) found.2, ap (λ (p : ℕ × Kind). p.1) found.2, reached.written k found.0 found.1 before (new_at found.0 server kind found.2 new))

  has_there : (server : ℕ) (kind : Kind) → IsThere plan names j server kind → HasFile plan states server kind
  has_there server kind (inl before) = inl (has_before server kind before)
  has_there server kind (inr (found, other)) =
      inr (found, λ k s at a b. other k (name_at (λ (s : FileState). (s.server, s.kind)) states k s at ∙ (λ i. Some (a i, b i))))

  beside_there : (server : ℕ) → HasBesideBefore plan names j server → HasBeside plan states server
  beside_there server has = record { text = has_there server Vif has.text; index = has_there server Ecx has.index; journal = ⊎_elim (λ none. inl none) (λ there. inr (has_there server Ecj there)) has.journal }

  -- a name of the list by its file
  listed : (k : ℕ) (s : FileState) (server : ℕ) (kind : Kind) → slice_get states k ≡ Some s → s.server ≡ server → s.kind ≡ kind → slice_get names k ≡ Some (server, kind)
  listed k s server kind at a b = name_at (λ (s : FileState). (s.server, s.kind)) states k s at ∙ (λ i. Some (a i, b i))

  -- a file of the list that is new and registered stands before this place
  before_or_not : (k : ℕ) (s : FileState) → slice_get states k ≡ Some s → s.stage ≡ Registered → IsNew plan s.server s.kind → k < j
  before_or_not k s at stage new = elim (cases_lt k j) [
    | inl less ↦ less
    | inr more ↦ absurd (subst IsUnfinished stage (reached.waiting k s at more new))
  ]

  no_index : HasNoIndexBefore plan names j → HasAnIndex plan states → ⊥
  no_index none (server, below, inl (k, s, at, a, b, stage)) =
      none.none_before k server (before_or_not k s at stage (new_at s server Idx (λ i. (a i, b i)) (none.none_found server))) (listed k s server Idx at a b)
  no_index none (server, below, inr found) = true≢false (sym found.0 ∙ none.none_found server)

  an_index : HasIndexBefore plan names j → HasAnIndex plan states
  an_index (server, below, before) = (server, below, inl (has_before server Idx before))

  -- a file that is written may be registered
  pub may_register : (server : ℕ) (kind : Kind) → WaitsToRegister plan names j server kind → MayRegister plan states server kind
  may_register server Dat waits = no_index waits
  may_register server Idx waits = (no_index waits.0, has_before server Dat waits.1, waits.2)
  may_register server Cpd waits = absurd waits
  may_register server Cpx waits = absurd waits
  may_register server (Shard i) waits = beside_there server waits
  may_register server Ecx waits = tt
  may_register server Ecj waits = tt
  may_register server Vif waits = tt

  -- and a file that was found may be removed
  pub may_remove : (row : Row) (server : ℕ) (kind : Kind) → WaitsToGo plan names j server kind → MayRemove plan states row server kind
  may_remove row server Dat (k, before, at, found) = λ has. stands has
    where
      two_stages : Registered ≢ Gone
      two_stages e = cc

      stands : HasFile plan states server Idx → ⊥
      stands (inl (m, u, at_m, c, d, stage)) =
          let there = named_at (λ (s : FileState). (s.server, s.kind)) states k (server, Idx) at in
          let one : m ≡ k = are.apart m k u there.0 at_m there.1 (c ∙ ap (λ (p : ℕ × Kind). p.0) (sym there.2)) (d ∙ ap (λ (p : ℕ × Kind). p.1) (sym there.2)) in
          let same : u ≡ there.0 = some_is u there.0 (sym at_m ∙ ap (slice_get states) one ∙ there.1) in
          two_stages (sym stage ∙ ap (λ (x : FileState). x.stage) same ∙ reached.removed k there.0 there.1 before (subst (λ (p : ℕ × Kind). IsFound plan p.0 p.1) (sym there.2) found))
      stands (inr other) =
          let there = named_at (λ (s : FileState). (s.server, s.kind)) states k (server, Idx) at in
          other.1 k there.0 there.1 (ap (λ (p : ℕ × Kind). p.0) there.2) (ap (λ (p : ℕ × Kind). p.1) there.2)
  may_remove row server Idx waits = record {
    encode = waits.encode;
    all = λ i h. let there = waits.shards i h in (there.0, there.1, inl (has_before there.0 (Shard i) there.2));
    beside = shards_beside;
    only = only;
  }
    where
      shards_beside : (s i : ℕ) → i < max_shards → HasFile plan states s (Shard i) → HasBeside plan states s
      shards_beside s i h (inl (k, u, at, a, b, stage)) = beside_there s (waits.beside k s i (listed k u s (Shard i) at a b))
      shards_beside s i h (inr found) = absurd (true≢false (sym found.0 ∙ waits.none_found s i))

      only : (s : ℕ) → s < max_servers → HasFile plan states s Idx → s ≡ server
      only s h (inl (k, u, at, a, b, stage)) = waits.listed_here k s (listed k u s Idx at a b)
      only s h (inr found) = waits.found_here s found.0
  may_remove row server Cpd waits = absurd waits
  may_remove row server Cpx waits = absurd waits
  may_remove row server (Shard i) (inl before) = inl (an_index before)
  may_remove row server (Shard i) (inr (other, apart, below, short, before)) = inr (other, apart, inr (below, short, inl (has_before other (Shard i) before)))
  may_remove row server Ecx waits = inl (an_index waits)
  may_remove row server Ecj waits = inl (an_index waits)
  may_remove row server Vif waits = inl (an_index waits)
