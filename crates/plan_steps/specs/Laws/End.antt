-- What stands once a plan's list is worked off.
use Rattle.std.proofs.Common.{◌≡◌, ◌≢◌, ◌⊎◌, inl, inr, ⊎_elim, ℕ, ◌<◌, Bool, true, false, List, length, Option, Some, None, is_some, refl, sym, ◌∙◌, ap, subst, arith}
use Rattle.std.specs.Prelude.{slice_get, IsSome}
use mathlib.Core.Bool.{true≢false}
use Rattle.site_model.specs.Disk as disk
use Rattle.world_model.specs.World.{Volume}
use Rattle.file_names.specs.declared.Kind.{Kind}
use Rattle.file_names.specs.declared.Kind.TheVariants.{Shard}
use Rattle.file_names.specs.Names.{IsKind, max_shards}
use Rattle.stripe_layout.specs.declared.Info.{Info}
use Rattle.stripe_layout.specs.Stripes.{shards_in_all}
use Rattle.shard_table.specs.Table.{Row, place_in}
use Rattle.image_meaning.specs.Files.{stands, shard_home}
use Rattle.site_model.specs.Counts.{max_servers}
use Rattle.image_meaning.specs.Sound.{Stands}
use Rattle.image_meaning.specs.Ends.{HasNoFiles}
use Rattle.image_meaning.specs.Laws.Servers.{lowest-some, lowest-exists}
use Rattle.image_meaning.specs.Laws.Plain.{lowest-all_fail}
use Rattle.image_meaning.specs.Share.{Share, finals, temps}
use Rattle.plan_steps.specs.declared.plan.Stage.{Stage}
use Rattle.plan_steps.specs.declared.plan.Stage.TheVariants.{Registered, Gone}
use Rattle.plan_steps.specs.declared.plan.FileState.{FileState}
use Rattle.plan_steps.specs.Kept.{Forms}
use Rattle.plan_steps.specs.Planned.{is_found, planned, given}
use Rattle.plan_steps.specs.Fitting.{StandsBy, IsOther}
use Rattle.plan_steps.specs.Listed.{IsListed, listed_or_other}
use Rattle.plan_steps.specs.Legal.{IsFound, IsNew, HasFile}
use Rattle.plan_steps.specs.Laws.Legal.{by_bool, given_new, standing_firm, stands_file, shard_now, numbered}
use Rattle.plan_steps.specs.Laws.Order.{named_at, name_at}
use Rattle.plan_steps.specs.Lists.{list_of}
use Rattle.plan_steps.specs.Members.{Has, has_at, at_has}
use Rattle.plan_steps.specs.Progressing.{Running, FitsProgress}
use Rattle.plan_steps.specs.Laws.Progress.{progress_row}

-- each file of the list is at its end
pub record IsOver (r : Running) : Type 0 where
  pub written : (j : ℕ) (s : FileState) → slice_get r.states j ≡ Some s → IsNew r.plan s.server s.kind → s.stage ≡ Registered
  pub removed : (j : ℕ) (s : FileState) → slice_get r.states j ≡ Some s → IsFound r.plan s.server s.kind → s.stage ≡ Gone

-- the plan writes or removes the file
abbrev pub IsInList : Running → ℕ → Kind → Type 0
IsInList r server kind = Has (list_of r.plan) (server, kind)

module _ (w : Volume) (f : Forms) (r : Running) (row : Row) (start now : Share) (fits : FitsProgress w f r row start now) where
  -- ---- names and states

  pub in_states : (server : ℕ) (kind : Kind) → IsInList r server kind → IsListed r.states server kind
  in_states server kind has =
      let place = has_at (list_of r.plan) (server, kind) has in
      let found = named_at (λ (s : FileState). (s.server, s.kind)) r.states place.0 (server, kind) (ap (λ names. slice_get names place.0) fits.way.listed ∙ place.1) in
      (place.0, found.0, found.1, ap (λ (p : ℕ × Kind). p.0) found.2, ap (λ (p : ℕ × Kind). p.1) found.2)

  in_list : (server : ℕ) (kind : Kind) → IsListed r.states server kind → IsInList r server kind
  in_list server kind (j, s, at, a, b) =
      at_has (list_of r.plan) j (server, kind) (ap (λ names. slice_get names j) (sym fits.way.listed) ∙ name_at (λ (s : FileState). (s.server, s.kind)) r.states j s at ∙ (λ i. Some (a i, b i)))

  pub not_in_list : (server : ℕ) (kind : Kind) → IsOther r.states server kind → IsInList r server kind → ⊥
  not_in_list server kind other has = let l = in_states server kind has in other l.0 l.1 l.2 l.3 l.4

  not_in_states : (server : ℕ) (kind : Kind) → (IsInList r server kind → ⊥) → IsOther r.states server kind
  not_in_states server kind out j s at a b = out (in_list server kind (j, s, at, a, b))

  -- ---- the table

  -- a shard that stands is one of the ratio's, and the table names it
  pub told_all : (server i : ℕ) → i < max_shards → Stands (finals now) server (Shard i) → IsSome (place_in row i)
  told_all server i h st = by_place (place_in row i) refl
    where
      has : HasFile r.plan r.states server (Shard i)
      has = stands_file f w fits.forms r.plan start fits.begins r.states now fits.fits server (Shard i) st.0 h st.1

      short : i < shards_in_all r.plan.info.geometry
      short = omega (
        arith,
        numbered f.parts.shards i (finals now server (Shard i)) (shard_now f w fits.forms r.plan start fits.begins r.states now fits.fits server i h has) st.1,
        fits.forms.parts.striped.count,
        ap (λ (info : Info). shards_in_all info.geometry) fits.begins.tells.info,
      )

      by_place : (o : Option ℕ) → place_in row i ≡ o → IsSome (place_in row i)
      by_place None e = absurd (fits.way.places.missing i short e server has)
      by_place (Some s) e = ap is_some e

  -- where no shard stands twice, the table has the lowest server with it
  pub row_homes : ((s t i : ℕ) → i < max_shards → Stands (finals now) s (Shard i) → Stands (finals now) t (Shard i) → s ≡ t) → (i : ℕ) → i < max_shards → place_in row i ≡ shard_home (finals now) i
  row_homes once i h = by_place (place_in row i) refl
    where
      not_true : (b : Bool) → (b ≡ true → ⊥) → b ≡ false
      not_true true no_true = absurd (no_true refl)
      not_true false no_true = refl

      not_some : (o : Option ℕ) → o ≡ None → IsSome o → ⊥
      not_some o e some = true≢false (sym some ∙ ap is_some e)

      by_place : (o : Option ℕ) → place_in row i ≡ o → place_in row i ≡ shard_home (finals now) i
      by_place None e = e ∙ sym (lowest-all_fail (λ s. stands (finals now) s (Shard i)) (λ s k. not_true (stands (finals now) s (Shard i)) (λ st. not_some (place_in row i) e (told_all s i h (k, st)))))
      by_place (Some server) e =
          let here = progress_row w f r row start now fits i server h e in
          let found = lowest-exists (λ s. stands (finals now) s (Shard i)) server here.0 here.1 in
          let low = lowest-some (λ s. stands (finals now) s (Shard i)) found.0 found.1 in
          e ∙ ap Some (once server found.0 i h here (low.1, low.0.passes)) ∙ sym found.1

  -- where no shard stands, the table has none
  pub row_none : ((server i : ℕ) → i < max_shards → Stands (finals now) server (Shard i) → ⊥) → (i : ℕ) → i < max_shards → place_in row i ≡ None
  row_none none i h = by_place (place_in row i) refl
    where
      by_place : (o : Option ℕ) → place_in row i ≡ o → place_in row i ≡ None
      by_place None e = e
      by_place (Some server) e = absurd (none server i h (progress_row w f r row start now fits i server h e))

  -- ---- at the end

  module _ (over : IsOver r) where
    at_end : (j : ℕ) (s : FileState) → slice_get r.states j ≡ Some s → (stage : Stage) → s.stage ≡ stage → StandsBy stage s.length (given r.plan f.parts start s.server s.kind) (now s.server s.kind false) (now s.server s.kind true)
    at_end j s at stage e = subst (λ stage. StandsBy stage s.length (given r.plan f.parts start s.server s.kind) (now s.server s.kind false) (now s.server s.kind true)) e (fits.fits.each j s at)

    -- a file that was written
    pub end_new : (server : ℕ) (kind : Kind) → IsInList r server kind → IsNew r.plan server kind → finals now server kind ≡ planned f.parts kind
    end_new server kind has new = by_state (in_states server kind has)
      where
        by_state : IsListed r.states server kind → finals now server kind ≡ planned f.parts kind
        by_state (j, s, at, a, b) =
            let was : IsNew r.plan s.server s.kind = subst (λ (p : ℕ × Kind). IsNew r.plan p.0 p.1) (λ k. (sym a k, sym b k)) new in
            (λ i. finals now (sym a i) (sym b i))
            ∙ ap disk.standing ((at_end j s at Registered (over.written j s at was)).0 ∙ given_new r.plan f.parts start s.server s.kind was)
            ∙ standing_firm (planned f.parts s.kind) ∙ ap (planned f.parts) b

    -- one that was removed
    pub end_found : (server : ℕ) (kind : Kind) → IsInList r server kind → IsFound r.plan server kind → finals now server kind ≡ None
    end_found server kind has found = by_state (in_states server kind has)
      where
        by_state : IsListed r.states server kind → finals now server kind ≡ None
        by_state (j, s, at, a, b) =
            let was : IsFound r.plan s.server s.kind = subst (λ (p : ℕ × Kind). IsFound r.plan p.0 p.1) (λ k. (sym a k, sym b k)) found in
            (λ i. finals now (sym a i) (sym b i)) ∙ ap disk.standing (at_end j s at Gone (over.removed j s at was)).0

    -- and any other
    pub end_other : (server : ℕ) (kind : Kind) → (IsInList r server kind → ⊥) → finals now server kind ≡ finals start server kind
    end_other server kind out = ap disk.standing (fits.fits.others server kind (not_in_states server kind out))

    -- a file that stands was written, or was found and isn't in the list
    pub end_stands : (server : ℕ) (kind : Kind) → server < max_servers → IsKind kind → is_some (finals now server kind) ≡ true
        → (IsInList r server kind × IsNew r.plan server kind) ⊎ ((IsInList r server kind → ⊥) × IsFound r.plan server kind)
    end_stands server kind below is st = by_list (listed_or_other r.states server kind) (by_bool (is_found r.plan r.plan.command server kind))
      where
        gone : finals now server kind ≡ None → ⊥
        gone e = true≢false (sym st ∙ ap is_some e)

        by_list : IsListed r.states server kind ⊎ IsOther r.states server kind → IsFound r.plan server kind ⊎ IsNew r.plan server kind
            → (IsInList r server kind × IsNew r.plan server kind) ⊎ ((IsInList r server kind → ⊥) × IsFound r.plan server kind)
        by_list (inl l) (inl found) = absurd (gone (end_found server kind (in_list server kind l) found))
        by_list (inl l) (inr new) = inl (in_list server kind l, new)
        by_list (inr other) (inl found) = inr (not_in_list server kind other, found)
        by_list (inr other) (inr new) = absurd (gone (ap disk.standing (fits.fits.others server kind other) ∙ fits.begins.finds.none_else server kind below is new))

    -- so one that is neither doesn't stand
    pub end_none : (server : ℕ) (kind : Kind) → server < max_servers → IsKind kind → (IsInList r server kind → IsNew r.plan server kind → ⊥) → (IsFound r.plan server kind → IsInList r server kind) → finals now server kind ≡ None
    end_none server kind below is not_new listed = by_file (finals now server kind) refl
      where
        by_file : (o : Option (List ℕ)) → finals now server kind ≡ o → finals now server kind ≡ None
        by_file None e = e
        by_file (Some bytes) e = absurd (⊎_elim (λ new. not_new new.0 new.1) (λ found. found.0 (listed found.1)) (end_stands server kind below is (ap is_some e)))

    -- no temporary file is left
    pub end_temps : HasNoFiles (temps now)
    end_temps server kind below is = ⊎_elim
        (λ (l : IsListed r.states server kind). ap disk.standing ((λ i. now (sym l.3 i) (sym l.4 i) true) ∙ no_temp l.0 l.1 l.2))
        (λ other. ap disk.standing (fits.fits.temps server kind below is other))
        (listed_or_other r.states server kind)
      where
        no_temp : (j : ℕ) (s : FileState) → slice_get r.states j ≡ Some s → now s.server s.kind true ≡ None
        no_temp j s at = ⊎_elim
            (λ found. (at_end j s at Gone (over.removed j s at found)).1)
            (λ new. (at_end j s at Registered (over.written j s at new)).1)
            (by_bool (is_found r.plan r.plan.command s.server s.kind))
