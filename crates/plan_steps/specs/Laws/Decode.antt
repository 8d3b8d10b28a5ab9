-- The list of a decode: each file comes after those that it waits for.
use Rattle.std.proofs.Common.{◌≡◌, ◌≢◌, inl, ℕ, zero, suc, ◌<◌, ◌≤◌, false, Some, refl, sym, ◌∙◌, ap, arith}
use Rattle.std.specs.Prelude.{slice_get}
use mathlib.Core.Bool.{true≢false}
use Rattle.world_model.specs.declared.types.Command.TheVariants.{Decode}
use Rattle.file_names.specs.declared.Kind.{Kind}
use Rattle.file_names.specs.declared.Kind.TheVariants.{Dat, Idx, Cpd, Cpx, Shard, Ecx, Ecj, Vif}
use Rattle.site_model.specs.Counts.{max_servers}
use Rattle.plan_steps.specs.declared.plan.Plan.{Plan}
use Rattle.plan_steps.specs.Planned.{is_found, is_found_coded}
use Rattle.plan_steps.specs.Legal.{IsFound, IsNew}
use Rattle.plan_steps.specs.Lists.{decode_names}
use Rattle.plan_steps.specs.Order.{Names, HasNoIndexBefore, HasIndexBefore, WaitsToRegister, WaitsToGo}

module _ (plan : Plan) (decode : plan.command ≡ Decode) (found : Names) where
  abbrev names : Names
  names = decode_names plan.home found

  is_new : (server : ℕ) (kind : Kind) → is_found_coded plan server kind ≡ false → IsNew plan server kind
  is_new server kind e = ap (λ c. is_found plan c server kind) decode ∙ e

  no_index_before : (j : ℕ) → j ≤ 1 → HasNoIndexBefore plan names j
  no_index_before j h = record { none_found = λ server. is_new server Idx refl; none_before = λ k server before e. none k server (omega (arith, before, h)) e }
    where
      some_is : {A : Type 0} (x y : A) → Some x ≡ Some y → x ≡ y
      some_is x y e = cc

      dat_idx : Dat ≢ Idx
      dat_idx e = cc

      none : (k server : ℕ) → k < 1 → slice_get names k ≡ Some (server, Idx) → ⊥
      none zero server less e = dat_idx (ap (λ (p : ℕ × Kind). p.1) (some_is (plan.home, Dat) (server, Idx) e))
      none (suc k) server less e = absurd (omega (arith, less))

  -- the data file waits for nothing
  pub decode_data_waits : WaitsToRegister plan names 0 plan.home Dat
  decode_data_waits = no_index_before 0 (omega arith)

  -- the index for the data file
  pub decode_index_waits : WaitsToRegister plan names 1 plan.home Idx
  decode_index_waits = (no_index_before 1 (omega arith), (0, omega arith, refl, is_new plan.home Dat refl), decode)

  has_index : (j : ℕ) → 2 ≤ j → plan.home < max_servers → HasIndexBefore plan names j
  has_index j far below = (plan.home, below, (1, omega (arith, far), refl, is_new plan.home Idx refl))

  -- no file of a plain volume was found
  not_found : (server : ℕ) (kind : Kind) → IsFound plan server kind → is_found_coded plan server kind ≡ false → ⊥
  not_found server kind is e = true≢false (sym is ∙ is_new server kind e)

  -- and all that goes for the index
  pub decode_found_waits : (j server : ℕ) (kind : Kind) → 2 ≤ j → plan.home < max_servers → IsFound plan server kind → WaitsToGo plan names j server kind
  decode_found_waits j server Dat far below is = absurd (not_found server Dat is refl)
  decode_found_waits j server Idx far below is = absurd (not_found server Idx is refl)
  decode_found_waits j server Cpd far below is = absurd (not_found server Cpd is refl)
  decode_found_waits j server Cpx far below is = absurd (not_found server Cpx is refl)
  decode_found_waits j server (Shard i) far below is = inl (has_index j far below)
  decode_found_waits j server Ecx far below is = has_index j far below
  decode_found_waits j server Ecj far below is = has_index j far below
  decode_found_waits j server Vif far below is = has_index j far below
