-- An append to the temporary file at a place of the list.
use Rattle.std.proofs.Common.{◌≡◌, ℕ, ◌<◌, true, List, [], length, map, get_or, Some, refl, sym, ◌∙◌, ap, subst}
use Rattle.std.specs.Prelude.{slice_get, Result}
use Rattle.std.specs.String.{string_bytes}
use Rattle.std.proofs.lemmas.Option.{slice_get_read}
use Rattle.site_model.specs.Disk.{Place, Disk, Appends, grown}
use Rattle.site_model.specs.Counts.{Counts}
use Rattle.site_model.specs.declared.error.DeviceFault.{DeviceFault}
use Rattle.file_names.specs.Names.{place_of}
use Rattle.image_meaning.specs.Laws.Options.{some_is}
use Rattle.plan_steps.specs.declared.plan.FileState.{FileState}
use Rattle.plan_steps.specs.Progressing.{Running}
use Rattle.plan_run.specs.declared.names.FileNames.{FileNames}
use Rattle.plan_run.specs.Faults.{AtFile, WritesAt}
use Rattle.plan_run.specs.Growing.{AppendsAt, IsGrownAt}
use Rattle.plan_run.specs.Stepping.{IsAtWork}
use Rattle.plan_run.proofs.AtWork.{temp_is}

module _ (states : List FileState) (j : ℕ) (x : FileState) (short : j < length states) (read : x ≡ get_or states j x) where
  pub read_there : slice_get states j ≡ Some x
  read_there = slice_get_read states (length states) j x refl short read

  same : (s : FileState) → slice_get states j ≡ Some s → x ≡ s
  same s at = some_is x s (sym read_there ∙ at)

  pub at_file : {A S : Type 0} {counts : S → Counts} {count : S → ℕ} {width : ℕ} {result : Result A DeviceFault} {old new : S} → WritesAt counts count x.server width result old new
      → AtFile states j (λ server. WritesAt counts count server width result old new)
  at_file {counts = counts} {count} {width} {result} {old} {new} did s at = subst (λ (y : FileState). WritesAt counts count y.server width result old new) (same s at) did

module _ (r : Running) (servers : ℕ) (names : FileNames) (work : IsAtWork r servers names) (j : ℕ) (x : FileState) (short : j < length r.states) (read : x ≡ get_or r.states j x)
    (temp : List ℕ) (is_temp : temp ≡ get_or (map string_bytes names.temps.items) j []) (old new : Disk) (piece : List ℕ) where
  at_place : (s : FileState) → slice_get r.states j ≡ Some s → ◌≡◌ {A = Place} (x.server, temp) (place_of r.plan.volume s.server s.kind true)
  at_place s at =
      ap (λ n. (x.server, n)) (temp_is r servers names work j j x refl (read_there r.states j x short read) temp is_temp)
      ∙ ap (λ (y : FileState). place_of r.plan.volume y.server y.kind true) (same r.states j x short read s at)

  pub appends_at : Appends (x.server, temp) piece old new → AppendsAt r j piece old new
  appends_at did s at = subst (λ (p : Place). Appends p piece old new) (at_place s at) did

  pub grown_at : new.files (x.server, temp) ≡ Some (grown (old.files (x.server, temp)) piece) → IsGrownAt r j piece old.files new.files
  grown_at done s at = subst (λ (p : Place). new.files p ≡ Some (grown (old.files p) piece)) (at_place s at) done
