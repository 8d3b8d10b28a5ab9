-- The names of a list's files.
use Rattle.std.specs.Prelude.{◌≡◌, ℕ, Bool, true, false, List, map}
use Rattle.std.specs.String.{string_bytes}
use Rattle.file_names.specs.declared.Kind.{Kind}
use Rattle.file_names.specs.Names.{name_bytes}
use Rattle.plan_steps.specs.Order.{Names}
use Rattle.plan_run.specs.declared.names.FileNames.{FileNames}

abbrev pub name_for : ℕ → Bool → ℕ × Kind → List ℕ
name_for volume temp file = name_bytes (record { volume = volume; kind = file.1; temp = temp })

-- in the order of the list, the temporary names and the final ones
pub record AreNamed (volume : ℕ) (files : Names) (names : FileNames) : Type 0 where
  pub temps_are : map string_bytes names.temps.items ≡ map (name_for volume true) files
  pub lasts_are : map string_bytes names.lasts.items ≡ map (name_for volume false) files
