-- How many parts the lists have that a plan writes or copies.
-- For `run_step` of the running plans of `plan_run`, to come.
use Rattle.std.specs.Prelude.{ℕ, ◌+◌, max, length}
use Rattle.world_model.specs.declared.types.Command.{Command}
use Rattle.world_model.specs.declared.types.Command.TheVariants.{Encode, Rebuild, Balance, Decode}
use Rattle.stripe_layout.specs.Stripes.{rounded_up}
use Rattle.plan_steps.specs.declared.plan.Plan.{Plan}
use Rattle.plan_steps.specs.Left.{list_piece}

-- of so many entries, pairs or deletions; an empty list has a part, too
abbrev pub parts_of : ℕ → ℕ
parts_of n = max 1 (rounded_up n list_piece)

-- Those of the coded index, and of the journal that is copied or joined. What a decode's index has besides is read with the
-- data file, whose pieces are counted.
abbrev pub parts_by : Plan → Command → ℕ
parts_by plan (Encode ratio) = parts_of (length plan.entries.items)
parts_by plan Rebuild = parts_of plan.entry_count + parts_of (length plan.deleted.items)
parts_by plan Balance = parts_of plan.entry_count + parts_of (length plan.deleted.items)
parts_by plan Decode = parts_of (length plan.deleted.items)

abbrev pub list_parts : Plan → ℕ
list_parts plan = parts_by plan plan.command
