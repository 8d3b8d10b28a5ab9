-- What a plan says of itself, as far as the store reads it.
use Rattle.std.specs.Prelude.{ℕ, List}
use Rattle.world_model.specs.declared.types.Command.{Command}
use Rattle.stripe_layout.specs.declared.Info.{Info}

-- Its command and its volume, the server of the plain form, and of the coded form the text and the ids that are deleted.
pub record ToldPlan : Type 0 where
  pub command : Command
  pub volume : ℕ
  pub home : ℕ
  pub info : Info
  pub deleted : List ℕ
