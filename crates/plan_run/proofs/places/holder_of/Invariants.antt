use Rattle.std.proofs.Common.{◌≡◌, ℕ, ◌<◌, false}
use Rattle.plan_steps.specs.Walk.{has_file}
use Rattle.plan_run.proofs.places.holder_of.Given as goal

abbrev pub invariant-loop-server : goal.invariant-loop-server
invariant-loop-server l = (server : ℕ) → server < l.server → has_file l.plan l.progress.files.items server l.kind ≡ false
