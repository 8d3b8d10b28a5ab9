-- The commands of a volume and the steps of a job in a run.
use Rattle.std.specs.Prelude.{ℕ, ◌+◌, ◌==◌, if◌then◌else◌, Bool, true, false, List, [], ◌∷◌, Option, Some, None}
use Rattle.std.specs.Option.{option_map_or}
use Rattle.world_model.specs.declared.types.Command.{Command}
use Rattle.world_model.specs.declared.types.Line.TheVariants as line
use Rattle.world_model.specs.declared.types.Reply.{Reply}
use Rattle.world_model.specs.declared.types.Reply.TheVariants as reply
use Rattle.world_model.specs.World.{World, Job}
use Rattle.world_model.specs.Moves.{Reading, grammatical, is_accepted, without_job}

-- ---- commands

-- the command that the line starts on the volume
abbrev pub command_on : ℕ → Reading → Option Command
command_on v (grammatical (line.Start volume command background)) = if volume == v then Some command else None
command_on v l = None

abbrev pub with_command : Bool → Option Command → List Command → List Command
with_command true (Some command) more = command ∷ more
with_command true None more = more
with_command false o more = more

-- those that were accepted, in order
abbrev pub accepted_on : ℕ → List Reading → List Reply → List Command
accepted_on v lines [] = []
accepted_on v [] (r ∷ replies) = []
accepted_on v (l ∷ lines) (r ∷ replies) = with_command (is_accepted r) (command_on v l) (accepted_on v lines replies)

-- ---- steps

-- the steps of the job's lines that were answered `running`
abbrev pub steps_if_running : ℕ → Reading → Reply → ℕ
steps_if_running job (grammatical (line.Step j steps)) (reply.Running k) = if j == job then steps else 0
steps_if_running job l r = 0

abbrev pub running_steps : ℕ → List Reading → List Reply → ℕ
running_steps job lines [] = 0
running_steps job [] (r ∷ replies) = 0
running_steps job (l ∷ lines) (r ∷ replies) = steps_if_running job l r + running_steps job lines replies

-- ---- worlds

-- all these jobs have ended
abbrev pub with_ended_jobs : List Job → World → World
with_ended_jobs [] w = w
with_ended_jobs (job ∷ jobs) w = with_ended_jobs jobs (without_job w job.number)

abbrev pub used_of : World → ℕ → ℕ
used_of w v = option_map_or (λ vol. vol.used) (w.volumes v) 0
