-- The replies of a run.
use Rattle.std.specs.Prelude.{◌≡◌, ◌≢◌, ◌⊎◌, ℕ, ◌+◌, ◌-◌, ◌*◌, ◌^◌, ◌<◌, ◌≤◌, ◌==◌, if◌then◌else◌, Bool, true, false, IsTrue, List, [], ◌++◌, length, take, count_by, All, slice_get, Some, None, MatchBool}
use Rattle.std.specs.List.{last_or}
use Rattle.world_model.specs.declared.types.Command.{Command}
use Rattle.world_model.specs.declared.types.Mode.TheVariants as mode
use Rattle.world_model.specs.declared.types.Line.TheVariants as line
use Rattle.world_model.specs.declared.types.Reply.{Reply}
use Rattle.world_model.specs.declared.types.Reply.TheVariants as reply
use Rattle.world_model.specs.World.{World, Volume}
use Rattle.world_model.specs.Moves.{Reading, over_long, ungrammatical, grammatical}
use Rattle.world_model.specs.Jobs.{accepted_on, running_steps, with_ended_jobs, used_of}
use Rattle.world_model.specs.Runs.{IsRun}
use Rattle.script_text.specs.Lines.{script_lines, whole_lines}
use Rattle.image_meaning.specs.Files.{files_of}
use Rattle.image_meaning.specs.Meaning.{meaning, mode_of, max_volumes}
use Rattle.image_meaning.specs.Sound.{IsCoded}
use Rattle.image_meaning.specs.Ends.{IsTidy, IsWhole, IsNear}
use Rattle.image_meaning.specs.Shards.{makes_shards, AfterLast, KeepsCopies}
use Rattle.weed_shell.specs.declared.status.Status.{Status}
use Rattle.weed_shell.specs.declared.status.Status.TheVariants as status
use Rattle.weed_shell.specs.Observed.{Start, Run, opening_image, ending_image, first_world, lines_of, world_at, text_with, is_fault_of, is_damaged}

-- ---- what was said

-- a run may end so before it is ready
abbrev pub IsEarly : Status → Type 0
IsEarly status.Done = ⊥
IsEarly status.Usage = ⊥
IsEarly (status.Fault server) = Unit {0}
IsEarly status.Memory = Unit {0}
IsEarly (status.Unsound volume rule) = Unit {0}
IsEarly status.SourceFault = ⊥
IsEarly status.SayFault = ⊥
IsEarly status.TooMuch = ⊥

-- What was said is a front of `ready` and the replies.
abbrev pub SaidFront : Run → List Reply → Type 0
SaidFront run replies = (n : ℕ) × (run.disk.said ≡ run.start.disk.said ++ take n (text_with replies))

-- It is all of it, unless saying failed. Of a run that ended before it was ready it is nothing.
abbrev pub SaidWhole : Run → List Reply → Bool → Type 0
SaidWhole run replies ready = MatchBool ready
    ((run.status ≡ status.SayFault) ⊎ (run.disk.said ≡ run.start.disk.said ++ text_with replies))
    ((run.disk.said ≡ run.start.disk.said) × (replies ≡ []) × IsEarly run.status)

-- ---- the end of a run

-- All lines were answered, and the source is at its end.
pub record AnsweredAll (run : Run) (replies : List Reply) : Type 0 where
  pub count : length replies ≡ length (lines_of run.start)
  pub at_end : run.rest ≡ []

-- the last world, with all jobs ended
abbrev pub last_world : Run → List Reply → World
last_world run replies = let w = world_at run.start replies in with_ended_jobs w.jobs w

-- The contents are tidy and mean the last world, of whose lost volumes none is gone.
pub record EndsTidy (run : Run) (replies : List Reply) : Type 0 where
  pub tidy : IsTidy (ending_image run)
  pub near : IsNear (last_world run replies) (meaning run.start.servers run.start.limit (ending_image run))
  pub lost : (v : ℕ) (vol : Volume) → (last_world run replies).volumes v ≡ Some vol → vol.mode ≡ mode.Lost → mode_of (files_of (ending_image run) v) ≡ Some mode.Lost

-- ---- faults

abbrev pub is_fault_status : ℕ → Status → ℕ
is_fault_status server (status.Fault s) = if s == server then 1 else 0
is_fault_status server status.Done = 0
is_fault_status server status.Usage = 0
is_fault_status server status.Memory = 0
is_fault_status server (status.Unsound volume rule) = 0
is_fault_status server status.SourceFault = 0
is_fault_status server status.SayFault = 0
is_fault_status server status.TooMuch = 0

-- No more faults of the server were told than its count rose by, unless that stands at its last value.
abbrev pub AreCounted : ℕ → ℕ → ℕ → Type 0
AreCounted told before after = (before + told ≤ after) ⊎ (2 ^ 64 - 1 ≤ after)

abbrev pub FaultsCounted : Run → List Reply → ℕ → Type 0
FaultsCounted run replies server =
    AreCounted (count_by (is_fault_of server) replies + is_fault_status server run.status) (run.start.counts.faults server) (run.counts.faults server)

-- a line in which a fault ends the run
abbrev pub MayFault : Reading → Type 0
MayFault over_long = ⊥
MayFault ungrammatical = ⊥
MayFault (grammatical (line.Create volume server)) = Unit {0}
MayFault (grammatical (line.Put volume id cookie content)) = Unit {0}
MayFault (grammatical (line.Get volume id cookie)) = ⊥
MayFault (grammatical (line.Delete volume id cookie)) = Unit {0}
MayFault (grammatical (line.Mark volume sealed)) = ⊥
MayFault (grammatical line.List) = ⊥
MayFault (grammatical (line.Start volume command background)) = Unit {0}
MayFault (grammatical (line.Step job steps)) = Unit {0}
MayFault (grammatical (line.Wait job)) = Unit {0}
MayFault (grammatical line.Lock) = ⊥
MayFault (grammatical line.Unlock) = ⊥

-- The run stopped in a line that may fault, or all lines were answered and a job is unfinished.
abbrev pub FaultCause : Run → List Reply → Type 0
FaultCause run replies =
    ((l : Reading) × (slice_get (lines_of run.start) (length replies) ≡ Some l) × MayFault l)
    ⊎ ((length replies ≡ length (lines_of run.start)) × ((world_at run.start replies).jobs ≢ []))

-- ---- the source

abbrev pub IsCutShort : Status → Type 0
IsCutShort s = (s ≡ status.SourceFault) ⊎ (s ≡ status.TooMuch)

-- The lines that came whole were answered.
pub record AnsweredWhole (run : Run) (replies : List Reply) : Type 0 where
  pub taken : List ℕ
  pub is_taken : run.start.input ≡ taken ++ run.rest
  pub count : length replies ≡ length (script_lines (whole_lines taken))

-- ---- coded volumes

pub record ShardsKept (run : Run) (replies : List Reply) (v : ℕ) : Type 0 where
  pub last : AfterLast (last_or None (accepted_on v (lines_of run.start) replies)) (files_of (ending_image run) v) run.start.servers
  pub kept : MatchBool (0 == count_by makes_shards (accepted_on v (lines_of run.start) replies))
      (KeepsCopies (files_of (opening_image run.start) v) (files_of (ending_image run) v))
      (IsWhole (files_of (ending_image run) v))

-- ---- jobs

-- The steps of a job's lines that were answered `running` are bounded by what its volume used when it started.
abbrev pub StepsBounded : Start → List Reply → Type 0
StepsBounded start replies = (place v job : ℕ) (command : Command)
    → slice_get (lines_of start) place ≡ Some (grammatical (line.Start v command true)) → slice_get replies place ≡ Some (reply.Started job)
    → running_steps job (lines_of start) replies < 32 * used_of (world_at start (take place replies)) v + 1000000

-- ---- all of it

-- `ready` says whether the run came so far
pub record TheReplies (run : Run) (replies : List Reply) (ready : Bool) : Type 0 where
  pub said : SaidFront run replies
  pub whole : SaidWhole run replies ready
  pub is_run : IsRun (first_world run.start) (lines_of run.start) replies
  pub done : run.status ≡ status.Done → AnsweredAll run replies
  pub rest : run.status ≡ status.Done → EndsTidy run replies
  pub fault_counts : (server : ℕ) → server < run.start.servers → FaultsCounted run replies server
  pub fault_cause : IsTrue ready → (server : ℕ) → run.status ≡ status.Fault server → FaultCause run replies
  pub taken : IsCutShort run.status → AnsweredWhole run replies
  pub shards : run.status ≡ status.Done → (v : ℕ) → v < max_volumes → IsCoded (files_of (ending_image run) v) → ShardsKept run replies v
  pub steps : StepsBounded run.start replies
  pub undamaged : All (λ r. is_damaged r ≡ false) replies
