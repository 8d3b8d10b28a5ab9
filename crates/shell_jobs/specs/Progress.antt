-- What is known between two lines of a run, of jobs and of coded volumes.
use Rattle.std.specs.Prelude.{◌≡◌, ℕ, ◌+◌, ◌*◌, ◌<◌, ◌≤◌, Bool, true, List, [], ◌∷◌, ◌++◌, take, slice_get, Option, Some, None}
use Rattle.std.specs.Option.{option_map_or}
use Rattle.site_model.specs.Disk.{Files, Image}
use Rattle.world_model.specs.declared.types.Command.{Command}
use Rattle.world_model.specs.declared.types.Line.TheVariants as line
use Rattle.world_model.specs.declared.types.Reply.{Reply}
use Rattle.world_model.specs.World.{World}
use Rattle.world_model.specs.Moves.{Reading, grammatical, is_accepted}
use Rattle.world_model.specs.Jobs.{accepted_on, running_steps, with_ended_jobs, used_of}
use Rattle.world_model.specs.Runs.{IsRun, world_after}
use Rattle.job_board.specs.declared.Job.{Job}
use Rattle.job_board.specs.Jobs.{work_of}
use Rattle.image_meaning.specs.Files.{contents, files_of}
use Rattle.image_meaning.specs.Meaning.{max_volumes}
use Rattle.image_meaning.specs.Share.{Share, finals, AreSharesSettled}
use Rattle.image_meaning.specs.Near.{IsLeftBy}
use Rattle.image_meaning.specs.Shards.{ShardsSo}
use Rattle.plan_steps.specs.AnyPlans.{Plans}
use Rattle.store_jobs.specs.Store.{Work, Store, work_at, Fits, IsFirmBase, store_world}

-- what a run begins with
pub record Begin : Type 0 where
  pub servers : ℕ
  pub first : World
  pub opening : Files
  pub lines : List Reading

abbrev pub world_at : Begin → List Reply → World
world_at begin replies = world_after begin.first begin.lines replies

-- the number that a job of this line gets
abbrev pub number_at : Begin → List Reply → ℕ → ℕ
number_at begin replies place = (world_at begin (take place replies)).next_job

-- the line at this place starts a job on the volume, with `&` or without, and wasn't refused
pub record IsStart (begin : Begin) (replies : List Reply) (place v : ℕ) : Type 0 where
  pub command : Command
  pub background : Bool
  pub reply : Reply
  pub is_line : slice_get begin.lines place ≡ Some (grammatical (line.Start v command background))
  pub is_reply : slice_get replies place ≡ Some reply
  pub accepted : is_accepted reply ≡ true

module _ (plans : Plans) where
  -- the steps that a job has left, and the command of a volume's job
  abbrev pub left_of : List (Job (Work plans)) → ℕ → ℕ
  left_of jobs n = option_map_or (λ w. plans.left w.running) (work_of jobs n) 0

  abbrev pub commands_of : Option (Work plans) → List Command
  commands_of None = []
  commands_of (Some work) = (plans.plan work.running).command ∷ []

  -- What was run of each job and what is left of it stay within the bound that it began with.
  pub record StepsSo (begin : Begin) (replies : List Reply) (store : Store plans) : Type 0 where
    pub started : (place v : ℕ) → IsStart begin replies place v
        → running_steps (number_at begin replies place) begin.lines replies + left_of store.board.unfinished (number_at begin replies place) ≤ 32 * used_of (world_at begin (take place replies)) v + 999999
    pub below : (place v : ℕ) → IsStart begin replies place v → number_at begin replies place < store.board.next
    pub unstarted : (job : ℕ) → store.board.next ≤ job → running_steps job begin.lines replies ≡ 0

  -- no more jobs than lines were started, whatever the opening was
  abbrev pub IsNumbered : ℕ → Store plans → Type 0
  IsNumbered answered store = store.board.next ≤ answered + 1

  -- The store fits its files. `commands` are those on a volume that have ended, of which the base has the shards; a job's
  -- own comes behind them.
  pub record Knows (begin : Begin) (replies : List Reply) (store : Store plans) (files : Files) : Type 0 where
    pub base : ℕ → Share
    pub fits : Fits plans store begin.servers files base
    pub firm : AreSharesSettled begin.opening → IsFirmBase base
    pub commands : ℕ → List Command
    pub so_far : (v : ℕ) → v < max_volumes → accepted_on v begin.lines replies ≡ commands v ++ commands_of (work_at plans store.board.unfinished v)
    pub shards : (v : ℕ) → v < max_volumes → ShardsSo begin.servers (files_of (contents begin.opening) v) (finals (base v)) (commands v)

  -- Between two lines: the lines so far have these replies, and the store has the world after them.
  pub record Progress (begin : Begin) (store : Store plans) (files : Files) : Type 0 where
    pub replies : List Reply
    pub is_run : IsRun begin.first begin.lines replies
    pub knows : Knows begin replies store files
    pub world : store_world plans store (contents files) ≡ world_at begin replies
    pub steps : StepsSo begin replies store

  -- At the end of the source, while the jobs that are left run to their ends: no line is answered any more, and what is near
  -- the store's world is near the last one.
  pub record Finishing (begin : Begin) (replies : List Reply) (store : Store plans) (files : Files) : Type 0 where
    pub knows : Knows begin replies store files
    pub ending : with_ended_jobs (store_world plans store (contents files)).jobs (store_world plans store (contents files)) ≡ with_ended_jobs (world_at begin replies).jobs (world_at begin replies)
    pub near : (image : Image) → IsLeftBy (store_world plans store (contents files)) image → IsLeftBy (world_at begin replies) image
