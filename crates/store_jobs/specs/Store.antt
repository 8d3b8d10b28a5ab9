-- The store with jobs, what its files are then, and which world that is.
use Rattle.std.specs.Prelude.{◌≡◌, ℕ, ◌<◌, ◌≤◌, Bool, false, List, map, Option, Some, None, IsSome, option_map, option_and_then}
use Rattle.std.specs.Option.{option_map_or}
use Rattle.std.specs.List.{AllByRecursion, find}
use Rattle.site_model.specs.Disk.{Files, Image}
use Rattle.world_model.specs.World.{World}
use Rattle.world_model.specs.World as world
use Rattle.world_model.specs.declared.types.Command.{Command}
use Rattle.world_model.specs.declared.types.Command.TheVariants.{Encode}
use Rattle.world_model.specs.declared.types.Ratio.TheVariants.{TenFour}
use Rattle.job_board.specs.declared.Job.{Job}
use Rattle.job_board.specs.Jobs.{Jobs, IsBoard, has_volume}
use Rattle.image_meaning.specs.Meaning.{volume_in, max_volumes}
use Rattle.image_meaning.specs.Ends.{changes_form}
use Rattle.image_meaning.specs.Share.{Share, share_of, IsFirmShare}
use Rattle.needle_record.specs.Records.{Placed}
use Rattle.shard_table.specs.Table.{Row}
use Rattle.store_jobs.specs.Slots.{Slot, marked_by, FitsSlot, IsRowOf}
use Rattle.plan_steps.specs.Told.{ToldPlan}
use Rattle.plan_steps.specs.Reading.{IsGoing}
use Rattle.plan_steps.specs.AnyPlans.{Plans}
use Rattle.store_jobs.specs.Making.{Makes}

-- nothing was pending when the jobs began
abbrev pub IsFirmBase : (ℕ → Share) → Type 0
IsFirmBase base = (v : ℕ) → v < max_volumes → IsFirmShare (base v)

module _ (plans : Plans) where
  -- a plan that runs, and the slot that its end gives the volume
  pub record Work : Type 0 where
    pub running : plans.Running
    pub after : Slot

  pub record Store : Type 0 where
    pub servers : ℕ
    pub limit : ℕ
    pub slots : ℕ → Option Slot
    pub rows : ℕ → Row
    pub board : Jobs Work

  -- the work that has the volume
  abbrev pub work_at : List (Job Work) → ℕ → Option Work
  work_at jobs v = option_and_then (λ (job : Job Work). job.work) (find (has_volume v) jobs)

  -- what the plan says of itself, and the records that its decode makes of the files that it began with
  abbrev pub plan_of : Work → ToldPlan
  plan_of work = plans.plan work.running

  abbrev pub records_of : Work → Share → List Placed
  records_of work base = plans.made_records (plan_of work) base

  -- Its plan is one of the volume and for this number of servers, began with a volume of this slot, and has come so far.
  pub record FitsWork (servers : ℕ) (work : Work) (slot : Option Slot) (v : ℕ) (row : Row) (base now : Share) : Type 0 where
    pub number : (plan_of work).volume ≡ v
    pub planned : plans.IsPlan work.running servers
    pub going : IsGoing (plan_of work).command (plans.left work.running)
    pub before : Slot
    pub had : slot ≡ Some before
    pub follows : plans.Follows work.running row base now
    pub makes : Makes (plan_of work) (records_of work base) before work.after

  -- The slot fits the base, which the files are, or from which a plan has come.
  abbrev pub FitsVolume : ℕ → Option Work → Option Slot → ℕ → Row → Share → Share → Type 0
  FitsVolume servers None slot v row base now = FitsSlot slot v base × IsRowOf slot row now × (now ≡ base)
  FitsVolume servers (Some work) slot v row base now = FitsSlot slot v base × FitsWork servers work slot v row base now

  -- The store fits its site: each volume by its own share alone. The bases are what the shares were when the jobs began.
  pub record Fits (store : Store) (servers : ℕ) (files : Files) (base : ℕ → Share) : Type 0 where
    pub servers_are : store.servers ≡ servers
    pub board : IsBoard store.board
    pub all_in : AllByRecursion (λ (job : Job Work). IsSome job.work) store.board.unfinished
    pub each : (v : ℕ) → v < max_volumes → FitsVolume servers (work_at store.board.unfinished v) (store.slots v) v (store.rows v) (base v) (share_of files v)
    pub no_others : (v : ℕ) → max_volumes ≤ v → store.slots v ≡ None

  -- ---- its world

  abbrev pub command_in : Option Work → Command
  command_in None = Encode TenFour
  command_in (Some work) = (plan_of work).command

  abbrev pub job_in : Job Work → world.Job
  job_in job = record { number = job.number; volume = job.volume; command = command_in job.work }

  -- what the files mean, each volume in the mode that memory has, and the jobs
  abbrev pub store_world : Store → Image → World
  store_world store image = record {
    servers = store.servers;
    limit = store.limit;
    volumes = λ v. option_map (marked_by (store.slots v)) (volume_in image v);
    jobs = map job_in store.board.unfinished;
    next_job = store.board.next;
  }

  -- whether the work changes the form of its volume
  abbrev pub is_reforming : Option Work → Bool
  is_reforming work = option_map_or (λ w. changes_form ((plan_of w).command)) work false
