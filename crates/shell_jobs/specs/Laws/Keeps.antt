-- Lines that step a job keep what is known. For `weed_shell` with jobs, to come.
use Rattle.std.proofs.Common.{◌≡◌, ◌≢◌, ◌⊎◌, inl, inr, ⊎_elim, ℕ, zero, suc, ◌+◌, ◌*◌, ◌<◌, ◌≤◌, Bool, true, false, List, [], ◌∷◌, ◌++◌, length, take, take_at, Option, Some, None, IsSome, refl, sym, ◌∙◌, ap, subst, arith}
use Rattle.std.specs.Prelude.{◌==◌, not, if◌then◌else◌, map, filter, slice_get, option_map, MatchOption}
use Rattle.std.specs.Option.{option_map_or}
use Rattle.std.specs.List.{AllByRecursion}
use Rattle.std.proofs.lemmas.Bool.{cases_eq, ne_eqb, eq-eqb}
use Rattle.std.proofs.lemmas.List.{append-nil, take-append-le}
use Rattle.site_model.specs.Disk.{Files, Disk}
use Rattle.site_model.specs.Leaves.{Leaves, weaker}
use Rattle.site_model.specs.Touches.{touches_none, Touches}
use Rattle.world_model.specs.declared.types.Command.{Command}
use Rattle.world_model.specs.declared.types.Line.TheVariants as line
use Rattle.world_model.specs.declared.types.Reply.{Reply}
use Rattle.world_model.specs.declared.types.Reply.TheVariants as reply
use Rattle.world_model.specs.World.{Volume, World}
use Rattle.world_model.specs.declared.types.Refusal.{Refusal}
use Rattle.world_model.specs.Moves.{Reading, grammatical, has_job, without_job, effect, is_accepted, refusal_of, Allowed, Accepted, next_world}
use Rattle.world_model.specs.Jobs.{accepted_on, with_command, steps_if_running, running_steps, used_of}
use Rattle.world_model.specs.Laws.Job.{accepted_push, running_push}
use Rattle.world_model.specs.Runs.{IsRun}
use Rattle.world_model.specs.Laws.Run.{IsRun-push, world_after-push}
use Rattle.job_board.specs.declared.Job.{Job}
use Rattle.job_board.specs.Jobs.{IsBoard, work_of}
use Rattle.image_meaning.specs.Files.{contents, files_of}
use Rattle.image_meaning.specs.Meaning.{volume_in, max_volumes}
use Rattle.image_meaning.specs.Share.{AreSharesSettled, Share, share_of, finals, IsOfVolume, IsFirmShare}
use Rattle.image_meaning.specs.Near.{IsLeftBy, IsLeftByEither}
use Rattle.image_meaning.specs.Jobs.{with_started, line_is_job}
use Rattle.image_meaning.specs.Shards.{ShardsSo, shards_ended}
use Rattle.shard_table.specs.Table.{Row}
use Rattle.store_jobs.specs.Slots.{Slot, marked_by}
use Rattle.plan_steps.specs.Told.{ToldPlan}
use Rattle.store_jobs.specs.Laws.Rest.{has_volume_in, left_bounded}
use Rattle.plan_steps.specs.AnyPlans.{Plans, Runs, Tries}
use Rattle.store_jobs.specs.Store.{Work, Store, work_at, FitsWork, FitsVolume, Fits, job_in, store_world}
use Rattle.store_jobs.specs.Laws.Step.{steps_leave, steps_fit, steps_world, end_fits, end_firm, end_world, base_after, working, shards_anew}
use Rattle.store_jobs.specs.Laws.Change.{SameElsewhere, change_fits}
use Rattle.store_jobs.specs.Laws.Line.{step_allowed, may_start, line_leaves}
use Rattle.store_jobs.specs.BoardWorld.{world_jobs}
use Rattle.shell_jobs.specs.Progress.{Begin, world_at, left_of, commands_of, number_at, IsStart, StepsSo, Knows, Progress}

-- ---- lists

-- at a place of a list with one item more
get_push : {A : Type 0} (xs : List A) (x y : A) (i : ℕ) → slice_get (xs ++ x ∷ []) i ≡ Some y → ((slice_get xs i ≡ Some y) × (i < length xs)) ⊎ ((i ≡ length xs) × (x ≡ y))
get_push [] x y zero e = inr (refl, cc)
get_push [] x y (suc i) e = absurd cc
get_push (z ∷ xs) x y zero e = inl (e, omega arith)
get_push (z ∷ xs) x y (suc i) e = ⊎_elim (λ h. inl (h.0, omega (arith, h.1))) (λ h. inr (ap suc h.0, h.1)) (get_push xs x y i e)

-- a line that starts no job, or is refused
abbrev pub StartsNone : Reading → Reply → Type 0
StartsNone l r = (v : ℕ) (command : Command) (background : Bool) → l ≡ grammatical (line.Start v command background) → is_accepted r ≡ true → ⊥

-- a start among the lines with one reply more is one before, or this line
start_pushed : (begin : Begin) (replies : List Reply) (l : Reading) (r : Reply) (place v : ℕ) → slice_get begin.lines (length replies) ≡ Some l → IsStart begin (replies ++ r ∷ []) place v
    → (IsStart begin replies place v × (place < length replies)) ⊎ ((place ≡ length replies) × ((command : Command) × (background : Bool) × (l ≡ grammatical (line.Start v command background)) × (is_accepted r ≡ true)))
start_pushed begin replies l r place v at start = ⊎_elim
    (λ before. inl (record { command = start.command; background = start.background; reply = start.reply; is_line = start.is_line; is_reply = before.0; accepted = start.accepted }, before.1))
    (λ here. inr (
      here.0,
      (
        start.command,
        start.background,
        some_is l (grammatical (line.Start v start.command start.background)) (sym at ∙ ap (slice_get begin.lines) (sym here.0) ∙ start.is_line),
        ap is_accepted here.1 ∙ start.accepted,
      ),
    ))
    (get_push replies r start.reply place start.is_reply)
  where
    some_is : (a b : Reading) → Some a ≡ Some b → a ≡ b
    some_is a b e = cc

module _ (plans : Plans) where
  -- ---- the bound on steps

  module _ (begin : Begin) (replies : List Reply) (before after : Store plans) (l : Reading) (r : Reply) (at : slice_get begin.lines (length replies) ≡ Some l)
      (so : StepsSo plans begin replies before)
      (fewer : (job : ℕ) → job < before.board.next → steps_if_running job l r + left_of plans after.board.unfinished job ≤ left_of plans before.board.unfinished job)
      (none : (job : ℕ) → before.board.next ≤ job → steps_if_running job l r ≡ 0) where
    abbrev more : List Reply
    more = replies ++ r ∷ []

    -- of the job n, started in a world of so much
    abbrev Bounded : ℕ → ℕ → Type 0
    Bounded n used = running_steps n begin.lines more + left_of plans after.board.unfinished n ≤ 32 * used + 999999

    same_before : (place : ℕ) → place ≤ length replies → take place more ≡ take place replies
    same_before place within = take-append-le place replies (r ∷ []) within

    -- a job that was started before
    kept_bound : (place v : ℕ) → IsStart begin replies place v → place ≤ length replies → Bounded (number_at begin more place) (used_of (world_at begin (take place more)) v)
    kept_bound place v start within = subst (λ (rs : List Reply). Bounded (world_at begin rs).next_job (used_of (world_at begin rs) v)) (sym (same_before place within))
        (omega (arith, running_push (number_at begin replies place) begin.lines replies l r at, fewer (number_at begin replies place) (so.below place v start), so.started place v start))

    kept_below : (place v : ℕ) → IsStart begin replies place v → place ≤ length replies → before.board.next ≤ after.board.next → number_at begin more place < after.board.next
    kept_below place v start within later = subst (λ (rs : List Reply). (world_at begin rs).next_job < after.board.next) (sym (same_before place within)) (omega (arith, so.below place v start, later))

    kept_unstarted : before.board.next ≤ after.board.next → (job : ℕ) → after.board.next ≤ job → running_steps job begin.lines more ≡ 0
    kept_unstarted later job h = running_push job begin.lines replies l r at ∙ omega (arith, so.unstarted job (omega (arith, h, later)), none job (omega (arith, h, later)))

    -- a line that starts no job
    pub steps_kept : StartsNone l r → before.board.next ≤ after.board.next → StepsSo plans begin more after
    steps_kept starts_none later = record {
      started = λ place v start. ⊎_elim
          (λ h. kept_bound place v h.0 (omega (arith, h.1)))
          (λ h. absurd (starts_none v h.1.0 h.1.1 h.1.2 h.1.3))
          (start_pushed begin replies l r place v at start);
      below = λ place v start. ⊎_elim
          (λ h. kept_below place v h.0 (omega (arith, h.1)) later)
          (λ h. absurd (starts_none v h.1.0 h.1.1 h.1.2 h.1.3))
          (start_pushed begin replies l r place v at start);
      unstarted = kept_unstarted later;
    }

    -- the line that starts the next one, with `&` or without, of no more steps than the bound
    pub steps_started : (v : ℕ) (command : Command) (background : Bool) → l ≡ grammatical (line.Start v command background) → (world_at begin replies).next_job ≡ before.board.next
        → after.board.next ≡ before.board.next + 1 → left_of plans after.board.unfinished before.board.next ≤ 32 * used_of (world_at begin replies) v + 999999 → StepsSo plans begin more after
    steps_started v command background is_line number next bound = record {
      started = λ place u start. ⊎_elim
          (λ h. kept_bound place u h.0 (omega (arith, h.1)))
          (λ h. by_new place u h.0 (same_volume u h.1.0 h.1.1 (sym is_line ∙ h.1.2)))
          (start_pushed begin replies l r place u at start);
      below = λ place u start. ⊎_elim
          (λ h. kept_below place u h.0 (omega (arith, h.1)) (omega (arith, next)))
          (λ h. subst (λ (rs : List Reply). (world_at begin rs).next_job < after.board.next) (sym (all_before place h.0)) (omega (arith, number, next)))
          (start_pushed begin replies l r place u at start);
      unstarted = kept_unstarted (omega (arith, next));
    }
      where
        same_volume : (u : ℕ) (c : Command) (b : Bool) → grammatical (line.Start v command background) ≡ grammatical (line.Start u c b) → v ≡ u
        same_volume u c b e = cc

        all_before : (place : ℕ) → place ≡ length replies → take place more ≡ replies
        all_before place here = ap (λ n. take n more) here ∙ take_at replies (r ∷ []) (length replies) refl

        new_bound : Bounded before.board.next (used_of (world_at begin replies) v)
        new_bound = omega (arith, bound, running_push before.board.next begin.lines replies l r at, so.unstarted before.board.next (omega arith), none before.board.next (omega arith))

        by_new : (place u : ℕ) → place ≡ length replies → v ≡ u → Bounded (number_at begin more place) (used_of (world_at begin (take place more)) u)
        by_new place u here same =
            subst (λ (rs : List Reply). Bounded (world_at begin rs).next_job (used_of (world_at begin rs) u)) (sym (all_before place here))
            (subst (λ k. Bounded (world_at begin replies).next_job (used_of (world_at begin replies) k)) same
            (subst (λ n. Bounded n (used_of (world_at begin replies) v)) (sym number) new_bound))

  -- ---- steps of a job

  -- What the store tells of steps of job n, of volume v.
  pub record StepsJob (before after : Store plans) (old new : Disk) (v n : ℕ) : Type 0 where
    pub below : v < max_volumes
    pub work : Work plans
    pub has : work_at plans before.board.unfinished v ≡ Some work
    pub number : n < before.board.next
    pub is_job : has_job (map (job_in plans) before.board.unfinished) n ≡ Some (record { number = n; volume = v; command = (plans.plan work.running).command })
    pub running : plans.Running
    pub row : Row
    pub taken : ℕ
    pub run : Runs plans taken v work.running running (before.rows v) row old new
    pub same_servers : after.servers ≡ before.servers
    pub same_limit : after.limit ≡ before.limit
    pub same_next : after.board.next ≡ before.board.next
    pub board : IsBoard after.board
    pub all_in : AllByRecursion (λ (job : Job (Work plans)). IsSome job.work) after.board.unfinished
    pub row_there : after.rows v ≡ row
    pub rows : (q : ℕ) → q ≢ v → after.rows q ≡ before.rows q
    pub works : (q : ℕ) → q ≢ v → work_at plans after.board.unfinished q ≡ work_at plans before.board.unfinished q
    pub left_others : (job : ℕ) → job ≢ n → left_of plans after.board.unfinished job ≡ left_of plans before.board.unfinished job

  -- the job goes on, by so many steps, and some remain
  pub record GoesOn (before after : Store plans) (old new : Disk) (v n steps : ℕ) (did : StepsJob before after old new v n) : Type 0 where
    pub slots : after.slots ≡ before.slots
    pub there : work_at plans after.board.unfinished v ≡ Some (record did.work { running = did.running })
    pub jobs : map (job_in plans) after.board.unfinished ≡ map (job_in plans) before.board.unfinished
    pub left : steps + left_of plans after.board.unfinished n ≤ left_of plans before.board.unfinished n
    pub some : 0 < plans.left did.running

  -- or it has ended
  pub record Ends (before after : Store plans) (old new : Disk) (v n : ℕ) (did : StepsJob before after old new v n) : Type 0 where
    pub slot : after.slots v ≡ Some did.work.after
    pub slots : (q : ℕ) → q ≢ v → after.slots q ≡ before.slots q
    pub free : work_at plans after.board.unfinished v ≡ None
    pub jobs : map (job_in plans) after.board.unfinished ≡ filter (λ j. not (j.number == n)) (map (job_in plans) before.board.unfinished)
    pub over : plans.left did.running ≡ 0
    pub none_left : left_of plans after.board.unfinished n ≡ 0

  -- ---- a job that ends, with a reply or without

  module _ (begin : Begin) (replies : List Reply) (before after : Store plans) (old new : Disk) (v n : ℕ) (k : Knows plans begin replies before old.files) (did : StepsJob before after old new v n) where
    module _ (over : Ends before after old new v n did) where
      abbrev its_command : Command
      its_command = (plans.plan did.work.running).command

      -- the volume begins anew
      abbrev base_over : ℕ → Share
      base_over = base_after plans before begin.servers did.taken old new k.base k.fits v did.below did.work did.has did.running did.row did.run
          after n did.same_servers did.same_limit did.same_next did.board did.all_in over.slot over.free did.row_there over.slots did.rows did.works did.is_job over.jobs over.over

      fits_over : Fits plans after begin.servers new.files base_over
      fits_over = end_fits plans before begin.servers did.taken old new k.base k.fits v did.below did.work did.has did.running did.row did.run
          after n did.same_servers did.same_limit did.same_next did.board did.all_in over.slot over.free did.row_there over.slots did.rows did.works did.is_job over.jobs over.over

      world_over : store_world plans after (contents new.files) ≡ without_job (store_world plans before (contents old.files)) n
      world_over =
          end_world plans before begin.servers did.taken old new k.base k.fits v did.below did.work did.has did.running did.row did.run
          after n did.same_servers did.same_limit did.same_next did.board did.all_in over.slot over.free did.row_there over.slots did.rows did.works did.is_job over.jobs over.over

      abbrev commands_over : ℕ → List Command
      commands_over q = if q == v then k.commands v ++ its_command ∷ [] else k.commands q

      commands_there : commands_over v ≡ k.commands v ++ its_command ∷ []
      commands_there = ap (λ b. if b then k.commands v ++ its_command ∷ [] else k.commands v) (eq-eqb v v refl)

      commands_elsewhere : (q : ℕ) → q ≢ v → commands_over q ≡ k.commands q
      commands_elsewhere q other = ap (λ b. if b then k.commands v ++ its_command ∷ [] else k.commands q) (ne_eqb q v other)

      so_far_over : (q : ℕ) → (q ≡ v) ⊎ (q ≢ v) → k.commands q ++ commands_of plans (work_at plans before.board.unfinished q) ≡ commands_over q ++ commands_of plans (work_at plans after.board.unfinished q)
      so_far_over q (inl e) = subst (λ u. k.commands u ++ commands_of plans (work_at plans before.board.unfinished u) ≡ commands_over u ++ commands_of plans (work_at plans after.board.unfinished u)) (sym e)
          (ap (λ w. k.commands v ++ commands_of plans w) did.has
          ∙ sym (ap (λ w. commands_over v ++ commands_of plans w) over.free ∙ append-nil (commands_over v) ∙ commands_there))
      so_far_over q (inr other) = ap (λ w. k.commands q ++ commands_of plans w) (sym (did.works q other)) ∙ ap (λ cs. cs ++ commands_of plans (work_at plans after.board.unfinished q)) (sym (commands_elsewhere q other))

      base_there : base_over v ≡ share_of new.files v
      base_there = ap (λ b. if b then share_of new.files v else k.base v) (eq-eqb v v refl)

      base_elsewhere : (q : ℕ) → q ≢ v → base_over q ≡ k.base q
      base_elsewhere q other = ap (λ b. if b then share_of new.files v else k.base q) (ne_eqb q v other)

      -- the files as the command began had the shards of the commands before, and it has ended on them
      shards_over : (q : ℕ) → q < max_volumes → (q ≡ v) ⊎ (q ≢ v) → ShardsSo begin.servers (files_of (contents begin.opening) q) (finals (base_over q)) (commands_over q)
      shards_over q h (inl e) = subst (λ u. ShardsSo begin.servers (files_of (contents begin.opening) u) (finals (base_over u)) (commands_over u)) (sym e)
          (subst (λ share. ShardsSo begin.servers (files_of (contents begin.opening) v) (finals share) (commands_over v)) (sym base_there)
          (subst (ShardsSo begin.servers (files_of (contents begin.opening) v) (finals (share_of new.files v))) (sym commands_there)
          (shards_ended begin.servers (files_of (contents begin.opening) v) (finals (k.base v)) (finals (share_of new.files v)) (k.commands v) its_command (k.shards v did.below)
          (shards_anew plans did.taken begin.servers old new v did.work (before.slots v) (before.rows v) did.row (k.base v) (working plans before begin.servers did.taken old new k.base k.fits v did.below did.work did.has) did.running did.run over.over))))
      shards_over q h (inr other) =
          subst (λ share. ShardsSo begin.servers (files_of (contents begin.opening) q) (finals share) (commands_over q)) (sym (base_elsewhere q other))
          (subst (ShardsSo begin.servers (files_of (contents begin.opening) q) (finals (k.base q))) (sym (commands_elsewhere q other)) (k.shards q h))

      pub knows_over : Knows plans begin replies after new.files
      knows_over = record {
        base = base_over;
        fits = fits_over;
        firm = λ settled. end_firm plans before begin.servers did.taken old new k.base k.fits v did.below did.work did.has did.running did.row did.run
            after n did.same_servers did.same_limit did.same_next did.board did.all_in over.slot over.free did.row_there over.slots did.rows did.works did.is_job over.jobs over.over (k.firm settled);
        commands = commands_over;
        so_far = λ q h. k.so_far q h ∙ so_far_over q (cases_eq q v);
        shards = λ q h. shards_over q h (cases_eq q v);
      }

      pub store_over : store_world plans after (contents new.files) ≡ without_job (store_world plans before (contents old.files)) n
      store_over = world_over

  -- a reply to a line that starts no command
  pub knows_replied : (begin : Begin) (replies : List Reply) (r : Reply) (store : Store plans) (files : Files) → ((q : ℕ) → accepted_on q begin.lines (replies ++ r ∷ []) ≡ accepted_on q begin.lines replies)
      → Knows plans begin replies store files → Knows plans begin (replies ++ r ∷ []) store files
  knows_replied begin replies r store files same k = record {
    base = k.base;
    fits = k.fits;
    firm = k.firm;
    commands = k.commands;
    so_far = λ q h. same q ∙ k.so_far q h;
    shards = k.shards;
  }

  module _ (begin : Begin) (before after : Store plans) (old new : Disk) (v n steps : ℕ) (p : Progress plans begin before old.files)
      (at : slice_get begin.lines (length p.replies) ≡ Some (grammatical (line.Step n steps))) (did : StepsJob before after old new v n) where
    found : has_job (world_at begin p.replies).jobs n ≡ Some (record { number = n; volume = v; command = (plans.plan did.work.running).command })
    found = ap (λ (w : World). has_job w.jobs n) (sym p.world) ∙ did.is_job

    run_on : (r : Reply) → (r ≡ reply.Running n) ⊎ (r ≡ reply.Ended n) → IsRun begin.first begin.lines (p.replies ++ r ∷ [])
    run_on r is = IsRun-push begin.first begin.lines p.replies (grammatical (line.Step n steps)) r p.is_run at
        (step_allowed (world_at begin p.replies) n steps (record { number = n; volume = v; command = (plans.plan did.work.running).command }) r found is)

    -- the line starts no command
    no_command : (q : ℕ) (r : Reply) → (r ≡ reply.Running n) ⊎ (r ≡ reply.Ended n) → accepted_on q begin.lines (p.replies ++ r ∷ []) ≡ accepted_on q begin.lines p.replies
    no_command q r (inl e) = ap (λ x. accepted_on q begin.lines (p.replies ++ x ∷ [])) e
        ∙ accepted_push q begin.lines p.replies (grammatical (line.Step n steps)) (reply.Running n) at ∙ append-nil (accepted_on q begin.lines p.replies)
    no_command q r (inr e) = ap (λ x. accepted_on q begin.lines (p.replies ++ x ∷ [])) e
        ∙ accepted_push q begin.lines p.replies (grammatical (line.Step n steps)) (reply.Ended n) at ∙ append-nil (accepted_on q begin.lines p.replies)

    module _ (on : GoesOn before after old new v n steps did) where
      fits_on : Fits plans after begin.servers new.files p.knows.base
      fits_on = steps_fit plans before begin.servers did.taken old new p.knows.base p.knows.fits v did.below did.work did.has did.running did.row did.run
          after did.same_servers did.same_limit did.same_next did.board did.all_in on.slots on.there did.row_there did.works did.rows on.jobs on.some

      world_on : store_world plans after (contents new.files) ≡ store_world plans before (contents old.files)
      world_on = steps_world plans before begin.servers did.taken old new p.knows.base p.knows.fits v did.below did.work did.has did.running did.row did.run
          after did.same_servers did.same_limit did.same_next did.board did.all_in on.slots on.there did.row_there did.works did.rows on.jobs on.some

      fewer_on : (job : ℕ) → steps_if_running job (grammatical (line.Step n steps)) (reply.Running n) + left_of plans after.board.unfinished job ≤ left_of plans before.board.unfinished job
      fewer_on job = elim (cases_eq job n) [
        | inl e ↦ subst (λ k. (if n == k then steps else 0) + left_of plans after.board.unfinished k ≤ left_of plans before.board.unfinished k) (sym e)
            (subst (λ b. (if b then steps else 0) + left_of plans after.board.unfinished n ≤ left_of plans before.board.unfinished n) (sym (eq-eqb n n refl)) (omega (arith, on.left)))
        | inr other ↦ subst (λ b. (if b then steps else 0) + left_of plans after.board.unfinished job ≤ left_of plans before.board.unfinished job) (sym (ne_eqb n job (λ e. other (sym e))))
            (omega (arith, did.left_others job other))
      ]

      none_on : (job : ℕ) → before.board.next ≤ job → steps_if_running job (grammatical (line.Step n steps)) (reply.Running n) ≡ 0
      none_on job h = ap (λ b. if b then steps else 0) (ne_eqb n job (λ e. omega (arith, e, h, did.number)))

      commands_on : (q : ℕ) → (q ≡ v) ⊎ (q ≢ v) → commands_of plans (work_at plans before.board.unfinished q) ≡ commands_of plans (work_at plans after.board.unfinished q)
      commands_on q (inl e) = subst (λ k. commands_of plans (work_at plans before.board.unfinished k) ≡ commands_of plans (work_at plans after.board.unfinished k)) (sym e)
          (ap (commands_of plans) did.has ∙ ap (λ (p : ToldPlan). p.command ∷ []) (sym did.run.same_plan) ∙ sym (ap (commands_of plans) on.there))
      commands_on q (inr other) = ap (commands_of plans) (sym (did.works q other))

      starts_no_job : StartsNone (grammatical (line.Step n steps)) (reply.Running n)
      starts_no_job u command background e accepted = cc

      -- the reply is `running`
      pub running_on : Progress plans begin after new.files
      running_on = record {
        replies = p.replies ++ reply.Running n ∷ [];
        is_run = run_on (reply.Running n) (inl refl);
        knows = record {
          base = p.knows.base;
          fits = fits_on;
          firm = p.knows.firm;
          commands = p.knows.commands;
          so_far = λ q h. no_command q (reply.Running n) (inl refl) ∙ p.knows.so_far q h ∙ ap (λ cs. p.knows.commands q ++ cs) (commands_on q (cases_eq q v));
          shards = p.knows.shards;
        };
        world = world_on ∙ p.world ∙ sym (world_after-push begin.first begin.lines p.replies (grammatical (line.Step n steps)) (reply.Running n) at);
        steps = steps_kept begin p.replies before after (grammatical (line.Step n steps)) (reply.Running n) at p.steps (λ job h. fewer_on job) none_on starts_no_job (omega (arith, did.same_next));
      }

    module _ (over : Ends before after old new v n did) where
      fewer_over : (job : ℕ) → steps_if_running job (grammatical (line.Step n steps)) (reply.Ended n) + left_of plans after.board.unfinished job ≤ left_of plans before.board.unfinished job
      fewer_over job = elim (cases_eq job n) [
        | inl e ↦ subst (λ k. 0 + left_of plans after.board.unfinished k ≤ left_of plans before.board.unfinished k) (sym e) (omega (arith, over.none_left))
        | inr other ↦ omega (arith, did.left_others job other)
      ]

      starts_none : StartsNone (grammatical (line.Step n steps)) (reply.Ended n)
      starts_none u command background e accepted = cc

      -- the reply is `done`
      pub ended_on : Progress plans begin after new.files
      ended_on = record {
        replies = p.replies ++ reply.Ended n ∷ [];
        is_run = run_on (reply.Ended n) (inr refl);
        knows = knows_replied begin p.replies (reply.Ended n) after new.files (λ q. no_command q (reply.Ended n) (inr refl)) (knows_over begin p.replies before after old new v n p.knows did over);
        world = store_over begin p.replies before after old new v n p.knows did over ∙ ap (λ w. without_job w n) p.world
            ∙ sym (world_after-push begin.first begin.lines p.replies (grammatical (line.Step n steps)) (reply.Ended n) at);
        steps = steps_kept begin p.replies before after (grammatical (line.Step n steps)) (reply.Ended n) at p.steps (λ job h. fewer_over job) (λ job h. refl) starts_none (omega (arith, did.same_next));
      }

  -- ---- the start of a job

  -- What the store tells of a start: no file has changed, and the plan is at its beginning.
  pub record Starts (servers : ℕ) (before after : Store plans) (files : Files) (v : ℕ) (command : Command) : Type 0 where
    pub below : v < max_volumes
    pub accepted : refusal_of (store_world plans before (contents files)) (line.Start v command true) ≡ None
    pub idle : work_at plans before.board.unfinished v ≡ None
    pub work : Work plans
    pub is_command : (plans.plan work.running).command ≡ command
    pub there : work_at plans after.board.unfinished v ≡ Some work
    pub same_servers : after.servers ≡ before.servers
    pub same_limit : after.limit ≡ before.limit
    pub same_slots : after.slots ≡ before.slots
    pub next : after.board.next ≡ before.board.next + 1
    pub board : IsBoard after.board
    pub all_in : AllByRecursion (λ (job : Job (Work plans)). IsSome job.work) after.board.unfinished
    pub jobs : map (job_in plans) after.board.unfinished ≡ map (job_in plans) before.board.unfinished ++ record { number = before.board.next; volume = v; command = command } ∷ []
    pub rows : (q : ℕ) → q ≢ v → after.rows q ≡ before.rows q
    pub works : (q : ℕ) → q ≢ v → work_at plans after.board.unfinished q ≡ work_at plans before.board.unfinished q
    pub left_others : (job : ℕ) → job < before.board.next → left_of plans after.board.unfinished job ≡ left_of plans before.board.unfinished job
    pub fits : FitsWork plans servers work (before.slots v) v (after.rows v) (share_of files v) (share_of files v)
    pub work_is : work_of after.board.unfinished before.board.next ≡ Some work

  -- The accepted line, with `&` or without, as its job has been started.
  module _ (begin : Begin) (before after : Store plans) (disk : Disk) (v : ℕ) (command : Command) (p : Progress plans begin before disk.files) (did : Starts begin.servers before after disk.files v command)
      (background : Bool) (r : Reply) (at : slice_get begin.lines (length p.replies) ≡ Some (grammatical (line.Start v command background))) (is_reply : is_accepted r ≡ true) where
    was : FitsVolume plans begin.servers None (before.slots v) v (before.rows v) (p.knows.base v) (share_of disk.files v)
    was = subst (λ w. FitsVolume plans begin.servers w (before.slots v) v (before.rows v) (p.knows.base v) (share_of disk.files v)) did.idle (p.knows.fits.each v did.below)

    fits_started : Fits plans after begin.servers disk.files p.knows.base
    fits_started = change_fits plans before begin.servers disk disk p.knows.base p.knows.fits v did.below (touches_none disk) after p.knows.base did.same_servers did.board did.all_in
        (record { slots = λ q other. ap (λ (slots : ℕ → Option Slot). slots q) did.same_slots; rows = did.rows; works = did.works; bases = λ q other. refl })
        (subst (λ w. FitsVolume plans begin.servers w (after.slots v) v (after.rows v) (p.knows.base v) (share_of disk.files v)) (sym did.there)
        (subst (λ (slots : ℕ → Option Slot). FitsVolume plans begin.servers (Some did.work) (slots v) v (after.rows v) (p.knows.base v) (share_of disk.files v)) (sym did.same_slots)
        (was.0, subst (λ share. FitsWork plans begin.servers did.work (before.slots v) v (after.rows v) share (share_of disk.files v)) was.2 did.fits)))

    commands_pushed : (q : ℕ) → accepted_on q begin.lines (p.replies ++ r ∷ []) ≡ accepted_on q begin.lines p.replies ++ with_command true (if v == q then Some command else None) []
    commands_pushed q = accepted_push q begin.lines p.replies (grammatical (line.Start v command background)) r at
        ∙ ap (λ b. accepted_on q begin.lines p.replies ++ with_command b (if v == q then Some command else None) []) is_reply

    command_there : (q : ℕ) → q < max_volumes → (q ≡ v) ⊎ (q ≢ v) → accepted_on q begin.lines (p.replies ++ r ∷ []) ≡ p.knows.commands q ++ commands_of plans (work_at plans after.board.unfinished q)
    command_there q h (inl e) = subst (λ k. accepted_on k begin.lines (p.replies ++ r ∷ []) ≡ p.knows.commands k ++ commands_of plans (work_at plans after.board.unfinished k)) (sym e)
        (commands_pushed v
        ∙ ap (λ b. accepted_on v begin.lines p.replies ++ with_command true (if b then Some command else None) []) (eq-eqb v v refl)
        ∙ ap (λ cs. cs ++ command ∷ []) (p.knows.so_far v did.below ∙ ap (λ w. p.knows.commands v ++ commands_of plans w) did.idle ∙ append-nil (p.knows.commands v))
        ∙ ap (λ (c : Command). p.knows.commands v ++ c ∷ []) (sym did.is_command)
        ∙ sym (ap (λ w. p.knows.commands v ++ commands_of plans w) did.there))
    command_there q h (inr other) =
        commands_pushed q
        ∙ ap (λ b. accepted_on q begin.lines p.replies ++ with_command true (if b then Some command else None) []) (ne_eqb v q (λ e. other (sym e)))
        ∙ append-nil (accepted_on q begin.lines p.replies)
        ∙ p.knows.so_far q h ∙ ap (λ w. p.knows.commands q ++ commands_of plans w) (sym (did.works q other))

    -- the accepted command is that of the job
    pub knows_started : Knows plans begin (p.replies ++ r ∷ []) after disk.files
    knows_started = record {
      base = p.knows.base;
      fits = fits_started;
      firm = p.knows.firm;
      commands = p.knows.commands;
      so_far = λ q h. command_there q h (cases_eq q v);
      shards = p.knows.shards;
    }

    was_now : FitsVolume plans begin.servers None (before.slots v) v (before.rows v) (share_of disk.files v) (share_of disk.files v)
    was_now = subst (λ share. FitsVolume plans begin.servers None (before.slots v) v (before.rows v) share (share_of disk.files v)) (sym was.2) was

    -- the job begins within the bound
    bound_started : left_of plans after.board.unfinished before.board.next ≤ 32 * used_of (store_world plans before (contents disk.files)) v + 999999
    bound_started = subst (λ o. option_map_or (λ (w : Work plans). plans.left w.running) o 0 ≤ 32 * used_of (store_world plans before (contents disk.files)) v + 999999) (sym did.work_is)
        (subst (λ o. plans.left did.work.running ≤ 32 * option_map_or (λ (vol : Volume). vol.used) o 0 + 999999) (sym (has_volume_in plans before begin.servers disk.files p.knows.base p.knows.fits v did.below))
        (left_bounded plans begin.servers did.work (before.slots v) v (after.rows v) (share_of disk.files v) (share_of disk.files v) (was_now.0, did.fits)))

  world_started : (servers : ℕ) (before after : Store plans) (files : Files) (v : ℕ) (command : Command) → Starts servers before after files v command
      → store_world plans after (contents files) ≡ with_started (store_world plans before (contents files)) v command
  world_started servers before after files v command did = λ i. record {
    servers = did.same_servers i;
    limit = did.same_limit i;
    volumes = λ q. option_map (marked_by (did.same_slots i q)) (volume_in (contents files) q);
    jobs = did.jobs i;
    next_job = did.next i;
  }

  -- ---- the line with `&`

  module _ (begin : Begin) (before after : Store plans) (disk : Disk) (v : ℕ) (command : Command) (p : Progress plans begin before disk.files)
      (at : slice_get begin.lines (length p.replies) ≡ Some (grammatical (line.Start v command true))) (did : Starts begin.servers before after disk.files v command) where
    abbrev l : Reading
    l = grammatical (line.Start v command true)

    abbrev r : Reply
    r = reply.Started before.board.next

    allowed : Allowed (world_at begin p.replies) l r
    allowed = subst (λ (w : World). Allowed w l r) p.world
        (subst (λ (o : Option Refusal). MatchOption o (Accepted (store_world plans before (contents disk.files)) (line.Start v command true) r) (λ why. r ≡ reply.Refused why)) (sym did.accepted) refl)

    -- the reply is the job's number
    pub started_on : Progress plans begin after disk.files
    started_on = record {
      replies = p.replies ++ r ∷ [];
      is_run = IsRun-push begin.first begin.lines p.replies l r p.is_run at allowed;
      knows = knows_started begin before after disk v command p did true r at refl;
      world = world_started begin.servers before after disk.files v command did ∙ ap (λ (w : World). with_started w v command) p.world ∙ sym (world_after-push begin.first begin.lines p.replies l r at);
      steps = steps_started begin p.replies before after l r at p.steps (λ job h. omega (arith, did.left_others job h)) (λ job h. refl) v command true refl (ap (λ (w : World). w.next_job) (sym p.world)) did.next
          (subst (λ (w : World). left_of plans after.board.unfinished before.board.next ≤ 32 * used_of w v + 999999) p.world
          (bound_started begin before after disk v command p did true r at refl));
    }

  -- ---- the line without it: the job is started and run to its end

  module _ (begin : Begin) (before mid after : Store plans) (old new : Disk) (v : ℕ) (command : Command) (p : Progress plans begin before old.files)
      (at : slice_get begin.lines (length p.replies) ≡ Some (grammatical (line.Start v command false))) (began : Starts begin.servers before mid old.files v command)
      (did : StepsJob mid after old new v before.board.next) (over : Ends mid after old new v before.board.next did) where
    abbrev whole : Reading
    whole = grammatical (line.Start v command false)

    knows_mid : Knows plans begin (p.replies ++ reply.Done ∷ []) mid old.files
    knows_mid = knows_started begin before mid old v command p began false reply.Done at refl

    may_be_done : Allowed (world_at begin p.replies) whole reply.Done
    may_be_done = subst (λ (w : World). Allowed w whole reply.Done) p.world
        (subst (λ (o : Option Refusal). MatchOption o (Accepted (store_world plans before (contents old.files)) (line.Start v command false) reply.Done) (λ why. reply.Done ≡ reply.Refused why)) (sym began.accepted) refl)

    fewer_done : (job : ℕ) → job < before.board.next → 0 + left_of plans after.board.unfinished job ≤ left_of plans before.board.unfinished job
    fewer_done job h = omega (arith, did.left_others job (λ e. absurd (omega (arith, e, h))), began.left_others job h)

    -- the reply is `OK`
    pub done_on : Progress plans begin after new.files
    done_on = record {
      replies = p.replies ++ reply.Done ∷ [];
      is_run = IsRun-push begin.first begin.lines p.replies whole reply.Done p.is_run at may_be_done;
      knows = knows_over begin (p.replies ++ reply.Done ∷ []) mid after old new v before.board.next knows_mid did over;
      world = store_over begin (p.replies ++ reply.Done ∷ []) mid after old new v before.board.next knows_mid did over
          ∙ ap (λ (w : World). without_job w before.board.next) (world_started begin.servers before mid old.files v command began)
          ∙ line_is_job (store_world plans before (contents old.files)) v command reply.Done (world_jobs plans before (contents old.files) p.knows.fits.board)
          ∙ ap (λ (w : World). effect w (line.Start v command false) reply.Done) p.world
          ∙ sym (world_after-push begin.first begin.lines p.replies whole reply.Done at);
      steps = steps_started begin p.replies before after whole reply.Done at p.steps fewer_done (λ job h. refl) v command false refl (ap (λ (w : World). w.next_job) (sym p.world))
          (did.same_next ∙ began.next) (omega (arith, over.none_left));
    }

  -- What a stop within the line leaves, also where a step fails, is near the world before it or near the one after it.
  pub line_stops : (begin : Begin) (before mid : Store plans) (old new : Disk) (v : ℕ) (command : Command) (p : Progress plans begin before old.files) (began : Starts begin.servers before mid old.files v command)
      (at : slice_get begin.lines (length p.replies) ≡ Some (grammatical (line.Start v command false))) (steps : ℕ) → Tries plans steps v began.work.running (mid.rows v) old new → AreSharesSettled begin.opening
      → Leaves old new (λ image said. IsLeftByEither (world_at begin p.replies) (effect (world_at begin p.replies) (line.Start v command false) reply.Done) image)
  line_stops begin before mid old new v command p began at steps tried settled =
      weaker (steps_leave plans mid begin.servers steps old new p.knows.base (fits_started begin before mid old v command p began false reply.Done at refl) v began.below began.work began.there tried (p.knows.firm settled)) (λ image said left.
      line_leaves (world_at begin p.replies) v command reply.Done image
      (may_start (world_at begin p.replies) v command true (subst (λ (w : World). refusal_of w (line.Start v command true) ≡ None) p.world began.accepted))
      (subst (λ (w : World). IsLeftBy w image) (world_started begin.servers before mid old.files v command began ∙ ap (λ (w : World). with_started w v command) p.world) left))

  -- ---- every other line

  -- What is known after a line on one volume, whose share and slot have changed: the others are as they were.
  pub knows_changed : (begin : Begin) (replies : List Reply) (before after : Store plans) (old new : Disk) (v : ℕ) (k : Knows plans begin replies before old.files) (base : ℕ → Share) → v < max_volumes
      → Touches (IsOfVolume v) old new → after.servers ≡ before.servers → IsBoard after.board → AllByRecursion (λ (job : Job (Work plans)). IsSome job.work) after.board.unfinished
      → SameElsewhere plans v before after k.base base → work_at plans after.board.unfinished v ≡ work_at plans before.board.unfinished v
      → FitsVolume plans begin.servers (work_at plans after.board.unfinished v) (after.slots v) v (after.rows v) (base v) (share_of new.files v)
      → (AreSharesSettled begin.opening → IsFirmShare (base v)) → ShardsSo begin.servers (files_of (contents begin.opening) v) (finals (base v)) (k.commands v)
      → Knows plans begin replies after new.files
  knows_changed begin replies before after old new v k base below touches same_servers board all_in same same_work there firm shards = record {
    base = base;
    fits = change_fits plans before begin.servers old new k.base k.fits v below touches after base same_servers board all_in same there;
    firm = λ settled q h. elim (cases_eq q v) [
      | inl e ↦ subst (λ u. IsFirmShare (base u)) (sym e) (firm settled)
      | inr other ↦ subst IsFirmShare (sym (same.bases q other)) (k.firm settled q h)
    ];
    commands = k.commands;
    so_far = λ q h. k.so_far q h ∙ ap (λ w. k.commands q ++ commands_of plans w) (works q (cases_eq q v));
    shards = λ q h. elim (cases_eq q v) [
      | inl e ↦ subst (λ u. ShardsSo begin.servers (files_of (contents begin.opening) u) (finals (base u)) (k.commands u)) (sym e) shards
      | inr other ↦ subst (λ share. ShardsSo begin.servers (files_of (contents begin.opening) q) (finals share) (k.commands q)) (sym (same.bases q other)) (k.shards q h)
    ];
  }
    where
      works : (q : ℕ) → (q ≡ v) ⊎ (q ≢ v) → work_at plans before.board.unfinished q ≡ work_at plans after.board.unfinished q
      works q (inl e) = subst (λ u. work_at plans before.board.unfinished u ≡ work_at plans after.board.unfinished u) (sym e) (sym same_work)
      works q (inr other) = sym (same.works q other)

  -- A reply that starts no job, by what is known of the files after its line: `job.wait` by `knows_over`, lines on a volume by `knows_changed`.
  pub answered_on : (begin : Begin) (before after : Store plans) (old new : Files) (p : Progress plans begin before old) (l : Reading) (r : Reply) → slice_get begin.lines (length p.replies) ≡ Some l
      → Allowed (store_world plans before (contents old)) l r → store_world plans after (contents new) ≡ next_world (store_world plans before (contents old)) l r
      → ((q : ℕ) → accepted_on q begin.lines (p.replies ++ r ∷ []) ≡ accepted_on q begin.lines p.replies) → Knows plans begin p.replies after new
      → StartsNone l r → ((job : ℕ) → steps_if_running job l r ≡ 0) → ((job : ℕ) → left_of plans after.board.unfinished job ≤ left_of plans before.board.unfinished job)
      → before.board.next ≤ after.board.next → Progress plans begin after new
  answered_on begin before after old new p l r at allowed moves no_command knows starts_none none fewer later = record {
    replies = p.replies ++ r ∷ [];
    is_run = IsRun-push begin.first begin.lines p.replies l r p.is_run at (subst (λ (w : World). Allowed w l r) p.world allowed);
    knows = knows_replied begin p.replies r after new no_command knows;
    world = moves ∙ ap (λ (w : World). next_world w l r) p.world ∙ sym (world_after-push begin.first begin.lines p.replies l r at);
    steps = steps_kept begin p.replies before after l r at p.steps (λ job h. omega (arith, none job, fewer job)) (λ job h. none job) starts_none later;
  }
