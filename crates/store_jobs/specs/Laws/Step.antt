-- Steps of one job, while all other volumes and their jobs stand still: what a stop within them leaves, what they make of
-- the store, and what the end of the job does.
use Rattle.std.proofs.Common.{◌≡◌, ◌≢◌, ◌⊎◌, inl, inr, ⊎_elim, ℕ, ◌+◌, ◌<◌, ◌≤◌, Option, Some, None, IsSome, refl, sym, ◌∙◌, ap, subst}
use Rattle.std.specs.Prelude.{◌==◌, not, nat_lt, if◌then◌else◌, map, filter, option_map}
use Rattle.std.specs.Option.{option_map_or}
use Rattle.std.specs.List.{AllByRecursion}
use Rattle.std.proofs.lemmas.Bool.{cases_eq, cases_lt, lt-ltb, le-ltb, ne_eqb, eq-eqb}
use Rattle.site_model.specs.Disk.{Image, LeftOutside, Disk}
use Rattle.site_model.specs.Leaves.{Leaves, starts, joins, weaker, both}
use Rattle.site_model.specs.Touches.{touches_none, touches_on}
use Rattle.world_model.specs.declared.types.Command.{Command}
use Rattle.world_model.specs.declared.types.Command.TheVariants.{Encode, Rebuild, Balance, Decode}
use Rattle.world_model.specs.World.{Volume, World}
use Rattle.world_model.specs.World as world
use Rattle.world_model.specs.Moves.{has_job, mode_after, with_ended, without_job}
use Rattle.job_board.specs.declared.Job.{Job}
use Rattle.job_board.specs.Jobs.{IsBoard}
use Rattle.image_meaning.specs.Files.{contents, files_of}
use Rattle.image_meaning.specs.Meaning.{volume_of, volume_in, max_volumes}
use Rattle.image_meaning.specs.Ends.{NearVolume}
use Rattle.image_meaning.specs.Share.{Share, share_of, finals, IsFirmShare, IsOfVolume, share_elsewhere, left_elsewhere, left_at_rest, few_none, few_on, few_more}
use Rattle.image_meaning.specs.Shards.{EndsShards, copies_none, copies_on}
use Rattle.image_meaning.specs.Outlasts.{Outlasts}
use Rattle.image_meaning.specs.Near.{NearIn, IsLeftBy, IsUnderway, image_near}
use Rattle.shard_table.specs.Table.{Row}
use Rattle.store_jobs.specs.Slots.{Slot, mode_in, marked_by, FitsSlot, IsRowOf}
use Rattle.plan_steps.specs.Told.{ToldPlan}
use Rattle.plan_steps.specs.Ending.{EndsBy}
use Rattle.plan_steps.specs.Reading.{IsGoing}
use Rattle.plan_steps.specs.AnyPlans.{Plans, Tries, Runs}
use Rattle.store_jobs.specs.Making.{Makes, mode_made, made_fits, ended_shards}
use Rattle.store_jobs.specs.Store.{Work, Store, work_at, FitsVolume, Fits, IsFirmBase, job_in, store_world, is_reforming}
use Rattle.store_jobs.specs.Laws.Change.{change_fits}
use Rattle.store_jobs.specs.Laws.Rest.{HeldAs, began, worked_is, form_near, near_in, share_near, share_firm, has_volume_in, bounded}

still_going : (command : Command) (left : ℕ) → 0 < left → IsGoing command left
still_going (Encode ratio) left some = some
still_going Rebuild left some = tt
still_going Balance left some = tt
still_going Decode left some = tt

module _ (plans : Plans) where
  -- ---- runs of steps

  pub tries_none : (v : ℕ) (r : plans.Running) (row : Row) (disk : Disk) → Tries plans 0 v r row disk disk
  tries_none v r row disk = record {
    touches = touches_none disk;
    few = few_none disk.files;
    leaves = λ start vol follows firm means. starts disk (λ image left.
        subst (IsUnderway (plans.plan r).command vol) (sym (left_at_rest disk.files image v (plans.firm r row start (share_of disk.files v) follows firm) left)) (plans.underway r row start (share_of disk.files v) vol follows means));
    copies = λ start follows other. copies_none (finals (share_of disk.files v));
  }

  pub runs_none : (v : ℕ) (r : plans.Running) (row : Row) (disk : Disk) → Runs plans 0 v r r row row disk disk
  runs_none v r row disk = record { tried = tries_none v r row disk; same_plan = refl; planned = λ servers is. is; told = λ stands. stands; follows = λ start follows. follows }

  -- some steps, and then others
  module _ (m n v : ℕ) (r s : plans.Running) (row mid : Row) (old between new : Disk) (first : Runs plans m v r s row mid old between) where
    pub tries_on : Tries plans n v s mid between new → Tries plans (m + n) v r row old new
    tries_on second = record {
      touches = touches_on first.tried.touches second.touches;
      few = few_on first.tried.few second.few;
      leaves = λ start vol follows firm means. joins (first.tried.leaves start vol follows firm means)
          (subst (λ (p : ToldPlan). Leaves between new (λ image said. IsUnderway p.command vol (files_of image v))) first.same_plan (second.leaves start vol (first.follows start follows) firm means));
      copies = λ start follows other. copies_on (finals (share_of old.files v)) (finals (share_of between.files v)) (finals (share_of new.files v)) (first.tried.copies start follows other)
          (second.copies start (first.follows start follows) (λ decode. other (ap (λ (p : ToldPlan). p.command) (sym first.same_plan) ∙ decode)));
    }

    pub runs_on : (t : plans.Running) (onward : Row) → Runs plans n v s t mid onward between new → Runs plans (m + n) v r t row onward old new
    runs_on t onward second = record {
      tried = tries_on second.tried;
      same_plan = second.same_plan ∙ first.same_plan;
      planned = λ servers is. second.planned servers (first.planned servers is);
      told = λ stands. second.told (first.told stands);
      follows = λ start follows. second.follows start (first.follows start follows);
    }

  -- no more than so many
  pub tries_within : {m n v : ℕ} {r : plans.Running} {row : Row} {old new : Disk} → m ≤ n → Tries plans m v r row old new → Tries plans n v r row old new
  tries_within within tried = record { touches = tried.touches; few = few_more within tried.few; leaves = tried.leaves; copies = tried.copies }

  pub runs_within : {m n v : ℕ} {r s : plans.Running} {row onward : Row} {old new : Disk} → m ≤ n → Runs plans m v r s row onward old new → Runs plans n v r s row onward old new
  runs_within within run = record { tried = tries_within within run.tried; same_plan = run.same_plan; planned = run.planned; told = run.told; follows = run.follows }

  -- the same of the plan's own volume, which stays
  abbrev own : plans.Running → ℕ
  own r = (plans.plan r).volume

  same_volume : {m v : ℕ} {r s : plans.Running} {row mid : Row} {old between : Disk} → Runs plans m v r s row mid old between → own s ≡ own r
  same_volume first = ap (λ (p : ToldPlan). p.volume) first.same_plan

  pub tries_more : {m n : ℕ} {r s : plans.Running} {row mid : Row} {old between new : Disk} → Runs plans m (own r) r s row mid old between → Tries plans n (own s) s mid between new
      → Tries plans (m + n) (own r) r row old new
  tries_more {m} {n} {r} {s} {row} {mid} {old} {between} {new} first second =
      tries_on m n (own r) r s row mid old between new first (subst (λ v. Tries plans n v s mid between new) (same_volume first) second)

  pub runs_more : {m n : ℕ} {r s t : plans.Running} {row mid onward : Row} {old between new : Disk} → Runs plans m (own r) r s row mid old between → Runs plans n (own s) s t mid onward between new
      → Runs plans (m + n) (own r) r t row onward old new
  runs_more {m} {n} {r} {s} {t} {row} {mid} {onward} {old} {between} {new} first second =
      runs_on m n (own r) r s row mid old between new first t onward (subst (λ v. Runs plans n v s t mid onward between new) (same_volume first) second)

  -- ---- the one volume

  module _ (steps servers : ℕ) (old new : Disk) (v : ℕ) (work : Work plans) (slot : Option Slot) (row onward : Row) (base : Share)
      (working : FitsVolume plans servers (Some work) slot v row base (share_of old.files v)) (s : plans.Running) (run : Runs plans steps v work.running s row onward old new) where
    number_now : (plans.plan s).volume ≡ v
    number_now = ap (λ (p : ToldPlan). p.volume) run.same_plan ∙ working.1.number

    -- it fits after steps that leave some
    pub fits_still : 0 < plans.left s → FitsVolume plans servers (Some (record work { running = s })) slot v onward base (share_of new.files v)
    fits_still some = (
      working.0,
      record {
        number = number_now;
        planned = run.planned servers working.1.planned;
        going = still_going (plans.plan s).command (plans.left s) some;
        before = working.1.before;
        had = working.1.had;
        follows = run.follows base working.1.follows;
        makes = subst (λ (p : ToldPlan). Makes p (plans.made_records p base) working.1.before work.after) (sym run.same_plan) working.1.makes;
      },
    )

    -- what stands at the plan's end
    pub ends_now : plans.left s ≡ 0 → EndsBy (plans.plan work.running).command (plans.plan work.running) (plans.made_records (plans.plan work.running) base) servers onward base (share_of new.files v)
    ends_now over = subst (λ (p : ToldPlan). EndsBy p.command p (plans.made_records p base) servers onward base (share_of new.files v)) run.same_plan
        (plans.ends s servers onward base (share_of new.files v) (run.follows base working.1.follows) (run.planned servers working.1.planned) over)

    -- then it fits anew in the slot that the job makes
    pub fits_anew : plans.left s ≡ 0 → FitsVolume plans servers None (Some work.after) v onward (share_of new.files v) (share_of new.files v)
    fits_anew over =
        let at_end = subst (λ p. FitsSlot (Some work.after) p (share_of new.files v) × IsRowOf (Some work.after) onward (share_of new.files v)) working.1.number
        (made_fits (plans.plan work.running) (plans.made_records (plans.plan work.running) base) servers onward base (share_of new.files v) working.1.before work.after working.1.makes (ends_now over)) in
        (at_end.0, at_end.1, refl)

    -- and its shards are as the command promises
    pub shards_anew : plans.left s ≡ 0 → EndsShards (plans.plan work.running).command (finals base) (finals (share_of new.files v)) servers
    shards_anew over = ended_shards (plans.plan work.running) (plans.made_records (plans.plan work.running) base) servers onward base (share_of new.files v) (ends_now over)

  -- ---- a stop within them

  module _ (store : Store plans) (servers steps : ℕ) (old new : Disk) (base : ℕ → Share) (fits : Fits plans store servers old.files base)
      (v : ℕ) (below : v < max_volumes) (work : Work plans) (has : work_at plans store.board.unfinished v ≡ Some work) where
    abbrev pub here : World
    here = store_world plans store (contents old.files)

    abbrev pub working : FitsVolume plans servers (Some work) (store.slots v) v (store.rows v) (base v) (share_of old.files v)
    working = subst (λ w. FitsVolume plans servers w (store.slots v) v (store.rows v) (base v) (share_of old.files v)) has (fits.each v below)

    abbrev pub start_of : HeldAs working.1.before (finals (base v))
    start_of = began plans servers work (store.slots v) v (store.rows v) (base v) (share_of old.files v) working

    -- at every moment each volume is near the world before, the job's own in the one form or the other
    pub steps_leave : Tries plans steps v work.running (store.rows v) old new → IsFirmBase base → Leaves old new (λ image said. IsLeftBy here image)
    steps_leave tried firm = weaker (both tried.touches.leaves (tried.leaves (base v) start_of.vol working.1.follows (firm v below) start_of.held.means))
        (λ image said left. image_near here image (bounded plans store servers old.files base fits) (λ q h. at image left.0.0 left.1 q h (cases_eq q v)))
      where
        at : (image : Image) → LeftOutside (IsOfVolume v) old.files image → IsUnderway (plans.plan work.running).command start_of.vol (files_of image v) → (q : ℕ) → q < max_volumes → (q ≡ v) ⊎ (q ≢ v)
            → Outlasts (NearIn here q) (files_of image q)
        at image left is q h (inl e) = subst (λ p. Outlasts (NearIn here p) (files_of image p)) (sym e)
            (near_in plans store servers old.files base fits v below (files_of image v)
            (subst (λ w. Outlasts (NearVolume (is_reforming plans w) (option_map (marked_by (store.slots v)) (volume_of (finals (share_of old.files v))))) (files_of image v)) (sym has)
            (form_near plans servers work (store.slots v) v (store.rows v) (base v) (share_of old.files v) working (files_of image v) is)))
        at image left is q h (inr other) =
            subst (Outlasts (NearIn here q)) (sym (left_elsewhere v below q h other old.files image (share_firm plans store servers old.files base fits firm q h) left))
            (share_near plans store servers old.files base fits q h)

    module _ (s : plans.Running) (onward : Row) (run : Runs plans steps v work.running s (store.rows v) onward old new) where
      follows_now : plans.Follows s onward (base v) (share_of new.files v)
      follows_now = run.follows (base v) working.1.follows

      elsewhere : (q : ℕ) → q < max_volumes → q ≢ v → share_of new.files q ≡ share_of old.files q
      elsewhere q h other = share_elsewhere v below q h other run.tried.touches

      means_elsewhere : (q : ℕ) → q ≢ v → volume_in (contents new.files) q ≡ volume_in (contents old.files) q
      means_elsewhere q other = ⊎_elim
          (λ h. ap (λ (share : Share). if nat_lt q max_volumes then volume_of (finals share) else None) (elsewhere q h other))
          (λ h. ap (λ b. if b then volume_of (files_of (contents new.files) q) else None) (le-ltb q max_volumes h) ∙ sym (ap (λ b. if b then volume_of (files_of (contents old.files) q) else None) (le-ltb q max_volumes h)))
          (cases_lt q max_volumes)

      volume_before : here.volumes v ≡ Some (record start_of.vol { mode = mode_in working.1.before })
      volume_before = has_volume_in plans store servers old.files base fits v below ∙ worked_is plans servers work (store.slots v) v (store.rows v) (base v) (share_of old.files v) working

      underway_now : IsUnderway (plans.plan s).command start_of.vol (finals (share_of new.files v))
      underway_now = plans.underway s onward (base v) (share_of new.files v) start_of.vol follows_now start_of.held.means

      -- ---- steps that don't end the job

      module _ (after : Store plans) (same_servers : after.servers ≡ store.servers) (same_limit : after.limit ≡ store.limit) (same_next : after.board.next ≡ store.board.next)
          (board : IsBoard after.board) (all_in : AllByRecursion (λ (job : Job (Work plans)). IsSome job.work) after.board.unfinished)
          (same_slots : after.slots ≡ store.slots) (there : work_at plans after.board.unfinished v ≡ Some (record work { running = s })) (row_there : after.rows v ≡ onward)
          (others : (q : ℕ) → q ≢ v → work_at plans after.board.unfinished q ≡ work_at plans store.board.unfinished q) (row_others : (q : ℕ) → q ≢ v → after.rows q ≡ store.rows q)
          (same_jobs : map (job_in plans) after.board.unfinished ≡ map (job_in plans) store.board.unfinished) (some : 0 < plans.left s) where
        pub steps_fit : Fits plans after servers new.files base
        steps_fit = change_fits plans store servers old new base fits v below run.tried.touches after base same_servers board all_in
            (record { slots = λ q other. ap (λ (slots : ℕ → Option Slot). slots q) same_slots; rows = row_others; works = others; bases = λ q other. refl })
            (subst (λ w. FitsVolume plans servers w (after.slots v) v (after.rows v) (base v) (share_of new.files v)) (sym there)
            (subst (λ (slots : ℕ → Option Slot). FitsVolume plans servers (Some (record work { running = s })) (slots v) v (after.rows v) (base v) (share_of new.files v)) (sym same_slots)
            (subst (λ row. FitsVolume plans servers (Some (record work { running = s })) (store.slots v) v row (base v) (share_of new.files v)) (sym row_there)
            (fits_still steps servers old new v work (store.slots v) (store.rows v) onward (base v) working s run some))))

        -- the world stays: a plan's steps change none of it
        pub steps_world : store_world plans after (contents new.files) ≡ here
        steps_world = λ i. record { servers = same_servers i; limit = same_limit i; volumes = λ q. volumes q (cases_eq q v) i; jobs = same_jobs i; next_job = same_next i }
          where
            volumes : (q : ℕ) → (q ≡ v) ⊎ (q ≢ v) → option_map (marked_by (after.slots q)) (volume_in (contents new.files) q) ≡ here.volumes q
            volumes q (inl e) = subst (λ p. option_map (marked_by (after.slots p)) (volume_in (contents new.files) p) ≡ here.volumes p) (sym e)
                ((λ i. option_map (marked_by (same_slots i v)) (if lt-ltb v max_volumes below i then volume_of (finals (share_of new.files v)) else None))
                ∙ (λ i. option_map (marked_by (working.1.had i)) (underway_now.held.means i))
                ∙ sym volume_before)
            volumes q (inr other) = λ i. option_map (marked_by (same_slots i q)) (means_elsewhere q other i)

      -- ---- steps that end it

      module _ (after : Store plans) (number : ℕ) (same_servers : after.servers ≡ store.servers) (same_limit : after.limit ≡ store.limit) (same_next : after.board.next ≡ store.board.next)
          (board : IsBoard after.board) (all_in : AllByRecursion (λ (job : Job (Work plans)). IsSome job.work) after.board.unfinished)
          (there : after.slots v ≡ Some work.after) (free : work_at plans after.board.unfinished v ≡ None) (row_there : after.rows v ≡ onward)
          (slot_others : (q : ℕ) → q ≢ v → after.slots q ≡ store.slots q) (row_others : (q : ℕ) → q ≢ v → after.rows q ≡ store.rows q)
          (others : (q : ℕ) → q ≢ v → work_at plans after.board.unfinished q ≡ work_at plans store.board.unfinished q)
          (job_was : has_job (map (job_in plans) store.board.unfinished) number ≡ Some (record { number = number; volume = v; command = (plans.plan work.running).command }))
          (job_gone : map (job_in plans) after.board.unfinished ≡ filter (λ j. not (j.number == number)) (map (job_in plans) store.board.unfinished))
          (over : plans.left s ≡ 0) where
        -- the volume begins anew with what the plan has made
        abbrev pub base_after : ℕ → Share
        base_after q = if q == v then share_of new.files v else base q

        base_there : base_after v ≡ share_of new.files v
        base_there = ap (λ b. if b then share_of new.files v else base v) (eq-eqb v v refl)

        base_elsewhere : (q : ℕ) → q ≢ v → base_after q ≡ base q
        base_elsewhere q other = ap (λ b. if b then share_of new.files v else base q) (ne_eqb q v other)

        pub end_firm : IsFirmBase base → IsFirmBase base_after
        end_firm firm q h = elim (cases_eq q v) [
          | inl e ↦ subst (λ p. IsFirmShare (base_after p)) (sym e) (subst IsFirmShare (sym base_there) (plans.firm s onward (base v) (share_of new.files v) follows_now (firm v below)))
          | inr other ↦ subst IsFirmShare (sym (base_elsewhere q other)) (firm q h)
        ]

        pub end_fits : Fits plans after servers new.files base_after
        end_fits = change_fits plans store servers old new base fits v below run.tried.touches after base_after same_servers board all_in
            (record { slots = slot_others; rows = row_others; works = others; bases = base_elsewhere })
            (subst (λ w. FitsVolume plans servers w (after.slots v) v (after.rows v) (base_after v) (share_of new.files v)) (sym free)
            (subst (λ o. FitsVolume plans servers None o v (after.rows v) (base_after v) (share_of new.files v)) (sym there)
            (subst (λ row. FitsVolume plans servers None (Some work.after) v row (base_after v) (share_of new.files v)) (sym row_there)
            (subst (λ share. FitsVolume plans servers None (Some work.after) v onward share (share_of new.files v)) (sym base_there)
            (fits_anew steps servers old new v work (store.slots v) (store.rows v) onward (base v) working s run over)))))

        -- the job is out of the world, and its command has ended on its volume
        pub end_world : store_world plans after (contents new.files) ≡ without_job here number
        end_world =
            (λ i. record { servers = same_servers i; limit = same_limit i; volumes = λ q. volumes q (cases_eq q v) i; jobs = job_gone i; next_job = same_next i })
            ∙ sym (ap (λ o. option_map_or (λ (j : world.Job). record (with_ended here j.volume j.command) { jobs = filter (λ k. not (k.number == number)) here.jobs }) o here) job_was)
          where
            mode_is : mode_in work.after ≡ mode_after (plans.plan work.running).command (mode_in working.1.before)
            mode_is = mode_made (plans.plan work.running) (plans.made_records (plans.plan work.running) (base v)) working.1.before work.after working.1.makes

            changed : Volume → Volume
            changed vol = record vol { mode = mode_after (plans.plan work.running).command vol.mode }

            volumes : (q : ℕ) → (q ≡ v) ⊎ (q ≢ v) → option_map (marked_by (after.slots q)) (volume_in (contents new.files) q) ≡ (if q == v then option_map changed (here.volumes v) else here.volumes q)
            volumes q (inl e) = subst (λ p. option_map (marked_by (after.slots p)) (volume_in (contents new.files) p) ≡ (if p == v then option_map changed (here.volumes v) else here.volumes p)) (sym e)
                ((λ i. option_map (marked_by (there i)) (if lt-ltb v max_volumes below i then volume_of (finals (share_of new.files v)) else None))
                ∙ ap (option_map (marked_by (Some work.after))) underway_now.held.means
                ∙ (λ i. Some (record start_of.vol { mode = mode_is i }))
                ∙ sym (ap (option_map changed) volume_before)
                ∙ sym (ap (λ b. if b then option_map changed (here.volumes v) else here.volumes v) (eq-eqb v v refl)))
            volumes q (inr other) =
                (λ i. option_map (marked_by (slot_others q other i)) (means_elsewhere q other i))
                ∙ sym (ap (λ b. if b then option_map changed (here.volumes v) else here.volumes q) (ne_eqb q v other))
