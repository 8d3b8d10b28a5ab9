-- A call on one volume, among jobs on others: it is argued for that volume alone.
use Rattle.std.proofs.Common.{◌≡◌, ◌≢◌, ◌⊎◌, inl, inr, ℕ, ◌<◌, IsSome, sym, ◌∙◌, subst, arith}
use Rattle.std.specs.List.{AllByRecursion}
use Rattle.std.proofs.lemmas.Bool.{cases_eq}
use Rattle.site_model.specs.Disk.{Disk}
use Rattle.site_model.specs.Leaves.{Leaves, weaker, both}
use Rattle.site_model.specs.Touches.{Touches}
use Rattle.world_model.specs.World.{World}
use Rattle.job_board.specs.declared.Job.{Job}
use Rattle.job_board.specs.Jobs.{IsBoard}
use Rattle.image_meaning.specs.Files.{contents, files_of}
use Rattle.image_meaning.specs.Meaning.{max_volumes}
use Rattle.image_meaning.specs.Share.{Share, share_of, IsOfVolume, share_elsewhere, left_elsewhere}
use Rattle.image_meaning.specs.Outlasts.{Outlasts}
use Rattle.image_meaning.specs.Near.{NearIn, IsLeftByEither, DiffersAt, line_near}
use Rattle.plan_steps.specs.AnyPlans.{Plans}
use Rattle.store_jobs.specs.Store.{Work, Store, work_at, FitsVolume, Fits, IsFirmBase, store_world}
use Rattle.store_jobs.specs.Laws.Rest.{share_near, share_firm, bounded}

module _ (plans : Plans) where
  -- what the store has of each other volume is as before
  pub record SameElsewhere (v : ℕ) (before after : Store plans) (base base_after : ℕ → Share) : Type 0 where
    pub slots : (q : ℕ) → q ≢ v → after.slots q ≡ before.slots q
    pub rows : (q : ℕ) → q ≢ v → after.rows q ≡ before.rows q
    pub works : (q : ℕ) → q ≢ v → work_at plans after.board.unfinished q ≡ work_at plans before.board.unfinished q
    pub bases : (q : ℕ) → q ≢ v → base_after q ≡ base q

  -- A volume that fitted fits again, whatever a call did to another one.
  pub fits_elsewhere : (servers v q : ℕ) (before after : Store plans) (base base_after : ℕ → Share) (old new : Disk) → v < max_volumes → q < max_volumes → q ≢ v → Touches (IsOfVolume v) old new
      → SameElsewhere v before after base base_after → FitsVolume plans servers (work_at plans before.board.unfinished q) (before.slots q) q (before.rows q) (base q) (share_of old.files q)
      → FitsVolume plans servers (work_at plans after.board.unfinished q) (after.slots q) q (after.rows q) (base_after q) (share_of new.files q)
  fits_elsewhere servers v q before after base base_after old new below h other touches same fits =
      subst (λ w. FitsVolume plans servers w (after.slots q) q (after.rows q) (base_after q) (share_of new.files q)) (sym (same.works q other))
      (subst (λ o. FitsVolume plans servers (work_at plans before.board.unfinished q) o q (after.rows q) (base_after q) (share_of new.files q)) (sym (same.slots q other))
      (subst (λ row. FitsVolume plans servers (work_at plans before.board.unfinished q) (before.slots q) q row (base_after q) (share_of new.files q)) (sym (same.rows q other))
      (subst (λ share. FitsVolume plans servers (work_at plans before.board.unfinished q) (before.slots q) q (before.rows q) share (share_of new.files q)) (sym (same.bases q other))
      (subst (λ share. FitsVolume plans servers (work_at plans before.board.unfinished q) (before.slots q) q (before.rows q) (base q) share) (sym (share_elsewhere v below q h other touches)) fits))))

  module _ (store : Store plans) (servers : ℕ) (old new : Disk) (base : ℕ → Share) (fits : Fits plans store servers old.files base) (v : ℕ) (below : v < max_volumes)
      (touches : Touches (IsOfVolume v) old new) where
    -- Whatever a call did to one volume: where that one fits, the store does.
    pub change_fits : (after : Store plans) (base_after : ℕ → Share) → after.servers ≡ store.servers → IsBoard after.board
        → AllByRecursion (λ (job : Job (Work plans)). IsSome job.work) after.board.unfinished → SameElsewhere v store after base base_after
        → FitsVolume plans servers (work_at plans after.board.unfinished v) (after.slots v) v (after.rows v) (base_after v) (share_of new.files v) → Fits plans after servers new.files base_after
    change_fits after base_after same_servers board all_in same there = record {
      servers_are = same_servers ∙ fits.servers_are;
      board = board;
      all_in = all_in;
      each = λ q h. each q h (cases_eq q v);
      no_others = λ q h. same.slots q (λ e. absurd (omega (arith, e, h, below))) ∙ fits.no_others q h;
    }
      where
        each : (q : ℕ) → q < max_volumes → (q ≡ v) ⊎ (q ≢ v) → FitsVolume plans servers (work_at plans after.board.unfinished q) (after.slots q) q (after.rows q) (base_after q) (share_of new.files q)
        each q h (inl e) = subst (λ p. FitsVolume plans servers (work_at plans after.board.unfinished p) (after.slots p) p (after.rows p) (base_after p) (share_of new.files p)) (sym e) there
        each q h (inr other) = fits_elsewhere servers v q store after base base_after old new below h other touches same (fits.each q h)

    -- and what a stop within it leaves is near one of two worlds where it leaves the one volume so
    pub change_leaves : (firm : IsFirmBase base) (next : World) → DiffersAt v (store_world plans store (contents old.files)) next
        → Leaves old new (λ image said. Outlasts (λ it. NearIn (store_world plans store (contents old.files)) v it ⊎ NearIn next v it) (files_of image v))
        → Leaves old new (λ image said. IsLeftByEither (store_world plans store (contents old.files)) next image)
    change_leaves firm next differs there = weaker (both touches.leaves there) (λ image said left.
        line_near v (store_world plans store (contents old.files)) next image below (bounded plans store servers old.files base fits) differs
        (λ q h other. subst (Outlasts (NearIn (store_world plans store (contents old.files)) q))
        (sym (left_elsewhere v below q h other old.files image (share_firm plans store servers old.files base fits firm q h) left.0.0)) (share_near plans store servers old.files base fits q h))
        left.1)
