-- Each kind of call of a step: every stop keeps the volume, and after success the plan has come on.
use Rattle.std.proofs.Common.{◌≡◌, ◌≢◌, ◌⊎◌, ⊎_elim, ℕ, ◌+◌, ◌<◌, ◌≤◌, Bool, true, false, List, length, take, drop, Some, None, refl, sym, ◌∙◌, subst}
use Rattle.std.specs.Prelude.{slice_get, slice_set}
use mathlib.Core.Bool.{true≢false}
use Rattle.site_model.specs.Disk.{Place, IsRenamed, firm_file, grown, synced, Disk, Appends, Syncs, Renames}
use Rattle.site_model.specs.Touches.{touches_append, touches_sync}
use Rattle.whole_file.specs.Whole.{Clears, WritesWhole}
use Rattle.whole_file.specs.Whole as whole
use Rattle.world_model.specs.World.{Volume}
use Rattle.file_names.specs.Names.{IsKind, place_of}
use Rattle.shard_table.specs.Table.{Row}
use Rattle.image_meaning.specs.Files.{VolumeFiles}
use Rattle.site_model.specs.Counts.{max_servers}
use Rattle.image_meaning.specs.Share.{Share, share_of, finals, IsFirmShare}
use Rattle.plan_steps.specs.declared.plan.Stage.TheVariants.{Absent, Writing, Synced, Registered, Gone}
use Rattle.plan_steps.specs.declared.plan.FileState.{FileState}
use Rattle.plan_steps.specs.Kept.{Forms}
use Rattle.plan_steps.specs.Allowed.{IsAllowed}
use Rattle.plan_steps.specs.Runs.{StepKeeps}
use Rattle.plan_steps.specs.Planned.{planned, given}
use Rattle.plan_steps.specs.Fitting.{IsReady, FitsStates}
use Rattle.plan_steps.specs.Legal.{IsFound, IsNew, FitsPlaces, MayRegister, MayRemove, FitsRow}
use Rattle.plan_steps.specs.Laws.Legal.{firm_now, given_bytes, planned_bytes, register_allowed, remove_allowed, row_fits, takes_coded}
use Rattle.plan_steps.specs.Order.{IsUnfinished, IsReached}
use Rattle.plan_steps.specs.Laws.Step as step
use Rattle.plan_steps.specs.Laws.Way.{is_new, is_found_here, way_still, way_on, next_still}
use Rattle.plan_steps.specs.Progressing.{Running, IsNextPlace, FitsProgress}

-- Under final names files are firm where those of the start were.
pub progress_firm : (w : Volume) (f : Forms) (r : Running) (row : Row) (start now : Share) → FitsProgress w f r row start now → IsFirmShare start → IsFirmShare now
progress_firm w f r row start now fits firm = firm_now f w fits.forms r.plan start fits.begins r.states now fits.fits firm

-- What the table names stands.
pub progress_row : (w : Volume) (f : Forms) (r : Running) (row : Row) (start now : Share) → FitsProgress w f r row start now → FitsRow row (finals now)
progress_row w f r row start now fits = row_fits f w fits.forms r.plan start fits.begins r.states now fits.fits fits.way.apart row fits.way.places

apart : (b : Bool) → b ≡ true → b ≡ false → ⊥
apart b is other = true≢false (sym is ∙ other)

module _ (w : Volume) (f : Forms) (r : Running) (row : Row) (start : Share) (old : Disk) (fits : FitsProgress w f r row start (share_of old.files r.plan.volume))
    (j : ℕ) (s : FileState) (at : slice_get r.states j ≡ Some s) where
  abbrev final : Place
  final = place_of r.plan.volume s.server s.kind false

  abbrev temp : Place
  temp = place_of r.plan.volume s.server s.kind true

  abbrev was : VolumeFiles
  was = finals (share_of old.files r.plan.volume)

  abbrev on_to : FileState → Running
  on_to next = record r { states = slice_set r.states j next }

  named : IsKind s.kind × (s.server < max_servers)
  named = fits.way.apart.named j s at

  firm : IsFirmShare start → IsFirmShare (share_of old.files r.plan.volume)
  firm = progress_firm w f r row start (share_of old.files r.plan.volume) fits

  new_by : IsUnfinished s.stage → IsNew r.plan s.server s.kind
  new_by begun = is_new r.plan r.states j s s at refl refl fits.way.reached.0 fits.way.reached.1 begun

  -- a file that is being written goes on
  goes_on : (next : FileState) → next.server ≡ s.server → next.kind ≡ s.kind → IsUnfinished s.stage → IsUnfinished next.stage → (place : ℕ) → IsNextPlace f.parts (record (on_to next) { place = place }) → (now : Share)
      → FitsStates f (given r.plan f.parts start) start (slice_set r.states j next) now → FitsProgress w f (record (on_to next) { place = place }) row start now
  goes_on next server kind begun still place behind now states = record {
    below = fits.below;
    forms = fits.forms;
    begins = fits.begins;
    way = let on = way_still r row fits.way j s next at server kind begun still in record { listed = on.listed; apart = on.apart; reached = on.reached; places = on.places };
    next = behind;
    fits = states;
  }

  -- a file is finished in its turn
  ends : (next : FileState) → next.server ≡ s.server → next.kind ≡ s.kind → IsReached r.plan r.states j → (IsNew r.plan s.server s.kind → next.stage ≡ Registered) → (IsFound r.plan s.server s.kind → next.stage ≡ Gone)
      → (onward : Row) → FitsPlaces r.plan (slice_set r.states j next) onward → (place : ℕ) → IsNextPlace f.parts (record (on_to next) { place = place }) → (now : Share)
      → FitsStates f (given r.plan f.parts start) start (slice_set r.states j next) now → FitsProgress w f (record (on_to next) { place = place }) onward start now
  ends next server kind turn new found onward places place behind now states = record {
    below = fits.below;
    forms = fits.forms;
    begins = fits.begins;
    way = let on = way_on r row fits.way j s next at server kind onward turn new found places in record { listed = on.listed; apart = on.apart; reached = on.reached; places = on.places };
    next = behind;
    fits = states;
  }

  -- ---- a file gets its final name

  module _ (stage : s.stage ≡ Synced) (may : MayRegister r.plan r.states s.server s.kind) where
    new_file : IsNew r.plan s.server s.kind
    new_file = new_by (subst IsUnfinished (sym stage) tt)

    abbrev ready : IsReady s.length (given r.plan f.parts start s.server s.kind) (old.files temp)
    ready = step.ready f r.plan fits.below (given r.plan f.parts start) start r.states fits.way.apart old fits.fits firm j s at stage

    allowed_ready : IsAllowed f was s.server s.kind (Some ready.whole)
    allowed_ready =
        register_allowed f w fits.forms r.plan start fits.begins r.states (share_of old.files r.plan.volume) fits.fits s.server s.kind named.1 ready.whole
        (planned_bytes r.plan f.parts start s.server s.kind ready.whole new_file ready.planned) may

    pub registering_keeps : {new : Disk} → Renames temp final old new → StepKeeps r.plan f start old new
    registering_keeps did = step.register_keeps f r.plan fits.below (given r.plan f.parts start) start r.states fits.way.apart old fits.fits firm j s at stage allowed_ready did

    pub registering_fits : IsReached r.plan r.states j → (onward : Row) → FitsPlaces r.plan (slice_set r.states j (record s { stage = Registered })) onward → {new : Disk} → Renames temp final old new → IsRenamed temp final old.files new.files
        → FitsProgress w f (on_to (record s { stage = Registered })) onward start (share_of new.files r.plan.volume)
    registering_fits turn onward places {new} did done =
        ends (record s { stage = Registered }) refl refl turn (λ _. refl) (λ found. absurd (apart _ found new_file)) onward places r.place
        (next_still r row fits.way j s (record s { stage = Registered }) at refl refl f.parts (λ _. refl) fits.next) (share_of new.files r.plan.volume)
        (step.register_fits f r.plan fits.below (given r.plan f.parts start) start r.states fits.way.apart old fits.fits firm j s at stage allowed_ready did done)

  -- ---- a file is removed

  module _ (stage : s.stage ≡ Registered) (turn : IsReached r.plan r.states j) (may : MayRemove r.plan r.states row s.server s.kind) where
    found_file : IsFound r.plan s.server s.kind
    found_file = is_found_here r.plan r.states j s s at refl refl turn stage

    allowed_gone : IsAllowed f was s.server s.kind None
    allowed_gone =
        remove_allowed f w fits.forms r.plan start fits.begins r.states (share_of old.files r.plan.volume) fits.fits row
        (progress_row w f r row start (share_of old.files r.plan.volume) fits) s.server s.kind named.0 may

    pub removing_keeps : {new : Disk} → Clears final old new → StepKeeps r.plan f start old new
    removing_keeps did =
        step.clear_keeps f r.plan fits.below (given r.plan f.parts start) start r.states fits.way.apart old fits.fits firm j s at stage allowed_gone
        (takes_coded f w fits.forms r.plan start fits.begins r.states (share_of old.files r.plan.volume) fits.fits s.server s.kind found_file) did

    pub removing_fits : (onward : Row) → FitsPlaces r.plan (slice_set r.states j (record s { stage = Gone })) onward → {new : Disk} → Clears final old new → new.files final ≡ None
        → FitsProgress w f (on_to (record s { stage = Gone })) onward start (share_of new.files r.plan.volume)
    removing_fits onward places {new} did done =
        ends (record s { stage = Gone }) refl refl turn (λ new. absurd (apart _ found_file new)) (λ _. refl) onward places r.place
        (next_still r row fits.way j s (record s { stage = Gone }) at refl refl f.parts (λ _. refl) fits.next) (share_of new.files r.plan.volume)
        (step.clear_fits f r.plan fits.below (given r.plan f.parts start) start r.states fits.way.apart old fits.fits firm j s at stage allowed_gone did done)

  -- ---- a temporary file is made firm

  pub syncing_keeps : {new : Disk} → Syncs temp old new → StepKeeps r.plan f start old new
  syncing_keeps {new} did = step.temp_keeps f r.plan fits.below (given r.plan f.parts start) start r.states fits.way.apart old fits.fits firm j s at new (touches_sync did)

  module _ (stage : s.stage ≡ Writing) (all : (bytes : List ℕ) → planned f.parts s.kind ≡ Some bytes → s.length ≡ length bytes) where
    writing : IsUnfinished s.stage
    writing = subst IsUnfinished (sym stage) tt

    pub syncing_fits : {new : Disk} → Syncs temp old new → new.files temp ≡ synced (old.files temp) → FitsProgress w f (on_to (record s { stage = Synced })) row start (share_of new.files r.plan.volume)
    syncing_fits {new} did done =
        goes_on (record s { stage = Synced }) refl refl writing tt r.place
        (next_still r row fits.way j s (record s { stage = Synced }) at refl refl f.parts (λ _. refl) fits.next) (share_of new.files r.plan.volume)
        (step.sync_fits f r.plan fits.below (given r.plan f.parts start) start r.states fits.way.apart old fits.fits firm j s at stage
        (λ bytes is. all bytes (planned_bytes r.plan f.parts start s.server s.kind bytes (new_by writing) is)) did done)

  -- ---- a temporary file grows

  pub growing_keeps : {new : Disk} {piece : List ℕ} → Appends temp piece old new → StepKeeps r.plan f start old new
  growing_keeps {new} did = step.temp_keeps f r.plan fits.below (given r.plan f.parts start) start r.states fits.way.apart old fits.fits firm j s at new (touches_append did)

  module _ (stage : (s.stage ≡ Absent) ⊎ (s.stage ≡ Writing)) (bytes : List ℕ) (is : planned f.parts s.kind ≡ Some bytes) (piece : List ℕ) (right : piece ≡ take (length piece) (drop s.length bytes)) (room : s.length + length piece ≤ length bytes) where
    unfinished : IsUnfinished s.stage
    unfinished = ⊎_elim (λ e. subst IsUnfinished (sym e) tt) (λ e. subst IsUnfinished (sym e) tt) stage

    abbrev longer : FileState
    longer = record s { stage = Writing; length = s.length + length piece }

    pub growing_fits : (place : ℕ) → IsNextPlace f.parts (record (on_to longer) { place = place }) → {new : Disk} → Appends temp piece old new → new.files temp ≡ Some (grown (old.files temp) piece)
        → FitsProgress w f (record (on_to longer) { place = place }) row start (share_of new.files r.plan.volume)
    growing_fits place behind {new} did done =
        goes_on longer refl refl unfinished tt place behind (share_of new.files r.plan.volume)
        (step.append_fits f r.plan fits.below (given r.plan f.parts start) start r.states fits.way.apart old fits.fits firm j s at bytes
        (given_bytes r.plan f.parts start s.server s.kind bytes (new_by unfinished) is) piece right room stage did done)

  -- ---- a file is written whole

  module _ (stage : s.stage ≡ Absent) (bytes : List ℕ) (is : planned f.parts s.kind ≡ Some bytes) (may : MayRegister r.plan r.states s.server s.kind) where
    absent_new : IsNew r.plan s.server s.kind
    absent_new = new_by (subst IsUnfinished (sym stage) tt)

    allowed_bytes : IsAllowed f was s.server s.kind (Some bytes)
    allowed_bytes = register_allowed f w fits.forms r.plan start fits.begins r.states (share_of old.files r.plan.volume) fits.fits s.server s.kind named.1 bytes is may

    is_given : given r.plan f.parts start s.server s.kind ≡ Some (firm_file bytes)
    is_given = given_bytes r.plan f.parts start s.server s.kind bytes absent_new is

    abbrev put : FileState
    put = record s { stage = Registered; length = length bytes }

    pub putting_keeps : {new : Disk} → WritesWhole final temp bytes old new → StepKeeps r.plan f start old new
    putting_keeps did = step.write_keeps f r.plan fits.below (given r.plan f.parts start) start r.states fits.way.apart old fits.fits firm j s at stage bytes is_given allowed_bytes did

    pub putting_fits : IsReached r.plan r.states j → (onward : Row) → FitsPlaces r.plan (slice_set r.states j put) onward → (place : ℕ) → IsNextPlace f.parts (record (on_to put) { place = place }) → {new : Disk} → WritesWhole final temp bytes old new → whole.IsWritten final temp bytes new
        → FitsProgress w f (record (on_to put) { place = place }) onward start (share_of new.files r.plan.volume)
    putting_fits turn onward places place behind {new} did done =
        ends put refl refl turn (λ _. refl) (λ found. absurd (apart _ found absent_new)) onward places place behind (share_of new.files r.plan.volume)
        (step.write_fits f r.plan fits.below (given r.plan f.parts start) start r.states fits.way.apart old fits.fits firm j s at stage bytes is_given allowed_bytes did done)
