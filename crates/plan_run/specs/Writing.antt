-- What it takes that a file of a plan is written, and what that leaves.
use Rattle.std.specs.Prelude.{◌≡◌, ◌⊎◌, ℕ, ◌+◌, ◌<◌, ◌≤◌, ◌^◌, List, length, take, drop, slice_get, Some}
use Rattle.site_model.specs.Disk.{Disk}
use Rattle.shard_table.specs.Table.{Row}
use Rattle.image_meaning.specs.Share.{share_of}
use Rattle.plan_steps.specs.declared.plan.Stage.TheVariants as stage
use Rattle.plan_steps.specs.declared.plan.FileState.{FileState}
use Rattle.plan_steps.specs.Planned.{planned}
use Rattle.plan_steps.specs.Runs.{StepKeeps}
use Rattle.plan_steps.specs.Legal.{IsNew, FitsPlaces, MayRegister}
use Rattle.plan_steps.specs.Order.{IsReached}
use Rattle.plan_steps.specs.AsTold.{IsPlannedLength}
use Rattle.plan_steps.specs.Progressing.{Running, IsNextPlace, FitsProgress}
use Rattle.plan_run.specs.Finishing.{FromFit, StillTold}

abbrev pub HasRoom : List FileState → ℕ → ℕ → Type 0
HasRoom states j n = (s : FileState) → slice_get states j ≡ Some s → s.length + n < 2 ^ 64

-- After an append the files fit, where the piece is what follows in the bytes that are planned, once the place of the next
-- record is right.
abbrev pub Grown : Running → ℕ → List ℕ → Disk → Disk → Running → Type 0
Grown r j piece old new next = FromFit r j old.files (λ w f row start s. (s.stage ≡ stage.Absent) ⊎ (s.stage ≡ stage.Writing)
    → (bytes : List ℕ) → planned f.parts s.kind ≡ Some bytes → piece ≡ take (length piece) (drop s.length bytes) → s.length + length piece ≤ length bytes
    → (place : ℕ) → IsNextPlace f.parts (record next { place = place }) → FitsProgress w f (record next { place = place }) row start (share_of new.files r.plan.volume))

abbrev pub GrownTold : Running → ℕ → Disk → Disk → Running → Type 0
GrownTold r j old new next = StillTold r j old.files next new.files (λ s. (s.stage ≡ stage.Absent) ⊎ (s.stage ≡ stage.Writing))

-- a file that is written whole keeps the volume at every stop, where the bytes are those that are planned
abbrev pub Puts : Running → ℕ → List ℕ → Disk → Disk → Type 0
Puts r j bytes old new =
    FromFit r j old.files (λ w f row start s. s.stage ≡ stage.Absent → planned f.parts s.kind ≡ Some bytes → MayRegister r.plan r.states s.server s.kind → StepKeeps r.plan f start old new)

abbrev pub Put : Running → ℕ → List ℕ → Disk → Disk → Running → Type 0
Put r j bytes old new next = FromFit r j old.files (λ w f row start s. s.stage ≡ stage.Absent → planned f.parts s.kind ≡ Some bytes → MayRegister r.plan r.states s.server s.kind → IsReached r.plan r.states j
    → (onward : Row) → FitsPlaces r.plan next.states onward → (place : ℕ) → IsNextPlace f.parts (record next { place = place })
    → FitsProgress w f (record next { place = place }) onward start (share_of new.files r.plan.volume))

abbrev pub PutTold : Running → ℕ → List ℕ → Disk → Disk → Running → Type 0
PutTold r j bytes old new next = StillTold r j old.files next new.files (λ s. IsNew r.plan s.server s.kind × IsPlannedLength r.plan (length bytes) s.kind)
