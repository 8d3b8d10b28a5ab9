-- That needles and deletions have the times that the clock told.
use Rattle.std.specs.Prelude.{ℕ, IsTrue, List, MatchBool}
use Rattle.std.specs.List.{concat}
use Rattle.site_model.specs.Clocks.{Tells}
use Rattle.site_model.specs.Disk.{Image, IsSettled}
use Rattle.site_model.specs.Leaves.{Leaves}
use Rattle.world_model.specs.declared.types.Reply.{Reply}
use Rattle.image_meaning.specs.Sound.{IsSound}
use Rattle.weed_shell.specs.declared.status.Status.{Status}
use Rattle.weed_shell.specs.declared.status.Status.TheVariants as status
use Rattle.weed_shell.specs.Observed.{Start, Run, opening_image, ending_image}
use Rattle.weed_shell.specs.Stops.{was_ready, answered}
use Rattle.weed_shell.specs.Headline.{IsAnswered}
use Rattle.weed_shell.specs.Times.{TimesAfter, TimesLeft}

-- The run ended between two lines. A fault, or want of memory, may end it in the middle of one.
abbrev pub EndsBetween : Status → Type 0
EndsBetween (status.Fault server) = ⊥
EndsBetween status.Memory = ⊥
EndsBetween status.Done = Unit {0}
EndsBetween status.Usage = Unit {0}
EndsBetween (status.Unsound volume rule) = Unit {0}
EndsBetween status.SourceFault = Unit {0}
EndsBetween status.SayFault = Unit {0}
EndsBetween status.TooMuch = Unit {0}

-- what a stop leaves from `ready` on: the times after the answered lines, or they and one more
abbrev pub LeftInTime : Start → List Reply → List (List ℕ) → Image → List ℕ → Type 0
LeftInTime start replies told image said = MatchBool (was_ready start said) (TimesLeft start replies told image (answered start said)) (Unit {0})

-- `told` has of each line the times that the clock told while it was answered.
pub record IsStamped (run : Run) (told : List (List ℕ)) : Type 0 where
  pub answers : IsAnswered run
  pub at_end : IsTrue answers.ready → EndsBetween run.status → TimesAfter run.start answers.replies told (ending_image run)
  pub at_stops : IsSettled run.start.disk.files → Leaves run.start.disk run.disk (LeftInTime run.start answers.replies told)

-- from a sound opening, with all that the clock told in the run
abbrev pub Stamps : {C : Type 0} → (C → ℕ → C → Type 0) → C → C → Run → Type 0
Stamps gives old new run = IsSound (opening_image run.start) → (told : List (List ℕ)) × Tells gives old (concat told) new × IsStamped run told
