-- Runs one after another over one site, and the one history that they are.
use Rattle.std.specs.Prelude.{◌≡◌, ◌⊎◌, ℕ, ◌<◌, Bool, List, [], ◌∷◌, ◌++◌, length, take, flat_map, slice_get, Option, Some, None, option_map, MatchBool, true}
use Rattle.site_model.specs.Disk.{Files, Image, IsPossible, IsSettled}
use Rattle.site_model.specs.Leaves.{Left}
use Rattle.site_model.specs.Standing.{lose}
use Rattle.world_model.specs.declared.types.Reply.{Reply}
use Rattle.world_model.specs.World.{Volume}
use Rattle.world_model.specs.Moves.{Reading}
use Rattle.image_meaning.specs.Files.{contents, files_of}
use Rattle.image_meaning.specs.Coded.{deleted_at}
use Rattle.image_meaning.specs.Meaning.{volume_in, max_volumes}
use Rattle.image_meaning.specs.Sound.{IsSound, IsCoded, IsHolder}
use Rattle.image_meaning.specs.Ends.{IsSurvivable, MayHave}
use Rattle.script_text.specs.Texts.{text_of}
use Rattle.script_text.specs.Laws.Text.{line_feeds}
use Rattle.weed_shell.specs.declared.status.Status.{Status}
use Rattle.weed_shell.specs.declared.status.Status.TheVariants as status
use Rattle.weed_shell.specs.Observed.{Start, Run, opening_image, ending_image, first_world, lines_of, ready_text}
use Rattle.weed_shell.specs.Answers.{TheReplies}
use Rattle.weed_shell.specs.Stops.{was_ready, SaidByThen}
use Rattle.weed_shell.specs.Stops as stops
use Rattle.weed_shell.specs.Headline.{Headline}
use Rattle.promise_uses.specs.Maps.{Event, answered, unanswered, needles_of, map_of, AreRead, NeedlesStay, NeedlesStayAway}

-- ---- lives

-- A run as far as a stop, or to its end: what had been said then, what was left, and which servers were lost before the next run.
pub record Lived : Type 0 where
  pub run : Run
  pub said : List ℕ
  pub image : Image
  pub lost : ℕ → Bool

pub record IsLived (part : Lived) : Type 0 where
  pub promise : Headline part.run
  pub settled : IsSettled part.run.start.disk.files
  pub left : Left part.run.disk (length part.run.start.disk.past) part.image part.said
  pub survivable : IsSurvivable part.image part.lost

-- the next run, if there is one, begins with what the loss left of the image
abbrev pub GoesOver : Image → (ℕ → Bool) → List Lived → Type 0
GoesOver image lost [] = Unit {0}
GoesOver image lost (next ∷ more) = opening_image next.run.start ≡ lose lost image

abbrev pub IsLife : List Lived → Type 0
IsLife [] = Unit {0}
IsLife (part ∷ more) = IsLived part × GoesOver part.image part.lost more × IsLife more

-- No loss changes the needles that the image means.
abbrev pub IsDecided : Image → Type 0
IsDecided image = (v : ℕ) (it : Option Volume) → MayHave image v it → needles_of it ≡ needles_of (volume_in image v)

-- ---- histories

-- the lines with their replies
abbrev pub answered_lines : List Reading → List Reply → List Event
answered_lines lines [] = []
answered_lines [] (r ∷ replies) = []
answered_lines (l ∷ lines) (r ∷ replies) = answered l r ∷ answered_lines lines replies

-- those that were answered before the stop
abbrev pub answered_by : Lived → List Reply → List Event
answered_by part replies = answered_lines (lines_of part.run.start) (take (stops.answered part.run.start part.said) replies)

abbrev pub line_stopped : Lived → Option Reading
line_stopped part = slice_get (lines_of part.run.start) (stops.answered part.run.start part.said)

-- nothing, or the line that was not answered took effect
abbrev pub IsOneMore : Option Reading → List Event → Type 0
IsOneMore next events = (events ≡ []) ⊎ ((l : Reading) × (next ≡ Some l) × (events ≡ unanswered l ∷ []))

-- The lines that were answered, with the replies that were said, and perhaps one more.
pub record IsPart (part : Lived) (events : List Event) : Type 0 where
  pub replies : List Reply
  pub ready : Bool
  pub the_replies : TheReplies part.run replies ready
  pub said : SaidByThen part.run.start replies part.said
  pub one_more : List Event
  pub is_one_more : IsOneMore (line_stopped part) one_more
  pub is : events ≡ answered_by part replies ++ one_more

-- a run that was stopped before it was ready adds nothing
abbrev pub Adds : Lived → List Event → Type 0
Adds part events = MatchBool (was_ready part.run.start part.said) (IsPart part events) (events ≡ [])

abbrev pub IsHistory : List Lived → List Event → Type 0
IsHistory [] events = events ≡ []
IsHistory (part ∷ more) events = (own : List Event) × (later : List Event) × (events ≡ own ++ later) × Adds part own × IsHistory more later

-- Each life that begins with sound files whose needles no loss changes is one history of the needle map.
abbrev pub LawOfLifetimes : Type 0
LawOfLifetimes = (first : Lived) (more : List Lived) → IsLife (first ∷ more) → IsSound (opening_image first.run.start) → IsDecided (opening_image first.run.start)
    → (events : List Event) × IsHistory (first ∷ more) events × AreRead (map_of (first_world first.run.start)) events

-- Of its history no needle is lost and none comes back, whatever was stopped and lost.
abbrev pub LifetimesKeepNeedles : Type 0
LifetimesKeepNeedles = (first : Lived) (more : List Lived) → IsLife (first ∷ more) → IsSound (opening_image first.run.start) → IsDecided (opening_image first.run.start)
    → (events : List Event) × IsHistory (first ∷ more) events × NeedlesStay events × NeedlesStayAway events

-- each volume is plain, lost or absent
abbrev pub HasNoCodedVolume : Image → Type 0
HasNoCodedVolume image = (v : ℕ) → v < max_volumes → ¬ IsCoded (files_of image v)

-- No loss changes the needles of plain volumes.
abbrev pub PlainIsDecided : Type 0
PlainIsDecided = (image : Image) → IsSound image → HasNoCodedVolume image → IsDecided image

-- all holders of a coded volume have the same list of deleted ids, as behind a whole delete
abbrev pub HasEqualJournals : Image → Type 0
HasEqualJournals image = (v : ℕ) → v < max_volumes → IsCoded (files_of image v) → (s t : ℕ) → IsHolder (files_of image v) s → IsHolder (files_of image v) t
    → deleted_at (files_of image v) s ≡ deleted_at (files_of image v) t

-- Nor of coded ones, whose deleted ids after a loss are those of a holder that is left.
abbrev pub EqualJournalsAreDecided : Type 0
EqualJournalsAreDecided = (image : Image) → IsSound image → HasEqualJournals image → IsDecided image

-- ---- steps of a life

-- The end of a run, whatever its status is, is one of the stops of which it promises.
abbrev pub EndsAreStops : Type 0
EndsAreStops = (run : Run) (servers : ℕ) → IsPossible servers run.disk.files → Left run.disk (length run.start.disk.past) (ending_image run) run.disk.said

-- After a run that is done nothing is open: there is no line that may have taken effect unanswered.
abbrev pub DoneLeavesNothingOpen : Type 0
DoneLeavesNothingOpen = (part : Lived) (replies : List Reply) (ready : Bool) → TheReplies part.run replies ready → part.run.status ≡ status.Done → part.said ≡ part.run.disk.said
    → line_stopped part ≡ None

-- the files when the machine has started again
abbrev pub risen : Image → Files
risen image place = option_map (λ bytes. record { bytes = bytes; firm = length bytes; is_named = true }) (image place)

-- Then nothing is pending, and they are what was left.
abbrev pub RestartsSettle : Type 0
RestartsSettle = (image : Image) → IsSettled (risen image) × (contents (risen image) ≡ image)

-- the run was ended by a fault, or for want of memory
abbrev pub IsBroken : Status → Type 0
IsBroken s = ((server : ℕ) × (s ≡ status.Fault server)) ⊎ (s ≡ status.Memory)

-- A run that wasn't ends with nothing pending, so that the next may begin with the files as they stand.
abbrev pub RunsGoOn : Type 0
RunsGoOn = (run : Run) → Headline run → IsSound (opening_image run.start) → IsSettled run.start.disk.files → ¬ IsBroken run.status → IsSettled run.disk.files

-- ---- what was seen

-- Of what was said at a stop after `ready`, the whole lines are the replies that were answered, in order.
abbrev pub WholeLinesAreReplies : Type 0
WholeLinesAreReplies = (start : Start) (replies : List Reply) (said : List ℕ) → SaidByThen start replies said → was_ready start said ≡ true
    → (rest : List ℕ) × (line_feeds rest ≡ 0) × (stops.said_since start said ≡ ready_text ++ (flat_map text_of (take (stops.answered start said) replies) ++ rest))
