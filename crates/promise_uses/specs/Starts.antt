-- A start that can be seen whole: a site without files, and three lines.
use Rattle.std.specs.Prelude.{◌≡◌, ◌⊎◌, ℕ, ◌+◌, ◌==◌, ◌<◌, if◌then◌else◌, Bool, true, List, [], ◌∷◌, ◌++◌, length, codes, Some, None}
use Rattle.std.specs.FinMap.{insert, empty}
use Rattle.site_model.specs.Counts.{Rose}
use Rattle.site_model.specs.Disk.{Files, Image}
use Rattle.site_model.specs.Leaves.{Left}
use Rattle.site_model.specs.Standing.{lose}
use Rattle.world_model.specs.declared.types.Content.{Content}
use Rattle.world_model.specs.declared.types.Line.TheVariants as line
use Rattle.world_model.specs.declared.types.Mode.TheVariants as mode
use Rattle.world_model.specs.declared.types.Refusal.TheVariants as refusal
use Rattle.world_model.specs.declared.types.Reply.{Reply}
use Rattle.world_model.specs.declared.types.Reply.TheVariants as reply
use Rattle.world_model.specs.World.{Volume, World}
use Rattle.world_model.specs.Sizes.{length_of_content}
use Rattle.world_model.specs.Moves.{Reading, grammatical}
use Rattle.image_meaning.specs.Sound.{IsSound}
use Rattle.image_meaning.specs.Ends.{IsSurvivable, MayMean}
use Rattle.image_meaning.specs.Times.{time_in}
use Rattle.weed_shell.specs.Observed.{Run, opening_image, ending_image, lines_of, readings}
use Rattle.weed_shell.specs.Answers.{TheReplies}
use Rattle.weed_shell.specs.Headline.{Headline}
use Rattle.weed_shell.specs.Stamps.{EndsBetween}
use Rattle.weed_shell.specs.Stops.{said_since}

-- a site without files
abbrev pub no_files : Files
no_files = λ k. None

abbrev pub get_line : Reading
get_line = grammatical (line.Get 7 1 42)

abbrev pub three_lines : Content → List Reading
three_lines c = grammatical (line.Create 7 0) ∷ grammatical (line.Put 7 1 42 c) ∷ get_line ∷ []

-- the lines as they are written, with nine bytes of data
abbrev pub script : List ℕ
script = codes "volume.create -volumeId=7 -server=0\nput 7 1 0000002a 313233343536373839\nget 7 1 0000002a\n"

abbrev pub nine_digits : Content
nine_digits = record { bytes = codes "123456789"; flags = 0; name = None; mime = None; modified = None; ttl = None; pairs = None }

-- So they are read.
abbrev pub ScriptIsRead : Type 0
ScriptIsRead = readings script ≡ three_lines nine_digits

-- `ready`, and the answers to the first two
abbrev pub two_answers : List ℕ
two_answers = codes "ready\nOK\nOK\n"

-- the volume that has this needle alone
abbrev pub with_one : Content → Volume
with_one c = record { mode = mode.Plain; used = 8 + length_of_content c; needles = insert empty 1 (record { cookie = 42; content = c }) }

-- Whatever is lost, there is this volume and no other.
pub record MeansOne (c : Content) (image : Image) : Type 0 where
  pub sound : IsSound image
  pub worlds : (u : World) → MayMean image u → (v : ℕ) → u.volumes v ≡ (if v == 7 then Some (with_one c) else None)

-- Where two answers had been said, and perhaps more, every image that a stop leaves means exactly that needle.
abbrev pub NeedleStays : Run → Type 0
NeedleStays run = (c : Content) → lines_of run.start ≡ three_lines c
    → (image : Image) (said more : List ℕ) → Left run.disk (length run.start.disk.past) image said → said_since run.start said ≡ two_answers ++ more → MeansOne c image

-- The record of that needle has this time, in each such image and, where the run ended between two lines, at its end.
pub record NeedleHasTime (time : ℕ) (run : Run) : Type 0 where
  pub at_stops : (c : Content) → lines_of run.start ≡ three_lines c
      → (image : Image) (said more : List ℕ) → Left run.disk (length run.start.disk.past) image said → said_since run.start said ≡ two_answers ++ more → time_in true image 7 1 ≡ Some time
  pub at_end : (c : Content) → lines_of run.start ≡ three_lines c
      → (more : List ℕ) → said_since run.start run.disk.said ≡ two_answers ++ more → EndsBetween run.status → time_in true (ending_image run) 7 1 ≡ Some time

-- the content, or a fault of a server, which was counted
abbrev pub IsFoundIn : Run → Content → Reply → Type 0
IsFoundIn run c r = (r ≡ reply.Found c)
    ⊎ ((server : ℕ) × (server < run.start.servers) × (r ≡ reply.Refused (refusal.Fault server)) × Rose (run.start.counts.faults server) (run.counts.faults server))

-- the replies of a run, whose first one finds the needle
pub record FindsFirst (run : Run) (c : Content) : Type 0 where
  pub replies : List Reply
  pub ready : Bool
  pub the_replies : TheReplies run replies ready
  pub found : (r : Reply) (others : List Reply) → replies ≡ r ∷ others → IsFoundIn run c r

-- After any loss that such an image survives, the next run answers a get of the needle with it, or tells a counted fault.
abbrev pub NextRunFinds : Type 0
NextRunFinds = (c : Content) (image : Image) (lost : ℕ → Bool) (next : Run) (more : List Reading) → MeansOne c image → IsSurvivable image lost
    → opening_image next.start ≡ lose lost image → Headline next → lines_of next.start ≡ get_line ∷ more → FindsFirst next c
