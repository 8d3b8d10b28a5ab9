-- What the lines of a run make of the times at which needles and deletions were appended.
use Rattle.std.specs.Prelude.{◌≡◌, ◌⊎◌, ℕ, ◌<◌, ◌==◌, ◌&&◌, not, if◌then◌else◌, Bool, true, false, List, [], ◌∷◌, take, slice_get, Option, Some, None, MatchBool, Contains}
use Rattle.site_model.specs.Disk.{Image}
use Rattle.world_model.specs.declared.types.Line.{Line}
use Rattle.world_model.specs.declared.types.Line.TheVariants as line
use Rattle.world_model.specs.declared.types.Reply.{Reply}
use Rattle.world_model.specs.Moves.{Reading, over_long, ungrammatical, grammatical, is_accepted}
use Rattle.image_meaning.specs.Meaning.{max_volumes}
use Rattle.image_meaning.specs.Times.{time_in}
use Rattle.weed_shell.specs.Observed.{Start, opening_image, lines_of}

-- ---- one line

-- what the line writes of the id in the volume: a needle (true), or a deletion (false)
abbrev pub writes_at : ℕ → ℕ → Line → Option Bool
writes_at v id (line.Put w i cookie content) = if (w == v) && (i == id) then Some true else None
writes_at v id (line.Delete w i cookie) = if (w == v) && (i == id) then Some false else None
writes_at v id (line.Create w server) = None
writes_at v id (line.Get w i cookie) = None
writes_at v id (line.Mark w sealed) = None
writes_at v id line.List = None
writes_at v id (line.Start w command background) = None
writes_at v id (line.Step job steps) = None
writes_at v id (line.Wait job) = None
writes_at v id line.Lock = None
writes_at v id line.Unlock = None

-- a refused line writes nothing
abbrev pub written_at : ℕ → ℕ → Reading → Reply → Option Bool
written_at v id over_long r = None
written_at v id ungrammatical r = None
written_at v id (grammatical l) r = if is_accepted r then writes_at v id l else None

-- it is of the kind that is asked for: needles (`live`), or deletions
abbrev pub is_kind : Bool → Bool → Bool
is_kind true wrote = wrote
is_kind false wrote = not wrote

-- What is written has a time that the clock told meanwhile. What is not written keeps its own.
abbrev pub IsTimed : Bool → Option Bool → List ℕ → Option ℕ → Option ℕ → Type 0
IsTimed live None told before after = after ≡ before
IsTimed live (Some wrote) told before after = MatchBool (is_kind live wrote) ((time : ℕ) × Contains told time × (after ≡ Some time)) (after ≡ None)

-- all needles and deletions, over a line with this reply, while which these times were told
abbrev pub HasTimes : Reading → Reply → List ℕ → Image → Image → Type 0
HasTimes l r told old new = (live : Bool) (v id : ℕ) → v < max_volumes → IsTimed live (written_at v id l r) told (time_in live old v id) (time_in live new v id)

-- the line took effect or not
abbrev pub MayHaveTimes : Reading → List ℕ → Image → Image → Type 0
MayHaveTimes l told old image = (r : Reply) × HasTimes l r told old image

-- ---- many lines

-- The lines with these replies lead from one time to the other. `told` has of each line the times that the clock told
-- while it was answered.
abbrev pub AreTimed : Bool → ℕ → ℕ → List Reading → List Reply → List (List ℕ) → Option ℕ → Option ℕ → Type 0
AreTimed live v id lines [] told before after = after ≡ before
AreTimed live v id [] (r ∷ replies) told before after = ⊥
AreTimed live v id (l ∷ lines) (r ∷ replies) [] before after = ⊥
AreTimed live v id (l ∷ lines) (r ∷ replies) (ts ∷ told) before after =
    (mid : Option ℕ) × IsTimed live (written_at v id l r) ts before mid × AreTimed live v id lines replies told mid after

-- In the image each needle and each deletion has the time that the answered lines make of the opening image's.
abbrev pub TimesAfter : Start → List Reply → List (List ℕ) → Image → Type 0
TimesAfter start replies told image =
    (live : Bool) (v id : ℕ) → v < max_volumes → AreTimed live v id (lines_of start) replies told (time_in live (opening_image start) v id) (time_in live image v id)

-- the next line took effect too, or not
abbrev pub IsTimedNext : Bool → ℕ → ℕ → Option Reading → Option (List ℕ) → Option ℕ → Option ℕ → Type 0
IsTimedNext live v id next told before after =
    (after ≡ before) ⊎ ((l : Reading) × (ts : List ℕ) × (next ≡ Some l) × (told ≡ Some ts) × (r : Reply) × IsTimed live (written_at v id l r) ts before after)

-- the same after the first n lines that were answered, or they and one more
abbrev pub TimesLeft : Start → List Reply → List (List ℕ) → Image → ℕ → Type 0
TimesLeft start replies told image n = (live : Bool) (v id : ℕ) → v < max_volumes
    → (mid : Option ℕ) × AreTimed live v id (lines_of start) (take n replies) told (time_in live (opening_image start) v id) mid
    × IsTimedNext live v id (slice_get (lines_of start) n) (slice_get told n) mid (time_in live image v id)
