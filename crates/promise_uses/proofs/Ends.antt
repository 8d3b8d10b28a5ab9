-- The end of a run, and the start of the machine after a stop.
use Rattle.std.proofs.Common.{◌≡◌, inl, inr, ℕ, Bool, true, false, List, [], ◌∷◌, ◌++◌, length, drop, Option, Some, None, refl, ◌∙◌, ap, subst}
use Rattle.std.specs.Prelude.{flat_map, slice_get, option_map}
use Rattle.site_model.specs.Disk.{File, IsFirm, standing, IsSettled}
use Rattle.site_model.specs.Standing.{standing_left}
use Rattle.world_model.specs.declared.types.Reply.{Reply}
use Rattle.world_model.specs.Moves.{Reading}
use Rattle.script_text.specs.Texts.{text_of}
use Rattle.script_text.specs.Laws.Text.{line_feeds, texts-feeds}
use Rattle.weed_shell.specs.declared.status.Status.{Status}
use Rattle.weed_shell.specs.declared.status.Status.TheVariants as status
use Rattle.weed_shell.specs.Observed.{Start, Run, lines_of, ready_text, text_with}
use Rattle.weed_shell.specs.Answers.{SaidWhole, IsEarly}
use Rattle.weed_shell.specs.Ends.{EndsSettled}
use Rattle.weed_shell.specs.Stops as stops
use Rattle.promise_uses.specs.Lives.{IsBroken, RunsGoOn, EndsAreStops, DoneLeavesNothingOpen, RestartsSettle}

pub ends_are_stops : EndsAreStops
ends_are_stops run servers possible = inr (standing_left possible, refl)

drop_front : (a b : List ℕ) → drop (length a) (a ++ b) ≡ b
drop_front [] b = refl
drop_front (x ∷ a) b = drop_front a b

past_end : (lines : List Reading) → slice_get lines (length lines) ≡ None
past_end [] = refl
past_end (l ∷ lines) = past_end lines

all_answered : (start : Start) (replies : List Reply) → stops.answered start (start.disk.said ++ text_with replies) ≡ length replies
all_answered start replies =
    ap (λ (bytes : List ℕ). line_feeds (drop (length ready_text) bytes)) (drop_front start.disk.said (text_with replies))
    ∙ ap line_feeds (drop_front ready_text (flat_map text_of replies)) ∙ texts-feeds replies

all_said : (run : Run) (replies : List Reply) (ready : Bool) → run.status ≡ status.Done → SaidWhole run replies ready → run.disk.said ≡ run.start.disk.said ++ text_with replies
all_said run replies true done (inl failed) = absurd (cc (done, failed))
all_said run replies true done (inr whole) = whole
all_said run replies false done early = absurd (subst (λ (s : Status). IsEarly s) done early.2)

pub done_leaves_nothing_open : DoneLeavesNothingOpen
done_leaves_nothing_open part replies ready the done said =
    let count : stops.answered part.run.start part.said ≡ length (lines_of part.run.start) =
    ap (λ (text : List ℕ). stops.answered part.run.start text) (said ∙ all_said part.run replies ready done the.whole) ∙ all_answered part.run.start replies ∙ (the.done done).count in
    ap (λ (n : ℕ). slice_get (lines_of part.run.start) n) count ∙ past_end (lines_of part.run.start)

abbrev risen_file : Option (List ℕ) → Option File
risen_file o = option_map (λ bytes. record { bytes = bytes; firm = length bytes; is_named = true }) o

firm_file : (o : Option (List ℕ)) → IsFirm (risen_file o)
firm_file None = tt
firm_file (Some bytes) = (refl, refl)

stands_file : (o : Option (List ℕ)) → standing (risen_file o) ≡ o
stands_file None = refl
stands_file (Some bytes) = refl

pub restarts_settle : RestartsSettle
restarts_settle image = ((λ k. firm_file (image k)), (λ i k. stands_file (image k) i))

pub runs_go_on : RunsGoOn
runs_go_on run promise sound settled whole = by_status run.status ((promise sound).settled settled) whole
  where
    by_status : (s : Status) → EndsSettled s run.disk.files → ¬ IsBroken s → IsSettled run.disk.files
    by_status (status.Fault server) ends whole = absurd (whole (inl (server, refl)))
    by_status status.Memory ends whole = absurd (whole (inr refl))
    by_status status.Done ends whole = ends
    by_status status.Usage ends whole = ends
    by_status (status.Unsound volume rule) ends whole = ends
    by_status status.SourceFault ends whole = ends
    by_status status.SayFault ends whole = ends
    by_status status.TooMuch ends whole = ends
