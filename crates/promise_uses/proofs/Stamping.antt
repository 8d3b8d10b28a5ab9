-- Over a clock that stands still the needle of the one start has its time.
use Rattle.std.proofs.Common.{◌≡◌, inl, inr, ℕ, zero, suc, Bool, true, false, List, [], ◌∷◌, ◌++◌, length, take, Option, Some, None, refl, sym, ◌∙◌, ap, subst, arith}
use Rattle.std.specs.Prelude.{IsTrue, if◌then◌else◌, drop, slice_get, Contains, MatchBool}
use Rattle.std.proofs.Math.Seq.{drop-length}
use Rattle.std.specs.List.{concat}
use Rattle.std.proofs.lemmas.List.Elements.{Contains-append_left, Contains-append_right}
use Rattle.site_model.specs.Clocks.{Tells}
use Rattle.site_model.specs.Disk.{Image, IsSettled}
use Rattle.site_mem.specs.declared.clock.FixedClock.{FixedClock}
use Rattle.world_model.specs.declared.types.Content.{Content}
use Rattle.world_model.specs.declared.types.Reply.{Reply}
use Rattle.world_model.specs.declared.types.Reply.TheVariants as reply
use Rattle.world_model.specs.Moves.{Reading, is_accepted}
use Rattle.image_meaning.specs.Times.{time_in}
use Rattle.weed_shell.specs.Observed.{Run, opening_image, ending_image, lines_of}
use Rattle.weed_shell.specs.Answers.{SaidWhole}
use Rattle.weed_shell.specs.Stamps.{IsStamped}
use Rattle.weed_shell.specs.Stops.{said_since, LeftByStop}
use Rattle.weed_shell.specs.Stops as stops
use Rattle.weed_shell.specs.Times.{written_at, IsTimed, AreTimed, IsTimedNext, TimesAfter, TimesLeft}
use Rattle.promise_uses.specs.Starts.{three_lines, get_line, two_answers, NeedleHasTime}
use Rattle.promise_uses.proofs.Starting.{next_is_get, two_ready, two_answered, two_done}

-- what a call may tell of a clock that stands still
abbrev pub fixed_gives : FixedClock → ℕ → FixedClock → Type 0
fixed_gives = λ old t new. (t ≡ old.now) × (new ≡ old)

-- it tells one time
tells_now : (old new : FixedClock) (ts : List ℕ) (t : ℕ) → Tells fixed_gives old ts new → Contains ts t → t ≡ old.now
tells_now old new [] t told (k, h, e) = absurd (omega (arith, h))
tells_now old new (x ∷ ts) t told (zero, h, e) = sym e ∙ told.1.0
tells_now old new (x ∷ ts) t told (suc k, h, e) = tells_now told.0 new ts t told.2 (k, omega (arith, h), e) ∙ ap (λ (c : FixedClock). c.now) told.1.1

-- a get changes no time
get_untimed : (live : Bool) (r : Reply) (ts : List ℕ) (before after : Option ℕ) → IsTimed live (written_at 7 1 get_line r) ts before after → after ≡ before
get_untimed live r ts before after is = by_accepted (is_accepted r) is
  where
    by_accepted : (b : Bool) → IsTimed live (if b then None else None) ts before after → after ≡ before
    by_accepted true same = same
    by_accepted false same = same

-- the put sets it
put_timed : (c : Content) (clock new : FixedClock) (others : List Reply) (told : List (List ℕ)) (before after : Option ℕ) → Tells fixed_gives clock (concat told) new
    → AreTimed true 7 1 (three_lines c) (reply.Done ∷ reply.Done ∷ others) told before after → after ≡ Some clock.now
put_timed c clock new others [] before after tells are = absurd are
put_timed c clock new others (ts ∷ []) before after tells are = absurd are.2
put_timed c clock new others (ts ∷ us ∷ told) before after tells are =
    get_kept others told are.2.0 after are.2.2 ∙ are.2.1.2
    ∙ ap Some (tells_now clock new (concat (ts ∷ us ∷ told)) are.2.1.0 tells (Contains-append_right ts (us ++ concat told) are.2.1.0 (Contains-append_left us (concat told) are.2.1.0 are.2.1.1)))
  where
    get_kept : (rs : List Reply) (vs : List (List ℕ)) (a b : Option ℕ) → AreTimed true 7 1 (get_line ∷ []) rs vs a b → b ≡ a
    get_kept [] vs a b is = is
    get_kept (r ∷ rs) [] a b is = absurd is
    get_kept (r ∷ []) (ws ∷ vs) a b is = is.2 ∙ get_untimed true r ws a is.0 is.1
    get_kept (r ∷ s ∷ rs) (ws ∷ vs) a b is = absurd is.2

-- and no line after it
next_untimed : (c : Content) (n : ℕ) (told : Option (List ℕ)) (before after : Option ℕ) → IsTimedNext true 7 1 (slice_get (three_lines c) (suc (suc n))) told before after → after ≡ before
next_untimed c n told before after (inl same) = same
next_untimed c n told before after (inr (l, ts, is, at, r, timed)) =
    get_untimed true r ts before after (subst (λ (y : Reading). IsTimed true (written_at 7 1 y r) ts before after) (next_is_get c n l is) timed)

module _ (run : Run) (told : List (List ℕ)) (clock new : FixedClock) (tells : Tells fixed_gives clock (concat told) new) (c : Content) (lines : lines_of run.start ≡ three_lines c) where
  at_stop : (n : ℕ) (others : List Reply) (image : Image) → TimesLeft run.start (reply.Done ∷ reply.Done ∷ others) told image (suc (suc n)) → time_in true image 7 1 ≡ Some clock.now
  at_stop n others image times =
      let is = times true 7 1 (omega arith) in
      let before = time_in true (opening_image run.start) 7 1 in
      let after = time_in true image 7 1 in
      next_untimed c n (slice_get told (suc (suc n))) is.0 after (subst (λ (ls : List Reading). IsTimedNext true 7 1 (slice_get ls (suc (suc n))) (slice_get told (suc (suc n))) is.0 after) lines is.2)
      ∙ put_timed c clock new (take n others) told before is.0 tells (subst (λ (ls : List Reading). AreTimed true 7 1 ls (reply.Done ∷ reply.Done ∷ take n others) told before is.0) lines is.1)

  at_last : (others : List Reply) → TimesAfter run.start (reply.Done ∷ reply.Done ∷ others) told (ending_image run) → time_in true (ending_image run) 7 1 ≡ Some clock.now
  at_last others times =
      let before = time_in true (opening_image run.start) 7 1 in
      let after = time_in true (ending_image run) 7 1 in
      put_timed c clock new others told before after tells (subst (λ (ls : List Reading). AreTimed true 7 1 ls (reply.Done ∷ reply.Done ∷ others) told before after) lines (times true 7 1 (omega arith)))

-- something was said, so the run was ready
was_ready_at_end : (run : Run) (replies : List Reply) (more : List ℕ) → said_since run.start run.disk.said ≡ two_answers ++ more → (b : Bool) → SaidWhole run replies b → IsTrue b
was_ready_at_end run replies more saw true whole = refl
was_ready_at_end run replies more saw false whole =
    absurd (none (sym (ap (λ (l : List ℕ). drop (length run.start.disk.said) l) whole.0 ∙ drop-length run.start.disk.said) ∙ saw))
  where
    none : [] ≡ two_answers ++ more → ⊥
    none e = cc

pub needle_has_time : (run : Run) (told : List (List ℕ)) (clock new : FixedClock) → IsStamped run told → Tells fixed_gives clock (concat told) new → IsSettled run.start.disk.files → NeedleHasTime clock.now run
needle_has_time run told clock new is tells settled = record {
  at_stops = λ c lines image said more left saw.
      let replies = is.answers.replies in
      let stop : LeftByStop run.start replies image said = (is.answers.every_stop settled).each image said left in
      let count = two_answered run.start said more saw in
      let done = two_done run.start said more saw c replies lines is.answers.the_replies.is_run stop.said_by_then.front in
      at_stop run told clock new tells c lines count.0 done.others image
      (subst (λ (rs : List Reply). TimesLeft run.start rs told image (suc (suc count.0))) done.are
      (subst (λ (k : ℕ). TimesLeft run.start replies told image k) count.1
      (subst (λ (b : Bool). MatchBool b (TimesLeft run.start replies told image (stops.answered run.start said)) (Unit {0})) (two_ready run.start said more saw) ((is.at_stops settled).each image said left))));
  at_end = λ c lines more saw between.
      let replies = is.answers.replies in
      let done = two_done run.start run.disk.said more saw c replies lines is.answers.the_replies.is_run is.answers.the_replies.said in
      at_last run told clock new tells c lines done.others
      (subst (λ (rs : List Reply). TimesAfter run.start rs told (ending_image run)) done.are (is.at_end (was_ready_at_end run replies more saw is.answers.ready is.answers.the_replies.whole) between));
}
