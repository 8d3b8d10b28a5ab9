-- How the history of a life grows by one run.
use Rattle.std.proofs.Common.{◌≡◌, ◌⊎◌, inl, inr, ⊎_elim, ℕ, zero, suc, Bool, true, false, List, [], ◌∷◌, ◌++◌, take, Option, Some, None, refl, sym, ◌∙◌, ap, subst}
use Rattle.std.specs.Prelude.{◌==◌, if◌then◌else◌, slice_get, MatchBool}
use Rattle.std.proofs.lemmas.Bool.{eqb-true}
use Rattle.site_model.specs.Disk.{Image}
use Rattle.site_model.specs.Standing.{lose}
use Rattle.world_model.specs.declared.types.Line.TheVariants as line
use Rattle.world_model.specs.declared.types.Reply.{Reply}
use Rattle.world_model.specs.World.{World, Volume, Needles}
use Rattle.world_model.specs.Moves.{Reading, over_long, ungrammatical, grammatical, is_accepted, Allowed, is_lost, next_world}
use Rattle.world_model.specs.Runs.{world_after, IsRun, Outcome}
use Rattle.image_meaning.specs.Meaning.{meaning, volume_in}
use Rattle.image_meaning.specs.Sound.{IsSound}
use Rattle.image_meaning.specs.Ends.{IsSurvivable, MayHave, IsNear, NearVolume}
use Rattle.image_meaning.specs.Laws.Compose.{losses_compose}
use Rattle.image_meaning.specs.Laws.Losses.{losses_keep_soundness}
use Rattle.store_core.specs.Lines.{IsNearOrNext}
use Rattle.weed_shell.specs.Observed.{Start, opening_image, first_world, lines_of, world_at}
use Rattle.weed_shell.specs.Headline.{IsAnswered}
use Rattle.weed_shell.specs.Stops.{was_ready, BeforeReady, AfterReady, SaidByThen, LeftByStop}
use Rattle.weed_shell.specs.Stops as stops
use Rattle.promise_uses.specs.Maps.{Map, needles_of, map_of, with_needles, with_reading, Event, answered, unanswered, next_map, map_after, AreRead, MayTakeEffect}
use Rattle.promise_uses.specs.Lives.{Lived, IsLived, GoesOver, IsLife, answered_lines, answered_by, line_stopped, IsOneMore, IsPart, IsHistory, LawOfLifetimes}
use Rattle.promise_uses.proofs.Steps.{IsEmptyIfLost, LostAreEmpty, next_needles, next_empty, is_read, may_take_effect}
use Rattle.promise_uses.proofs.Losing.{none_lost, none_lost_survives, meaning_empty}

-- ---- lists of events

map_after-append : (m : Map) (a b : List Event) → map_after m (a ++ b) ≡ map_after (map_after m a) b
map_after-append m [] b = refl
map_after-append m (e ∷ a) b = map_after-append (next_map m e) a b

read-append : (m : Map) (a b : List Event) → AreRead m a → AreRead (map_after m a) b → AreRead m (a ++ b)
read-append m [] b first second = second
read-append m (e ∷ a) b first second = (first.0, read-append (next_map m e) a b first.1 second)

-- ---- one run

IsRun-take : (w : World) (lines : List Reading) (replies : List Reply) (n : ℕ) → IsRun w lines replies → IsRun w lines (take n replies)
IsRun-take w lines replies zero run = tt
IsRun-take w lines [] (suc n) run = tt
IsRun-take w [] (r ∷ replies) (suc n) run = absurd run
IsRun-take w (l ∷ lines) (r ∷ replies) (suc n) run = (run.0, IsRun-take (next_world w l r) lines replies n run.1)

-- the replies of a run are read in the map, and leave the map of its world
record Follows (w : World) (lines : List Reading) (replies : List Reply) : Type 0 where
  pub read : AreRead (map_of w) (answered_lines lines replies)
  pub leaves : map_after (map_of w) (answered_lines lines replies) ≡ map_of (world_after w lines replies)
  pub empty : LostAreEmpty (world_after w lines replies)

follows : (w : World) (lines : List Reading) (replies : List Reply) → IsRun w lines replies → LostAreEmpty w → Follows w lines replies
follows w lines [] run kept = record { read = tt; leaves = refl; empty = kept }
follows w [] (r ∷ replies) run kept = absurd run
follows w (l ∷ lines) (r ∷ replies) run kept =
    let e = next_needles w l r run.0 in
    let rest = follows (next_world w l r) lines replies run.1 (next_empty w l r run.0 kept) in
    record {
      read = (is_read w l r run.0 kept, subst (λ (m : Map). AreRead m (answered_lines lines replies)) e rest.read);
      leaves = ap (λ (m : Map). map_after m (answered_lines lines replies)) (sym e) ∙ rest.leaves;
      empty = rest.empty;
    }

-- ---- what is left

near_needles : (b : Bool) (w u : Option Volume) → IsEmptyIfLost w → NearVolume b w u → needles_of u ≡ needles_of w
near_needles b None None kept near = refl
near_needles b None (Some u) kept near = absurd near
near_needles b (Some w) None kept near = sym (kept (ap is_lost near))
near_needles b (Some w) (Some u) kept near = near.1

-- the needles are those of the map, or of the map after the next line
abbrev IsEither : Map → Option Reading → ℕ → Needles → Type 0
IsEither m next v needles = (needles ≡ m v) ⊎ ((l : Reading) × (next ≡ Some l) × MayTakeEffect m l × (needles ≡ with_reading m l v))

-- Whatever is lost, the image means of each volume the map, or the map after the next line.
pub record IsPending (image : Image) (m : Map) (next : Option Reading) : Type 0 where
  pub sound : IsSound image
  pub each : (v : ℕ) (it : Option Volume) → MayHave image v it → IsEither m next v (needles_of it)

after_ready : (start : Start) (replies : List Reply) (image : Image) (count : ℕ) → IsRun (first_world start) (lines_of start) replies
    → AfterReady start replies image count → IsPending image (map_of (world_at start (take count replies))) (slice_get (lines_of start) count)
after_ready start replies image count run after = record { sound = after.sound; each = λ v it may. by_world v it may (after.worlds (means may) (record { lost = may.lost; survivable = may.survivable; means = refl })) }
  where
    w : World
    w = world_at start (take count replies)

    kept : LostAreEmpty w
    kept = (follows (first_world start) (lines_of start) (take count replies) (IsRun-take (first_world start) (lines_of start) replies count run) (meaning_empty start.servers start.limit (opening_image start))).empty

    means : {v : ℕ} {it : Option Volume} → MayHave image v it → World
    means may = meaning 0 0 (lose may.lost image)

    by_reply : (v : ℕ) (l : Reading) (r : Reply) (needles : Needles) → Allowed w l r → slice_get (lines_of start) count ≡ Some l → needles ≡ next_map (map_of w) (answered l r) v → IsEither (map_of w) (slice_get (lines_of start) count) v needles
    by_reply v l r needles allowed is e = by_accepted (is_accepted r) refl e
      where
        by_accepted : (b : Bool) → is_accepted r ≡ b → needles ≡ (if b then with_reading (map_of w) l else map_of w) v → IsEither (map_of w) (slice_get (lines_of start) count) v needles
        by_accepted true ok e = inr (l, is, may_take_effect w l r allowed ok, e)
        by_accepted false ok e = inl e

    by_world : (v : ℕ) (it : Option Volume) (may : MayHave image v it) → IsNearOrNext w (slice_get (lines_of start) count) (means may) → IsEither (map_of w) (slice_get (lines_of start) count) v (needles_of it)
    by_world v it may (inl near) = inl (ap needles_of may.means ∙ near_needles _ (w.volumes v) _ (kept v) (near v))
    by_world v it may (inr next) = by_next next
      where
        by_next : (l : Reading) × (slice_get (lines_of start) count ≡ Some l) × (x : World) × Outcome w l x × IsNear x (means may) → IsEither (map_of w) (slice_get (lines_of start) count) v (needles_of it)
        by_next (l, is, x, outcome, near) =
            let is_x : x ≡ next_world w l outcome.0 = outcome.2 in
            let empty_x : LostAreEmpty x = subst LostAreEmpty (sym is_x) (next_empty w l outcome.0 outcome.1 kept) in
            by_reply v l outcome.0 (needles_of it) outcome.1 is
            (ap needles_of may.means ∙ near_needles _ (x.volumes v) _ (empty_x v) (near v) ∙ ap (λ (y : World). map_of y v) is_x ∙ ap (λ (m : Map). m v) (next_needles w l outcome.0 outcome.1))

before_ready : (start : Start) (base image : Image) (lost : ℕ → Bool) (m : Map) (next : Option Reading) → IsPending base m next → IsSurvivable base lost → opening_image start ≡ lose lost base
    → BeforeReady start image → IsPending image m next
before_ready start base image lost m next pending survivable over before = record {
  sound = before.sound;
  each = λ v it may. pending.each v it (losses_compose base lost v it pending.sound survivable (subst (λ (i : Image). MayHave i v it) over (before.volumes v it may)));
}

-- ---- one of two maps

-- A line changes the needles of one volume at most.
changes_one : (m : Map) (l : Reading) → (with_reading m l ≡ m) ⊎ ((v : ℕ) × (needles : Needles) × (with_reading m l ≡ with_needles m v needles))
changes_one m over_long = inl refl
changes_one m ungrammatical = inl refl
changes_one m (grammatical (line.Create v server)) = inl refl
changes_one m (grammatical (line.Put v id cookie content)) = inr (v, _, refl)
changes_one m (grammatical (line.Get v id cookie)) = inl refl
changes_one m (grammatical (line.Delete v id cookie)) = inr (v, _, refl)
changes_one m (grammatical (line.Mark v sealed)) = inl refl
changes_one m (grammatical line.List) = inl refl
changes_one m (grammatical (line.Start v command background)) = inl refl
changes_one m (grammatical (line.Step job steps)) = inl refl
changes_one m (grammatical (line.Wait job)) = inl refl
changes_one m (grammatical line.Lock) = inl refl
changes_one m (grammatical line.Unlock) = inl refl

-- so that a map which is one of the two at each volume is one of the two
one_of_two : (P : Type 0) (m n : Map) (v : ℕ) (needles : Needles) → ((q : ℕ) → (n q ≡ m q) ⊎ (P × (n q ≡ with_needles m v needles q))) → (n ≡ m) ⊎ (P × (n ≡ with_needles m v needles))
one_of_two P m n v needles each = elim (each v) [
  | inl e ↦ inl (λ i q. without e q (q == v) refl (each q) i)
  | inr e ↦ inr (e.0, λ i q. with_it e.1 q (q == v) refl (each q) i)
]
  where
    without : n v ≡ m v → (q : ℕ) (b : Bool) → (q == v) ≡ b → (n q ≡ m q) ⊎ (P × (n q ≡ (if b then needles else m q))) → n q ≡ m q
    without e q true same is = subst (λ (x : ℕ). n x ≡ m x) (sym (eqb-true q v same)) e
    without e q false same (inl is) = is
    without e q false same (inr is) = is.1

    with_it : n v ≡ with_needles m v needles v → (q : ℕ) (b : Bool) → (q == v) ≡ b → (n q ≡ m q) ⊎ (P × (n q ≡ (if b then needles else m q))) → n q ≡ (if b then needles else m q)
    with_it e q true same (inr is) = is.1
    with_it e q true same (inl is) = subst (λ (x : ℕ). n x ≡ with_needles m v needles x) (sym (eqb-true q v same)) e ∙ ap (λ (b : Bool). if b then needles else m q) same
    with_it e q false same (inl is) = is
    with_it e q false same (inr is) = is.1

some_is : (x y : Reading) → Some x ≡ Some y → x ≡ y
some_is x y e = cc

pick : (m n : Map) (next : Option Reading) → ((v : ℕ) → IsEither m next v (n v)) → (last : List Event) × IsOneMore next last × AreRead m last × (n ≡ map_after m last)
pick m n None each = ([], inl refl, tt, λ i v. ⊎_elim (λ e. e) (λ none. absurd (no none.0 none.1)) (each v) i)
  where
    no : (l : Reading) → None ≡ Some l → ⊥
    no l e = cc
pick m n (Some l) each = elim (changes_one m l) [
  | inl same ↦ ([], inl refl, tt, λ i v. ⊎_elim (λ e. e) (λ e. e.1 ∙ ap (λ (x : Map). x v) same) (either v) i)
  | inr one ↦ by_pick (one_of_two (MayTakeEffect m l) m n one.0 one.1 (λ v. ⊎_elim (λ e. inl e) (λ e. inr (e.0, e.1 ∙ ap (λ (x : Map). x v) one.2)) (either v))) one.2
]
  where
    either : (v : ℕ) → (n v ≡ m v) ⊎ (MayTakeEffect m l × (n v ≡ with_reading m l v))
    either v = ⊎_elim (λ e. inl e)
        (λ x. inr (subst (λ (y : Reading). MayTakeEffect m y) (sym (some_is l x.0 x.1)) x.2, x.3 ∙ ap (λ (y : Reading). with_reading m y v) (sym (some_is l x.0 x.1))))
        (each v)

    by_pick : {other : Map} → (n ≡ m) ⊎ (MayTakeEffect m l × (n ≡ other)) → with_reading m l ≡ other → (last : List Event) × IsOneMore (Some l) last × AreRead m last × (n ≡ map_after m last)
    by_pick (inl e) is = ([], inl refl, tt, e)
    by_pick (inr e) is = (unanswered l ∷ [], inr (l, refl, refl), (e.0, tt), e.1 ∙ sym is)

-- ---- all runs

abbrev no_events : List Event
no_events = []

-- What was pending is settled, and the rest of the life goes on from there.
record GoesOn (m : Map) (next : Option Reading) (more : List Lived) : Type 0 where
  pub last : List Event
  pub is_one_more : IsOneMore next last
  pub allowed : AreRead m last
  pub later : List Event
  pub history : IsHistory more later
  pub read : AreRead (map_after m last) later

goes_on : (more : List Lived) (image : Image) (lost : ℕ → Bool) (m : Map) (next : Option Reading) → IsLife more → GoesOver image lost more → IsPending image m next → IsSurvivable image lost → GoesOn m next more
goes_on [] image lost m next life over pending survivable = record { last = []; is_one_more = inl refl; allowed = tt; later = []; history = refl; read = tt }
goes_on (part ∷ more) image lost m next life over pending survivable =
    let live : IsLived part = life.0 in
    let promised : IsAnswered part.run = live.promise (subst IsSound (sym over) (losses_keep_soundness image lost pending.sound survivable)) in
    let stop : LeftByStop part.run.start promised.replies part.image part.said = (promised.every_stop live.settled).each part.image part.said live.left in
    by_ready (λ m next left. goes_on more part.image part.lost m next life.2 life.1 left live.survivable) promised stop.said_by_then (was_ready part.run.start part.said) refl stop.means
  where
    start : Start
    start = part.run.start

    has_opening : (v : ℕ) → MayHave image v (volume_in (opening_image start) v)
    has_opening v = record { lost = lost; survivable = survivable; means = ap (λ (i : Image). volume_in i v) over }

    by_ready : ((m : Map) (next : Option Reading) → IsPending part.image m next → GoesOn m next more) → (promised : IsAnswered part.run) → SaidByThen start promised.replies part.said → (b : Bool) → was_ready start part.said ≡ b
        → MatchBool b (AfterReady start promised.replies part.image (stops.answered start part.said)) (BeforeReady start part.image) → GoesOn m next (part ∷ more)
    by_ready go promised saw false e before =
        let rest = go m next (before_ready start image part.image lost m next pending survivable over before) in
        record {
          last = rest.last;
          is_one_more = rest.is_one_more;
          allowed = rest.allowed;
          later = rest.later;
          history = ([], rest.later, refl, subst (λ (b : Bool). MatchBool b (IsPart part no_events) (no_events ≡ no_events)) (sym e) refl, rest.history);
          read = rest.read;
        }
    by_ready go promised saw true e after =
        let replies = promised.replies in
        let run : IsRun (first_world start) (lines_of start) replies = promised.the_replies.is_run in
        let count = stops.answered start part.said in
        let seen = answered_by part replies in
        let opened = pick m (map_of (first_world start)) next (λ v. pending.each v (volume_in (opening_image start) v) (has_opening v)) in
        let kept = follows (first_world start) (lines_of start) (take count replies) (IsRun-take (first_world start) (lines_of start) replies count run) (meaning_empty start.servers start.limit (opening_image start)) in
        let rest = go (map_of (world_at start (take count replies))) (line_stopped part) (after_ready start replies part.image count run after) in
        let own = seen ++ rest.last in
        record {
          last = opened.0;
          is_one_more = opened.1;
          allowed = opened.2;
          later = own ++ rest.later;
          history = (
            own,
            rest.later,
            refl,
            subst (λ (b : Bool). MatchBool b (IsPart part own) (own ≡ [])) (sym e) (record {
              replies = replies;
              ready = promised.ready;
              the_replies = promised.the_replies;
              said = saw;
              one_more = rest.last;
              is_one_more = rest.is_one_more;
              is = refl;
            }),
            rest.history,
          );
          read = subst (λ (x : Map). AreRead x (own ++ rest.later)) opened.3 (read-append (map_of (first_world start)) own rest.later
              (read-append (map_of (first_world start)) seen rest.last kept.read (subst (λ (x : Map). AreRead x rest.last) (sym kept.leaves) rest.allowed))
              (subst (λ (x : Map). AreRead x rest.later) (ap (λ (x : Map). map_after x rest.last) (sym kept.leaves) ∙ sym (map_after-append (map_of (first_world start)) seen rest.last)) rest.read));
        }

pub law_of_lifetimes : LawOfLifetimes
law_of_lifetimes first more life sound decided = by_last (goes_on (first ∷ more) (opening_image first.run.start) none_lost (map_of (first_world first.run.start)) None life refl
    (record { sound = sound; each = λ v it may. inl (decided v it may) }) (none_lost_survives (opening_image first.run.start)))
  where
    no : (l : Reading) → None ≡ Some l → ⊥
    no l e = cc

    by_last : GoesOn (map_of (first_world first.run.start)) None (first ∷ more) → (events : List Event) × IsHistory (first ∷ more) events × AreRead (map_of (first_world first.run.start)) events
    by_last goes = (
      goes.later,
      goes.history,
      ⊎_elim
          (λ none. subst (λ (last : List Event). AreRead (map_after (map_of (first_world first.run.start)) last) goes.later) none goes.read)
          (λ one. absurd (no one.0 one.1)) goes.is_one_more,
    )
