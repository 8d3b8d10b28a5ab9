-- What a line and its reply make of the needles of a world.
use Rattle.std.proofs.Common.{◌≡◌, ◌⊎◌, inl, inr, ℕ, zero, suc, Bool, true, false, List, [], ◌∷◌, Option, Some, None, refl, sym, ◌∙◌, ap, subst}
use Rattle.std.specs.Prelude.{◌==◌, ◌+◌, ◌<◌, if◌then◌else◌, option_map, option_and_then, MatchOption, not, filter, get_or, nat_lt, length}
use Rattle.std.specs.Option.{option_map_or}
use Rattle.std.specs.FinMap.{get, insert, remove, empty, get-empty}
use Rattle.std.specs.Ordering.{nat_cmp}
use Rattle.std.proofs.lemmas.Bool.{eqb-true}
use mathlib.Core.Bool.{true≢false}
use Rattle.world_model.specs.declared.types.Content.{Content}
use Rattle.world_model.specs.declared.types.Command.{Command}
use Rattle.world_model.specs.declared.types.Command.TheVariants.{Encode, Rebuild, Balance, Decode}
use Rattle.world_model.specs.declared.types.Mode.{Mode}
use Rattle.world_model.specs.declared.types.Mode.TheVariants as mode
use Rattle.world_model.specs.declared.types.Line.{Line}
use Rattle.world_model.specs.declared.types.Line.TheVariants as line
use Rattle.world_model.specs.declared.types.Refusal.{Refusal}
use Rattle.world_model.specs.declared.types.Refusal.TheVariants as refusal
use Rattle.world_model.specs.declared.types.Reply.{Reply}
use Rattle.world_model.specs.declared.types.Reply.TheVariants as reply
use Rattle.world_model.specs.World.{Needle, Needles, Volume, World, Job, empty_volume}
use Rattle.world_model.specs.Sizes.{length_of_content, is_too_large, deletion_length, max_dat}
use Rattle.world_model.specs.Moves.{Reading, over_long, ungrammatical, grammatical, is_accepted, is_lost, is_coded, is_sealed, busy, has_none, has_other_cookie, when, first, has_job, mode_after, with_ended, without_job, effect, next_world, LineAllowed, Allowed}
use Rattle.promise_uses.specs.Maps.{needles_of, map_of, with_line, answered, next_map, FindsContent, IsLineRead, IsEventRead, IsOpenTo, MayTakeEffect}

-- ---- lost volumes

abbrev pub IsEmptyIfLost : Option Volume → Type 0
IsEmptyIfLost None = Unit {0}
IsEmptyIfLost (Some vol) = is_lost vol.mode ≡ true → vol.needles ≡ empty

-- a lost volume has no needles
abbrev pub LostAreEmpty : World → Type 0
LostAreEmpty w = (v : ℕ) → IsEmptyIfLost (w.volumes v)

-- ---- an accepted line

refused : {A : Type 0} (r : Reply) (why : Refusal) → r ≡ reply.Refused why → is_accepted r ≡ true → A
refused r why e ok = absurd (true≢false (sym ok ∙ ap is_accepted e))

-- on a volume: there is one, and it is not lost
accepted_on : (r : Reply) (o : Option Volume) (rows : Volume → List (Option Refusal)) (A : Type 0)
    → MatchOption (option_map_or (λ vol. first (when (is_lost vol.mode) refusal.Lost ∷ rows vol)) o (Some refusal.NoVolume)) A (λ why. r ≡ reply.Refused why)
    → is_accepted r ≡ true → (vol : Volume) × (o ≡ Some vol) × (is_lost vol.mode ≡ false)
accepted_on r None rows A allowed ok = refused r _ allowed ok
accepted_on r (Some vol) rows A allowed ok = by_lost (is_lost vol.mode) refl allowed
  where
    by_lost : (b : Bool) → is_lost vol.mode ≡ b → MatchOption (first (when b refusal.Lost ∷ rows vol)) A (λ why. r ≡ reply.Refused why)
        → (x : Volume) × (Some vol ≡ Some x) × (is_lost x.mode ≡ false)
    by_lost true e allowed = refused r _ allowed ok
    by_lost false e allowed = (vol, refl, e)

-- a volume was made where there was none
created : (r : Reply) (b : Bool) (o : Option Volume) (A : Type 0)
    → MatchOption (first (when b refusal.NoServer ∷ option_map (λ _. refusal.Exists) o ∷ [])) A (λ why. r ≡ reply.Refused why)
    → is_accepted r ≡ true → o ≡ None
created r true o A allowed ok = refused r _ allowed ok
created r false None A allowed ok = refl
created r false (Some vol) A allowed ok = refused r _ allowed ok

-- ---- needles

made_at : (w : World) (v q : ℕ) (b : Bool) → (q == v) ≡ b → w.volumes v ≡ None → needles_of (if b then Some empty_volume else w.volumes q) ≡ needles_of (w.volumes q)
made_at w v q true e none = sym (ap (λ x. needles_of (w.volumes x)) (eqb-true q v e) ∙ ap needles_of none)
made_at w v q false e none = refl

-- the volume has other needles
changed_at : (b : Bool) (change : Volume → Volume) (o p : Option Volume) (vol : Volume) → o ≡ Some vol
    → needles_of (if b then option_map change o else p) ≡ (if b then (change vol).needles else needles_of p)
changed_at true change o p vol e = ap (λ x. needles_of (option_map change x)) e
changed_at false change o p vol e = refl

-- or another mode
abbrev with_mode : (Volume → Mode) → Volume → Volume
with_mode m vol = record vol { mode = m vol }

moded : (m : Volume → Mode) (o : Option Volume) → needles_of (option_map (with_mode m) o) ≡ needles_of o
moded m None = refl
moded m (Some vol) = refl

moded_at : (w : World) (v q : ℕ) (m : Volume → Mode) (b : Bool) → (q == v) ≡ b
    → needles_of (if b then option_map (with_mode m) (w.volumes v) else w.volumes q) ≡ needles_of (w.volumes q)
moded_at w v q m true e = moded m (w.volumes v) ∙ ap (λ x. needles_of (w.volumes x)) (sym (eqb-true q v e))
moded_at w v q m false e = refl

ended_needles : (w : World) (v : ℕ) (command : Command) → map_of (with_ended w v command) ≡ map_of w
ended_needles w v command = λ i q. moded_at w v q (λ vol. mode_after command vol.mode) (q == v) refl i

without_needles : (w : World) (number : ℕ) → map_of (without_job w number) ≡ map_of w
without_needles w number = by_job (has_job w.jobs number)
  where
    by_job : (o : Option Job) → map_of (option_map_or (λ job. record (with_ended w job.volume job.command) { jobs = filter (λ j. not (j.number == number)) w.jobs }) o w) ≡ map_of w
    by_job None = refl
    by_job (Some job) = ended_needles w job.volume job.command

-- a step ends its job, or changes nothing
step_is : (w : World) (job steps : ℕ) (r : Reply) → (effect w (line.Step job steps) r ≡ w) ⊎ (effect w (line.Step job steps) r ≡ without_job w job)
step_is w job steps (reply.Ended n) = inr refl
step_is w job steps (reply.Running n) = inl refl
step_is w job steps (reply.Started n) = inl refl
step_is w job steps (reply.Listed rows) = inl refl
step_is w job steps (reply.Found c) = inl refl
step_is w job steps (reply.Refused why) = inl refl
step_is w job steps reply.Done = inl refl
step_is w job steps reply.Long = inl refl
step_is w job steps reply.Syntax = inl refl

line_needles : (w : World) (l : Line) (r : Reply) → LineAllowed w l r → is_accepted r ≡ true → map_of (effect w l r) ≡ with_line (map_of w) l
line_needles w (line.Create v server) r allowed ok = λ i q. made_at w v q (q == v) refl (created r _ (w.volumes v) _ allowed ok) i
line_needles w (line.Put v id cookie content) r allowed ok =
    let on = accepted_on r (w.volumes v) _ _ allowed ok in
    let change : Volume → Volume = λ vol. record vol { used = vol.used + length_of_content content; needles = insert vol.needles id (record { cookie = cookie; content = content }) } in
    λ i q. (changed_at (q == v) change (w.volumes v) (w.volumes q) on.0 on.1
    ∙ ap (λ o. if q == v then insert (needles_of o) id (record { cookie = cookie; content = content }) else needles_of (w.volumes q)) (sym on.1)) i
line_needles w (line.Get v id cookie) r allowed ok = refl
line_needles w (line.Delete v id cookie) r allowed ok =
    let on = accepted_on r (w.volumes v) _ _ allowed ok in
    let change : Volume → Volume = λ vol. record vol { used = vol.used + deletion_length; needles = remove vol.needles id } in
    λ i q. (changed_at (q == v) change (w.volumes v) (w.volumes q) on.0 on.1
    ∙ ap (λ o. if q == v then remove (needles_of o) id else needles_of (w.volumes q)) (sym on.1)) i
line_needles w (line.Mark v sealed) r allowed ok = λ i q. moded_at w v q (λ vol. if sealed then mode.Sealed else mode.Plain) (q == v) refl i
line_needles w line.List r allowed ok = refl
line_needles w (line.Start v command true) r allowed ok = refl
line_needles w (line.Start v command false) r allowed ok = ended_needles w v command
line_needles w (line.Step job steps) r allowed ok = elim (step_is w job steps r) [
  | inl e ↦ ap map_of e
  | inr e ↦ ap map_of e ∙ without_needles w job
]
line_needles w (line.Wait job) r allowed ok = without_needles w job
line_needles w line.Lock r allowed ok = refl
line_needles w line.Unlock r allowed ok = refl

-- the needles after a line and its reply
pub next_needles : (w : World) (l : Reading) (r : Reply) → Allowed w l r → map_of (next_world w l r) ≡ next_map (map_of w) (answered l r)
next_needles w over_long r allowed = by_accepted (is_accepted r)
  where
    by_accepted : (b : Bool) → map_of w ≡ (if b then map_of w else map_of w)
    by_accepted true = refl
    by_accepted false = refl
next_needles w ungrammatical r allowed = by_accepted (is_accepted r)
  where
    by_accepted : (b : Bool) → map_of w ≡ (if b then map_of w else map_of w)
    by_accepted true = refl
    by_accepted false = refl
next_needles w (grammatical l) r allowed = by_accepted (is_accepted r) refl
  where
    by_accepted : (b : Bool) → is_accepted r ≡ b → map_of (if b then effect w l r else w) ≡ (if b then with_line (map_of w) l else map_of w)
    by_accepted true e = line_needles w l r allowed e
    by_accepted false e = refl

-- ---- lost volumes stay empty

changed_empty : (b : Bool) (change : Volume → Volume) (o p : Option Volume) (vol : Volume) → o ≡ Some vol → is_lost (change vol).mode ≡ false → IsEmptyIfLost p
    → IsEmptyIfLost (if b then option_map change o else p)
changed_empty true change o p vol e found kept = subst (λ (x : Option Volume). IsEmptyIfLost (option_map change x)) (sym e) (λ lost. absurd (true≢false (sym lost ∙ found)))
changed_empty false change o p vol e found kept = kept

was_lost : (command : Command) (m : Mode) → is_lost (mode_after command m) ≡ true → is_lost m ≡ true
was_lost (Encode ratio) m e = absurd (true≢false (sym e))
was_lost Decode m e = absurd (true≢false (sym e))
was_lost Rebuild m e = e
was_lost Balance m e = e

ended_empty : (w : World) (v : ℕ) (command : Command) → LostAreEmpty w → LostAreEmpty (with_ended w v command)
ended_empty w v command empty q = by_test (q == v)
  where
    one : (o : Option Volume) → IsEmptyIfLost o → IsEmptyIfLost (option_map (with_mode (λ vol. mode_after command vol.mode)) o)
    one None kept = tt
    one (Some vol) kept = λ lost. kept (was_lost command vol.mode lost)

    by_test : (b : Bool) → IsEmptyIfLost (if b then option_map (with_mode (λ vol. mode_after command vol.mode)) (w.volumes v) else w.volumes q)
    by_test true = one (w.volumes v) (empty v)
    by_test false = empty q

without_empty : (w : World) (number : ℕ) → LostAreEmpty w → LostAreEmpty (without_job w number)
without_empty w number empty = by_job (has_job w.jobs number)
  where
    by_job : (o : Option Job) → LostAreEmpty (option_map_or (λ job. record (with_ended w job.volume job.command) { jobs = filter (λ j. not (j.number == number)) w.jobs }) o w)
    by_job None = empty
    by_job (Some job) = ended_empty w job.volume job.command empty

line_empty : (w : World) (l : Line) (r : Reply) → LineAllowed w l r → is_accepted r ≡ true → LostAreEmpty w → LostAreEmpty (effect w l r)
line_empty w (line.Create v server) r allowed ok kept = λ q. by_test q (q == v)
  where
    by_test : (q : ℕ) (b : Bool) → IsEmptyIfLost (if b then Some empty_volume else w.volumes q)
    by_test q true = λ lost. refl
    by_test q false = kept q
line_empty w (line.Put v id cookie content) r allowed ok kept =
    let on = accepted_on r (w.volumes v) _ _ allowed ok in
    λ q. changed_empty (q == v) (λ vol. record vol { used = vol.used + length_of_content content; needles = insert vol.needles id (record { cookie = cookie; content = content }) }) (w.volumes v) (w.volumes q) on.0 on.1 on.2 (kept q)
line_empty w (line.Get v id cookie) r allowed ok kept = kept
line_empty w (line.Delete v id cookie) r allowed ok kept =
    let on = accepted_on r (w.volumes v) _ _ allowed ok in
    λ q. changed_empty (q == v) (λ vol. record vol { used = vol.used + deletion_length; needles = remove vol.needles id }) (w.volumes v) (w.volumes q) on.0 on.1 on.2 (kept q)
line_empty w (line.Mark v sealed) r allowed ok kept =
    let on = accepted_on r (w.volumes v) _ _ allowed ok in
    λ q. changed_empty (q == v) (λ vol. record vol { mode = if sealed then mode.Sealed else mode.Plain }) (w.volumes v) (w.volumes q) on.0 on.1 (unlost sealed) (kept q)
  where
    unlost : (b : Bool) → is_lost (if b then mode.Sealed else mode.Plain) ≡ false
    unlost true = refl
    unlost false = refl
line_empty w line.List r allowed ok kept = kept
line_empty w (line.Start v command true) r allowed ok kept = kept
line_empty w (line.Start v command false) r allowed ok kept = ended_empty w v command kept
line_empty w (line.Step job steps) r allowed ok kept = elim (step_is w job steps r) [
  | inl e ↦ subst LostAreEmpty (sym e) kept
  | inr e ↦ subst LostAreEmpty (sym e) (without_empty w job kept)
]
line_empty w (line.Wait job) r allowed ok kept = without_empty w job kept
line_empty w line.Lock r allowed ok kept = kept
line_empty w line.Unlock r allowed ok kept = kept

pub next_empty : (w : World) (l : Reading) (r : Reply) → Allowed w l r → LostAreEmpty w → LostAreEmpty (next_world w l r)
next_empty w over_long r allowed kept = kept
next_empty w ungrammatical r allowed kept = kept
next_empty w (grammatical l) r allowed kept = by_accepted (is_accepted r) refl
  where
    by_accepted : (b : Bool) → is_accepted r ≡ b → LostAreEmpty (if b then effect w l r else w)
    by_accepted true e = line_empty w l r allowed e kept
    by_accepted false e = kept

-- ---- gets

found_in : (vol : Volume) (id cookie : ℕ) (servers : ℕ) (r : Reply) (o : Option Needle)
    → (r ≡ option_map_or (λ n. if n.cookie == cookie then reply.Found n.content else reply.Refused refusal.NotFound) o (reply.Refused refusal.NotFound)) ⊎ ((server : ℕ) × (server < servers) × (r ≡ reply.Refused (refusal.Fault server)))
    → FindsContent (option_and_then (λ n. if n.cookie == cookie then Some n.content else None) o) r
found_in vol id cookie servers r None (inl e) = (refusal.NotFound, e)
found_in vol id cookie servers r None (inr fault) = (refusal.Fault fault.0, fault.2)
found_in vol id cookie servers r (Some n) h = by_cookie (n.cookie == cookie) h
  where
    by_cookie : (b : Bool) → (r ≡ (if b then reply.Found n.content else reply.Refused refusal.NotFound)) ⊎ ((server : ℕ) × (server < servers) × (r ≡ reply.Refused (refusal.Fault server)))
        → FindsContent (if b then Some n.content else None) r
    by_cookie true (inl e) = inl e
    by_cookie true (inr fault) = inr (fault.0, fault.2)
    by_cookie false (inl e) = (refusal.NotFound, e)
    by_cookie false (inr fault) = (refusal.Fault fault.0, fault.2)

none_at : (needles : Needles) (id cookie : ℕ) (r : Reply) (why : Refusal) → needles ≡ empty → r ≡ reply.Refused why
    → FindsContent (option_and_then (λ n. if n.cookie == cookie then Some n.content else None) (get needles id)) r
none_at needles id cookie r why none e =
    subst (λ (o : Option Needle). FindsContent (option_and_then (λ n. if n.cookie == cookie then Some n.content else None) o) r) (sym (ap (λ (m : Needles). get m id) none ∙ get-empty {X = Needle} nat_cmp id)) (why, e)

get_read : (servers id cookie : ℕ) (r : Reply) (o : Option Volume) → IsEmptyIfLost o
    → MatchOption (option_map_or (λ vol. first (when (is_lost vol.mode) refusal.Lost ∷ [])) o (Some refusal.NoVolume))
    ((r ≡ option_map_or (λ n. if n.cookie == cookie then reply.Found n.content else reply.Refused refusal.NotFound) (option_and_then (λ vol. get vol.needles id) o) (reply.Refused refusal.NotFound)) ⊎ ((server : ℕ) × (server < servers) × (r ≡ reply.Refused (refusal.Fault server))))
    (λ why. r ≡ reply.Refused why)
    → FindsContent (option_and_then (λ n. if n.cookie == cookie then Some n.content else None) (get (needles_of o) id)) r
get_read servers id cookie r None kept allowed = none_at empty id cookie r refusal.NoVolume refl allowed
get_read servers id cookie r (Some vol) kept allowed = by_lost (is_lost vol.mode) refl allowed
  where
    by_lost : (b : Bool) → is_lost vol.mode ≡ b → MatchOption (first (when b refusal.Lost ∷ []))
        ((r ≡ option_map_or (λ n. if n.cookie == cookie then reply.Found n.content else reply.Refused refusal.NotFound) (get vol.needles id) (reply.Refused refusal.NotFound)) ⊎ ((server : ℕ) × (server < servers) × (r ≡ reply.Refused (refusal.Fault server))))
        (λ why. r ≡ reply.Refused why) → FindsContent (option_and_then (λ n. if n.cookie == cookie then Some n.content else None) (get vol.needles id)) r
    by_lost true e allowed = none_at vol.needles id cookie r refusal.Lost (kept e) allowed
    by_lost false e allowed = found_in vol id cookie servers r (get vol.needles id) allowed

-- A get that is allowed reads the map.
pub is_read : (w : World) (l : Reading) (r : Reply) → Allowed w l r → LostAreEmpty w → IsEventRead (map_of w) (answered l r)
is_read w over_long r allowed kept = tt
is_read w ungrammatical r allowed kept = tt
is_read w (grammatical l) r allowed kept = by_line l allowed
  where
    by_line : (l : Line) → LineAllowed w l r → IsLineRead (map_of w) l r
    by_line (line.Get v id cookie) allowed = get_read w.servers id cookie r (w.volumes v) (kept v) allowed
    by_line (line.Create v server) allowed = tt
    by_line (line.Put v id cookie content) allowed = tt
    by_line (line.Delete v id cookie) allowed = tt
    by_line (line.Mark v sealed) allowed = tt
    by_line line.List allowed = tt
    by_line (line.Start v command background) allowed = tt
    by_line (line.Step job steps) allowed = tt
    by_line (line.Wait job) allowed = tt
    by_line line.Lock allowed = tt
    by_line line.Unlock allowed = tt

-- ---- lines that are not refused

first_at : (rows : List (Option Refusal)) (k : ℕ) → first rows ≡ None → get_or rows k None ≡ None
first_at [] k e = refl
first_at (Some r ∷ rows) k e = absurd (cc e)
first_at (None ∷ rows) zero e = refl
first_at (None ∷ rows) (suc k) e = first_at rows k e

when_none : (b : Bool) (why : Refusal) → when b why ≡ None → b ≡ false
when_none true why e = absurd (cc e)
when_none false why e = refl

-- no row of the volume refuses an accepted line
no_row : (r : Reply) (o : Option Volume) (rows : Volume → List (Option Refusal)) (A : Type 0)
    → MatchOption (option_map_or (λ vol. first (when (is_lost vol.mode) refusal.Lost ∷ rows vol)) o (Some refusal.NoVolume)) A (λ why. r ≡ reply.Refused why)
    → is_accepted r ≡ true → (vol : Volume) × (o ≡ Some vol) × (first (when (is_lost vol.mode) refusal.Lost ∷ rows vol) ≡ None)
no_row r None rows A allowed ok = refused r _ allowed ok
no_row r (Some vol) rows A allowed ok = by_row (first (when (is_lost vol.mode) refusal.Lost ∷ rows vol)) refl allowed
  where
    by_row : (q : Option Refusal) → first (when (is_lost vol.mode) refusal.Lost ∷ rows vol) ≡ q → MatchOption q A (λ why. r ≡ reply.Refused why)
        → (x : Volume) × (Some vol ≡ Some x) × (first (when (is_lost x.mode) refusal.Lost ∷ rows x) ≡ None)
    by_row None e allowed = (vol, refl, e)
    by_row (Some why) e allowed = refused r why allowed ok

abbrev rows_of_put : World → ℕ → ℕ → ℕ → Content → Volume → List (Option Refusal)
rows_of_put w v id cookie content vol =
    when (is_lost vol.mode) refusal.Lost
    ∷ busy w v
    ∷ when (is_coded vol.mode) refusal.Coded
    ∷ when (is_sealed vol.mode) refusal.ReadOnly
    ∷ when (length content.bytes == 0) refusal.Empty
    ∷ when (is_too_large content) refusal.TooLarge
    ∷ when (nat_lt w.limit (vol.used + length_of_content content)) refusal.Full
    ∷ when (has_other_cookie vol.needles id cookie) refusal.Cookie
    ∷ []

abbrev rows_of_delete : World → ℕ → ℕ → ℕ → Volume → List (Option Refusal)
rows_of_delete w v id cookie vol =
    when (is_lost vol.mode) refusal.Lost
    ∷ busy w v
    ∷ when (is_sealed vol.mode) refusal.ReadOnly
    ∷ when (nat_lt max_dat (vol.used + deletion_length)) refusal.Full
    ∷ when (has_none vol.needles id) refusal.NotFound
    ∷ when (has_other_cookie vol.needles id cookie) refusal.Cookie
    ∷ []

line_open : (w : World) (l : Line) (r : Reply) → LineAllowed w l r → is_accepted r ≡ true → IsOpenTo (map_of w) l
line_open w (line.Create v server) r allowed ok = tt
line_open w (line.Put v id cookie content) r allowed ok =
    let on = no_row r (w.volumes v) _ _ allowed ok in
    ap (λ (o : Option Volume). has_other_cookie (needles_of o) id cookie) on.1 ∙ when_none (has_other_cookie on.0.needles id cookie) refusal.Cookie (first_at (rows_of_put w v id cookie content on.0) 7 on.2)
line_open w (line.Get v id cookie) r allowed ok = tt
line_open w (line.Delete v id cookie) r allowed ok =
    let on = no_row r (w.volumes v) _ _ allowed ok in (
      ap (λ (o : Option Volume). has_none (needles_of o) id) on.1 ∙ when_none (has_none on.0.needles id) refusal.NotFound (first_at (rows_of_delete w v id cookie on.0) 4 on.2),
      ap (λ (o : Option Volume). has_other_cookie (needles_of o) id cookie) on.1 ∙ when_none (has_other_cookie on.0.needles id cookie) refusal.Cookie (first_at (rows_of_delete w v id cookie on.0) 5 on.2),
    )
line_open w (line.Mark v sealed) r allowed ok = tt
line_open w line.List r allowed ok = tt
line_open w (line.Start v command background) r allowed ok = tt
line_open w (line.Step job steps) r allowed ok = tt
line_open w (line.Wait job) r allowed ok = tt
line_open w line.Lock r allowed ok = tt
line_open w line.Unlock r allowed ok = tt

-- what the map makes possible of an accepted line
pub may_take_effect : (w : World) (l : Reading) (r : Reply) → Allowed w l r → is_accepted r ≡ true → MayTakeEffect (map_of w) l
may_take_effect w over_long r allowed ok = tt
may_take_effect w ungrammatical r allowed ok = tt
may_take_effect w (grammatical l) r allowed ok = line_open w l r allowed ok
