-- The times of needles and deletions, from line to line.
use Rattle.std.proofs.Common.{◌≡◌, ◌⊎◌, inl, inr, ⊎_elim, ℕ, zero, suc, ◌<◌, ◌≤◌, ◌==◌, Bool, true, false, List, [], ◌∷◌, ◌++◌, length, take, take_at, take_all, Option, Some, None, is_some, refl, sym, ◌∙◌, ap, subst, arith}
use Rattle.std.specs.Prelude.{◌&&◌, if◌then◌else◌, slice_get}
use Rattle.std.proofs.lemmas.Bool.{cases_eq, eq-eqb, ne_eqb}
use Rattle.std.proofs.lemmas.List.{take-append-le}
use Rattle.site_model.specs.Disk.{Image}
use Rattle.world_model.specs.declared.types.Content.{Content}
use Rattle.world_model.specs.declared.types.Line.{Line}
use Rattle.world_model.specs.declared.types.Line.TheVariants as line
use Rattle.world_model.specs.declared.types.Reply.{Reply}
use Rattle.world_model.specs.declared.types.Reply.TheVariants as reply
use Rattle.world_model.specs.Moves.{Reading, over_long, ungrammatical, grammatical, is_accepted}
use Rattle.needle_record.specs.declared.Record.{Record}
use Rattle.image_meaning.specs.Meaning.{max_volumes}
use Rattle.image_meaning.specs.Times.{records_in, time_by, time_from, time_in}
use Rattle.image_meaning.specs.Laws.Times.{time_from-push}
use Rattle.store_core.specs.Written.{HasSameRecords, HasOneMore, IsWritten, written_by}
use Rattle.weed_shell.specs.Observed.{Start, lines_of, opening_image}
use Rattle.weed_shell.specs.Times.{writes_at, written_at, IsTimed, HasTimes, MayHaveTimes, AreTimed, TimesAfter, TimesLeft}

-- ---- one line

-- what the records of a volume are tells the times
same_times : (live : Bool) (id v : ℕ) (old new : Image) → records_in new v ≡ records_in old v → time_in live new v id ≡ time_in live old v id
same_times live id v old new same = ap (time_from live id None) same

-- a line that took no effect
pub refused_times : (l : Reading) (r : Reply) (told : List ℕ) (old new : Image) → is_accepted r ≡ false → HasSameRecords old new → HasTimes l r told old new
refused_times over_long r told old new refused same = λ live v id below. same_times live id v old new (same v below)
refused_times ungrammatical r told old new refused same = λ live v id below. same_times live id v old new (same v below)
refused_times (grammatical l) r told old new refused same = λ live v id below.
    subst (λ b. IsTimed live (if b then writes_at v id l else None) told (time_in live old v id) (time_in live new v id)) (sym refused) (same_times live id v old new (same v below))

-- the record has the time that was told, and is of its kind
record_timed : (live : Bool) (time : ℕ) (content : Option Content) (before : Option ℕ) → IsTimed live (Some (is_some content)) (time ∷ []) before (time_by live time content)
record_timed true time (Some c) before = (time, (0, omega arith, refl), refl)
record_timed true time None before = refl
record_timed false time (Some c) before = refl
record_timed false time None before = (time, (0, omega arith, refl), refl)

-- one record more
more_times : (w : ℕ) (r : Record) (old new : Image) → HasOneMore w r old new → (live : Bool) (v id : ℕ) → v < max_volumes
    → IsTimed live (if (w == v) && (r.id == id) then Some (is_some r.content) else None) (r.appended ∷ []) (time_in live old v id) (time_in live new v id)
more_times w r old new more live v id below = elim (cases_eq w v) [
  | inl e ↦ here v e
  | inr other ↦ subst (λ b. IsTimed live (if b && (r.id == id) then Some (is_some r.content) else None) (r.appended ∷ []) (time_in live old v id) (time_in live new v id)) (sym (ne_eqb w v other))
      (same_times live id v old new (more.others v below (λ e. other (sym e))))
]
  where
    pushed : (b : Bool) → IsTimed live (if b then Some (is_some r.content) else None) (r.appended ∷ []) (time_in live old w id) (if b then time_by live r.appended r.content else time_in live old w id)
    pushed true = record_timed live r.appended r.content (time_in live old w id)
    pushed false = refl

    now : time_in live new w id ≡ (if r.id == id then time_by live r.appended r.content else time_in live old w id)
    now = ap (time_from live id None) more.there ∙ time_from-push live id None (records_in old w) (more.place, r)

    here : (q : ℕ) → w ≡ q → IsTimed live (if (w == q) && (r.id == id) then Some (is_some r.content) else None) (r.appended ∷ []) (time_in live old q id) (time_in live new q id)
    here q e = subst (λ p. IsTimed live (if (w == p) && (r.id == id) then Some (is_some r.content) else None) (r.appended ∷ []) (time_in live old p id) (time_in live new p id)) e
        (subst (λ b. IsTimed live (if b && (r.id == id) then Some (is_some r.content) else None) (r.appended ∷ []) (time_in live old w id) (time_in live new w id)) (sym (eq-eqb w w refl))
        (subst (IsTimed live (if r.id == id then Some (is_some r.content) else None) (r.appended ∷ []) (time_in live old w id)) (sym now) (pushed (r.id == id))))

-- a line that took effect
pub done_times : (now : ℕ) (l : Line) (r : Reply) (old new : Image) → is_accepted r ≡ true → IsWritten (written_by now l) old new → HasTimes (grammatical l) r (now ∷ []) old new
done_times now l r old new accepted wrote = λ live v id below.
    subst (λ b. IsTimed live (if b then writes_at v id l else None) (now ∷ []) (time_in live old v id) (time_in live new v id)) (sym accepted) (by_line l wrote live v id below)
  where
    by_line : (k : Line) → IsWritten (written_by now k) old new → (live : Bool) (v id : ℕ) → v < max_volumes → IsTimed live (writes_at v id k) (now ∷ []) (time_in live old v id) (time_in live new v id)
    by_line (line.Put w i cookie content) more live v id below = more_times w (record { cookie = cookie; id = i; content = Some content; appended = now }) old new more live v id below
    by_line (line.Delete w i cookie) more live v id below = more_times w (record { cookie = cookie; id = i; content = None; appended = now }) old new more live v id below
    by_line (line.Create w server) same live v id below = same_times live id v old new (same v below)
    by_line (line.Get w i cookie) same live v id below = same_times live id v old new (same v below)
    by_line (line.Mark w sealed) same live v id below = same_times live id v old new (same v below)
    by_line line.List same live v id below = same_times live id v old new (same v below)
    by_line (line.Start w command background) same live v id below = same_times live id v old new (same v below)
    by_line (line.Step job steps) same live v id below = same_times live id v old new (same v below)
    by_line (line.Wait job) same live v id below = same_times live id v old new (same v below)
    by_line line.Lock same live v id below = same_times live id v old new (same v below)
    by_line line.Unlock same live v id below = same_times live id v old new (same v below)

-- what a stop in it leaves
pub left_times : (now : ℕ) (l : Line) (old image : Image) → HasSameRecords old image ⊎ IsWritten (written_by now l) old image → MayHaveTimes (grammatical l) (now ∷ []) old image
left_times now l old image (inl same) = (reply.Syntax, refused_times (grammatical l) reply.Syntax (now ∷ []) old image refl same)
left_times now l old image (inr wrote) = (reply.Done, done_times now l reply.Done old image refl wrote)

-- ---- many lines

-- one line more
timed_push : (live : Bool) (v id : ℕ) (lines : List Reading) (replies : List Reply) (told : List (List ℕ)) (l : Reading) (r : Reply) (ts : List ℕ) (before mid after : Option ℕ)
    → AreTimed live v id lines replies told before mid → slice_get lines (length replies) ≡ Some l → slice_get told (length replies) ≡ Some ts → IsTimed live (written_at v id l r) ts mid after
    → AreTimed live v id lines (replies ++ r ∷ []) told before after
timed_push live v id [] [] told l r ts before mid after are at at_told is = absurd cc
timed_push live v id (x ∷ lines) [] [] l r ts before mid after are at at_told is = absurd cc
timed_push live v id (x ∷ lines) [] (us ∷ told) l r ts before mid after are at at_told is =
    let same : x ≡ l = cc in
    let told_is : us ≡ ts = cc in
    (after, subst (λ y. IsTimed live (written_at v id y r) us before after) (sym same) (subst (λ zs. IsTimed live (written_at v id l r) zs before after) (sym told_is) (subst (λ b. IsTimed live (written_at v id l r) ts b after) are is)), refl)
timed_push live v id [] (s ∷ replies) told l r ts before mid after are at at_told is = absurd are
timed_push live v id (x ∷ lines) (s ∷ replies) [] l r ts before mid after are at at_told is = absurd are
timed_push live v id (x ∷ lines) (s ∷ replies) (us ∷ told) l r ts before mid after are at at_told is =
    (are.0, are.1, timed_push live v id lines replies told l r ts are.0 mid after are.2 at at_told is)

-- what is told later changes nothing
timed_more : (live : Bool) (v id : ℕ) (lines : List Reading) (replies : List Reply) (told more : List (List ℕ)) (before after : Option ℕ)
    → AreTimed live v id lines replies told before after → AreTimed live v id lines replies (told ++ more) before after
timed_more live v id lines [] told more before after are = are
timed_more live v id [] (r ∷ replies) told more before after are = absurd are
timed_more live v id (l ∷ lines) (r ∷ replies) [] more before after are = absurd are
timed_more live v id (l ∷ lines) (r ∷ replies) (ts ∷ told) more before after are = (are.0, are.1, timed_more live v id lines replies told more are.0 after are.2)

get_more : {A : Type 0} (xs ys : List A) (n : ℕ) (x : A) → slice_get xs n ≡ Some x → slice_get (xs ++ ys) n ≡ Some x
get_more [] ys n x e = absurd cc
get_more (y ∷ xs) ys zero x e = e
get_more (y ∷ xs) ys (suc n) x e = get_more xs ys n x e

get_end : {A : Type 0} (xs : List A) (x : A) → slice_get (xs ++ x ∷ []) (length xs) ≡ Some x
get_end [] x = refl
get_end (y ∷ xs) x = get_end xs x

-- the last times that were told
pub last_told : (told : List (List ℕ)) (ts : List ℕ) (n : ℕ) → length told ≡ n → slice_get (told ++ ts ∷ []) n ≡ Some ts
last_told told ts n count = subst (λ k. slice_get (told ++ ts ∷ []) k ≡ Some ts) count (get_end told ts)

-- ---- over a run

pub times_told : (start : Start) (replies : List Reply) (told more : List (List ℕ)) (image : Image) → TimesAfter start replies told image → TimesAfter start replies (told ++ more) image
times_told start replies told more image times = λ live v id below. timed_more live v id (lines_of start) replies told more _ _ (times live v id below)

-- before the first line
pub opening_times : (start : Start) (image : Image) → HasSameRecords (opening_image start) image → TimesAfter start [] [] image
opening_times start image same = λ live v id below. same_times live id v (opening_image start) image (same v below)

-- after one line more
pub times_on : (start : Start) (replies : List Reply) (told : List (List ℕ)) (l : Reading) (r : Reply) (ts : List ℕ) (old new : Image)
    → TimesAfter start replies told old → slice_get (lines_of start) (length replies) ≡ Some l → slice_get told (length replies) ≡ Some ts → HasTimes l r ts old new
    → TimesAfter start (replies ++ r ∷ []) told new
times_on start replies told l r ts old new times at at_told is = λ live v id below.
    timed_push live v id (lines_of start) replies told l r ts (time_in live (opening_image start) v id) (time_in live old v id) (time_in live new v id) (times live v id below) at at_told (is live v id below)

-- all that were answered, and nothing else
pub left_all : (start : Start) (replies : List Reply) (told : List (List ℕ)) (image : Image) → TimesAfter start replies told image → TimesLeft start replies told image (length replies)
left_all start replies told image times = λ live v id below. (
  time_in live image v id,
  subst (λ (rs : List Reply). AreTimed live v id (lines_of start) rs told (time_in live (opening_image start) v id) (time_in live image v id)) (sym (take_all (length replies) replies (omega arith))) (times live v id below),
  inl refl,
)

-- or the next line too
pub left_next : (start : Start) (replies more : List Reply) (told : List (List ℕ)) (l : Reading) (ts : List ℕ) (old image : Image)
    → TimesAfter start replies told old → slice_get (lines_of start) (length replies) ≡ Some l → slice_get told (length replies) ≡ Some ts → MayHaveTimes l ts old image
    → TimesLeft start (replies ++ more) told image (length replies)
left_next start replies more told l ts old image times at at_told may = λ live v id below. (
  time_in live old v id,
  subst (λ (rs : List Reply). AreTimed live v id (lines_of start) rs told (time_in live (opening_image start) v id) (time_in live old v id)) (sym (take_at replies more (length replies) refl)) (times live v id below),
  inr (l, ts, at, at_told, may.0, may.1 live v id below),
)

-- what was left before is as it was, with more replies and more that was told
pub left_more : (start : Start) (replies more : List Reply) (told later : List (List ℕ)) (image : Image) (n : ℕ) → n ≤ length replies → TimesLeft start replies told image n
    → TimesLeft start (replies ++ more) (told ++ later) image n
left_more start replies more told later image n within times = λ live v id below.
    let is = times live v id below in (
      is.0,
      subst (λ (rs : List Reply). AreTimed live v id (lines_of start) rs (told ++ later) (time_in live (opening_image start) v id) is.0) (sym (take-append-le n replies more within))
          (timed_more live v id (lines_of start) (take n replies) told later _ _ is.1),
      ⊎_elim (λ same. inl same) (λ next. inr (next.0, next.1, next.2, get_more told later n next.1 next.3, next.4, next.5)) is.2,
    )
