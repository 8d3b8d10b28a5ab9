-- The coded indexes to which an encode's entries go, one after another.
use Rattle.std.proofs.Common.{◌≡◌, ◌≢◌, ◌⊎◌, ℕ, zero, suc, ◌+◌, ◌-◌, ◌*◌, ◌/◌, ◌%◌, ◌<◌, ◌≤◌, ◌^◌, Bool, true, false, List, [], ◌∷◌, length, map, take, drop, get_or, Some, refl, sym, ◌∙◌, ap, subst, arith}
use Rattle.std.specs.Prelude.{◌==◌, ◌&&◌, if◌then◌else◌, cond, filter, min, slice_get, slice_set, Result, Ok, Err}
use Rattle.std.proofs.lemmas.Bool.{and_parts, and_from, eqb-true, eq-eqb, false≢true}
use Rattle.std.proofs.lemmas.List.{length-take, length-drop}
use Rattle.std.proofs.lemmas.List.Filters.{length-filter_more}
use Rattle.std.proofs.lemmas.Option.{get_or_from_slice_get, slice_get-get_or}
use Rattle.site_model.specs.Disk.{Disk, Appends, grown}
use Rattle.site_model.specs.Touches.{Touches}
use Rattle.site_model.specs.Counts.{Counts, TakesCalls, Calls, max_servers, widest_piece}
use Rattle.site_model.specs.Laws.Count.{rose_after, takes_none, takes_on, takes_within, takes_write, calls_nowhere, calls_on_anywhere, calls_anywhere, calls_told, calls_untold, calls_write}
use Rattle.site_model.specs.declared.error.DeviceFault.{DeviceFault}
use Rattle.world_model.specs.World.{Volume}
use Rattle.world_model.specs.declared.types.Command.{Command}
use Rattle.world_model.specs.declared.types.Command.TheVariants.{Encode, Rebuild, Balance, Decode}
use Rattle.volume_forms.specs.declared.Entry.{Entry}
use Rattle.file_names.specs.Names.{place_of}
use Rattle.file_names.specs.declared.Kind.{Kind}
use Rattle.file_names.specs.declared.Kind.TheVariants.{Idx, Ecx}
use Rattle.shard_table.specs.Table.{Row}
use Rattle.image_meaning.specs.Share.{Share, share_of}
use Rattle.plan_steps.specs.declared.plan.Plan.{Plan}
use Rattle.plan_steps.specs.declared.plan.Stage.TheVariants.{Absent, Writing}
use Rattle.plan_steps.specs.declared.plan.FileState.{FileState}
use Rattle.plan_steps.specs.declared.step.Step.TheVariants.{WriteEntries}
use Rattle.plan_steps.specs.Kept.{Forms}
use Rattle.plan_steps.specs.Runs.{IsTempOf}
use Rattle.plan_steps.specs.Fitting.{AreStates}
use Rattle.plan_steps.specs.Planned.{is_encode, planned}
use Rattle.plan_steps.specs.Walk.{same_kind}
use Rattle.plan_steps.specs.Laws.Walk.{file_is}
use Rattle.plan_steps.specs.Next.{entries_by, is_behind}
use Rattle.plan_steps.specs.Legality.{goes_on_behind}
use Rattle.plan_steps.specs.After.{after, entries_in_piece, grown_by, IsShort, IsInUnits, WritesOn}
use Rattle.plan_steps.specs.Progressing.{Running, IsOnItsWay, FitsProgress}
use Rattle.plan_run.specs.declared.names.FileNames.{FileNames}
use Rattle.plan_run.specs.Faults.{WritesAt}
use Rattle.plan_run.specs.Growing.{AppendsAt, IsGrownAt, with_states, GrowsTo, GrowsAll, entries_at, takes_entries, entries_told}
use Rattle.plan_run.specs.Pieces.{IsPiece}
use Rattle.plan_run.specs.Stepping.{FailsWriting, IsAtWork, Steps, TakesFew}
use Rattle.plan_run.proofs.AtWork.{get_short}
use Rattle.plan_run.proofs.Entries.{entries_long, entries_piece}
use Rattle.plan_run.proofs.Few.{few_pass, front_few}
use Rattle.plan_run.proofs.Journal.{begun_by}
use Rattle.plan_run.proofs.Moved.{writes_few, writes_wrote}
use Rattle.plan_run.proofs.Together.{front_changed, front_all, front_there, front_on, front_idle, appends_temp, grows_on, way_grown, grown_steps}

-- an encode has its entries
count_is : (plan : Plan) (command : Command) → is_encode command ≡ true → entries_by plan command ≡ length plan.entries.items
count_is plan (Encode ratio) e = refl
count_is plan Rebuild e = absurd (false≢true e)
count_is plan Balance e = absurd (false≢true e)
count_is plan Decode e = absurd (false≢true e)

some_there : {A : Type 0} (xs : List A) (k : ℕ) → k < length xs → (x : A) × (slice_get xs k ≡ Some x)
some_there [] k short = absurd (omega (arith, short))
some_there (x ∷ xs) zero short = (x, refl)
some_there (x ∷ xs) (suc k) short = some_there xs k (omega (arith, short))

-- an index that takes entries
module _ (at : ℕ) (s : FileState) (takes : takes_entries at s ≡ true) where
  behind : (is_behind s.stage ≡ true) × ((same_kind s.kind Ecx && (at == s.length / 16)) ≡ true)
  behind = and_parts (is_behind s.stage) (same_kind s.kind Ecx && (at == s.length / 16)) takes

  both : (same_kind s.kind Ecx ≡ true) × ((at == s.length / 16) ≡ true)
  both = and_parts (same_kind s.kind Ecx) (at == s.length / 16) behind.1

  is : s.kind ≡ Ecx
  is = (file_is s.server Ecx s (and_from (s.server == s.server) (same_kind s.kind Ecx) (eq-eqb s.server s.server refl) both.0)).1

  begun : (s.stage ≡ Absent) ⊎ (s.stage ≡ Writing)
  begun = begun_by s.stage behind.0

  no_index : s.kind ≢ Idx
  no_index e = let clash : ◌≡◌ {A = Kind} Ecx Idx = sym is ∙ e in cc

-- no more of them than servers
pub takes_few : (at : ℕ) (states : List FileState) → AreStates states → (k : ℕ) → length (filter (takes_entries at) (take k states)) ≤ 64
takes_few at states are k = omega (
  arith,
  front_few (takes_entries at) k states,
  few_pass max_servers (λ (s : FileState). s.server) (takes_entries at) states (λ j s there takes. (are.named j s there).1)
      (λ i j a b at_i at_j takes_a takes_b same. are.apart i j a b at_i at_j same (is at a takes_a ∙ sym (is at b takes_b))),
)

module _ (r : Running) (servers : ℕ) (names : FileNames) (work : IsAtWork r servers names) (encodes : is_encode r.plan.command ≡ true) (at : ℕ) where
  abbrev es : List Entry
  es = r.plan.entries.items

  abbrev pub piece : List ℕ
  piece = entries_at r.plan at

  abbrev pub changed : FileState → FileState
  changed = after r.plan r.place 0 (WriteEntries at)

  pub long : length piece ≡ 16 * min 2048 (length es - at)
  long = entries_long (take 2048 (drop at es)) ∙ ap (λ n. 16 * n) (length-take 2048 (drop at es) ∙ ap (min 2048) (length-drop at es))

  pub narrow : length piece ≤ widest_piece
  narrow = omega (arith, long)

  goes : (s : FileState) → goes_on_behind r.plan r.place (WriteEntries at) s ≡ takes_entries at s
  goes s = ap (λ (b : Bool). is_behind s.stage && (if b then same_kind s.kind Ecx && (at == s.length / 16) else same_kind s.kind Idx && (at == r.place))) encodes

  piece_is : 16 * entries_in_piece r.plan 0 at (is_encode r.plan.command) ≡ length piece
  piece_is = ap (λ (b : Bool). 16 * entries_in_piece r.plan 0 at b) encodes ∙ sym long

  -- the states after the step are those that are told
  told : (s : FileState) → changed s ≡ entries_told at (length piece) s
  told s = λ i. if goes s i then grown_by (piece_is i) s else s

  pub all_told : map changed r.states ≡ map (entries_told at (length piece)) r.states
  all_told = λ i. map (λ s. told s i) r.states

  grows : (s : FileState) → takes_entries at s ≡ true → grown_by (length piece) s ≡ changed s
  grows s takes = sym (told s ∙ ap (λ (b : Bool). if b then grown_by (length piece) s else s) takes)

  stays : (s : FileState) → takes_entries at s ≡ false → changed s ≡ s
  stays s not_it = told s ∙ ap (λ (b : Bool). if b then grown_by (length piece) s else s) not_it

  -- ---- one of the indexes

  module _ (j : ℕ) (s : FileState) (there : slice_get r.states j ≡ Some s) (takes : takes_entries at s ≡ true) where
    short : s.length ≤ 16 * length es
    short = subst (λ n. s.length ≤ 16 * n) (count_is r.plan r.plan.command encodes) (subst (IsShort r.plan s.length) (is at s takes) (work.bounds.short.lengths j s there (behind at s takes).0))

    whole_entries : s.length % 16 ≡ 0
    whole_entries = subst (IsInUnits r.plan s.length) (is at s takes) (work.bounds.units.units j s there (behind at s takes).0)

    begins : s.length ≡ 16 * at
    begins = omega (arith, eqb-true at (s.length / 16) (both at s takes).1, whole_entries)

    pub from_short : at ≤ length es
    from_short = omega (arith, begins, short)

    pub has_room : s.length + length piece < 2 ^ 64
    has_room = omega (arith, short, begins, long, work.of_plan.entries)

    right : (now : Share) (w : Volume) (f : Forms) (row : Row) (start : Share) → FitsProgress w f r row start now → IsPiece f.parts s piece
    right now w f row start fits = record {
      whole = f.parts.index;
      planned_is = subst (λ c. planned f.parts c ≡ Some f.parts.index) (sym (is at s takes)) refl;
      follows = entries_piece es at 2048 from_short ∙ (λ i. take (sym long i) (drop (sym begins i) (sym (fits.begins.tells.index encodes) i)));
      within = omega (arith, begins, long, from_short, entries_long es, ap length (fits.begins.tells.index encodes));
    }

    front_grown : slice_set (front_changed changed j r.states) j (grown_by (length piece) s) ≡ front_changed changed (suc j) r.states
    front_grown = ap (slice_set (front_changed changed j r.states) j) (grows s takes) ∙ front_on changed j r.states s there

  -- ---- the front of the list

  way_on : (k : ℕ) → k < length r.states → (row : Row) → IsOnItsWay (with_states r (front_changed changed k r.states)) row → IsOnItsWay (with_states r (front_changed changed (suc k) r.states)) row
  way_on k within row before = by_test (takes_entries at s) refl
    where
      found : (s : FileState) × (slice_get r.states k ≡ Some s)
      found = some_there r.states k within

      s : FileState
      s = found.0

      by_test : (b : Bool) → takes_entries at s ≡ b → IsOnItsWay (with_states r (front_changed changed (suc k) r.states)) row
      by_test true takes =
          subst (λ states. IsOnItsWay (with_states r states) row) (front_grown k s found.1 takes)
          (way_grown (with_states r (front_changed changed k r.states)) row before k s (front_there changed k r.states ∙ found.1) (begun at s takes) (length piece))
      by_test false not_it = subst (λ states. IsOnItsWay (with_states r states) row) (front_idle changed k r.states s found.1 (stays s not_it)) before

  pub ways : (k : ℕ) → k ≤ length r.states → (row : Row) → IsOnItsWay r row → IsOnItsWay (with_states r (front_changed changed k r.states)) row
  ways zero within row was = was
  ways (suc k) within row was = way_on k (omega (arith, within)) row (ways k (omega (arith, within)) row was)

  are : (k : ℕ) → k ≤ length r.states → AreStates (front_changed changed k r.states)
  are k within = (ways k within work.on_its_way.0 work.on_its_way.1).apart

  -- ---- one more file of the list

  module _ (k : ℕ) (s : FileState) (short_k : k < length r.states) (there : slice_get r.states k ≡ Some s) (old mid : Disk) (before : GrowsTo r (front_changed changed k r.states) old mid) (bytes : List ℕ) (same : bytes ≡ piece) where
    next : k + 1 ≡ suc k
    next = omega arith

    pub one_grown : (new : Disk) → takes_entries at s ≡ true → AppendsAt r k bytes mid new → IsGrownAt r k bytes mid.files new.files → GrowsTo r (front_changed changed (k + 1) r.states) old new
    one_grown new takes did done =
        subst (λ states. GrowsTo r states old new) (front_grown k s there takes ∙ ap (λ n. front_changed changed n r.states) (sym next))
        (grows_on r work.below (front_changed changed k r.states) (are k (omega (arith, short_k))) old mid new before k s (front_there changed k r.states ∙ there) (begun at s takes) (no_index at s takes) piece
        (right k s there takes (share_of old.files r.plan.volume)) (subst (λ p. Appends (place_of r.plan.volume s.server s.kind true) p mid new) same (did s there))
        (subst (λ p. new.files (place_of r.plan.volume s.server s.kind true) ≡ Some (grown (mid.files (place_of r.plan.volume s.server s.kind true)) p)) same (done s there)))

    pub one_idle : takes_entries at s ≡ false → GrowsTo r (front_changed changed (k + 1) r.states) old mid
    one_idle not_it = subst (λ states. GrowsTo r states old mid) (front_idle changed k r.states s there (stays s not_it) ∙ ap (λ n. front_changed changed n r.states) (sym next)) before

    pub one_tried : (new : Disk) → AppendsAt r k bytes mid new → Touches (IsTempOf r.plan.volume) old new
    one_tried new did = appends_temp r.plan.volume s bytes before.touches (did s there)

  -- ---- the step

  -- it succeeded: all the indexes have the piece
  pub entries_grown : (tells : Type 0) (count : ℕ) → count ≡ length piece → (s : Running) → s.plan ≡ r.plan → s.states ≡ map (entries_told at count) r.states → s.place ≡ r.place
      → (old new : Disk) → (tells → GrowsAll {A = Unit {0}} r (WriteEntries at) (Ok tt) old new) → Steps {A = Unit {0}} tells r (WriteEntries at) s (Ok tt) old new
  entries_grown tells count whole s plan_is states_are place_is old new effect =
      grown_steps tells r work.below (WriteEntries at) 0 s old new (Ok tt) (λ t. (effect t).touches) (
        λ t. (effect t).grows,
        λ row was. subst (λ states. IsOnItsWay (with_states r states) row) (front_all changed r.states) (ways (length r.states) (omega arith) row was),
        λ i. record { plan = plan_is i; states = told_all i; place = place_is i },
        subst (WritesOn r.plan r.place r.place) (sym encodes) refl,
      )
    where
      told_all : s.states ≡ map changed r.states
      told_all = states_are ∙ (λ i. map (entries_told at (whole i)) r.states) ∙ sym all_told

  -- it failed
  pub entries_failed : (tells : Type 0) (old new : Disk) (fault : DeviceFault) → (tells → GrowsAll {A = Unit {0}} r (WriteEntries at) (Err fault) old new) → Steps {A = Unit {0}} tells r (WriteEntries at) r (Err fault) old new
  entries_failed tells old new fault effect = grown_steps tells r work.below (WriteEntries at) 0 r old new (Err fault) (λ t. (effect t).touches) refl

-- ---- how many there are

module _ (at : ℕ) (states : List FileState) (k : ℕ) (s : FileState) (there : slice_get states k ≡ Some s) where
  by_test : length (filter (takes_entries at) (take (k + 1) states)) ≡ length (filter (takes_entries at) (take k states)) + cond (takes_entries at s) 1 0
  by_test = length-filter_more (takes_entries at) states k s (get_short states k s there)
      ∙ ap (λ (x : FileState). length (filter (takes_entries at) (take k states)) + cond (takes_entries at x) 1 0) (get_or_from_slice_get states k s s there)

  pub one_counted : takes_entries at s ≡ true → length (filter (takes_entries at) (take (k + 1) states)) ≡ length (filter (takes_entries at) (take k states)) + 1
  one_counted takes = by_test ∙ ap (λ b. length (filter (takes_entries at) (take k states)) + cond b 1 0) takes

  pub none_counted : takes_entries at s ≡ false → length (filter (takes_entries at) (take (k + 1) states)) ≡ length (filter (takes_entries at) (take k states))
  none_counted not_it = by_test ∙ omega (arith, ap (λ (b : Bool). ◌+◌ 0 (cond b 1 0)) not_it)

  pub one_few : AreStates states → takes_entries at s ≡ true → length (filter (takes_entries at) (take k states)) + 1 ≤ 64
  one_few are takes = omega (arith, one_counted takes, takes_few at states are (k + 1))

abbrev pub no_file : FileState
no_file = record { server = 0; kind = Ecx; length = 0; stage = Absent }

-- as it is read of the list
pub item_there : (states items : List FileState) (k : ℕ) (d : FileState) → items ≡ states → k < length items → slice_get states k ≡ Some (get_or items k d)
item_there states items k d same short = ap (λ xs. slice_get xs k) (sym same) ∙ slice_get-get_or items k d short

-- ---- calls

-- so many that write, none of which failed
pub record HasCalled {S : Type 0} (counts : S → Counts) (count : S → ℕ) (n : ℕ) (old mid : S) : Type 0 where
  pub takes : TakesCalls n widest_piece (counts old) (counts mid)
  pub runs : Calls counts count old mid (λ server. ⊥)

pub none_called : {S : Type 0} (counts : S → Counts) (count : S → ℕ) (at : S) → HasCalled counts count 0 at at
none_called counts count at = record { takes = takes_none (counts at); runs = calls_nowhere at }

module _ {A S : Type 0} {counts : S → Counts} {count : S → ℕ} {n : ℕ} {old mid : S} (before : HasCalled counts count n old mid) where
  pub one_called : {new : S} {server width : ℕ} (result : Result A DeviceFault) → WritesAt counts count server width result mid new → width ≤ widest_piece → HasCalled counts count (n + 1) old new
  one_called result did narrow = record {
    takes = takes_on before.takes (takes_within (omega arith) narrow (takes_write did.counted));
    runs = calls_untold (calls_on_anywhere before.runs (calls_anywhere (calls_write narrow did.counted did.servers)));
  }

  pub then_few : {new : S} {server width : ℕ} (result : Result A DeviceFault) → WritesAt counts count server width result mid new → width ≤ widest_piece → n + 1 ≤ 64 → TakesFew counts count result old new
  then_few result did narrow few = record {
    takes = takes_within few (omega arith) (one_called result did narrow).takes;
    runs = calls_on_anywhere before.runs (writes_few result did narrow).runs;
  }

  pub then_wrote : {new : S} {server width : ℕ} (result : Result A DeviceFault) → WritesAt counts count server width result mid new → FailsWriting counts result old new
  then_wrote {new} result did = by_result result (writes_wrote counts count mid new result did)
    where
      by_result : (o : Result A DeviceFault) → FailsWriting counts o mid new → FailsWriting counts o old new
      by_result (Ok value) wrote = tt
      by_result (Err fault) wrote =
          rose_after ((counts old).write_faults fault.server) ((counts mid).write_faults fault.server) ((counts new).write_faults fault.server) (before.runs.later.write_faults fault.server) wrote

  pub few_called : (value : A) → n ≤ 64 → TakesFew counts count (Ok value) old mid
  few_called value few = record { takes = takes_within few (omega arith) before.takes; runs = calls_told (λ server e. absurd (not_err server e)) before.runs }
    where
      not_err : (server : ℕ) → ◌≡◌ {A = Result A DeviceFault} (Ok value) (Err (record { server = server })) → ⊥
      not_err server e = cc
