-- Each step that succeeds lowers the bound on those that are left.
-- For `run_step` of the running plans of `plan_run`, to come.
use Rattle.std.proofs.Common.{◌≡◌, ◌≢◌, ◌⊎◌, inl, inr, ⊎_elim, ℕ, zero, suc, ◌+◌, ◌-◌, ◌/◌, ◌<◌, ◌≤◌, Bool, true, false, List, [], ◌∷◌, ◌++◌, length, map, Some, refl, sym, ◌∙◌, ap, subst, arith}
use Rattle.std.specs.Prelude.{max, nat_lt, ◌==◌, ◌&&◌, not, if◌then◌else◌, filter, slice_get}
use Rattle.std.specs.List.{sum_by}
use Rattle.std.proofs.lemmas.Bool.{cases_lt, and_parts, and_from, eq-eqb, false≢true}
use Rattle.std.proofs.lemmas.List.Sums.{sum_by-cons}
use Rattle.image_meaning.specs.Laws.Options.{none_some, some_is}
use Rattle.image_meaning.specs.Files.{all_servers}
use Rattle.world_model.specs.declared.types.Command.{Command}
use Rattle.world_model.specs.declared.types.Command.TheVariants.{Encode, Rebuild, Balance, Decode}
use Rattle.world_model.specs.declared.types.Ratio.{Ratio}
use Rattle.file_names.specs.declared.Kind.{Kind}
use Rattle.file_names.specs.declared.Kind.TheVariants.{Dat, Idx, Cpd, Cpx, Shard, Ecx, Ecj, Vif}
use Rattle.stripe_layout.specs.Information.{info_text}
use Rattle.stripe_layout.specs.Stripes.{rounded_up}
use Rattle.plan_steps.specs.declared.plan.Plan.{Plan}
use Rattle.plan_steps.specs.declared.plan.Stage.{Stage}
use Rattle.plan_steps.specs.declared.plan.Stage.TheVariants.{Absent, Writing, Synced, Registered, Gone}
use Rattle.plan_steps.specs.declared.plan.FileState.{FileState}
use Rattle.plan_steps.specs.declared.step.Step.{Step}
use Rattle.plan_steps.specs.declared.step.Step.TheVariants.{PutInfo, WriteEntries, PutJournal, MakePiece, MendPiece, JoinPiece, JoinDeletes, CopyPiece, Sync}
use Rattle.plan_steps.specs.Planned.{is_encode, is_found}
use Rattle.plan_steps.specs.Fitting.{AreStates}
use Rattle.plan_steps.specs.Legal.{IsFound, IsNew}
use Rattle.plan_steps.specs.Laws.Legal.{by_bool}
use Rattle.plan_steps.specs.Laws.Found.{encode_finds}
use Rattle.plan_steps.specs.Members.{Has, at_has, has_either, map_has}
use Rattle.plan_steps.specs.Lists.{is_target, shard_names, list_by, list_of}
use Rattle.plan_steps.specs.Order.{Names, names_of, IsUnfinished, IsReached}
use Rattle.plan_steps.specs.Laws.Order.{name_at}
use Rattle.plan_steps.specs.Walk.{same_kind, is_file, is_last_stage, is_finished, is_open, position_of}
use Rattle.plan_steps.specs.Laws.Walk.{place_cases, file_is, is_this, same_kind-is}
use Rattle.plan_steps.specs.Next.{IsSized, joined_length, make_step, join_step, data_step, is_made, mend_step, shard_step, shard_source, first_holder, index_step, piece_step, is_whole, going_step, coming_step, file_step, file_at, is_behind, is_synced, is_data, if_behind, turn_of, step_at, next_step}
use Rattle.plan_steps.specs.Legality.{is_make, is_join, is_shard, is_made_kind, is_behind_data, goes_on, goes_on_behind}
use Rattle.plan_steps.specs.LegalNext.{make_here, join_here}
use Rattle.plan_steps.specs.Left.{least_read, pieces_left, written_left, text_left, going_left, coming_left, file_left, left_of}
use Rattle.plan_steps.specs.After.{piece_length, grown_by, at_stage, put_whole, appended, after, ReadsOn, WritesOn, PlaceAfter, IsAfter, AreShort}
use Rattle.plan_steps.specs.Laws.Blocks.{round_reaches, round_least}
use Rattle.plan_steps.specs.Laws.Advances.{Comes, Advances, join_advances, deletes_advance, read_advances, entries_advance, journal_advances, index_advances, make_advances, mend_advances, copy_advances}

-- ---- sums

module _ (was now : FileState → ℕ) (step : FileState → FileState) where
  sum_kept : (xs : List FileState) → ((k : ℕ) (t : FileState) → slice_get xs k ≡ Some t → now (step t) ≤ was t) → sum_by now (map step xs) ≤ sum_by was xs
  sum_kept [] each = omega arith
  sum_kept (x ∷ xs) each = omega (arith, sum_by-cons now (step x) (map step xs), sum_by-cons was x xs, each 0 x refl, sum_kept xs (λ k t at. each (suc k) t at))

  -- where each term is no greater and one is less, the sum is less
  sum_lowered : (xs : List FileState) → ((k : ℕ) (t : FileState) → slice_get xs k ≡ Some t → now (step t) ≤ was t) → (k : ℕ) (s : FileState) → slice_get xs k ≡ Some s → now (step s) < was s
      → sum_by now (map step xs) < sum_by was xs
  sum_lowered [] each k s at less = absurd (none_some at)
  sum_lowered (x ∷ xs) each zero s at less =
      let first : now (step x) < was x = subst (λ y. now (step y) < was y) (sym (some_is x s at)) less in
      omega (arith, sum_by-cons now (step x) (map step xs), sum_by-cons was x xs, first, sum_kept xs (λ k t at. each (suc k) t at))
  sum_lowered (x ∷ xs) each (suc k) s at less =
      omega (arith, sum_by-cons now (step x) (map step xs), sum_by-cons was x xs, each 0 x refl, sum_lowered xs (λ k t at. each (suc k) t at) k s at less)

-- ---- a file of which no more pieces are left

written_kept : (p q : ℕ) (stage : Stage) → p ≤ q → written_left p stage ≤ written_left q stage
written_kept p q Absent h = omega (arith, h)
written_kept p q Writing h = omega (arith, h)
written_kept p q Synced h = omega arith
written_kept p q Registered h = omega arith
written_kept p q Gone h = omega arith

-- and of one with a piece more
written_grown : (p q : ℕ) (stage : Stage) → is_behind stage ≡ true → p < max 1 q → written_left p Writing ≤ written_left q stage
written_grown p q Absent behind h = omega (arith, h)
written_grown p q Writing behind h = omega (arith, h)
written_grown p q Synced behind h = absurd (false≢true behind)
written_grown p q Registered behind h = absurd (false≢true behind)
written_grown p q Gone behind h = absurd (false≢true behind)

text_grown : (stage : Stage) → is_behind stage ≡ true → text_left Writing ≤ text_left stage
text_grown Absent behind = omega arith
text_grown Writing behind = omega arith
text_grown Synced behind = absurd (false≢true behind)
text_grown Registered behind = absurd (false≢true behind)
text_grown Gone behind = absurd (false≢true behind)

going_grown : (stage : Stage) → is_behind stage ≡ true → going_left Writing ≤ going_left stage
going_grown Absent behind = omega arith
going_grown Writing behind = omega arith
going_grown Synced behind = absurd (false≢true behind)
going_grown Registered behind = absurd (false≢true behind)
going_grown Gone behind = absurd (false≢true behind)

-- a piece is written to a file that nothing of stands yet, or that isn't whole
abbrev IsBegun : Stage → Bool → Type 0
IsBegun Absent whole = Unit {0}
IsBegun Writing whole = whole ≡ false
IsBegun Synced whole = ⊥
IsBegun Registered whole = ⊥
IsBegun Gone whole = ⊥

written_less : (p q : ℕ) (whole : Bool) (stage : Stage) → IsBegun stage whole → p < max 1 q → (whole ≡ false → p < q) → written_left p Writing < written_left q stage
written_less p q whole Absent begun few fewer = omega (arith, few)
written_less p q whole Writing begun few fewer = omega (arith, fewer begun)
written_less p q whole Synced begun few fewer = absurd begun
written_less p q whole Registered begun few fewer = absurd begun
written_less p q whole Gone begun few fewer = absurd begun

module _ (plan : Plan) (place next : ℕ) where
  -- no reading goes back
  pieces_kept : place ≤ next → (n : ℕ) (kind : Kind) → pieces_left plan next n kind ≤ pieces_left plan place n kind
  pieces_kept on n Dat = omega arith
  pieces_kept on n Idx = round_least (joined_length plan - next) least_read (rounded_up (joined_length plan - place) least_read) (omega arith) (omega (arith, on, round_reaches (joined_length plan - place) least_read (omega arith)))
  pieces_kept on n Cpd = omega arith
  pieces_kept on n Cpx = omega arith
  pieces_kept on n (Shard i) = omega arith
  pieces_kept on n Ecx = omega arith
  pieces_kept on n Ecj = omega arith
  pieces_kept on n Vif = omega arith

  coming_kept : place ≤ next → (n : ℕ) (stage : Stage) (kind : Kind) → coming_left plan next n stage kind ≤ coming_left plan place n stage kind
  coming_kept on n stage Dat = omega arith
  coming_kept on n stage Idx = written_kept (pieces_left plan next n Idx) (pieces_left plan place n Idx) stage (pieces_kept on n Idx)
  coming_kept on n stage Cpd = omega arith
  coming_kept on n stage Cpx = omega arith
  coming_kept on n stage (Shard i) = omega arith
  coming_kept on n stage Ecx = omega arith
  coming_kept on n stage Ecj = omega arith
  coming_kept on n stage Vif = omega arith

  file_kept : place ≤ next → (t : FileState) → file_left plan next t ≤ file_left plan place t
  file_kept on t = by_found (is_found plan plan.command t.server t.kind)
    where
      by_found : (b : Bool) → (if b then going_left t.stage else coming_left plan next t.length t.stage t.kind) ≤ (if b then going_left t.stage else coming_left plan place t.length t.stage t.kind)
      by_found true = omega arith
      by_found false = coming_kept on t.length t.stage t.kind

  coming_grown : (n m : ℕ) (stage : Stage) → is_behind stage ≡ true → (kind : Kind) → Comes plan place next n m kind → coming_left plan next m Writing kind ≤ coming_left plan place n stage kind
  coming_grown n m stage behind Dat comes = written_grown (pieces_left plan next m Dat) (pieces_left plan place n Dat) stage behind comes.few
  coming_grown n m stage behind Idx comes = written_grown (pieces_left plan next m Idx) (pieces_left plan place n Idx) stage behind comes.few
  coming_grown n m stage behind Cpd comes = written_grown (pieces_left plan next m Cpd) (pieces_left plan place n Cpd) stage behind comes.few
  coming_grown n m stage behind Cpx comes = written_grown (pieces_left plan next m Cpx) (pieces_left plan place n Cpx) stage behind comes.few
  coming_grown n m stage behind (Shard i) comes = written_grown (pieces_left plan next m (Shard i)) (pieces_left plan place n (Shard i)) stage behind comes.few
  coming_grown n m stage behind Ecx comes = written_grown (pieces_left plan next m Ecx) (pieces_left plan place n Ecx) stage behind comes.few
  coming_grown n m stage behind Ecj comes = written_grown (pieces_left plan next m Ecj) (pieces_left plan place n Ecj) stage behind comes.few
  coming_grown n m stage behind Vif comes = text_grown stage behind

  file_grown : (t : FileState) (c : ℕ) → is_behind t.stage ≡ true → Comes plan place next t.length (t.length + c) t.kind → file_left plan next (grown_by c t) ≤ file_left plan place t
  file_grown t c behind comes = by_found (is_found plan plan.command t.server t.kind)
    where
      by_found : (b : Bool) → (if b then going_left Writing else coming_left plan next (t.length + c) Writing t.kind) ≤ (if b then going_left t.stage else coming_left plan place t.length t.stage t.kind)
      by_found true = going_grown t.stage behind
      by_found false = coming_grown t.length (t.length + c) t.stage behind t.kind comes

  coming_less : (n m : ℕ) (stage : Stage) (kind : Kind) → kind ≢ Vif → IsBegun stage (is_whole plan place n kind) → Comes plan place next n m kind → coming_left plan next m Writing kind < coming_left plan place n stage kind
  coming_less n m stage Dat other begun comes = written_less (pieces_left plan next m Dat) (pieces_left plan place n Dat) (is_whole plan place n Dat) stage begun comes.few comes.fewer
  coming_less n m stage Idx other begun comes = written_less (pieces_left plan next m Idx) (pieces_left plan place n Idx) (is_whole plan place n Idx) stage begun comes.few comes.fewer
  coming_less n m stage Cpd other begun comes = written_less (pieces_left plan next m Cpd) (pieces_left plan place n Cpd) (is_whole plan place n Cpd) stage begun comes.few comes.fewer
  coming_less n m stage Cpx other begun comes = written_less (pieces_left plan next m Cpx) (pieces_left plan place n Cpx) (is_whole plan place n Cpx) stage begun comes.few comes.fewer
  coming_less n m stage (Shard i) other begun comes = written_less (pieces_left plan next m (Shard i)) (pieces_left plan place n (Shard i)) (is_whole plan place n (Shard i)) stage begun comes.few comes.fewer
  coming_less n m stage Ecx other begun comes = written_less (pieces_left plan next m Ecx) (pieces_left plan place n Ecx) (is_whole plan place n Ecx) stage begun comes.few comes.fewer
  coming_less n m stage Ecj other begun comes = written_less (pieces_left plan next m Ecj) (pieces_left plan place n Ecj) (is_whole plan place n Ecj) stage begun comes.few comes.fewer
  coming_less n m stage Vif other begun comes = absurd (other refl)

  file_less : (t : FileState) (c : ℕ) → IsNew plan t.server t.kind → t.kind ≢ Vif → IsBegun t.stage (is_whole plan place t.length t.kind) → Comes plan place next t.length (t.length + c) t.kind
      → file_left plan next (grown_by c t) < file_left plan place t
  file_less t c new other begun comes = subst (λ b. (if b then going_left Writing else coming_left plan next (t.length + c) Writing t.kind) < (if b then going_left t.stage else coming_left plan place t.length t.stage t.kind)) (sym new)
      (coming_less t.length (t.length + c) t.stage t.kind other begun comes)

-- ---- the list of an encode

-- has no index of a plain volume but the one that was found
module _ (plan : Plan) (server : ℕ) where
  abbrev servers : List ℕ
  servers = filter (is_target plan) all_servers

  abbrev texts : Names
  texts = map (λ (s : ℕ). (s, Vif)) servers

  abbrev indexes : Names
  indexes = map (λ (s : ℕ). (s, Ecx)) servers

  abbrev shards : Names
  shards = shard_names plan.targets.items

  abbrev ends : Names
  ends = (plan.home, Idx) ∷ (plan.home, Dat) ∷ []

  encode_index : (ratio : Ratio) → plan.command ≡ Encode ratio → (k : ℕ) → slice_get (list_of plan) k ≡ Some (server, Idx) → IsFound plan server Idx
  encode_index ratio encode k at =
      by_front (has_either texts (indexes ++ (shards ++ ends)) (server, Idx) (subst (λ names. Has names (server, Idx)) (ap (list_by plan) encode) (at_has (list_of plan) k (server, Idx) at)))
    where
      by_end : Has ends (server, Idx) → IsFound plan server Idx
      by_end (inl same) = encode_finds plan server Idx (ap is_encode encode) ∙ eq-eqb plan.home server (ap (λ (p : ℕ × Kind). p.0) same)
      by_end (inr (inl same)) = let clash : ◌≡◌ {A = Kind} Dat Idx = ap (λ (p : ℕ × Kind). p.1) same in cc
      by_end (inr (inr none)) = absurd none

      by_shard : Has shards (server, Idx) ⊎ Has ends (server, Idx) → IsFound plan server Idx
      by_shard (inl has) =
          let found = map_has (λ (p : ℕ × ℕ). (p.1, Shard p.0)) plan.targets.items (server, Idx) has in
          let clash : ◌≡◌ {A = Kind} (Shard found.0.0) Idx = ap (λ (p : ℕ × Kind). p.1) found.2 in
          cc
      by_shard (inr has) = by_end has

      by_index : Has indexes (server, Idx) ⊎ Has (shards ++ ends) (server, Idx) → IsFound plan server Idx
      by_index (inl has) = let found = map_has (λ (s : ℕ). (s, Ecx)) servers (server, Idx) has in let clash : ◌≡◌ {A = Kind} Ecx Idx = ap (λ (p : ℕ × Kind). p.1) found.2 in cc
      by_index (inr has) = by_shard (has_either shards ends (server, Idx) has)

      by_front : Has texts (server, Idx) ⊎ Has (indexes ++ (shards ++ ends)) (server, Idx) → IsFound plan server Idx
      by_front (inl has) = let found = map_has (λ (s : ℕ). (s, Vif)) servers (server, Idx) has in let clash : ◌≡◌ {A = Kind} Vif Idx = ap (λ (p : ℕ × Kind). p.1) found.2 in cc
      by_front (inr has) = by_index (has_either indexes (shards ++ ends) (server, Idx) has)

-- ---- what is known of a progress

-- The plan's list has come to this place, and no file is too long.
pub record IsCounted (plan : Plan) (states : List FileState) (place : ℕ) : Type 0 where
  pub sized : IsSized plan
  pub listed : names_of states ≡ list_of plan
  pub apart : AreStates states
  pub reached : (j : ℕ) × IsReached plan states j
  pub short : AreShort plan states place

same_number : (n : ℕ) → (n == n) ≡ true
same_number n = eq-eqb n n refl

module _ (plan : Plan) (states : List FileState) (place : ℕ) (is : IsCounted plan states place) where
  -- after this step fewer are left
  abbrev Lowers : Step → Type 0
  Lowers step = (taken next : ℕ) → PlaceAfter plan place next step → sum_by (file_left plan next) (map (after plan place taken step) states) < left_of plan states place

  named : (k : ℕ) (u : FileState) → slice_get states k ≡ Some u → slice_get (list_of plan) k ≡ Some (u.server, u.kind)
  named k u at = ap (λ names. slice_get names k) (sym is.listed) ∙ name_at (λ (s : FileState). (s.server, s.kind)) states k u at

  module _ (k : ℕ) (s : FileState) (at : slice_get states k ≡ Some s) where
    -- ---- a file is finished, or goes

    staged_lowers : (step : FileState → FileState) (server : ℕ) (kind : Kind) → s.server ≡ server → s.kind ≡ kind → file_left plan place (step s) < file_left plan place s
        → (next : ℕ) → next ≡ place → sum_by (file_left plan next) (map (λ t. if is_file server kind t then step t else t) states) < left_of plan states place
    staged_lowers step server kind a b less next same =
        subst (λ p. sum_by (file_left plan p) (map (λ t. if is_file server kind t then step t else t) states) < left_of plan states place) (sym same)
        (sum_lowered (file_left plan place) (file_left plan place) (λ t. if is_file server kind t then step t else t) states each k s at
        (subst (λ c. file_left plan place (if c then step s else s) < file_left plan place s) (sym (is_this server kind s a b)) less))
      where
        each : (m : ℕ) (t : FileState) → slice_get states m ≡ Some t → file_left plan place (if is_file server kind t then step t else t) ≤ file_left plan place t
        each m t there = by_test (is_file server kind t) refl
          where
            by_test : (c : Bool) → is_file server kind t ≡ c → file_left plan place (if c then step t else t) ≤ file_left plan place t
            by_test true this =
                let both = file_is server kind t this in
                let one = is.apart.apart m k t s there at (both.0 ∙ sym a) (both.1 ∙ sym b) in
                let same : s ≡ t = some_is s t (sym at ∙ ap (slice_get states) (sym one) ∙ there) in
                subst (λ (u : FileState). file_left plan place (step u) ≤ file_left plan place u) same (omega (arith, less))
            by_test false other = omega arith

    -- ---- pieces

    piece_lowers : (step : Step) (taken next : ℕ) → place ≤ next → Advances plan is.sized place next taken step → IsNew plan s.server s.kind → s.kind ≢ Vif
        → is_behind s.stage ≡ true → IsBegun s.stage (is_whole plan place s.length s.kind) → goes_on plan place step s ≡ true
        → sum_by (file_left plan next) (map (appended plan place taken step) states) < left_of plan states place
    piece_lowers step taken next on advances new other behind begun goes =
        sum_lowered (file_left plan place) (file_left plan next) (appended plan place taken step) states each k s at
        (subst (λ c. file_left plan next (if c then grown_by (piece_length plan taken s.length step) s else s) < file_left plan place s) (sym (and_from (is_behind s.stage) (goes_on plan place step s) behind goes))
        (file_less plan place next s (piece_length plan taken s.length step) new other begun (advances s (is.short.lengths k s at behind) goes)))
      where
        each : (m : ℕ) (t : FileState) → slice_get states m ≡ Some t → file_left plan next (appended plan place taken step t) ≤ file_left plan place t
        each m t there = by_test (goes_on_behind plan place step t) refl
          where
            by_test : (c : Bool) → goes_on_behind plan place step t ≡ c → file_left plan next (if c then grown_by (piece_length plan taken t.length step) t else t) ≤ file_left plan place t
            by_test true this =
                let both = and_parts (is_behind t.stage) (goes_on plan place step t) this in
                file_grown plan place next t (piece_length plan taken t.length step) both.0 (advances t (is.short.lengths m t there both.0) both.1)
            by_test false idle = file_kept plan place next on t

    -- it is a file of the plan
    module _ (new : IsNew plan s.server s.kind) where
      as_new : (u : FileState) → u.server ≡ s.server → u.kind ≡ s.kind → file_left plan place u ≡ coming_left plan place u.length u.stage u.kind
      as_new u a b = ap (λ c. if c then going_left u.stage else coming_left plan place u.length u.stage u.kind) (subst (λ (p : ℕ × Kind). IsNew plan p.0 p.1) (λ i. (sym a i, sym b i)) new)

      -- one that isn't finished
      unfinished : is_finished plan s ≡ false → IsUnfinished s.stage
      unfinished waits = by_place (cases_lt k is.reached.0)
        where
          by_place : (k < is.reached.0) ⊎ (is.reached.0 ≤ k) → IsUnfinished s.stage
          by_place (inl before) = absurd (false≢true (sym waits ∙ ap (λ b. is_last_stage b s.stage) new ∙ ap (is_last_stage false) (is.reached.1.written k s at before new)))
          by_place (inr behind) = is.reached.1.waiting k s at behind new

      -- it is synced, and gets its name
      module _ (step : FileState → FileState) (server : (step s).server ≡ s.server) (kind : (step s).kind ≡ s.kind) where
        stage_less : coming_left plan place (step s).length (step s).stage (step s).kind < coming_left plan place s.length s.stage s.kind → file_left plan place (step s) < file_left plan place s
        stage_less less = omega (arith, as_new (step s) server kind, as_new s refl refl, less)

      -- a file that is written whole is synced; what a vacuum makes, which no list has, at once
      sync_lowers : (kind : Kind) → s.kind ≡ kind → coming_left plan place s.length Synced kind < coming_left plan place s.length s.stage kind → Lowers (Sync s.server kind)
      sync_lowers kind e less taken next same =
          staged_lowers (at_stage Synced) s.server kind refl e (stage_less (at_stage Synced) refl refl (subst (λ c. coming_left plan place s.length Synced c < coming_left plan place s.length s.stage c) (sym e) less)) next same

      synced_less : (kind : Kind) → kind ≢ Vif → (stage : Stage) → is_behind stage ≡ true → coming_left plan place s.length Synced kind < coming_left plan place s.length stage kind
      synced_less kind other stage is_behind_it = by_kind kind other
        where
          written : (pieces : ℕ) (stage : Stage) → is_behind stage ≡ true → written_left pieces Synced < written_left pieces stage
          written pieces Absent e = omega arith
          written pieces Writing e = omega arith
          written pieces Synced e = absurd (false≢true e)
          written pieces Registered e = absurd (false≢true e)
          written pieces Gone e = absurd (false≢true e)

          by_kind : (kind : Kind) → kind ≢ Vif → coming_left plan place s.length Synced kind < coming_left plan place s.length stage kind
          by_kind Dat other = written (pieces_left plan place s.length Dat) stage is_behind_it
          by_kind Idx other = written (pieces_left plan place s.length Idx) stage is_behind_it
          by_kind Cpd other = written (pieces_left plan place s.length Cpd) stage is_behind_it
          by_kind Cpx other = written (pieces_left plan place s.length Cpx) stage is_behind_it
          by_kind (Shard i) other = written (pieces_left plan place s.length (Shard i)) stage is_behind_it
          by_kind Ecx other = written (pieces_left plan place s.length Ecx) stage is_behind_it
          by_kind Ecj other = written (pieces_left plan place s.length Ecj) stage is_behind_it
          by_kind Vif other = absurd (other refl)

      module _ (behind : is_behind s.stage ≡ true) (begun : IsBegun s.stage (is_whole plan place s.length s.kind)) where
        data_lowers : s.kind ≡ Dat → Lowers (data_step plan.info s.length)
        data_lowers e = by_part (nat_lt s.length plan.info.dat_size) refl
          where
            not_text : s.kind ≢ Vif
            not_text v = let clash : ◌≡◌ {A = Kind} Dat Vif = sym e ∙ v in cc

            by_part : (b : Bool) → nat_lt s.length plan.info.dat_size ≡ b → Lowers (if b then join_step plan.info s.length else JoinDeletes ((s.length - plan.info.dat_size) / 32))
            by_part true less =
                let spot = join_here plan.info s.length in
                subst Lowers (sym spot.3) (λ taken next same. piece_lowers (JoinPiece spot.0 spot.1 spot.2) taken next (omega (arith, same)) (join_advances plan is.sized place next taken spot.0 spot.1 spot.2) new not_text behind begun
                (and_from (is_data s.kind && nat_lt s.length plan.info.dat_size) (is_join spot.0 spot.1 spot.2 (join_step plan.info s.length))
                (and_from (is_data s.kind) (nat_lt s.length plan.info.dat_size) (ap is_data e) less)
                (ap (is_join spot.0 spot.1 spot.2) spot.3
                ∙ and_from ((spot.0 == spot.0) && (spot.1 == spot.1)) (spot.2 == spot.2) (and_from (spot.0 == spot.0) (spot.1 == spot.1) (same_number spot.0) (same_number spot.1)) (same_number spot.2))))
            by_part false less = λ taken next same. piece_lowers (JoinDeletes ((s.length - plan.info.dat_size) / 32)) taken next (omega (arith, same)) (deletes_advance plan is.sized place next taken ((s.length - plan.info.dat_size) / 32)) new not_text behind begun
                (and_from (is_data s.kind) (is_behind_data plan.info.dat_size ((s.length - plan.info.dat_size) / 32) s.length) (ap is_data e)
                (ap (λ b. if b then false else ((s.length - plan.info.dat_size) / 32 == (s.length - plan.info.dat_size) / 32)) less ∙ same_number ((s.length - plan.info.dat_size) / 32)))

        index_lowers : s.kind ≡ Idx → is_encode plan.command ≡ false → Lowers (WriteEntries place)
        index_lowers e other taken next moves = by_reading (subst (WritesOn plan place next) other moves)
          where
            onward : ReadsOn (joined_length plan) place next → place ≤ next
            onward (inl end) = omega (arith, end, is.short.next)
            onward (inr on) = omega (arith, on.0)

            by_reading : ReadsOn (joined_length plan) place next → sum_by (file_left plan next) (map (after plan place taken (WriteEntries place)) states) < left_of plan states place
            by_reading reads = piece_lowers (WriteEntries place) taken next (onward reads) (read_advances plan is.sized place next taken other reads is.short.next place) new (λ v. let clash : ◌≡◌ {A = Kind} Idx Vif = sym e ∙ v in cc) behind begun
                (ap (λ b. if b then same_kind s.kind Ecx && (place == s.length / 16) else same_kind s.kind Idx && (place == place)) other
                ∙ and_from (same_kind s.kind Idx) (place == place) (same_kind-is s.kind Idx e) (same_number place))

        coded_lowers : s.kind ≡ Ecx → (c : Command) → plan.command ≡ c → Lowers (index_step plan c s.server s.length)
        coded_lowers e c command = by_command c command
          where
            not_text : s.kind ≢ Vif
            not_text v = let clash : ◌≡◌ {A = Kind} Ecx Vif = sym e ∙ v in cc

            copies : is_encode plan.command ≡ false → (from : ℕ) → Lowers (CopyPiece from s.server Ecx s.length)
            copies other from taken next same = piece_lowers (CopyPiece from s.server Ecx s.length) taken next (omega (arith, same)) (index_advances plan is.sized place next taken other from s.server s.length) new not_text behind begun
                (and_from (is_file s.server Ecx s) (s.length == s.length) (is_this s.server Ecx s refl e) (same_number s.length))

            by_command : (c : Command) → plan.command ≡ c → Lowers (index_step plan c s.server s.length)
            by_command (Encode ratio) encode = λ taken next moves.
                let same : next ≡ place = subst (WritesOn plan place next) (ap is_encode encode) moves in
                piece_lowers (WriteEntries (s.length / 16)) taken next (omega (arith, same)) (entries_advance plan is.sized place next taken ratio encode (s.length / 16)) new not_text behind begun
                (ap (λ b. if b then same_kind s.kind Ecx && (s.length / 16 == s.length / 16) else same_kind s.kind Idx && (s.length / 16 == place)) (ap is_encode encode)
                ∙ and_from (same_kind s.kind Ecx) (s.length / 16 == s.length / 16) (same_kind-is s.kind Ecx e) (same_number (s.length / 16)))
            by_command Rebuild other = copies (ap is_encode other) (first_holder plan.places.items plan.home)
            by_command Balance other = copies (ap is_encode other) (first_holder plan.places.items plan.home)
            by_command Decode other = copies (ap is_encode other) (first_holder plan.places.items plan.home)

        journal_lowers : s.kind ≡ Ecj → Lowers (PutJournal s.server (s.length / 16))
        journal_lowers e taken next same = piece_lowers (PutJournal s.server (s.length / 16)) taken next (omega (arith, same)) (journal_advances plan is.sized place next taken s.server (s.length / 16)) new
            (λ v. let clash : ◌≡◌ {A = Kind} Ecj Vif = sym e ∙ v in cc) behind begun
            (and_from (is_file s.server Ecj s) (s.length / 16 == s.length / 16) (is_this s.server Ecj s refl e) (same_number (s.length / 16)))

        module _ (i : ℕ) (e : s.kind ≡ Shard i) where
          no_text : s.kind ≢ Vif
          no_text v = let clash : ◌≡◌ {A = Kind} (Shard i) Vif = sym e ∙ v in cc

          mend_lowers : is_encode plan.command ≡ false → Lowers (mend_step plan i s.server s.length)
          mend_lowers other = by_made (is_made plan i s.server) refl
            where
              by_made : (b : Bool) → is_made plan i s.server ≡ b → Lowers (if b then MendPiece s.length else CopyPiece (shard_source plan i s.server) s.server (Shard i) s.length)
              by_made true made = λ taken next same. piece_lowers (MendPiece s.length) taken next (omega (arith, same)) (mend_advances plan is.sized place next taken other s.length) new no_text behind begun
                  (and_from (is_made_kind plan s.server s.kind) (s.length == s.length) (ap (is_made_kind plan s.server) e ∙ made) (same_number s.length))
              by_made false made = λ taken next same. piece_lowers (CopyPiece (shard_source plan i s.server) s.server (Shard i) s.length) taken next (omega (arith, same))
                  (copy_advances plan is.sized place next taken other (shard_source plan i s.server) s.server i s.length) new no_text behind begun
                  (and_from (is_file s.server (Shard i) s) (s.length == s.length) (is_this s.server (Shard i) s refl e) (same_number s.length))

          make_lowers : (ratio : Ratio) → plan.command ≡ Encode ratio → Lowers (make_step plan.info s.length)
          make_lowers ratio encode =
              let spot = make_here plan.info s.length in
              subst Lowers (sym spot.2) (λ taken next same. piece_lowers (MakePiece spot.0 spot.1) taken next (omega (arith, same)) (make_advances plan is.sized place next taken ratio encode spot.0 spot.1) new no_text behind begun
              (and_from (is_shard s.kind) (is_make spot.0 spot.1 (make_step plan.info s.length)) (ap is_shard e)
              (ap (is_make spot.0 spot.1) spot.2 ∙ and_from (spot.0 == spot.0) (spot.1 == spot.1) (same_number spot.0) (same_number spot.1))))

          shard_lowers : (c : Command) → plan.command ≡ c → Lowers (shard_step plan c i s.server s.length)
          shard_lowers (Encode ratio) encode = make_lowers ratio encode
          shard_lowers Rebuild other = mend_lowers (ap is_encode other)
          shard_lowers Balance other = mend_lowers (ap is_encode other)
          shard_lowers Decode other = mend_lowers (ap is_encode other)

        text_lowers : s.kind ≡ Vif → Lowers (PutInfo s.server)
        text_lowers e taken next same =
            staged_lowers (put_whole (length (info_text plan.info))) s.server Vif refl e
            (stage_less (put_whole (length (info_text plan.info))) refl refl (subst (λ c. coming_left plan place (length (info_text plan.info)) Registered c < coming_left plan place s.length s.stage c) (sym e) (by_stage s.stage behind))) next same
          where
            by_stage : (stage : Stage) → is_behind stage ≡ true → text_left Registered < text_left stage
            by_stage Absent e = omega arith
            by_stage Writing e = omega arith
            by_stage Synced e = absurd (false≢true e)
            by_stage Registered e = absurd (false≢true e)
            by_stage Gone e = absurd (false≢true e)

        piece : (kind : Kind) → s.kind ≡ kind → Lowers (piece_step plan place s.server s.length kind)
        piece Dat e = data_lowers e
        piece Idx e = by_command plan.command refl
          where
            by_command : (c : Command) → plan.command ≡ c → Lowers (WriteEntries place)
            by_command (Encode ratio) encode = absurd (false≢true (sym (subst (λ c. is_found plan plan.command s.server c ≡ false) e new) ∙ encode_index plan s.server ratio encode k (named k s at ∙ (λ j. Some (s.server, e j)))))
            by_command Rebuild other = index_lowers e (ap is_encode other)
            by_command Balance other = index_lowers e (ap is_encode other)
            by_command Decode other = index_lowers e (ap is_encode other)
        piece Cpd e = sync_lowers Cpd e (synced_less Cpd (λ v. cc) s.stage behind)
        piece Cpx e = sync_lowers Cpx e (synced_less Cpx (λ v. cc) s.stage behind)
        piece (Shard i) e = shard_lowers i e plan.command refl
        piece Ecx e = coded_lowers e plan.command refl
        piece Ecj e = journal_lowers e
        piece Vif e = text_lowers e

      registered_less : (kind : Kind) → coming_left plan place s.length Registered kind < coming_left plan place s.length Synced kind
      registered_less Dat = omega arith
      registered_less Idx = omega arith
      registered_less Cpd = omega arith
      registered_less Cpx = omega arith
      registered_less (Shard i) = omega arith
      registered_less Ecx = omega arith
      registered_less Ecj = omega arith
      registered_less Vif = omega arith

      -- a text is never whole
      whole_text : (kind : Kind) → is_whole plan place s.length kind ≡ true → kind ≢ Vif
      whole_text Dat e v = cc
      whole_text Idx e v = cc
      whole_text Cpd e v = cc
      whole_text Cpx e v = cc
      whole_text (Shard i) e v = cc
      whole_text Ecx e v = cc
      whole_text Ecj e v = cc
      whole_text Vif e v = false≢true e

      comes : (stage : Stage) → s.stage ≡ stage → IsUnfinished stage → Lowers (coming_step plan place s stage)
      comes Absent e open_still = piece (ap is_behind e) (subst (λ x. IsBegun x (is_whole plan place s.length s.kind)) (sym e) tt) s.kind refl
      comes Writing e open_still = by_whole (is_whole plan place s.length s.kind) refl
        where
          by_whole : (b : Bool) → is_whole plan place s.length s.kind ≡ b → Lowers (if b then Sync s.server s.kind else piece_step plan place s.server s.length s.kind)
          by_whole true whole = sync_lowers s.kind refl (synced_less s.kind (whole_text s.kind whole) s.stage (ap is_behind e))
          by_whole false open_yet = piece (ap is_behind e) (subst (λ x. IsBegun x (is_whole plan place s.length s.kind)) (sym e) open_yet) s.kind refl
      comes Synced e open_still = λ taken next same. staged_lowers (at_stage Registered) s.server s.kind refl refl
          (stage_less (at_stage Registered) refl refl (subst (λ x. coming_left plan place s.length Registered s.kind < coming_left plan place s.length x s.kind) (sym e) (registered_less s.kind))) next same
      comes Registered e open_still = absurd open_still
      comes Gone e open_still = absurd open_still

    -- a file that was found goes
    goes : IsFound plan s.server s.kind → is_finished plan s ≡ false → (kind : Kind) → s.kind ≡ kind → Lowers (going_step s.server kind)
    goes found waits kind e = by_kind kind e
      where
        by_stage : (stage : Stage) → is_last_stage true stage ≡ false → going_left Gone < going_left stage
        by_stage Absent is = omega arith
        by_stage Writing is = omega arith
        by_stage Synced is = omega arith
        by_stage Registered is = omega arith
        by_stage Gone is = absurd (false≢true (sym is))

        less : file_left plan place (at_stage Gone s) < file_left plan place s
        less = subst (λ b. (if b then going_left Gone else coming_left plan place s.length Gone s.kind) < (if b then going_left s.stage else coming_left plan place s.length s.stage s.kind)) (sym found)
            (by_stage s.stage (ap (λ b. is_last_stage b s.stage) (sym found) ∙ waits))

        by_kind : (c : Kind) → s.kind ≡ c → Lowers (going_step s.server c)
        by_kind Dat e taken next same = staged_lowers (at_stage Gone) s.server Dat refl e less next same
        by_kind Idx e taken next same = staged_lowers (at_stage Gone) s.server Idx refl e less next same
        by_kind Cpd e taken next same = staged_lowers (at_stage Gone) s.server Cpd refl e less next same
        by_kind Cpx e taken next same = staged_lowers (at_stage Gone) s.server Cpx refl e less next same
        by_kind (Shard i) e taken next same = staged_lowers (at_stage Gone) s.server (Shard i) refl e less next same
        by_kind Ecx e taken next same = staged_lowers (at_stage Gone) s.server Ecx refl e less next same
        by_kind Ecj e taken next same = staged_lowers (at_stage Gone) s.server Ecj refl e less next same
        by_kind Vif e taken next same = staged_lowers (at_stage Gone) s.server Vif refl e less next same

    itself : is_finished plan s ≡ false → Lowers (file_step plan place s)
    itself waits = by_found (by_bool (is_found plan plan.command s.server s.kind))
      where
        by_found : IsFound plan s.server s.kind ⊎ IsNew plan s.server s.kind → Lowers (file_step plan place s)
        by_found (inl found) = subst Lowers (ap (λ b. if b then going_step s.server s.kind else coming_step plan place s s.stage) (sym found)) (goes found waits s.kind refl)
        by_found (inr new) = subst Lowers (ap (λ b. if b then going_step s.server s.kind else coming_step plan place s s.stage) (sym new)) (comes new s.stage refl (unfinished new waits))

  -- a file that isn't synced isn't finished
  behind_waits : (u : FileState) → is_behind u.stage ≡ true → is_finished plan u ≡ false
  behind_waits u behind = by_stage (is_found plan plan.command u.server u.kind) u.stage behind
    where
      by_stage : (b : Bool) (stage : Stage) → is_behind stage ≡ true → is_last_stage b stage ≡ false
      by_stage b Absent e = refl
      by_stage b Writing e = refl
      by_stage b Synced e = absurd (false≢true e)
      by_stage b Registered e = absurd (false≢true e)
      by_stage b Gone e = absurd (false≢true e)

  turn_lowers : (k : ℕ) (s : FileState) → slice_get states k ≡ Some s → is_finished plan s ≡ false → Lowers (file_step plan place (turn_of states s))
  turn_lowers k s at waits = by_turn (is_data s.kind && is_synced s.stage)
    where
      by_index : (m : ℕ) (u : FileState) → slice_get states m ≡ Some u → Lowers (file_step plan place (if is_behind u.stage then u else s))
      by_index m u there = by_behind (is_behind u.stage) refl
        where
          by_behind : (c : Bool) → is_behind u.stage ≡ c → Lowers (file_step plan place (if c then u else s))
          by_behind true behind = itself m u there (behind_waits u behind)
          by_behind false other = itself k s at waits

      by_turn : (b : Bool) → Lowers (file_step plan place (if b then if_behind (file_at states (position_of s.server Idx states)) s else s))
      by_turn false = itself k s at waits
      by_turn true = ⊎_elim
          (λ found. subst (λ o. Lowers (file_step plan place (if_behind o s))) (sym (ap (file_at states) found.2 ∙ found.3)) (by_index found.0 found.1 found.3))
          (λ none. subst (λ o. Lowers (file_step plan place (if_behind (file_at states o) s))) (sym none.0) (itself k s at waits))
          (place_cases (is_file s.server Idx) states)

  not_finished : (b : Bool) → not b ≡ true → b ≡ false
  not_finished true e = absurd (false≢true e)
  not_finished false e = refl

  next_lowers : (step : Step) → next_step plan states place ≡ Some step → Lowers step
  next_lowers step e = ⊎_elim
      (λ found.
      let same : file_step plan place (turn_of states found.1) ≡ step =
      some_is (file_step plan place (turn_of states found.1)) step (sym (ap (λ o. step_at plan states place (file_at states o)) found.2 ∙ ap (step_at plan states place) found.3) ∙ e) in
      subst Lowers same (turn_lowers found.0 found.1 found.3 (not_finished (is_finished plan found.1) found.4)))
      (λ none. absurd (none_some (sym (ap (λ o. step_at plan states place (file_at states o)) none.0) ∙ e)))
      (place_cases (is_open plan) states)

-- After each step fewer are left.
pub left_falls : (plan : Plan) (states onward : List FileState) (place next : ℕ) (step : Step) → IsCounted plan states place → next_step plan states place ≡ Some step → IsAfter plan step states place onward next → left_of plan onward next < left_of plan states place
left_falls plan states onward place next step is e stepped = subst (λ xs. left_of plan xs next < left_of plan states place) (sym stepped.files) (next_lowers plan states place is step e stepped.taken next stepped.moves)
