-- What is known of the file of the step that is next, and that each step leaves a progress within its bounds.
-- For `run_step` of the running plans of `plan_run`, to come.
use Rattle.std.proofs.Common.{◌≡◌, ◌≢◌, ◌⊎◌, inl, inr, ⊎_elim, ℕ, ◌-◌, ◌/◌, ◌<◌, Bool, true, false, List, length, Some, refl, sym, ◌∙◌, ap, subst, arith}
use Rattle.std.specs.Prelude.{◌&&◌, ◌==◌, nat_lt, if◌then◌else◌, slice_get}
use Rattle.std.specs.Coded.{Coded-set, coded_ℕ, le_prop, Unit-prop}
use Rattle.std.proofs.lemmas.Bool.{and_parts, and_from, eq-eqb, false≢true}
use Rattle.image_meaning.specs.Laws.Options.{none_some, some_is}
use Rattle.world_model.specs.declared.types.Command.{Command}
use Rattle.world_model.specs.declared.types.Command.TheVariants.{Encode, Rebuild, Balance, Decode}
use Rattle.file_names.specs.declared.Kind.{Kind}
use Rattle.file_names.specs.declared.Kind.TheVariants.{Dat, Idx, Cpd, Cpx, Shard, Ecx, Ecj, Vif}
use Rattle.stripe_layout.specs.Information.{info_text}
use Rattle.shard_table.specs.Table.{Row}
use Rattle.plan_steps.specs.declared.plan.Plan.{Plan}
use Rattle.plan_steps.specs.declared.plan.Stage.{Stage}
use Rattle.plan_steps.specs.declared.plan.Stage.TheVariants.{Absent, Writing, Synced, Registered, Gone}
use Rattle.plan_steps.specs.declared.plan.FileState.{FileState}
use Rattle.plan_steps.specs.declared.step.Step.{Step}
use Rattle.plan_steps.specs.declared.step.Step.TheVariants.{PutInfo, WriteEntries, PutJournal, MakePiece, MendPiece, JoinPiece, JoinDeletes, CopyPiece, Sync, Register, Unregister, DropIndex, DropData}
use Rattle.plan_steps.specs.Planned.{is_encode, is_found}
use Rattle.plan_steps.specs.Legal.{IsFound, IsNew}
use Rattle.plan_steps.specs.Laws.Legal.{by_bool}
use Rattle.plan_steps.specs.Order.{IsUnfinished, IsReached, WaitsToRegister}
use Rattle.plan_steps.specs.Laws.Order.{name_at, named_at}
use Rattle.plan_steps.specs.Lists.{list_of}
use Rattle.plan_steps.specs.Plans.{IsPlan}
use Rattle.plan_steps.specs.Laws.List.{list_waits}
use Rattle.plan_steps.specs.Walk.{same_kind, is_file, is_open, position_of}
use Rattle.plan_steps.specs.Laws.Walk.{place_cases, file_is, is_this, same_kind-is}
use Rattle.plan_steps.specs.Next.{make_step, join_step, data_step, is_made, mend_step, shard_step, shard_source, index_step, piece_step, is_whole, going_step, coming_step, file_step, file_at, is_behind, is_synced, is_data, if_behind, turn_of, step_at, next_step}
use Rattle.plan_steps.specs.Legality.{is_make, is_join, is_shard, is_made_kind, is_behind_data, goes_on, goes_on_behind}
use Rattle.plan_steps.specs.LegalNext.{make_here, join_here, reached_first}
use Rattle.plan_steps.specs.After.{piece_length, grown_by, at_stage, put_whole, appended, after, IsAfter, IsShort, AreShort, IsInUnits, AreInUnits}
use Rattle.plan_steps.specs.Laws.Advances.{data_kind, shard_kind, made_kind, file_kind}
use Rattle.plan_steps.specs.Left.{left_of}
use Rattle.plan_steps.specs.Laws.Next.{plan_sized}
use Rattle.plan_steps.specs.Laws.Falls.{left_falls}
use Rattle.plan_steps.specs.Laws.Short.{short_on, short_first}
use Rattle.plan_steps.specs.Beginning.{first_stage, first_state, first_states}
use Rattle.plan_steps.specs.Laws.Within.{state_within}
use Rattle.plan_steps.specs.AsTold.{IsPlannedKind}
use Rattle.plan_steps.specs.Progressing.{Running, IsOnItsWay}
use Rattle.plan_steps.specs.Stepping.{AreTextsWhole, IsInBounds, HasTurn, HasPiece, CopiesNoText, IsDue}

same_number : (n : ℕ) → (n == n) ≡ true
same_number n = eq-eqb n n refl

-- ---- the file of the next step

module _ (r : Running) (row : Row) (servers : ℕ) (is : IsPlan r.plan servers) (way : IsOnItsWay r row) (texts : AreTextsWhole r.states) where
  abbrev plan : Plan
  plan = r.plan

  abbrev states : List FileState
  states = r.states

  abbrev Due : Step → Type 0
  Due step = IsDue r step

  module _ (k : ℕ) (u : FileState) (at : slice_get states k ≡ Some u) where
    planned : IsPlannedKind plan u.kind
    planned = (state_within plan servers is states way.listed k u at).1

    waits : IsNew plan u.server u.kind → WaitsToRegister plan (list_of plan) k u.server u.kind
    waits new = list_waits plan servers is k u.server u.kind (ap (λ names. slice_get names k) (sym way.listed) ∙ name_at (λ (s : FileState). (s.server, s.kind)) states k u at) new

    -- ---- pieces

    module _ (new : IsNew plan u.server u.kind) (behind : is_behind u.stage ≡ true) where
      piece_of : (step : Step) → goes_on plan r.place step u ≡ true → HasPiece r step
      piece_of step goes = record { at = k; file = u; there = at; new = new; behind = behind; goes = goes }

      data_piece : u.kind ≡ Dat → Due (data_step plan.info u.length)
      data_piece e = by_part (nat_lt u.length plan.info.dat_size) refl
        where
          by_part : (b : Bool) → nat_lt u.length plan.info.dat_size ≡ b → Due (if b then join_step plan.info u.length else JoinDeletes ((u.length - plan.info.dat_size) / 32))
          by_part true less =
              let spot = join_here plan.info u.length in
              subst Due (sym spot.3) (piece_of (JoinPiece spot.0 spot.1 spot.2)
              (and_from (is_data u.kind && nat_lt u.length plan.info.dat_size) (is_join spot.0 spot.1 spot.2 (join_step plan.info u.length))
              (and_from (is_data u.kind) (nat_lt u.length plan.info.dat_size) (ap is_data e) less)
              (ap (is_join spot.0 spot.1 spot.2) spot.3
              ∙ and_from ((spot.0 == spot.0) && (spot.1 == spot.1)) (spot.2 == spot.2) (and_from (spot.0 == spot.0) (spot.1 == spot.1) (same_number spot.0) (same_number spot.1)) (same_number spot.2))))
          by_part false less = piece_of (JoinDeletes ((u.length - plan.info.dat_size) / 32))
              (and_from (is_data u.kind) (is_behind_data plan.info.dat_size ((u.length - plan.info.dat_size) / 32) u.length) (ap is_data e)
              (ap (λ b. if b then false else ((u.length - plan.info.dat_size) / 32 == (u.length - plan.info.dat_size) / 32)) less ∙ same_number ((u.length - plan.info.dat_size) / 32)))

      index_piece : u.kind ≡ Idx → is_encode plan.command ≡ false → HasPiece r (WriteEntries r.place)
      index_piece e decode = piece_of (WriteEntries r.place)
          (ap (λ b. if b then same_kind u.kind Ecx && (r.place == u.length / 16) else same_kind u.kind Idx && (r.place == r.place)) decode
          ∙ and_from (same_kind u.kind Idx) (r.place == r.place) (same_kind-is u.kind Idx e) (same_number r.place))

      copy_piece : (from : ℕ) (kind : Kind) → u.kind ≡ kind → HasPiece r (CopyPiece from u.server kind u.length)
      copy_piece from kind e = piece_of (CopyPiece from u.server kind u.length) (and_from (is_file u.server kind u) (u.length == u.length) (is_this u.server kind u refl e) (same_number u.length))

      coded_piece : u.kind ≡ Ecx → (c : Command) → plan.command ≡ c → Due (index_step plan c u.server u.length)
      coded_piece e (Encode ratio) encode = piece_of (WriteEntries (u.length / 16))
          (ap (λ b. if b then same_kind u.kind Ecx && (u.length / 16 == u.length / 16) else same_kind u.kind Idx && (u.length / 16 == r.place)) (ap is_encode encode)
          ∙ and_from (same_kind u.kind Ecx) (u.length / 16 == u.length / 16) (same_kind-is u.kind Ecx e) (same_number (u.length / 16)))
      coded_piece e Rebuild other = (copy_piece _ Ecx e, λ v. cc)
      coded_piece e Balance other = (copy_piece _ Ecx e, λ v. cc)
      coded_piece e Decode other = (copy_piece _ Ecx e, λ v. cc)

      journal_piece : u.kind ≡ Ecj → Due (PutJournal u.server (u.length / 16))
      journal_piece e = piece_of (PutJournal u.server (u.length / 16)) (and_from (is_file u.server Ecj u) (u.length / 16 == u.length / 16) (is_this u.server Ecj u refl e) (same_number (u.length / 16)))

      mend_piece : (i : ℕ) → u.kind ≡ Shard i → Due (mend_step plan i u.server u.length)
      mend_piece i e = by_made (is_made plan i u.server) refl
        where
          by_made : (b : Bool) → is_made plan i u.server ≡ b → Due (if b then MendPiece u.length else CopyPiece (shard_source plan i u.server) u.server (Shard i) u.length)
          by_made true made = piece_of (MendPiece u.length) (and_from (is_made_kind plan u.server u.kind) (u.length == u.length) (ap (is_made_kind plan u.server) e ∙ made) (same_number u.length))
          by_made false made = (copy_piece (shard_source plan i u.server) (Shard i) e, λ v. cc)

      make_piece : (i : ℕ) → u.kind ≡ Shard i → Due (make_step plan.info u.length)
      make_piece i e =
          let spot = make_here plan.info u.length in
          subst Due (sym spot.2) (piece_of (MakePiece spot.0 spot.1)
          (and_from (is_shard u.kind) (is_make spot.0 spot.1 (make_step plan.info u.length)) (ap is_shard e)
          (ap (is_make spot.0 spot.1) spot.2 ∙ and_from (spot.0 == spot.0) (spot.1 == spot.1) (same_number spot.0) (same_number spot.1))))

      shard_piece : (i : ℕ) → u.kind ≡ Shard i → (c : Command) → plan.command ≡ c → Due (shard_step plan c i u.server u.length)
      shard_piece i e (Encode ratio) encode = make_piece i e
      shard_piece i e Rebuild other = mend_piece i e
      shard_piece i e Balance other = mend_piece i e
      shard_piece i e Decode other = mend_piece i e

      -- a text whose turn has come is put
      text_piece : IsReached plan states k → u.kind ≡ Vif → Due (PutInfo u.server)
      text_piece turn e = by_stage u.stage refl behind
        where
          by_stage : (stage : Stage) → u.stage ≡ stage → is_behind stage ≡ true → Due (PutInfo u.server)
          by_stage Absent is_absent _ = (
            record { at = k; file = u; there = at; server_is = refl; kind_is = e; stage_is = is_absent; turn = turn },
            subst (IsNew plan u.server) e new,
          )
          by_stage Writing writing _ = absurd (texts k u at e writing)
          by_stage Synced synced is_open = absurd (false≢true is_open)
          by_stage Registered registered is_open = absurd (false≢true is_open)
          by_stage Gone gone is_open = absurd (false≢true is_open)

      piece : IsReached plan states k → (kind : Kind) → u.kind ≡ kind → Due (piece_step plan r.place u.server u.length kind)
      piece turn Dat e = data_piece e
      piece turn Idx e = index_piece e (ap is_encode (subst (WaitsToRegister plan (list_of plan) k u.server) e (waits new)).2)
      piece turn Cpd e = absurd (subst (IsPlannedKind plan) e planned)
      piece turn Cpx e = absurd (subst (IsPlannedKind plan) e planned)
      piece turn (Shard i) e = shard_piece i e plan.command refl
      piece turn Ecx e = coded_piece e plan.command refl
      piece turn Ecj e = journal_piece e
      piece turn Vif e = text_piece turn e

    -- ---- the file itself

    complete : IsNew plan u.server u.kind → u.stage ≡ Writing → is_whole plan r.place u.length u.kind ≡ true → Due (Sync u.server u.kind)
    complete new stage whole = record { at = k; file = u; there = at; server_is = refl; kind_is = refl; new = new; stage_is = stage; whole = whole }

    comes_behind : IsNew plan u.server u.kind → (stage : Stage) → u.stage ≡ stage → is_behind stage ≡ true → Due (piece_step plan r.place u.server u.length u.kind) → Due (coming_step plan r.place u stage)
    comes_behind new Absent e behind more = more
    comes_behind new Writing e behind more = by_whole (is_whole plan r.place u.length u.kind) refl
      where
        by_whole : (b : Bool) → is_whole plan r.place u.length u.kind ≡ b → Due (if b then Sync u.server u.kind else piece_step plan r.place u.server u.length u.kind)
        by_whole true whole = complete new e whole
        by_whole false whole = more
    comes_behind new Synced e behind more = absurd (false≢true behind)
    comes_behind new Registered e behind more = absurd (false≢true behind)
    comes_behind new Gone e behind more = absurd (false≢true behind)

    module _ (turn : IsReached plan states k) where
      has_turn : (stage : Stage) → u.stage ≡ stage → (kind : Kind) → u.kind ≡ kind → HasTurn r u.server kind stage
      has_turn stage e kind c = record { at = k; file = u; there = at; server_is = refl; kind_is = c; stage_is = e; turn = turn }

      comes : IsNew plan u.server u.kind → (stage : Stage) → u.stage ≡ stage → IsUnfinished stage → Due (coming_step plan r.place u stage)
      comes new Absent e open_still = comes_behind new Absent e refl (piece new (ap is_behind e) turn u.kind refl)
      comes new Writing e open_still = comes_behind new Writing e refl (piece new (ap is_behind e) turn u.kind refl)
      comes new Synced e open_still = (has_turn Synced e u.kind refl, new)
      comes new Registered e open_still = absurd open_still
      comes new Gone e open_still = absurd open_still

      goes : IsFound plan u.server u.kind → (kind : Kind) → u.kind ≡ kind → Due (going_step u.server kind)
      goes found kind e = by_kind kind e
        where
          gone : (c : Kind) → u.kind ≡ c → HasTurn r u.server c Registered × IsFound plan u.server c
          gone c e = (has_turn Registered (turn.staying k u at (omega arith) found) c e, subst (IsFound plan u.server) e found)

          by_kind : (c : Kind) → u.kind ≡ c → Due (going_step u.server c)
          by_kind Dat e = gone Dat e
          by_kind Idx e = gone Idx e
          by_kind Cpd e = gone Cpd e
          by_kind Cpx e = gone Cpx e
          by_kind (Shard i) e = gone (Shard i) e
          by_kind Ecx e = gone Ecx e
          by_kind Ecj e = gone Ecj e
          by_kind Vif e = gone Vif e

      itself : IsFound plan u.server u.kind ⊎ IsNew plan u.server u.kind → Due (file_step plan r.place u)
      itself (inl found) = subst Due (ap (λ b. if b then going_step u.server u.kind else coming_step plan r.place u u.stage) (sym found)) (goes found u.kind refl)
      itself (inr new) = subst Due (ap (λ b. if b then going_step u.server u.kind else coming_step plan r.place u u.stage) (sym new)) (comes new u.stage refl (turn.waiting k u at (omega arith) new))

  -- ---- whose turn it is

  module _ (k : ℕ) (s : FileState) (at : slice_get states k ≡ Some s) (turn : IsReached plan states k) where
    -- the index beside a data file that waits is new
    index_turn : is_data s.kind ≡ true → is_synced s.stage ≡ true → (m : ℕ) (u : FileState) → slice_get states m ≡ Some u → u.kind ≡ Idx → is_behind u.stage ≡ true → Due (file_step plan r.place u)
    index_turn dat ready m u there e behind =
        let new : IsNew plan s.server s.kind = waiting_new (by_bool (is_found plan plan.command s.server s.kind)) in
        let none = (subst (WaitsToRegister plan (list_of plan) k s.server) (data_kind s.kind dat) (waits k s at new)).none_found u.server in
        let u_new : IsNew plan u.server u.kind = subst (IsNew plan u.server) (sym e) none in
        let decode : is_encode plan.command ≡ false = ap is_encode (subst (WaitsToRegister plan (list_of plan) m u.server) e (waits m u there u_new)).2 in
        subst Due (ap (λ b. if b then going_step u.server u.kind else coming_step plan r.place u u.stage) (sym u_new))
        (comes_behind m u there u_new u.stage refl behind (subst (λ kind. Due (piece_step plan r.place u.server u.length kind)) (sym e) (index_piece m u there u_new behind e decode)))
      where
        waiting_new : IsFound plan s.server s.kind ⊎ IsNew plan s.server s.kind → IsNew plan s.server s.kind
        waiting_new (inr new) = new
        waiting_new (inl found) = absurd (false≢true (ap is_synced (sym (turn.staying k s at (omega arith) found)) ∙ ready))

    taken : (b : Bool) → (is_data s.kind && is_synced s.stage) ≡ b → Due (file_step plan r.place (if b then if_behind (file_at states (position_of s.server Idx states)) s else s))
    taken false e = itself k s at turn (by_bool (is_found plan plan.command s.server s.kind))
    taken true e = ⊎_elim
        (λ found.
        let here = file_is s.server Idx found.1 found.4 in
        subst (λ o. Due (file_step plan r.place (if_behind o s))) (sym (ap (file_at states) found.2 ∙ found.3)) (by_index found.0 found.1 found.3 here.1))
        (λ none. subst (λ o. Due (file_step plan r.place (if_behind (file_at states o) s))) (sym none.0) (itself k s at turn (by_bool (is_found plan plan.command s.server s.kind))))
        (place_cases (is_file s.server Idx) states)
      where
        by_index : (m : ℕ) (u : FileState) → slice_get states m ≡ Some u → u.kind ≡ Idx → Due (file_step plan r.place (if is_behind u.stage then u else s))
        by_index m u there idx = by_behind (is_behind u.stage) refl
          where
            by_behind : (c : Bool) → is_behind u.stage ≡ c → Due (file_step plan r.place (if c then u else s))
            by_behind true behind = let both = and_parts (is_data s.kind) (is_synced s.stage) e in index_turn both.0 both.1 m u there idx behind
            by_behind false behind = itself k s at turn (by_bool (is_found plan plan.command s.server s.kind))

  -- The file of the next step is due.
  pub next_due : (step : Step) → next_step plan states r.place ≡ Some step → IsDue r step
  next_due step e = ⊎_elim
      (λ found.
      let turn = reached_first r row servers is way found.0 found.2 found.1 found.3 found.4 in
      let same : file_step plan r.place (turn_of states found.1) ≡ step =
      some_is (file_step plan r.place (turn_of states found.1)) step (sym (ap (λ o. step_at plan states r.place (file_at states o)) found.2 ∙ ap (step_at plan states r.place) found.3) ∙ e) in
      subst Due same (taken found.0 found.1 found.3 turn (is_data found.1.kind && is_synced found.1.stage) refl))
      (λ none. absurd (none_some (sym (ap (λ o. step_at plan states r.place (file_at states o)) none.0) ∙ e)))
      (place_cases (is_open plan) states)

-- ---- within bounds

due_copies : (r : Running) (step : Step) → IsDue r step → CopiesNoText step
due_copies r (PutInfo server) due = tt
due_copies r (WriteEntries at) due = tt
due_copies r (PutJournal server at) due = tt
due_copies r (MakePiece row at) due = tt
due_copies r (MendPiece at) due = tt
due_copies r (JoinPiece row block at) due = tt
due_copies r (JoinDeletes at) due = tt
due_copies r (CopyPiece from to kind at) due = due.1
due_copies r (Sync server kind) due = tt
due_copies r (Register server kind) due = tt
due_copies r (Unregister server kind) due = tt
due_copies r (DropIndex server) due = tt
due_copies r (DropData server) due = tt

abbrev IsTextWhole : FileState → Type 0
IsTextWhole t = t.kind ≡ Vif → t.stage ≢ Writing

module _ (plan : Plan) (place taken : ℕ) where
  -- no piece goes to a text
  not_text : (step : Step) → CopiesNoText step → (t : FileState) → goes_on plan place step t ≡ true → t.kind ≢ Vif
  not_text (PutInfo server) no_text t goes v = false≢true goes
  not_text (WriteEntries at) no_text t goes v = by_command (is_encode plan.command) goes
    where
      by_command : (b : Bool) → (if b then same_kind t.kind Ecx && (at == t.length / 16) else same_kind t.kind Idx && (at == place)) ≡ true → ⊥
      by_command true e = let clash : ◌≡◌ {A = Kind} Ecx Vif = sym (file_kind Ecx t (and_parts (same_kind t.kind Ecx) (at == t.length / 16) e).0) ∙ v in cc
      by_command false e = let clash : ◌≡◌ {A = Kind} Idx Vif = sym (file_kind Idx t (and_parts (same_kind t.kind Idx) (at == place) e).0) ∙ v in cc
  not_text (PutJournal server at) no_text t goes v =
      let clash : ◌≡◌ {A = Kind} Ecj Vif = sym (file_is server Ecj t (and_parts (is_file server Ecj t) (at == t.length / 16) goes).0).1 ∙ v in cc
  not_text (MakePiece row at) no_text t goes v =
      let shard = shard_kind t.kind (and_parts (is_shard t.kind) (is_make row at (make_step plan.info t.length)) goes).0 in
      let clash : ◌≡◌ {A = Kind} (Shard shard.0) Vif = sym shard.1 ∙ v in cc
  not_text (MendPiece at) no_text t goes v =
      let shard = made_kind plan t.server t.kind (and_parts (is_made_kind plan t.server t.kind) (at == t.length) goes).0 in
      let clash : ◌≡◌ {A = Kind} (Shard shard.0) Vif = sym shard.1 ∙ v in cc
  not_text (JoinPiece row block at) no_text t goes v =
      let first = (and_parts (is_data t.kind && nat_lt t.length plan.info.dat_size) (is_join row block at (join_step plan.info t.length)) goes).0 in
      let clash : ◌≡◌ {A = Kind} Dat Vif = sym (data_kind t.kind (and_parts (is_data t.kind) (nat_lt t.length plan.info.dat_size) first).0) ∙ v in cc
  not_text (JoinDeletes at) no_text t goes v =
      let clash : ◌≡◌ {A = Kind} Dat Vif = sym (data_kind t.kind (and_parts (is_data t.kind) (is_behind_data plan.info.dat_size at t.length) goes).0) ∙ v in cc
  not_text (CopyPiece from to kind at) no_text t goes v = no_text (sym (file_is to kind t (and_parts (is_file to kind t) (at == t.length) goes).0).1 ∙ v)
  not_text (Sync server kind) no_text t goes v = false≢true goes
  not_text (Register server kind) no_text t goes v = false≢true goes
  not_text (Unregister server kind) no_text t goes v = false≢true goes
  not_text (DropIndex server) no_text t goes v = false≢true goes
  not_text (DropData server) no_text t goes v = false≢true goes

  appended_text : (step : Step) → CopiesNoText step → (t : FileState) → IsTextWhole t → IsTextWhole (appended plan place taken step t)
  appended_text step no_text t whole = by_test (goes_on_behind plan place step t) refl
    where
      by_test : (b : Bool) → goes_on_behind plan place step t ≡ b → IsTextWhole (if b then grown_by (piece_length plan taken t.length step) t else t)
      by_test true goes = λ kind stage. not_text step no_text t (and_parts (is_behind t.stage) (goes_on plan place step t) goes).1 kind
      by_test false idle = whole

  staged_text : (change : FileState → FileState) (t : FileState) → (change t).stage ≢ Writing → (b : Bool) → IsTextWhole t → IsTextWhole (if b then change t else t)
  staged_text change t ends true whole = λ kind. ends
  staged_text change t ends false whole = whole

  text_stays : (step : Step) → CopiesNoText step → (t : FileState) → IsTextWhole t → IsTextWhole (after plan place taken step t)
  text_stays (PutInfo server) no_text t whole = staged_text (put_whole (length (info_text plan.info))) t (λ e. cc) (is_file server Vif t) whole
  text_stays (WriteEntries at) no_text t whole = appended_text (WriteEntries at) tt t whole
  text_stays (PutJournal server at) no_text t whole = appended_text (PutJournal server at) tt t whole
  text_stays (MakePiece row at) no_text t whole = appended_text (MakePiece row at) tt t whole
  text_stays (MendPiece at) no_text t whole = appended_text (MendPiece at) tt t whole
  text_stays (JoinPiece row block at) no_text t whole = appended_text (JoinPiece row block at) tt t whole
  text_stays (JoinDeletes at) no_text t whole = appended_text (JoinDeletes at) tt t whole
  text_stays (CopyPiece from to kind at) no_text t whole = appended_text (CopyPiece from to kind at) no_text t whole
  text_stays (Sync server kind) no_text t whole = staged_text (at_stage Synced) t (λ e. cc) (is_file server kind t) whole
  text_stays (Register server kind) no_text t whole = staged_text (at_stage Registered) t (λ e. cc) (is_file server kind t) whole
  text_stays (Unregister server kind) no_text t whole = staged_text (at_stage Gone) t (λ e. cc) (is_file server kind t) whole
  text_stays (DropIndex server) no_text t whole = staged_text (at_stage Gone) t (λ e. cc) (is_file server Idx t) whole
  text_stays (DropData server) no_text t whole = staged_text (at_stage Gone) t (λ e. cc) (is_file server Dat t) whole

-- Each step that is due leaves the progress within its bounds.
pub bounds_on : (r : Running) (onward : List FileState) (next : ℕ) (step : Step) → IsInBounds r.plan r.states r.place → IsDue r step → IsAfter r.plan step r.states r.place onward next → IsInBounds r.plan onward next
bounds_on r onward next step bounds due stepped = record { short = lengths.0; units = lengths.1; texts = each }
  where
    lengths : AreShort r.plan onward next × AreInUnits r.plan onward
    lengths = short_on r.plan r.states onward r.place next step bounds.short bounds.units stepped

    each : AreTextsWhole onward
    each k u at =
        let found = named_at (after r.plan r.place stepped.taken step) r.states k u (ap (λ xs. slice_get xs k) (sym stepped.files) ∙ at) in
        subst IsTextWhole found.2 (text_stays r.plan r.place stepped.taken step (due_copies r step due) found.0 (bounds.texts k found.0 found.1))

-- And so the first progress is.
pub bounds_first : (plan : Plan) (servers : ℕ) → IsPlan plan servers → IsInBounds plan (first_states plan (list_of plan)) 8
bounds_first plan servers is = record { short = (short_first plan servers is).0; units = (short_first plan servers is).1; texts = each }
  where
    first_not : (b : Bool) → first_stage b ≢ Writing
    first_not true e = cc
    first_not false e = cc

    each : AreTextsWhole (first_states plan (list_of plan))
    each k u at =
        let found = named_at (first_state plan) (list_of plan) k u at in
        subst IsTextWhole found.2 (λ kind. first_not (is_found plan plan.command found.0.0 found.0.1))

-- And it lowers the bound on the steps that are left.
pub due_falls : (r : Running) (row : Row) (servers : ℕ) (onward : List FileState) (next : ℕ) (step : Step) → IsPlan r.plan servers → IsOnItsWay r row → IsInBounds r.plan r.states r.place → next_step r.plan r.states r.place ≡ Some step
    → IsAfter r.plan step r.states r.place onward next → left_of r.plan onward next < left_of r.plan r.states r.place
due_falls r row servers onward next step is way bounds e stepped =
    left_falls r.plan r.states onward r.place next step
    (record { sized = plan_sized r.plan servers is; listed = way.listed; apart = way.apart; reached = way.reached; short = bounds.short }) e stepped

-- ---- the bounds are a fact

short_fact : (plan : Plan) (n : ℕ) (kind : Kind) → IsProp (IsShort plan n kind)
short_fact plan n Dat = le_prop
short_fact plan n Idx = Unit-prop
short_fact plan n Cpd = Unit-prop
short_fact plan n Cpx = Unit-prop
short_fact plan n (Shard i) = le_prop
short_fact plan n Ecx = le_prop
short_fact plan n Ecj = le_prop
short_fact plan n Vif = Unit-prop

units_fact : (plan : Plan) (n : ℕ) (kind : Kind) → IsProp (IsInUnits plan n kind)
units_fact plan n Dat = Coded-set coded_ℕ _ _
units_fact plan n Idx = Unit-prop
units_fact plan n Cpd = Unit-prop
units_fact plan n Cpx = Unit-prop
units_fact plan n (Shard i) = Unit-prop
units_fact plan n Ecx = Coded-set coded_ℕ _ _
units_fact plan n Ecj = Coded-set coded_ℕ _ _
units_fact plan n Vif = Unit-prop

none_fact : (a b : ⊥) → a ≡ b
none_fact a b = absurd a

pub bounds_fact : (plan : Plan) (states : List FileState) (place : ℕ) → IsProp (IsInBounds plan states place)
bounds_fact plan states place a b = λ i. record {
  short = record {
    next = le_prop a.short.next b.short.next i;
    lengths = λ k s at behind. short_fact plan s.length s.kind (a.short.lengths k s at behind) (b.short.lengths k s at behind) i;
  };
  units = record { units = λ k s at behind. units_fact plan s.length s.kind (a.units.units k s at behind) (b.units.units k s at behind) i };
  texts = λ k s at kind stage. none_fact (a.texts k s at kind stage) (b.texts k s at kind stage) i;
}
