-- Each step that a plan gives is legal, from each progress that it reaches.
use Rattle.std.proofs.Common.{◌≡◌, ◌≢◌, ◌⊎◌, inl, inr, ⊎_elim, ℕ, zero, suc, ◌+◌, ◌/◌, ◌<◌, ◌≤◌, not, ltb, Bool, true, false, cond, List, [], ◌∷◌, length, Option, Some, None, refl, sym, ◌∙◌, ap, subst, arith}
use Rattle.std.specs.Prelude.{◌-◌, ◌&&◌, ◌==◌, nat_lt, if◌then◌else◌, slice_get, IfSome, IsTrue}
use Rattle.std.specs.List.{position, position_or_len}
use Rattle.std.proofs.lemmas.Bool.{and_parts, and_from, eq-eqb, lt-ltb, cases_lt, false≢true}
use Rattle.image_meaning.specs.Laws.Options.{none_some, some_is}
use Rattle.world_model.specs.declared.types.Command.{Command}
use Rattle.world_model.specs.declared.types.Command.TheVariants.{Encode, Rebuild, Balance, Decode}
use Rattle.world_model.specs.declared.types.Ratio.{Ratio}
use Rattle.file_names.specs.declared.Kind.{Kind}
use Rattle.file_names.specs.declared.Kind.TheVariants.{Dat, Idx, Cpd, Cpx, Shard, Ecx, Ecj, Vif}
use Rattle.file_names.specs.Names.{IsKind, max_shards}
use Rattle.stripe_layout.specs.declared.Info.{Info}
use Rattle.stripe_layout.specs.Stripes.{row_width, large_rows}
use Rattle.stripe_layout.specs.Pieces.{large_part}
use Rattle.shard_table.specs.Table.{Row}
use Rattle.plan_steps.specs.declared.plan.Plan.{Plan}
use Rattle.plan_steps.specs.declared.plan.Stage.{Stage}
use Rattle.plan_steps.specs.declared.plan.Stage.TheVariants.{Absent, Writing, Synced, Registered, Gone}
use Rattle.plan_steps.specs.declared.plan.FileState.{FileState}
use Rattle.plan_steps.specs.declared.plan.Progress.{Progress}
use Rattle.plan_steps.specs.declared.step.Step.{Step}
use Rattle.plan_steps.specs.declared.step.Step.TheVariants.{WriteEntries, PutJournal, MakePiece, MendPiece, JoinPiece, JoinDeletes, CopyPiece, Sync}
use Rattle.plan_steps.specs.Planned.{held, placed, is_at, is_found, is_encode}
use Rattle.plan_steps.specs.Laws.Found.{encode_finds}
use Rattle.plan_steps.specs.Legal.{IsFound, IsNew, HasNoShard}
use Rattle.plan_steps.specs.Laws.Legal.{by_bool}
use Rattle.plan_steps.specs.Order.{IsUnfinished, IsReached, IsThere, HasBesideBefore, WaitsToRegister}
use Rattle.plan_steps.specs.Laws.Order.{named_at, name_at}
use Rattle.plan_steps.specs.Lists.{list_of}
use Rattle.plan_steps.specs.Plans.{IsPlan}
use Rattle.plan_steps.specs.Laws.List.{list_waits, list_index_behind, turn_registers, turn_removes}
use Rattle.plan_steps.specs.Members.{at_has, has_any, any_has}
use Rattle.plan_steps.specs.Progressing.{Running, running, IsOnItsWay}
use Rattle.plan_steps.specs.Walk.{same_kind, is_file, has_file, is_finished, is_open, first_open, position_of, is_last_stage}
use Rattle.plan_steps.specs.Laws.Walk.{place_cases, file_is, is_this, same_kind-is, has_file-is}
use Rattle.plan_steps.specs.May.{may_register, may_remove}
use Rattle.plan_steps.specs.Laws.MayBack.{no_shard-is, may_register_is, may_remove_is}
use Rattle.plan_steps.specs.Next.{make_in_rows, make_step, join_in_rows, join_step, large_end, data_step, is_made, mend_step, shard_step, shard_source, index_step, piece_step, is_whole, going_step, coming_step, file_step, file_at, is_behind, is_synced, is_data, if_behind, turn_of, step_at, next_step}
use Rattle.plan_steps.specs.Legality.{is_make, is_join, is_shard, is_made_kind, is_behind_data, goes_on, goes_on_behind, is_in_order, is_writing, is_complete_as, is_complete_file, is_synced_file, is_legal, IsLegalNext}

-- ---- the first that passes

look_first : (p : FileState → Bool) (xs : List FileState) (k : ℕ) (s : FileState) → slice_get xs k ≡ Some s → k < position_or_len p xs → p s ≡ false
look_first p [] k s e h = absurd (none_some e)
look_first p (x ∷ xs) zero s e h = ap p (sym (some_is x s e)) ∙ by_test (p x) h
  where
    by_test : (b : Bool) → 0 < cond (not b) (1 + position_or_len p xs) 0 → b ≡ false
    by_test true less = absurd (omega (arith, less))
    by_test false less = refl
look_first p (x ∷ xs) (suc k) s e h = look_first p xs k s e (by_test (p x) h)
  where
    by_test : (b : Bool) → suc k < cond (not b) (1 + position_or_len p xs) 0 → k < position_or_len p xs
    by_test true less = absurd (omega (arith, less))
    by_test false less = omega (arith, less)

first_passes : (p : FileState → Bool) (xs : List FileState) (at k : ℕ) (s : FileState) → position p xs ≡ Some at → slice_get xs k ≡ Some s → k < at → p s ≡ false
first_passes p xs at k s is there h = by_test (ltb (position_or_len p xs) (length xs)) is
  where
    by_test : (b : Bool) → cond b (Some (position_or_len p xs)) None ≡ Some at → p s ≡ false
    by_test true e = look_first p xs k s there (omega (arith, h, some_is (position_or_len p xs) at e))
    by_test false e = absurd (none_some e)

-- ---- numbers and stages

same_number : (n : ℕ) → (n == n) ≡ true
same_number n = eq-eqb n n refl

data_is : (kind : Kind) → is_data kind ≡ true → kind ≡ Dat
data_is Dat e = refl
data_is Idx e = absurd (false≢true e)
data_is Cpd e = absurd (false≢true e)
data_is Cpx e = absurd (false≢true e)
data_is (Shard i) e = absurd (false≢true e)
data_is Ecx e = absurd (false≢true e)
data_is Ecj e = absurd (false≢true e)
data_is Vif e = absurd (false≢true e)

not_encode : (c : Command) → c ≡ Decode → is_encode c ≡ false
not_encode c e = ap is_encode e

-- the pieces of rows
pub make_here : (info : Info) (n : ℕ) → (row : ℕ) × (at : ℕ) × (make_step info n ≡ MakePiece row at)
make_here info n = by_part (nat_lt n (large_part info.geometry info.dat_size))
  where
    by_part : (b : Bool) → (row : ℕ) × (at : ℕ) × ((if b then make_in_rows info.geometry.large 0 n else make_in_rows info.geometry.small (large_rows info.geometry info.dat_size) (n - large_part info.geometry info.dat_size)) ≡ MakePiece row at)
    by_part true = (_, _, refl)
    by_part false = (_, _, refl)

pub join_here : (info : Info) (n : ℕ) → (row : ℕ) × (block : ℕ) × (at : ℕ) × (join_step info n ≡ JoinPiece row block at)
join_here info n = by_part (nat_lt n (large_end info))
  where
    by_part : (b : Bool) → (row : ℕ) × (block : ℕ) × (at : ℕ)
        × ((if b then join_in_rows (row_width info.geometry) info.geometry.large 0 n else join_in_rows (row_width info.geometry) info.geometry.small (large_rows info.geometry info.dat_size) (n - large_end info)) ≡ JoinPiece row block at)
    by_part true = (_, _, _, refl)
    by_part false = (_, _, _, refl)

-- ---- a server with a shard that was found has its text

shard_held : (plan : Plan) (server i : ℕ) → placed plan i server ≡ true → held plan server ≡ true
shard_held plan server i e =
    let found = any_has (is_at i server) plan.places.items e in
    has_any (λ (p : ℕ × ℕ). p.1 == server) plan.places.items found.0 found.1 (and_parts (found.0.0 == i) (found.0.1 == server) found.2).1

text_found : (plan : Plan) (c : Command) (server i : ℕ) → is_found plan c server (Shard i) ≡ true → is_found plan c server Vif ≡ true
text_found plan (Encode ratio) server i e = absurd (false≢true e)
text_found plan Rebuild server i e = shard_held plan server i e
text_found plan Balance server i e = shard_held plan server i e
text_found plan Decode server i e = shard_held plan server i e

-- ---- the steps

module _ (r : Running) (row : Row) (servers : ℕ) (is : IsPlan r.plan servers) (way : IsOnItsWay r row) where
  abbrev plan : Plan
  plan = r.plan

  abbrev states : List FileState
  states = r.states

  abbrev Legal : Step → Type 0
  Legal step = is_legal plan states r.place row step ≡ true

  named : (k : ℕ) (u : FileState) → slice_get states k ≡ Some u → slice_get (list_of plan) k ≡ Some (u.server, u.kind)
  named k u at = ap (λ names. slice_get names k) (sym way.listed) ∙ name_at (λ (s : FileState). (s.server, s.kind)) states k u at

  listed : (k server : ℕ) (kind : Kind) → slice_get (list_of plan) k ≡ Some (server, kind) → (u : FileState) × (slice_get states k ≡ Some u) × (u.server ≡ server) × (u.kind ≡ kind)
  listed k server kind at =
      let found = named_at (λ (s : FileState). (s.server, s.kind)) states k (server, kind) (ap (λ names. slice_get names k) way.listed ∙ at) in
      (found.0, found.1, ap (λ (p : ℕ × Kind). p.0) found.2, ap (λ (p : ℕ × Kind). p.1) found.2)

  module _ (k : ℕ) (u : FileState) (at : slice_get states k ≡ Some u) where
    waits : IsNew plan u.server u.kind → WaitsToRegister plan (list_of plan) k u.server u.kind
    waits new = list_waits plan servers is k u.server u.kind (named k u at) new

    in_order : (step : Step) → is_behind u.stage ≡ true → goes_on plan r.place step u ≡ true → is_in_order plan states r.place step ≡ true
    unfolding is_in_order
    in_order step behind goes = has_any (goes_on_behind plan r.place step) states u (at_has states k u at) (and_from (is_behind u.stage) (goes_on plan r.place step u) behind goes)

    complete : u.stage ≡ Writing → is_whole plan r.place u.length u.kind ≡ true → Legal (Sync u.server u.kind)
    unfolding is_complete_file
    complete stage whole = has_any (is_complete_as plan r.place u.server u.kind) states u (at_has states k u at)
        (and_from (is_file u.server u.kind u && is_writing u.stage) (is_whole plan r.place u.length u.kind)
        (and_from (is_file u.server u.kind u) (is_writing u.stage) (is_this u.server u.kind u refl refl) (ap is_writing stage)) whole)

    synced : u.stage ≡ Synced → is_synced_file states u.server u.kind ≡ true
    unfolding is_synced_file
    synced stage = has_any (λ s. is_file u.server u.kind s && is_synced s.stage) states u (at_has states k u at)
        (and_from (is_file u.server u.kind u) (is_synced u.stage) (is_this u.server u.kind u refl refl) (ap is_synced stage))

    -- ---- pieces

    module _ (behind : is_behind u.stage ≡ true) where
      data_piece : u.kind ≡ Dat → Legal (data_step plan.info u.length)
      data_piece e = by_part (nat_lt u.length plan.info.dat_size) refl
        where
          by_part : (b : Bool) → nat_lt u.length plan.info.dat_size ≡ b → Legal (if b then join_step plan.info u.length else JoinDeletes ((u.length - plan.info.dat_size) / 32))
          by_part true less =
              let spot = join_here plan.info u.length in
              subst Legal (sym spot.3) (in_order (JoinPiece spot.0 spot.1 spot.2) behind
              (and_from (is_data u.kind && nat_lt u.length plan.info.dat_size) (is_join spot.0 spot.1 spot.2 (join_step plan.info u.length))
              (and_from (is_data u.kind) (nat_lt u.length plan.info.dat_size) (ap is_data e) less)
              (ap (is_join spot.0 spot.1 spot.2) spot.3
              ∙ and_from ((spot.0 == spot.0) && (spot.1 == spot.1)) (spot.2 == spot.2) (and_from (spot.0 == spot.0) (spot.1 == spot.1) (same_number spot.0) (same_number spot.1)) (same_number spot.2))))
          by_part false less = in_order (JoinDeletes ((u.length - plan.info.dat_size) / 32)) behind
              (and_from (is_data u.kind) (is_behind_data plan.info.dat_size ((u.length - plan.info.dat_size) / 32) u.length) (ap is_data e)
              (ap (λ b. if b then false else ((u.length - plan.info.dat_size) / 32 == (u.length - plan.info.dat_size) / 32)) less ∙ same_number ((u.length - plan.info.dat_size) / 32)))

      index_piece : u.kind ≡ Idx → plan.command ≡ Decode → Legal (WriteEntries r.place)
      index_piece e decode = in_order (WriteEntries r.place) behind
          (ap (λ b. if b then same_kind u.kind Ecx && (r.place == u.length / 16) else same_kind u.kind Idx && (r.place == r.place)) (not_encode plan.command decode)
          ∙ and_from (same_kind u.kind Idx) (r.place == r.place) (same_kind-is u.kind Idx e) (same_number r.place))

      copy_piece : (from : ℕ) (kind : Kind) → u.kind ≡ kind → Legal (CopyPiece from u.server kind u.length)
      copy_piece from kind e = in_order (CopyPiece from u.server kind u.length) behind (and_from (is_file u.server kind u) (u.length == u.length) (is_this u.server kind u refl e) (same_number u.length))

      coded_piece : u.kind ≡ Ecx → (c : Command) → plan.command ≡ c → Legal (index_step plan c u.server u.length)
      coded_piece e (Encode ratio) encode = in_order (WriteEntries (u.length / 16)) behind
          (ap (λ b. if b then same_kind u.kind Ecx && (u.length / 16 == u.length / 16) else same_kind u.kind Idx && (u.length / 16 == r.place)) (ap is_encode encode)
          ∙ and_from (same_kind u.kind Ecx) (u.length / 16 == u.length / 16) (same_kind-is u.kind Ecx e) (same_number (u.length / 16)))
      coded_piece e Rebuild other = copy_piece _ Ecx e
      coded_piece e Balance other = copy_piece _ Ecx e
      coded_piece e Decode other = copy_piece _ Ecx e

      journal_piece : u.kind ≡ Ecj → Legal (PutJournal u.server (u.length / 16))
      journal_piece e = in_order (PutJournal u.server (u.length / 16)) behind (and_from (is_file u.server Ecj u) (u.length / 16 == u.length / 16) (is_this u.server Ecj u refl e) (same_number (u.length / 16)))

      mend_piece : (i : ℕ) → u.kind ≡ Shard i → Legal (mend_step plan i u.server u.length)
      mend_piece i e = by_made (is_made plan i u.server) refl
        where
          by_made : (b : Bool) → is_made plan i u.server ≡ b → Legal (if b then MendPiece u.length else CopyPiece (shard_source plan i u.server) u.server (Shard i) u.length)
          by_made true made = in_order (MendPiece u.length) behind (and_from (is_made_kind plan u.server u.kind) (u.length == u.length) (ap (is_made_kind plan u.server) e ∙ made) (same_number u.length))
          by_made false made = copy_piece (shard_source plan i u.server) (Shard i) e

      module _ (turn : IsReached plan states k) where
        -- the index of an encode stands as long as a shard is made
        index_stands : (ratio : Ratio) → plan.command ≡ Encode ratio → (i : ℕ) → u.kind ≡ Shard i → has_file plan states plan.home Idx ≡ true
        index_stands ratio encode i e =
            let behind_it = list_index_behind plan servers is ratio encode k u.server i (named k u at ∙ (λ j. Some (u.server, e j))) in
            let there = listed behind_it.0 plan.home Idx behind_it.2 in
            let found : IsFound plan there.0.server there.0.kind = subst (λ (p : ℕ × Kind). IsFound plan p.0 p.1) (λ j. (sym there.2 j, sym there.3 j)) (encode_finds plan plan.home Idx (ap is_encode encode) ∙ same_number plan.home) in
            has_file-is plan states plan.home Idx way.apart (inl (behind_it.0, there.0, there.1, there.2, there.3, turn.staying behind_it.0 there.0 there.1 (omega (arith, behind_it.1)) found))

        make_piece : (ratio : Ratio) → plan.command ≡ Encode ratio → (i : ℕ) → u.kind ≡ Shard i → Legal (make_step plan.info u.length)
        make_piece ratio encode i e =
            let spot = make_here plan.info u.length in
            subst Legal (sym spot.2) (and_from (is_in_order plan states r.place (MakePiece spot.0 spot.1)) (has_file plan states plan.home Idx)
            (in_order (MakePiece spot.0 spot.1) behind
            (and_from (is_shard u.kind) (is_make spot.0 spot.1 (make_step plan.info u.length)) (ap is_shard e)
            (ap (is_make spot.0 spot.1) spot.2 ∙ and_from (spot.0 == spot.0) (spot.1 == spot.1) (same_number spot.0) (same_number spot.1))))
            (index_stands ratio encode i e))

        shard_piece : (i : ℕ) → u.kind ≡ Shard i → (c : Command) → plan.command ≡ c → Legal (shard_step plan c i u.server u.length)
        shard_piece i e (Encode ratio) encode = make_piece ratio encode i e
        shard_piece i e Rebuild other = mend_piece i e
        shard_piece i e Balance other = mend_piece i e
        shard_piece i e Decode other = mend_piece i e

        -- no shard stands beside a text that is to be written
        no_shard : IsNew plan u.server Vif → u.kind ≡ Vif → HasNoShard plan states u.server
        no_shard new e i short (inr (found, other)) = false≢true (sym new ∙ text_found plan plan.command u.server i found)
        no_shard new e i short (inl (m, v, at_m, server, shard, stage)) = by_found (by_bool (is_found plan plan.command v.server v.kind))
          where
            v_new : IsNew plan v.server v.kind → IsNew plan u.server (Shard i)
            v_new is_new = subst (λ (p : ℕ × Kind). IsNew plan p.0 p.1) (λ j. (server j, shard j)) is_new

            less : IsNew plan v.server v.kind → (m < k) ⊎ (k ≤ m) → m < k
            less is_new (inl h) = h
            less is_new (inr h) = absurd (subst IsUnfinished stage (turn.waiting m v at_m h is_new))

            beside : IsNew plan v.server v.kind → HasBesideBefore plan (list_of plan) m u.server
            beside is_new = list_waits plan servers is m u.server (Shard i) (named m v at_m ∙ (λ j. Some (server j, shard j))) (v_new is_new)

            by_text : m < k → IsThere plan (list_of plan) m u.server Vif → ⊥
            by_text h (inr (found, other)) = false≢true (sym new ∙ found)
            by_text h (inl (n, before, there, text_new)) =
                let text = listed n u.server Vif there in
                let same : n ≡ k = way.apart.apart n k text.0 u text.1 at text.2 (text.3 ∙ sym e) in
                absurd (omega (arith, same, before, h))

            by_found : IsFound plan v.server v.kind ⊎ IsNew plan v.server v.kind → ⊥
            by_found (inl found) = false≢true (sym new ∙ text_found plan plan.command u.server i (subst (λ (p : ℕ × Kind). IsFound plan p.0 p.1) (λ j. (server j, shard j)) found))
            by_found (inr is_new) = by_text (less is_new (cases_lt m k)) (beside is_new).text

        piece : IsNew plan u.server u.kind → (kind : Kind) → u.kind ≡ kind → Legal (piece_step plan r.place u.server u.length kind)
        piece new Dat e = data_piece e
        piece new Idx e = index_piece e (subst (WaitsToRegister plan (list_of plan) k u.server) e (waits new)).2
        piece new Cpd e = absurd (subst (WaitsToRegister plan (list_of plan) k u.server) e (waits new))
        piece new Cpx e = absurd (subst (WaitsToRegister plan (list_of plan) k u.server) e (waits new))
        piece new (Shard i) e = shard_piece i e plan.command refl
        piece new Ecx e = coded_piece e plan.command refl
        piece new Ecj e = journal_piece e
        piece new Vif e = no_shard-is plan states way.apart u.server (no_shard (subst (IsNew plan u.server) e new) e)

    -- a file that is being written comes on by its piece or its sync
    comes_behind : (stage : Stage) → u.stage ≡ stage → is_behind stage ≡ true → Legal (piece_step plan r.place u.server u.length u.kind) → Legal (coming_step plan r.place u stage)
    comes_behind Absent e behind piece = piece
    comes_behind Writing e behind piece = by_whole (is_whole plan r.place u.length u.kind) refl
      where
        by_whole : (b : Bool) → is_whole plan r.place u.length u.kind ≡ b → Legal (if b then Sync u.server u.kind else piece_step plan r.place u.server u.length u.kind)
        by_whole true whole = complete e whole
        by_whole false whole = piece
    comes_behind Synced e behind piece = absurd (false≢true behind)
    comes_behind Registered e behind piece = absurd (false≢true behind)
    comes_behind Gone e behind piece = absurd (false≢true behind)

    module _ (turn : IsReached plan states k) where
      comes : IsNew plan u.server u.kind → (stage : Stage) → u.stage ≡ stage → IsUnfinished stage → Legal (coming_step plan r.place u stage)
      comes new Absent e open_still = comes_behind Absent e refl (piece (ap is_behind e) turn new u.kind refl)
      comes new Writing e open_still = comes_behind Writing e refl (piece (ap is_behind e) turn new u.kind refl)
      comes new Synced e open_still = and_from (is_synced_file states u.server u.kind) (may_register plan states u.server u.kind) (synced e)
          (may_register_is plan states way.apart u.server u.kind (turn_registers plan servers is states way.apart way.listed k turn u at new))
      comes new Registered e open_still = absurd open_still
      comes new Gone e open_still = absurd open_still

      -- a file that was found goes
      goes : IsFound plan u.server u.kind → (kind : Kind) → u.kind ≡ kind → Legal (going_step u.server kind)
      goes found kind e = by_kind kind (subst IsKind e (way.apart.named k u at).0) (subst (λ c. may_remove plan states row u.server c ≡ true) e
          (may_remove_is plan states way.apart row u.server u.kind (turn_removes plan servers is states way.apart way.listed k turn u at row found)))
        where
          by_kind : (c : Kind) → IsKind c → may_remove plan states row u.server c ≡ true → Legal (going_step u.server c)
          by_kind Dat short may = may
          by_kind Idx short may = may
          by_kind Cpd short may = absurd (false≢true may)
          by_kind Cpx short may = absurd (false≢true may)
          by_kind (Shard i) short may = and_from (nat_lt i max_shards) (may_remove plan states row u.server (Shard i)) (lt-ltb i max_shards short) may
          by_kind Ecx short may = may
          by_kind Ecj short may = may
          by_kind Vif short may = may

      itself : IsFound plan u.server u.kind ⊎ IsNew plan u.server u.kind → Legal (file_step plan r.place u)
      itself (inl found) = subst Legal (ap (λ b. if b then going_step u.server u.kind else coming_step plan r.place u u.stage) (sym found)) (goes found u.kind refl)
      itself (inr new) = subst Legal (ap (λ b. if b then going_step u.server u.kind else coming_step plan r.place u u.stage) (sym new)) (comes new u.stage refl (turn.waiting k u at (omega arith) new))

  -- ---- whose turn it is

  -- the files before the first that isn't finished are, so the list is reached there
  pub reached_first : (k : ℕ) → first_open plan states ≡ Some k → (u : FileState) → slice_get states k ≡ Some u → is_open plan u ≡ true → IsReached plan states k
  reached_first k first u at is_open_u = by_place (cases_lt k way.reached.0)
    where
      closed : (n : ℕ) (s : FileState) → slice_get states n ≡ Some s → n < k → is_finished plan s ≡ true
      closed n s there h = not_open (is_finished plan s) (first_passes (is_open plan) states k n s first there h)
        where
          not_open : (b : Bool) → not b ≡ false → b ≡ true
          not_open true e = refl
          not_open false e = absurd (false≢true (sym e))

      last_new : (stage : Stage) → is_last_stage false stage ≡ true → stage ≡ Registered
      last_new Absent e = absurd (false≢true e)
      last_new Writing e = absurd (false≢true e)
      last_new Synced e = absurd (false≢true e)
      last_new Registered e = refl
      last_new Gone e = absurd (false≢true e)

      last_found : (stage : Stage) → is_last_stage true stage ≡ true → stage ≡ Gone
      last_found Absent e = absurd (false≢true e)
      last_found Writing e = absurd (false≢true e)
      last_found Synced e = absurd (false≢true e)
      last_found Registered e = absurd (false≢true e)
      last_found Gone e = refl

      done : IsFound plan u.server u.kind ⊎ IsNew plan u.server u.kind → k < way.reached.0 → is_finished plan u ≡ true
      done (inl found) h = ap (λ b. is_last_stage b u.stage) found ∙ ap (is_last_stage true) (way.reached.1.removed k u at h found)
      done (inr new) h = ap (λ b. is_last_stage b u.stage) new ∙ ap (is_last_stage false) (way.reached.1.written k u at h new)

      by_place : (k < way.reached.0) ⊎ (way.reached.0 ≤ k) → IsReached plan states k
      by_place (inl h) = absurd (false≢true (ap not (sym (done (by_bool (is_found plan plan.command u.server u.kind)) h)) ∙ is_open_u))
      by_place (inr h) = record {
        written = λ n s there less new. last_new s.stage (ap (λ b. is_last_stage b s.stage) (sym new) ∙ closed n s there less);
        removed = λ n s there less found. last_found s.stage (ap (λ b. is_last_stage b s.stage) (sym found) ∙ closed n s there less);
        waiting = λ n s there more new. way.reached.1.waiting n s there (omega (arith, h, more)) new;
        staying = λ n s there more found. way.reached.1.staying n s there (omega (arith, h, more)) found;
      }

  module _ (k : ℕ) (s : FileState) (at : slice_get states k ≡ Some s) (turn : IsReached plan states k) where
    -- a data file that waits is new, and so is the index beside it
    waiting_new : (is_data s.kind ≡ true) → is_synced s.stage ≡ true → IsFound plan s.server s.kind ⊎ IsNew plan s.server s.kind → IsNew plan s.server s.kind
    waiting_new dat ready (inr new) = new
    waiting_new dat ready (inl found) = absurd (false≢true (ap is_synced (sym (turn.staying k s at (omega arith) found)) ∙ ready))

    index_turn : is_data s.kind ≡ true → is_synced s.stage ≡ true → (m : ℕ) (u : FileState) → slice_get states m ≡ Some u → u.kind ≡ Idx → is_behind u.stage ≡ true → Legal (file_step plan r.place u)
    index_turn dat ready m u there e behind =
        let new : IsNew plan s.server s.kind = waiting_new dat ready (by_bool (is_found plan plan.command s.server s.kind)) in
        let none = (subst (WaitsToRegister plan (list_of plan) k s.server) (data_is s.kind dat) (waits k s at new)).none_found u.server in
        let u_new : IsNew plan u.server u.kind = subst (IsNew plan u.server) (sym e) none in
        let decode = (subst (WaitsToRegister plan (list_of plan) m u.server) e (waits m u there u_new)).2 in
        subst Legal (ap (λ b. if b then going_step u.server u.kind else coming_step plan r.place u u.stage) (sym u_new))
        (comes_behind m u there u.stage refl behind (subst (λ kind. Legal (piece_step plan r.place u.server u.length kind)) (sym e) (index_piece m u there behind e decode)))

    taken : (b : Bool) → (is_data s.kind && is_synced s.stage) ≡ b → Legal (file_step plan r.place (if b then if_behind (file_at states (position_of s.server Idx states)) s else s))
    taken false e = itself k s at turn (by_bool (is_found plan plan.command s.server s.kind))
    taken true e = ⊎_elim
        (λ found.
        let here = file_is s.server Idx found.1 found.4 in
        subst (λ o. Legal (file_step plan r.place (if_behind o s))) (sym (ap (file_at states) found.2 ∙ found.3)) (by_index found.0 found.1 found.3 here.1))
        (λ none. subst (λ o. Legal (file_step plan r.place (if_behind (file_at states o) s))) (sym none.0) (itself k s at turn (by_bool (is_found plan plan.command s.server s.kind))))
        (place_cases (is_file s.server Idx) states)
      where
        by_index : (m : ℕ) (u : FileState) → slice_get states m ≡ Some u → u.kind ≡ Idx → Legal (file_step plan r.place (if is_behind u.stage then u else s))
        by_index m u there idx = by_behind (is_behind u.stage) refl
          where
            by_behind : (c : Bool) → is_behind u.stage ≡ c → Legal (file_step plan r.place (if c then u else s))
            by_behind true behind = let both = and_parts (is_data s.kind) (is_synced s.stage) e in index_turn both.0 both.1 m u there idx behind
            by_behind false behind = itself k s at turn (by_bool (is_found plan plan.command s.server s.kind))

  -- The next step is legal.
  pub next_legal : (step : Step) → next_step plan states r.place ≡ Some step → is_legal plan states r.place row step ≡ true
  next_legal step e = ⊎_elim
      (λ found.
      let turn = reached_first found.0 found.2 found.1 found.3 found.4 in
      let same : file_step plan r.place (turn_of states found.1) ≡ step =
      some_is (file_step plan r.place (turn_of states found.1)) step (sym (ap (λ o. step_at plan states r.place (file_at states o)) found.2 ∙ ap (step_at plan states r.place) found.3) ∙ e) in
      subst Legal same (taken found.0 found.1 found.3 turn (is_data found.1.kind && is_synced found.1.stage) refl))
      (λ none. absurd (none_some (sym (ap (λ o. step_at plan states r.place (file_at states o)) none.0) ∙ e)))
      (place_cases (is_open plan) states)

pub legal_next : (plan : Plan) (progress : Progress) (next : Option Step) → next ≡ next_step plan progress.files.items progress.place → IsLegalNext plan progress next
legal_next plan progress next is servers row of_plan way = by_step next (sym is)
  where
    by_step : (o : Option Step) → next_step plan progress.files.items progress.place ≡ o → IfSome o (λ step. IsTrue (is_legal plan progress.files.items progress.place row step))
    by_step None e = tt
    by_step (Some step) e = next_legal (running plan progress) row servers of_plan way step e
