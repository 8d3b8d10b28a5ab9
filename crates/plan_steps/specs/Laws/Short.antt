-- The lengths of a plan's files stay within what they are to be, step by step.
-- For `run_step` of the running plans of `plan_run`, to come.
use Rattle.std.proofs.Common.{◌≡◌, inl, inr, ℕ, ◌+◌, ◌-◌, ◌*◌, ◌/◌, ◌%◌, ◌<◌, ◌≤◌, Bool, true, false, List, length, Some, refl, sym, ◌∙◌, ap, subst, arith}
use Rattle.std.specs.Prelude.{min, nat_lt, ◌==◌, ◌&&◌, if◌then◌else◌, slice_get}
use Rattle.std.proofs.lemmas.Bool.{and_parts, eqb-true, ltb-true, ltb-false, false≢true}
use Rattle.world_model.specs.Sizes.{deletion_length}
use Rattle.world_model.specs.declared.types.Command.{Command}
use Rattle.world_model.specs.declared.types.Command.TheVariants.{Encode, Rebuild, Balance, Decode}
use Rattle.site_model.specs.Counts.{widest_piece}
use Rattle.file_names.specs.declared.Kind.{Kind}
use Rattle.file_names.specs.declared.Kind.TheVariants.{Dat, Idx, Cpd, Cpx, Shard, Ecx, Ecj, Vif}
use Rattle.stripe_layout.specs.Information.{info_text}
use Rattle.stripe_layout.specs.Stripes.{shard_length}
use Rattle.plan_steps.specs.declared.plan.Plan.{Plan}
use Rattle.plan_steps.specs.declared.plan.Stage.TheVariants.{Synced, Registered, Gone}
use Rattle.plan_steps.specs.declared.plan.FileState.{FileState}
use Rattle.plan_steps.specs.declared.step.Step.{Step}
use Rattle.plan_steps.specs.declared.step.Step.TheVariants.{PutInfo, WriteEntries, PutJournal, MakePiece, MendPiece, JoinPiece, JoinDeletes, CopyPiece, Sync, Register, Unregister, DropIndex, DropData}
use Rattle.plan_steps.specs.Planned.{is_encode}
use Rattle.plan_steps.specs.Lists.{list_of}
use Rattle.plan_steps.specs.Laws.Order.{named_at}
use Rattle.plan_steps.specs.Plans.{IsPlan}
use Rattle.plan_steps.specs.Beginning.{first_state, first_states}
use Rattle.plan_steps.specs.Walk.{same_kind, is_file}
use Rattle.plan_steps.specs.Laws.Walk.{file_is}
use Rattle.plan_steps.specs.Next.{entries_by, joined_length, make_step, join_step, is_data, is_behind}
use Rattle.plan_steps.specs.Legality.{is_make, is_join, is_shard, is_made_kind, is_behind_data, goes_on, goes_on_behind}
use Rattle.plan_steps.specs.Left.{list_piece}
use Rattle.plan_steps.specs.After.{block_of, copied_length, entries_in_piece, piece_length, grown_by, at_stage, put_whole, appended, after, ReadsOn, WritesOn, PlaceAfter, IsAfter, IsShort, AreShort, IsInUnits, AreInUnits}
use Rattle.plan_steps.specs.Laws.Advances.{data_kind, shard_kind, made_kind, file_kind}

-- the file is no longer than it is to be, and has whole parts
abbrev IsFit : Plan → ℕ → Kind → Type 0
IsFit plan n kind = IsShort plan n kind × IsInUnits plan n kind

list_fits : (total n at : ℕ) → at ≡ n / 16 → n ≤ 16 * total → n % 16 ≡ 0 → (n + 16 * min list_piece (total - at) ≤ 16 * total) × ((n + 16 * min list_piece (total - at)) % 16 ≡ 0)
list_fits total n at is short units = (omega (arith, is, short, units), omega (arith, units))

copy_fits : (total n at : ℕ) → at ≡ n → n ≤ 16 * total → n % 16 ≡ 0 → (n + min widest_piece (16 * total - at) ≤ 16 * total) × ((n + min widest_piece (16 * total - at)) % 16 ≡ 0)
copy_fits total n at is short units = (omega (arith, is, short), omega (arith, is, short, units))

none_more : (n at : ℕ) → n + min widest_piece (0 - at) ≡ n
none_more n at = omega arith

module _ (plan : Plan) (place taken : ℕ) where
  -- each file to which the step's piece goes stays so
  abbrev Stays : Step → Type 0
  Stays step = (t : FileState) → IsFit plan t.length t.kind → goes_on plan place step t ≡ true → IsFit plan (t.length + piece_length plan taken t.length step) t.kind

  -- by its kind
  of_kind : (kind : Kind) (t : FileState) (m : ℕ) → t.kind ≡ kind → IsFit plan t.length t.kind → (IsFit plan t.length kind → IsFit plan m kind) → IsFit plan m t.kind
  of_kind kind t m e fits comes = subst (IsFit plan m) (sym e) (comes (subst (IsFit plan t.length) e fits))

  entries_stay : (at : ℕ) → Stays (WriteEntries at)
  entries_stay at t fits goes = by_command (is_encode plan.command) refl
    where
      by_command : (b : Bool) → is_encode plan.command ≡ b → IsFit plan (t.length + 16 * entries_in_piece plan taken at (is_encode plan.command)) t.kind
      by_command true encode =
          let both = and_parts (same_kind t.kind Ecx) (at == t.length / 16) (sym (ap (λ b. if b then same_kind t.kind Ecx && (at == t.length / 16) else same_kind t.kind Idx && (at == place)) encode) ∙ goes) in
          subst (λ b. IsFit plan (t.length + 16 * entries_in_piece plan taken at b) t.kind) (sym encode)
          (of_kind Ecx t (t.length + 16 * min list_piece (length plan.entries.items - at)) (file_kind Ecx t both.0) fits
          (λ was. entries_fit (eqb-true at (t.length / 16) both.1) was))
        where
          entries_fit : at ≡ t.length / 16 → IsFit plan t.length Ecx → IsFit plan (t.length + 16 * min list_piece (length plan.entries.items - at)) Ecx
          entries_fit is was = subst (λ total. (t.length + 16 * min list_piece (length plan.entries.items - at) ≤ 16 * total) × ((t.length + 16 * min list_piece (length plan.entries.items - at)) % 16 ≡ 0)) (sym (all_entries plan.command encode))
              (list_fits (length plan.entries.items) t.length at is (subst (λ total. t.length ≤ 16 * total) (all_entries plan.command encode) was.0) was.1)
            where
              all_entries : (c : Command) → is_encode c ≡ true → entries_by plan c ≡ length plan.entries.items
              all_entries (Encode ratio) e = refl
              all_entries Rebuild e = absurd (false≢true e)
              all_entries Balance e = absurd (false≢true e)
              all_entries Decode e = absurd (false≢true e)
      by_command false other =
          let both = and_parts (same_kind t.kind Idx) (at == place) (sym (ap (λ b. if b then same_kind t.kind Ecx && (at == t.length / 16) else same_kind t.kind Idx && (at == place)) other) ∙ goes) in
          of_kind Idx t (t.length + 16 * entries_in_piece plan taken at (is_encode plan.command)) (file_kind Idx t both.0) fits (λ was. (tt, tt))

  journal_stays : (server at : ℕ) → Stays (PutJournal server at)
  journal_stays server at t fits goes =
      let both = and_parts (is_file server Ecj t) (at == t.length / 16) goes in
      of_kind Ecj t (t.length + 16 * min list_piece (length plan.deleted.items - at)) (file_is server Ecj t both.0).1 fits
      (λ was. list_fits (length plan.deleted.items) t.length at (eqb-true at (t.length / 16) both.1) was.0 was.1)

  make_stays : (row at : ℕ) → Stays (MakePiece row at)
  make_stays row at t fits goes =
      let kind = shard_kind t.kind (and_parts (is_shard t.kind) (is_make row at (make_step plan.info t.length)) goes).0 in
      of_kind (Shard kind.0) t (t.length + piece_length plan taken t.length (MakePiece row at)) kind.1 fits (λ was. (cut (min widest_piece (block_of plan.info row - at)) was.0, tt))
    where
      cut : (c : ℕ) → t.length ≤ shard_length plan.info.geometry plan.info.dat_size → t.length + min c (shard_length plan.info.geometry plan.info.dat_size - t.length) ≤ shard_length plan.info.geometry plan.info.dat_size
      cut c short = omega (arith, short)

  mend_stays : (at : ℕ) → Stays (MendPiece at)
  mend_stays at t fits goes =
      let both = and_parts (is_made_kind plan t.server t.kind) (at == t.length) goes in
      let kind = made_kind plan t.server t.kind both.0 in
      of_kind (Shard kind.0) t (t.length + piece_length plan taken t.length (MendPiece at)) kind.1 fits (λ was. (omega (arith, was.0, eqb-true at t.length both.1), tt))

  join_stays : (row block at : ℕ) → Stays (JoinPiece row block at)
  join_stays row block at t fits goes =
      let first = and_parts (is_data t.kind) (nat_lt t.length plan.info.dat_size) (and_parts (is_data t.kind && nat_lt t.length plan.info.dat_size) (is_join row block at (join_step plan.info t.length)) goes).0 in
      of_kind Dat t (t.length + piece_length plan taken t.length (JoinPiece row block at)) (data_kind t.kind first.0) fits (λ was. cut (min widest_piece (block_of plan.info row - at)) (ltb-true t.length plan.info.dat_size first.1))
    where
      cut : (c : ℕ) → t.length < plan.info.dat_size → IsFit plan (t.length + min c (plan.info.dat_size - t.length)) Dat
      cut c less = (omega (arith, less), omega (arith, less))

  deletes_stay : (at : ℕ) → Stays (JoinDeletes at)
  deletes_stay at t fits goes =
      let both = and_parts (is_data t.kind) (is_behind_data plan.info.dat_size at t.length) goes in
      of_kind Dat t (t.length + piece_length plan taken t.length (JoinDeletes at)) (data_kind t.kind both.0) fits (λ was. by_part (nat_lt t.length plan.info.dat_size) refl both.1 was)
    where
      by_part : (b : Bool) → nat_lt t.length plan.info.dat_size ≡ b → (if b then false else (at == (t.length - plan.info.dat_size) / 32)) ≡ true → IsFit plan t.length Dat
          → IsFit plan (t.length + deletion_length * min list_piece (length plan.deleted.items - at)) Dat
      by_part true less is was = absurd (false≢true is)
      by_part false less is was =
          let spot = eqb-true at ((t.length - plan.info.dat_size) / 32) is in
          let behind = ltb-false t.length plan.info.dat_size less in
          (omega (arith, spot, behind, was), omega (arith, behind, was))

  copy_stays : (from to : ℕ) (kind : Kind) (at : ℕ) → Stays (CopyPiece from to kind at)
  copy_stays from to kind at t fits goes =
      let both = and_parts (is_file to kind t) (at == t.length) goes in
      of_kind kind t (t.length + piece_length plan taken t.length (CopyPiece from to kind at)) (file_is to kind t both.0).1 fits (by_kind kind (eqb-true at t.length both.1))
    where
      by_kind : (c : Kind) → at ≡ t.length → IsFit plan t.length c → IsFit plan (t.length + min widest_piece (copied_length plan c - at)) c
      by_kind Dat is was = subst (λ n. IsFit plan n Dat) (sym (none_more t.length at)) was
      by_kind Idx is was = (tt, tt)
      by_kind Cpd is was = (tt, tt)
      by_kind Cpx is was = (tt, tt)
      by_kind (Shard i) is was = (omega (arith, is, was.0), tt)
      by_kind Ecx is was = copy_fits (entries_by plan plan.command) t.length at is was.0 was.1
      by_kind Ecj is was = subst (λ n. IsFit plan n Ecj) (sym (none_more t.length at)) was
      by_kind Vif is was = (tt, tt)

  -- ---- any step

  abbrev IsFitBehind : FileState → Type 0
  IsFitBehind t = is_behind t.stage ≡ true → IsFit plan t.length t.kind

  appended_stays : (step : Step) → Stays step → (t : FileState) → IsFitBehind t → IsFitBehind (appended plan place taken step t)
  appended_stays step stays t fits = by_test (goes_on_behind plan place step t) refl
    where
      by_test : (b : Bool) → goes_on_behind plan place step t ≡ b → IsFitBehind (if b then grown_by (piece_length plan taken t.length step) t else t)
      by_test true goes = λ _. let both = and_parts (is_behind t.stage) (goes_on plan place step t) goes in stays t (fits both.0) both.1
      by_test false idle = fits

  staged_stays : (change : FileState → FileState) (t : FileState) → is_behind (change t).stage ≡ false → (b : Bool) → IsFitBehind t → IsFitBehind (if b then change t else t)
  staged_stays change t ends true fits = λ behind. absurd (false≢true (sym ends ∙ behind))
  staged_stays change t ends false fits = fits

  file_stays : (step : Step) (t : FileState) → IsFitBehind t → IsFitBehind (after plan place taken step t)
  file_stays (PutInfo server) t fits = staged_stays (put_whole (length (info_text plan.info))) t refl (is_file server Vif t) fits
  file_stays (WriteEntries at) t fits = appended_stays (WriteEntries at) (entries_stay at) t fits
  file_stays (PutJournal server at) t fits = appended_stays (PutJournal server at) (journal_stays server at) t fits
  file_stays (MakePiece row at) t fits = appended_stays (MakePiece row at) (make_stays row at) t fits
  file_stays (MendPiece at) t fits = appended_stays (MendPiece at) (mend_stays at) t fits
  file_stays (JoinPiece row block at) t fits = appended_stays (JoinPiece row block at) (join_stays row block at) t fits
  file_stays (JoinDeletes at) t fits = appended_stays (JoinDeletes at) (deletes_stay at) t fits
  file_stays (CopyPiece from to kind at) t fits = appended_stays (CopyPiece from to kind at) (copy_stays from to kind at) t fits
  file_stays (Sync server kind) t fits = staged_stays (at_stage Synced) t refl (is_file server kind t) fits
  file_stays (Register server kind) t fits = staged_stays (at_stage Registered) t refl (is_file server kind t) fits
  file_stays (Unregister server kind) t fits = staged_stays (at_stage Gone) t refl (is_file server kind t) fits
  file_stays (DropIndex server) t fits = staged_stays (at_stage Gone) t refl (is_file server Idx t) fits
  file_stays (DropData server) t fits = staged_stays (at_stage Gone) t refl (is_file server Dat t) fits

place_stays : (plan : Plan) (place next : ℕ) (step : Step) → place ≤ joined_length plan → PlaceAfter plan place next step → next ≤ joined_length plan
place_stays plan place next (PutInfo server) short moves = omega (arith, short, moves)
place_stays plan place next (WriteEntries at) short moves = by_command (is_encode plan.command) moves
  where
    by_reading : ReadsOn (joined_length plan) place next → next ≤ joined_length plan
    by_reading (inl end) = omega (arith, end)
    by_reading (inr on) = on.1

    by_command : (b : Bool) → WritesOn plan place next b → next ≤ joined_length plan
    by_command true same = omega (arith, short, same)
    by_command false reads = by_reading reads
place_stays plan place next (PutJournal server at) short moves = omega (arith, short, moves)
place_stays plan place next (MakePiece row at) short moves = omega (arith, short, moves)
place_stays plan place next (MendPiece at) short moves = omega (arith, short, moves)
place_stays plan place next (JoinPiece row block at) short moves = omega (arith, short, moves)
place_stays plan place next (JoinDeletes at) short moves = omega (arith, short, moves)
place_stays plan place next (CopyPiece from to kind at) short moves = omega (arith, short, moves)
place_stays plan place next (Sync server kind) short moves = omega (arith, short, moves)
place_stays plan place next (Register server kind) short moves = omega (arith, short, moves)
place_stays plan place next (Unregister server kind) short moves = omega (arith, short, moves)
place_stays plan place next (DropIndex server) short moves = omega (arith, short, moves)
place_stays plan place next (DropData server) short moves = omega (arith, short, moves)

-- After each step the lengths are so again.
pub short_on : (plan : Plan) (states onward : List FileState) (place next : ℕ) (step : Step) → AreShort plan states place → AreInUnits plan states → IsAfter plan step states place onward next → AreShort plan onward next × AreInUnits plan onward
short_on plan states onward place next step short units stepped = (
  record { next = place_stays plan place next step short.next stepped.moves; lengths = λ k u at behind. (each k u at behind).0 },
  record { units = λ k u at behind. (each k u at behind).1 },
)
  where
    each : (k : ℕ) (u : FileState) → slice_get onward k ≡ Some u → is_behind u.stage ≡ true → IsFit plan u.length u.kind
    each k u at behind =
        let found = named_at (after plan place stepped.taken step) states k u (ap (λ xs. slice_get xs k) (sym stepped.files) ∙ at) in
        subst (IsFitBehind plan place stepped.taken) found.2
        (file_stays plan place stepped.taken step found.0 (λ was. (short.lengths k found.0 found.1 was, units.units k found.0 found.1 was))) behind

-- At the start nothing is written.
pub short_first : (plan : Plan) (servers : ℕ) → IsPlan plan servers → AreShort plan (first_states plan (list_of plan)) 8 × AreInUnits plan (first_states plan (list_of plan))
short_first plan servers is = (
  record { next = omega (arith, is.some_bytes); lengths = λ k u at behind. (each k u at).0 },
  record { units = λ k u at behind. (each k u at).1 },
)
  where
    none : (kind : Kind) → IsFit plan 0 kind
    none Dat = (omega arith, omega arith)
    none Idx = (tt, tt)
    none Cpd = (tt, tt)
    none Cpx = (tt, tt)
    none (Shard i) = (omega arith, tt)
    none Ecx = (omega arith, omega arith)
    none Ecj = (omega arith, omega arith)
    none Vif = (tt, tt)

    each : (k : ℕ) (u : FileState) → slice_get (first_states plan (list_of plan)) k ≡ Some u → IsFit plan u.length u.kind
    each k u at =
        let found = named_at (first_state plan) (list_of plan) k u at in
        subst (λ (v : FileState). IsFit plan v.length v.kind) found.2 (none found.0.1)
