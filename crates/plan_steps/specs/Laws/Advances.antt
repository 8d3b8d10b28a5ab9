-- What a piece leaves of each file that it goes to.
use Rattle.std.proofs.Common.{◌≡◌, ◌≢◌, ◌⊎◌, inl, inr, ℕ, ◌+◌, ◌-◌, ◌*◌, ◌/◌, ◌<◌, ◌≤◌, true, false, length, refl, sym, ◌∙◌, ap, subst, arith}
use Rattle.std.specs.Prelude.{max, min, nat_lt, ◌==◌, ◌&&◌, if◌then◌else◌}
use Rattle.std.proofs.lemmas.Bool.{cases_lt, and_parts, and_from, eqb-true, eq-eqb, ltb-true, false≢true}
use Rattle.world_model.specs.declared.types.Command.{Command}
use Rattle.world_model.specs.declared.types.Command.TheVariants.{Encode, Rebuild, Balance, Decode}
use Rattle.world_model.specs.declared.types.Ratio.{Ratio}
use Rattle.site_model.specs.Counts.{widest_piece}
use Rattle.file_names.specs.declared.Kind.{Kind}
use Rattle.file_names.specs.declared.Kind.TheVariants.{Dat, Idx, Cpd, Cpx, Shard, Ecx, Ecj, Vif}
use Rattle.stripe_layout.specs.Stripes.{rounded_up, shard_length}
use Rattle.plan_steps.specs.declared.plan.Plan.{Plan}
use Rattle.plan_steps.specs.declared.plan.FileState.{FileState}
use Rattle.plan_steps.specs.declared.step.Step.{Step}
use Rattle.plan_steps.specs.declared.step.Step.TheVariants.{WriteEntries, PutJournal, MakePiece, MendPiece, JoinPiece, JoinDeletes, CopyPiece}
use Rattle.plan_steps.specs.Planned.{is_encode}
use Rattle.plan_steps.specs.Walk.{same_kind, is_file}
use Rattle.plan_steps.specs.Laws.Walk.{file_is}
use Rattle.plan_steps.specs.Next.{IsSized, entries_by, joined_length, make_step, join_step, is_data, is_whole}
use Rattle.plan_steps.specs.Legality.{is_make, is_join, is_shard, is_made_kind, is_behind_data, goes_on}
use Rattle.plan_steps.specs.Left.{list_piece, least_read, data_left, shard_left, index_left, pieces_left}
use Rattle.plan_steps.specs.After.{block_of, entries_in_piece, piece_length, ReadsOn, IsShort}
use Rattle.plan_steps.specs.Laws.Blocks.{Falls, plain_falls}
use Rattle.plan_steps.specs.Laws.RowPieces.{make_falls, piece_joins, piece_deletes}

-- ---- kinds

pub data_kind : (kind : Kind) → is_data kind ≡ true → kind ≡ Dat
data_kind Dat e = refl
data_kind Idx e = absurd (false≢true e)
data_kind Cpd e = absurd (false≢true e)
data_kind Cpx e = absurd (false≢true e)
data_kind (Shard i) e = absurd (false≢true e)
data_kind Ecx e = absurd (false≢true e)
data_kind Ecj e = absurd (false≢true e)
data_kind Vif e = absurd (false≢true e)

pub shard_kind : (kind : Kind) → is_shard kind ≡ true → (i : ℕ) × (kind ≡ Shard i)
shard_kind Dat e = absurd (false≢true e)
shard_kind Idx e = absurd (false≢true e)
shard_kind Cpd e = absurd (false≢true e)
shard_kind Cpx e = absurd (false≢true e)
shard_kind (Shard i) e = (i, refl)
shard_kind Ecx e = absurd (false≢true e)
shard_kind Ecj e = absurd (false≢true e)
shard_kind Vif e = absurd (false≢true e)

pub made_kind : (plan : Plan) (server : ℕ) (kind : Kind) → is_made_kind plan server kind ≡ true → (i : ℕ) × (kind ≡ Shard i)
made_kind plan server Dat e = absurd (false≢true e)
made_kind plan server Idx e = absurd (false≢true e)
made_kind plan server Cpd e = absurd (false≢true e)
made_kind plan server Cpx e = absurd (false≢true e)
made_kind plan server (Shard i) e = (i, refl)
made_kind plan server Ecx e = absurd (false≢true e)
made_kind plan server Ecj e = absurd (false≢true e)
made_kind plan server Vif e = absurd (false≢true e)

pub file_kind : (kind : Kind) (t : FileState) → same_kind t.kind kind ≡ true → t.kind ≡ kind
file_kind kind t e = (file_is t.server kind t (and_from (t.server == t.server) (same_kind t.kind kind) (eq-eqb t.server t.server refl) e)).1

-- ---- what is left of a file

-- With these bytes fewer pieces are left of a file than of one that wasn't whole, and none of one that was.
pub record Comes (plan : Plan) (place next n m : ℕ) (kind : Kind) : Type 0 where
  pub fewer : is_whole plan place n kind ≡ false → pieces_left plan next m kind < pieces_left plan place n kind
  pub few : pieces_left plan next m kind < max 1 (pieces_left plan place n kind)

not_whole : (n whole : ℕ) → (n == whole) ≡ false → n ≢ whole
not_whole n whole e same = false≢true (sym e ∙ eq-eqb n whole same)

less_than_one : (whole n old new : ℕ) → Falls whole n old new → new < max 1 old
less_than_one whole n old new falls = by_rest (cases_lt n whole)
  where
    by_rest : (n < whole) ⊎ (whole ≤ n) → new < max 1 old
    by_rest (inl less) = omega (arith, falls.fewer less)
    by_rest (inr more) = omega (arith, falls.none more)

less_than_before : (whole n old new : ℕ) → Falls whole n old new → n ≤ whole → (n == whole) ≡ false → new < old
less_than_before whole n old new falls short e = falls.fewer (omega (arith, short, not_whole n whole e))

-- a piece of plain bytes
long_piece : (width rest c : ℕ) → c ≡ min width rest → (width ≤ c) ⊎ (rest ≤ c)
long_piece width rest c is = by_width (cases_lt width rest)
  where
    by_width : (width < rest) ⊎ (rest ≤ width) → (width ≤ c) ⊎ (rest ≤ c)
    by_width (inl less) = inl (omega (arith, less, is))
    by_width (inr all) = inr (omega (arith, all, is))

-- one of a list
long_list : (total n at : ℕ) → at ≡ n / 16 → (16 * list_piece ≤ 16 * min list_piece (total - at)) ⊎ (16 * total - n ≤ 16 * min list_piece (total - at))
long_list total n at is = by_width (cases_lt list_piece (total - at))
  where
    by_width : (list_piece < total - at) ⊎ (total - at ≤ list_piece) → (16 * list_piece ≤ 16 * min list_piece (total - at)) ⊎ (16 * total - n ≤ 16 * min list_piece (total - at))
    by_width (inl less) = inl (omega (arith, less))
    by_width (inr all) = inr (omega (arith, all, is))

plain_copy : (whole n at : ℕ) → at ≡ n → Falls whole n (rounded_up (whole - n) widest_piece) (rounded_up (whole - (n + min widest_piece (whole - at))) widest_piece)
plain_copy whole n at is = plain_falls whole n (min widest_piece (whole - at)) widest_piece (omega arith) (long_piece widest_piece (whole - n) (min widest_piece (whole - at)) (ap (λ k. min widest_piece (whole - k)) is))

module _ (plan : Plan) (sized : IsSized plan) (place next taken : ℕ) where
  -- each file to which the step's piece goes comes on by it
  abbrev pub Advances : Step → Type 0
  Advances step = (t : FileState) → IsShort plan t.length t.kind → goes_on plan place step t ≡ true → Comes plan place next t.length (t.length + piece_length plan taken t.length step) t.kind

  -- ---- the data file

  data_comes : (n m : ℕ) → Falls (joined_length plan) n (data_left plan n) (data_left plan m) → n ≤ joined_length plan → Comes plan place next n m Dat
  data_comes n m falls short = record {
    fewer = λ e. less_than_before (joined_length plan) n (data_left plan n) (data_left plan m) falls short e;
    few = less_than_one (joined_length plan) n (data_left plan n) (data_left plan m) falls;
  }

  pub join_advances : (row block at : ℕ) → Advances (JoinPiece row block at)
  join_advances row block at t short goes =
      let both = and_parts (is_data t.kind && nat_lt t.length plan.info.dat_size) (is_join row block at (join_step plan.info t.length)) goes in
      let first = and_parts (is_data t.kind) (nat_lt t.length plan.info.dat_size) both.0 in
      let kind = data_kind t.kind first.0 in
      subst (Comes plan place next t.length (t.length + piece_length plan taken t.length (JoinPiece row block at))) (sym kind)
      (data_comes t.length (t.length + piece_length plan taken t.length (JoinPiece row block at))
      (piece_joins plan sized.geometry t.length row block at both.1 (ltb-true t.length plan.info.dat_size first.1)) (subst (IsShort plan t.length) kind short))

  pub deletes_advance : (at : ℕ) → Advances (JoinDeletes at)
  deletes_advance at t short goes =
      let both = and_parts (is_data t.kind) (is_behind_data plan.info.dat_size at t.length) goes in
      let kind = data_kind t.kind both.0 in
      subst (Comes plan place next t.length (t.length + piece_length plan taken t.length (JoinDeletes at))) (sym kind)
      (data_comes t.length (t.length + piece_length plan taken t.length (JoinDeletes at))
      (piece_deletes plan sized.geometry t.length at both.1) (subst (IsShort plan t.length) kind short))

  -- ---- the index of a decode

  read_falls : ReadsOn (joined_length plan) place next → place ≤ joined_length plan → Falls (joined_length plan) place (rounded_up (joined_length plan - place) least_read) (rounded_up (joined_length plan - next) least_read)
  read_falls reads within = subst (λ k. Falls (joined_length plan) place (rounded_up (joined_length plan - place) least_read) (rounded_up (joined_length plan - k) least_read)) (past reads)
      (plain_falls (joined_length plan) place (next - place) least_read (omega arith) (far reads))
    where
      past : ReadsOn (joined_length plan) place next → place + (next - place) ≡ next
      past (inl end) = omega (arith, end, within)
      past (inr on) = omega (arith, on.0)

      far : ReadsOn (joined_length plan) place next → (least_read ≤ next - place) ⊎ (joined_length plan - place ≤ next - place)
      far (inl end) = inr (omega (arith, end))
      far (inr on) = inl (omega (arith, on.0))

  pub read_advances : is_encode plan.command ≡ false → ReadsOn (joined_length plan) place next → place ≤ joined_length plan → (at : ℕ) → Advances (WriteEntries at)
  read_advances decode reads within at t short goes =
      let here : (same_kind t.kind Idx && (at == place)) ≡ true = sym (ap (λ b. if b then same_kind t.kind Ecx && (at == t.length / 16) else same_kind t.kind Idx && (at == place)) decode) ∙ goes in
      let kind = file_kind Idx t (and_parts (same_kind t.kind Idx) (at == place) here).0 in
      let falls = read_falls reads within in
      subst (Comes plan place next t.length (t.length + piece_length plan taken t.length (WriteEntries at))) (sym kind) (record {
        fewer = λ e. less_than_before (joined_length plan) place (rounded_up (joined_length plan - place) least_read) (rounded_up (joined_length plan - next) least_read) falls within e;
        few = less_than_one (joined_length plan) place (rounded_up (joined_length plan - place) least_read) (rounded_up (joined_length plan - next) least_read) falls;
      })

  -- ---- the index and the journal beside shards

  abbrev IndexFalls : Command → ℕ → ℕ → Type 0
  IndexFalls c n m = Falls (16 * entries_by plan c) n (index_left plan c n) (index_left plan c m)

  index_comes : (n m : ℕ) → IndexFalls plan.command n m → n ≤ 16 * entries_by plan plan.command → Comes plan place next n m Ecx
  index_comes n m falls short = record {
    fewer = λ e. less_than_before (16 * entries_by plan plan.command) n (index_left plan plan.command n) (index_left plan plan.command m) falls short e;
    few = less_than_one (16 * entries_by plan plan.command) n (index_left plan plan.command n) (index_left plan plan.command m) falls;
  }

  pub entries_advance : (ratio : Ratio) → plan.command ≡ Encode ratio → (at : ℕ) → Advances (WriteEntries at)
  entries_advance ratio encode at t short goes =
      let here : (same_kind t.kind Ecx && (at == t.length / 16)) ≡ true =
      sym (ap (λ b. if b then same_kind t.kind Ecx && (at == t.length / 16) else same_kind t.kind Idx && (at == place)) (ap is_encode encode)) ∙ goes in
      let both = and_parts (same_kind t.kind Ecx) (at == t.length / 16) here in
      let kind = file_kind Ecx t both.0 in
      let falls : IndexFalls (Encode ratio) t.length (t.length + 16 * min list_piece (length plan.entries.items - at)) =
      plain_falls (16 * length plan.entries.items) t.length (16 * min list_piece (length plan.entries.items - at)) (16 * list_piece) (omega arith) (long_list (length plan.entries.items) t.length at (eqb-true at (t.length / 16) both.1)) in
      subst (Comes plan place next t.length (t.length + piece_length plan taken t.length (WriteEntries at))) (sym kind)
      (index_comes t.length (t.length + piece_length plan taken t.length (WriteEntries at))
      (subst (λ c. IndexFalls c t.length (t.length + 16 * entries_in_piece plan taken at (is_encode c))) (sym encode) falls) (subst (IsShort plan t.length) kind short))

  pub journal_advances : (server at : ℕ) → Advances (PutJournal server at)
  journal_advances server at t short goes =
      let both = and_parts (is_file server Ecj t) (at == t.length / 16) goes in
      let kind = (file_is server Ecj t both.0).1 in
      let falls = plain_falls (16 * length plan.deleted.items) t.length (16 * min list_piece (length plan.deleted.items - at)) (16 * list_piece) (omega arith) (long_list (length plan.deleted.items) t.length at (eqb-true at (t.length / 16) both.1)) in
      subst (Comes plan place next t.length (t.length + piece_length plan taken t.length (PutJournal server at))) (sym kind) (record {
        fewer = λ e. less_than_before (16 * length plan.deleted.items) t.length (pieces_left plan place t.length Ecj) (pieces_left plan next (t.length + 16 * min list_piece (length plan.deleted.items - at)) Ecj) falls (subst (IsShort plan t.length) kind short) e;
        few = less_than_one (16 * length plan.deleted.items) t.length (pieces_left plan place t.length Ecj) (pieces_left plan next (t.length + 16 * min list_piece (length plan.deleted.items - at)) Ecj) falls;
      })

  -- an index that is copied
  copied_index : (c : Command) → is_encode c ≡ false → (n at : ℕ) → at ≡ n → IndexFalls c n (n + min widest_piece (16 * entries_by plan c - at))
  copied_index (Encode ratio) other n at is = absurd (false≢true (sym other))
  copied_index Rebuild other n at is = plain_copy (16 * plan.entry_count) n at is
  copied_index Balance other n at is = plain_copy (16 * plan.entry_count) n at is
  copied_index Decode other n at is = plain_copy (16 * plan.entry_count) n at is

  pub index_advances : is_encode plan.command ≡ false → (from to at : ℕ) → Advances (CopyPiece from to Ecx at)
  index_advances other from to at t short goes =
      let both = and_parts (is_file to Ecx t) (at == t.length) goes in
      let kind = (file_is to Ecx t both.0).1 in
      subst (Comes plan place next t.length (t.length + piece_length plan taken t.length (CopyPiece from to Ecx at))) (sym kind)
      (index_comes t.length (t.length + piece_length plan taken t.length (CopyPiece from to Ecx at)) (copied_index plan.command other t.length at (eqb-true at t.length both.1)) (subst (IsShort plan t.length) kind short))

  -- ---- shards

  abbrev whole_shard : ℕ
  whole_shard = shard_length plan.info.geometry plan.info.dat_size

  abbrev ShardFalls : Command → ℕ → ℕ → Type 0
  ShardFalls c n m = Falls whole_shard n (shard_left plan c n) (shard_left plan c m)

  shard_comes : (i n m : ℕ) → ShardFalls plan.command n m → n ≤ whole_shard → Comes plan place next n m (Shard i)
  shard_comes i n m falls short = record {
    fewer = λ e. less_than_before whole_shard n (shard_left plan plan.command n) (shard_left plan plan.command m) falls short e;
    few = less_than_one whole_shard n (shard_left plan plan.command n) (shard_left plan plan.command m) falls;
  }

  pub make_advances : (ratio : Ratio) → plan.command ≡ Encode ratio → (row at : ℕ) → Advances (MakePiece row at)
  make_advances ratio encode row at t short goes =
      let both = and_parts (is_shard t.kind) (is_make row at (make_step plan.info t.length)) goes in
      let kind = shard_kind t.kind both.0 in
      let falls : ShardFalls (Encode ratio) t.length (t.length + min (min widest_piece (block_of plan.info row - at)) (whole_shard - t.length)) = make_falls plan.info sized.geometry t.length row at both.1 in
      subst (Comes plan place next t.length (t.length + piece_length plan taken t.length (MakePiece row at))) (sym kind.1)
      (shard_comes kind.0 t.length (t.length + piece_length plan taken t.length (MakePiece row at)) (subst (λ c. ShardFalls c t.length (t.length + min (min widest_piece (block_of plan.info row - at)) (whole_shard - t.length))) (sym encode) falls) (subst (IsShort plan t.length) kind.1 short))

  plain_shard : (c : Command) → is_encode c ≡ false → (n at : ℕ) → at ≡ n → ShardFalls c n (n + min widest_piece (whole_shard - at))
  plain_shard (Encode ratio) other n at is = absurd (false≢true (sym other))
  plain_shard Rebuild other n at is = plain_copy whole_shard n at is
  plain_shard Balance other n at is = plain_copy whole_shard n at is
  plain_shard Decode other n at is = plain_copy whole_shard n at is

  pub mend_advances : is_encode plan.command ≡ false → (at : ℕ) → Advances (MendPiece at)
  mend_advances other at t short goes =
      let both = and_parts (is_made_kind plan t.server t.kind) (at == t.length) goes in
      let kind = made_kind plan t.server t.kind both.0 in
      subst (Comes plan place next t.length (t.length + piece_length plan taken t.length (MendPiece at))) (sym kind.1)
      (shard_comes kind.0 t.length (t.length + piece_length plan taken t.length (MendPiece at)) (plain_shard plan.command other t.length at (eqb-true at t.length both.1)) (subst (IsShort plan t.length) kind.1 short))

  pub copy_advances : is_encode plan.command ≡ false → (from to i at : ℕ) → Advances (CopyPiece from to (Shard i) at)
  copy_advances other from to i at t short goes =
      let both = and_parts (is_file to (Shard i) t) (at == t.length) goes in
      let kind = (file_is to (Shard i) t both.0).1 in
      subst (Comes plan place next t.length (t.length + piece_length plan taken t.length (CopyPiece from to (Shard i) at))) (sym kind)
      (shard_comes i t.length (t.length + piece_length plan taken t.length (CopyPiece from to (Shard i) at)) (plain_shard plan.command other t.length at (eqb-true at t.length both.1)) (subst (IsShort plan t.length) kind short))
