-- How many steps a plan has at most.
-- For the running plans of `plan_run`, to come.
use Rattle.std.proofs.Common.{◌≡◌, ◌⊎◌, inl, inr, ℕ, ◌+◌, ◌-◌, ◌*◌, ◌%◌, ◌≤◌, Bool, true, false, List, [], ◌∷◌, ◌++◌, length, map, Some, refl, sym, ◌∙◌, ap, subst, arith}
use Rattle.std.specs.Prelude.{◌||◌, ◌==◌, ◌&&◌, not, filter, flat_map, if◌then◌else◌, is_some}
use Rattle.std.proofs.lemmas.Bool.{and_parts, and_from, eq-eqb}
use Rattle.std.proofs.lemmas.List.{length-map}
use Rattle.std.proofs.lemmas.List.FromFn.{length-range_with_len}
use Rattle.std.proofs.lemmas.List.Sums.{sum_by-cons}
use Rattle.std.proofs.Math.Nat.{div-mul-le_self, mul-le-mul_right}
use Rattle.image_meaning.specs.Files.{all_servers}
use Rattle.image_meaning.specs.Laws.Options.{some_is}
use Rattle.world_model.specs.Sizes.{deletion_length}
use Rattle.world_model.specs.Ratios.{counts-sixteen}
use Rattle.site_model.specs.Counts.{widest_piece}
use Rattle.world_model.specs.declared.types.Command.{Command}
use Rattle.world_model.specs.declared.types.Command.TheVariants.{Encode, Rebuild, Balance, Decode}
use Rattle.file_names.specs.declared.Kind.{Kind}
use Rattle.file_names.specs.declared.Kind.TheVariants.{Dat, Idx, Cpd, Cpx, Shard, Ecx, Ecj, Vif}
use Rattle.stripe_layout.specs.Stripes.{shards_in_all}
use Rattle.shard_table.specs.Table.{Row, place_in}
use Rattle.shard_table.specs.declared.moves.ShardMove.{ShardMove}
use Rattle.plan_steps.specs.declared.plan.Plan.{Plan}
use Rattle.plan_steps.specs.declared.plan.FileState.{FileState}
use Rattle.plan_steps.specs.declared.plan.Stage.TheVariants.{Absent}
use Rattle.plan_steps.specs.Planned.{is_encode, is_at, held, is_found, is_found_coded}
use Rattle.plan_steps.specs.Legal.{IsFound}
use Rattle.plan_steps.specs.Laws.Found.{encode_finds, coded_finds}
use Rattle.plan_steps.specs.Order.{Names, names_of}
use Rattle.plan_steps.specs.Lists.{is_target, shard_names, beside_names, left_names, encode_names, move_names, mend_names, decode_names, list_by, list_of}
use Rattle.plan_steps.specs.Plans.{all_numbers, missing_of, filled, IsPlaced, IsMendPlan, IsPlanBy, IsPlan}
use Rattle.plan_steps.specs.PieceCounts.{pieces, bound_below}
use Rattle.plan_steps.specs.Beginning.{first_stage, first_state, first_states}
use Rattle.plan_steps.specs.Members.{Has, has_any, filter_has}
use Rattle.plan_steps.specs.MendList.{Fills, rebuild_fills, balance_fills, place_found}
use Rattle.plan_steps.specs.Laws.Move.{IsMoved, IsStill, moves_fate, IsFilled, IsPassed, got_filled, length_filled}
use Rattle.plan_steps.specs.Next.{entries_by}
use Rattle.plan_steps.specs.Left.{list_piece, pieces_left, index_left, shard_left, going_left, coming_left, file_left, left_of}
use Rattle.plan_steps.specs.ListParts.{parts_of, parts_by, list_parts}
use Rattle.plan_steps.specs.Laws.PieceBounds.{listed_few, copied_few, shards_few, data_left_few, reading_few}
use Rattle.plan_steps.specs.Laws.FromStart.{left_most}
use Rattle.plan_steps.specs.Laws.Counting.{servers_few, filled_length, filter_few, placed_few, moves_few}

module _ (plan : Plan) where
  -- ---- the steps of one file, and of a list

  abbrev cost : ℕ × Kind → ℕ
  cost name = file_left plan 0 (first_state plan name)

  abbrev total : Names → ℕ
  total names = left_of plan (first_states plan names) 0

  total_cons : (name : ℕ × Kind) (names : Names) → total (name ∷ names) ≡ cost name + total names
  total_cons name names = sum_by-cons (file_left plan 0) (first_state plan name) (first_states plan names)

  total_append : (a b : Names) → total (a ++ b) ≡ total a + total b
  total_append [] b = omega arith
  total_append (name ∷ a) b = omega (arith, total_cons name (a ++ b), total_cons name a, total_append a b)

  -- one file of a kind at each of these servers
  kinds_cost : (kind : Kind) (most : ℕ) → ((server : ℕ) → cost (server, kind) ≤ most) → (servers : List ℕ) → total (map (λ (s : ℕ). (s, kind)) servers) ≤ length servers * most
  kinds_cost kind most each [] = omega arith
  kinds_cost kind most each (s ∷ servers) = omega (arith, total_cons (s, kind) (map (λ (s : ℕ). (s, kind)) servers), each s, kinds_cost kind most each servers)

  some_left : (kind : Kind) → 1 ≤ coming_left plan 0 0 Absent kind
  some_left Dat = omega arith
  some_left Idx = omega arith
  some_left Cpd = omega arith
  some_left Cpx = omega arith
  some_left (Shard i) = omega arith
  some_left Ecx = omega arith
  some_left Ecj = omega arith
  some_left Vif = omega arith

  -- what was found goes by one step
  found_cost : (server : ℕ) (kind : Kind) → IsFound plan server kind → cost (server, kind) ≡ 1
  found_cost server kind found = ap (λ b. if b then going_left (first_stage b) else coming_left plan 0 0 (first_stage b) kind) found

  -- and no file has more than one that is written
  written_cost : (server : ℕ) (kind : Kind) → cost (server, kind) ≤ coming_left plan 0 0 Absent kind
  written_cost server kind = by_found (is_found plan plan.command server kind)
    where
      by_found : (b : Bool) → (if b then going_left (first_stage b) else coming_left plan 0 0 (first_stage b) kind) ≤ coming_left plan 0 0 Absent kind
      by_found true = some_left kind
      by_found false = omega arith

  -- ---- with so many pieces of a shard, and of an index and a journal

  module _ (all : ℕ) (shards : shard_left plan plan.command 0 ≤ all) where
    shard_cost : (server i : ℕ) → cost (server, Shard i) ≤ all + 3
    shard_cost server i = omega (arith, written_cost server (Shard i), shards)

    shards_cost : (targets : List (ℕ × ℕ)) → total (shard_names targets) ≤ length targets * (all + 3)
    shards_cost [] = omega arith
    shards_cost (p ∷ targets) = omega (arith, total_cons (p.1, Shard p.0) (shard_names targets), shard_cost p.1 p.0, shards_cost targets)

  text_cost : (server : ℕ) → cost (server, Vif) ≤ 1
  text_cost server = written_cost server Vif

  module _ (e : ℕ) (index : index_left plan plan.command 0 ≤ e) where
    index_cost : (server : ℕ) → cost (server, Ecx) ≤ e + 3
    index_cost server = omega (arith, written_cost server Ecx, index)

  module _ (e : ℕ) (journal : pieces_left plan 0 0 Ecj ≤ e) where
    journal_cost : (server : ℕ) → cost (server, Ecj) ≤ e + 3
    journal_cost server = omega (arith, written_cost server Ecj, journal)

  -- ---- an encode

  module _ (all e : ℕ) (shards : shard_left plan plan.command 0 ≤ all) (index : index_left plan plan.command 0 ≤ e) (servers : List ℕ) (targets : List (ℕ × ℕ)) where
    abbrev texts : Names
    texts = map (λ (s : ℕ). (s, Vif)) servers

    abbrev indexes : Names
    indexes = map (λ (s : ℕ). (s, Ecx)) servers

    abbrev ends : Names
    ends = (plan.home, Idx) ∷ (plan.home, Dat) ∷ []

    ends_cost : IsFound plan plan.home Idx → IsFound plan plan.home Dat → total ends ≤ 2
    ends_cost idx dat = omega (arith, total_cons (plan.home, Idx) ((plan.home, Dat) ∷ []), total_cons (plan.home, Dat) [], found_cost plan.home Idx idx, found_cost plan.home Dat dat)

    encode_total : length targets ≤ 16 → length servers ≤ length targets → IsFound plan plan.home Idx → IsFound plan plan.home Dat → total (encode_names servers targets plan.home) ≤ 400 + 32 * (all + e)
    encode_total few fewer idx dat =
        let at_most : length servers ≤ 16 = omega (arith, few, fewer) in
        omega (
          arith,
          total_append texts (indexes ++ (shard_names targets ++ ends)),
          total_append indexes (shard_names targets ++ ends),
          total_append (shard_names targets) ends,
          kinds_cost Vif 1 text_cost servers,
          kinds_cost Ecx (e + 3) (index_cost e index) servers,
          shards_cost all shards targets,
          ends_cost idx dat,
          mul-le-mul_right (e + 3) at_most,
          mul-le-mul_right (all + 3) few,
          at_most,
        )

  -- ---- a rebuild and a balance

  module _ (all e d : ℕ) (shards : shard_left plan plan.command 0 ≤ all) (index : index_left plan plan.command 0 ≤ e) (journal : pieces_left plan 0 0 Ecj ≤ d) where
    abbrev beside : ℕ
    beside = e + d + 7

    beside_cost : (server : ℕ) → total (beside_names server) ≤ beside
    beside_cost server = omega (arith, total_cons (server, Vif) ((server, Ecx) ∷ (server, Ecj) ∷ []), total_cons (server, Ecx) ((server, Ecj) ∷ []), total_cons (server, Ecj) [], text_cost server, index_cost e index server, journal_cost d journal server)

    all_beside : (servers : List ℕ) → total (flat_map beside_names servers) ≤ length servers * beside
    all_beside [] = omega arith
    all_beside (s ∷ servers) = omega (arith, total_append (beside_names s) (flat_map beside_names servers), beside_cost s, all_beside servers)

    beside_if : (has : Bool) (server : ℕ) → total (if has then [] else beside_names server) ≤ beside
    beside_if true server = omega arith
    beside_if false server = beside_cost server

    moves_cost : (has : ℕ → Bool) (moves : List ShardMove) → ((m : ShardMove) → Has moves m → IsFound plan m.from (Shard m.shard)) → total (move_names has moves) ≤ length moves * (beside + all + 4)
    moves_cost has [] sources = omega arith
    moves_cost has (m ∷ moves) sources =
        omega (
          arith,
          total_append (if has m.to then [] else beside_names m.to) ((m.to, Shard m.shard) ∷ (m.from, Shard m.shard) ∷ move_names (λ s. has s || (m.to == s)) moves),
          beside_if (has m.to) m.to,
          total_cons (m.to, Shard m.shard) ((m.from, Shard m.shard) ∷ move_names (λ s. has s || (m.to == s)) moves),
          shard_cost all shards m.to m.shard,
          total_cons (m.from, Shard m.shard) (move_names (λ s. has s || (m.to == s)) moves),
          found_cost m.from (Shard m.shard) (sources m (inl refl)),
          moves_cost (λ s. has s || (m.to == s)) moves (λ o rest. sources o (inr rest)),
        )

    mend_total : (servers : List ℕ) (targets : List (ℕ × ℕ)) (has : ℕ → Bool) (moves : List ShardMove) → length targets ≤ 16 → length servers ≤ length targets → length moves ≤ 16
        → ((m : ShardMove) → Has moves m → IsFound plan m.from (Shard m.shard)) → total (flat_map beside_names servers ++ (shard_names targets ++ move_names has moves)) ≤ 400 + 32 * (all + (e + d))
    mend_total servers targets has moves few fewer few_moves sources =
        let at_most : length servers ≤ 16 = omega (arith, few, fewer) in
        omega (
          arith,
          total_append (flat_map beside_names servers) (shard_names targets ++ move_names has moves),
          total_append (shard_names targets) (move_names has moves),
          all_beside servers,
          shards_cost all shards targets,
          moves_cost has moves sources,
          mul-le-mul_right beside at_most,
          mul-le-mul_right (all + 3) few,
          mul-le-mul_right (beside + all + 4) few_moves,
        )

  -- ---- a decode

  shards_go : (places : List (ℕ × ℕ)) → ((p : ℕ × ℕ) → Has places p → IsFound plan p.1 (Shard p.0)) → total (shard_names places) ≤ length places
  shards_go [] found = omega arith
  shards_go (p ∷ places) found = omega (arith, total_cons (p.1, Shard p.0) (shard_names places), found_cost p.1 (Shard p.0) (found p (inl refl)), shards_go places (λ q has. found q (inr has)))

  left_go : (servers : List ℕ) → ((s : ℕ) (kind : Kind) → Has servers s → Has (left_names s) (s, kind) → IsFound plan s kind) → total (flat_map left_names servers) ≤ length servers * 3
  left_go [] found = omega arith
  left_go (s ∷ servers) found =
      omega (
        arith,
        total_append (left_names s) (flat_map left_names servers),
        total_cons (s, Ecx) ((s, Ecj) ∷ (s, Vif) ∷ []),
        total_cons (s, Ecj) ((s, Vif) ∷ []),
        total_cons (s, Vif) [],
        found_cost s Ecx (found s Ecx (inl refl) (inl refl)),
        found_cost s Ecj (found s Ecj (inl refl) (inr (inl refl))),
        found_cost s Vif (found s Vif (inl refl) (inr (inr (inl refl)))),
        left_go servers (λ t kind has. found t kind (inr has)),
      )

  module _ (all e : ℕ) (dat : pieces_left plan 0 0 Dat ≤ 12 * all + e) (idx : pieces_left plan 0 0 Idx ≤ 13 * all + 2 * e) where
    decode_total : (places : List (ℕ × ℕ)) (servers : List ℕ) → length places ≤ 16 → length servers ≤ length places → total (shard_names places) ≤ length places → total (flat_map left_names servers) ≤ length servers * 3
        → total (decode_names plan.home (shard_names places ++ flat_map left_names servers)) ≤ 400 + 32 * (all + e)
    decode_total places servers few fewer shards left =
        omega (
          arith,
          total_cons (plan.home, Dat) ((plan.home, Idx) ∷ (shard_names places ++ flat_map left_names servers)),
          total_cons (plan.home, Idx) (shard_names places ++ flat_map left_names servers),
          total_append (shard_names places) (flat_map left_names servers),
          shards,
          left,
          few,
          fewer,
          written_cost plan.home Dat,
          written_cost plan.home Idx,
          dat,
          idx,
        )

-- ---- what the plans have

-- A move takes a shard from where it was found.
module _ (plan : Plan) (servers : ℕ) (is : IsMendPlan servers plan) (fills : Fills servers plan is.row) (coded : is_encode plan.command ≡ false) where
  from_found : (m : ShardMove) → Has plan.moves.items m → IsFound plan m.from (Shard m.shard)
  from_found m has = by_fate (moves_fate servers plan.moves.items (filled is.row plan.targets.items) (got_filled plan.targets.items) is.moves.in_turn fills.few m.shard)
    where
      by_place : (move : ShardMove) → m.from ≡ move.from → place_in (filled is.row plan.targets.items) m.shard ≡ Some move.from → (got_filled plan.targets.items move.from ≡ true → ⊥) → IsFilled is.row plan.targets.items m.shard ⊎ IsPassed is.row plan.targets.items m.shard → IsFound plan m.from (Shard m.shard)
      by_place move same from old (inl filled) =
          let here : filled.server ≡ move.from = some_is filled.server move.from (sym filled.placed ∙ from) in
          absurd (old (has_any (λ (p : ℕ × ℕ). p.1 == move.from) plan.targets.items (m.shard, filled.server) filled.has (eq-eqb filled.server move.from here)))
      by_place move same from old (inr passed) =
          coded_finds plan m.from (Shard m.shard) coded ∙ place_found plan servers is.row is.placed m.shard m.from (sym passed.same ∙ from ∙ ap Some (sym same))

      by_fate : IsMoved (filled is.row plan.targets.items) (got_filled plan.targets.items) plan.moves.items m.shard ⊎ IsStill (filled is.row plan.targets.items) plan.moves.items m.shard → IsFound plan m.from (Shard m.shard)
      by_fate (inl moved) = by_place moved.move (moved.only m has refl).0 moved.from moved.old_source (fills.fate m.shard)
      by_fate (inr still) = absurd (still.none m has refl)

  moves_at_most : length plan.moves.items ≤ 16
  moves_at_most = omega (arith, moves_few servers plan.moves.items (filled is.row plan.targets.items) (got_filled plan.targets.items) is.moves.in_turn fills.few, length_filled plan.targets.items is.row, is.placed.is_row.shards)

numbers_few : (plan : Plan) → length (all_numbers plan.info.geometry) ≤ 16
numbers_few plan = omega (arith, length-range_with_len 0 (shards_in_all plan.info.geometry), counts-sixteen plan.info.geometry.ratio)

places_few : (plan : Plan) (servers : ℕ) (row : Row) → IsPlaced servers plan row → length plan.places.items ≤ 16
places_few plan servers row is = omega (arith, ap length is.places, placed_few row (all_numbers plan.info.geometry), numbers_few plan)

-- ---- any plan

most_at_first : (plan : Plan) (servers : ℕ) → IsPlan plan servers → left_of plan (first_states plan (list_of plan)) 0 ≤ 400 + 32 * (pieces plan.info.geometry plan.info.dat_size + list_parts plan)
most_at_first plan servers is = by_command plan.command refl is.made
  where
    shards : shard_left plan plan.command 0 ≤ pieces plan.info.geometry plan.info.dat_size
    shards = shards_few plan is.geometry plan.command

    mends : (c : Command) → plan.command ≡ c → is_encode plan.command ≡ false → index_left plan plan.command 0 ≤ parts_of plan.entry_count → (mend : IsMendPlan servers plan) → Fills servers plan mend.row → length plan.targets.items ≤ 16
        → left_of plan (first_states plan (mend_names plan)) 0 ≤ 400 + 32 * (pieces plan.info.geometry plan.info.dat_size + (parts_of plan.entry_count + parts_of (length plan.deleted.items)))
    mends c e coded index mend fills few =
        mend_total plan (pieces plan.info.geometry plan.info.dat_size) (parts_of plan.entry_count) (parts_of (length plan.deleted.items)) shards index (listed_few (length plan.deleted.items))
        (filter (λ s. is_target plan s && not (held plan s)) all_servers) plan.targets.items (λ s. held plan s || is_target plan s) plan.moves.items few
        (servers_few (λ s. is_target plan s && not (held plan s)) plan.targets.items (λ s e. (and_parts (is_target plan s) (not (held plan s)) e).0))
        (moves_at_most plan servers mend fills coded) (from_found plan servers mend fills coded)

    by_command : (c : Command) → plan.command ≡ c → IsPlanBy servers plan c → left_of plan (first_states plan (list_by plan c)) 0 ≤ 400 + 32 * (pieces plan.info.geometry plan.info.dat_size + parts_by plan c)
    by_command (Encode ratio) e made =
        encode_total plan (pieces plan.info.geometry plan.info.dat_size) (parts_of (length plan.entries.items)) shards (subst (λ c. index_left plan c 0 ≤ parts_of (length plan.entries.items)) (sym e) (listed_few (length plan.entries.items)))
        (filter (is_target plan) all_servers) plan.targets.items
        (omega (arith, ap length made.0.targets, length-map {B = ℕ × ℕ} (all_numbers plan.info.geometry) (λ i. (i, i % servers)), numbers_few plan))
        (servers_few (is_target plan) plan.targets.items (λ s e. e))
        (encode_finds plan plan.home Idx (ap is_encode e) ∙ eq-eqb plan.home plan.home refl) (encode_finds plan plan.home Dat (ap is_encode e) ∙ eq-eqb plan.home plan.home refl)
    by_command Rebuild e made =
        mends Rebuild e (ap is_encode e) (subst (λ c. index_left plan c 0 ≤ parts_of plan.entry_count) (sym e) (copied_few plan.entry_count)) made.0 (rebuild_fills plan servers made.0.row made.0.placed made.1)
        (omega (arith, filled_length servers (missing_of plan.info.geometry made.0.row) plan.targets.items made.0.row made.1, filter_few (λ i. not (is_some (place_in made.0.row i))) 0 (shards_in_all plan.info.geometry), counts-sixteen plan.info.geometry.ratio))
    by_command Balance e made =
        mends Balance e (ap is_encode e) (subst (λ c. index_left plan c 0 ≤ parts_of plan.entry_count) (sym e) (copied_few plan.entry_count)) made.0 (balance_fills plan servers made.0.row made.0.placed made.1)
        (omega (arith, ap length made.1))
    by_command Decode e made =
        decode_total plan (pieces plan.info.geometry plan.info.dat_size) (parts_of (length plan.deleted.items)) (data_left_few plan is.geometry) (reading_few plan is.geometry) plan.places.items (filter (held plan) all_servers)
        (places_few plan servers made.row made.placed) (servers_few (held plan) plan.places.items (λ s e. e))
        (shards_go plan plan.places.items (λ p has. coded_finds plan p.1 (Shard p.0) (ap is_encode e) ∙ has_any (is_at p.0 p.1) plan.places.items p has (and_from (p.0 == p.0) (p.1 == p.1) (eq-eqb p.0 p.0 refl) (eq-eqb p.1 p.1 refl))))
        (left_go plan (filter (held plan) all_servers) (λ s kind has left. coded_finds plan s kind (ap is_encode e) ∙ left_held s kind (filter_has (held plan) all_servers s has).1 left))
      where
        left_held : (s : ℕ) (kind : Kind) → held plan s ≡ true → Has (left_names s) (s, kind) → is_found_coded plan s kind ≡ true
        left_held s kind e (inl same) = subst (λ (p : ℕ × Kind). is_found_coded plan p.0 p.1 ≡ true) same e
        left_held s kind e (inr (inl same)) = subst (λ (p : ℕ × Kind). is_found_coded plan p.0 p.1 ≡ true) same e
        left_held s kind e (inr (inr (inl same))) = subst (λ (p : ℕ × Kind). is_found_coded plan p.0 p.1 ≡ true) same e
        left_held s kind e (inr (inr (inr none))) = absurd none

-- At each progress a plan has at most so many steps left: of each piece of the rows of its volume 32, and of each part of its lists.
pub left_bound : (plan : Plan) (servers : ℕ) → IsPlan plan servers → (states : List FileState) (place : ℕ) → names_of states ≡ list_of plan
    → left_of plan states place ≤ 400 + 32 * (pieces plan.info.geometry plan.info.dat_size + list_parts plan)
left_bound plan servers is states place listed =
    omega (arith, left_most plan is.geometry states place, ap (λ names. left_of plan (first_states plan names) 0) listed, most_at_first plan servers is)

-- ---- by the bytes of the volume

parts_small : (n : ℕ) → widest_piece * parts_of n ≤ deletion_length * n + widest_piece
parts_small n = omega (arith, div-mul-le_self (n + list_piece - 1) list_piece)

lists_small : (plan : Plan) (c : Command) → widest_piece * parts_by plan c ≤ deletion_length * (entries_by plan c + length plan.deleted.items) + 2 * widest_piece
lists_small plan (Encode ratio) = omega (arith, parts_small (length plan.entries.items))
lists_small plan Rebuild = omega (arith, parts_small plan.entry_count, parts_small (length plan.deleted.items))
lists_small plan Balance = omega (arith, parts_small plan.entry_count, parts_small (length plan.deleted.items))
lists_small plan Decode = omega (arith, parts_small (length plan.deleted.items))

-- So they are fewer than the lines that a job has for them, where the volume has so many bytes in use: as many as the data file
-- that was coded, and a third of those of the records that its lists name.
pub left_within : (plan : Plan) (servers used : ℕ) → IsPlan plan servers → (states : List FileState) (place : ℕ) → names_of states ≡ list_of plan
    → plan.info.dat_size ≤ used → deletion_length * (entries_by plan plan.command + length plan.deleted.items) ≤ 3 * used → left_of plan states place ≤ 32 * used + 999999
left_within plan servers used is states place listed coded named =
    omega (
      arith,
      left_bound plan servers is states place listed,
      bound_below plan.info.geometry plan.info.dat_size used (list_parts plan) is.geometry coded (omega (arith, lists_small plan plan.command, named)),
    )
