-- A plan's list when it begins is that of its command, and begins its progress.
-- The last laws are for `plan_code` and `plan_mend`.
use Rattle.std.proofs.Common.{◌≡◌, ℕ, zero, suc, ◌+◌, ◌<◌, Bool, true, false, List, [], ◌∷◌, ◌++◌, length, take, get_or, refl, sym, ◌∙◌, ap, append_assoc, arith}
use Rattle.std.specs.Prelude.{◌==◌, ◌||◌, if◌then◌else◌, filter, flat_map, slice_get}
use Rattle.std.specs.List.{list_any}
use Rattle.std.proofs.lemmas.List.{map-append}
use Rattle.std.proofs.lemmas.List.Concat.{flat_map_single}
use Rattle.world_model.specs.declared.types.Command.TheVariants.{Encode, Rebuild, Balance, Decode}
use Rattle.world_model.specs.declared.types.Ratio.{Ratio}
use Rattle.file_names.specs.declared.Kind.{Kind}
use Rattle.file_names.specs.declared.Kind.TheVariants.{Dat, Idx, Shard, Ecx, Ecj, Vif}
use Rattle.shard_table.specs.declared.moves.ShardMove.{ShardMove}
use Rattle.plan_steps.specs.declared.plan.Plan.{Plan}
use Rattle.plan_steps.specs.declared.plan.FileState.{FileState}
use Rattle.plan_steps.specs.declared.plan.Progress.{Progress}
use Rattle.image_meaning.specs.Files.{all_servers}
use Rattle.plan_steps.specs.Planned.{held, is_found}
use Rattle.plan_steps.specs.Order.{Names, names_of}
use Rattle.plan_steps.specs.Laws.Order.{named_at}
use Rattle.plan_steps.specs.Lists.{is_target, shard_names, beside_names, left_names, move_names, encode_names, decode_names, mend_names, list_by, list_of}
use Rattle.plan_steps.specs.Progressing.{running}
use Rattle.plan_steps.specs.Laws.Begin.{IsInitial}
use Rattle.plan_steps.specs.Beginning.{first_stage, first_state, first_states, targets_of, is_new_target, new_targets_of, holders_of, has_after, names_at, names_of_move, names_of_moves, encode_list, decode_list, mend_list}

-- ---- the list in parts

-- one part more
pub lists_on : (plan : Plan) (old files after : List FileState) (before more whole : Names) → files ≡ old ++ first_states plan before → after ≡ files ++ first_states plan more → whole ≡ before ++ more → after ≡ old ++ first_states plan whole
lists_on plan old files after before more whole first second parts =
    second ∙ ap (λ fs. fs ++ first_states plan more) first ∙ append_assoc old (first_states plan before) (first_states plan more)
    ∙ ap (λ fs. old ++ fs) (sym (map-append (first_state plan) before more)) ∙ ap (λ names. old ++ first_states plan names) (sym parts)

or_assoc : (a b c : Bool) → ((a || b) || c) ≡ (a || (b || c))
or_assoc true b c = refl
or_assoc false b c = refl

or_false : (a : Bool) → (a || false) ≡ a
or_false true = refl
or_false false = refl

-- the names of one move more
names_more : (has : ℕ → Bool) (moves : List ShardMove) (k : ℕ) (d : ShardMove) → k < length moves
    → move_names has (take (suc k) moves) ≡ move_names has (take k moves) ++ names_of_move (has (get_or moves k d).to || list_any (λ (m : ShardMove). m.to == (get_or moves k d).to) (take k moves)) (get_or moves k d)
names_more has [] k d h = absurd (omega (arith, h))
names_more has (m ∷ moves) zero d h = ap (λ b. (if b then [] else beside_names m.to) ++ ((m.to, Shard m.shard) ∷ (m.from, Shard m.shard) ∷ [])) (sym (or_false (has m.to)))
names_more has (m ∷ moves) (suc k) d h =
    let last = get_or moves k d in
    let rest = names_more (λ s. has s || (m.to == s)) moves k d (omega (arith, h)) in
    ap (λ names. (if has m.to then [] else beside_names m.to) ++ ((m.to, Shard m.shard) ∷ (m.from, Shard m.shard) ∷ names)) rest
    ∙ sym (append_assoc (if has m.to then [] else beside_names m.to) ((m.to, Shard m.shard) ∷ (m.from, Shard m.shard) ∷ move_names (λ s. has s || (m.to == s)) (take k moves))
    (names_of_move ((has last.to || (m.to == last.to)) || list_any (λ (o : ShardMove). o.to == last.to) (take k moves)) last))
    ∙ ap (λ b. ((if has m.to then [] else beside_names m.to) ++ ((m.to, Shard m.shard) ∷ (m.from, Shard m.shard) ∷ move_names (λ s. has s || (m.to == s)) (take k moves))) ++ names_of_move b last)
    (or_assoc (has last.to) (m.to == last.to) (list_any (λ (o : ShardMove). o.to == last.to) (take k moves)))

pub moves_on : (plan : Plan) (old files after : List FileState) (k : ℕ) (d : ShardMove) (has : Bool) → k < length plan.moves.items → files ≡ old ++ first_states plan (names_of_moves plan k)
    → has ≡ has_after plan k (get_or plan.moves.items k d).to → after ≡ files ++ first_states plan (names_of_move has (get_or plan.moves.items k d)) → after ≡ old ++ first_states plan (names_of_moves plan (k + 1))
moves_on plan old files after k d has h first test second =
    let next : k + 1 ≡ suc k = omega arith in
    lists_on plan old files after (names_of_moves plan k) (names_of_move has (get_or plan.moves.items k d)) (names_of_moves plan (k + 1)) first second
    (ap (names_of_moves plan) next ∙ names_more (λ s. held plan s || is_target plan s) plan.moves.items k d h ∙ ap (λ b. names_of_moves plan k ++ names_of_move b (get_or plan.moves.items k d)) (sym test))

-- ---- the command's list

module _ (plan : Plan) (old a b c : List FileState) where
  pub encode_listed : (servers : List ℕ) (d : List FileState) → servers ≡ targets_of plan → a ≡ old ++ first_states plan (flat_map (names_at (Vif ∷ [])) servers) → b ≡ a ++ first_states plan (flat_map (names_at (Ecx ∷ [])) servers)
      → c ≡ b ++ first_states plan (shard_names plan.targets.items) → d ≡ c ++ first_states plan (names_at (Idx ∷ Dat ∷ []) plan.home) → d ≡ old ++ first_states plan (encode_list plan)
  unfolding encode_list
  encode_listed servers d are texts indexes shards ends =
      let two = lists_on plan old a b (flat_map (names_at (Vif ∷ [])) servers) (flat_map (names_at (Ecx ∷ [])) servers) _ texts indexes refl in
      let three = lists_on plan old b c _ (shard_names plan.targets.items) _ two shards refl in
      lists_on plan old c d ((flat_map (names_at (Vif ∷ [])) servers ++ flat_map (names_at (Ecx ∷ [])) servers) ++ shard_names plan.targets.items) (names_at (Idx ∷ Dat ∷ []) plan.home) (encode_list plan) three ends
      (ap (λ ss. encode_names ss plan.targets.items plan.home) (sym are)
      ∙ (λ i. sym (flat_map_single (λ s. (s, Vif)) servers) i ++ (sym (flat_map_single (λ s. (s, Ecx)) servers) i ++ (shard_names plan.targets.items ++ names_at (Idx ∷ Dat ∷ []) plan.home)))
      ∙ sym (append_assoc (flat_map (names_at (Vif ∷ [])) servers) (flat_map (names_at (Ecx ∷ [])) servers) (shard_names plan.targets.items ++ names_at (Idx ∷ Dat ∷ []) plan.home))
      ∙ sym (append_assoc (flat_map (names_at (Vif ∷ [])) servers ++ flat_map (names_at (Ecx ∷ [])) servers) (shard_names plan.targets.items) (names_at (Idx ∷ Dat ∷ []) plan.home)))

  pub decode_listed : (servers : List ℕ) → servers ≡ holders_of plan → a ≡ old ++ first_states plan (names_at (Dat ∷ Idx ∷ []) plan.home) → b ≡ a ++ first_states plan (shard_names plan.places.items)
      → c ≡ b ++ first_states plan (flat_map (names_at (Ecx ∷ Ecj ∷ Vif ∷ [])) servers) → c ≡ old ++ first_states plan (decode_list plan)
  unfolding decode_list
  decode_listed servers are ends shards left =
      let two = lists_on plan old a b (names_at (Dat ∷ Idx ∷ []) plan.home) (shard_names plan.places.items) _ ends shards refl in
      lists_on plan old b c (names_at (Dat ∷ Idx ∷ []) plan.home ++ shard_names plan.places.items) (flat_map (names_at (Ecx ∷ Ecj ∷ Vif ∷ [])) servers) (decode_list plan) two left (ap (λ ss. decode_names plan.home (shard_names plan.places.items ++ flat_map left_names ss)) (sym are))

  pub mend_listed : (servers : List ℕ) → servers ≡ new_targets_of plan → a ≡ old ++ first_states plan (flat_map (names_at (Vif ∷ Ecx ∷ Ecj ∷ [])) servers) → b ≡ a ++ first_states plan (shard_names plan.targets.items)
      → c ≡ b ++ first_states plan (names_of_moves plan (length plan.moves.items)) → c ≡ old ++ first_states plan (mend_list plan)
  unfolding mend_list
  mend_listed servers are beside shards moves =
      let two = lists_on plan old a b (flat_map (names_at (Vif ∷ Ecx ∷ Ecj ∷ [])) servers) (shard_names plan.targets.items) _ beside shards refl in
      lists_on plan old b c (flat_map (names_at (Vif ∷ Ecx ∷ Ecj ∷ [])) servers ++ shard_names plan.targets.items) (names_of_moves plan (length plan.moves.items)) (mend_list plan) two moves
      (ap (λ ss. flat_map beside_names ss ++ (shard_names plan.targets.items ++ names_of_moves plan (length plan.moves.items))) (sym are)
      ∙ sym (append_assoc (flat_map beside_names servers) (shard_names plan.targets.items) (names_of_moves plan (length plan.moves.items))))

pub list_encode : (plan : Plan) (ratio : Ratio) → plan.command ≡ Encode ratio → encode_list plan ≡ list_of plan
unfolding encode_list targets_of
list_encode plan ratio e = sym (ap (list_by plan) e)

pub list_decode : (plan : Plan) → plan.command ≡ Decode → decode_list plan ≡ list_of plan
unfolding decode_list holders_of
list_decode plan e = sym (ap (list_by plan) e)

take_whole : {A : Type 0} (xs : List A) → take (length xs) xs ≡ xs
take_whole [] = refl
take_whole (x ∷ xs) = ap (λ ys. x ∷ ys) (take_whole xs)

mend_all : (plan : Plan) → mend_list plan ≡ mend_names plan
unfolding mend_list new_targets_of
mend_all plan = ap (λ moves. flat_map beside_names (filter (is_new_target plan) all_servers) ++ (shard_names plan.targets.items ++ move_names (λ s. held plan s || is_target plan s) moves)) (take_whole plan.moves.items)

pub list_rebuild : (plan : Plan) → plan.command ≡ Rebuild → mend_list plan ≡ list_of plan
list_rebuild plan e = mend_all plan ∙ sym (ap (list_by plan) e)

pub list_balance : (plan : Plan) → plan.command ≡ Balance → mend_list plan ≡ list_of plan
list_balance plan e = mend_all plan ∙ sym (ap (list_by plan) e)

-- ---- the progress at first

names_again : (plan : Plan) (names : Names) → names_of (first_states plan names) ≡ names
names_again plan [] = refl
names_again plan (name ∷ names) = ap (λ rest. name ∷ rest) (names_again plan names)

-- Its list is the plan's,
pub first_listed : (plan : Plan) (states : List FileState) → states ≡ first_states plan (list_of plan) → names_of states ≡ list_of plan
first_listed plan states is = ap names_of is ∙ names_again plan (list_of plan)

-- and nothing of it was done.
pub first_initial : (plan : Plan) (progress : Progress) → progress.files.items ≡ first_states plan (list_of plan) → progress.place ≡ 8 → IsInitial (running plan progress)
first_initial plan progress is place = record {
  new = λ j s at new.
      let found = named_at (first_state plan) (list_of plan) j s (ap (λ (fs : List FileState). slice_get fs j) (sym is) ∙ at) in
      (ap (λ (x : FileState). x.stage) (sym found.2) ∙ ap first_stage (same found.0 s found.2 ∙ new), ap (λ (x : FileState). x.length) (sym found.2));
  found = λ j s at found_there.
      let found = named_at (first_state plan) (list_of plan) j s (ap (λ (fs : List FileState). slice_get fs j) (sym is) ∙ at) in
      ap (λ (x : FileState). x.stage) (sym found.2) ∙ ap first_stage (same found.0 s found.2 ∙ found_there);
  place = place;
}
  where
    same : (name : ℕ × Kind) (s : FileState) → first_state plan name ≡ s → is_found plan plan.command name.0 name.1 ≡ is_found plan plan.command s.server s.kind
    same name s e = ap (λ (x : FileState). is_found plan plan.command x.server x.kind) e
