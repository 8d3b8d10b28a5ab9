-- The data file of a list is the one at the plan's home.
-- For `run_step` of the running plans of `plan_run`, to come.
use Rattle.std.proofs.Common.{◌≡◌, ◌≢◌, inl, inr, ⊎_elim, ℕ, Bool, true, false, List, [], ◌∷◌, ◌++◌, map, Some, sym, ap}
use Rattle.std.specs.Prelude.{◌||◌, ◌&&◌, ◌==◌, not, if◌then◌else◌, filter, flat_map, slice_get}
use Rattle.world_model.specs.declared.types.Command.{Command}
use Rattle.world_model.specs.declared.types.Command.TheVariants.{Encode, Rebuild, Balance, Decode}
use Rattle.file_names.specs.declared.Kind.{Kind}
use Rattle.file_names.specs.declared.Kind.TheVariants.{Dat, Idx, Shard, Ecx, Ecj, Vif}
use Rattle.shard_table.specs.declared.moves.ShardMove.{ShardMove}
use Rattle.image_meaning.specs.Files.{all_servers}
use Rattle.plan_steps.specs.declared.plan.Plan.{Plan}
use Rattle.plan_steps.specs.Planned.{held}
use Rattle.plan_steps.specs.Order.{Names}
use Rattle.plan_steps.specs.Lists.{is_target, shard_names, beside_names, left_names, encode_names, move_names, mend_names, decode_names, list_by, list_of}
use Rattle.plan_steps.specs.Members.{Has, at_has, has_either, map_has, flat_has}

module _ (plan : Plan) where
  abbrev AtHome : Names → Type 0
  AtHome names = (server : ℕ) → Has names (server, Dat) → server ≡ plan.home

  other_kind : (n server : ℕ) (c : Kind) → c ≢ Dat → ◌≡◌ {A = ℕ × Kind} (n, c) (server, Dat) → server ≡ plan.home
  other_kind n server c other e = absurd (other (ap (λ (p : ℕ × Kind). p.1) e))

  both_home : (a b : Names) → AtHome a → AtHome b → AtHome (a ++ b)
  both_home a b first second server has = ⊎_elim (first server) (second server) (has_either a b (server, Dat) has)

  kinds_home : (c : Kind) → c ≢ Dat → (ss : List ℕ) → AtHome (map (λ s. (s, c)) ss)
  kinds_home c other ss server has = let found = map_has (λ s. (s, c)) ss (server, Dat) has in other_kind found.0 server c other found.2

  shards_home : (ts : List (ℕ × ℕ)) → AtHome (shard_names ts)
  shards_home ts server has = let found = map_has (λ (p : ℕ × ℕ). (p.1, Shard p.0)) ts (server, Dat) has in other_kind found.0.1 server (Shard found.0.0) (λ e. cc) found.2

  flat_home : (f : ℕ → Names) (ss : List ℕ) → ((s : ℕ) → AtHome (f s)) → AtHome (flat_map f ss)
  flat_home f ss each server has = let found = flat_has f ss (server, Dat) has in each found.0 server found.2

  beside_home : (s : ℕ) → AtHome (beside_names s)
  beside_home s server (inl e) = other_kind s server Vif (λ e. cc) e
  beside_home s server (inr (inl e)) = other_kind s server Ecx (λ e. cc) e
  beside_home s server (inr (inr (inl e))) = other_kind s server Ecj (λ e. cc) e
  beside_home s server (inr (inr (inr none))) = absurd none

  left_home : (s : ℕ) → AtHome (left_names s)
  left_home s server (inl e) = other_kind s server Ecx (λ e. cc) e
  left_home s server (inr (inl e)) = other_kind s server Ecj (λ e. cc) e
  left_home s server (inr (inr (inl e))) = other_kind s server Vif (λ e. cc) e
  left_home s server (inr (inr (inr none))) = absurd none

  moves_home : (has : ℕ → Bool) (moves : List ShardMove) → AtHome (move_names has moves)
  moves_home has [] server there = absurd there
  moves_home has (m ∷ moves) server there =
      both_home (if has m.to then [] else beside_names m.to) ((m.to, Shard m.shard) ∷ (m.from, Shard m.shard) ∷ move_names (λ s. has s || (m.to == s)) moves) (front (has m.to)) (behind (moves_home (λ s. has s || (m.to == s)) moves)) server there
    where
      front : (b : Bool) → AtHome (if b then [] else beside_names m.to)
      front true server there = absurd there
      front false server there = beside_home m.to server there

      behind : AtHome (move_names (λ s. has s || (m.to == s)) moves) → AtHome ((m.to, Shard m.shard) ∷ (m.from, Shard m.shard) ∷ move_names (λ s. has s || (m.to == s)) moves)
      behind rest server (inl e) = other_kind m.to server (Shard m.shard) (λ e. cc) e
      behind rest server (inr (inl e)) = other_kind m.from server (Shard m.shard) (λ e. cc) e
      behind rest server (inr (inr there)) = rest server there

  mend_home : AtHome (mend_names plan)
  mend_home = both_home (flat_map beside_names (filter (λ s. is_target plan s && not (held plan s)) all_servers)) (shard_names plan.targets.items ++ move_names (λ s. held plan s || is_target plan s) plan.moves.items)
      (flat_home beside_names (filter (λ s. is_target plan s && not (held plan s)) all_servers) beside_home)
      (both_home (shard_names plan.targets.items) (move_names (λ s. held plan s || is_target plan s) plan.moves.items) (shards_home plan.targets.items) (moves_home (λ s. held plan s || is_target plan s) plan.moves.items))

  encode_home : (homes : List ℕ) → AtHome (encode_names homes plan.targets.items plan.home)
  encode_home homes = both_home (map (λ s. (s, Vif)) homes) (map (λ s. (s, Ecx)) homes ++ (shard_names plan.targets.items ++ ((plan.home, Idx) ∷ (plan.home, Dat) ∷ []))) (kinds_home Vif (λ e. cc) homes)
      (both_home (map (λ s. (s, Ecx)) homes) (shard_names plan.targets.items ++ ((plan.home, Idx) ∷ (plan.home, Dat) ∷ [])) (kinds_home Ecx (λ e. cc) homes)
      (both_home (shard_names plan.targets.items) ((plan.home, Idx) ∷ (plan.home, Dat) ∷ []) (shards_home plan.targets.items) ends))
    where
      ends : AtHome ((plan.home, Idx) ∷ (plan.home, Dat) ∷ [])
      ends server (inl e) = other_kind plan.home server Idx (λ e. cc) e
      ends server (inr (inl e)) = ap (λ (p : ℕ × Kind). p.0) (sym e)
      ends server (inr (inr none)) = absurd none

  decode_home : (found : Names) → AtHome found → AtHome (decode_names plan.home found)
  decode_home found rest server (inl e) = ap (λ (p : ℕ × Kind). p.0) (sym e)
  decode_home found rest server (inr (inl e)) = other_kind plan.home server Idx (λ e. cc) e
  decode_home found rest server (inr (inr has)) = rest server has

  by_command : (c : Command) → AtHome (list_by plan c)
  by_command (Encode ratio) = encode_home (filter (is_target plan) all_servers)
  by_command Rebuild = mend_home
  by_command Balance = mend_home
  by_command Decode = decode_home (shard_names plan.places.items ++ flat_map left_names (filter (held plan) all_servers))
      (both_home (shard_names plan.places.items) (flat_map left_names (filter (held plan) all_servers)) (shards_home plan.places.items) (flat_home left_names (filter (held plan) all_servers) left_home))

  pub data_home : (k server : ℕ) → slice_get (list_of plan) k ≡ Some (server, Dat) → server ≡ plan.home
  data_home k server at = by_command plan.command server (at_has (list_of plan) k (server, Dat) at)
