-- A table of a volume without shards, and an index of a few entries. For the tests.
use Rattle.std.proofs.Common.{◌≡◌, ℕ, zero, suc, ◌+◌, ◌≤◌, Bool, true, false, cond, Option, None, replicate, get_or, refl, sym, ◌∙◌, ap, subst, arith}
use Rattle.std.specs.Prelude.{unwrap_or}
use Rattle.std.specs.Ordering.{nat_cmp}
use Rattle.std.specs.Cmp.{nat_cmp_total}
use Rattle.std.specs.FinMap.{FinMap, contains_key, empty, get-empty, insert, len, len-insert}
use Rattle.volume_forms.specs.declared.Entry.{Entry}
use Rattle.file_names.specs.Names.{max_shards}
use Rattle.shard_table.specs.Table.{Row, Table, no_places, place_in, row_of, with_volume}
use Rattle.shard_table.specs.Laws.Table.{row_of-with_volume}
use Rattle.plan_steps.specs.Ending.{HasNoPlaces}

len_more : (m : FinMap nat_cmp Entry) (id : ℕ) (e : Entry) → len (insert m id e) ≤ len m + 1
len_more m id e = subst (λ n. n ≤ len m + 1) (sym (len-insert nat_cmp_total m id e)) (by_key (contains_key m id))
  where
    by_key : (b : Bool) → cond b (len m) (len m + 1) ≤ len m + 1
    by_key true = omega arith
    by_key false = omega arith

-- one entry more at most
pub put_more : (m n : FinMap nat_cmp Entry) (id : ℕ) (e : Entry) → n ≡ insert m id e → len n ≤ len m + 1
put_more m n id e is = subst (λ q. len q ≤ len m + 1) (sym is) (len_more m id e)

none_in : (n i : ℕ) → get_or (replicate {A = Option ℕ} n None) i None ≡ None
none_in zero i = refl
none_in (suc n) zero = refl
none_in (suc n) (suc i) = none_in n i

pub added_empty : (servers volume : ℕ) → HasNoPlaces (row_of (with_volume (record { servers = servers; rows = empty }) volume) volume)
added_empty servers volume i h =
    let t : Table = record { servers = servers; rows = empty } in
    let row : row_of (with_volume t volume) volume ≡ no_places = row_of-with_volume t volume volume ∙ ap (λ (o : Option Row). unwrap_or o no_places) (get-empty {X = Row} nat_cmp volume) in
    ap (λ (r : Row). place_in r i) row ∙ none_in max_shards i
