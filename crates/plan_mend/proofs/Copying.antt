-- A table that gets the places of a volume one by one.
use Rattle.std.proofs.Common.{◌≡◌, ⊎_elim, ℕ, ◌+◌, ◌<◌, length, length-set, get_or-set_same, get_or-set_other, ext_get_or, Option, None, slice_set, sym, ◌∙◌, ap, subst, arith}
use Rattle.std.specs.Prelude.{if◌then◌else◌}
use Rattle.std.specs.Ordering.{is_eq}
use Rattle.std.specs.Cmp.{nat_cmp_total, tied_itself}
use Rattle.std.proofs.lemmas.Bool.{cases_eq}
use Rattle.file_names.specs.Names.{max_shards}
use Rattle.shard_table.specs.Table.{Row, Table, place_in, row_of, with_place}
use Rattle.shard_table.specs.Laws.Table.{row_of-with_place}

-- the row of the volume itself
pub row_set : (t : Table) (volume shard : ℕ) (place : Option ℕ) → row_of (with_place t volume shard place) volume ≡ slice_set (row_of t volume) shard place
row_set t volume shard place = row_of-with_place t volume shard place volume ∙ ap (λ o. if is_eq o then slice_set (row_of t volume) shard place else row_of t volume) (tied_itself nat_cmp_total volume)

-- the first places are copied
pub record IsCopied (k : ℕ) (row copy : Row) : Type 0 where
  pub long : length copy ≡ max_shards
  pub same : (i : ℕ) → i < k → place_in copy i ≡ place_in row i

pub one_copied : (k : ℕ) (row copy : Row) → k < max_shards → IsCopied k row copy → IsCopied (k + 1) row (slice_set copy k (place_in row k))
one_copied k row copy h so_far = record {
  long = length-set copy k (place_in row k) ∙ so_far.long;
  same = λ i below. ⊎_elim
      (λ here. subst (λ j. place_in (slice_set copy k (place_in row k)) j ≡ place_in row j) (sym here) (get_or-set_same copy k (place_in row k) None (omega (arith, h, so_far.long))))
      (λ other. get_or-set_other copy k i (place_in row k) None (λ e. other e) ∙ so_far.same i (omega (arith, below, other)))
      (cases_eq i k);
}

pub all_copied : (row copy : Row) → length row ≡ max_shards → IsCopied max_shards row copy → copy ≡ row
all_copied row copy long copied = ext_get_or None copy row (copied.long ∙ sym long) (λ i h. copied.same i (omega (arith, h, copied.long)))
