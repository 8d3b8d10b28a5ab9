-- A plan has no more steps than a job has lines for them, by the bytes that its volume uses: each record that its lists
-- name takes 32 of them at least.
use Rattle.std.proofs.Common.{◌≡◌, ℕ, ◌+◌, ◌-◌, ◌*◌, ◌≤◌, Bool, true, false, cond, List, [], ◌∷◌, ◌++◌, length, Option, Some, None, refl, ◌∙◌, ap, arith, length-append}
use Rattle.std.specs.Prelude.{flat_map}
use Rattle.std.specs.Ordering.{nat_cmp}
use Rattle.std.specs.Int.{w32, cast_unsigned}
use Rattle.std.specs.Cmp.{nat_cmp_total}
use Rattle.std.specs.FinMap.{empty, len, len-empty, len-entries, len-insert, len-remove, contains_key, entries as pairs_of}
use Rattle.std.proofs.lemmas.Map.Entries.{length-values_of}
use Rattle.wire_num.specs.Numbers.{bytes_of, record_length}
use Rattle.wire_num.specs.Laws.Number.{length-bytes_of}
use Rattle.world_model.specs.World.{Volume, empty_volume}
use Rattle.world_model.specs.declared.types.Command.{Command}
use Rattle.world_model.specs.declared.types.Command.TheVariants.{Encode, Rebuild, Balance, Decode}
use Rattle.world_model.specs.declared.types.Content.{Content}
use Rattle.volume_forms.specs.declared.Entry.{Entry}
use Rattle.volume_forms.specs.Forms.{entry_bytes, entries}
use Rattle.volume_forms.specs.Laws.Entry.{length-entries}
use Rattle.needle_record.specs.Spelling.{record_size}
use Rattle.needle_record.specs.Records.{Placed, Index, records, live, entry_of, fold_from, after_record, index_from, index_of, index_after_content}
use Rattle.shard_table.specs.Table.{Row}
use Rattle.image_meaning.specs.Meaning.{volume_of}
use Rattle.image_meaning.specs.Share.{Share, finals}
use Rattle.plan_steps.specs.Kept.{Forms}
use Rattle.plan_steps.specs.Planned.{is_encode}
use Rattle.plan_steps.specs.Next.{entries_by}
use Rattle.plan_steps.specs.Left.{left_of}
use Rattle.plan_steps.specs.Plans.{IsPlan}
use Rattle.plan_steps.specs.Laws.Bound.{left_within}
use Rattle.plan_steps.specs.Laws.Forms.{len-distinct, used_whole, parts_whole}
use Rattle.plan_steps.specs.Laws.Underway.{of_start}
use Rattle.plan_steps.specs.Progressing.{Running, FitsProgress}

-- ---- records and what they use

record_least : (size : ℕ) → 32 ≤ record_length size
record_least size = omega arith

records_use : (v : Volume) (ps : List Placed) → v.used + 32 * length ps ≤ (fold_from v ps).used
records_use v [] = omega arith
records_use v (p ∷ ps) = omega (arith, record_least (record_size p.1), records_use (after_record v p.1) ps)

-- ---- no more live entries than records

after_few : (index : Index) (p : Placed) (content : Option Content) → len (index_after_content index p content) ≤ len index + 1
after_few index p None = by_test (contains_key index p.1.id) (len-remove nat_cmp_total index p.1.id)
  where
    by_test : (b : Bool) {n : ℕ} → n ≡ cond b (len index - 1) (len index) → n ≤ len index + 1
    by_test true e = omega (arith, e)
    by_test false e = omega (arith, e)
after_few index p (Some content) = by_test (contains_key index p.1.id) (len-insert nat_cmp_total index p.1.id (entry_of p))
  where
    by_test : (b : Bool) {n : ℕ} → n ≡ cond b (len index) (len index + 1) → n ≤ len index + 1
    by_test true e = omega (arith, e)
    by_test false e = omega (arith, e)

index_few : (index : Index) (ps : List Placed) → len (index_from index ps) ≤ len index + length ps
index_few index [] = omega arith
index_few index (p ∷ ps) = omega (arith, after_few index p p.1.content, index_few (index_after_content index p p.1.content) ps)

live_few : (ps : List Placed) → length (live ps) ≤ length ps
live_few ps = omega (arith, length-values_of (pairs_of (index_of ps)), len-entries (index_of ps), index_few empty ps, len-empty nat_cmp Entry)

-- ---- the entries that a plan tells of

length-entry_bytes : (e : Entry) → length (entry_bytes e) ≡ 16
length-entry_bytes e =
    length-append (bytes_of 8 e.id ++ bytes_of 4 e.offset) (bytes_of 4 (cast_unsigned w32 e.size))
    ∙ ap (λ n. n + length (bytes_of 4 (cast_unsigned w32 e.size))) (length-append (bytes_of 8 e.id) (bytes_of 4 e.offset))
    ∙ λ i. length-bytes_of 8 e.id i + length-bytes_of 4 e.offset i + length-bytes_of 4 (cast_unsigned w32 e.size) i

length-entries_bytes : (es : List Entry) → length (flat_map entry_bytes es) ≡ 16 * length es
length-entries_bytes [] = refl
length-entries_bytes (e ∷ es) = length-append (entry_bytes e) (flat_map entry_bytes es) ∙ omega (arith, length-entry_bytes e, length-entries_bytes es)

module _ (w : Volume) (f : Forms) (r : Running) (row : Row) (start now : Share) (fits : FitsProgress w f r row start now) where
  entries_are : entries_by r.plan r.plan.command ≡ length (entries f.parts.index)
  entries_are = by_command r.plan.command refl
    where
      by_command : (command : Command) → r.plan.command ≡ command → entries_by r.plan command ≡ length (entries f.parts.index)
      by_command (Encode ratio) e = omega (arith, ap length (fits.begins.tells.index (ap is_encode e)), length-entries_bytes r.plan.entries.items, length-entries f.parts.index)
      by_command Rebuild e = fits.begins.tells.count (ap is_encode e)
      by_command Balance e = fits.begins.tells.count (ap is_encode e)
      by_command Decode e = fits.begins.tells.count (ap is_encode e)

  -- they take no more than the data file has
  entries_use : 32 * entries_by r.plan r.plan.command ≤ r.plan.info.dat_size
  entries_use = omega (
    arith,
    entries_are,
    ap length fits.forms.parts.live_entries,
    live_few (records f.parts.dat),
    records_use empty_volume (records f.parts.dat),
    used_whole f.parts.dat (parts_whole f.parts fits.forms.parts),
    fits.forms.parts.size,
    ap (λ info. info.dat_size) fits.begins.tells.info,
  )

  module _ (vol : Volume) (means : volume_of (finals start) ≡ Some vol) where
    -- the volume uses the data file that is coded, and 32 bytes for each deletion
    used_is : vol.used ≡ r.plan.info.dat_size + 32 * length r.plan.deleted.items
    used_is = omega (
      arith,
      (of_start w f (finals start) vol fits.forms fits.begins.kept means).same.0,
      fits.forms.coded.0,
      len-distinct f.parts.deleted fits.forms.parts.distinct,
      ap length fits.begins.tells.deleted,
      ap (λ info. info.dat_size) fits.begins.tells.info,
    )

    pub left_below : (servers : ℕ) → IsPlan r.plan servers → left_of r.plan r.states r.place ≤ 32 * vol.used + 999999
    left_below servers is = left_within r.plan servers vol.used is r.states r.place fits.way.listed (omega (arith, used_is)) (omega (arith, used_is, entries_use))
