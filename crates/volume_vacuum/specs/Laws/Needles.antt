-- A vacuum keeps the needles, and what it uses is the super block and the room of each.
use Rattle.std.proofs.Common.{◌≡◌, ℕ, ◌+◌, List, [], ◌∷◌, true, is_some, Option, Some, None, All, sum_by, refl, sym, ◌∙◌, ap, arith}
use Rattle.std.specs.Option.{option_map_or}
use Rattle.std.specs.FinMap.{empty, values}
use Rattle.std.proofs.lemmas.List.Elements.{All-head, All-tail}
use mathlib.Core.Bool.{true≢false}
use Rattle.wire_num.specs.Numbers.{record_length}
use Rattle.world_model.specs.declared.types.Content.{Content}
use Rattle.world_model.specs.Sizes.{size_of_content, length_of_content}
use Rattle.world_model.specs.World.{Volume, Needle, Needles, empty_volume}
use Rattle.volume_forms.specs.declared.Entry.{Entry}
use Rattle.needle_record.specs.Spelling.{length_of_record}
use Rattle.needle_record.specs.Records.{Placed, Index, entry_of, after_record, needles_after, fold_from, fold_records, index_after_content, index_from, index_of}
use Rattle.volume_vacuum.specs.Live.{live_records, moved, vacuumed}
use Rattle.volume_vacuum.specs.Laws.Lives.{HasContent, live-content, total, total-sum, room_of, after, made_from, live-made, of_record, live-sum}

-- ---- what the records make, as a map

abbrev needle_by : Placed → Content → Needle
needle_by p c = record { cookie = p.1.cookie; content = c }

abbrev entry_by : Placed → Content → Entry
entry_by p c = entry_of p

needles_made : (v : Volume) (ps : List Placed) → (fold_from v ps).needles ≡ made_from needle_by v.needles ps
needles_made v [] = refl
needles_made v (p ∷ ps) = needles_made (after_record v p.1) ps ∙ ap (λ m. made_from needle_by m ps) (by_content p.1.content)
  where
    by_content : (o : Option Content) → needles_after v.needles p.1 o ≡ after needle_by v.needles p o
    by_content None = refl
    by_content (Some c) = refl

index_made : (index : Index) (ps : List Placed) → index_from index ps ≡ made_from entry_by index ps
index_made index [] = refl
index_made index (p ∷ ps) = index_made (index_after_content index p p.1.content) ps ∙ ap (λ m. made_from entry_by m ps) (by_content p.1.content)
  where
    by_content : (o : Option Content) → index_after_content index p o ≡ after entry_by index p o
    by_content None = refl
    by_content (Some c) = refl

live-needles : (ps : List Placed) → (fold_records (live_records ps)).needles ≡ (fold_records ps).needles
live-needles ps = needles_made empty_volume (live_records ps) ∙ live-made needle_by ps ∙ sym (needles_made empty_volume ps)

-- the index of all records is that of the live ones
pub live-index : (ps : List Placed) → index_of (live_records ps) ≡ index_of ps
live-index ps = index_made empty (live_records ps) ∙ live-made entry_by ps ∙ sym (index_made empty ps)

-- of which each has its entry there once
pub live-entries : (f : Entry → ℕ) (ps : List Placed) → total f (values (index_of ps)) ≡ total (λ p. f (entry_of p)) (live_records ps)
live-entries f ps =
    ap (λ (m : Index). total f (values m)) (sym (live-index ps) ∙ index_made empty (live_records ps)) ∙ live-sum entry_by f ps
    ∙ each (live_records ps) (live-content ps)
  where
    each : (qs : List Placed) → All HasContent qs → total (of_record entry_by f) qs ≡ total (λ p. f (entry_of p)) qs
    each [] all = refl
    each (q ∷ qs) all = λ i. by_content q.1.content (All-head HasContent q qs all) i + each qs (All-tail HasContent q qs all) i
      where
        by_content : (o : Option Content) → is_some o ≡ true → option_map_or (λ c. f (entry_of q)) o 0 ≡ f (entry_of q)
        by_content None some = absurd (true≢false (sym some))
        by_content (Some c) some = refl

-- ---- at their new places

same_fold : (v : Volume) (place : ℕ) (ps : List Placed) → fold_from v (moved place ps) ≡ fold_from v ps
unfolding moved
same_fold v place [] = refl
same_fold v place (p ∷ ps) = same_fold (after_record v p.1) (place + length_of_record p.1) ps

pub vacuumed-needles : (ps : List Placed) → (fold_records (vacuumed ps)).needles ≡ (fold_records ps).needles
vacuumed-needles ps = ap (λ (v : Volume). v.needles) (same_fold empty_volume 8 (live_records ps)) ∙ live-needles ps

used_from : (v : Volume) (ps : List Placed) → (fold_from v ps).used ≡ v.used + room_of ps
used_from v [] = omega arith
used_from v (p ∷ ps) = used_from (after_record v p.1) ps ∙ omega arith

pub vacuumed-used : (ps : List Placed) → (fold_records (vacuumed ps)).used ≡ 8 + room_of (live_records ps)
vacuumed-used ps = ap (λ (v : Volume). v.used) (same_fold empty_volume 8 (live_records ps)) ∙ used_from empty_volume (live_records ps)

abbrev size : Needle → ℕ
size n = length_of_content n.content

-- by the needles themselves
pub vacuumed-length : (ps : List Placed) → (fold_records (vacuumed ps)).used ≡ 8 + sum_by (λ (n : Needle). length_of_content n.content) (values (fold_records ps).needles)
vacuumed-length ps = vacuumed-used ps ∙ ap (λ n. 8 + n) (sym (each (live_records ps) (live-content ps)) ∙ sym sums ∙ total-sum size (values (fold_records ps).needles))
  where
    sums : total size (values (fold_records ps).needles) ≡ total (of_record needle_by size) (live_records ps)
    sums = ap (λ (m : Needles). total size (values m)) (sym (live-needles ps) ∙ needles_made empty_volume (live_records ps)) ∙ live-sum needle_by size ps

    each : (qs : List Placed) → All HasContent qs → total (of_record needle_by size) qs ≡ room_of qs
    each [] all = refl
    each (q ∷ qs) all = λ i. by_content q.1.content (All-head HasContent q qs all) i + each qs (All-tail HasContent q qs all) i
      where
        by_content : (o : Option Content) → is_some o ≡ true → option_map_or (λ c. length_of_content c) o 0 ≡ record_length (option_map_or size_of_content o 0)
        by_content None some = absurd (true≢false (sym some))
        by_content (Some c) some = refl
