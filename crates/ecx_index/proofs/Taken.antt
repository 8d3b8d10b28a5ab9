-- Entries that are taken one after the other, and those that are refused.
use Rattle.std.proofs.Common.{◌≡◌, inl, inr, ℕ, suc, ◌+◌, ◌-◌, ◌/◌, ◌%◌, ◌<◌, ◌≤◌, min, pos, ◌<ℤ◌, ◌≤ℤ◌, List, [], ◌∷◌, ◌++◌, length, map, take, drop, Option, Some, None, Result, Err, refl, sym, ◌∙◌, ap, subst, arith, append_assoc}
use Rattle.std.specs.Prelude.{slice_index}
use Rattle.std.specs.FinMap.{empty, insert}
use Rattle.std.specs.List.{AllByRecursion}
use Rattle.std.specs.List.Sorted.{IsStrictlyIncreasing}
use Rattle.std.proofs.Math.ListN.{length-append}
use Rattle.std.proofs.Math.Seq.{take-add, get_or-append_seam}
use Rattle.std.proofs.lemmas.Bool.{cases_lt}
use Rattle.std.proofs.lemmas.Int.{ints}
use Rattle.std.proofs.lemmas.List.{append-nil, map-append, take_all, take-append-drop, length-take-le, get_or_append_left}
use Rattle.std.proofs.lemmas.List.Kept.{AllPairs-from_increasing}
use Rattle.site_model.specs.declared.error.OpenFault.{OpenFault}
use Rattle.site_model.specs.Disk.{File, bytes_of, size_of}
use Rattle.volume_forms.specs.declared.Entry.{Entry}
use Rattle.volume_forms.specs.Forms.{entries, entries_within, entry_at}
use Rattle.volume_forms.specs.Laws.Entry.{entries-append}
use Rattle.ecx_index.specs.Listed.{map_of-none, map_of-push}
use Rattle.image_meaning.specs.Sound.{IsSortedIndex}
use Rattle.ecx_index.specs.declared.loading.Loading.{Loading}
use Rattle.ecx_index.specs.Search.{HasRisingIds}
use Rattle.ecx_index.specs.Loading.{IsIndexFile, IsLoaded, AreSorted, IsLast, IsAbove, HasTaken, Takes, AreRefused}

-- ---- rising ids

lower : (a b c d : ℕ) → a ≡ c → b ≡ d → c < d → a < b
lower a b c d p q h = omega arith

rising_push : (xs : List ℕ) (x : ℕ) → IsStrictlyIncreasing xs → ((k : ℕ) → k + 1 ≡ length xs → slice_index xs k < x) → IsStrictlyIncreasing (xs ++ x ∷ [])
rising_push xs x rising below k h = elim (cases_lt (k + 1) (length xs)) [
  | inl within ↦ lower _ _ _ _ (get_or_append_left xs (x ∷ []) 0 k (omega arith)) (get_or_append_left xs (x ∷ []) 0 (k + 1) within) (rising k within)
  | inr behind ↦
      let last : k + 1 ≡ length xs = omega (arith, behind, h, length-append xs (x ∷ [])) in
      lower _ _ _ _ (get_or_append_left xs (x ∷ []) 0 k (omega arith)) (ap (λ i. slice_index (xs ++ x ∷ []) i) last ∙ get_or-append_seam xs x [] 0) (below k last)
]

rising_rest : (x : ℕ) (xs : List ℕ) → IsStrictlyIncreasing (x ∷ xs) → IsStrictlyIncreasing xs
rising_rest x xs rising k h =
    let next : suc k + 1 ≡ suc (k + 1) = omega arith in
    subst (λ n. slice_index xs k < slice_index (x ∷ xs) n) next (rising (suc k) (omega arith))

last_of : (es : List Entry) (last : Option ℕ) (id : ℕ) → IsLast es last → IsAbove last id → (k : ℕ) → k + 1 ≡ length (map (λ (e : Entry). e.id) es) → slice_index (map (λ (e : Entry). e.id) es) k < id
last_of es None id none above k h = absurd (omega (arith, h, ap (λ (l : List Entry). length (map (λ (e : Entry). e.id) l)) none))
last_of es (Some last) id (front, e, is, same) above k h =
    let ids : map (λ (f : Entry). f.id) es ≡ map (λ (f : Entry). f.id) front ++ e.id ∷ [] = ap (map (λ (f : Entry). f.id)) is ∙ map-append (λ (f : Entry). f.id) front (e ∷ []) in
    let place : k ≡ length (map (λ (f : Entry). f.id) front) = omega (arith, h, ap length ids, length-append (map (λ (f : Entry). f.id) front) (e.id ∷ [])) in
    let found : slice_index (map (λ (f : Entry). f.id) es) k ≡ e.id = (λ i. slice_index (ids i) (place i)) ∙ get_or-append_seam (map (λ (f : Entry). f.id) front) e.id [] 0 in
    omega (arith, found, same, above)

-- the id behind another is above it
above_next : (front : List Entry) (f e : Entry) (rest : List Entry) → HasRisingIds ((front ++ f ∷ []) ++ e ∷ rest) → f.id < e.id
above_next [] f e rest rising = rising 0 (omega arith)
above_next (x ∷ front) f e rest rising = above_next front f e rest (rising_rest x.id (map (λ (g : Entry). g.id) ((front ++ f ∷ []) ++ e ∷ rest)) rising)

-- all ids before the last are below it
all_below : (es : List Entry) (e : Entry) → HasRisingIds (es ++ e ∷ []) → AllByRecursion (λ f. f.id < e.id) es
all_below [] e rising = tt
all_below (f ∷ es) e rising =
    let ids : List ℕ = map (λ (g : Entry). g.id) (es ++ e ∷ []) in
    let split : map (λ (g : Entry). g.id) (es ++ e ∷ []) ≡ map (λ (g : Entry). g.id) es ++ e.id ∷ [] = map-append (λ (g : Entry). g.id) es (e ∷ []) in
    let place : ℕ = length (map (λ (g : Entry). g.id) es) in
    let found : slice_index (map (λ (g : Entry). g.id) (es ++ e ∷ [])) (length (map (λ (g : Entry). g.id) es)) ≡ e.id = ap (λ l. slice_index l (length (map (λ (g : Entry). g.id) es))) split ∙ get_or-append_seam (map (λ (g : Entry). g.id) es) e.id [] 0 in
    let less : f.id < slice_index (map (λ (g : Entry). g.id) (es ++ e ∷ [])) (length (map (λ (g : Entry). g.id) es)) =
    AllPairs-from_increasing (f.id ∷ ids) rising 0 (suc place) 0 (omega arith) (omega (arith, ap length split, length-append (map (λ (g : Entry). g.id) es) (e.id ∷ []))) in
    (omega (arith, found, less), all_below es e (rising_rest f.id ids rising))

-- ---- one entry

all_push : {A : Type 0} (P : A → Type 0) (xs : List A) (x : A) → AllByRecursion P xs → P x → AllByRecursion P (xs ++ x ∷ [])
all_push P [] x h p = (p, tt)
all_push P (y ∷ xs) x h p = (h.0, all_push P xs x h.1 p)

all_at : {A : Type 0} (P : A → Type 0) (xs : List A) (x : A) (ys : List A) → AllByRecursion P (xs ++ x ∷ ys) → P x
all_at P [] x ys h = h.0
all_at P (y ∷ xs) x ys h = all_at P xs x ys h.1

all_start : {A : Type 0} (P : A → Type 0) (xs ys : List A) → AllByRecursion P (xs ++ ys) → AllByRecursion P xs
all_start P [] ys h = tt
all_start P (x ∷ xs) ys h = (h.0, all_start P xs ys h.1)

pub none_taken : (loading : Loading) → loading.index ≡ empty → loading.last ≡ None → HasTaken [] loading
none_taken loading no_index no_last = record {
  sorted = record { rising = λ k h. absurd (omega (arith, h)); sizes = tt };
  last = subst (IsLast []) (sym no_last) refl;
  index = no_index ∙ sym map_of-none;
}

pub one_taken : (e : Entry) (old new : Loading) → IsAbove old.last e.id → pos 0 <ℤ e.size → new.last ≡ Some e.id → new.index ≡ insert old.index e.id e → Takes (e ∷ []) old new
one_taken e old new above content last index es taken =
    let rising : HasRisingIds (es ++ e ∷ []) =
    subst IsStrictlyIncreasing (sym (map-append (λ (f : Entry). f.id) es (e ∷ []))) (rising_push (map (λ (f : Entry). f.id) es) e.id taken.sorted.rising (last_of es old.last e.id taken.last above)) in
    record {
      sorted = record { rising = rising; sizes = all_push (λ (f : Entry). pos 0 <ℤ f.size) es e taken.sorted.sizes content };
      last = subst (IsLast (es ++ e ∷ [])) (sym last) (es, e, refl, refl);
      index = index ∙ ap (λ m. insert m e.id e) taken.index ∙ sym (map_of-push es e (all_below es e rising));
    }

pub no_content : (e : Entry) (loading : Loading) → e.size ≤ℤ pos 0 → AreRefused (e ∷ []) loading
no_content e loading none es rest taken sorted =
    let some : pos 0 <ℤ e.size = all_at (λ (f : Entry). pos 0 <ℤ f.size) es e rest sorted.sizes in
    omega (arith, ints, some, none)

is_above : (es : List Entry) (last : Option ℕ) (e : Entry) (rest : List Entry) → IsLast es last → HasRisingIds (es ++ e ∷ rest) → IsAbove last e.id
is_above es None e rest none rising = tt
is_above es (Some last) e rest (front, f, is, same) rising =
    let more : f.id < e.id = above_next front f e rest (subst (λ (l : List Entry). HasRisingIds (l ++ e ∷ rest)) is rising) in
    omega (arith, more, same)

pub not_above : (e : Entry) (loading : Loading) → ¬ IsAbove loading.last e.id → AreRefused (e ∷ []) loading
not_above e loading below es rest taken sorted = below (is_above es loading.last e rest taken.last sorted.rising)

-- ---- entries in bytes

single : (bytes : List ℕ) → length bytes ≡ 16 → entries bytes ≡ entry_at bytes ∷ []
unfolding entries entries_within
single bytes long = ap (λ n. entries_within (n / 16) bytes) long

entries-first : (bytes : List ℕ) → 16 ≤ length bytes → entries bytes ≡ entry_at (take 16 bytes) ∷ entries (drop 16 bytes)
entries-first bytes long =
    ap entries (sym (take-append-drop 16 bytes))
    ∙ entries-append 1 (take 16 bytes) (drop 16 bytes) (length-take-le 16 bytes long)
    ∙ ap (λ es. es ++ entries (drop 16 bytes)) (single (take 16 bytes) (length-take-le 16 bytes long))

entries-none : (bytes : List ℕ) → length bytes < 16 → entries bytes ≡ []
unfolding entries entries_within
entries-none bytes short = ap (λ n. entries_within n bytes) (none (length bytes) short)
  where
    none : (n : ℕ) → n < 16 → n / 16 ≡ 0
    none n h = omega arith

-- Some of the entries were taken, and the rest spells the others.
pub record HasDone (bytes rest : List ℕ) (old new : Loading) : Type 0 where
  pub done : List Entry
  pub split : entries bytes ≡ done ++ entries rest
  pub taken : Takes done old new

first_is : (rest first behind : List ℕ) (e : Entry) → first ≡ take 16 rest → behind ≡ drop 16 rest → 16 ≤ length rest → e ≡ entry_at first → entries rest ≡ e ∷ entries behind
first_is rest first behind e front back long reads =
    entries-first rest long ∙ (λ i. (sym (reads ∙ ap entry_at front) i) ∷ entries (sym back i))

pub one_done : (bytes rest first behind : List ℕ) (e : Entry) (old mid new : Loading) → HasDone bytes rest old mid → first ≡ take 16 rest → behind ≡ drop 16 rest → 16 ≤ length rest → e ≡ entry_at first
    → Takes (e ∷ []) mid new → HasDone bytes behind old new
one_done bytes rest first behind e old mid new before front back long reads takes = record {
  done = before.done ++ e ∷ [];
  split = before.split ∙ ap (λ es. before.done ++ es) (first_is rest first behind e front back long reads) ∙ sym (append_assoc before.done (e ∷ []) (entries behind));
  taken = λ es taken. subst (λ (l : List Entry). HasTaken l new) (append_assoc es before.done (e ∷ [])) (takes (es ++ before.done) (before.taken es taken));
}

pub all_done : (bytes rest : List ℕ) (old new : Loading) → HasDone bytes rest old new → length rest < 16 → Takes (entries bytes) old new
all_done bytes rest old new before short =
    let is : entries bytes ≡ before.done = before.split ∙ ap (λ es. before.done ++ es) (entries-none rest short) ∙ append-nil before.done in
    subst (λ (l : List Entry). Takes l old new) (sym is) before.taken

pub one_refused : (bytes rest first behind : List ℕ) (e : Entry) (old mid : Loading) → HasDone bytes rest old mid → first ≡ take 16 rest → behind ≡ drop 16 rest → 16 ≤ length rest → e ≡ entry_at first
    → AreRefused (e ∷ []) mid → AreRefused (entries bytes) old
one_refused bytes rest first behind e old mid before front back long reads refused es more taken sorted =
    let split : entries bytes ≡ before.done ++ e ∷ entries behind = before.split ∙ ap (λ l. before.done ++ l) (first_is rest first behind e front back long reads) in
    let is : es ++ (entries bytes ++ more) ≡ (es ++ before.done) ++ (e ∷ (entries behind ++ more)) =
    ap (λ (l : List Entry). es ++ (l ++ more)) split ∙ ap (λ (l : List Entry). es ++ l) (append_assoc before.done (e ∷ entries behind) more) ∙ sym (append_assoc es before.done (e ∷ (entries behind ++ more))) in
    refused (es ++ before.done) (entries behind ++ more) (before.taken es taken) (subst AreSorted is sorted)

-- ---- pieces of a file

pub whole_piece : (room end at count : ℕ) → room ≡ 65536 → end % 16 ≡ 0 → at % 16 ≡ 0 → at ≤ end → count ≡ min room (end - at) → (count % 16 ≡ 0) × (at + count ≤ end) × ((at + count) % 16 ≡ 0) × (count ≤ room)
whole_piece room end at count room_is end_whole at_whole within is = omega arith

-- what was taken of the file, as far as this place
abbrev pub HasReached : List ℕ → ℕ → Loading → Type 0
HasReached bytes at loading = HasTaken (entries (take at bytes)) loading

pub reached_none : (bytes : List ℕ) (loading : Loading) → HasTaken [] loading → HasReached bytes 0 loading
reached_none bytes loading taken = subst (λ (l : List Entry). HasTaken l loading) (sym (entries-none (take 0 bytes) (omega arith))) taken

entries-pieces : (bytes : List ℕ) (at count : ℕ) → at % 16 ≡ 0 → at ≤ length bytes → entries (take (at + count) bytes) ≡ entries (take at bytes) ++ entries (take count (drop at bytes))
entries-pieces bytes at count whole within =
    ap entries (take-add at count bytes)
    ∙ entries-append (at / 16) (take at bytes) (take count (drop at bytes)) (length-take-le at bytes within ∙ omega (arith, whole))

pub reached_more : (bytes piece : List ℕ) (at count : ℕ) (old new : Loading) → at % 16 ≡ 0 → at ≤ length bytes → piece ≡ take count (drop at bytes) → HasReached bytes at old → Takes (entries piece) old new
    → HasReached bytes (at + count) new
reached_more bytes piece at count old new whole within is reached takes =
    subst (λ (l : List Entry). HasTaken l new) (ap (λ (p : List ℕ). entries (take at bytes) ++ entries p) is ∙ sym (entries-pieces bytes at count whole within)) (takes (entries (take at bytes)) reached)

pub reached_all : (file : Option File) (end at : ℕ) (loading : Loading) → size_of file ≡ Some end → end % 16 ≡ 0 → at ≡ end → HasReached (bytes_of file) at loading → IsLoaded file loading.index
reached_all None end at loading size whole is reached = absurd cc
reached_all (Some file) end at loading size whole is reached =
    let long : length file.bytes ≡ end = cc in
    let all : take at file.bytes ≡ file.bytes = take_all at file.bytes (omega arith) in
    let taken : HasTaken (entries file.bytes) loading = subst (λ (l : List ℕ). HasTaken (entries l) loading) all reached in
    record {
      sorted = record { whole = ap (λ n. n % 16) long ∙ whole; rising = taken.sorted.rising; sizes = taken.sorted.sizes };
      entries = taken.index;
    }

sorted_of : (bytes : List ℕ) → IsSortedIndex bytes → AreSorted (entries bytes)
sorted_of bytes index = record { rising = index.rising; sizes = index.sizes }

-- the entries of a piece, with those before and behind it
entries-around : (bytes piece : List ℕ) (at count : ℕ) → at % 16 ≡ 0 → count % 16 ≡ 0 → at + count ≤ length bytes → piece ≡ take count (drop at bytes)
    → entries bytes ≡ entries (take at bytes) ++ (entries piece ++ entries (drop (at + count) bytes))
entries-around bytes piece at count at_whole count_whole within is =
    let whole : (at + count) % 16 ≡ 0 = omega (arith, at_whole, count_whole) in
    ap entries (sym (take-append-drop (at + count) bytes))
    ∙ entries-append ((at + count) / 16) (take (at + count) bytes) (drop (at + count) bytes) (length-take-le (at + count) bytes within ∙ omega (arith, whole))
    ∙ ap (λ (l : List Entry). l ++ entries (drop (at + count) bytes)) (entries-pieces bytes at count at_whole (omega arith) ∙ ap (λ (p : List ℕ). entries (take at bytes) ++ entries p) (sym is))
    ∙ append_assoc (entries (take at bytes)) (entries piece) (entries (drop (at + count) bytes))

pub piece_refused : (file : Option File) (piece : List ℕ) (at count : ℕ) (loading : Loading) → at % 16 ≡ 0 → count % 16 ≡ 0 → at + count ≤ length (bytes_of file) → piece ≡ take count (drop at (bytes_of file))
    → HasReached (bytes_of file) at loading → AreRefused (entries piece) loading → ¬ IsIndexFile file
piece_refused None piece at count loading at_whole count_whole within is reached refused index = index
piece_refused (Some file) piece at count loading at_whole count_whole within is reached refused index =
    refused (entries (take at file.bytes)) (entries (drop (at + count) file.bytes)) reached
    (subst AreSorted (entries-around file.bytes piece at count at_whole count_whole within is) (sorted_of file.bytes index))

pub length_is : (file : Option File) (end : ℕ) → size_of file ≡ Some end → length (bytes_of file) ≡ end
length_is None end size = absurd cc
length_is (Some file) end size = cc

pub same_fault : {T : Type 0} (a b : OpenFault) → ◌≡◌ {A = Result T OpenFault} (Err a) (Err b) → a ≡ b
same_fault a b e = cc
