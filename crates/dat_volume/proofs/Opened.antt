-- What an opening does, by the two cuts and the tests before them.
use Rattle.std.proofs.Common.{◌≡◌, ◌⊎◌, inl, inr, ⊎_elim, ℕ, ◌*◌, ◌≤◌, min, List, [], ◌++◌, length, take, drop, true, Option, Some, Ok, refl, sym, ◌∙◌, ap, subst, arith}
use Rattle.std.proofs.lemmas.List.{append-nil, take-append-drop, length-take}
use Rattle.site_model.specs.Disk.{File, Files, Image, LeftOf, firm_file, bytes_of, cut_to, Disk}
use Rattle.site_model.specs.Leaves.{starts, by_look, weaker}
use Rattle.site_model.specs.Touches.{touches_look, firm_left}
use Rattle.volume_forms.specs.Forms.{entries}
use Rattle.needle_record.specs.Records.{Index, end_of}
use Rattle.image_meaning.specs.Plain.{kept, kept_records, FollowsRecords, IsExact}
use Rattle.image_meaning.specs.Laws.Plain.{has_super-long, entries-take, exact_follows, exact_kept_records, cut_exact, cut_dat-follows, cut_dat-kept_records, cut_index-follows, cut_index-kept_records}
use Rattle.dat_volume.specs.declared.volume.DatVolume.{DatVolume}
use Rattle.dat_volume.specs.Places.{dat_place, idx_place, dat_in, idx_in, LeavesRecords}
use Rattle.dat_volume.specs.Opening.{tested, end_by, index_by, KeepsLengths, IsCutOrNot, Opens, IsOpened, IsLoaded, Trims}
use Rattle.dat_volume.specs.Laws.Opening.{tested-keeps, tested-parts, tested-super, tested-dat, tested-idx, counted-kept, follows-end, follows-index}
use Rattle.dat_volume.specs.Shortening.{ShortensBoth, AreShortened}

-- ---- names

pub trims_by : (server v m n : ℕ) (old new : Disk) (a b : List ℕ) → a ≡ (dat_place server v).1 → b ≡ (idx_place server v).1 → ShortensBoth (server, a) (server, b) m n old new → Trims server v m n old new
trims_by server v m n old new a b dat idx did =
    let named : ShortensBoth (dat_place server v) (idx_place server v) m n old new = subst (λ x. ShortensBoth (server, x) (idx_place server v) m n old new) dat (subst (λ y. ShortensBoth (server, a) (server, y) m n old new) idx did) in
    record { touches = named.touches; leaves = named.leaves }

-- ---- the tests

-- the lengths by the files of these names
pub keeps_by : (files : Files) (server v k end : ℕ) (a b : List ℕ) → a ≡ (dat_place server v).1 → b ≡ (idx_place server v).1
    → (tested (bytes_of (files (server, a))) (bytes_of (files (server, b))) ≡ Ok k) × (end ≡ end_by (bytes_of (files (server, b))) k)
    → (tested (dat_in files server v) (idx_in files server v) ≡ Ok k) × (end ≡ end_by (idx_in files server v) k)
keeps_by files server v k end a b dat idx told =
    subst (λ x. (tested (bytes_of (files (server, x))) (idx_in files server v) ≡ Ok k) × (end ≡ end_by (idx_in files server v) k)) dat
    (subst (λ y. (tested (bytes_of (files (server, a))) (bytes_of (files (server, y))) ≡ Ok k) × (end ≡ end_by (bytes_of (files (server, y))) k)) idx told)

pub keeps_lengths : (dat idx : List ℕ) (k end long : ℕ) → (tested dat idx ≡ Ok k) × (end ≡ end_by idx k) → long ≡ 16 * k → KeepsLengths dat idx (end, long)
keeps_lengths dat idx k end long told is = subst (λ e. KeepsLengths dat idx (e, long)) (sym told.1) (subst (λ l. KeepsLengths dat idx (end_by idx k, l)) (sym is) (tested-keeps dat idx k told.0))

-- ---- what a stop leaves

cut_firm : (bytes : List ℕ) (n : ℕ) → cut_to n (Some (firm_file bytes)) ≡ Some (firm_file (take n bytes))
cut_firm bytes n = let same : min (length bytes) n ≡ length (take n bytes) = omega (arith, length-take n bytes) in λ i. Some (record { bytes = take n bytes; firm = same i; is_named = true })

-- a firm file that is being cut is left whole or cut
left_cut : (bytes : List ℕ) (n : ℕ) (file : Option File) (found : Option (List ℕ)) → file ≡ Some (firm_file bytes) → IsCutOrNot n file found → (found ≡ Some bytes) ⊎ (found ≡ Some (take n bytes))
left_cut bytes n file found is left =
    ⊎_elim
    (λ whole. inl (firm_left (Some (firm_file bytes)) found (refl, refl) (subst (λ f. LeftOf f found) is whole)))
    (λ cut. inr (firm_left (Some (firm_file (take n bytes))) found (refl, refl) (subst (λ f. LeftOf f found) (ap (cut_to n) is ∙ cut_firm bytes n) cut)))
    left

module _ (server v : ℕ) (dat idx : List ℕ) (follows : FollowsRecords dat idx) where
  abbrev front : List ℕ
  front = take (end_of (kept_records dat idx)) dat

  keeps_of : (image : Image) (more found index : List ℕ) → front ++ more ≡ found → image (dat_place server v) ≡ Some found → image (idx_place server v) ≡ Some index → FollowsRecords found index → kept_records found index ≡ kept_records dat idx
      → LeavesRecords server v image front (kept_records dat idx)
  keeps_of image more found index is has_dat has_idx goes_on same = record {
    more = more;
    idx = index;
    has_dat = has_dat ∙ ap Some (sym is);
    has_idx = has_idx;
    follows = subst (λ d. FollowsRecords d index) (sym is) goes_on;
    kept = ap (λ d. kept_records d index) is ∙ same;
  }

  -- nothing is cut
  pub keeps_whole : (image : Image) → image (dat_place server v) ≡ Some dat → image (idx_place server v) ≡ Some idx → LeavesRecords server v image (take (end_of (kept_records dat idx)) dat) (kept_records dat idx)
  keeps_whole image has_dat has_idx = keeps_of image (drop (end_of (kept_records dat idx)) dat) dat idx (take-append-drop (end_of (kept_records dat idx)) dat) has_dat has_idx follows refl

  -- each is cut or not
  pub keeps_cut : (image : Image) → 8 ≤ length dat → (image (dat_place server v) ≡ Some dat) ⊎ (image (dat_place server v) ≡ Some (take (end_of (kept_records dat idx)) dat))
      → (image (idx_place server v) ≡ Some idx) ⊎ (image (idx_place server v) ≡ Some (take (16 * kept dat idx) idx)) → LeavesRecords server v image (take (end_of (kept_records dat idx)) dat) (kept_records dat idx)
  keeps_cut image super (inl has_dat) (inl has_idx) = keeps_whole image has_dat has_idx
  keeps_cut image super (inl has_dat) (inr has_idx) =
      keeps_of image (drop (end_of (kept_records dat idx)) dat) dat (take (16 * kept dat idx) idx) (take-append-drop (end_of (kept_records dat idx)) dat) has_dat has_idx
      (cut_index-follows dat idx super) (cut_index-kept_records dat idx super)
  keeps_cut image super (inr has_dat) (inl has_idx) =
      keeps_of image [] front idx (append-nil front) has_dat has_idx (cut_dat-follows dat idx super follows) (cut_dat-kept_records dat idx super)
  keeps_cut image super (inr has_dat) (inr has_idx) =
      keeps_of image [] front (take (16 * kept dat idx) idx) (append-nil front) has_dat has_idx
      (exact_follows front (take (16 * kept dat idx) idx) (kept_records dat idx) (cut_exact dat idx super)) (exact_kept_records front (take (16 * kept dat idx) idx) (kept_records dat idx) (cut_exact dat idx super))

-- ---- openings

-- nothing was changed
pub opens_none : (server v : ℕ) (old new : Disk) → new ≡ old → Opens server v old new
opens_none server v old new same = record {
  touches = touches_look same;
  leaves = λ dat idx has_dat has_idx follows. by_look (starts old (λ image left.
      keeps_whole server v dat idx follows image
      (firm_left (Some (firm_file dat)) (image (dat_place server v)) (refl, refl) (subst (λ f. LeftOf f (image (dat_place server v))) has_dat (left (dat_place server v))))
      (firm_left (Some (firm_file idx)) (image (idx_place server v)) (refl, refl) (subst (λ f. LeftOf f (image (idx_place server v))) has_idx (left (idx_place server v)))))) same;
}

-- what the lengths are of firm files whose index follows the records
module _ (files : Files) (server v k end long : ℕ) (told : (tested (dat_in files server v) (idx_in files server v) ≡ Ok k) × (end ≡ end_by (idx_in files server v) k)) (is : long ≡ 16 * k) where
  module _ (dat idx : List ℕ) (has_dat : files (dat_place server v) ≡ Some (firm_file dat)) (has_idx : files (idx_place server v) ≡ Some (firm_file idx)) (follows : FollowsRecords dat idx) where
    told_of : (tested dat idx ≡ Ok k) × (end ≡ end_by idx k)
    told_of = subst (λ d. (tested d idx ≡ Ok k) × (end ≡ end_by idx k)) (ap bytes_of has_dat) (subst (λ i. (tested (dat_in files server v) i ≡ Ok k) × (end ≡ end_by i k)) (ap bytes_of has_idx) told)

    count_is : k ≡ kept dat idx
    count_is = counted-kept dat idx k (tested-parts dat idx k told_of.0).0 follows

    pub end_is : end ≡ end_of (kept_records dat idx)
    end_is = told_of.1 ∙ ap (end_by idx) count_is ∙ follows-end dat idx follows (tested-super dat idx k told_of.0)

    pub long_is : long ≡ 16 * kept dat idx
    long_is = is ∙ ap (λ n. 16 * n) count_is

    pub long_dat : 8 ≤ length dat
    long_dat = has_super-long dat (tested-super dat idx k told_of.0)

-- the files were cut
pub opens_cut : (server v k end long : ℕ) (old new : Disk) → (tested (dat_in old.files server v) (idx_in old.files server v) ≡ Ok k) × (end ≡ end_by (idx_in old.files server v) k) → long ≡ 16 * k
    → Trims server v end long old new → Opens server v old new
opens_cut server v k end long old new told is did = record {
  touches = did.touches;
  leaves = λ dat idx has_dat has_idx follows. weaker did.leaves (λ image said left.
      keeps_cut server v dat idx follows image (long_dat old.files server v k end long told is dat idx has_dat has_idx follows)
      (subst (λ n. (image (dat_place server v) ≡ Some dat) ⊎ (image (dat_place server v) ≡ Some (take n dat))) (end_is old.files server v k end long told is dat idx has_dat has_idx follows)
      (left_cut dat end (old.files (dat_place server v)) (image (dat_place server v)) has_dat left.0))
      (subst (λ n. (image (idx_place server v) ≡ Some idx) ⊎ (image (idx_place server v) ≡ Some (take n idx))) (long_is old.files server v k end long told is dat idx has_dat has_idx follows)
      (left_cut idx long (old.files (idx_place server v)) (image (idx_place server v)) has_idx left.1)));
}

-- and all was done
pub opened : (server v k end long : ℕ) (volume : DatVolume) (old new : Files) → (tested (dat_in old server v) (idx_in old server v) ≡ Ok k) × (end ≡ end_by (idx_in old server v) k) → long ≡ 16 * k
    → new (dat_place server v) ≡ cut_to end (old (dat_place server v)) → new (idx_place server v) ≡ cut_to long (old (idx_place server v))
    → volume.used ≡ end → volume.index ≡ index_by (entries (take long (idx_in old server v))) → IsOpened server v volume old new
opened server v k end long volume old new told is dat_cut idx_cut used index = record {
  lengths = (end, long);
  keeps = record {
    count = k;
    passed = told.0;
    dat_length = told.1;
    idx_length = is;
    dat_within = omega (arith, told.1, tested-dat (dat_in old server v) (idx_in old server v) k told.0);
    idx_within = omega (arith, is, within);
    super = tested-super (dat_in old server v) (idx_in old server v) k told.0;
    follows = λ follows.
        let same = counted-kept (dat_in old server v) (idx_in old server v) k (tested-parts (dat_in old server v) (idx_in old server v) k told.0).0 follows in
        (same, ap (end_by (idx_in old server v)) same ∙ follows-end (dat_in old server v) (idx_in old server v) follows (tested-super (dat_in old server v) (idx_in old server v) k told.0));
  };
  dat_file = dat_cut;
  idx_file = idx_cut;
  used = used;
  index = index_is;
  follows = λ follows.
      index_is
      ∙ ap (λ n. index_by (take n (entries (idx_in old server v)))) (counted-kept (dat_in old server v) (idx_in old server v) k (tested-parts (dat_in old server v) (idx_in old server v) k told.0).0 follows)
      ∙ follows-index (dat_in old server v) (idx_in old server v) follows;
  exact = λ dat idx has_dat has_idx follows. record {
    dat_file = dat_cut ∙ ap (cut_to end) has_dat ∙ cut_firm dat end;
    idx_file = idx_cut ∙ ap (cut_to long) has_idx ∙ cut_firm idx long;
    exact =
        subst (λ n. IsExact (take n dat) (take long idx) (kept_records dat idx)) (sym (end_is old server v k end long told is dat idx has_dat has_idx follows))
        (subst (λ n. IsExact (take (end_of (kept_records dat idx)) dat) (take n idx) (kept_records dat idx)) (sym (long_is old server v k end long told is dat idx has_dat has_idx follows))
        (cut_exact dat idx (long_dat old server v k end long told is dat idx has_dat has_idx follows)));
  };
}
  where
    within : 16 * k ≤ length (idx_in old server v)
    within = tested-idx (dat_in old server v) (idx_in old server v) k told.0

    index_is : volume.index ≡ index_by (take k (entries (idx_in old server v)))
    index_is = index ∙ ap (λ n. index_by (entries (take n (idx_in old server v)))) is ∙ ap index_by (entries-take k (idx_in old server v) within)

-- ---- by the names of the code

pub opens_by : (server v k end long : ℕ) (old mid new : Disk) (a b : List ℕ) → mid ≡ old → a ≡ (dat_place server v).1 → b ≡ (idx_place server v).1
    → (tested (dat_in old.files server v) (idx_in old.files server v) ≡ Ok k) × (end ≡ end_by (idx_in old.files server v) k) → long ≡ 16 * k
    → ShortensBoth (server, a) (server, b) end long mid new → Opens server v old new
opens_by server v k end long old mid new a b same dat idx told is did =
    opens_cut server v k end long old new told is (subst (λ d. Trims server v end long d new) same (trims_by server v end long mid new a b dat idx did))

pub opened_by : (server v k end long : ℕ) (volume : DatVolume) (old mid new : Disk) (a b : List ℕ) → mid ≡ old → a ≡ (dat_place server v).1 → b ≡ (idx_place server v).1
    → (tested (dat_in old.files server v) (idx_in old.files server v) ≡ Ok k) × (end ≡ end_by (idx_in old.files server v) k) → long ≡ 16 * k
    → AreShortened (server, a) (server, b) end long mid.files new.files → volume.used ≡ end → volume.index ≡ index_by (entries (take long (idx_in old.files server v))) → IsOpened server v volume old.files new.files
opened_by server v k end long volume old mid new a b same dat idx told is did used index =
    let named : AreShortened (dat_place server v) (idx_place server v) end long old.files new.files =
    subst (λ (d : Disk). AreShortened (dat_place server v) (idx_place server v) end long d.files new.files) same
    (subst (λ x. AreShortened (server, x) (idx_place server v) end long mid.files new.files) dat (subst (λ y. AreShortened (server, a) (server, y) end long mid.files new.files) idx did)) in
    opened server v k end long volume old.files new.files told is named.first named.second used index

-- the index to read is there
pub index_within : (server k : ℕ) (old mid : Disk) (dat : List ℕ) (a b : List ℕ) → mid ≡ old → a ≡ b → tested dat (bytes_of (old.files (server, a))) ≡ Ok k → 16 * k ≤ length (bytes_of (mid.files (server, b)))
index_within server k old mid dat a b same names told =
    subst (λ (d : Disk). 16 * k ≤ length (bytes_of (d.files (server, b)))) (sym same)
    (subst (λ (x : List ℕ). 16 * k ≤ length (bytes_of (old.files (server, x)))) names (tested-idx dat (bytes_of (old.files (server, a))) k told))

-- and what is read of it
pub index_of_names : (server v long : ℕ) (old mid : Disk) (a : List ℕ) (index : Index) → mid ≡ old → a ≡ (idx_place server v).1 → index ≡ index_by (entries (take long (bytes_of (mid.files (server, a)))))
    → index ≡ index_by (entries (take long (idx_in old.files server v)))
index_of_names server v long old mid a index same names is =
    is ∙ ap (λ (d : Disk). index_by (entries (take long (bytes_of (d.files (server, a)))))) same ∙ ap (λ (x : List ℕ). index_by (entries (take long (bytes_of (old.files (server, x)))))) names

-- what was loaded
pub loaded : (volume : DatVolume) (dat idx : List ℕ) (k end long : ℕ) → (tested dat idx ≡ Ok k) × (end ≡ end_by idx k) → long ≡ 16 * k
    → volume.used ≡ end → volume.index ≡ index_by (entries (take long idx)) → IsLoaded volume dat idx
loaded volume dat idx k end long told is used index = record {
  lengths = (end, long);
  keeps = record {
    count = k;
    passed = told.0;
    dat_length = told.1;
    idx_length = is;
    dat_within = omega (arith, told.1, tested-dat dat idx k told.0);
    idx_within = omega (arith, is, within);
    super = tested-super dat idx k told.0;
    follows = λ follows. (count_is follows, ap (end_by idx) (count_is follows) ∙ follows-end dat idx follows (tested-super dat idx k told.0));
  };
  used = used;
  index = index_is;
  follows = λ follows. index_is ∙ ap (λ n. index_by (take n (entries idx))) (count_is follows) ∙ follows-index dat idx follows;
}
  where
    within : 16 * k ≤ length idx
    within = tested-idx dat idx k told.0

    count_is : FollowsRecords dat idx → k ≡ kept dat idx
    count_is follows = counted-kept dat idx k (tested-parts dat idx k told.0).0 follows

    index_is : volume.index ≡ index_by (take k (entries idx))
    index_is = index ∙ ap (λ n. index_by (entries (take n idx))) is ∙ ap index_by (entries-take k idx within)
