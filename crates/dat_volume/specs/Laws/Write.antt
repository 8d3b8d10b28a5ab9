-- What the crates above need of a volume's two files after a stop.
use Rattle.std.specs.Prelude.{◌≡◌, ℕ, IsTrue, List, [], Option, Some}
use Rattle.std.proofs.Common.{inl, inr, refl, sym, ◌∙◌, ap, subst, arith}
use Rattle.std.proofs.lemmas.List.{append-nil}
use Rattle.site_model.specs.Disk.{File, Files, Image, LeftOf, firm_file}
use Rattle.site_model.specs.Touches.{firm_left}
use Rattle.site_model.specs.Standing.{Stands}
use Rattle.wire_num.specs.Numbers.{number_of}
use Rattle.volume_forms.specs.Forms.{has_super, entries, entries_within}
use Rattle.volume_forms.specs.Laws.Super.{has_super-by}
use Rattle.needle_record.specs.Records.{Placed, records, end_of}
use Rattle.needle_record.specs.Laws.Records.{records_from-nothing}
use Rattle.image_meaning.specs.Plain.{kept_records, FollowsRecords, IsExact}
use Rattle.image_meaning.specs.Laws.Plain.{exact_follows, exact_kept_records}
use Rattle.dat_volume.specs.Places.{dat_place, idx_place, IsOneOfTwo, AreFirmRecords, LeavesRecords}
use Rattle.dat_volume.specs.Writes.{new_dat}

-- ---- files that are exact

-- as they are
pub exact_keeps : (server v : ℕ) (image : Image) (dat idx : List ℕ) (ps : List Placed) → IsExact dat idx ps
    → image (dat_place server v) ≡ Some dat → image (idx_place server v) ≡ Some idx → LeavesRecords server v image dat ps
exact_keeps server v image dat idx ps exact has_dat has_idx = record {
  more = [];
  idx = idx;
  has_dat = has_dat ∙ ap Some (sym (append-nil dat));
  has_idx = has_idx;
  follows = subst (λ d. FollowsRecords d idx) (sym (append-nil dat)) (exact_follows dat idx ps exact);
  kept = ap (λ d. kept_records d idx) (append-nil dat) ∙ exact_kept_records dat idx ps exact;
}

-- firm, after any stop
pub firm_keeps : (server v : ℕ) (files : Files) (dat idx : List ℕ) (ps : List Placed) → AreFirmRecords server v files dat idx ps
    → Stands (IsOneOfTwo server v) (λ image. LeavesRecords server v image dat ps) files
firm_keeps server v files dat idx ps are image left = exact_keeps server v image dat idx ps are.exact
    (whole dat (files (dat_place server v)) (image (dat_place server v)) are.dat_file (left (dat_place server v) (inl refl)))
    (whole idx (files (idx_place server v)) (image (idx_place server v)) are.idx_file (left (idx_place server v) (inr refl)))
  where
    whole : (bytes : List ℕ) (file : Option File) (found : Option (List ℕ)) → file ≡ Some (firm_file bytes) → LeftOf file found → found ≡ Some bytes
    whole bytes file found is torn = firm_left (Some (firm_file bytes)) found (refl, refl) (subst (λ f. LeftOf f found) is torn)

-- ---- a new volume

pub new_super : IsTrue (has_super new_dat)
unfolding number_of
new_super = has_super-by new_dat (omega arith) refl refl

-- no records, and no entries
pub new_exact : IsExact new_dat [] []
unfolding records entries entries_within
new_exact = record {
  whole = record { super = omega arith; to_end = ap end_of (records_from-nothing 8) };
  has = records_from-nothing 8;
  index = refl;
  index_length = refl;
}
