-- What a put leaves of a volume.
use Rattle.std.proofs.Common.{◌≡◌, ◌⊎◌, inl, inr, ⊎_elim, ℕ, ◌+◌, ◌<◌, ◌≤◌, List, [], ◌∷◌, ◌++◌, length, drop, Some, sym, ◌∙◌, ap, subst, arith, length-append}
use Rattle.std.specs.Prelude.{IfSome, Result, Ok, Err, OnOk, false}
use Rattle.std.specs.Result.{is_err}
use Rattle.std.specs.Int.{w32, cast_unsigned}
use Rattle.std.proofs.Math.Seq.{drop-length}
use Rattle.std.proofs.lemmas.List.{append-nil}
use Rattle.site_model.specs.Disk.{Place, Files, Image, firm_file, bytes_of, Disk}
use Rattle.site_model.specs.Leaves.{starts, weaker}
use Rattle.site_model.specs.Touches.{touches_none}
use Rattle.site_model.specs.Counts.{Counts, TakesCalls, widest_piece}
use Rattle.site_model.specs.Laws.Count.{takes_within}
use Rattle.whole_file.specs.Pieces.{append_pieces}
use Rattle.wire_num.specs.Numbers as numbers
use Rattle.wire_num.specs.Laws.Number.{length-bytes_of}
use Rattle.world_model.specs.Sizes.{FitsRecord, max_dat}
use Rattle.volume_forms.specs.declared.Entry.{Entry}
use Rattle.volume_forms.specs.Forms.{entry_bytes}
use Rattle.needle_record.specs.declared.Record.{Record}
use Rattle.needle_record.specs.Spelling.{HasRoom, canonical, length_of_record}
use Rattle.needle_record.specs.Laws.Spelling.{canonical-reads}
use Rattle.needle_record.specs.Records.{Placed, records_from, entry_of}
use Rattle.needle_record.specs.Laws.Records.{records_from-found, records_from-nothing}
use Rattle.image_meaning.specs.Plain.{kept_records, IsExact}
use Rattle.image_meaning.specs.Laws.Plain.{exact_push, torn_follows, torn_dat_follows}
use Rattle.image_meaning.specs.Laws.Torn.{kept_records-torn, kept_records-before}
use Rattle.dat_volume.specs.Places.{dat_place, idx_place, LeavesRecords}
use Rattle.dat_volume.specs.Writes.{Puts, IsPut}
use Rattle.dat_volume.specs.Laws.Write.{firm_keeps}
use Rattle.dat_volume.specs.Writing.{HasMore, AppendsRecord, IsAppended}

pub length-entry_bytes : (e : Entry) → length (entry_bytes e) ≡ 16
length-entry_bytes e =
    length-append (numbers.bytes_of 8 e.id ++ numbers.bytes_of 4 e.offset) (numbers.bytes_of 4 (cast_unsigned w32 e.size))
    ∙ ap (λ n. n + length (numbers.bytes_of 4 (cast_unsigned w32 e.size))) (length-append (numbers.bytes_of 8 e.id) (numbers.bytes_of 4 e.offset))
    ∙ λ i. length-bytes_of 8 e.id i + length-bytes_of 4 e.offset i + length-bytes_of 4 (cast_unsigned w32 e.size) i

-- nothing was written
pub puts_none : (server v used : ℕ) (r : Record) (disk : Disk) → Puts server v used r disk disk
puts_none server v used r disk = record {
  touches = touches_none disk;
  leaves = λ dat idx ps are is_used. starts disk (λ image left. inl (firm_keeps server v disk.files dat idx ps are image (λ k here. left k)));
}

-- a record of one piece, and its entry
pub put_calls : (r : Record) (e : Entry) (bytes entry : List ℕ) {old new : Counts} → HasRoom r → IfSome r.content FitsRecord → bytes ≡ canonical r → entry ≡ entry_bytes e
    → TakesCalls (append_pieces (length bytes) + append_pieces (length entry) + 2) widest_piece old new → length_of_record r ≤ 65536 → TakesCalls 4 65536 old new
put_calls r e bytes entry room fits bytes_are entry_is takes short =
    let long : length bytes ≡ length_of_record r = ap length bytes_are ∙ (canonical-reads r room fits).long in
    let sixteen : length entry ≡ 16 = ap length entry_is ∙ length-entry_bytes e in
    takes_within (omega (arith, long, sixteen, short)) (omega arith) takes

module _ (server v used : ℕ) (r : Record) (room : HasRoom r) (fits : IfSome r.content FitsRecord) (ends : used + length_of_record r ≤ max_dat) where
  module _ (dat idx : List ℕ) (ps : List Placed) (exact : IsExact dat idx ps) (is_used : used ≡ length dat) where
    only_one : records_from (length dat) (canonical r) ≡ (used, r) ∷ []
    only_one =
        let read = canonical-reads r room fits in
        ap (λ n. records_from n (canonical r)) (sym is_used)
        ∙ records_from-found used (canonical r) (r, length_of_record r) read.reads ends
        ∙ ap (λ rest. (used, r) ∷ records_from (used + length_of_record r) rest) (ap (λ n. drop n (canonical r)) (sym read.long) ∙ drop-length (canonical r))
        ∙ ap (λ rest. (used, r) ∷ rest) (records_from-nothing (used + length_of_record r))

    -- before the entry is written: the old records
    keeps_before : (image : Image) (n : ℕ) → HasMore dat n (image (dat_place server v)) → image (idx_place server v) ≡ Some idx → LeavesRecords server v image dat ps
    keeps_before image n more same = record {
      more = more.0;
      idx = idx;
      has_dat = more.2;
      has_idx = same;
      follows = torn_dat_follows dat idx ps exact more.0;
      kept = ap (kept_records (dat ++ more.0)) (sym (append-nil idx)) ∙ kept_records-before dat idx ps exact more.0 [] (omega arith);
    }

    -- from then on: the old records, or these and the new one
    keeps_after : (image : Image) → image (dat_place server v) ≡ Some (dat ++ canonical r) → HasMore idx (length (entry_bytes (entry_of (used, r)))) (image (idx_place server v))
        → LeavesRecords server v image dat ps ⊎ LeavesRecords server v image dat (ps ++ (used, r) ∷ [])
    keeps_after image whole more = ⊎_elim (λ old. inl (keeps ps old)) (λ new. inr (keeps (ps ++ (used, r) ∷ []) (new.3 ∙ ap (λ p. ps ++ p ∷ []) (first_same (sym new.2 ∙ only_one))))) (kept_records-torn dat idx ps exact (canonical r) more.0 short)
      where
        short : length more.0 < 32
        short = omega (arith, more.1, length-entry_bytes (entry_of (used, r)))

        keeps : (qs : List Placed) → kept_records (dat ++ canonical r) (idx ++ more.0) ≡ qs → LeavesRecords server v image dat qs
        keeps qs kept =
            record { more = canonical r; idx = idx ++ more.0; has_dat = whole; has_idx = more.2; follows = torn_follows dat idx ps exact (canonical r) more.0 short; kept = kept }

        first_same : {A : Type 0} {x y : A} {xs ys : List A} → x ∷ xs ≡ y ∷ ys → x ≡ y
        first_same e = cc

  puts_here : {old new : Disk} → AppendsRecord (dat_place server v) (idx_place server v) (canonical r) (entry_bytes (entry_of (used, r))) old new → Puts server v used r old new
  puts_here did = record {
    touches = did.touches;
    leaves = λ dat idx ps are is_used. weaker (did.leaves dat idx (record { dat_file = are.dat_file; idx_file = are.idx_file }))
        (λ image said left. ⊎_elim (λ before. inl (keeps_before dat idx ps are.exact is_used image (length (canonical r)) before.0 before.1)) (λ after. keeps_after dat idx ps are.exact is_used image after.0 after.1) left);
  }

  put_here : {old new : Files} → IsAppended (dat_place server v) (idx_place server v) (canonical r) (entry_bytes (entry_of (used, r))) old new → IsPut server v used r old new
  put_here did = record {
    dat_file = did.dat_file;
    idx_file = did.idx_file;
    exact = λ dat idx ps are is_used. record {
      dat_file = did.dat_file ∙ ap (λ f. Some (firm_file (bytes_of f ++ canonical r))) are.dat_file;
      idx_file = did.idx_file ∙ ap (λ f. Some (firm_file (bytes_of f ++ entry_bytes (entry_of (used, r))))) are.idx_file;
      exact = subst (λ n. IsExact (dat ++ canonical r) (idx ++ entry_bytes (entry_of (n, r))) (ps ++ (n, r) ∷ [])) (sym is_used)
          (exact_push dat idx ps are.exact r room fits (subst (λ n. n + length_of_record r ≤ max_dat) is_used ends));
    };
  }

  -- the record and its entry were written, under names that spell the two files
  module _ {dat idx : Place} {bytes entry : List ℕ} (dat_is : dat ≡ dat_place server v) (idx_is : idx ≡ idx_place server v) (bytes_are : bytes ≡ canonical r) (entry_is : entry ≡ entry_bytes (entry_of (used, r))) where
    pub puts : {old new : Disk} → AppendsRecord dat idx bytes entry old new → Puts server v used r old new
    puts {old} {new} did = puts_here (
        subst (λ k. AppendsRecord k (idx_place server v) (canonical r) (entry_bytes (entry_of (used, r))) old new) dat_is
        (subst (λ k. AppendsRecord dat k (canonical r) (entry_bytes (entry_of (used, r))) old new) idx_is
        (subst (λ b. AppendsRecord dat idx b (entry_bytes (entry_of (used, r))) old new) bytes_are
        (subst (λ e. AppendsRecord dat idx bytes e old new) entry_is did)))
        )

    pub is_put : {old new : Files} → IsAppended dat idx bytes entry old new → IsPut server v used r old new
    is_put {old} {new} did = put_here (
        subst (λ k. IsAppended k (idx_place server v) (canonical r) (entry_bytes (entry_of (used, r))) old new) dat_is
        (subst (λ k. IsAppended dat k (canonical r) (entry_bytes (entry_of (used, r))) old new) idx_is
        (subst (λ b. IsAppended dat idx b (entry_bytes (entry_of (used, r))) old new) bytes_are
        (subst (λ e. IsAppended dat idx bytes e old new) entry_is did)))
        )

-- what holds of a call that didn't fail
pub at_ok : {T E P : Type 0} (r : Result T E) → is_err r ≡ false → OnOk r P → P
at_ok (Ok x) fine p = p
at_ok (Err e) fine p = absurd (cc fine)
