-- A record more at the end of a data file.
use Rattle.std.proofs.Common.{◌≡◌, ℕ, ◌+◌, ◌*◌, ◌%◌, ◌^◌, ◌<◌, ◌≤◌, List, [], ◌∷◌, ◌++◌, length, Option, Some, None, Bool, true, false, cond, pos, negsuc, refl, sym, ◌∙◌, ap, arith}
use Rattle.std.specs.Prelude.{IfSome, ◌==◌}
use Rattle.std.specs.Option.{option_map_or}
use Rattle.std.proofs.Math.ListN.{length-append}
use Rattle.std.proofs.lemmas.Bool.{eqb-true}
use Rattle.wire_num.specs.Numbers.{record_length}
use Rattle.world_model.specs.declared.types.Content.{Content}
use Rattle.world_model.specs.Sizes.{FitsRecord, size_of_content, max_dat}
use Rattle.volume_forms.specs.Kept.{entry_end, fields_size}
use Rattle.needle_record.specs.declared.Record.{Record}
use Rattle.needle_record.specs.Spelling.{HasRoom, canonical, length_of_record, record_size}
use Rattle.needle_record.specs.Reading.{IsReadAs}
use Rattle.needle_record.specs.Records.{Placed, records, end_from, end_of, entry_of, IsWholeDat}
use Rattle.needle_record.specs.Laws.Spelled.{canonical-spells, spelled-reads, size_fits}
use Rattle.needle_record.specs.Laws.Ends.{records-push}

pub end_from-push : (place : ℕ) (ps : List Placed) (p : Placed) → end_from place (ps ++ p ∷ []) ≡ p.0 + length_of_record p.1
end_from-push place [] p = refl
end_from-push place (q ∷ ps) p = end_from-push (q.0 + length_of_record q.1) ps p

-- what is written is read, and is all of its bytes
pub canonical_read : (r : Record) → HasRoom r → IfSome r.content FitsRecord → IsReadAs r (canonical r)
canonical_read r room fits = spelled-reads r (canonical r) (canonical-spells r room fits)

pub size_small : (r : Record) → IfSome r.content FitsRecord → record_size r < 2 ^ 31
size_small r fits = by_content r.content fits
  where
    by_content : (o : Option Content) → IfSome o FitsRecord → option_map_or size_of_content o 0 < 2 ^ 31
    by_content None fits = omega arith
    by_content (Some c) fits = (size_fits c fits).1

module _ (dat : List ℕ) (r : Record) (whole : IsWholeDat dat) (room : HasRoom r) (fits : IfSome r.content FitsRecord) (ends : length dat + length_of_record r ≤ max_dat) where
  pub push_written : records (dat ++ canonical r) ≡ records dat ++ (length dat, r) ∷ []
  push_written = let read = canonical_read r room fits in records-push dat (canonical r) (r, length_of_record r) whole read.reads (sym read.long) ends

  pub whole_pushed : IsWholeDat (dat ++ canonical r)
  whole_pushed = record {
    super = omega (arith, whole.super, length-append dat (canonical r));
    to_end = ap end_of push_written ∙ end_from-push 8 (records dat) (length dat, r) ∙ omega (arith, (canonical_read r room fits).long, length-append dat (canonical r));
  }

-- ---- entries

-- the entry of a record tells its place and its end
pub entry_place : (p : Placed) → p.0 % 8 ≡ 0 → 8 * (entry_of p).offset ≡ p.0
entry_place p eight = omega arith

pub entry_ends : (p : Placed) → p.0 % 8 ≡ 0 → entry_end (entry_of p) ≡ p.0 + length_of_record p.1
entry_ends p eight = ap (λ n. n + record_length (fields_size (entry_of p).size)) (entry_place p eight) ∙ ap (λ n. p.0 + record_length n) (by_size (record_size p.1) (record_size p.1 == 0) refl)
  where
    by_size : (n : ℕ) (b : Bool) → (n == 0) ≡ b → fields_size (cond b (negsuc 0) (pos n)) ≡ n
    by_size n true e = sym (eqb-true _ _ e)
    by_size n false e = refl
