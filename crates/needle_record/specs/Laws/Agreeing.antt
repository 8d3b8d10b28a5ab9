-- The index of some records and their volume's needles have the same ids.
use Rattle.std.proofs.Common.{◌≡◌, ℕ, List, [], ◌∷◌, Bool, true, false, cond, Option, Some, None, All, refl, sym}
use Rattle.std.specs.Ordering.{nat_cmp, eq_by_cmp, is_eq}
use Rattle.std.specs.declared.cmp.Ordering.{Ordering}
use Rattle.std.specs.declared.cmp.Ordering.TheVariants.{Less, Equal, Greater}
use Rattle.std.specs.Cmp.{nat_cmp_total}
use Rattle.std.specs.FinMap.{get, get-empty, get-insert, get-remove, nat_cmp-IsAntisymmetric}
use Rattle.std.proofs.lemmas.List.Elements.{All-head, All-tail}
use Rattle.world_model.specs.declared.types.Content.{Content}
use Rattle.world_model.specs.World.{Volume, Needle, Needles, empty_volume}
use Rattle.volume_forms.specs.declared.Entry.{Entry}
use Rattle.needle_record.specs.Records.{Placed, Index, AgreesAt, after_record, needles_after, entry_of, fold_from, fold_records, index_after_content, index_from, index_of}

tied : (q k : ℕ) → eq_by_cmp nat_cmp q k ≡ true → k ≡ q
tied q k e = by_order (nat_cmp q k) refl e
  where
    by_order : (o : Ordering) → nat_cmp q k ≡ o → is_eq o ≡ true → k ≡ q
    by_order Less p e = absurd cc
    by_order Equal p e = sym (nat_cmp-IsAntisymmetric q k p)
    by_order Greater p e = absurd cc

module _ (Stands : Placed → Type 0) (id : ℕ) where
  -- after a record, with content or without, at this id or at another
  by_content : (index : Index) (needles : Needles) (p : Placed) (o : Option Content) → p.1.content ≡ o → Stands p → AgreesAt Stands id (get index id) (get needles id)
      → AgreesAt Stands id (get (index_after_content index p o) id) (get (needles_after needles p.1 o) id)
  by_content index needles p None is stands so_far = rw (get-remove nat_cmp_total index p.1.id id, get-remove nat_cmp_total needles p.1.id id) (by_id (eq_by_cmp nat_cmp id p.1.id))
    where
      by_id : (b : Bool) → AgreesAt Stands id (cond b None (get index id)) (cond b None (get needles id))
      by_id true = refl
      by_id false = so_far
  by_content index needles p (Some c) is stands so_far =
      rw (get-insert nat_cmp_total index p.1.id (entry_of p) id, get-insert {X = Needle} nat_cmp_total needles p.1.id (record { cookie = p.1.cookie; content = c }) id) (by_id (eq_by_cmp nat_cmp id p.1.id) refl)
    where
      by_id : (b : Bool) → eq_by_cmp nat_cmp id p.1.id ≡ b → AgreesAt Stands id (cond b (Some (entry_of p)) (get index id)) (cond b (Some (record { cookie = p.1.cookie; content = c })) (get needles id))
      by_id true same = (p, c, stands, tied id p.1.id same, is, refl, refl)
      by_id false same = so_far

  agreeing : (index : Index) (v : Volume) (ps : List Placed) → All Stands ps → AgreesAt Stands id (get index id) (get v.needles id) → AgreesAt Stands id (get (index_from index ps) id) (get (fold_from v ps).needles id)
  agreeing index v [] all so_far = so_far
  agreeing index v (p ∷ ps) all so_far =
      agreeing (index_after_content index p p.1.content) (after_record v p.1) ps (All-tail Stands p ps all) (by_content index v.needles p p.1.content refl (All-head Stands p ps all) so_far)

  pub all_agree : (ps : List Placed) → All Stands ps → AgreesAt Stands id (get (index_of ps) id) (get (fold_records ps).needles id)
  all_agree ps all = agreeing _ empty_volume ps all (rw (get-empty {X = Entry} nat_cmp id, get-empty {X = Needle} nat_cmp id) refl)
