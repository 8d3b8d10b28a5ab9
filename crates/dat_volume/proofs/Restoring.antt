-- How the index comes to be as it was, and to have a record.
use Rattle.std.proofs.Common.{◌≡◌, ℕ, Bool, true, false, cond, Option, Some, None, refl, sym, ◌∙◌, ap, subst}
use Rattle.std.specs.Prelude.{IfSome, IsSome}
use Rattle.std.specs.Ordering.{nat_cmp, eq_by_cmp, is_eq}
use Rattle.std.specs.declared.cmp.Ordering.{Ordering}
use Rattle.std.specs.declared.cmp.Ordering.TheVariants.{Less, Equal, Greater}
use Rattle.std.specs.Cmp.{nat_cmp_is}
use Rattle.std.specs.FinMap.{get, insert, get-insert, get-remove, same_map, nat_cmp-IsAntisymmetric}
use Rattle.std.proofs.lemmas.Cmp.{nat_cmp_total}
use Rattle.world_model.specs.declared.types.Content.{Content}
use Rattle.volume_forms.specs.declared.Entry.{Entry}
use Rattle.needle_record.specs.Records.{Placed, Index, entry_of, index_after_content}
use Rattle.dat_volume.specs.Entering.{index_before, index_behind, index_again}

tied : (q k : ℕ) → eq_by_cmp nat_cmp q k ≡ true → k ≡ q
tied q k e = by_order (nat_cmp q k) refl e
  where
    by_order : (o : Ordering) → nat_cmp q k ≡ o → is_eq o ≡ true → k ≡ q
    by_order Less p e = absurd cc
    by_order Equal p e = sym (nat_cmp-IsAntisymmetric q k p)
    by_order Greater p e = absurd cc

same_key : (k : ℕ) → eq_by_cmp nat_cmp k k ≡ true
same_key k = ap is_eq (sym (nat_cmp_is k k Equal refl))

-- what an index has at an id, and an other one everywhere else
got_again : (index other : Index) (id : ℕ) → ((q : ℕ) → eq_by_cmp nat_cmp q id ≡ false → get other q ≡ get index q)
    → (earlier : Option Entry) → get index id ≡ earlier → index_again other id earlier ≡ index
got_again index other id others None is = same_map nat_cmp_total nat_cmp-IsAntisymmetric _ _ (λ q. get-remove nat_cmp_total other id q ∙ by_key q (eq_by_cmp nat_cmp q id) refl)
  where
    by_key : (q : ℕ) (b : Bool) → eq_by_cmp nat_cmp q id ≡ b → cond b None (get other q) ≡ get index q
    by_key q true e = sym is ∙ ap (get index) (tied q id e)
    by_key q false e = others q e
got_again index other id others (Some before) is = same_map nat_cmp_total nat_cmp-IsAntisymmetric _ _ (λ q. get-insert nat_cmp_total other id before q ∙ by_key q (eq_by_cmp nat_cmp q id) refl)
  where
    by_key : (q : ℕ) (b : Bool) → eq_by_cmp nat_cmp q id ≡ b → cond b (Some before) (get other q) ≡ get index q
    by_key q true e = sym is ∙ ap (get index) (tied q id e)
    by_key q false e = others q e

again_here : (index : Index) (e : Entry) (content : Option Content) → index_again (index_before index e content) e.id (get index e.id) ≡ index
again_here index e None = got_again index index e.id (λ q other. refl) (get index e.id) refl
again_here index e (Some c) = got_again index (insert index e.id e) e.id (λ q other. get-insert nat_cmp_total index e.id e q ∙ ap (λ b. cond b (Some e) (get index q)) other) (get index e.id) refl

stands_here : (index : Index) (e : Entry) (content : Option Content) → (earlier : Option Entry) → get index e.id ≡ earlier → IfSome earlier (λ _. IsSome (get (index_before index e content) e.id))
stands_here index e content None is = tt
stands_here index e None (Some before) is = subst (λ (o : Option Entry). IsSome o) (sym is) refl
stands_here index e (Some c) (Some before) is =
    subst (λ (o : Option Entry). IsSome o) (sym (get-insert nat_cmp_total index e.id e e.id ∙ ap (λ b. cond b (Some e) (get index e.id)) (same_key e.id))) refl

module _ (index : Index) (e : Entry) (content : Option Content) {mid : Index} {id : ℕ} {earlier : Option Entry} (own : e.id ≡ id) (had : earlier ≡ get index id) (set : mid ≡ index_before index e content) where
  -- the id has an entry still, if it had one
  pub in_place : IfSome earlier (λ _. IsSome (get mid id))
  in_place = subst (λ (k : ℕ). IfSome earlier (λ _. IsSome (get mid k))) own
      (subst (λ (m : Index). IfSome earlier (λ _. IsSome (get m e.id))) (sym set) (stands_here index e content earlier (ap (get index) own ∙ sym had)))

  -- taken back, the index is as before
  pub again : index_again mid id earlier ≡ index
  again =
      let same : id ≡ e.id = sym own in
      (λ i. index_again (set i) (same i) (had i)) ∙ ap (λ k. index_again (index_before index e content) e.id (get index k)) same ∙ again_here index e content

-- and written, it has the record
pub entered : (index : Index) (p : Placed) (content : Option Content) → index_behind (index_before index (entry_of p) content) p.1.id content ≡ index_after_content index p content
entered index p None = refl
entered index p (Some c) = refl
