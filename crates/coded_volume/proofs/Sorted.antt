-- The index that all holders have, and its map.
use Rattle.std.proofs.Common.{◌≡◌, ◌≢◌, ℕ, Bool, true, false, ◌&&◌, T, List, [], ◌∷◌, map, Option, Some, None, IsTrue, is_some, inl, inr, refl, sym, ◌∙◌, ap, subst}
use Rattle.std.specs.Prelude.{◌⊎◌, Contains, unwrap_or}
use Rattle.std.specs.Ordering.{nat_cmp, is_lt}
use Rattle.std.specs.declared.cmp.Ordering.TheVariants.{Less}
use Rattle.std.specs.Cmp.{nat_cmp_total}
use Rattle.std.specs.List.{All, AllByRecursion}
use Rattle.std.specs.List.Sorted.{IsStrictlyIncreasing, IsStrictlySortedBy}
use Rattle.std.specs.FinMap.{FinMap, from_entries, from_sorted, values, is_sorted, get-from_entries, get-from_sorted, entries-from_sorted, nat_cmp-IsAntisymmetric, same_map}
use Rattle.std.specs.FinMap.Entries.{below_all}
use Rattle.std.proofs.lemmas.List.Elements.{All-contains}
use Rattle.std.proofs.lemmas.Map.Keys.{sorted_from_strictly_increasing}
use Rattle.site_model.specs.Disk.{File, standing, bytes_of}
use Rattle.file_names.specs.declared.Kind.TheVariants.{Ecx}
use Rattle.volume_forms.specs.declared.Entry.{Entry}
use Rattle.volume_forms.specs.Forms as forms
use Rattle.ecx_index.specs.Listed.{map_of, under_ids}
use Rattle.ecx_index.specs.Loading.{IsIndexFile, IsLoaded}
use Rattle.stripe_layout.specs.declared.Info.{Info}
use Rattle.image_meaning.specs.Files.{VolumeFiles, bytes_at}
use Rattle.image_meaning.specs.Sound.{IsHolder, IsSortedIndex, HasOneIndex}
use Rattle.coded_volume.specs.declared.checking.holders.Holders.{Holders}
use Rattle.coded_volume.specs.Checking.{AreHolders, EndsWithin, HasIndexOf}
use mathlib.Core.Bool.{true≢false}

-- ---- the entries of a map by id

both : (a b : Bool) → T a → T b → T (a && b)
both true b p q = q
both false b p q = p

below : (id : ℕ) (es : List Entry) → AllByRecursion (λ key. nat_cmp id key ≡ Less) (map (λ (e : Entry). e.id) es) → T (below_all nat_cmp id (under_ids es))
below id [] h = tt
below id (e ∷ es) h = both (is_lt (nat_cmp id e.id)) (below_all nat_cmp id (under_ids es)) (subst (λ o. T (is_lt o)) (sym h.0) tt) (below id es h.1)

sorted : (es : List Entry) → IsStrictlySortedBy nat_cmp (map (λ (e : Entry). e.id) es) → T (is_sorted nat_cmp (under_ids es))
unfolding IsStrictlySortedBy
sorted [] h = tt
sorted (e ∷ es) h = both (below_all nat_cmp e.id (under_ids es)) (is_sorted nat_cmp (under_ids es)) (below e.id es h.0) (sorted es h.1)

alone : (es : List Entry) → map (λ (p : ℕ × Entry). p.1) (under_ids es) ≡ es
alone [] = refl
alone (e ∷ es) = ap (λ rest. e ∷ rest) (alone es)

-- they stand in the map as they are
pub values_are : (es : List Entry) → IsStrictlyIncreasing (map (λ (e : Entry). e.id) es) → values (map_of es) ≡ es
unfolding map_of
values_are es rise =
    let by_id : T (is_sorted nat_cmp (under_ids es)) = sorted es (sorted_from_strictly_increasing (map (λ (e : Entry). e.id) es) rise) in
    let same : from_entries {R = nat_cmp} (under_ids es) ≡ from_sorted (under_ids es) =
    same_map nat_cmp_total nat_cmp-IsAntisymmetric (from_entries (under_ids es)) (from_sorted (under_ids es)) (λ key. get-from_entries nat_cmp_total (under_ids es) key ∙ sym (get-from_sorted nat_cmp (under_ids es) key by_id)) in
    ap (λ (m : FinMap nat_cmp Entry). values m) same ∙ ap (map (λ (p : ℕ × Entry). p.1)) (entries-from_sorted nat_cmp (under_ids es) by_id) ∙ alone es

-- ---- the file at the first holder

pub bytes_standing : (o : Option File) → unwrap_or (standing o) [] ≡ bytes_of o
bytes_standing None = refl
bytes_standing (Some file) = refl

index_stands : (o : Option File) → IsIndexFile o → IsTrue (is_some (standing o))
index_stands None h = absurd h
index_stands (Some file) h = refl

index_sorted : (o : Option File) → IsIndexFile o → IsSortedIndex (unwrap_or (standing o) [])
index_sorted None h = absurd h
index_sorted (Some file) h = h

index_is : (o : Option File) → IsTrue (is_some (standing o)) → IsSortedIndex (unwrap_or (standing o) []) → IsIndexFile o
index_is None stands sorts = true≢false (sym stands)
index_is (Some file) stands sorts = sorts

-- what the first holder's index is
pub record HasFirst (files : VolumeFiles) (holders : Holders) (index : FinMap nat_cmp Entry) : Type 0 where
  pub stands : IsTrue (is_some (files holders.first Ecx))
  pub sorts : IsSortedIndex (bytes_at files holders.first Ecx)
  pub entries : index ≡ map_of (forms.entries (bytes_at files holders.first Ecx))

pub first_loaded : (files : VolumeFiles) (holders : Holders) (index : FinMap nat_cmp Entry) (o : Option File) → files holders.first Ecx ≡ standing o → IsLoaded o index → HasFirst files holders index
first_loaded files holders index o is loaded = record {
  stands = subst (λ (f : Option (List ℕ)). IsTrue (is_some f)) (sym is) (index_stands o loaded.sorted);
  sorts = subst (λ (f : Option (List ℕ)). IsSortedIndex (unwrap_or f [])) (sym is) (index_sorted o loaded.sorted);
  entries = loaded.entries ∙ ap (λ (l : List ℕ). map_of (forms.entries l)) (sym (bytes_standing o) ∙ ap (λ (f : Option (List ℕ)). unwrap_or f []) (sym is));
}

module _ (files : VolumeFiles) (holders : Holders) (info : Info) (are : AreHolders files holders) where
  module _ (index : FinMap nat_cmp Entry) (has : HasFirst files holders index) where
    values_of : values index ≡ forms.entries (bytes_at files holders.first Ecx)
    values_of = ap (λ (m : FinMap nat_cmp Entry). values m) has.entries ∙ values_are (forms.entries (bytes_at files holders.first Ecx)) has.sorts.rising

    pub ends_fail : ¬ EndsWithin info.dat_size (values index) → ¬ HasOneIndex files info
    ends_fail far one = far (subst (EndsWithin info.dat_size) (sym values_of) (one.ends holders.first are.first))

    pub indexes_pass : EndsWithin info.dat_size (values index) → All (λ server. files holders.first Ecx ≡ files server Ecx) holders.others.items → HasIndexOf files holders info index
    indexes_pass ends same = record {
      one = record {
        there = λ server holds. (holds.0, subst (λ (f : Option (List ℕ)). IsTrue (is_some f)) (as_first server holds) has.stands);
        same = λ s t first second. ap (λ (f : Option (List ℕ)). unwrap_or f []) (sym (as_first s first) ∙ as_first t second);
        sorted = λ server holds. subst (λ (f : Option (List ℕ)). IsSortedIndex (unwrap_or f [])) (as_first server holds) has.sorts;
        ends = λ server holds. subst (λ (f : Option (List ℕ)). EndsWithin info.dat_size (forms.entries (unwrap_or f []))) (as_first server holds) (subst (EndsWithin info.dat_size) values_of ends);
      };
      entries = has.entries;
    }
      where
        by_place : (server : ℕ) → (server ≡ holders.first) ⊎ Contains holders.others.items server → files holders.first Ecx ≡ files server Ecx
        by_place server (inl e) = ap (λ s. files s Ecx) (sym e)
        by_place server (inr one) = All-contains (λ s. files holders.first Ecx ≡ files s Ecx) holders.others.items server same one

        as_first : (server : ℕ) → IsHolder files server → files holders.first Ecx ≡ files server Ecx
        as_first server holds = by_place server (are.all server holds)
