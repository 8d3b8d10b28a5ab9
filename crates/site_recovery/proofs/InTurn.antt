-- Volumes of any form that are tested one after another. For the recovery of coded volumes, to come.
use Rattle.std.proofs.Common.{◌≡◌, inl, inr, ⊎_elim, ℕ, ◌+◌, ◌<◌, false, List, [], ◌∷◌, ◌++◌, length, map, take, sym, ◌∙◌, ap, subst, arith}
use Rattle.std.specs.Prelude.{slice_index_or, Contains}
use Rattle.std.proofs.lemmas.Bool.{cases_eq, cases_lt}
use Rattle.std.proofs.lemmas.List.{get_or_default, get_or-take, get_or-map, length-map, length-take-le, map-append, take_more}
use Rattle.std.proofs.lemmas.List.Elements.{All-contains, Contains-get_or, Contains-push_cases}
use Rattle.std.proofs.lemmas.List.Kept.{AllPairs-from_increasing}
use Rattle.site_model.specs.Disk.{Files}
use Rattle.site_model.specs.declared.error.OpenFault.{OpenFault}
use Rattle.site_model.specs.declared.error.OpenFault.TheVariants as open_fault
use Rattle.file_names.specs.Names.{IsName}
use Rattle.file_names.specs.declared.Kind.TheVariants.{Dat}
use Rattle.image_meaning.specs.Files.{contents, files_of}
use Rattle.image_meaning.specs.Meaning.{max_volumes}
use Rattle.image_meaning.specs.Laws.Plain.{no_files_absent, absent_mode}
use Rattle.site_recovery.specs.declared.forms.Group.{Group}
use Rattle.site_recovery.specs.declared.forms.Listed.{Listed}
use Rattle.site_recovery.specs.declared.forms.ListedForm.{ListedForm}
use Rattle.site_recovery.specs.declared.forms.ListedForm.TheVariants as form
use Rattle.site_recovery.specs.declared.forms.TestedGroup.{TestedGroup}
use Rattle.site_recovery.specs.Homes.{IsBroken}
use Rattle.site_recovery.specs.Listing.{AreFilesIn, AreThoseOf, AreInOrder, AreGroups}
use Rattle.site_recovery.specs.Opening.{PassesForm, FailsForm, FailsListed, IsTestedForm, AreTestedGroups, TellsFirstFault}
use Rattle.site_recovery.proofs.Copied.{those_all}
use Rattle.site_recovery.proofs.Members.{contains_cases, map_has}
use Rattle.site_recovery.proofs.Opened.{absent_form}
use Rattle.site_recovery.proofs.Whole.{unlisted_files}

-- those of one volume are in order too
pub its_order : (servers v : ℕ) (found its : List Listed) → AreInOrder servers found → AreThoseOf v found its → AreInOrder servers its
its_order servers v found its order those = record {
  few = order.few;
  named = those_all (λ (l : Listed). IsName l.file) v found its those order.named;
  on_servers = those_all (λ (l : Listed). l.server < servers) v found its those order.on_servers;
  rise = λ i j d le lt. omega (arith, of_it i d (omega (arith, le, lt)), of_it j d lt);
}
  where
    of_it : (k : ℕ) (d : Listed) → k < length its → (slice_index_or its k d).file.volume ≡ v
    of_it k d lt = ((those (slice_index_or its k d)).0 (Contains-get_or its k d lt)).1

module _ (files : Files) (groups : List Group) (n : ℕ) (d : Group) (fits : n < length groups) (tested : List TestedGroup) (were : AreTestedGroups files (take n groups) tested) where
  abbrev this : Group
  this = slice_index_or groups n d

  -- the next volume passes
  pub groups_next : (found : ListedForm) → IsTestedForm (files_of (contents files) this.volume) found → AreTestedGroups files (take (n + 1) groups) (tested ++ record { group = this; form = found } ∷ [])
  groups_next found here =
      let t : TestedGroup = record { group = this; form = found } in
      record {
        groups_are = map-append (λ (u : TestedGroup). u.group) tested (t ∷ []) ∙ ap (λ (l : List Group). l ++ this ∷ []) were.groups_are ∙ sym (take_more groups n d fits);
        each = λ u has. ⊎_elim (λ was. were.each u was) (λ same. subst (λ (w : TestedGroup). IsTestedForm (files_of (contents files) w.group.volume) w.form) same here) (Contains-push_cases tested t u has);
      }

  -- the volumes before it passed
  was_tested : (k : ℕ) → k < n → PassesForm (files_of (contents files) (slice_index_or groups k d).volume)
  was_tested k low =
      let other : TestedGroup = record { group = d; form = form.Absent } in
      let long : length tested ≡ n = sym (length-map tested (λ (u : TestedGroup). u.group)) ∙ ap length were.groups_are ∙ length-take-le n groups (omega (arith, fits)) in
      let lt : k < length tested = omega (arith, low, long) in
      let same : (slice_index_or tested k other).group ≡ slice_index_or groups k d =
      sym (get_or-map (λ (u : TestedGroup). u.group) tested k other d lt) ∙ ap (λ (l : List Group). slice_index_or l k d) were.groups_are ∙ get_or-take n groups k d low in
      subst (λ (g : Group). PassesForm (files_of (contents files) g.volume)) same (were.each (slice_index_or tested k other) (Contains-get_or tested k other lt)).passes

  module _ (servers : ℕ) (found : List Listed) (order : AreInOrder servers found) (are : AreFilesIn files found) (of : AreGroups found groups) where
    this_below : this.volume < max_volumes
    this_below =
        let first : Listed = record { server = 0; file = record { volume = 0; kind = Dat; temp = false } } in
        let is = of.each n d fits in
        let name = order.named this.start first (omega (arith, is.some, is.within)) in
        subst (λ v. v < max_volumes) (is.same this.start first (omega arith) is.some) name.volume

    passed : (u : ℕ) → u < this.volume → PassesForm (files_of (contents files) u)
    passed u less = ⊎_elim among unlisted (contains_cases (map (λ (l : Listed). l.file.volume) found) u)
      where
        among : Contains (map (λ (l : Listed). l.file.volume) found) u → PassesForm (files_of (contents files) u)
        among has =
            let one = map_has (λ (l : Listed). l.file.volume) found u has in
            let some = All-contains (λ (l : Listed). (k : ℕ) × (g : Group) × (k < length groups) × (slice_index_or groups k g ≡ g) × (g.volume ≡ l.file.volume)) found one.0 of.all one.1 in
            let it : slice_index_or groups some.0 d ≡ some.1 = get_or_default groups some.0 d some.1 some.2 ∙ some.3 in
            let volume : (slice_index_or groups some.0 d).volume ≡ u = ap (λ (g : Group). g.volume) it ∙ some.4 ∙ one.2 in
            by_place some.0 some.2 volume
          where
            volumes : List ℕ
            volumes = map (λ (g : Group). g.volume) groups

            volume_at : (k : ℕ) → k < length groups → slice_index_or volumes k 0 ≡ (slice_index_or groups k d).volume
            volume_at k lt = get_or-map (λ (g : Group). g.volume) groups k d 0 lt

            by_place : (k : ℕ) → k < length groups → (slice_index_or groups k d).volume ≡ u → PassesForm (files_of (contents files) u)
            by_place k lt volume = elim (cases_lt k n) [
              | inl before ↦ subst (λ w. PassesForm (files_of (contents files) w)) volume (was_tested k before)
              | inr after ↦ elim (cases_eq k n) [
                | inl same ↦ absurd (omega (arith, less, volume, ap (λ j. (slice_index_or groups j d).volume) same))
                | inr other ↦
                    let more = AllPairs-from_increasing volumes of.rise n k 0 (omega arith) (omega (arith, lt, length-map groups (λ (g : Group). g.volume))) in
                    absurd (omega (arith, less, volume, more, volume_at n fits, volume_at k lt))
              ]
            ]

        unlisted : (Contains (map (λ (l : Listed). l.file.volume) found) u → ⊥) → PassesForm (files_of (contents files) u)
        unlisted none =
            absent_form (files_of (contents files) u)
            (absent_mode (files_of (contents files) u)
            (no_files_absent (files_of (contents files) u) (unlisted_files files found are (map (λ (l : Listed). l.file.volume) found) (λ w. (λ has. has, λ has. has)) u (omega (arith, less, this_below)) none)))

    -- so it is the first that fails
    pub first_fault : (fault : OpenFault) → FailsListed this.volume (files_of (contents files) this.volume) fault → TellsFirstFault files fault
    first_fault (open_fault.Unsound volume rule) fails = record {
      below = subst (λ w. w < max_volumes) (sym fails.0) this_below;
      fails = subst (λ w. FailsForm (files_of (contents files) w) rule) (sym fails.0) fails.1;
      broken = subst (λ w. IsBroken (files_of (contents files) w) rule) (sym fails.0) fails.2;
      first = λ u less. passed u (omega (arith, less, fails.0));
    }
    first_fault (open_fault.Fault server) fails = tt
    first_fault open_fault.Memory fails = tt
