-- What a recovery of volumes of any form finds. For the recovery of coded volumes, to come.
use Rattle.std.proofs.Common.{◌≡◌, ⊎_elim, ℕ, ◌<◌, List, [], ◌∷◌, map, Option, Some, None, refl, sym, ◌∙◌, ap, subst}
use Rattle.std.specs.Prelude.{◌↔◌, Contains}
use Rattle.std.specs.List.{All, filter_map}
use Rattle.std.specs.List.Sorted.{IsStrictlyIncreasing}
use Rattle.std.proofs.lemmas.List.Elements.{All-contains}
use Rattle.site_model.specs.Disk.{Files}
use Rattle.world_model.specs.declared.types.Mode.{Mode}
use Rattle.world_model.specs.declared.types.Mode.TheVariants as mode
use Rattle.file_names.specs.Names.{max_shards}
use Rattle.shard_table.specs.Table.{Table, IsAdded, place_in, row_of}
use Rattle.image_meaning.specs.Files.{VolumeFiles, contents, files_of, shard_home}
use Rattle.image_meaning.specs.Plain.{index_home}
use Rattle.image_meaning.specs.Meaning.{mode_of, max_volumes}
use Rattle.image_meaning.specs.Laws.PlainLoss.{is_plain}
use Rattle.site_recovery.specs.declared.forms.Listed.{Listed}
use Rattle.site_recovery.specs.declared.forms.ListedForm.{ListedForm}
use Rattle.site_recovery.specs.declared.forms.ListedForm.TheVariants as form
use Rattle.site_recovery.specs.declared.forms.TestedGroup.{TestedGroup}
use Rattle.site_recovery.specs.declared.recovered.Recovered.{Recovered}
use Rattle.site_recovery.specs.Homes.{home_row}
use Rattle.site_recovery.specs.Recovering.{IsModeOf, IsPlainAt}
use Rattle.site_recovery.specs.Listing.{AreFilesIn, AreInOrder, AreGroups}
use Rattle.site_recovery.specs.Opening.{AreTestedGroups, IsFound, IsWithin}
use Rattle.site_recovery.specs.Answering.{HasHomesIn, IsAnswerOf, home_in, plain_home, if_coded, coded_number, if_lost, lost_number}
use Rattle.site_recovery.specs.FormRecovering.{FindsForms}
use Rattle.site_recovery.proofs.FormsRecovered.{below, listed_tested, unlisted_mode}
use Rattle.site_recovery.proofs.Members.{contains_cases, filter_map_has, filter_map_in, rows_rise}
use Rattle.site_recovery.proofs.Placed.{homes_are}
use Rattle.site_recovery.proofs.Rounds.{volumes_rise}

-- ---- the forms

-- the mode of a volume of this form
abbrev mode_in : ListedForm → Option Mode
mode_in (form.Plain home dat idx) = Some mode.Plain
mode_in (form.Coded copies checked) = Some mode.Coded
mode_in form.Lost = Some mode.Lost
mode_in form.Absent = None

mode_found : (files : VolumeFiles) (f : ListedForm) → IsFound files f → mode_of files ≡ mode_in f
mode_found files (form.Plain home dat idx) has = is_plain files home has.at
mode_found files (form.Coded copies checked) has = has.1.tested.coded
mode_found files form.Lost has = has
mode_found files form.Absent has = has

row_is : (v : ℕ) (o : Option ℕ) (w home : ℕ) → home_row v o ≡ Some (w, home) → (v ≡ w) × (o ≡ Some home)
row_is v None w home e = absurd cc
row_is v (Some h) w home e = let pair : (v, h) ≡ (w, home) = cc in (ap (λ (p : ℕ × ℕ). p.0) pair, ap (λ (p : ℕ × ℕ). Some p.1) pair)

home_at : (files : VolumeFiles) (f : ListedForm) (home : ℕ) → IsFound files f → home_in f ≡ Some home → index_home files ≡ Some home
home_at files (form.Plain at dat idx) home has e = has.at ∙ e
home_at files (form.Coded copies checked) home has e = absurd cc
home_at files form.Lost home has e = absurd cc
home_at files form.Absent home has e = absurd cc

at_home : (files : VolumeFiles) (f : ListedForm) (home : ℕ) → IsFound files f → index_home files ≡ Some home → home_in f ≡ Some home
at_home files f home has at = by_form f has (sym (mode_found files f has) ∙ is_plain files home at)
  where
    by_form : (f : ListedForm) → IsFound files f → mode_in f ≡ Some mode.Plain → home_in f ≡ Some home
    by_form (form.Plain there dat idx) found e = sym found.at ∙ at
    by_form (form.Coded copies checked) found e = absurd cc
    by_form form.Lost found e = absurd cc
    by_form form.Absent found e = absurd cc

coded_is : (v : ℕ) (f : ListedForm) (w : ℕ) → if_coded v f ≡ Some w → (v ≡ w) × (mode_in f ≡ Some mode.Coded)
coded_is v (form.Plain home dat idx) w e = absurd cc
coded_is v (form.Coded copies checked) w e = (cc, refl)
coded_is v form.Lost w e = absurd cc
coded_is v form.Absent w e = absurd cc

is_coded : (v : ℕ) (f : ListedForm) → mode_in f ≡ Some mode.Coded → if_coded v f ≡ Some v
is_coded v (form.Plain home dat idx) e = absurd cc
is_coded v (form.Coded copies checked) e = refl
is_coded v form.Lost e = absurd cc
is_coded v form.Absent e = absurd cc

lost_is : (v : ℕ) (f : ListedForm) (w : ℕ) → if_lost v f ≡ Some w → (v ≡ w) × (mode_in f ≡ Some mode.Lost)
lost_is v (form.Plain home dat idx) w e = absurd cc
lost_is v (form.Coded copies checked) w e = absurd cc
lost_is v form.Lost w e = (cc, refl)
lost_is v form.Absent w e = absurd cc

is_lost : (v : ℕ) (f : ListedForm) → mode_in f ≡ Some mode.Lost → if_lost v f ≡ Some v
is_lost v (form.Plain home dat idx) e = absurd cc
is_lost v (form.Coded copies checked) e = absurd cc
is_lost v form.Lost e = refl
is_lost v form.Absent e = absurd cc

-- the shards of a coded volume in the table
homes_in : (servers v : ℕ) (table : Table) (files : VolumeFiles) (f : ListedForm) → mode_in f ≡ Some mode.Coded → IsFound files f → IsWithin servers f → HasHomesIn table v f
    → IsAdded table v × ((i : ℕ) → i < max_shards → place_in (row_of table v) i ≡ shard_home files i)
homes_in servers v table files (form.Plain home dat idx) e found within has = absurd cc
homes_in servers v table files (form.Coded copies checked) e found within has = (has.added, homes_are files servers copies.items (row_of table v) within.0 found.0 has.homes)
homes_in servers v table files form.Lost e found within has = absurd cc
homes_in servers v table files form.Absent e found within has = absurd cc

-- ---- the lists

module _ (files : Files) (servers : ℕ) (found : List Listed) (order : AreInOrder servers found) (are : AreFilesIn files found) (tested : List TestedGroup) (groups : AreGroups found (map (λ (t : TestedGroup). t.group) tested))
    (were : AreTestedGroups files (map (λ (t : TestedGroup). t.group) tested) tested) where
  mode_at : (t : TestedGroup) → Contains tested t → mode_of (files_of (contents files) t.group.volume) ≡ mode_in t.form
  mode_at t has = mode_found (files_of (contents files) t.group.volume) t.form (were.each t has).has

  is_below : (t : TestedGroup) → Contains tested t → t.group.volume < max_volumes
  is_below = below files servers found order are tested groups were

  -- a volume with a mode was tested
  with_mode : (v : ℕ) (m : Mode) → IsModeOf files v m → (t : TestedGroup) × Contains tested t × (t.group.volume ≡ v) × (mode_in t.form ≡ Some m)
  with_mode v m (h, is) = ⊎_elim
      (λ has. let one = listed_tested files servers found order are tested groups were v has in
      (one.0, one.1, one.2, sym (mode_at one.0 one.1) ∙ ap (λ w. mode_of (files_of (contents files) w)) one.2 ∙ is))
      (λ out. absurd (none_some (sym (unlisted_mode files servers found order are tested groups were v h out) ∙ is)))
      (contains_cases (map (λ (l : Listed). l.file.volume) found) v)
    where
      none_some : None ≡ Some m → ⊥
      none_some e = absurd cc

  -- one that was tested has the mode of its form
  of_mode : (t : TestedGroup) → Contains tested t → (v : ℕ) (m : Mode) → t.group.volume ≡ v → mode_in t.form ≡ Some m → IsModeOf files v m
  of_mode t has v m same is = subst (λ w. IsModeOf files w m) same (is_below t has, mode_at t has ∙ is)

  module _ (answer : Recovered) (is : IsAnswerOf servers tested answer) where
    plain_found : (v home : ℕ) → Contains answer.plain.items (v, home) ↔ IsPlainAt files v home
    plain_found v home = (
      λ has.
          let one = filter_map_has plain_home tested (v, home) (subst (λ (l : List (ℕ × ℕ)). Contains l (v, home)) is.plain has) in
          let row = row_is one.0.group.volume (home_in one.0.form) v home one.2 in
          subst (λ w. IsPlainAt files w home) row.0 (record { below = is_below one.0 one.1; at = home_at (files_of (contents files) one.0.group.volume) one.0.form home (were.each one.0 one.1).has row.1 }),
      λ at.
          let one = with_mode v mode.Plain (at.below, is_plain (files_of (contents files) v) home at.at) in
          let row = at_home (files_of (contents files) one.0.group.volume) one.0.form home (were.each one.0 one.1).has (subst (λ w. index_home (files_of (contents files) w) ≡ Some home) (sym one.2) at.at) in
          subst (λ (l : List (ℕ × ℕ)). Contains l (v, home)) (sym is.plain)
          (filter_map_in plain_home tested one.0 (v, home) one.1 (ap (home_row one.0.group.volume) row ∙ ap (λ w. Some (w, home)) one.2)),
    )

    coded_found : (v : ℕ) → Contains answer.coded.items v ↔ IsModeOf files v mode.Coded
    coded_found v = (
      λ has.
          let one = filter_map_has coded_number tested v (subst (λ (l : List ℕ). Contains l v) is.coded has) in
          let number = coded_is one.0.group.volume one.0.form v one.2 in
          of_mode one.0 one.1 v mode.Coded number.0 number.1,
      λ coded.
          let one = with_mode v mode.Coded coded in
          subst (λ (l : List ℕ). Contains l v) (sym is.coded) (filter_map_in coded_number tested one.0 v one.1 (is_coded one.0.group.volume one.0.form one.3 ∙ ap Some one.2)),
    )

    lost_found : (v : ℕ) → Contains answer.lost.items v ↔ IsModeOf files v mode.Lost
    lost_found v = (
      λ has.
          let one = filter_map_has lost_number tested v (subst (λ (l : List ℕ). Contains l v) is.lost has) in
          let number = lost_is one.0.group.volume one.0.form v one.2 in
          of_mode one.0 one.1 v mode.Lost number.0 number.1,
      λ lost.
          let one = with_mode v mode.Lost lost in
          subst (λ (l : List ℕ). Contains l v) (sym is.lost) (filter_map_in lost_number tested one.0 v one.1 (is_lost one.0.group.volume one.0.form one.3 ∙ ap Some one.2)),
    )

    tested_rise : IsStrictlyIncreasing (map (λ (t : TestedGroup). t.group.volume) tested)
    tested_rise = volumes_rise tested found groups

    plain_key : (t : TestedGroup) (row : ℕ × ℕ) → plain_home t ≡ Some row → row.0 ≡ t.group.volume
    plain_key t row e = sym (row_is t.group.volume (home_in t.form) row.0 row.1 e).0

    map_same : (xs : List ℕ) → map (λ (w : ℕ). w) xs ≡ xs
    map_same [] = refl
    map_same (x ∷ xs) = ap (λ (l : List ℕ). x ∷ l) (map_same xs)

    numbers_rise : (f : TestedGroup → Option ℕ) → ((t : TestedGroup) (w : ℕ) → f t ≡ Some w → w ≡ t.group.volume) → IsStrictlyIncreasing (filter_map f tested)
    numbers_rise f key = subst IsStrictlyIncreasing (map_same (filter_map f tested)) (rows_rise f (λ (t : TestedGroup). t.group.volume) (λ (w : ℕ). w) key tested tested_rise)

    module _ (within : All (λ (t : TestedGroup). IsWithin servers t.form) tested) where
      coded_homes : (v : ℕ) → IsModeOf files v mode.Coded → IsAdded answer.table v × ((i : ℕ) → i < max_shards → place_in (row_of answer.table v) i ≡ shard_home (files_of (contents files) v) i)
      coded_homes v coded =
          let one = with_mode v mode.Coded coded in
          subst (λ w. IsAdded answer.table w × ((i : ℕ) → i < max_shards → place_in (row_of answer.table w) i ≡ shard_home (files_of (contents files) w) i)) one.2
          (homes_in servers one.0.group.volume answer.table (files_of (contents files) one.0.group.volume) one.0.form one.3 (were.each one.0 one.1).has
          (All-contains (λ (t : TestedGroup). IsWithin servers t.form) tested one.0 within one.1) (is.shards.each one.0 one.1))

      pub finds_forms : FindsForms answer files
      finds_forms = record {
        plain = plain_found;
        plain_rise = subst (λ (l : List (ℕ × ℕ)). IsStrictlyIncreasing (map (λ p. p.0) l)) (sym is.plain) (rows_rise plain_home (λ (t : TestedGroup). t.group.volume) (λ (p : ℕ × ℕ). p.0) plain_key tested tested_rise);
        coded = coded_found;
        coded_rise = subst IsStrictlyIncreasing (sym is.coded) (numbers_rise coded_number (λ t w e. sym (coded_is t.group.volume t.form w e).0));
        lost = lost_found;
        lost_rise = subst IsStrictlyIncreasing (sym is.lost) (numbers_rise lost_number (λ t w e. sym (lost_is t.group.volume t.form w e).0));
        table = record {
          added = λ v coded. (coded_homes v coded).0;
          homes = λ v i coded small. (coded_homes v coded).1 i small;
          others = λ v none. is.shards.others v (λ t has e. let number = coded_is t.group.volume t.form v e in none (of_mode t has v mode.Coded number.0 number.1));
        };
      }
