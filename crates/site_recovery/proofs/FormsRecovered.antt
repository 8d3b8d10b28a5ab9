-- What a recovery of volumes of any form leaves. For the recovery of coded volumes, to come.
use Rattle.std.proofs.Common.{◌≡◌, ⊎_elim, ℕ, ◌<◌, Bool, true, false, List, length, map, Option, Some, None, is_some, refl, sym, ◌∙◌, ap, subst, arith}
use Rattle.std.specs.Prelude.{IsSome, if◌then◌else◌, nat_lt, slice_index_or, Contains}
use Rattle.std.proofs.lemmas.Bool.{ltb-true}
use Rattle.std.proofs.lemmas.List.{get_or-map, length-map}
use Rattle.std.proofs.lemmas.List.Elements.{All-contains, Contains-get_or}
use mathlib.Core.Bool.{true≢false}
use Rattle.site_model.specs.Disk.{File, Files, IsSettled}
use Rattle.site_model.specs.Disk as disk
use Rattle.world_model.specs.declared.types.Mode.{Mode}
use Rattle.world_model.specs.declared.types.Mode.TheVariants as mode
use Rattle.file_names.specs.declared.Kind.{Kind}
use Rattle.file_names.specs.declared.Kind.TheVariants.{Dat}
use Rattle.file_names.specs.Names.{IsKind, name_bytes, place_of}
use Rattle.image_meaning.specs.Files.{VolumeFiles, contents, files_of, temps_of}
use Rattle.image_meaning.specs.Meaning.{mode_of, volume_of, max_volumes}
use Rattle.image_meaning.specs.Ends.{HasNoFiles}
use Rattle.image_meaning.specs.Sound.{IsSound, IsSoundVolume}
use Rattle.image_meaning.specs.Laws.Copy.{HasFewerCopies, no_loss, survives_none}
use Rattle.image_meaning.specs.Laws.Local.{same_files}
use Rattle.image_meaning.specs.Laws.Plain.{no_files_absent, absent_mode}
use Rattle.image_meaning.specs.Laws.PlainLoss.{is_plain, plain_home}
use Rattle.site_recovery.specs.declared.forms.Group.{Group}
use Rattle.site_recovery.specs.declared.forms.Listed.{Listed}
use Rattle.site_recovery.specs.declared.forms.ListedForm.TheVariants as form
use Rattle.site_recovery.specs.declared.forms.TestedGroup.{TestedGroup}
use Rattle.site_recovery.specs.Recovering.{IsTidied}
use Rattle.site_recovery.specs.Steps.{KeepsMeaning}
use Rattle.site_recovery.specs.Listing.{AreFilesIn, AreInOrder, AreGroups, IsFileIn}
use Rattle.site_recovery.specs.Removing.{AreTempsGone}
use Rattle.site_recovery.specs.Opening.{AreTestedGroups, IsTestedForm}
use Rattle.site_recovery.specs.FormSettling.{AreLeft, AreDue, HasSettled, every}
use Rattle.site_recovery.specs.FormRecovering.{IsRecoveredVolume, AreRecovered}
use Rattle.site_recovery.specs.Laws.CodedStep.{left_coded_tidy}
use Rattle.site_recovery.specs.Laws.Step.{keeps_on}
use Rattle.site_recovery.specs.Laws.Test.{IsTidiedVolume, left_plain, left_lost, left_absent, never_sealed}
use Rattle.site_recovery.proofs.Members.{contains_cases, map_has, map_in}
use Rattle.site_recovery.proofs.Opened.{absent_form}
use Rattle.site_recovery.proofs.Rounds.{this_group}
use Rattle.site_recovery.proofs.Whole.{unlisted}

-- ---- from a sound volume

-- it means what it meant
meaning_kept : (old new : VolumeFiles) → HasFewerCopies old new → volume_of new ≡ volume_of old
meaning_kept old new fewer = ⊎_elim (λ same. same) (λ same. same) (fewer.leaves no_loss (survives_none new))

tidied_volume : (old new temps : VolumeFiles) → IsRecoveredVolume old new temps → IsSoundVolume old → IsSoundVolume new × HasFewerCopies old new → IsTidiedVolume old new temps
tidied_volume old new temps is sound kept = by_mode (mode_of old) refl
  where
    by_mode : (m : Option Mode) → mode_of old ≡ m → IsTidiedVolume old new temps
    by_mode None e = left_absent old new temps e (is.left.absent e) is.no_temps
    by_mode (Some mode.Plain) e = let home = plain_home old e in left_plain old new temps home.0 home.1 sound is.no_temps (is.left.plain home.0 home.1)
    by_mode (Some mode.Sealed) e = absurd (never_sealed old e)
    by_mode (Some mode.Lost) e = left_lost old new temps e (is.left.lost e) sound is.no_temps
    by_mode (Some mode.Coded) e =
        let left = is.left.coded e in
        let coded : mode_of new ≡ Some mode.Coded = is.left.same_mode ∙ e in (
          record {
            no_temps = is.no_temps;
            plain = λ p. absurd (plain_coded (sym p ∙ coded));
            coded = λ c. left_coded_tidy old new left.ids left.ids_fit left.left;
            absent = λ none. absurd (none_coded (sym none ∙ coded));
          },
          meaning_kept old new kept.1,
          kept.0,
        )
      where
        plain_coded : Some mode.Plain ≡ Some mode.Coded → ⊥
        plain_coded e = cc

        none_coded : None ≡ Some mode.Coded → ⊥
        none_coded e = cc

pub tidied_forms : (old new : Files) → AreRecovered old new → KeepsMeaning (contents old) (contents new) → IsSound (contents old) → (IsSettled old → IsSettled new) → IsTidied old new
tidied_forms old new recovered keeps sound settled = record {
  tidy = λ v h. (each v h).0;
  means = λ v. by_number v (nat_lt v max_volumes) refl;
  sound = λ v h. (each v h).2;
  settled = settled;
}
  where
    each : (v : ℕ) → v < max_volumes → IsTidiedVolume (files_of (contents old) v) (files_of (contents new) v) (temps_of (contents new) v)
    each v h = tidied_volume (files_of (contents old) v) (files_of (contents new) v) (temps_of (contents new) v) (recovered v h) (sound v h) (keeps v h (sound v h))

    by_number : (v : ℕ) (b : Bool) → nat_lt v max_volumes ≡ b → (if b then volume_of (files_of (contents new) v) else None) ≡ (if b then volume_of (files_of (contents old) v) else None)
    by_number v true e = (each v (ltb-true v max_volumes e)).1
    by_number v false e = refl

-- ---- the volumes that were tested

module _ (files : Files) (servers : ℕ) (found : List Listed) (order : AreInOrder servers found) (are : AreFilesIn files found) (tested : List TestedGroup) (groups : AreGroups found (map (λ (t : TestedGroup). t.group) tested))
    (were : AreTestedGroups files (map (λ (t : TestedGroup). t.group) tested) tested) where
  -- their numbers have names
  pub below : (t : TestedGroup) → Contains tested t → t.group.volume < max_volumes
  below t (k, low, at) =
      let first : Listed = record { server = 0; file = record { volume = 0; kind = Dat; temp = false } } in
      let is = this_group tested found groups k t low (sym at) in
      let name = order.named t.group.start first (omega (arith, is.some, is.within)) in
      subst (λ v. v < max_volumes) (is.same t.group.start first (omega arith) is.some) name.volume

  abbrev volumes : List ℕ
  volumes = map (λ (l : Listed). l.file.volume) found

  -- each volume with a file was tested
  pub listed_tested : (v : ℕ) → Contains volumes v → (t : TestedGroup) × Contains tested t × (t.group.volume ≡ v)
  listed_tested v has =
      let one = map_has (λ (l : Listed). l.file.volume) found v has in
      let some = All-contains (λ (l : Listed). (k : ℕ) × (g : Group) × (k < length gs) × (slice_index_or gs k g ≡ g) × (g.volume ≡ l.file.volume)) found one.0 groups.all one.1 in
      let other : TestedGroup = record { group = some.1; form = form.Absent } in
      let low : some.0 < length tested = omega (arith, some.2, length-map tested (λ (t : TestedGroup). t.group)) in
      let same : (slice_index_or tested some.0 other).group ≡ some.1 = sym (get_or-map (λ (t : TestedGroup). t.group) tested some.0 other some.1 low) ∙ some.3 in
      (slice_index_or tested some.0 other, Contains-get_or tested some.0 other low, ap (λ (g : Group). g.volume) same ∙ some.4 ∙ one.2)
    where
      gs : List Group
      gs = map (λ (t : TestedGroup). t.group) tested

  -- and one that was tested has a file
  tested_listed : (t : TestedGroup) → Contains tested t → Contains volumes t.group.volume
  tested_listed t (k, low, at) =
      let first : Listed = record { server = 0; file = record { volume = 0; kind = Dat; temp = false } } in
      let is = this_group tested found groups k t low (sym at) in
      subst (Contains volumes) (is.same t.group.start first (omega arith) is.some)
      (map_in (λ (l : Listed). l.file.volume) found (slice_index_or found t.group.start first) (Contains-get_or found t.group.start first (omega (arith, is.some, is.within))))

  no_file : (v : ℕ) → v < max_volumes → (Contains volumes v → ⊥) → (server : ℕ) (kind : Kind) (temp : Bool) → IsKind kind → files (place_of v server kind temp) ≡ None
  no_file v h out = unlisted files found are volumes (λ w. (λ has. has, λ has. has)) v h out

  pub unlisted_mode : (v : ℕ) → v < max_volumes → (Contains volumes v → ⊥) → mode_of (files_of (contents files) v) ≡ None
  unlisted_mode v h out = absent_mode (files_of (contents files) v) (no_files_absent (files_of (contents files) v) (λ server kind low is. ap disk.standing (no_file v h out server kind false is)))

  -- ---- once the temporary files are gone

  module _ (mid : Files) (gone : AreTempsGone files mid) where
    same_mid : (v : ℕ) → v < max_volumes → files_of (contents mid) v ≡ files_of (contents files) v
    same_mid v h = same_files v (contents mid) (contents files) (λ server kind. ap disk.standing (gone.finals v server kind h))

    was_file : (l : Listed) → IsFileIn mid l → IsFileIn files l
    was_file l file = record { named = file.named; stands = by_temp l.file.temp refl }
      where
        by_temp : (b : Bool) → l.file.temp ≡ b → IsSome (files (l.server, name_bytes l.file))
        by_temp false e =
            subst IsSome
            ((λ i. mid (place_of l.file.volume l.server l.file.kind (e i))) ∙ gone.finals l.file.volume l.server l.file.kind file.named.volume ∙ (λ i. files (place_of l.file.volume l.server l.file.kind (sym e i))))
            file.stands
        by_temp true e = absurd (none_some (sym ((λ i. mid (place_of l.file.volume l.server l.file.kind (e i))) ∙ gone.gone l.file.volume l.server l.file.kind file.named.volume file.named.kind)) file.stands)
          where
            none_some : {o : Option File} → None ≡ o → IsSome o → ⊥
            none_some e some = true≢false (sym some ∙ ap is_some (sym e))

    pub tested_due : AreDue mid found every tested
    tested_due t has w = record {
      below = below t has;
      listed = λ l file of. (are l).1 (was_file l file);
      tested = subst (λ (f : VolumeFiles). IsTestedForm f t.form) (sym (same_mid t.group.volume (below t has))) (were.each t has);
    }

    module _ (end : Files) (all : HasSettled every tested mid end) where
      no_temps : (v : ℕ) → v < max_volumes → HasNoFiles (temps_of (contents end) v)
      no_temps v h server kind low is = ap disk.standing (all.temps v server kind h is (gone.gone v server kind h is))

      listed_recovered : (t : TestedGroup) → Contains tested t → IsRecoveredVolume (files_of (contents files) t.group.volume) (files_of (contents end) t.group.volume) (temps_of (contents end) t.group.volume)
      listed_recovered t has = record {
        passes = (were.each t has).passes;
        left = subst (λ (f : VolumeFiles). AreLeft f (files_of (contents end) t.group.volume)) (same_mid t.group.volume (below t has)) (all.each t has refl);
        no_temps = no_temps t.group.volume (below t has);
      }

      module _ (v : ℕ) (h : v < max_volumes) (out : Contains volumes v → ⊥) where
        end_none : HasNoFiles (files_of (contents end) v)
        end_none server kind low is =
            ap disk.standing (all.others v server kind false h (λ t has w same. out (subst (Contains volumes) (sym same) (tested_listed t has))) ∙ gone.finals v server kind h ∙ no_file v h out server kind false is)

        unlisted_recovered : IsRecoveredVolume (files_of (contents files) v) (files_of (contents end) v) (temps_of (contents end) v)
        unlisted_recovered = record {
          passes = absent_form (files_of (contents files) v) (unlisted_mode v h out);
          left = record {
            same_mode = absent_mode (files_of (contents end) v) (no_files_absent (files_of (contents end) v) end_none) ∙ sym (unlisted_mode v h out);
            plain = λ home there. absurd (some_none (sym (is_plain (files_of (contents files) v) home there) ∙ (unlisted_mode v h out)));
            coded = λ coded. absurd (some_none (sym coded ∙ (unlisted_mode v h out)));
            lost = λ lost. absurd (some_none (sym lost ∙ (unlisted_mode v h out)));
            absent = λ e. end_none;
          };
          no_temps = no_temps v h;
        }
          where
            some_none : {m : Mode} → Some m ≡ None → ⊥
            some_none e = cc

      pub forms_recovered : AreRecovered files end
      forms_recovered v h = ⊎_elim
          (λ has. let one = listed_tested v has in subst (λ w. IsRecoveredVolume (files_of (contents files) w) (files_of (contents end) w) (temps_of (contents end) w)) one.2 (listed_recovered one.0 one.1))
          (λ out. unlisted_recovered v h out)
          (contains_cases volumes v)

      pub forms_keep : KeepsMeaning (contents files) (contents end)
      forms_keep = keeps_on (contents files) (contents mid) (contents end) gone.keeps all.keeps
