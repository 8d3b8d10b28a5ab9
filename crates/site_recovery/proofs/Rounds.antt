-- Volumes that are settled one after another. For the recovery of coded volumes, to come.
use Rattle.std.proofs.Common.{◌≡◌, ◌≢◌, inl, inr, ⊎_elim, ℕ, ◌+◌, ◌<◌, ◌≤◌, Bool, true, false, List, [], ◌∷◌, ◌++◌, length, map, take, None, refl, sym, ◌∙◌, ap, subst, arith}
use Rattle.std.specs.Prelude.{IsSome, slice_index_or, Contains}
use Rattle.std.specs.List.Sorted.{IsStrictlyIncreasing}
use Rattle.std.proofs.lemmas.Bool.{cases_eq, false≢true}
use Rattle.std.proofs.lemmas.List.{get_or-map, get_or-take, length-map, length-take, take_all, take_more}
use Rattle.std.proofs.lemmas.List.Elements.{Contains-append_left, Contains-push, Contains-push_cases}
use Rattle.site_model.specs.Disk.{Place, Files}
use Rattle.site_model.specs.Disk as disk
use Rattle.file_names.specs.declared.Kind.{Kind}
use Rattle.file_names.specs.Names.{place_of}
use Rattle.image_meaning.specs.Files.{VolumeFiles, contents, files_of}
use Rattle.image_meaning.specs.Meaning.{max_volumes}
use Rattle.image_meaning.specs.Laws.Copy.{volumes_apart}
use Rattle.image_meaning.specs.Laws.Local.{same_files}
use Rattle.site_recovery.specs.declared.forms.Listed.{Listed}
use Rattle.site_recovery.specs.declared.forms.TestedGroup.{TestedGroup}
use Rattle.site_recovery.specs.declared.forms.Group.{Group}
use Rattle.site_recovery.specs.Recovering.{IsNamed}
use Rattle.site_recovery.specs.Listing.{AreGroups, IsGroup}
use Rattle.site_recovery.specs.CodedSettling.{IsVolumeFile}
use Rattle.site_recovery.specs.Removing.{HasFilesOf}
use Rattle.site_recovery.specs.Opening.{IsTestedForm}
use Rattle.site_recovery.specs.FormSettling.{AreLeft, AreDue, HasSettled, IsDue, IsFormSettled}
use Rattle.site_recovery.specs.Laws.Step.{keeps_none, keeps_on}
use Rattle.site_recovery.proofs.Homed.{earlier_apart}
use Rattle.site_recovery.proofs.Members.{none_in}

-- what is known of a volume stays so while its files stay as they are
pub due_same : (found : List Listed) (start mid : Files) (t : TestedGroup) → ((server : ℕ) (kind : Kind) (temp : Bool) → mid (place_of t.group.volume server kind temp) ≡ start (place_of t.group.volume server kind temp))
    → IsDue start found t → IsDue mid found t
due_same found start mid t same due = record {
  below = due.below;
  listed = λ l file of.
      due.listed l (record {
        named = file.named;
        stands = subst IsSome
            ((λ i. mid (place_of (of i) l.server l.file.kind l.file.temp)) ∙ same l.server l.file.kind l.file.temp ∙ (λ i. start (place_of (sym of i) l.server l.file.kind l.file.temp)))
            file.stands;
      }) of;
  tested = subst (λ (f : VolumeFiles). IsTestedForm f t.form) (sym (same_files t.group.volume (contents mid) (contents start) (λ server kind. ap disk.standing (same server kind false)))) due.tested;
}

pub settled_nothing : (which : TestedGroup → Bool) (files : Files) → HasSettled which [] files files
settled_nothing which files = record {
  each = λ t has w. absurd (none_in t has);
  others = λ v server kind temp h out. refl;
  keeps = keeps_none (contents files);
  temps = λ v server kind h is none. none;
  settled = λ settled. settled;
}

module _ (which : TestedGroup → Bool) (tested : List TestedGroup) (found : List Listed) (start : Files) (due : AreDue start found which tested) where
  -- a volume among the first ones is one of them
  among : (n : ℕ) (u : TestedGroup) → Contains (take n tested) u → Contains tested u
  among n u (k, low, at) =
      let before : k < n = omega (arith, low, length-take n tested) in
      (k, omega (arith, low, length-take n tested), sym (get_or-take n tested k u before) ∙ at)

  module _ (n : ℕ) (this : TestedGroup) (fits : n < length tested) (at : this ≡ slice_index_or tested n this) (mid : Files) (was : HasSettled which (take n tested) start mid) where
    abbrev v : ℕ
    v = this.group.volume

    more : take (n + 1) tested ≡ take n tested ++ this ∷ []
    more = take_more tested n this fits ∙ ap (λ (t : TestedGroup). take n tested ++ t ∷ []) (sym at)

    this_in : Contains tested this
    this_in = (n, fits, sym at)

    skip_this : which this ≡ false → HasSettled which (take n tested ++ this ∷ []) start mid
    skip_this not_it = record {
      each = λ u has w. ⊎_elim (λ before. was.each u before w) (λ same. absurd (false≢true (sym not_it ∙ ap which same ∙ w))) (Contains-push_cases (take n tested) this u has);
      others = λ q server kind temp h out. was.others q server kind temp h (λ u has w. out u (Contains-append_left (take n tested) (this ∷ []) u has) w);
      keeps = was.keeps;
      temps = was.temps;
      settled = was.settled;
    }

    pub settled_skip : which this ≡ false → HasSettled which (take (n + 1) tested) start mid
    settled_skip not_it = subst (λ (ts : List TestedGroup). HasSettled which ts start mid) (sym more) (skip_this not_it)

    module _ (rise : IsStrictlyIncreasing (map (λ (t : TestedGroup). t.group.volume) tested)) (yes : which this ≡ true) where
      pub this_below : v < max_volumes
      this_below = (due this this_in yes).below

      earlier : (u : TestedGroup) → Contains (take n tested) u → u.group.volume ≢ v
      earlier u has same = earlier_apart tested n this fits rise u has (same ∙ ap (λ (t : TestedGroup). t.group.volume) at)

      -- its files are as they were until its turn
      same_start : (server : ℕ) (kind : Kind) (temp : Bool) → mid (place_of v server kind temp) ≡ start (place_of v server kind temp)
      same_start server kind temp = was.others v server kind temp this_below (λ u has w same. earlier u has (sym same))

      same_volume : files_of (contents mid) v ≡ files_of (contents start) v
      same_volume = same_files v (contents mid) (contents start) (λ server kind. ap disk.standing (same_start server kind false))

      this_due : IsDue mid found this
      this_due = due_same found start mid this same_start (due this this_in yes)

      pub this_listed : HasFilesOf mid v found
      this_listed = this_due.listed

      pub this_tested : IsTestedForm (files_of (contents mid) v) this.form
      this_tested = this_due.tested

      module _ (new : Files) (touched : (k : Place) → (IsVolumeFile v k → ⊥) → new k ≡ mid k) (here : IsFormSettled v mid new) where
        others_kept : (q : ℕ) → q < max_volumes → q ≢ v → (server : ℕ) (kind : Kind) (temp : Bool) → new (place_of q server kind temp) ≡ mid (place_of q server kind temp)
        others_kept q h other server kind temp = touched (place_of q server kind temp) (λ of. volumes_apart q v server of.0 kind of.1 temp of.2 h this_below other of.4)

        kept_files : (u : TestedGroup) → Contains (take n tested) u → which u ≡ true → files_of (contents new) u.group.volume ≡ files_of (contents mid) u.group.volume
        kept_files u has w =
            same_files u.group.volume (contents new) (contents mid)
            (λ server kind. ap disk.standing (others_kept u.group.volume (due u (among n u has) w).below (earlier u has) server kind false))

        settle_this : HasSettled which (take n tested ++ this ∷ []) start new
        settle_this = record {
          each = λ u has w. ⊎_elim
              (λ before. subst (λ (f : VolumeFiles). AreLeft (files_of (contents start) u.group.volume) f) (sym (kept_files u before w)) (was.each u before w))
              (λ same. subst (λ (x : TestedGroup). AreLeft (files_of (contents start) x.group.volume) (files_of (contents new) x.group.volume)) same
              (subst (λ (f : VolumeFiles). AreLeft f (files_of (contents new) v)) same_volume here.left))
              (Contains-push_cases (take n tested) this u has);
          others = λ q server kind temp h out.
              others_kept q h (out this (Contains-push (take n tested) this) yes) server kind temp
              ∙ was.others q server kind temp h (λ u has w. out u (Contains-append_left (take n tested) (this ∷ []) u has) w);
          keeps = keeps_on (contents start) (contents mid) (contents new) was.keeps here.keeps;
          temps = λ q server kind h is none. elim (cases_eq q v) [
            | inl same ↦ subst (λ w. new (place_of w server kind true) ≡ None) (sym same) (here.temps server kind is (subst (λ w. mid (place_of w server kind true) ≡ None) same (was.temps q server kind h is none)))
            | inr other ↦ others_kept q h other server kind true ∙ was.temps q server kind h is none
          ];
          settled = λ settled. here.settled (was.settled settled);
        }

        pub settled_more : HasSettled which (take (n + 1) tested) start new
        settled_more = subst (λ (ts : List TestedGroup). HasSettled which ts start new) (sym more) settle_this

pub settled_all : (which : TestedGroup → Bool) (tested : List TestedGroup) (n : ℕ) (start end : Files) → length tested ≤ n → HasSettled which (take n tested) start end → HasSettled which tested start end
settled_all which tested n start end whole = subst (λ (ts : List TestedGroup). HasSettled which ts start end) (take_all n tested whole)

-- ---- the groups of the volumes

module _ (tested : List TestedGroup) (found : List Listed) (groups : AreGroups found (map (λ (t : TestedGroup). t.group) tested)) where
  pub volumes_rise : IsStrictlyIncreasing (map (λ (t : TestedGroup). t.group.volume) tested)
  volumes_rise = subst IsStrictlyIncreasing (map_map tested) groups.rise
    where
      map_map : (ts : List TestedGroup) → map (λ (g : Group). g.volume) (map (λ (t : TestedGroup). t.group) ts) ≡ map (λ (t : TestedGroup). t.group.volume) ts
      map_map [] = refl
      map_map (t ∷ ts) = ap (λ (vs : List ℕ). t.group.volume ∷ vs) (map_map ts)

  pub this_group : (n : ℕ) (this : TestedGroup) → n < length tested → this ≡ slice_index_or tested n this → IsGroup found this.group
  this_group n this fits at =
      subst (IsGroup found) (get_or-map (λ (t : TestedGroup). t.group) tested n this this.group fits ∙ ap (λ (t : TestedGroup). t.group) (sym at))
      (groups.each n this.group (omega (arith, fits, length-map tested (λ (t : TestedGroup). t.group))))

pub named_volume : (v : ℕ) → v < max_volumes → (k : Place) → IsVolumeFile v k → IsNamed k
named_volume v h k (server, kind, temp, is, at) = (v, server, kind, temp, h, is, at)
