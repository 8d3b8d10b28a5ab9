-- The rounds in which volumes are settled, one after another. For the recovery of coded volumes, to come.
use Rattle.std.proofs.Common.{◌≡◌, ◌≢◌, inl, inr, ℕ, ◌<◌, Bool, true, false, List, length, map, refl, sym, ◌∙◌, ap, subst, arith}
use Rattle.std.specs.Prelude.{◌||◌, slice_index_or, Contains}
use Rattle.std.specs.List.Sorted.{IsStrictlyIncreasing}
use Rattle.std.proofs.lemmas.Bool.{cases_eq, cases_lt, false≢true}
use Rattle.std.proofs.lemmas.List.{get_or_default, get_or-take, length-take}
use Rattle.site_model.specs.Disk.{Files}
use Rattle.site_model.specs.Disk as disk
use Rattle.file_names.specs.declared.Kind.{Kind}
use Rattle.file_names.specs.Names.{place_of}
use Rattle.image_meaning.specs.Files.{VolumeFiles, contents, files_of}
use Rattle.image_meaning.specs.Laws.Local.{same_files}
use Rattle.site_recovery.specs.declared.forms.Listed.{Listed}
use Rattle.site_recovery.specs.declared.forms.ListedForm.{ListedForm}
use Rattle.site_recovery.specs.declared.forms.ListedForm.TheVariants as form
use Rattle.site_recovery.specs.declared.forms.Round.TheVariants as round
use Rattle.site_recovery.specs.declared.forms.TestedGroup.{TestedGroup}
use Rattle.site_recovery.specs.FormSettling.{AreLeft, AreDue, HasSettled, every, in_round, is_in}
use Rattle.site_recovery.specs.Laws.Step.{keeps_on}
use Rattle.site_recovery.proofs.FormLeft.{found_as, lost_settled}
use Rattle.site_recovery.proofs.Homed.{earlier_apart}
use Rattle.site_recovery.proofs.Rounds.{due_same}

or_left : (a b : Bool) → a ≡ true → (a || b) ≡ true
or_left a b e = ap (λ (x : Bool). x || b) e

or_right : (a b : Bool) → b ≡ true → (a || b) ≡ true
or_right true b e = refl
or_right false b e = e

or_second : (a b : Bool) → a ≡ false → (a || b) ≡ true → b ≡ true
or_second a b e is = ap (λ (x : Bool). x || b) (sym e) ∙ is

module _ (tested : List TestedGroup) (rise : IsStrictlyIncreasing (map (λ (t : TestedGroup). t.group.volume) tested)) where
  earlier : (t u : TestedGroup) (i j : ℕ) → i < j → j < length tested → slice_index_or tested i t ≡ t → slice_index_or tested j u ≡ u → t.group.volume ≢ u.group.volume
  earlier t u i j less short at_t at_u same =
      earlier_apart tested j u short rise t (i, omega (arith, less, short, length-take j tested), get_or-take j tested i t less ∙ at_t) (same ∙ ap (λ (x : TestedGroup). x.group.volume) (sym at_u))

  -- each volume is tested once
  same_item : (t u : TestedGroup) → Contains tested t → Contains tested u → t.group.volume ≡ u.group.volume → t ≡ u
  same_item t u (i, low, at_t) (j, short, at_u) same = elim (cases_eq i j) [
    | inl e ↦ sym at_t ∙ get_or_default tested i t u low ∙ ap (λ k. slice_index_or tested k u) e ∙ at_u
    | inr other ↦ elim (cases_lt i j) [
      | inl less ↦ absurd (earlier t u i j less short at_t at_u same)
      | inr more ↦ absurd (earlier u t j i (omega (arith, more, other)) low at_u at_t (sym same))
    ]
  ]

  module _ (found : List Listed) (p q : TestedGroup → Bool) (apart : (t : TestedGroup) → p t ≡ true → q t ≡ true → ⊥) (a b : Files) (due : AreDue a found every tested) (first : HasSettled p tested a b) where
    -- a volume of the other round is as it was
    first_same : (t : TestedGroup) → Contains tested t → q t ≡ true → (server : ℕ) (kind : Kind) (temp : Bool) → b (place_of t.group.volume server kind temp) ≡ a (place_of t.group.volume server kind temp)
    first_same t has is server kind temp =
        first.others t.group.volume server kind temp (due t has refl).below (λ u in_tested w same. apart u w (ap q (same_item u t in_tested has (sym same)) ∙ is))

    pub due_on : AreDue b found q tested
    due_on t has is = due_same found a b t (first_same t has is) (due t has refl)

    module _ (c : Files) (second : HasSettled q tested b c) where
      second_same : (t : TestedGroup) → Contains tested t → p t ≡ true → (server : ℕ) (kind : Kind) (temp : Bool) → c (place_of t.group.volume server kind temp) ≡ b (place_of t.group.volume server kind temp)
      second_same t has is server kind temp =
          second.others t.group.volume server kind temp (due t has refl).below (λ u in_tested w same. apart u (ap p (same_item u t in_tested has (sym same)) ∙ is) w)

      pub both_settled : HasSettled (λ t. p t || q t) tested a c
      both_settled = record {
        each = λ t has w. by_first t has w (p t) refl;
        others = λ v server kind temp h out.
            second.others v server kind temp h (λ u has w. out u has (or_right (p u) (q u) w)) ∙ first.others v server kind temp h (λ u has w. out u has (or_left (p u) (q u) w));
        keeps = keeps_on (contents a) (contents b) (contents c) first.keeps second.keeps;
        temps = λ v server kind h is none. second.temps v server kind h is (first.temps v server kind h is none);
        settled = λ settled. second.settled (first.settled settled);
      }
        where
          by_first : (t : TestedGroup) → Contains tested t → (p t || q t) ≡ true → (x : Bool) → p t ≡ x → AreLeft (files_of (contents a) t.group.volume) (files_of (contents c) t.group.volume)
          by_first t has w true e =
              subst (λ (f : VolumeFiles). AreLeft (files_of (contents a) t.group.volume) f)
              (sym (same_files t.group.volume (contents c) (contents b) (λ server kind. ap disk.standing (second_same t has e server kind false)))) (first.each t has e)
          by_first t has w false e =
              let of_second = or_second (p t) (q t) e w in
              subst (λ (f : VolumeFiles). AreLeft f (files_of (contents c) t.group.volume))
              (same_files t.group.volume (contents b) (contents a) (λ server kind. ap disk.standing (first_same t has of_second server kind false))) (second.each t has of_second)

  -- ---- all rounds

  abbrev in_any : TestedGroup → Bool
  in_any t = (in_round round.Plain t || in_round round.Coded t) || in_round round.Absent t

  module _ (found : List Listed) (a c : Files) (due : AreDue a found every tested) (all : HasSettled in_any tested a c) where
    -- lost volumes are as they were
    lost_left : (t : TestedGroup) → Contains tested t → t.form ≡ form.Lost → AreLeft (files_of (contents a) t.group.volume) (files_of (contents c) t.group.volume)
    lost_left t has is =
        subst (λ (f : VolumeFiles). AreLeft (files_of (contents a) t.group.volume) f)
        (sym (same_files t.group.volume (contents c) (contents a) (λ server kind. ap disk.standing (same server kind))))
        (lost_settled t.group.volume a (found_as (files_of (contents a) t.group.volume) t.form form.Lost is (due t has refl).tested)).left
      where
        same : (server : ℕ) (kind : Kind) → c (place_of t.group.volume server kind false) ≡ a (place_of t.group.volume server kind false)
        same server kind = all.others t.group.volume server kind false (due t has refl).below (λ u in_tested w e.
            let none : in_any u ≡ false = ap in_any (same_item u t in_tested has (sym e)) ∙ ap (λ (f : ListedForm). (is_in round.Plain f || is_in round.Coded f) || is_in round.Absent f) is in
            false≢true (sym none ∙ w))

    pub every_settled : HasSettled every tested a c
    every_settled = record {
      each = λ t has w. by_form t has t.form refl;
      others = λ v server kind temp h out. all.others v server kind temp h (λ u has w. out u has refl);
      keeps = all.keeps;
      temps = all.temps;
      settled = all.settled;
    }
      where
        test : ListedForm → Bool
        test f = (is_in round.Plain f || is_in round.Coded f) || is_in round.Absent f

        by_form : (t : TestedGroup) → Contains tested t → (f : ListedForm) → t.form ≡ f → AreLeft (files_of (contents a) t.group.volume) (files_of (contents c) t.group.volume)
        by_form t has (form.Plain home dat idx) e = all.each t has (ap test e)
        by_form t has (form.Coded copies checked) e = all.each t has (ap test e)
        by_form t has form.Lost e = lost_left t has e
        by_form t has form.Absent e = all.each t has (ap test e)

pub plain_apart : (f : ListedForm) → is_in round.Plain f ≡ true → is_in round.Coded f ≡ true → ⊥
plain_apart (form.Plain home dat idx) e w = false≢true w
plain_apart (form.Coded copies checked) e w = false≢true e
plain_apart form.Lost e w = false≢true e
plain_apart form.Absent e w = false≢true e

pub absent_apart : (f : ListedForm) → (is_in round.Plain f || is_in round.Coded f) ≡ true → is_in round.Absent f ≡ true → ⊥
absent_apart (form.Plain home dat idx) e w = false≢true w
absent_apart (form.Coded copies checked) e w = false≢true w
absent_apart form.Lost e w = false≢true e
absent_apart form.Absent e w = false≢true e
