-- Which records count, what one more does to the times, and that a loss leaves them.
use Rattle.std.proofs.Common.{◌≡◌, inl, inr, ℕ, ◌==◌, Bool, true, false, cond, List, [], ◌∷◌, ◌++◌, Option, Some, None, is_some, refl, sym, ◌∙◌, ap}
use Rattle.std.specs.Prelude.{IsSome, if◌then◌else◌, unwrap_or}
use Rattle.std.specs.Cmp.{nat_cmp_total, unsigned_tied}
use Rattle.std.specs.FinMap.{get, get-empty, get-insert, get-remove}
use Rattle.std.specs.Ordering.{nat_cmp}
use Rattle.std.proofs.lemmas.Bool.{cases_eq, eq-eqb, ne_eqb}
use Rattle.world_model.specs.declared.types.Content.{Content}
use Rattle.world_model.specs.World.{Needle, Volume, empty_volume}
use Rattle.std.specs.Option.{option_map_or}
use Rattle.world_model.specs.declared.types.Mode.TheVariants as mode
use Rattle.needle_record.specs.Records.{Placed, after_record, fold_from, fold_records, needles_after}
use Rattle.image_meaning.specs.Files.{VolumeFiles, files_of, lose_files}
use Rattle.image_meaning.specs.Plain.{kept_records, kept_at, index_home, IsExact}
use Rattle.image_meaning.specs.Meaning.{mode_of}
use Rattle.image_meaning.specs.Sound.{IsPlain, HasOneHome}
use Rattle.image_meaning.specs.Times.{NeedlesHaveTimes, LossesKeepTimes, records_by, records_of, time_by, time_from}
use Rattle.image_meaning.specs.Laws.Plain.{IsAlone, alone_index_at, alone_dat_at, alone_at, alone_plain, exact_kept_records}
use Rattle.image_meaning.specs.Laws.PlainLoss.{plain_home, is_plain, plain_means, home_has, index_stood, same_kept}
use Rattle.image_meaning.specs.Laws.Survivable.{plain_rules}

-- ---- the records

-- of a plain volume those that are kept at the lowest index holder
pub plain_records : (files : VolumeFiles) (home : ℕ) → index_home files ≡ Some home → records_of files ≡ kept_at files home
unfolding records_of
plain_records files home e =
    ap (λ m. option_map_or (records_by files) m []) (is_plain files home e) ∙ ap (λ o. option_map_or (kept_at files) o []) e

-- at one server those that its two files keep
pub alone_records : (files temps : VolumeFiles) (home : ℕ) (dat idx : List ℕ) → IsAlone files home dat idx → records_of files ≡ kept_records dat idx
alone_records files temps home dat idx only =
    let found = plain_home files (alone_plain files temps home dat idx only) in
    let here : found.0 ≡ home = alone_at files temps home dat idx only found.0 (home_has files found.0 found.1) in
    plain_records files found.0 found.1 ∙ ap (kept_at files) here
    ∙ (λ i. kept_records (unwrap_or (alone_dat_at files temps home dat idx only i) []) (unwrap_or (alone_index_at files temps home dat idx only i) []))

pub exact_records : (files temps : VolumeFiles) (home : ℕ) (dat idx : List ℕ) (ps : List Placed) → IsAlone files home dat idx → IsExact dat idx ps → records_of files ≡ ps
exact_records files temps home dat idx ps only exact = alone_records files temps home dat idx only ∙ exact_kept_records dat idx ps exact

-- none of a volume that there is not, or that is lost
pub absent_records : (files : VolumeFiles) → mode_of files ≡ None → records_of files ≡ []
unfolding records_of
absent_records files e = ap (λ m. option_map_or (records_by files) m []) e

-- ---- times

-- after one record more
pub time_from-push : (live : Bool) (id : ℕ) (found : Option ℕ) (ps : List Placed) (p : Placed)
    → time_from live id found (ps ++ p ∷ []) ≡ (if p.1.id == id then time_by live p.1.appended p.1.content else time_from live id found ps)
time_from-push live id found [] p = refl
time_from-push live id found (q ∷ ps) p = time_from-push live id (if q.1.id == id then time_by live q.1.appended q.1.content else found) ps p

-- a needle has a time where the fold of the records has the needle
needle_times : (id : ℕ) (ps : List Placed) (vol : Volume) (found : Option ℕ) → is_some found ≡ is_some (get vol.needles id)
    → is_some (time_from true id found ps) ≡ is_some (get (fold_from vol ps).needles id)
needle_times id [] vol found same = same
needle_times id (p ∷ ps) vol found same = needle_times id ps (after_record vol p.1) (if p.1.id == id then time_by true p.1.appended p.1.content else found) (by_content p.1.content)
  where
    turned : (id == p.1.id) ≡ (p.1.id == id)
    turned = elim (cases_eq id p.1.id) [
      | inl e ↦ eq-eqb id p.1.id e ∙ sym (eq-eqb p.1.id id (sym e))
      | inr other ↦ ne_eqb id p.1.id other ∙ sym (ne_eqb p.1.id id (λ e. other (sym e)))
    ]

    set : (b : Bool) (n : Needle) (t : ℕ) → is_some (if b then Some t else found) ≡ is_some (cond b (Some n) (get vol.needles id))
    set true n t = refl
    set false n t = same

    unset : (b : Bool) → is_some (if b then None else found) ≡ is_some (cond b None (get vol.needles id))
    unset true = refl
    unset false = same

    by_content : (content : Option Content) → is_some (if p.1.id == id then time_by true p.1.appended content else found) ≡ is_some (get (needles_after vol.needles p.1 content) id)
    by_content (Some c) =
        let n : Needle = record { cookie = p.1.cookie; content = c } in
        set (p.1.id == id) n p.1.appended
        ∙ ap (λ b. is_some (cond b (Some n) (get vol.needles id))) (sym (unsigned_tied id p.1.id ∙ turned))
        ∙ ap is_some (sym (get-insert nat_cmp_total vol.needles p.1.id n id))
    by_content None =
        unset (p.1.id == id)
        ∙ ap (λ b. is_some (cond b None (get vol.needles id))) (sym (unsigned_tied id p.1.id ∙ turned))
        ∙ ap is_some (sym (get-remove nat_cmp_total vol.needles p.1.id id))

pub needles_have_times : NeedlesHaveTimes
needles_have_times image v id vol plain means =
    let files = files_of image v in
    let home = plain_home files plain in
    let none : get empty_volume.needles id ≡ None = get-empty nat_cmp id in
    let is : fold_records (kept_at files home.0) ≡ vol = some (sym (plain_means files home.0 home.1) ∙ means) in
    ap (λ ps. is_some (time_from true id None ps)) (plain_records files home.0 home.1)
    ∙ needle_times id (kept_at files home.0) empty_volume None (sym (ap is_some none))
    ∙ ap (λ (w : Volume). is_some (get w.needles id)) is
  where
    some : {a b : Volume} → Some a ≡ Some b → a ≡ b
    some e = cc

-- ---- losses

records_left : (files : VolumeFiles) (lost : ℕ → Bool) → IsPlain files → HasOneHome files → IsSome (index_home (lose_files files lost)) → records_of (lose_files files lost) ≡ records_of files
records_left files lost plain one some = by_home (index_home (lose_files files lost)) refl some
  where
    by_home : (o : Option ℕ) → index_home (lose_files files lost) ≡ o → IsSome o → records_of (lose_files files lost) ≡ records_of files
    by_home None e none = absurd cc
    by_home (Some left) e some =
        let home = plain_home files plain in
        let has = home_has (lose_files files lost) left e in
        plain_records (lose_files files lost) left e
        ∙ same_kept files lost left has ∙ one.same left home.0 (index_stood files lost left has) (home_has files home.0 home.1)
        ∙ sym (plain_records files home.0 home.1)

pub losses_keep_times : LossesKeepTimes
losses_keep_times image lost sound survivable v below plain = λ live id.
    let files = files_of image v in
    ap (time_from live id None) (records_left files lost plain (plain_rules files plain (sound v below)).one_home ((survivable v below).index plain))
