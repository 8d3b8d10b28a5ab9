-- Files in one of a plan's two forms are sound, and mean the volume after every loss that it survives.
use Rattle.std.proofs.Common.{◌≡◌, inl, inr, ℕ, ◌+◌, ◌*◌, ◌≤◌, Bool, true, false, List, [], ◌∷◌, length, Option, Some, None, is_some, IsTrue, refl, sym, ◌∙◌, ap, subst}
use Rattle.std.specs.Prelude.{option_and_then, unwrap_or, if◌then◌else◌, IsSome}
use mathlib.Core.Bool.{true≢false}
use Rattle.wire_num.specs.Pairs.{pairs}
use Rattle.world_model.specs.World.{Volume, empty_volume}
use Rattle.world_model.specs.declared.types.Mode.TheVariants as mode
use Rattle.file_names.specs.declared.Kind.TheVariants.{Cpx, Shard, Ecx, Ecj, Vif}
use Rattle.stripe_layout.specs.Information.{info_of}
use Rattle.needle_record.specs.Records.{Placed, fold_records, fold_from, after_record}
use Rattle.volume_forms.specs.Forms.{has_super}
use Rattle.image_meaning.specs.Files.{VolumeFiles, lose_files, has_index, index_at, dat_at}
use Rattle.image_meaning.specs.Plain.{index_home, kept_records, FollowsRecords}
use Rattle.image_meaning.specs.Coded.{coded_with}
use Rattle.image_meaning.specs.Meaning.{volume_of}
use Rattle.image_meaning.specs.Sound.{IsPlain, IsCoded, IsSoundVolume, IsSoundCoded}
use Rattle.image_meaning.specs.Ends.{NearMode, NearVolume}
use Rattle.image_meaning.specs.Outlasts.{Outlasts}
use Rattle.image_meaning.specs.Laws.Servers.{lowest-none}
use Rattle.image_meaning.specs.Laws.Views.{made_has}
use Rattle.image_meaning.specs.Laws.PlainLoss.{same_left, same_beside, same_views, index_stood, stands_stood, is_plain, plain_means, home_has}
use Rattle.image_meaning.specs.Laws.Survivable.{sound_plain}
use Rattle.image_meaning.specs.Parts.{Parts, AreSoundParts, IsMadeOf, HasAll, HasEnough}
use Rattle.image_meaning.specs.Laws.Part.{made_home, made_coded, made_enough, means_all, made_sound_coded, made_sound, form_left}
use Rattle.image_meaning.specs.HeldParts.{IsBeside, held_made, held_all}
use Rattle.plan_steps.specs.Kept.{IsKeptCoded, StandsPlainAt, HasNoneMade, IsKeptPlain, Forms, AreForms, HasAForm, IsSameVolume}

-- ---- the coded form

-- what stands beside the shards depends on three files
pub beside_same : (t : Parts) (files left : VolumeFiles) (server : ℕ) → left server Vif ≡ files server Vif → left server Ecx ≡ files server Ecx → left server Ecj ≡ files server Ecj
    → IsBeside t files server → IsBeside t left server
beside_same t files left server vif ecx ecj was = record {
  text = ap (option_and_then info_of) vif ∙ was.text;
  index = ecx ∙ was.index;
  journal = ap (λ (o : Option (List ℕ)). pairs (unwrap_or o [])) ecj ∙ was.journal;
  rest = subst (λ (o : Option (List ℕ)). length (unwrap_or o []) ≤ 16 * length (pairs (unwrap_or o [])) + 16) (sym ecj) was.rest;
}

module _ (t : Parts) (good : AreSoundParts t) (files : VolumeFiles) (kept : IsKeptCoded t files) where
  made : IsMadeOf t files
  made = held_made t files kept.holds

  pub kept_all : HasAll t files
  kept_all = let home = made_home t files made kept.form.enough in record { server = home.0; holds = home.1; has = held_all t files kept.holds home.0 home.1 }

  pub kept_coded : IsCoded files
  kept_coded = made_coded t files made kept.form

  -- what they mean
  pub kept_coded_means : volume_of files ≡ Some (coded_with t.dat t.info t.deleted)
  kept_coded_means = means_all t files made kept.form good kept_all

  -- and the rules hold of them
  pub kept_coded_rules : IsSoundCoded files
  kept_coded_rules = made_sound_coded t files made kept.form good

  pub kept_coded_sound : IsSoundVolume files
  kept_coded_sound = made_sound t files made kept.form good

-- what a loss leaves of them, as long as the shards suffice
pub kept_coded_left : (t : Parts) (files : VolumeFiles) (lost : ℕ → Bool) → IsKeptCoded t files → HasEnough t (lose_files files lost) → IsKeptCoded t (lose_files files lost)
kept_coded_left t files lost kept enough = record {
  form = form_left t files lost kept.form enough;
  holds = record {
    each = λ server i h st.
        let was = kept.holds.each server i h (stands_stood files lost server (Shard i) st) in (
          beside_same t files (lose_files files lost) server (same_beside files lost server (Shard i) Vif st.1) (same_beside files lost server (Shard i) Ecx st.1) (same_beside files lost server (Shard i) Ecj st.1) was.0,
          was.1 ∙ sym (same_left files lost server (Shard i) st.1),
        );
  };
}

-- ---- the plain form

some_home : (o : Option ℕ) → IsSome o → (s : ℕ) × (o ≡ Some s)
some_home (Some s) some = (s, refl)
some_home None some = absurd (true≢false (sym some))

-- what is kept at a server depends on its index and its data file
pub plain_same : (ps : List Placed) (files left : VolumeFiles) (server : ℕ) → index_at left server ≡ index_at files server → dat_at left server ≡ dat_at files server → StandsPlainAt ps files server → StandsPlainAt ps left server
plain_same ps files left server index dat was = record {
  has = (λ i. kept_records (unwrap_or (dat i) []) (unwrap_or (index i) [])) ∙ was.has;
  follows = subst (λ (b : Option (List ℕ) × Option (List ℕ)). FollowsRecords (unwrap_or b.0 []) (unwrap_or b.1 [])) (λ i. (sym dat i, sym index i)) was.follows;
  super = subst (λ (o : Option (List ℕ)). IsTrue (has_super (unwrap_or o []))) (sym dat) was.super;
}

module _ (ps : List Placed) (files : VolumeFiles) (kept : IsKeptPlain ps files) where
  pub kept_home : (s : ℕ) × (index_home files ≡ Some s)
  kept_home = some_home (index_home files) kept.some_index

  pub kept_plain : IsPlain files
  kept_plain = is_plain files kept_home.0 kept_home.1

  pub kept_plain_means : volume_of files ≡ Some (fold_records ps)
  kept_plain_means = plain_means files kept_home.0 kept_home.1 ∙ ap (λ kept. Some (fold_records kept)) (kept.each kept_home.0 (home_has files kept_home.0 kept_home.1)).has

  pub kept_plain_sound : IsSoundVolume files
  kept_plain_sound = sound_plain files kept_plain (record {
    entries_follow = record { all_but_one = λ server has. (kept.each server has).follows };
    one_home = record { same = λ s t h k. (kept.each s h).has ∙ sym (kept.each t k).has };
    super = record { there = λ server has. (kept.each server has).super };
  })

-- a lost server has no index that a vacuum made
none_left : (b : Bool) (o : Option (List ℕ)) → o ≡ None → (if b then None else o) ≡ None
none_left true o e = refl
none_left false o e = e

pub kept_plain_left : (ps : List Placed) (files : VolumeFiles) (lost : ℕ → Bool) → IsKeptPlain ps files → IsSome (index_home (lose_files files lost)) → IsKeptPlain ps (lose_files files lost)
kept_plain_left ps files lost kept some = record {
  some_index = some;
  none_made = λ server below. none_left (lost server) (files server Cpx) (kept.none_made server below);
  each = λ server has.
      let same = same_views files lost server has in
      plain_same ps files (lose_files files lost) server same.0 same.1 (kept.each server (index_stood files lost server has));
}

-- ---- either form

-- where no index stands, none does that a vacuum made
pub none_of_none : (files : VolumeFiles) → index_home files ≡ None → HasNoneMade files
none_of_none files none server below = by_file (files server Cpx) refl
  where
    by_file : (o : Option (List ℕ)) → files server Cpx ≡ o → files server Cpx ≡ None
    by_file None e = e
    by_file (Some bytes) e = absurd (true≢false (sym (made_has files server (ap is_some e)) ∙ lowest-none (has_index files) none server below))

-- kept files have no index that a vacuum made
pub kept_none_made : (f : Forms) (files : VolumeFiles) → HasAForm f files → HasNoneMade files
kept_none_made f files (inl (changes, kept)) = kept.none_made
kept_none_made f files (inr kept) = none_of_none files kept.form.no_index

-- and where no index stands they are in the coded form
pub coded_where : (f : Forms) (files : VolumeFiles) → HasAForm f files → index_home files ≡ None → IsKeptCoded f.parts files
coded_where f files (inl (changes, kept)) none = absurd (true≢false (sym kept.some_index ∙ ap is_some none))
coded_where f files (inr kept) none = kept

pub fold_mode : (v : Volume) (ps : List Placed) → (fold_from v ps).mode ≡ v.mode
fold_mode v [] = refl
fold_mode v (p ∷ ps) = fold_mode (after_record v p.1) ps

near_by : (changes : Bool) (w u : Volume) (o : Option Volume) → o ≡ Some u → IsSameVolume w u → NearMode changes w.mode u.mode → NearVolume changes (Some w) o
near_by changes w u o e same form = subst (NearVolume changes (Some w)) (sym e) (same.0, same.1, form)

plain_near : (changes : Bool) (w u : Volume) → changes ≡ true → u.mode ≡ mode.Plain → NearMode changes w.mode u.mode
plain_near changes w u e plain = subst (λ (b : Bool). NearMode b w.mode u.mode) (sym e) (inl plain)

-- Files in one of the two forms keep the volume.
pub kept_keeps : (w : Volume) (f : Forms) (files : VolumeFiles) → AreForms w f → HasAForm f files → Outlasts (NearVolume f.changes (Some w)) files
kept_keeps w f files forms (inl (changes, kept)) = record {
  sound = kept_plain_sound f.kept files kept;
  left = λ lost h.
      let still = kept_plain_left f.kept files lost kept (h.index (kept_plain f.kept files kept)) in
      near_by f.changes w (fold_records f.kept) (volume_of (lose_files files lost)) (kept_plain_means f.kept (lose_files files lost) still) (forms.plain changes)
      (plain_near f.changes w (fold_records f.kept) changes (fold_mode empty_volume f.kept));
}
kept_keeps w f files forms (inr kept) = record {
  sound = kept_coded_sound f.parts forms.parts files kept;
  left = λ lost h.
      let enough = made_enough f.parts files (held_made f.parts files kept.holds) kept.form (lose_files files lost) (h.shards (kept_coded f.parts forms.parts files kept)) in
      let still = kept_coded_left f.parts files lost kept enough in
      near_by f.changes w (coded_with f.parts.dat f.parts.info f.parts.deleted) (volume_of (lose_files files lost)) (kept_coded_means f.parts forms.parts (lose_files files lost) still) forms.coded forms.coded_mode;
}
