-- What a vacuum and its renames leave of a plain volume, at one index holder and at the others.
-- What nothing cites yet is for `volume_vacuum`, to come.
use Rattle.std.proofs.Common.{◌≡◌, ◌≢◌, ◌⊎◌, inl, inr, ⊎_elim, ℕ, ◌<◌, Bool, true, false, List, [], Option, Some, None, is_some, IsTrue, refl, sym, ◌∙◌, ap, subst}
use Rattle.std.specs.Prelude.{unwrap_or, IsSome}
use mathlib.Core.Bool.{true≢false}
use Rattle.file_names.specs.declared.Kind.TheVariants.{Dat, Idx, Cpd, Cpx}
use Rattle.volume_forms.specs.Forms.{has_super}
use Rattle.needle_record.specs.Records.{fold_records}
use Rattle.image_meaning.specs.Files.{VolumeFiles, stands, lose_files, index_at, dat_at, has_index, index_bytes, dat_bytes}
use Rattle.site_model.specs.Counts.{max_servers}
use Rattle.image_meaning.specs.Plain.{kept_records, kept_at, index_home, FollowsRecords}
use Rattle.image_meaning.specs.Meaning.{volume_of}
use Rattle.image_meaning.specs.Sound.{IsPlain, HasIndex, IsSoundVolume}
use Rattle.image_meaning.specs.Ends.{SurvivesIn}
use Rattle.image_meaning.specs.Laws.Servers.{lowest-exists}
use Rattle.image_meaning.specs.Laws.Views.{index_named, dat_named, index_made, dat_made, dat_renamed, same_index_at, same_dat_at}
use Rattle.image_meaning.specs.Laws.PlainLoss.{plain_means, is_plain, home_has, index_stood, same_views}
use Rattle.image_meaning.specs.Laws.Survivable.{sound_plain}
use Rattle.image_meaning.specs.Laws.Copy.{IsThinned}

-- ---- what may become of the four files of a server

-- its index and data file are as they were
pub record HasSameViews (files left : VolumeFiles) (server : ℕ) : Type 0 where
  pub index : index_at left server ≡ index_at files server
  pub dat : dat_at left server ≡ dat_at files server

-- or it is no index holder any more
abbrev pub IsThinnedAt : VolumeFiles → VolumeFiles → ℕ → Type 0
IsThinnedAt files left server = HasSameViews files left server ⊎ (index_at left server ≡ None)

pub thinned_by : (files left : VolumeFiles) → ((server : ℕ) → IsThinnedAt files left server) → IsThinned files left
thinned_by files left each = record {
  each = λ server. ⊎_elim (λ same. inl same.index) (λ gone. inr gone) (each server);
  beside = λ server has. ⊎_elim (λ same. same.dat) (λ gone. absurd (true≢false (sym has.1 ∙ ap is_some gone))) (each server);
}

pub record HasSameFour (files left : VolumeFiles) (server : ℕ) : Type 0 where
  pub dat : left server Dat ≡ files server Dat
  pub idx : left server Idx ≡ files server Idx
  pub cpd : left server Cpd ≡ files server Cpd
  pub cpx : left server Cpx ≡ files server Cpx

module _ (files left : VolumeFiles) (server : ℕ) where
  pub same_four : HasSameFour files left server → HasSameViews files left server
  same_four same = record { index = same_index_at files left server same.cpx same.idx; dat = same_dat_at files left server same.cpx same.cpd same.dat }

  none_if : (o : Option (List ℕ)) → is_some o ≡ false → o ≡ None
  none_if None e = refl
  none_if (Some x) e = absurd (true≢false e)

  -- the data file that a vacuum made is renamed, while its index stands
  pub dat_moved : IsTrue (stands files server Cpx) → IsTrue (stands files server Cpd) → left server Dat ≡ files server Cpd → left server Cpd ≡ None → left server Idx ≡ files server Idx → left server Cpx ≡ files server Cpx
      → HasSameViews files left server
  dat_moved index made moved gone idx cpx = record {
    index = same_index_at files left server cpx idx;
    dat = dat_renamed left server (ap is_some gone) ∙ moved ∙ sym (dat_made files server index made);
  }

  -- then its index is, once the data file has its name
  pub index_moved : IsTrue (stands files server Cpx) → stands files server Cpd ≡ false → left server Idx ≡ files server Cpx → left server Cpx ≡ None → left server Dat ≡ files server Dat → HasSameViews files left server
  index_moved index none moved gone dat = record {
    index = index_named left server (ap is_some gone) ∙ moved ∙ sym (index_made files server index);
    dat = dat_named left server (ap is_some gone) ∙ dat ∙ sym (dat_renamed files server none);
  }

  -- `.idx` is taken away: where `.cpx` stands nothing changes
  pub idx_taken : left server Idx ≡ None → left server Dat ≡ files server Dat → left server Cpd ≡ files server Cpd → left server Cpx ≡ files server Cpx → IsThinnedAt files left server
  idx_taken gone dat cpd cpx = by_made (stands files server Cpx) refl
    where
      by_made : (b : Bool) → stands files server Cpx ≡ b → IsThinnedAt files left server
      by_made true e = inl (record { index = index_made left server (ap is_some cpx ∙ e) ∙ cpx ∙ sym (index_made files server e); dat = same_dat_at files left server cpx cpd dat })
      by_made false e = inr (index_named left server (ap is_some cpx ∙ e) ∙ gone)

  -- `.cpx` is, where no `.idx` stands
  pub cpx_taken : left server Cpx ≡ None → left server Idx ≡ None → IsThinnedAt files left server
  cpx_taken gone none = inr (index_named left server (ap is_some gone) ∙ none)

  -- `.dat` is, where no index stands
  pub dat_taken : index_at files server ≡ None → left server Idx ≡ files server Idx → left server Cpx ≡ files server Cpx → IsThinnedAt files left server
  dat_taken none idx cpx = inr (same_index_at files left server cpx idx ∙ none)

  -- `.cpd` is, where no `.cpx` stands
  pub cpd_taken : stands files server Cpx ≡ false → left server Dat ≡ files server Dat → left server Idx ≡ files server Idx → left server Cpx ≡ files server Cpx → IsThinnedAt files left server
  cpd_taken none dat idx cpx = inl (record {
    index = same_index_at files left server cpx idx;
    dat = dat_named left server (ap is_some cpx ∙ none) ∙ dat ∙ sym (dat_named files server none);
  })

-- ---- one index holder

-- The volume has one index holder, with this data file and this index, whatever else stands.
pub record IsHeldAlone (files : VolumeFiles) (home : ℕ) (dat idx : List ℕ) : Type 0 where
  pub below : home < max_servers
  pub has_dat : dat_at files home ≡ Some dat
  pub has_index : index_at files home ≡ Some idx
  pub alone : (server : ℕ) → HasIndex files server → server ≡ home

module _ (files : VolumeFiles) (home : ℕ) (dat idx : List ℕ) (held : IsHeldAlone files home dat idx) where
  pub held_home : index_home files ≡ Some home
  held_home =
      let found = lowest-exists (has_index files) home held.below (ap is_some held.has_index) in
      found.1 ∙ ap Some (held.alone found.0 (home_has files found.0 found.1))

  pub held_plain : IsPlain files
  held_plain = is_plain files home held_home

  dat_is : dat_bytes files home ≡ dat
  dat_is = ap (λ (o : Option (List ℕ)). unwrap_or o []) held.has_dat

  idx_is : index_bytes files home ≡ idx
  idx_is = ap (λ (o : Option (List ℕ)). unwrap_or o []) held.has_index

  -- it means what is kept of these two
  pub held_means : volume_of files ≡ Some (fold_records (kept_records dat idx))
  held_means = plain_means files home held_home ∙ λ i. Some (fold_records (kept_records (dat_is i) (idx_is i)))

  -- and is sound by them
  pub held_sound : FollowsRecords dat idx → IsTrue (has_super dat) → IsSoundVolume files
  held_sound follows super =
      let at_home : (P : ℕ → Type 0) (server : ℕ) → HasIndex files server → P home → P server = λ P server has holds. subst P (sym (held.alone server has)) holds in
      sound_plain files held_plain (record {
        entries_follow = record {
          all_but_one = λ server has. at_home (λ s. FollowsRecords (dat_bytes files s) (index_bytes files s)) server has (subst (λ d. FollowsRecords d (index_bytes files home)) (sym dat_is) (subst (FollowsRecords dat) (sym idx_is) follows));
        };
        one_home = record { same = λ s t h k. ap (kept_at files) (held.alone s h ∙ sym (held.alone t k)) };
        super = record { there = λ server has. at_home (λ s. IsTrue (has_super (dat_bytes files s))) server has (ap has_super dat_is ∙ super) };
      })

  -- so does what a survivable loss leaves of it
  pub held_left : (lost : ℕ → Bool) → SurvivesIn files (lose_files files lost) → IsHeldAlone (lose_files files lost) home dat idx
  held_left lost survives = by_home (index_home (lose_files files lost)) refl (survives.index held_plain)
    where
      by_home : (o : Option ℕ) → index_home (lose_files files lost) ≡ o → IsSome o → IsHeldAlone (lose_files files lost) home dat idx
      by_home None e some = absurd (true≢false (sym some))
      by_home (Some s) e some =
          let has = home_has (lose_files files lost) s e in
          let here : HasIndex (lose_files files lost) home = subst (HasIndex (lose_files files lost)) (held.alone s (index_stood files lost s has)) has in
          let same = same_views files lost home here in
          record {
            below = held.below;
            has_dat = same.1 ∙ held.has_dat;
            has_index = same.0 ∙ held.has_index;
            alone = λ server left_has. held.alone server (index_stood files lost server left_has);
          }

-- ---- the steps of a vacuum

-- The moment of change: beside what is there `.cpd` stands, and `.cpx` gets its name.
pub held_made : (files left : VolumeFiles) (home : ℕ) (dat idx new_dat new_idx : List ℕ) → IsHeldAlone files home dat idx → left home Cpd ≡ Some new_dat → left home Cpx ≡ Some new_idx
    → ((server : ℕ) → server ≢ home → HasSameViews files left server) → ((server : ℕ) → (server ≡ home) ⊎ (server ≢ home)) → IsHeldAlone left home new_dat new_idx
held_made files left home dat idx new_dat new_idx held made index others cases = record {
  below = held.below;
  has_dat = dat_made left home (ap is_some index) (ap is_some made) ∙ made;
  has_index = index_made left home (ap is_some index) ∙ index;
  alone = λ server has. ⊎_elim (λ same. same) (λ other. held.alone server (has.0, ap is_some (sym (others server other).index) ∙ has.1)) (cases server);
}
