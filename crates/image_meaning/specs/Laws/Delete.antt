-- A deletion on a coded volume: the id goes behind the journals of all holders, one after the other.
use Rattle.std.proofs.Common.{◌≡◌, ◌≢◌, ◌⊎◌, inl, inr, ⊎_elim, ℕ, ◌+◌, ◌*◌, ◌≤◌, Bool, false, List, [], ◌∷◌, ◌++◌, length, map, Option, Some, is_some, sym, ◌∙◌, ap, subst, arith}
use Rattle.std.specs.Prelude.{nat_eq, unwrap_or, option_and_then, Contains}
use Rattle.std.specs.List.{AllByRecursion, IsDistinct}
use Rattle.std.proofs.Math.ListN.{length-append}
use Rattle.world_model.specs.Sizes.{deletion_length, max_dat}
use Rattle.file_names.specs.declared.Kind.{Kind}
use Rattle.file_names.specs.declared.Kind.TheVariants.{Idx, Cpx, Shard, Ecx, Ecj, Vif}
use Rattle.wire_num.specs.Pairs.{pairs}
use Rattle.wire_num.specs.Laws.Pair.{HasOrGains}
use Rattle.volume_forms.specs.Forms.{entries}
use Rattle.stripe_layout.specs.Information.{info_of}
use Rattle.image_meaning.specs.Files.{VolumeFiles, lose_files, bytes_at, lowest}
use Rattle.image_meaning.specs.Plain.{index_home}
use Rattle.world_model.specs.Ratios.{data_count}
use Rattle.image_meaning.specs.Coded.{coded_with}
use Rattle.image_meaning.specs.Meaning.{volume_of}
use Rattle.image_meaning.specs.Sound.{IsHolder, IsSoundVolume}
use Rattle.image_meaning.specs.Laws.Views.{same_index_at}
use Rattle.image_meaning.specs.Laws.CodedLoss.{holder_left, holder_stood}
use Rattle.image_meaning.specs.Laws.Journals.{snoc_same}
use Rattle.image_meaning.specs.Parts.{Parts, AreSoundParts, IsMadeOf, HasEnough, IsCodedForm, AllHave}
use Rattle.image_meaning.specs.Laws.Part.{made_left, form_left, made_sound, made_home, all_or_less, means_all, means_less}
use Rattle.image_meaning.specs.CodedCopies.{same_standing, same_holder}

-- with one id more deleted
abbrev pub with_deleted : Parts → ℕ → Parts
with_deleted parts id = record parts { deleted = parts.deleted ++ id ∷ [] }

-- an id of the index that isn't deleted yet, and there is room for its deletion
pub record CanDelete (parts : Parts) (id : ℕ) : Type 0 where
  pub fresh : AllByRecursion (λ other. nat_eq other id ≡ false) parts.deleted
  pub known : Contains (map (λ e. e.id) (entries parts.index)) id
  pub room : parts.info.dat_size + deletion_length * (length parts.deleted + 1) ≤ max_dat

-- Each file is as it was, but a holder's journal may have the id behind it, or a part of its pair.
pub record IsDeleting (parts : Parts) (id : ℕ) (files left : VolumeFiles) : Type 0 where
  pub others : (server : ℕ) (kind : Kind) → kind ≢ Ecj → left server kind ≡ files server kind
  pub journals : (server : ℕ) → IsHolder files server → HasOrGains parts.deleted id (bytes_at left server Ecj)

all_with : (P : ℕ → Type 0) (xs : List ℕ) (y : ℕ) → AllByRecursion P xs → P y → AllByRecursion P (xs ++ y ∷ [])
all_with P [] y h k = (k, tt)
all_with P (x ∷ xs) y h k = (h.0, all_with P xs y h.1 k)

distinct_with : (ids : List ℕ) (id : ℕ) → IsDistinct nat_eq ids → AllByRecursion (λ other. nat_eq other id ≡ false) ids → IsDistinct nat_eq (ids ++ id ∷ [])
unfolding IsDistinct
distinct_with [] id h fresh = (tt, tt)
distinct_with (x ∷ ids) id h fresh = (all_with (λ y. nat_eq x y ≡ false) ids id h.0 fresh.0, distinct_with ids id h.1 fresh.1)

-- the parts are sound with the id deleted
pub deleted_sound : (parts : Parts) (id : ℕ) → AreSoundParts parts → CanDelete parts id → AreSoundParts (with_deleted parts id)
deleted_sound parts id sound can = record {
  size = sound.size;
  striped = sound.striped;
  super = sound.super;
  to_end = sound.to_end;
  live_entries = sound.live_entries;
  sorted = sound.sorted;
  ends = sound.ends;
  distinct = distinct_with parts.deleted id sound.distinct can.fresh;
  known = all_with (λ id. Contains (map (λ e. e.id) (entries parts.index)) id) parts.deleted id sound.known can.known;
  room = omega (arith, can.room, length-append parts.deleted (id ∷ []));
}

module _ (parts : Parts) (id : ℕ) (files left : VolumeFiles) (made : IsMadeOf parts files) (deleting : IsDeleting parts id files left) where
  same_shards : (server i : ℕ) → left server (Shard i) ≡ files server (Shard i)
  same_shards server i = deleting.others server (Shard i) (λ e. cc)

  pub deleting_held : (server : ℕ) → IsHolder left server → IsHolder files server
  deleting_held server h = (h.0, sym (same_holder files left same_shards server) ∙ h.1)

  -- within the deletion, the volume is made of the parts with the id deleted
  pub deleting_made : IsMadeOf (with_deleted parts id) left
  deleting_made = record {
    texts = λ server h. ap (option_and_then info_of) (deleting.others server Vif (λ e. cc)) ∙ made.texts server (deleting_held server h);
    indexes = λ server h. deleting.others server Ecx (λ e. cc) ∙ made.indexes server (deleting_held server h);
    stand = record { each = λ server i h st. made.stand.each server i h (st.0, ap is_some (sym (same_shards server i)) ∙ st.1) ∙ sym (same_shards server i) };
    stages = λ server h. ⊎_elim
        (λ same. inr (id, ap (λ (ids : List ℕ). ids ++ id ∷ []) (sym same)))
        (λ more. inl more)
        (deleting.journals server (deleting_held server h)).pairs_are;
    rests = λ server h. (deleting.journals server (deleting_held server h)).rest;
  }

  pub deleting_form : IsCodedForm parts files → IsCodedForm (with_deleted parts id) left
  deleting_form form = record {
    no_index = no_home ∙ form.no_index;
    enough = subst (λ (l : List ℕ). data_count parts.info.geometry.ratio ≤ length l) (sym (same_standing files left same_shards)) form.enough;
  }
    where
      no_home : index_home left ≡ index_home files
      no_home i = lowest (λ s. is_some (same_index_at files left s (deleting.others s Cpx (λ e. cc)) (deleting.others s Idx (λ e. cc)) i))

  module _ (form : IsCodedForm parts files) (sound : AreSoundParts parts) (can : CanDelete parts id) where
    -- the rules hold
    pub deleting_sound : IsSoundVolume left
    deleting_sound = made_sound (with_deleted parts id) left deleting_made (deleting_form form) (deleted_sound parts id sound can)

    -- after any loss that leaves shards that suffice, the volume is without the id or with it
    pub deleting_means : (lost : ℕ → Bool) → HasEnough parts (lose_files left lost)
        → (volume_of (lose_files left lost) ≡ Some (coded_with parts.dat parts.info parts.deleted)) ⊎ (volume_of (lose_files left lost) ≡ Some (coded_with parts.dat parts.info (parts.deleted ++ id ∷ [])))
    deleting_means lost enough =
        let now : IsMadeOf (with_deleted parts id) (lose_files left lost) = made_left (with_deleted parts id) left lost deleting_made in
        let now_form : IsCodedForm (with_deleted parts id) (lose_files left lost) = form_left (with_deleted parts id) left lost (deleting_form form) enough in
        ⊎_elim
        (λ all. inr (means_all (with_deleted parts id) (lose_files left lost) now now_form (deleted_sound parts id sound can) all))
        (λ less. inl (means_less (with_deleted parts id) (lose_files left lost) now now_form (deleted_sound parts id sound can) less.0 less.1
        ∙ ap (λ ids. Some (coded_with parts.dat parts.info ids)) (sym (snoc_same parts.deleted less.0 id less.1.last.0 less.1.last.1))))
        (all_or_less (with_deleted parts id) (lose_files left lost) now enough)

    -- once every holder has it, it is without the id after each such loss
    pub deleted_means : AllHave (with_deleted parts id) left → (lost : ℕ → Bool) → HasEnough parts (lose_files left lost)
        → volume_of (lose_files left lost) ≡ Some (coded_with parts.dat parts.info (parts.deleted ++ id ∷ []))
    deleted_means all lost enough =
        let now : IsMadeOf (with_deleted parts id) (lose_files left lost) = made_left (with_deleted parts id) left lost deleting_made in
        let now_form : IsCodedForm (with_deleted parts id) (lose_files left lost) = form_left (with_deleted parts id) left lost (deleting_form form) enough in
        let home = made_home (with_deleted parts id) (lose_files left lost) now enough in
        means_all (with_deleted parts id) (lose_files left lost) now now_form (deleted_sound parts id sound can) (record {
          server = home.0;
          holds = home.1;
          has = ap (λ (f : Kind → Option (List ℕ)). pairs (unwrap_or (f Ecj) [])) (holder_left left lost home.0 home.1.1) ∙ all home.0 (holder_stood left lost home.0 home.1);
        })
