-- What a stop within a put or a deletion leaves of the store's site: the world before, or the one after.
use Rattle.std.proofs.Common.{◌≡◌, ◌≢◌, ◌⊎◌, inl, inr, ⊎_elim, ℕ, ◌<◌, Bool, false, List, [], ◌∷◌, ◌++◌, Option, Some, None, is_some, IsTrue, refl, sym, ◌∙◌, ap, subst, arith}
use Rattle.std.specs.Prelude.{option_map}
use Rattle.std.proofs.lemmas.Bool.{cases_eq}
use Rattle.site_model.specs.Disk.{File, Place, Files, Image, LeftOutside, IsFirm, firm_file, IsSettled}
use Rattle.site_model.specs.Disk as disk
use Rattle.site_model.specs.Leaves.{place_cases}
use Rattle.site_model.specs.Touches.{firm_left}
use Rattle.world_model.specs.declared.types.Line.{Line}
use Rattle.world_model.specs.World.{World}
use Rattle.world_model.specs.Moves.{grammatical}
use Rattle.world_model.specs.Runs.{Outcome}
use Rattle.file_names.specs.declared.Kind.{Kind}
use Rattle.file_names.specs.declared.Kind.TheVariants.{Dat, Idx}
use Rattle.volume_forms.specs.Forms.{has_super}
use Rattle.needle_record.specs.Records.{Placed, fold_records}
use Rattle.image_meaning.specs.Files.{contents, files_of, temps_of, SameVolume}
use Rattle.file_names.specs.Names.{place_of}
use Rattle.image_meaning.specs.Laws.Plain.{IsAlone, alone_plain, alone_means, alone_sound, has_super-append}
use Rattle.image_meaning.specs.Laws.Copy.{volumes_apart}
use Rattle.image_meaning.specs.Meaning.{volume_of, max_volumes}
use Rattle.image_meaning.specs.Sound.{Stands, IsSound, IsSoundVolume}
use Rattle.image_meaning.specs.Laws.Local.{same_files, same_soundness}
use Rattle.image_meaning.specs.Times.{records_in, records_of}
use Rattle.image_meaning.specs.Laws.Times.{alone_records, exact_records}
use Rattle.dat_volume.specs.declared.volume.DatVolume.{DatVolume}
use Rattle.dat_volume.specs.Places.{dat_place, idx_place, IsOneOfTwo, AreFirmRecords, LeavesRecords}
use Rattle.store_core.specs.Slots.{plain_slot}
use Rattle.store_core.specs.declared.store.Store.{Store}
use Rattle.store_core.specs.Store.{slot_of, FitsVolume, HoldsPlain, Fits, sealed_by, marked_by, store_world}
use Rattle.store_core.specs.Lines.{IsLeftNear}
use Rattle.needle_record.specs.declared.Record.{Record}
use Rattle.store_core.specs.Written.{HasSameRecords, HasOneMore}
use Rattle.store_core.specs.Laws.Store.{Shows, ShowsWorld, world_near, fold_records-mode, holds_means, store_sound, store_has, store_shows, store_beyond}

-- a firm file of these bytes
pub firm_is : (file : Option File) (bytes : List ℕ) → IsFirm file → disk.standing file ≡ Some bytes → file ≡ Some (firm_file bytes)
firm_is None bytes firm e = absurd cc
firm_is (Some file) bytes firm e =
    let same : file.bytes ≡ bytes = cc in
    (λ i. Some (record { bytes = file.bytes; firm = firm.0 i; is_named = firm.1 i })) ∙ ap (λ b. Some (firm_file b)) same

module _ (store : Store) (servers : ℕ) (files : Files) (fits : Fits store servers files)
    (v : ℕ) (below : v < max_volumes) (d : DatVolume) (sealed : Bool) (had : slot_of store v ≡ Some (plain_slot d sealed)) where
  pub holds : HoldsPlain d v (files_of (contents files) v) (temps_of (contents files) v)
  holds = subst (λ s. FitsVolume s v (files_of (contents files) v) (temps_of (contents files) v)) had (fits.each v below)

  pub holds_there : (store_world store (contents files)).volumes v ≡ Some (sealed_by sealed (fold_records holds.ps))
  holds_there = store_has store servers files fits v below ∙ (λ i. option_map (marked_by (had i)) (holds_means d v (files_of (contents files) v) (temps_of (contents files) v) holds i))

  -- its records count
  pub holds_records : records_in (contents files) v ≡ holds.ps
  holds_records = exact_records (files_of (contents files) v) (temps_of (contents files) v) d.server holds.dat holds.idx holds.ps holds.alone holds.exact

  module _ (settled : IsSettled files) where
    -- at rest its two files are firm
    pub holds_firm : AreFirmRecords d.server v files holds.dat holds.idx holds.ps
    holds_firm = record {
      dat_file = firm_is (files (dat_place d.server v)) holds.dat (settled (dat_place d.server v)) holds.alone.has_dat;
      idx_file = firm_is (files (idx_place d.server v)) holds.idx (settled (idx_place d.server v)) holds.alone.has_index;
      exact = holds.exact;
    }

    -- and a stop leaves every other file as it is
    pub outside_firm : (image : Image) → LeftOutside (IsOneOfTwo d.server v) files image → (k : Place) → ¬ IsOneOfTwo d.server v k → image k ≡ contents files k
    outside_firm image left k other = firm_left (files k) (image k) (settled k) (left k other)

  -- an image in which these two files alone differ
  module _ (image : Image) (outside : (k : Place) → ¬ IsOneOfTwo d.server v k → image k ≡ contents files k) where
    pub stood : (server : ℕ) (kind : Kind) → Stands (files_of image v) server kind → Stands (files_of (contents files) v) server kind
    stood server kind h = by_place (place_cases (place_of v server kind false) (dat_place d.server v)) (place_cases (place_of v server kind false) (idx_place d.server v))
      where
        by_place : (place_of v server kind false ≡ dat_place d.server v) ⊎ (place_of v server kind false ≢ dat_place d.server v)
            → (place_of v server kind false ≡ idx_place d.server v) ⊎ (place_of v server kind false ≢ idx_place d.server v) → Stands (files_of (contents files) v) server kind
        by_place (inl e) other = (h.0, ap (λ k. is_some (contents files k)) e ∙ ap is_some holds.alone.has_dat)
        by_place (inr ne) (inl e) = (h.0, ap (λ k. is_some (contents files k)) e ∙ ap is_some holds.alone.has_index)
        by_place (inr ne) (inr me) = (h.0, ap is_some (sym (outside (place_of v server kind false) (λ is. ⊎_elim ne me is))) ∙ h.1)

    pub others_same : (q : ℕ) → q < max_volumes → q ≢ v → SameVolume q (contents files) image
    others_same q h other server kind = sym (outside (place_of q server kind false)
        (λ is. ⊎_elim (volumes_apart q v server d.server kind Dat false false h below other) (volumes_apart q v server d.server kind Idx false false h below other) is))

    -- and keep some records
    module _ (front : List ℕ) (ps : List Placed) (keeps : LeavesRecords d.server v image front ps) (super : IsTrue (has_super front)) where
      only : IsAlone (files_of image v) d.server (front ++ keeps.more) keeps.idx
      only = record {
        below = holds.alone.below;
        has_dat = keeps.has_dat;
        has_index = keeps.has_idx;
        alone = λ server kind is h. holds.alone.alone server kind is (stood server kind h);
      }

      pub kept_sound : IsSound image
      kept_sound q h = elim (cases_eq q v) [
        | inl e ↦ subst (λ p. IsSoundVolume (files_of image p)) (sym e)
            (alone_sound (files_of image v) (temps_of image v) d.server (front ++ keeps.more) keeps.idx only keeps.follows (has_super-append front keeps.more super))
        | inr other ↦ same_soundness q (contents files) image (others_same q h other) (store_sound store servers files fits q h)
      ]

      pub kept_count : records_in image v ≡ ps
      kept_count = alone_records (files_of image v) (temps_of image v) d.server (front ++ keeps.more) keeps.idx only ∙ keeps.kept

      kept_means : volume_of (files_of image v) ≡ Some (fold_records ps)
      kept_means = alone_means (files_of image v) (temps_of image v) d.server (front ++ keeps.more) keeps.idx only ∙ ap (λ (qs : List Placed). Some (fold_records qs)) keeps.kept

      -- a world with these records, and else the store's, is the one that the image shows
      pub kept_shows : (w : World) → w.jobs ≡ [] → w.volumes v ≡ Some (sealed_by sealed (fold_records ps))
          → ((q : ℕ) → q ≢ v → w.volumes q ≡ (store_world store (contents files)).volumes q) → ShowsWorld image w
      kept_shows w no_jobs there elsewhere = record {
        no_jobs = no_jobs;
        sound = kept_sound;
        shows = λ q h. shows q h (cases_eq q v);
        beyond = λ q h. elsewhere q (λ e. absurd (omega (arith, e, h, below))) ∙ store_beyond store servers files fits q h;
      }
        where
          shows : (q : ℕ) → q < max_volumes → (q ≡ v) ⊎ (q ≢ v) → Shows (files_of image q) (w.volumes q)
          shows q h (inl e) = subst (λ p. Shows (files_of image p) (w.volumes p)) (sym e) (inr (inr (
            fold_records ps,
            sealed,
            alone_plain (files_of image v) (temps_of image v) d.server (front ++ keeps.more) keeps.idx only,
            kept_means,
            fold_records-mode ps,
            there,
          )))
          shows q h (inr other) = subst (λ f. Shows f (w.volumes q)) (same_files q (contents files) image (others_same q h other))
              (subst (Shows (files_of (contents files) q)) (sym (elsewhere q other)) ((store_shows store servers files fits).shows q h))

    -- Either the records from before are kept, or those with one more, which a line may lead to.
    pub put_left : (l : Line) (next : World) (p : Placed) → Outcome (store_world store (contents files)) (grammatical l) next
        → next.jobs ≡ [] → next.volumes v ≡ Some (sealed_by sealed (fold_records (holds.ps ++ p ∷ [])))
        → ((q : ℕ) → q ≢ v → next.volumes q ≡ (store_world store (contents files)).volumes q)
        → LeavesRecords d.server v image holds.dat holds.ps ⊎ LeavesRecords d.server v image holds.dat (holds.ps ++ p ∷ [])
        → IsLeftNear (store_world store (contents files)) l image
    put_left l next p outcome no_jobs there elsewhere (inl before) = record {
      sound = kept_sound holds.dat holds.ps before holds.super;
      worlds = λ u may. inl (world_near image (store_world store (contents files))
          (kept_shows holds.dat holds.ps before holds.super (store_world store (contents files)) refl holds_there (λ q other. refl)) u may);
    }
    put_left l next p outcome no_jobs there elsewhere (inr after) = record {
      sound = kept_sound holds.dat (holds.ps ++ p ∷ []) after holds.super;
      worlds = λ u may. inr (
        grammatical l,
        refl,
        next,
        outcome,
        world_near image next
            (kept_shows holds.dat (holds.ps ++ p ∷ []) after holds.super next no_jobs there elsewhere) u may,
      );
    }

    others_have : (q : ℕ) → q < max_volumes → q ≢ v → records_in image q ≡ records_in (contents files) q
    others_have q h other = ap records_of (sym (same_files q (contents files) image (others_same q h other)))

    -- So the records are the same, or there is one more.
    pub put_wrote : (place : ℕ) (r : Record) → LeavesRecords d.server v image holds.dat holds.ps ⊎ LeavesRecords d.server v image holds.dat (holds.ps ++ (place, r) ∷ [])
        → HasSameRecords (contents files) image ⊎ HasOneMore v r (contents files) image
    put_wrote place r (inl before) = inl (λ q h. by_number q h (cases_eq q v))
      where
        by_number : (q : ℕ) → q < max_volumes → (q ≡ v) ⊎ (q ≢ v) → records_in image q ≡ records_in (contents files) q
        by_number q h (inl e) = subst (λ p. records_in image p ≡ records_in (contents files) p) (sym e) (kept_count holds.dat holds.ps before holds.super ∙ sym holds_records)
        by_number q h (inr other) = others_have q h other
    put_wrote place r (inr after) = inr (record {
      place = place;
      there = kept_count holds.dat (holds.ps ++ (place, r) ∷ []) after holds.super ∙ ap (λ ps. ps ++ (place, r) ∷ []) (sym holds_records);
      others = others_have;
    })
