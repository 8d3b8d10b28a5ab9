-- What an id behind the journals of all holders makes of a coded volume.
use Rattle.std.proofs.Common.{◌≡◌, inl, inr, ⊎_elim, ℕ, suc, ◌+◌, ◌*◌, ◌^◌, ◌<◌, ◌≤◌, Bool, false, List, [], ◌∷◌, ◌++◌, length, map, get_or, Option, Some, None, refl, sym, ◌∙◌, ap, subst, arith}
use Rattle.std.specs.Prelude.{unwrap_or, nat_eq, Contains}
use Rattle.std.specs.List.{AllByRecursion}
use Rattle.world_model.specs.Sizes.{deletion_length, max_dat}
use Rattle.site_model.specs.Disk.{File, Place, Files, Image, LeftOf, bytes_of, Disk}
use Rattle.site_model.specs.Disk as disk
use Rattle.site_model.specs.Leaves.{weaker, both}
use Rattle.site_model.specs.Touches.{touches_more, firm_left}
use Rattle.file_names.specs.declared.Kind.TheVariants.{Shard, Ecj}
use Rattle.file_names.specs.Names.{name_bytes, place_of}
use Rattle.wire_num.specs.Pairs.{pairs, journal_bytes}
use Rattle.wire_num.specs.Laws.Pair.{AreIds, HasOrGains, pairs_of_journal, length-journal_bytes}
use Rattle.volume_forms.specs.Forms.{entries}
use Rattle.stripe_layout.specs.declared.Info.{Info}
use Rattle.image_meaning.specs.Files.{VolumeFiles, contents, files_of, lose_files, bytes_at}
use Rattle.image_meaning.specs.Coded.{volume_info, dat_of, deleted_at, coded_with}
use Rattle.image_meaning.specs.Meaning.{max_volumes}
use Rattle.image_meaning.specs.Sound.{IsHolder, IsCoded}
use Rattle.image_meaning.specs.Ends.{SurvivesIn}
use Rattle.image_meaning.specs.Share.{share_of, IsFirmShare}
use Rattle.image_meaning.specs.Parts.{Parts, IsMadeOf, HasEnough, IsCodedForm, AllHave}
use Rattle.image_meaning.specs.Laws.Part.{HasParts, parts_of, made_coded, made_enough, made_home, made_info}
use Rattle.image_meaning.specs.CodedCopies.{same_holder}
use Rattle.image_meaning.specs.JournalPlaces.{journal_apart}
use Rattle.image_meaning.specs.Laws.Delete.{with_deleted, CanDelete, IsDeleting, deleting_held, deleting_made, deleting_form, deleting_sound, deleting_means, deleted_means}
use Rattle.shard_table.specs.Table.{Row}
use Rattle.coded_volume.specs.Deleting.{HasShard, IsFirmJournal, AreJournals, AreFirmJournals, AppendsEverywhere}
use Rattle.coded_volume.proofs.Everywhere.{none_deleted}
use Rattle.coded_volume.specs.Deletes.{journal_place, IsWithOrWithout, IsWithout, CanStart, Deletes, IsDeleted}

standing_bytes : (file : Option File) → unwrap_or (disk.standing file) [] ≡ bytes_of file
standing_bytes None = refl
standing_bytes (Some file) = refl

-- ---- the volume, seen by its parts

module _ (v servers : ℕ) (row : Row) (ids : List ℕ) (id : ℕ) (old : Files) (fit : AreIds ids) (start : CanStart v servers row ids id old) where
  abbrev files : VolumeFiles
  files = files_of (contents old) v

  pub whole : HasParts files
  whole = parts_of files start.coded start.sound

  -- what each holder has deleted
  same_ids : (server : ℕ) → IsHolder files server → deleted_at files server ≡ ids
  same_ids server h = ap pairs (standing_bytes (old (journal_place v server)) ∙ start.has.journals server h) ∙ pairs_of_journal ids fit

  ids_are : whole.parts.deleted ≡ ids
  ids_are = sym whole.all.has ∙ same_ids whole.all.server whole.all.holds

  can : CanDelete whole.parts id
  can =
      let home = made_home whole.parts files whole.made whole.form.enough in
      record {
        fresh = subst (AllByRecursion (λ other. nat_eq other id ≡ false)) (sym ids_are) start.may.fresh;
        known = subst (λ (o : Option (List ℕ)). Contains (map (λ e. e.id) (entries (unwrap_or o []))) id) (whole.made.indexes home.0 home.1) (start.may.known home.0 home.1);
        room = subst (λ (l : List ℕ). whole.parts.info.dat_size + deletion_length * (length l + 1) ≤ max_dat) (sym ids_are) (start.may.room whole.parts.info (made_info whole.parts files whole.made whole.form.enough));
      }

  info_is : (info : Info) → volume_info files ≡ Some info → whole.parts.info ≡ info
  info_is info e = some_is _ _ (sym (made_info whole.parts files whole.made whole.form.enough) ∙ e)
    where
      some_is : (x y : Info) → Some x ≡ Some y → x ≡ y
      some_is x y e = cc

  -- the volume with these ids deleted, by the parts and by the files
  same_volume : (info : Info) → volume_info files ≡ Some info → (a b : List ℕ) → a ≡ b → coded_with whole.parts.dat whole.parts.info a ≡ coded_with (dat_of files) info b
  same_volume info e a b same = λ i. coded_with (whole.same_data i) (info_is info e i) (same i)

  module _ (left : VolumeFiles) (deleting : IsDeleting whole.parts id files left) where
    abbrev now : Parts
    now = with_deleted whole.parts id

    made : IsMadeOf now left
    made = deleting_made whole.parts id files left whole.made deleting

    form : IsCodedForm now left
    form = deleting_form whole.parts id files left whole.made deleting whole.form

    coded : IsCoded left
    coded = made_coded now left made form

    enough : (lost : ℕ → Bool) → SurvivesIn left (lose_files left lost) → HasEnough now (lose_files left lost)
    enough lost h = made_enough now left made form (lose_files left lost) (h.shards coded)

    pub with_or_without : IsWithOrWithout files ids id left
    with_or_without = record {
      coded = coded;
      sound = deleting_sound whole.parts id files left whole.made deleting whole.form whole.sound can;
      means = λ info e lost h. ⊎_elim
          (λ before. inl (before ∙ ap Some (same_volume info e whole.parts.deleted ids ids_are)))
          (λ after. inr (after ∙ ap Some (same_volume info e (whole.parts.deleted ++ id ∷ []) (ids ++ id ∷ []) (ap (λ (l : List ℕ). l ++ id ∷ []) ids_are))))
          (deleting_means whole.parts id files left whole.made deleting whole.form whole.sound can lost (enough lost h));
    }

    pub without : AllHave (with_deleted whole.parts id) left → IsWithout files ids id left
    without all = record {
      coded = coded;
      sound = deleting_sound whole.parts id files left whole.made deleting whole.form whole.sound can;
      means = λ info e lost h.
          deleted_means whole.parts id files left whole.made deleting whole.form whole.sound can all lost (enough lost h)
          ∙ ap Some (same_volume info e (whole.parts.deleted ++ id ∷ []) (ids ++ id ∷ []) (ap (λ (l : List ℕ). l ++ id ∷ []) ids_are));
    }

  -- ---- the images of the run, and what stands after it

  left_deleting : IsFirmShare (share_of old v) → (image : Image) → ((k : Place) → ((t : ℕ) × (t < servers) × HasShard row t × (k ≡ journal_place v t) → ⊥) → LeftOf (old k) (image k))
      → ((t : ℕ) → t < servers → HasShard row t → HasOrGains ids id (unwrap_or (image (journal_place v t)) [])) → v < max_volumes → IsDeleting whole.parts id files (files_of image v)
  left_deleting firm image outside gains small = record {
    others = λ server kind other. firm_left (old (place_of v server kind false)) (image (place_of v server kind false)) (firm server kind)
        (outside (place_of v server kind false) (λ is. journal_apart v server is.0 kind small other is.3));
    journals = λ server h. let at = start.has.holders server h in subst (λ l. HasOrGains l id (unwrap_or (image (journal_place v server)) [])) (sym ids_are) (gains server at.0 at.1);
  }

  -- what stands is left by no stop
  abbrev Written : Files → Type 0
  Written new = (t : ℕ) → t < servers → HasShard row t → IsFirmJournal new (journal_place v t) (ids ++ id ∷ [])

  module _ (new : Files) (written : Written new) (others : (k : Place) → ((t : ℕ) × (t < servers) × HasShard row t × (k ≡ journal_place v t) → ⊥) → new k ≡ old k) (small : v < max_volumes) (fits : id < 2 ^ 64) where
    abbrev left : VolumeFiles
    left = files_of (contents new) v

    all_fit : AreIds (ids ++ id ∷ [])
    all_fit = with_one ids fit
      where
        with_one : (xs : List ℕ) → AreIds xs → AreIds (xs ++ id ∷ [])
        with_one [] h = (fits, tt)
        with_one (x ∷ xs) h = (h.0, with_one xs h.1)

    journal_is : (server : ℕ) → IsHolder files server → bytes_at left server Ecj ≡ journal_bytes (ids ++ id ∷ [])
    journal_is server h = let at = start.has.holders server h in standing_bytes (new (journal_place v server)) ∙ (written server at.0 at.1).bytes

    new_deleting : IsDeleting whole.parts id files left
    new_deleting = record {
      others = λ server kind other. ap disk.standing (others (place_of v server kind false) (λ is. journal_apart v server is.0 kind small other is.3));
      journals = λ server h.
          let is = ap pairs (journal_is server h) ∙ pairs_of_journal (ids ++ id ∷ []) all_fit in
          record {
            pairs_are = inr (is ∙ ap (λ (l : List ℕ). l ++ id ∷ []) (sym ids_are));
            rest = omega (arith, ap length (journal_is server h), length-journal_bytes (ids ++ id ∷ []), ap length is);
          };
    }

    holds : (server : ℕ) → IsHolder files server → IsHolder left server
    holds server h = (h.0, same_holder files left (λ s i. new_deleting.others s (Shard i) (λ e. cc)) server ∙ h.1)

    held : (server : ℕ) → IsHolder left server → IsHolder files server
    held server h = deleting_held whole.parts id files left whole.made new_deleting server h

    pub is_deleted : IsDeleted v servers row ids id old new
    is_deleted = record {
      without = without left new_deleting (λ server h. ap pairs (journal_is server (held server h)) ∙ pairs_of_journal (ids ++ id ∷ []) all_fit ∙ ap (λ (l : List ℕ). l ++ id ∷ []) (sym ids_are));
      has = record {
        holders = λ server h. start.has.holders server (held server h);
        no_others = λ server h has. holds server (start.has.no_others server h has);
        journals = λ server h. let at = start.has.holders server (held server h) in (written server at.0 at.1).bytes;
      };
      firm = λ server h. let at = start.has.holders server (held server h) in (written server at.0 at.1).firm;
    }

-- the journals of the holders
start_journals : (v servers : ℕ) (row : Row) (ids : List ℕ) (id : ℕ) (old : Files) → CanStart v servers row ids id old → (t : ℕ) → t < servers → HasShard row t → bytes_of (old (journal_place v t)) ≡ journal_bytes ids
start_journals v servers row ids id old start t below has = start.has.journals t (start.has.no_others t below has)

pub deletes : (v servers : ℕ) (row : Row) (name ids : List ℕ) (id : ℕ) (old new : Disk) → name ≡ name_bytes (record { volume = v; kind = Ecj; temp = false }) → v < max_volumes → AreIds ids
    → AppendsEverywhere servers row name id old new → Deletes v servers row ids id old new
deletes v servers row name ids id old new is small fit did = record {
  touches = touches_more (λ k at. (at.0, at.1, at.2, at.3 ∙ place at.0)) did.touches;
  leaves = λ start firm. weaker (both did.touches.leaves (did.leaves ids fit (λ t below has.
      subst (λ n. IsFirmJournal old.files (t, n) ids) (sym is) (record { firm = firm t Ecj; bytes = start_journals v servers row ids id old.files start t below has }))))
      (λ image said left. with_or_without v servers row ids id old.files fit start (files_of image v)
      (left_deleting v servers row ids id old.files fit start firm image
      (λ k out. left.0.0 k (λ at. out (at.0, at.1, at.2, at.3 ∙ place at.0)))
      (λ t below has. subst (λ n. HasOrGains ids id (unwrap_or (image (t, n)) [])) is (left.1 t below has)) small));
}
  where
    place : (server : ℕ) → ◌≡◌ {A = Place} (server, name) (journal_place v server)
    place server i = (server, is i)

-- after Ok
pub deletes_done : (v servers : ℕ) (row : Row) (name ids : List ℕ) (id : ℕ) (old new : Disk) → name ≡ name_bytes (record { volume = v; kind = Ecj; temp = false }) → v < max_volumes → AreIds ids → id < 2 ^ 64
    → AppendsEverywhere servers row name id old new
    → ((some : List ℕ) → AreJournals servers row name some old.files → AreFirmJournals servers row name (some ++ id ∷ []) new.files)
    → CanStart v servers row ids id old.files → IsDeleted v servers row ids id old.files new.files
deletes_done v servers row name ids id old new is small fit fits did done start =
    is_deleted v servers row ids id old.files fit start new.files
    (λ t below has. subst (λ n. IsFirmJournal new.files (t, n) (ids ++ id ∷ [])) is (done ids (λ s under shard.
    subst (λ n. bytes_of (old.files (s, n)) ≡ journal_bytes ids) (sym is) (start_journals v servers row ids id old.files start s under shard)) t below has))
    (λ k out. did.touches.others k (λ at. out (at.0, at.1, at.2, at.3 ∙ place at.0))) small fits
  where
    place : (server : ℕ) → ◌≡◌ {A = Place} (server, name) (journal_place v server)
    place server i = (server, is i)

-- nothing was done
pub deletes_none : (v servers : ℕ) (row : Row) (ids : List ℕ) (id : ℕ) (disk : Disk) → v < max_volumes → AreIds ids → Deletes v servers row ids id disk disk
deletes_none v servers row ids id disk small fit =
    deletes v servers row (name_bytes (record { volume = v; kind = Ecj; temp = false })) ids id disk disk refl small fit (none_deleted servers row (name_bytes (record { volume = v; kind = Ecj; temp = false })) id disk).effect

-- numbers that fit
pub are_ids : (xs : List ℕ) → ((k : ℕ) → get_or xs k 0 < 2 ^ 64) → AreIds xs
are_ids [] h = tt
are_ids (x ∷ xs) h = (h 0, are_ids xs (λ k. h (suc k)))
