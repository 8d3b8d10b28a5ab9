-- What a volume's files give where they agree with it.
use Rattle.std.proofs.Common.{inl, ◌≡◌, ℕ, ◌≤◌, Bool, true, false, cond, List, [], length, take, drop, Option, Some, None, All, is_some, Result, Ok, refl, sym, ◌∙◌, ap, subst, arith}
use Rattle.std.specs.Prelude.{not, unwrap_or, IsSome}
use Rattle.std.specs.Option.{option_map_or}
use Rattle.std.specs.Ordering.{nat_cmp}
use Rattle.std.specs.FinMap.{get, get-retain_keys, nat_cmp-IsAntisymmetric}
use Rattle.std.specs.FinSet as set
use Rattle.std.proofs.Math.Seq.{take-length}
use Rattle.site_model.specs.Disk.{File, Files, bytes_of, standing}
use Rattle.wire_num.specs.Numbers.{number_of}
use Rattle.world_model.specs.World.{Needles}
use Rattle.world_model.specs.Ratios.{counts-sixteen}
use Rattle.file_names.specs.Names.{max_shards}
use Rattle.file_names.specs.declared.Kind.TheVariants.{Shard}
use Rattle.volume_forms.specs.declared.Entry.{Entry}
use Rattle.volume_forms.specs.Forms.{entries}
use Rattle.volume_forms.specs.Kept.{entry_end}
use Rattle.needle_record.specs.declared.Record.{Record}
use Rattle.needle_record.specs.declared.NeedleFault.{NeedleFault}
use Rattle.needle_record.specs.Reading.{needle_at, HasHeader}
use Rattle.needle_record.specs.Spelling.{length_of_record}
use Rattle.needle_record.specs.Laws.FieldSizes.{ok_same}
use Rattle.needle_record.specs.Laws.Spelling.{found-whole, header-take}
use Rattle.needle_record.specs.Records.{Placed, StandsIn, AgreesAt, entry_of, records, live, fold_records}
use Rattle.needle_record.specs.Laws.Records.{records-stand, entry_of-place, entry_of-end}
use Rattle.stripe_layout.specs.declared.Info.{Info}
use Rattle.stripe_layout.specs.Stripes.{shards_in_all}
use Rattle.image_meaning.specs.Files.{stands, is_holder}
use Rattle.image_meaning.specs.Coded.{dat_by, dat_of, volume_info, without_ids}
use Rattle.image_meaning.specs.Sound.{IsHolder, HasStripes}
use Rattle.image_meaning.specs.Laws.CodedLoss.{any_range, length-dat_of, volume_info_in_range}
use Rattle.shard_table.specs.Table.{Row}
use Rattle.dat_volume.specs.Needles.{bytes_from, IsCookie, IsNeedle}
use Rattle.degraded_read.specs.Reading.{HasPlaces}
use Rattle.degraded_read.specs.Laws.Codes.{code_of_stripes}
use Rattle.degraded_read.specs.Ranges.{GivesRange}
use Rattle.ecx_index.specs.Search.{HasRisingIds, IsEntryOf, entries_in}
use Rattle.coded_volume.specs.declared.volume.CodedVolume.{CodedVolume}
use Rattle.coded_volume.specs.Agrees.{Agrees, own_dat, own_files, own_needle}
use Rattle.coded_volume.specs.Searching.{HasOneOf}
use Rattle.coded_volume.specs.Reading.{IsListed, index_name, is_deleted}
use Rattle.coded_volume.proofs.Listed.{agrees_found}

-- ---- needles

module _ (needles : Needles) (ids : List ℕ) (id : ℕ) where
  left_by : (b : Bool) → set.contains (set.from_list {R = nat_cmp} ids) id ≡ b → get (without_ids needles (set.from_list ids)) id ≡ cond (not b) (get needles id) None
  left_by b is =
      get-retain_keys needles (λ k. not (set.contains (set.from_list {R = nat_cmp} ids) k)) id (λ x e. ap (λ k. not (set.contains (set.from_list {R = nat_cmp} ids) k)) (sym (nat_cmp-IsAntisymmetric id x e)))
      ∙ ap (λ c. cond (not c) (get needles id) None) is

module _ (volume : CodedVolume) (files : Files) (id : ℕ) where
  needle_by : (b : Bool) → is_deleted volume id ≡ b → own_needle volume files id ≡ cond (not b) (get (fold_records (records (own_dat volume files))).needles id) None
  needle_by b is =
      left_by (fold_records (records (own_dat volume files))).needles volume.deleted.items id b (set.contains-from_list_nat volume.deleted.items id ∙ is)

  -- a deleted id has no needle
  pub none_of_deleted : is_deleted volume id ≡ true → own_needle volume files id ≡ None
  none_of_deleted is = needle_by true is

-- ---- files

bytes_same : (o : Option File) → bytes_of o ≡ unwrap_or (standing o) []
bytes_same None = refl
bytes_same (Some file) = refl

stands_there : (o : Option File) → IsSome o → is_some (standing o) ≡ true
stands_there None h = h
stands_there (Some file) h = refl

same_text : (o : Option Info) (a b : Info) → o ≡ Some a → o ≡ Some b → a ≡ b
same_text o a b p q = cc

same_record : (r s : Record) (m n : ℕ) (read : Result (Record × ℕ) NeedleFault) → read ≡ Ok (r, m) → read ≡ Ok (s, n) → r ≡ s
same_record r s m n read p q =
    let same : ◌≡◌ {A = Record × ℕ} (r, m) (s, n) = ok_same _ _ (sym p ∙ q) in
    ap (λ (x : Record × ℕ). x.0) same

-- ---- a record in the data file

module _ (dat : List ℕ) (p : Placed) (e : Entry) (stands : StandsIn dat p) (is : e ≡ entry_of p) where
  pub read_at : needle_at (bytes_from dat e) ≡ Ok (p.1, length_of_record p.1)
  read_at = ap (λ f. needle_at (bytes_from dat f)) is ∙ ap (λ n. needle_at (drop n dat)) (entry_of-place p stands.in_eights) ∙ stands.reads

  pub front_header : (n : ℕ) → 16 ≤ n → HasHeader p.1 (take n (bytes_from dat e))
  front_header n h = header-take (bytes_from dat e) (p.1, length_of_record p.1) n read_at h

  pub header_at : HasHeader p.1 (bytes_from dat e)
  header_at =
      subst (HasHeader p.1) (take-length (bytes_from dat e))
      (front_header (length (bytes_from dat e)) (found-whole (bytes_from dat e) (p.1, length_of_record p.1) read_at).has_header)

  -- it ends within it
  pub end_within : entry_end e ≤ length dat
  end_within = omega (arith, stands.within, ap entry_end is, entry_of-end p stands.in_eights)

module _ (volume : CodedVolume) (files : Files) (agrees : Agrees volume (own_files volume files)) where
  pub dat_long : length (own_dat volume files) ≡ volume.info.dat_size
  dat_long = length-dat_of (own_files volume files) volume.info agrees.text

  -- a range that was read is one of the data file
  pub range_there : (row : Row) (calm : Type 0) (offset : ℕ) (out : List ℕ) → GivesRange files volume.volume volume.info row calm offset out → out ≡ take (length out) (drop offset (own_dat volume files))
  unfolding dat_of
  range_there row calm offset out given =
      let text : agrees.sound.info ≡ volume.info = same_text (volume_info (own_files volume files)) agrees.sound.info volume.info agrees.sound.texts.first agrees.text in
      given (inl (code_of_stripes (own_files volume files) volume.info agrees.text (subst (λ i. HasStripes (own_files volume files) i) text agrees.sound.stripes)))
      ∙ ap (λ dat. take (length out) (drop offset dat)) (sym (ap (λ o. option_map_or (dat_by (own_files volume files)) o []) agrees.text))

  stand : All (StandsIn (own_dat volume files)) (records (own_dat volume files))
  stand = records-stand (own_dat volume files) (omega (arith, dat_long, (volume_info_in_range (own_files volume files) volume.info agrees.text).least))

  module _ (row : Row) (places : HasPlaces files volume.volume volume.info row) (id : ℕ) (kept : is_deleted volume id ≡ false) where
    holds : (server : ℕ) → HasOneOf row (shards_in_all volume.info.geometry) server → IsHolder (own_files volume files) server
    unfolding is_holder
    holds server has =
        let file = places has.0 server has.2 in (
          file.server,
          any_range (λ i. stands (own_files volume files) server (Shard i)) 0 max_shards has.0 (omega arith) (omega (arith, has.1, counts-sixteen volume.info.geometry.ratio)) (stands_there _ file.stands),
        )

    found_agrees : (found : Option Entry) → IsListed volume row files id found
        → AgreesAt (StandsIn (own_dat volume files)) id found (get (fold_records (records (own_dat volume files))).needles id)
    found_agrees found listed =
        let holder = holds listed.server listed.holds in
        let same : entries_in (files (listed.server, index_name volume)) ≡ live (records (own_dat volume files)) =
        ap entries (bytes_same (files (listed.server, index_name volume))) ∙ agrees.sound.live_records.live_entries listed.server holder in
        agrees_found (StandsIn (own_dat volume files)) (records (own_dat volume files)) stand id found
        (subst HasRisingIds (agrees.sound.live_records.live_entries listed.server holder) (agrees.sound.index.sorted listed.server holder).rising)
        (subst (λ es. IsEntryOf es id found) same listed.entry)

    pub none_listed : IsListed volume row files id None → own_needle volume files id ≡ None
    none_listed listed = needle_by volume files id false kept ∙ found_agrees None listed

    module _ (e : Entry) (listed : IsListed volume row files id (Some e)) where
      -- the entry is that of a record in the data file
      pub record_there : (p : Placed) × StandsIn (own_dat volume files) p × (e ≡ entry_of p)
      record_there = let agree = found_agrees (Some e) listed in (agree.0, agree.2, agree.5)

      pub needle_there : (r : Record) → needle_at (bytes_from (own_dat volume files) e) ≡ Ok (r, length_of_record r) → IsNeedle id (Some r) (own_needle volume files id)
      needle_there r read =
          let agree = found_agrees (Some e) listed in
          let p : Placed = agree.0 in
          let same : p.1 ≡ r = same_record p.1 r _ _ _ (read_at (own_dat volume files) p e agree.2 agree.5) read in (
            agree.1,
            ap (λ (s : Record). s.id) (sym same) ∙ agree.3,
            ap (λ (s : Record). s.content) (sym same) ∙ agree.4,
            needle_by volume files id false kept ∙ agree.6 ∙ ap (λ (s : Record). Some (record { cookie = s.cookie; content = agree.1 })) same,
          )

      pub cookie_there : (cookie : ℕ) → cookie ≡ number_of 4 (bytes_from (own_dat volume files) e) → IsCookie (Some cookie) (own_needle volume files id)
      cookie_there cookie read =
          let agree = found_agrees (Some e) listed in
          let same : cookie ≡ agree.0.1.cookie = read ∙ (header_at (own_dat volume files) agree.0 e agree.2 agree.5).cookie in
          (agree.1, needle_by volume files id false kept ∙ agree.6 ∙ ap (λ n. Some (record { cookie = n; content = agree.1 })) (sym same))
