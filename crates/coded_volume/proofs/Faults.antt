-- What the steps of a read tell, and in how many calls.
use Rattle.std.proofs.Common.{◌≡◌, ◌⊎◌, inl, inr, ℕ, ◌+◌, ◌*◌, ◌<◌, ◌≤◌, List, ◌++◌, length, take, drop, Option, Some, None, true, false, Ok, Err, refl, sym, ◌∙◌, ap, subst, arith}
use Rattle.std.proofs.lemmas.List.{take-append-le}
use Rattle.std.proofs.Math.Seq.{take-length}
use mathlib.Core.Bool.{true≢false}
use Rattle.site_model.specs.Disk.{Files}
use Rattle.site_model.specs.Counts.{Counts, IsLater, TakesCalls}
use Rattle.site_model.specs.Laws.Count.{takes_on, takes_within}
use Rattle.world_model.specs.declared.types.What.TheVariants as what
use Rattle.volume_forms.specs.declared.Entry.{Entry}
use Rattle.volume_forms.specs.Kept.{entry_end}
use Rattle.needle_record.specs.declared.Record.{Record}
use Rattle.needle_record.specs.declared.NeedleFault.{NeedleFault}
use Rattle.needle_record.specs.declared.NeedleFault.TheVariants as needle_fault
use Rattle.needle_record.specs.Given.{Gives}
use Rattle.needle_record.specs.Reading.{needle_at, HasHeader}
use Rattle.stripe_layout.specs.Stripes.{shards_in_all}
use Rattle.shard_table.specs.Table.{Row}
use Rattle.dat_volume.specs.declared.fault.GetFault.{GetFault}
use Rattle.dat_volume.specs.declared.fault.GetFault.TheVariants as get_fault
use Rattle.dat_volume.specs.Needles.{Damage, IsNoDamage, HasDifference, bytes_from, reading_damage}
use Rattle.dat_volume.specs.Reading.{Tells, front_damage}
use Rattle.dat_volume.proofs.Heads.{own_bytes}
use Rattle.dat_volume.proofs.Live.{header_right}
use Rattle.degraded_read.specs.Ranges.{GivesRange}
use Rattle.degraded_read.specs.Reading.{shards_standing}
use Rattle.coded_volume.specs.declared.volume.CodedVolume.{CodedVolume}
use Rattle.coded_volume.specs.Agrees.{IfAgrees, own_dat}
use Rattle.coded_volume.specs.Reading.{ArePartsOf, IsFront, IsListed, IsReadFault, TakesFewCalls, TakesFront, TakesLookUp, TellsFew, is_deleted, length_by}
use Rattle.coded_volume.proofs.Agreeing.{dat_long, end_within, front_header, range_there, read_at}
use Rattle.coded_volume.proofs.Searches.{reliable_since}

-- ---- no damage

-- where there is none, none is told
none_told : (fault : GetFault) → Tells None fault → IsNoDamage fault
none_told (get_fault.Fault device) h = absurd h
none_told (get_fault.Damaged w a b) h = absurd cc
none_told get_fault.Memory h = tt

-- a device's fault isn't told of a header or a record that was read
few_of_tells : (volume : CodedVolume) (row : Row) (old new : Counts) (d : Option Damage) (fault : GetFault) → Tells d fault → TellsFew volume row old new fault
few_of_tells volume row old new d (get_fault.Fault device) h = absurd h
few_of_tells volume row old new d (get_fault.Damaged w a b) h = tt
few_of_tells volume row old new d get_fault.Memory h = tt

module _ (tells : Type 0) (volume : CodedVolume) (row : Row) (files : Files) (e : Entry) (old new : Counts) (fault : GetFault) where
  -- a record that ends behind the data file
  pub past_end : (end : ℕ) → end ≡ entry_end e → fault ≡ get_fault.Damaged what.End end volume.info.dat_size → volume.info.dat_size < end → IsReadFault tells volume row files e old new fault
  past_end end ends is past = subst (IsReadFault tells volume row files e old new) (sym is) (record {
    differ = λ same. omega (arith, same, past);
    undamaged = λ told agrees p stands is_entry.
        omega (arith, past, ends, end_within (own_dat volume files) p e stands is_entry, dat_long volume files agrees);
    few = tt;
  })

  -- another header
  pub other_header : (bytes : List ℕ) (count : ℕ) → 16 ≤ count → IfAgrees tells volume files (bytes ≡ take count (bytes_from (own_dat volume files) e)) → Tells (front_damage bytes e) fault → HasDifference fault
      → IsReadFault tells volume row files e old new fault
  other_header bytes count wide same told_of differ = record {
    differ = differ;
    undamaged = λ told agrees p stands is.
        none_told fault (subst (λ d. Tells d fault)
        (ap (front_damage bytes) is ∙ header_right p bytes (subst (HasHeader p.1) (sym (same told agrees)) (front_header (own_dat volume files) p e stands is count wide))) told_of);
    few = few_of_tells volume row old new _ fault told_of;
  }

  -- a record that isn't read from its own bytes
  pub other_record : (bytes : List ℕ) (why : NeedleFault) → IsFront tells volume files e (length_by e) bytes → Gives (Err why) (needle_at bytes) → Tells (reading_damage (Err why)) fault → HasDifference fault
      → IsReadFault tells volume row files e old new fault
  other_record bytes why front given told_of differ = record {
    differ = differ;
    undamaged = λ told agrees p stands is.
        by_why why given told_of (sym (own_bytes (own_dat volume files) bytes e front.header front.long (front.same told agrees)) ∙ read_at (own_dat volume files) p e stands is);
    few = few_of_tells volume row old new _ fault told_of;
  }
    where
      not_ok : {x : Record × ℕ} {w : NeedleFault} → needle_at bytes ≡ Err w → needle_at bytes ≡ Ok x → ⊥
      not_ok p q = cc

      by_why : (why : NeedleFault) → Gives (Err why) (needle_at bytes) → Tells (reading_damage (Err why)) fault → {x : Record × ℕ} → needle_at bytes ≡ Ok x → IsNoDamage fault
      by_why needle_fault.Short given h read = absurd (not_ok given read)
      by_why (needle_fault.SizeMismatch size taken) given h read = absurd (not_ok given read)
      by_why (needle_fault.Checksum stored computed) given h read = absurd (not_ok given read)
      by_why (needle_fault.EmptyBody size) given h read = absurd (not_ok given read)
      by_why (needle_fault.TooLarge long) given h read = absurd (not_ok given read)
      by_why needle_fault.Memory given h read = none_told fault h

-- ---- what was read

-- a vector written as a whole has what was written
pub taken_back : (len : ℕ) (out items : List ℕ) → length out ≡ length items → len ≡ length items → take len (out ++ drop (length out) items) ≡ out
taken_back len out items same all =
    let whole : len ≡ length out = all ∙ sym same in
    take-append-le len out (drop (length out) items) (omega arith) ∙ ap (λ n. take n out) whole ∙ take-length out

pub read_same : (tells : Type 0) (volume : CodedVolume) (row : Row) (calm : Type 0) (files : Files) (e : Entry) (count at : ℕ) (bytes out : List ℕ) → at ≡ 8 * e.offset → bytes ≡ out → length out ≡ count
    → (tells → GivesRange files volume.volume volume.info row calm at out) → IfAgrees tells volume files (bytes ≡ take count (bytes_from (own_dat volume files) e))
read_same tells volume row calm files e count at bytes out place same long given told agrees =
    same ∙ range_there volume files agrees row calm at out (given told)
    ∙ ap (λ n. take n (drop at (own_dat volume files))) long ∙ ap (λ k. take count (drop k (own_dat volume files))) place

-- a range that was read is the record's front
pub front_is : (tells : Type 0) (volume : CodedVolume) (row : Row) (calm : Type 0) (files : Files) (e : Entry) (count at : ℕ) (bytes out : List ℕ) → at ≡ 8 * e.offset → bytes ≡ out → length out ≡ count
    → front_damage bytes e ≡ None → (tells → GivesRange files volume.volume volume.info row calm at out) → IsFront tells volume files e count bytes
front_is tells volume row calm files e count at bytes out place same long header given = record {
  long = ap length same ∙ long;
  header = header;
  same = read_same tells volume row calm files e count at bytes out place same long given;
}

-- few are reliable since an earlier count too
pub few_since : (volume : CodedVolume) (row : Row) (old mid new : Counts) (fault : GetFault) → IsLater old mid → TellsFew volume row mid new fault → TellsFew volume row old new fault
few_since volume row old mid new (get_fault.Fault device) later few = omega (arith, few, reliable_since row (shards_in_all volume.info.geometry) old mid new later)
few_since volume row old mid new (get_fault.Damaged w a b) later few = tt
few_since volume row old mid new get_fault.Memory later few = tt

-- ---- calls

module _ (volume : CodedVolume) (row : Row) where
  module _ (files : Files) (id : ℕ) (count : Entry → ℕ) {old mid : Counts} (looked : TakesLookUp volume row files id old mid) where
    -- a search alone
    pub takes_search : TakesFewCalls volume row files id count old mid
    takes_search = record {
      deleted = looked.deleted;
      few = λ n most.
          let did = looked.few n most in
          record { reads = did.reads; few = did.few; parts = 0; range = inl refl; takes = takes_within (alone (shards_standing volume.info row) did.reads) (omega arith) did.takes };
    }
      where
        alone : (s r : ℕ) → s * (r + 1) ≤ (0 + (r + 1)) * s
        alone s r = omega arith

    -- and a read of what was found
    pub takes_both : (e : Entry) {new : Counts} → is_deleted volume id ≡ false → IsListed volume row files id (Some e) → TakesFront volume row e (count e) mid new → TakesFewCalls volume row files id count old new
    takes_both e kept listed front = record {
      deleted = λ is. absurd (true≢false (sym is ∙ kept));
      few = λ n most.
          let did = looked.few n most in
          let first : TakesCalls (shards_standing volume.info row * (did.reads + 1)) 65536 old mid = takes_within (omega arith) (omega arith) did.takes in
          record {
            reads = did.reads;
            few = did.few;
            parts = front.parts;
            range = by_range front.range;
            takes = takes_within (both (shards_standing volume.info row) did.reads front.parts) (omega arith) (takes_on first front.takes);
          };
    }
      where
        both : (s r p : ℕ) → s * (r + 1) + p * s ≤ (p + (r + 1)) * s
        both s r p = omega arith

        by_range : (front.parts ≡ 0) ⊎ ArePartsOf volume (8 * e.offset) (count e) front.parts
            → (front.parts ≡ 0) ⊎ ((f : Entry) × IsListed volume row files id (Some f) × ArePartsOf volume (8 * f.offset) (count f) front.parts)
        by_range (inl none) = inl none
        by_range (inr parts) = inr (e, listed, parts)
