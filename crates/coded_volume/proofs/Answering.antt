-- What a read answers, by what was looked up.
use Rattle.std.proofs.Common.{◌≡◌, ℕ, Bool, true, false, List, length, Some, None, Result, Ok, Err, refl, sym, ◌∙◌, ap, subst}
use mathlib.Core.Bool.{true≢false}
use Rattle.site_model.specs.Disk.{Files}
use Rattle.site_model.specs.Counts.{Counts}
use Rattle.wire_num.specs.Numbers.{number_of}
use Rattle.volume_forms.specs.declared.Entry.{Entry}
use Rattle.needle_record.specs.declared.Record.{Record}
use Rattle.needle_record.specs.Reading.{needle_at}
use Rattle.needle_record.specs.Spelling.{length_of_record}
use Rattle.stripe_layout.specs.Stripes.{shards_in_all}
use Rattle.shard_table.specs.Table.{Row}
use Rattle.dat_volume.specs.declared.fault.GetFault.{GetFault}
use Rattle.dat_volume.specs.declared.fault.GetFault.TheVariants as get_fault
use Rattle.dat_volume.specs.Needles.{IsCookie, IsNeedle, IsNoDamage, HasDifference, bytes_from}
use Rattle.degraded_read.specs.Gathering.{standing_in}
use Rattle.degraded_read.specs.Reading.{HasPlaces}
use Rattle.coded_volume.specs.declared.volume.CodedVolume.{CodedVolume}
use Rattle.coded_volume.specs.Agrees.{IfAgrees, own_dat, own_needle}
use Rattle.coded_volume.specs.Searching.{HaveAtMost, TakesSearches}
use Rattle.coded_volume.specs.Reading.{IsLookedUp, IsReadFault, TakesLookUp, index_name, is_deleted}
use Rattle.coded_volume.proofs.Agreeing.{none_of_deleted, none_listed, record_there, needle_there, cookie_there}

-- ---- a search

-- no damage has two numbers that differ
pub no_difference : (fault : GetFault) → IsNoDamage fault → HasDifference fault
no_difference (get_fault.Fault device) h = tt
no_difference (get_fault.Damaged w a b) h = absurd h
no_difference get_fault.Memory h = tt

module _ (volume : CodedVolume) (row : Row) (files : Files) (id shards : ℕ) (name : List ℕ) (all : shards ≡ shards_in_all volume.info.geometry) (is_name : name ≡ index_name volume) where
  -- an id that isn't deleted
  pub takes_look_up : {old new : Counts} → is_deleted volume id ≡ false → ((n : ℕ) → HaveAtMost n files row shards name → TakesSearches (length (standing_in row shards)) n old new) → TakesLookUp volume row files id old new
  takes_look_up {old} {new} kept takes = record {
    deleted = λ is. absurd (true≢false (sym is ∙ kept));
    few = λ n most.
        subst (λ m. TakesSearches (length (standing_in row m)) n old new) all
        (takes n (subst (λ m. HaveAtMost n files row m name) (sym all) (subst (HaveAtMost n files row (shards_in_all volume.info.geometry)) (sym is_name) most)));
  }

-- ---- answers

-- a fault is told whatever the answer would have been
pub told_err : {A B : Type 0} (fault other : GetFault) → ◌≡◌ {A = Result A GetFault} (Err fault) (Err other) → ◌≡◌ {A = Result B GetFault} (Err fault) (Err other)
told_err fault other h = let same : fault ≡ other = cc in ap Err same

pub not_err : {A : Type 0} (x : A) (fault : GetFault) → ◌≡◌ {A = Result A GetFault} (Ok x) (Err fault) → ⊥
not_err x fault h = cc

module _ (tells : Type 0) (volume : CodedVolume) (row : Row) (files : Files) (id : ℕ) (places : tells → HasPlaces files volume.volume volume.info row) where
  -- there is no needle where none was looked up
  pub no_needle : IsLookedUp tells volume row files id None → IfAgrees tells volume files (own_needle volume files id ≡ None)
  no_needle looked told agrees = by_test (is_deleted volume id) refl
    where
      by_test : (b : Bool) → is_deleted volume id ≡ b → own_needle volume files id ≡ None
      by_test true is = none_of_deleted volume files id is
      by_test false is = none_listed volume files agrees row (places told) id is (looked told is)

  -- the files when the record is read are as they were
  module _ (e : Entry) (looked : IsLookedUp tells volume row files id (Some e)) (later : Files) (same : tells → later ≡ files) where
    pub no_damage : (old new : Counts) (fault : GetFault) → IsReadFault tells volume row later e old new fault → HasDifference fault × IfAgrees tells volume files (IsNoDamage fault)
    no_damage old new fault h = (
      h.differ,
      λ told agrees.
          let there = record_there volume files agrees row (places told) id looked.0 e (looked.1 told) in
          let here : IsReadFault tells volume row files e old new fault = subst (λ f. IsReadFault tells volume row f e old new fault) (same told) h in
          here.undamaged told agrees there.0 there.1 there.2,
    )

    pub is_needle : (r : Record) → IfAgrees tells volume later (needle_at (bytes_from (own_dat volume later) e) ≡ Ok (r, length_of_record r)) → IfAgrees tells volume files (IsNeedle id (Some r) (own_needle volume files id))
    is_needle r read told agrees =
        needle_there volume files agrees row (places told) id looked.0 e (looked.1 told) r
        (subst (λ f. IfAgrees tells volume f (needle_at (bytes_from (own_dat volume f) e) ≡ Ok (r, length_of_record r))) (same told) read told agrees)

    pub is_cookie : (cookie : ℕ) → IfAgrees tells volume later (cookie ≡ number_of 4 (bytes_from (own_dat volume later) e)) → IfAgrees tells volume files (IsCookie (Some cookie) (own_needle volume files id))
    is_cookie cookie read told agrees =
        cookie_there volume files agrees row (places told) id looked.0 e (looked.1 told) cookie
        (subst (λ f. IfAgrees tells volume f (cookie ≡ number_of 4 (bytes_from (own_dat volume f) e))) (same told) read told agrees)
