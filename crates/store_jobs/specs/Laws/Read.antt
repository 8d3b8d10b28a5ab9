-- What a get finds of a volume that a job has: what it held as the job began. For the store with jobs, to come.
use Rattle.std.proofs.Common.{◌≡◌, ℕ, Bool, true, false, Some, refl, sym, ◌∙◌, ap, subst}
use Rattle.std.specs.Prelude.{IsTrue, List, Option, MatchBool}
use Rattle.world_model.specs.World.{Volume}
use Rattle.world_model.specs.declared.types.Command.{Command}
use Rattle.world_model.specs.declared.types.Command.TheVariants.{Encode, Rebuild, Balance, Decode}
use Rattle.file_names.specs.declared.Kind.TheVariants.{Dat}
use Rattle.volume_forms.specs.Forms.{has_super}
use Rattle.needle_record.specs.Records.{Placed, records, fold_records, index_of, end_of, IsWholeDat}
use Rattle.shard_table.specs.Table.{Row}
use Rattle.image_meaning.specs.Files.{VolumeFiles}
use Rattle.image_meaning.specs.Coded.{volume_info, dat_of, coded_with}
use Rattle.image_meaning.specs.Meaning.{volume_of}
use Rattle.image_meaning.specs.Sound.{IsSoundCoded}
use Rattle.image_meaning.specs.Outlasts.{HasDeleted, coded_is}
use Rattle.image_meaning.specs.Laws.Plain.{exact_kept_records, alone_means}
use Rattle.image_meaning.specs.Share.{Share, finals, temps}
use Rattle.store_jobs.specs.Slots.{Slot, Plain, Coded, DatVolume, CodedVolume, HoldsPlain, HoldsCoded, FitsSlot}
use Rattle.plan_steps.specs.Told.{ToldPlan}
use Rattle.plan_steps.specs.Reading.{has_enough, LeavesEnough, ReadsCoded, ReadsJoined, IsRead}
use Rattle.plan_steps.specs.AnyPlans.{Plans}
use Rattle.store_jobs.specs.Making.{told_coded, told_plain, MakesBy}
use Rattle.store_jobs.specs.Store.{Work, FitsVolume}
use Rattle.store_jobs.specs.Laws.Rest.{began}

-- The data file at the volume's server is records to its end, of which the volume has the live entries and the length, and
-- which have these needles.
pub record ReadsPlain (d : DatVolume) (vol : Volume) (files : VolumeFiles) : Type 0 where
  pub dat : List ℕ
  pub stands : files d.server Dat ≡ Some dat
  pub super : IsTrue (has_super dat)
  pub whole : IsWholeDat dat
  pub live : d.index ≡ index_of (records dat)
  pub used : d.used ≡ end_of (records dat)
  pub needles : (fold_records (records dat)).needles ≡ vol.needles

-- The shards and the files beside them are those of the coded volume in memory, which has these needles.
pub record ReadsShards (c : CodedVolume) (vol : Volume) (files : VolumeFiles) : Type 0 where
  pub rules : IsSoundCoded files
  pub info : volume_info files ≡ Some c.info
  pub deleted : HasDeleted files c.deleted
  pub needles : (coded_with (dat_of files) c.info c.deleted).needles ≡ vol.needles

module _ (vol : Volume) (base now : Share) (means : volume_of (finals base) ≡ Some vol) where
  some_is : (a b : Volume) → Some a ≡ Some b → a ≡ b
  some_is a b e = cc

  -- the data file of a plain volume, where it stands as it stood
  plain_read : (d : DatVolume) (v : ℕ) → HoldsPlain d v (finals base) (temps base) → ((server : ℕ) → finals now server Dat ≡ finals base server Dat) → ReadsPlain d vol (finals now)
  plain_read d v holds same = record {
    dat = holds.dat;
    stands = same d.server ∙ holds.alone.has_dat;
    super = holds.super;
    whole = holds.exact.whole;
    live = holds.live ∙ sym (ap index_of holds.exact.has);
    used = holds.used ∙ sym holds.exact.whole.to_end;
    needles = ap (λ ps. (fold_records ps).needles) holds.exact.has ∙ ap (λ (x : Volume). x.needles) is_vol;
  }
    where
      is_vol : fold_records holds.ps ≡ vol
      is_vol = some_is (fold_records holds.ps) vol (ap (λ ps. Some (fold_records ps)) (sym (exact_kept_records holds.dat holds.idx holds.ps holds.exact))
          ∙ sym (alone_means (finals base) (temps base) d.server holds.dat holds.idx holds.alone) ∙ means)

  -- the shards of a coded one, which give the same data file
  shards_read : (plan : ToldPlan) (c : CodedVolume) (v : ℕ) → c ≡ told_coded plan → HoldsCoded c v (finals base) (temps base) → ReadsCoded plan (finals base) (finals now) → ReadsShards c vol (finals now)
  shards_read plan c v told holds reads = record {
    rules = reads.rules;
    info = reads.info ∙ ap (λ (x : CodedVolume). Some x.info) (sym told);
    deleted = λ server h. reads.deleted server h ∙ ap (λ (x : CodedVolume). x.deleted) (sym told);
    needles = ap (λ dat. (coded_with dat c.info c.deleted).needles) reads.same_dat ∙ ap (λ (x : Volume). x.needles) is_vol;
  }
    where
      is_vol : coded_with (dat_of (finals base)) c.info c.deleted ≡ vol
      is_vol = some_is (coded_with (dat_of (finals base)) c.info c.deleted) vol
          (sym (coded_is (finals base) holds.coded c.info c.deleted (holds.rules.texts.first ∙ ap Some holds.info) holds.deleted) ∙ means)

  -- the data file that a decode has made
  joined_read : (plan : ToldPlan) (ps : List Placed) → ReadsJoined plan.home ps (finals base) (finals now) → ReadsPlain (told_plain plan ps) vol (finals now)
  joined_read plan ps reads = record {
    dat = reads.dat;
    stands = reads.stands;
    super = reads.super;
    whole = reads.whole;
    live = sym (ap index_of reads.has);
    used = sym (ap end_of reads.has);
    needles = ap (λ qs. (fold_records qs).needles) reads.has ∙ reads.needles vol means;
  }

  -- what a coded slot is read by: the shards as long as they suffice, and then the data file that is made
  abbrev pub ReadsEither : CodedVolume → Row → Slot → Type 0
  ReadsEither c row after = MatchBool (has_enough c.info row) (ReadsShards c vol (finals now)) ((d : DatVolume) × (after ≡ Plain d false) × ReadsPlain d vol (finals now))

  module _ (plan : ToldPlan) (ps : List Placed) (row : Row) (v : ℕ) (after : Slot) where
    plain_by : (command : Command) (d : DatVolume) (sealed : Bool) → MakesBy command plan ps (Plain d sealed) after → HoldsPlain d v (finals base) (temps base)
        → IsRead command plan ps row (finals base) (finals now) → ReadsPlain d vol (finals now)
    plain_by (Encode ratio) d sealed makes holds reads = plain_read d v holds reads
    plain_by Rebuild d sealed makes holds reads = absurd cc
    plain_by Balance d sealed makes holds reads = absurd cc
    plain_by Decode d sealed makes holds reads = absurd cc

    is_told : (c : CodedVolume) → Coded c ≡ Coded (told_coded plan) → c ≡ told_coded plan
    is_told c e = cc

    by_shards : (c : CodedVolume) → c ≡ told_coded plan → has_enough plan.info row ≡ true → HoldsCoded c v (finals base) (temps base) → ReadsCoded plan (finals base) (finals now) → ReadsEither c row after
    by_shards c told enough holds reads = subst (λ b. MatchBool b (ReadsShards c vol (finals now)) ((d : DatVolume) × (after ≡ Plain d false) × ReadsPlain d vol (finals now)))
        (sym (ap (λ (x : CodedVolume). has_enough x.info row) told ∙ enough)) (shards_read plan c v told holds reads)

    coded_by : (command : Command) (c : CodedVolume) → MakesBy command plan ps (Coded c) after → HoldsCoded c v (finals base) (temps base) → LeavesEnough command plan.info row
        → IsRead command plan ps row (finals base) (finals now) → ReadsEither c row after
    coded_by (Encode ratio) c makes holds enough reads = absurd cc
    coded_by Rebuild c makes holds enough reads = by_shards c (is_told c makes.0) enough holds reads
    coded_by Balance c makes holds enough reads = by_shards c (is_told c makes.0) enough holds reads
    coded_by Decode c makes holds enough reads = by_enough (has_enough plan.info row) refl reads
      where
        told : c ≡ told_coded plan
        told = is_told c makes.0

        by_enough : (b : Bool) → has_enough plan.info row ≡ b → MatchBool b (ReadsCoded plan (finals base) (finals now)) (ReadsJoined plan.home ps (finals base) (finals now)) → ReadsEither c row after
        by_enough true e reading = by_shards c told e holds reading
        by_enough false e reading = subst (λ b. MatchBool b (ReadsShards c vol (finals now)) ((d : DatVolume) × (after ≡ Plain d false) × ReadsPlain d vol (finals now)))
            (sym (ap (λ (x : CodedVolume). has_enough x.info row) told ∙ e)) (told_plain plan ps, makes.1, joined_read plan ps reading)

module _ (plans : Plans) (servers : ℕ) (work : Work plans) (slot : Option Slot) (v : ℕ) (row : Row) (base now : Share) (fits : FitsVolume plans servers (Some work) slot v row base now) where
  -- what the volume held as the job began, which is what its world has
  abbrev pub held : Volume
  held = (began plans servers work slot v row base now fits).vol

  has_slot : (s : Slot) → slot ≡ Some s → fits.1.before ≡ s
  has_slot s is = some_is (sym fits.1.had ∙ is)
    where
      some_is : Some fits.1.before ≡ Some s → fits.1.before ≡ s
      some_is e = cc

  abbrev its_plan : ToldPlan
  its_plan = plans.plan work.running

  abbrev its_records : List Placed
  its_records = plans.made_records (plans.plan work.running) base

  its_reads : IsRead (plans.plan work.running).command (plans.plan work.running) (plans.made_records (plans.plan work.running) base) row (finals base) (finals now)
  its_reads = plans.reads work.running row base now fits.1.follows fits.1.going

  makes_of : (s : Slot) → slot ≡ Some s → MakesBy (plans.plan work.running).command (plans.plan work.running) (plans.made_records (plans.plan work.running) base) s work.after
  makes_of s is = subst (λ b. MakesBy (plans.plan work.running).command (plans.plan work.running) (plans.made_records (plans.plan work.running) base) b work.after) (has_slot s is) fits.1.makes

  -- While an encode runs, the plain volume is read as it was.
  pub plain_is_read : (d : DatVolume) (sealed : Bool) → slot ≡ Some (Plain d sealed) → ReadsPlain d held (finals now)
  plain_is_read d sealed is = plain_by held base now (began plans servers work slot v row base now fits).held.means its_plan its_records row v work.after
      (plans.plan work.running).command d sealed (makes_of (Plain d sealed) is) (subst (λ s. FitsSlot s v base) is fits.0) its_reads

  -- While another command runs, the coded volume is read by its shards, and at a decode's end by the data file that is made.
  pub coded_is_read : (c : CodedVolume) → slot ≡ Some (Coded c) → ReadsEither held base now (began plans servers work slot v row base now fits).held.means c row work.after
  coded_is_read c is = coded_by held base now (began plans servers work slot v row base now fits).held.means its_plan its_records row v work.after
      (plans.plan work.running).command c (makes_of (Coded c) is) (subst (λ s. FitsSlot s v base) is fits.0)
      (plans.enough work.running servers row (plans.on_its_way work.running row base now fits.1.follows) fits.1.planned) its_reads
