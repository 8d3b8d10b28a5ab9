-- The slot that a plan's end gives its volume. The last law is for `plan_code`, to come.
use Rattle.std.proofs.Common.{◌≡◌, ℕ, false, List, [], Some, refl, sym, ◌∙◌, ap, subst}
use Rattle.world_model.specs.declared.types.Command.{Command}
use Rattle.world_model.specs.declared.types.Command.TheVariants.{Encode, Rebuild, Balance, Decode}
use Rattle.world_model.specs.declared.types.Ratio.{Ratio}
use Rattle.world_model.specs.declared.types.Mode.TheVariants as mode
use Rattle.world_model.specs.Moves.{mode_after}
use Rattle.needle_record.specs.Records.{Placed, end_of, index_of}
use Rattle.shard_table.specs.Table.{Row}
use Rattle.stripe_layout.specs.declared.Info.{Info}
use Rattle.image_meaning.specs.Coded.{ratio_of, volume_info}
use Rattle.image_meaning.specs.Sound.{IsSoundCoded}
use Rattle.image_meaning.specs.Parts.{IsMadeOf}
use Rattle.image_meaning.specs.Laws.Plain.{alone_plain}
use Rattle.image_meaning.specs.Laws.Part.{made_info, made_coded, made_sound_coded}
use Rattle.image_meaning.specs.HeldParts.{held_made, held_all}
use Rattle.image_meaning.specs.Files.{VolumeFiles}
use Rattle.image_meaning.specs.Ends.{unmarked}
use Rattle.image_meaning.specs.Jobs.{Suits}
use Rattle.image_meaning.specs.Laws.CodedLoss.{ratio_is}
use Rattle.image_meaning.specs.Laws.Survivable.{not_both}
use Rattle.image_meaning.specs.Share.{Share, finals, temps}
use Rattle.image_meaning.specs.Shards.{EndsShards}
use Rattle.store_jobs.specs.Slots.{Slot, Plain, Coded, DatVolume, CodedVolume, HoldsPlain, HoldsCoded, FitsSlot, IsRowOf, mode_in}
use Rattle.plan_steps.specs.Told.{ToldPlan}
use Rattle.plan_steps.specs.Ending.{EndsPlain, EndsToldCoded, EndsBy}

-- the coded volume of which the plan tells
abbrev pub told_coded : ToldPlan → CodedVolume
told_coded plan = record { volume = plan.volume; info = plan.info; deleted = plan.deleted }

-- the plain volume of these records at its home
abbrev pub told_plain : ToldPlan → List Placed → DatVolume
told_plain plan ps = record { server = plan.home; volume = plan.volume; index = index_of ps; used = end_of ps }

-- An encode makes of a plain volume a coded one of its ratio, of which nothing is deleted; a rebuild and a balance leave the slot; and a
-- decode makes a plain volume, which isn't sealed.
abbrev pub MakesBy : Command → ToldPlan → List Placed → Slot → Slot → Type 0
MakesBy (Encode ratio) plan ps before after = (unmarked (mode_in before) ≡ mode.Plain) × (plan.info.geometry.ratio ≡ ratio) × (plan.deleted ≡ []) × (after ≡ Coded (told_coded plan))
MakesBy Rebuild plan ps before after = (before ≡ Coded (told_coded plan)) × (after ≡ before)
MakesBy Balance plan ps before after = (before ≡ Coded (told_coded plan)) × (after ≡ before)
MakesBy Decode plan ps before after = (before ≡ Coded (told_coded plan)) × (after ≡ Plain (told_plain plan ps) false)

-- of a volume with the slot `before` the plan makes one with the slot `after`
abbrev pub Makes : ToldPlan → List Placed → Slot → Slot → Type 0
Makes plan ps before after = MakesBy plan.command plan ps before after

-- ---- what is known of it

mode_by : (command : Command) (plan : ToldPlan) (ps : List Placed) (before after : Slot) → MakesBy command plan ps before after → mode_in after ≡ mode_after command (mode_in before)
mode_by (Encode ratio) plan ps before after makes = ap mode_in makes.3
mode_by Rebuild plan ps before after makes = ap mode_in makes.1
mode_by Balance plan ps before after makes = ap mode_in makes.1
mode_by Decode plan ps before after makes = ap mode_in makes.1

-- its mode is the one that the command's end gives the volume
pub mode_made : (plan : ToldPlan) (ps : List Placed) (before after : Slot) → Makes plan ps before after → mode_in after ≡ mode_after plan.command (mode_in before)
mode_made plan ps before after makes = mode_by plan.command plan ps before after makes

suits_by : (command : Command) (plan : ToldPlan) (ps : List Placed) (before after : Slot) → MakesBy command plan ps before after → Suits command (mode_in before)
suits_by (Encode ratio) plan ps before after makes = makes.0
suits_by Rebuild plan ps before after makes = ap mode_in makes.0
suits_by Balance plan ps before after makes = ap mode_in makes.0
suits_by Decode plan ps before after makes = ap mode_in makes.0

-- and the one before suits the command
pub suits_made : (plan : ToldPlan) (ps : List Placed) (before after : Slot) → Makes plan ps before after → Suits plan.command (mode_in before)
suits_made plan ps before after makes = suits_by plan.command plan ps before after makes

-- the rules' text is the one that the lowest holder has
pub info_of_rules : (files : VolumeFiles) (info : Info) (rules : IsSoundCoded files) → volume_info files ≡ Some info → rules.info ≡ info
info_of_rules files info rules has = some_is rules.info info (sym rules.texts.first ∙ has)
  where
    some_is : (a b : Info) → Some a ≡ Some b → a ≡ b
    some_is a b e = cc

module _ (command : Command) (plan : ToldPlan) (servers : ℕ) (row : Row) (start now : Share) (told : EndsToldCoded command plan servers row start now) where
  made : IsMadeOf told.parts (finals now)
  made = held_made told.parts (finals now) told.ends.holds

  has_info : volume_info (finals now) ≡ Some plan.info
  has_info = made_info told.parts (finals now) made told.ends.form.enough ∙ ap Some told.info

  pub told_holds : HoldsCoded (told_coded plan) plan.volume (finals now) (temps now)
  told_holds = record {
    number = refl;
    coded = made_coded told.parts (finals now) made told.ends.form;
    rules = made_sound_coded told.parts (finals now) made told.ends.form told.ends.sound;
    info = info_of_rules (finals now) plan.info (made_sound_coded told.parts (finals now) made told.ends.form told.ends.sound) has_info;
    deleted = λ server h. held_all told.parts (finals now) told.ends.holds server h ∙ told.deleted;
    tidy = told.ends.tidy;
    no_temps = told.ends.no_temps;
  }

  -- its ratio is that of the plan's text
  pub told_ratio_of : ratio_of (finals now) ≡ plan.info.geometry.ratio
  told_ratio_of = ratio_is (finals now) plan.info has_info

  told_fits : (after : Slot) → after ≡ Coded (told_coded plan) → FitsSlot (Some after) plan.volume now × IsRowOf (Some after) row now
  told_fits after is = subst (λ slot. FitsSlot (Some slot) plan.volume now × IsRowOf (Some slot) row now) (sym is) (told_holds, told.ends.places)

plain_holds : (plan : ToldPlan) (ps : List Placed) (row : Row) (now : Share) → EndsPlain plan.home ps row now → HoldsPlain (told_plain plan ps) plan.volume (finals now) (temps now)
plain_holds plan ps row now ends = record {
  dat = ends.dat;
  idx = ends.idx;
  ps = ps;
  number = refl;
  alone = ends.alone;
  exact = ends.exact;
  super = ends.super;
  live = refl;
  used = sym (ap end_of ends.exact.has) ∙ ends.exact.whole.to_end;
  no_temps = ends.no_temps;
}

fits_by : (command : Command) (plan : ToldPlan) (ps : List Placed) (servers : ℕ) (row : Row) (start now : Share) (before after : Slot) → MakesBy command plan ps before after
    → EndsBy command plan ps servers row start now → FitsSlot (Some after) plan.volume now × IsRowOf (Some after) row now
fits_by (Encode ratio) plan ps servers row start now before after makes ends = told_fits (Encode ratio) plan servers row start now ends after makes.3
fits_by Rebuild plan ps servers row start now before after makes ends = told_fits Rebuild plan servers row start now ends after (makes.1 ∙ makes.0)
fits_by Balance plan ps servers row start now before after makes ends = told_fits Balance plan servers row start now ends after (makes.1 ∙ makes.0)
fits_by Decode plan ps servers row start now before after makes ends =
    subst (λ slot. FitsSlot (Some slot) plan.volume now × IsRowOf (Some slot) row now) (sym makes.1) (plain_holds plan ps row now ends, ends.places)

-- At the plan's end the files fit the slot, and the table's row is that of them.
pub made_fits : (plan : ToldPlan) (ps : List Placed) (servers : ℕ) (row : Row) (start now : Share) (before after : Slot) → Makes plan ps before after
    → EndsBy plan.command plan ps servers row start now → FitsSlot (Some after) plan.volume now × IsRowOf (Some after) row now
made_fits plan ps servers row start now before after makes ends = fits_by plan.command plan ps servers row start now before after makes ends

-- ---- what the end makes of the shards

shards_by : (command : Command) (plan : ToldPlan) (ps : List Placed) (servers : ℕ) (row : Row) (start now : Share) → EndsBy command plan ps servers row start now → EndsShards command (finals start) (finals now) servers
shards_by (Encode ratio) plan ps servers row start now ends = ends.ends.shards
shards_by Rebuild plan ps servers row start now ends = ends.ends.shards
shards_by Balance plan ps servers row start now ends = ends.ends.shards
shards_by Decode plan ps servers row start now ends = λ coded. not_both (finals now) (alone_plain (finals now) (temps now) plan.home ends.dat ends.idx ends.alone) coded

pub ended_shards : (plan : ToldPlan) (ps : List Placed) (servers : ℕ) (row : Row) (start now : Share) → EndsBy plan.command plan ps servers row start now
    → EndsShards plan.command (finals start) (finals now) servers
ended_shards plan ps servers row start now ends = shards_by plan.command plan ps servers row start now ends

ratio_by : (command : Command) (ratio : Ratio) (plan : ToldPlan) (ps : List Placed) (servers : ℕ) (row : Row) (start now : Share) (before after : Slot) → command ≡ Encode ratio
    → MakesBy command plan ps before after → EndsBy command plan ps servers row start now → ratio_of (finals now) ≡ ratio
ratio_by (Encode own) ratio plan ps servers row start now before after is makes ends = told_ratio_of (Encode own) plan servers row start now ends ∙ makes.1 ∙ cc
ratio_by Rebuild ratio plan ps servers row start now before after is makes ends = absurd cc
ratio_by Balance ratio plan ps servers row start now before after is makes ends = absurd cc
ratio_by Decode ratio plan ps servers row start now before after is makes ends = absurd cc

-- An encode of a ratio leaves a volume of that ratio.
pub encoded_ratio : (ratio : Ratio) (plan : ToldPlan) (ps : List Placed) (servers : ℕ) (row : Row) (start now : Share) (before after : Slot) → plan.command ≡ Encode ratio
    → Makes plan ps before after → EndsBy plan.command plan ps servers row start now → ratio_of (finals now) ≡ ratio
encoded_ratio ratio plan ps servers row start now before after is makes ends = ratio_by plan.command ratio plan ps servers row start now before after is makes ends
