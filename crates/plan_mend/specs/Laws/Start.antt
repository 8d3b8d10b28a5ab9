-- The plans of a rebuild and of a balance begin on the files of a coded volume.
use Rattle.std.proofs.Common.{◌≡◌, ℕ, ◌^◌, ◌<◌, ◌≤◌, false, List, [], refl, sym, ◌∙◌, ap}
use Rattle.std.specs.List.{AllByRecursion}
use Rattle.world_model.specs.declared.types.Command.{Command}
use Rattle.world_model.specs.declared.types.Command.TheVariants.{Encode, Rebuild, Balance, Decode}
use Rattle.stripe_layout.specs.declared.Info.{Info}
use Rattle.stripe_layout.specs.Laws.Info.{IsInRange}
use Rattle.shard_table.specs.Table.{Row, IsRow}
use Rattle.site_model.specs.Counts.{max_servers}
use Rattle.image_meaning.specs.Files.{VolumeFiles}
use Rattle.image_meaning.specs.Coded.{coded_with}
use Rattle.image_meaning.specs.Ends.{changes_form}
use Rattle.plan_steps.specs.declared.plan.Plan.{Plan}
use Rattle.plan_steps.specs.Planned.{is_encode, is_decode}
use Rattle.plan_steps.specs.Laws.Forms.{mend_forms}
use Rattle.plan_code.specs.Made.{IsCodedOf, StandEnough}
use Rattle.plan_code.specs.Started.{StandsCoded, Begins}
use Rattle.plan_code.specs.Laws.Coded.{has, coded_means, coded_begins}
use Rattle.plan_mend.specs.Made.{IsRebuildOf, IsBalanceOf}

module _ (servers v listed : ℕ) (text : Info) (ids : List ℕ) (row : Row) (plan : Plan) (start : VolumeFiles) (on : IsRow servers row) (few : servers ≤ max_servers) (stand : StandEnough text.geometry row)
    (range : IsInRange text) (fits : AllByRecursion (λ id. id < 2 ^ 64) ids) (stood : StandsCoded text ids listed row start) where
  mend_starts : (c : Command) → plan.command ≡ c → is_encode c ≡ false → is_decode c ≡ false → changes_form c ≡ false → IsCodedOf v text listed ids row plan → Begins plan start
  mend_starts c command no_encode no_decode keeps is =
      let other : is_encode plan.command ≡ false = ap is_encode command ∙ no_encode in
      let parts = has servers v listed text ids row plan start is other on few stand stood in
      record {
        w = coded_with parts.parts.dat parts.parts.info parts.parts.deleted;
        f = record { changes = false; kept = []; parts = parts.parts };
        means = coded_means servers v listed text ids row plan start is other on few stand stood;
        forms = mend_forms parts.parts parts.sound;
        begins = coded_begins servers v listed text ids row plan start is other on few stand stood (record { changes = false; kept = []; parts = parts.parts })
            (sym (ap changes_form command ∙ keeps)) refl range fits (λ decode. never decode) (λ decode. never decode);
      }
    where
      apart : (d : Command) → is_decode d ≡ false → d ≡ Decode → ⊥
      apart (Encode ratio) other e = cc
      apart Rebuild other e = cc
      apart Balance other e = cc
      apart Decode other e = cc

      never : {A : Type 0} → plan.command ≡ Decode → A
      never decode = absurd (apart c no_decode (sym command ∙ decode))

  -- A tidy and sound coded volume begins the rebuild that is made of it,
  pub rebuild_starts : IsRebuildOf servers v text listed ids row plan → Begins plan start
  rebuild_starts is = mend_starts Rebuild is.command refl refl refl is.coded

  -- and the balance.
  pub balance_starts : IsBalanceOf servers v text listed ids row plan → Begins plan start
  balance_starts is = mend_starts Balance is.command refl refl refl is.coded
