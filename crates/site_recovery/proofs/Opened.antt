-- Volumes of any form pass or fail the tests of their form. For the recovery of coded volumes, to come.
use Rattle.std.proofs.Common.{◌≡◌, inl, inr, ⊎_elim, ℕ, Bool, true, false, List, length, Option, Some, None, sym, ◌∙◌}
use Rattle.std.specs.Global.{Vec}
use Rattle.site_model.specs.declared.error.OpenFault.{OpenFault}
use Rattle.site_model.specs.declared.error.OpenFault.TheVariants as open_fault
use Rattle.world_model.specs.declared.types.Mode.TheVariants as mode
use Rattle.image_meaning.specs.Files.{VolumeFiles}
use Rattle.image_meaning.specs.CodedTests.{PassesCoded}
use Rattle.image_meaning.specs.Meaning.{mode_of, has_long_dat}
use Rattle.image_meaning.specs.Plain.{index_home}
use Rattle.image_meaning.specs.Sound.{IsPlain, IsCoded, IsLost, HasOneRatio}
use Rattle.image_meaning.specs.Laws.CodedTest.{fails_coded_broken}
use Rattle.coded_volume.specs.declared.checking.Checked.{Checked}
use Rattle.coded_volume.specs.declared.checking.ShardCopy.{ShardCopy}
use Rattle.coded_volume.specs.Checking.{AreCopies, AreStanding}
use Rattle.site_recovery.specs.Tests.{PassesTests}
use Rattle.site_recovery.specs.Homes.{IsBroken, FailsTests}
use Rattle.site_recovery.specs.CodedSettling.{HasShardForm, FailsShards}
use Rattle.site_recovery.specs.Opening.{PassesForm, FailsListed, HasRoomFor, IsTestedForm, IsWithin, with_shards, without_shards}
use Rattle.site_recovery.proofs.Shardless.{one_ratio, long_lost, short_absent}

-- ---- what passes

module _ (files : VolumeFiles) where
  pub plain_form : IsPlain files → PassesTests files → PassesForm files
  plain_form is passes = record { plain = λ p. passes; coded = λ c. absurd (no (sym is ∙ c)); lost = λ l. absurd (none (sym is ∙ l)) }
    where
      no : Some mode.Plain ≡ Some mode.Coded → ⊥
      no e = cc

      none : Some mode.Plain ≡ Some mode.Lost → ⊥
      none e = cc

  pub coded_form : IsCoded files → PassesCoded files → PassesForm files
  coded_form is passes = record { plain = λ p. absurd (no (sym is ∙ p)); coded = λ c. passes; lost = λ l. absurd (none (sym is ∙ l)) }
    where
      no : Some mode.Coded ≡ Some mode.Plain → ⊥
      no e = cc

      none : Some mode.Coded ≡ Some mode.Lost → ⊥
      none e = cc

  pub lost_form : IsLost files → HasOneRatio files → PassesForm files
  lost_form is one = record { plain = λ p. absurd (no (sym is ∙ p)); coded = λ c. absurd (none (sym is ∙ c)); lost = λ l. one }
    where
      no : Some mode.Lost ≡ Some mode.Plain → ⊥
      no e = cc

      none : Some mode.Lost ≡ Some mode.Coded → ⊥
      none e = cc

  pub absent_form : mode_of files ≡ None → PassesForm files
  absent_form is = record { plain = λ p. absurd (no (sym is ∙ p)); coded = λ c. absurd (none (sym is ∙ c)); lost = λ l. absurd (never (sym is ∙ l)) }
    where
      no : None ≡ Some mode.Plain → ⊥
      no e = cc

      none : None ≡ Some mode.Coded → ⊥
      none e = cc

      never : None ≡ Some mode.Lost → ⊥
      never e = cc

  -- a volume without shards
  pub shardless_found : (copies : List ShardCopy) → length copies ≡ 0 → AreStanding files copies → index_home files ≡ None → (long : Bool) → long ≡ has_long_dat files → IsTestedForm files (without_shards long)
  shardless_found copies empty stand none true is =
      let lost = long_lost files copies empty stand none is in
      record { passes = lost_form lost (one_ratio files copies empty stand); has = lost }
  shardless_found copies empty stand none false is =
      let absent = short_absent files copies empty stand none is in
      record { passes = absent_form absent; has = absent }

pub shardless_within : (servers : ℕ) (long : Bool) → IsWithin servers (without_shards long)
shardless_within servers true = tt
shardless_within servers false = tt

-- ---- a volume with shards

module _ (files : VolumeFiles) (copies : Vec ShardCopy) where
  pub shards_found : AreStanding files copies.items → (checked : Option Checked) → HasShardForm files checked → IsTestedForm files (with_shards copies checked)
  shards_found stand None lost = record { passes = lost_form files lost.0 lost.1; has = lost.0 }
  shards_found stand (Some checked) coded = record { passes = coded_form files coded.tested.coded coded.tested.passes; has = (stand, coded) }

pub shards_within : (copies : Vec ShardCopy) (servers : ℕ) → AreCopies servers copies.items → (checked : Option Checked) → HasRoomFor checked → IsWithin servers (with_shards copies checked)
shards_within copies servers are None room = tt
shards_within copies servers are (Some checked) room = (are, room)

-- ---- what fails

module _ (v : ℕ) (files : VolumeFiles) where
  pub plain_fails : (fault : OpenFault) → FailsTests v files fault → FailsListed v files fault
  plain_fails (open_fault.Unsound volume rule) fails = (fails.0, inl (fails.1, fails.2), fails.3)
  plain_fails (open_fault.Fault server) fails = tt
  plain_fails open_fault.Memory fails = tt

  pub shards_fail : (fault : OpenFault) → FailsShards v files fault → FailsListed v files fault
  shards_fail (open_fault.Unsound volume rule) fails = (fails.0, ⊎_elim (λ coded. inr (inl coded)) (λ lost. inr (inr lost)) fails.1, broken)
    where
      broken : IsBroken files rule
      broken keeps more = ⊎_elim
          (λ coded. fails_coded_broken files rule coded.1 keeps)
          (λ lost. lost.2 ((keeps.3 lost.1).lost lost.0))
          fails.1
  shards_fail (open_fault.Fault server) fails = tt
  shards_fail open_fault.Memory fails = tt
