-- The run that settles a plain volume whose files are listed, step by step.
use Rattle.std.proofs.Common.{◌≡◌, inl, inr, ⊎_elim, ℕ, ◌<◌, ◌≤◌, length, true, false, List, Some, None, is_some, sym, ◌∙◌, ap}
use Rattle.std.specs.Prelude.{IsSome, Contains}
use Rattle.std.specs.List.{All}
use mathlib.Core.Bool.{true≢false}
use Rattle.site_model.specs.Disk.{Place, Disk, IsSettled}
use Rattle.site_model.specs.Disk as disk
use Rattle.file_names.specs.declared.Kind.{Kind}
use Rattle.file_names.specs.declared.Kind.TheVariants.{Dat, Idx, Cpd, Cpx, Shard, Ecx, Ecj, Vif}
use Rattle.file_names.specs.Names.{IsKind, IsName, place_of, IsCodedKind}
use Rattle.image_meaning.specs.Files.{contents, files_of, stands}
use Rattle.image_meaning.specs.Plain.{index_home}
use Rattle.image_meaning.specs.Meaning.{max_volumes}
use Rattle.image_meaning.specs.Laws.Vacuum.{thinned_by}
use Rattle.image_meaning.specs.Laws.PlainLoss.{home_has}
use Rattle.dat_volume.specs.Opening.{Trims, AreTrimmed}
use Rattle.dat_volume.specs.Places.{dat_in, idx_in}
use Rattle.site_recovery.specs.declared.forms.Listed.{Listed}
use Rattle.site_recovery.specs.declared.forms.Goes.TheVariants as goes
use Rattle.site_recovery.specs.Homes.{IsTestedPlain}
use Rattle.site_recovery.specs.Steps.{KeepsMeaning}
use Rattle.site_recovery.specs.Laws.Step.{keeps_on, keeps_plain, keeps_cut, reduced_thinned}
use Rattle.site_recovery.specs.Changes.{IsOf, TakesAway, Settles, KeepsViews, KeepsOthers, IsLeftAtHome}
use Rattle.site_recovery.specs.CodedSettling.{IsVolumeFile}
use Rattle.site_recovery.specs.Removing.{IsGoingAmong, AreGone, HasFilesOf}
use Rattle.site_recovery.specs.PlainSettling.{IsKeptAt, AreOthersListed, IsSettledPlain}
use Rattle.site_recovery.proofs.Places.{same_place, plain_kind, coded_kind, coded_apart}
use Rattle.site_recovery.proofs.Gone.{stays_gone}
use Rattle.site_recovery.proofs.Taking.{lacks_settled, lacks_standing, settles_on, settles_more}
use Rattle.site_recovery.proofs.Renaming.{named_tested}
use Rattle.site_recovery.proofs.Settled.{two_of_volume, dat_within, idx_within, trim_settles, trim_settled, trim_unmade, trim_home, dat_standing, idx_standing, plain_settles, plain_mode, left_plain}
use Rattle.site_recovery.proofs.PlainLeft.{others_first, others_named, left_home, left_keeps, plain_kept, coded_keeps, coded_settles, coded_none}

-- files of the plain form are files of the volume
pub volume_files : (v : ℕ) (k : Place) → IsOf v false k → IsVolumeFile v k
volume_files v k (server, kind, is, e) = (server, kind, false, plain_kind kind is, e)

no_kept : (home s : ℕ) (kind : Kind) → IsCodedKind kind → IsKeptAt home s kind → ⊥
no_kept home s Dat is kept = is
no_kept home s Idx is kept = is
no_kept home s Cpd is kept = is
no_kept home s Cpx is kept = is
no_kept home s (Shard i) is kept = ⊎_elim (λ e. cc) (λ e. cc) kept.1
no_kept home s Ecx is kept = ⊎_elim (λ e. cc) (λ e. cc) kept.1
no_kept home s Ecj is kept = ⊎_elim (λ e. cc) (λ e. cc) kept.1
no_kept home s Vif is kept = ⊎_elim (λ e. cc) (λ e. cc) kept.1

module _ (v : ℕ) (h : v < max_volumes) (home : ℕ) (lengths : ℕ × ℕ) (start : Disk) (tested : IsTestedPlain (files_of (contents start.files) v) home lengths) (named : Disk) (names : Settles (IsOf v false) start named)
    (keeps : KeepsViews v start.files named.files) (unmade : stands (files_of (contents named.files) v) home Cpx ≡ false) where
  -- ---- named

  named_is : IsTestedPlain (files_of (contents named.files) v) home lengths
  named_is = named_tested v home lengths start.files named.files keeps tested

  pub dat_fits : lengths.0 ≤ length (dat_in named.files home v)
  dat_fits = dat_within named.files v home lengths named_is unmade

  pub idx_fits : lengths.1 ≤ length (idx_in named.files home v)
  idx_fits = idx_within named.files v home lengths named_is unmade

  keeps_named : KeepsMeaning (contents start.files) (contents named.files)
  keeps_named =
      let has = home_has (files_of (contents start.files) v) home tested.at in
      keeps_plain (contents start.files) (contents named.files) v home h tested.at (λ k none. ap disk.standing (names.touches.others k (λ of. none of.0 of.1 of.3)))
      (reduced_thinned (files_of (contents start.files) v) (files_of (contents named.files) v) home
      (thinned_by (files_of (contents start.files) v) (files_of (contents named.files) v) (λ s. inl (keeps.views s))) (has.0, ap is_some (keeps.views home).index ∙ has.1))

  module _ (trimmed : Disk) (trims : Trims home v lengths.0 lengths.1 named trimmed) where
    -- ---- cut

    pub run_trimmed : Settles (IsVolumeFile v) start trimmed
    run_trimmed = settles_more (volume_files v) (settles_on keeps.settled names (trim_settles v h home lengths named trimmed named_is unmade trims))

    module _ (cut : AreTrimmed home v lengths.0 lengths.1 named.files trimmed.files) where
      pub home_trimmed : index_home (files_of (contents trimmed.files) v) ≡ Some home
      home_trimmed = trim_home v h home lengths named.files trimmed.files trims.touches.others cut named_is unmade

      pub others_trimmed : (its : List Listed) → HasFilesOf start.files v its → KeepsOthers v home start.files named.files → AreOthersListed v home trimmed.files its
      others_trimmed its all kept =
          others_named v h home its named.files trimmed.files (λ k dat idx. inl (trims.touches.others k (λ is. ⊎_elim dat idx is)))
          (others_named v h home its start.files named.files kept (others_first v h home its start.files all))

      trimmed_unmade : stands (files_of (contents trimmed.files) v) home Cpx ≡ false
      trimmed_unmade = trim_unmade v h home lengths named.files trimmed.files trims.touches.others cut unmade

      keeps_trimmed : KeepsMeaning (contents named.files) (contents trimmed.files)
      keeps_trimmed = keeps_cut (contents named.files) (contents trimmed.files) v home lengths h named_is.at unmade named_is.keeps
          (λ k dat idx. ap disk.standing (trims.touches.others k (λ is. ⊎_elim dat idx is)))
          (inr (dat_standing v h home lengths named.files trimmed.files trims.touches.others cut)) (inr (idx_standing v h home lengths named.files trimmed.files trims.touches.others cut))

      module _ (cleared : Disk) (clears : Settles (IsOf v false) trimmed cleared) where
        -- ---- without the others

        pub run_cleared : Settles (IsVolumeFile v) start cleared
        run_cleared = settles_more (volume_files v) (plain_settles v h home lengths start named trimmed cleared keeps names named_is unmade trims cut clears)

        module _ (left : IsLeftAtHome v home trimmed.files cleared.files) (again : IsSettled trimmed.files → IsSettled cleared.files) (its : List Listed) (with_names : All (λ (l : Listed). IsName l.file) its)
            (of : All (λ (l : Listed). l.file.volume ≡ v) its) (end : Disk) (takes : TakesAway (IsGoingAmong goes.Coded its) cleared end) where
          -- ---- without files of the coded form

          home_cleared : index_home (files_of (contents cleared.files) v) ≡ Some home
          home_cleared = left_home v home trimmed.files cleared.files home_trimmed trimmed_unmade left

          cleared_settled : IsSettled start.files → IsSettled cleared.files
          cleared_settled settled = again (trim_settled v h home lengths named.files trimmed.files trims.touches.others cut (keeps.settled settled))

          pub run_end : Settles (IsVolumeFile v) start end
          run_end = settles_on cleared_settled run_cleared (coded_settles v h its with_names of home home_cleared takes)

          left_end : IsLeftAtHome v home trimmed.files end.files
          left_end = record {
            dat = plain_kept v h its with_names of cleared.files end.files takes.files home Dat tt ∙ left.dat;
            idx = plain_kept v h its with_names of cleared.files end.files takes.files home Idx tt ∙ left.idx;
            alone = λ server kind is some. left.alone server kind is (ap is_some (sym (plain_kept v h its with_names of cleared.files end.files takes.files server kind is)) ∙ some);
          }

          keeps_end : KeepsMeaning (contents start.files) (contents end.files)
          keeps_end =
              keeps_on (contents start.files) (contents named.files) (contents end.files) keeps_named
              (keeps_on (contents named.files) (contents trimmed.files) (contents end.files) keeps_trimmed
              (keeps_on (contents trimmed.files) (contents cleared.files) (contents end.files)
              (left_keeps v home trimmed.files cleared.files home_trimmed trimmed_unmade left h clears.touches.others)
              (coded_keeps v h its with_names of home (contents cleared.files) (contents end.files) home_cleared (lacks_standing takes.files))))

          -- a temporary file is none of those that change before
          temp_other : (s : ℕ) (kind : Kind) → IsKind kind → IsOf v false (place_of v s kind true) → ⊥
          temp_other s kind is (t, other, plain, e) = let same = same_place v v s t kind other true false h h is (plain_kind other plain) e in true≢false same.temps

          no_temp : (s : ℕ) (kind : Kind) → IsKind kind → start.files (place_of v s kind true) ≡ None → end.files (place_of v s kind true) ≡ None
          no_temp s kind is none =
              let p = place_of v s kind true in
              stays_gone p takes.files
              (clears.touches.others p (temp_other s kind is) ∙ trims.touches.others p (λ two. temp_other s kind is (two_of_volume v home p two)) ∙ names.touches.others p (temp_other s kind is) ∙ none)

          module _ (all : AreOthersListed v home trimmed.files its) (gone : AreGone goes.Coded its end.files) where
            coded_listed : (s : ℕ) (kind : Kind) → IsCodedKind kind → IsSome (cleared.files (place_of v s kind false)) → Contains its (record { server = s; file = record { volume = v; kind = kind; temp = false } })
            coded_listed s kind is some = all s kind (coded_kind kind is) (no_kept home s kind is) (ap is_some (sym (clears.touches.others (place_of v s kind false) (coded_apart v v s kind false false h h is))) ∙ some)

            pub run_done : IsSettledPlain v home start.files end.files
            run_done = record {
              same_mode = plain_mode v h home lengths start.files named.files trimmed.files end.files tested keeps unmade cut left_end;
              left = left_plain v h home lengths start.files named.files trimmed.files end.files tested keeps unmade cut left_end
                  (coded_none v h its with_names of cleared.files end.files coded_listed takes.files gone);
              keeps = keeps_end;
              temps = no_temp;
              settled = λ settled. lacks_settled takes.files (cleared_settled settled);
            }
