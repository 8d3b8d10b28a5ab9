-- What becomes of a volume of each form. For the recovery of coded volumes, to come.
use Rattle.std.proofs.Common.{◌≡◌, ℕ, Option, List, Some, None, refl, sym, ◌∙◌, subst}
use Rattle.std.specs.Prelude.{slice_index_or}
use Rattle.std.specs.List.{All}
use Rattle.std.proofs.lemmas.List.Elements.{Contains-get_or}
use Rattle.world_model.specs.declared.types.Mode.{Mode}
use Rattle.world_model.specs.declared.types.Mode.TheVariants as mode
use Rattle.site_model.specs.Disk.{Files}
use Rattle.image_meaning.specs.Files.{VolumeFiles, contents, files_of}
use Rattle.image_meaning.specs.Plain.{index_home}
use Rattle.image_meaning.specs.Meaning.{mode_of}
use Rattle.image_meaning.specs.Sound.{IsLost}
use Rattle.image_meaning.specs.Laws.Plain.{no_files_absent, absent_mode}
use Rattle.image_meaning.specs.Laws.PlainLoss.{is_plain}
use Rattle.image_meaning.specs.Laws.Options.{some_is}
use Rattle.site_recovery.specs.Recovering.{IsLeftPlain}
use Rattle.site_recovery.specs.PlainSettling.{IsSettledPlain}
use Rattle.site_recovery.specs.CodedSettling.{IsTestedCoded, IsSettledCoded}
use Rattle.site_recovery.specs.Removing.{HasFilesOf, IsVolumeGone}
use Rattle.site_recovery.specs.Listing.{AreThoseOf}
use Rattle.site_recovery.specs.Opening.{IsFound, IsTestedForm}
use Rattle.site_recovery.specs.declared.forms.Listed.{Listed}
use Rattle.site_recovery.specs.declared.forms.ListedForm.{ListedForm}
use Rattle.site_recovery.specs.FormSettling.{IsFormSettled}
use Rattle.site_recovery.specs.Laws.Step.{keeps_none}

-- a volume is of one form
one_mode : {A : Type 0} (o : Option Mode) (a b : Mode) → (Some a ≡ Some b → ⊥) → o ≡ Some a → o ≡ Some b → A
one_mode o a b apart is other = absurd (apart (sym is ∙ other))

no_mode : {A : Type 0} (o : Option Mode) (a : Mode) → o ≡ Some a → o ≡ None → A
no_mode o a is none = absurd (clash (sym none ∙ is))
  where
    clash : None ≡ Some a → ⊥
    clash e = cc

plain_coded : Some mode.Plain ≡ Some mode.Coded → ⊥
plain_coded e = cc

plain_lost : Some mode.Plain ≡ Some mode.Lost → ⊥
plain_lost e = cc

coded_plain : Some mode.Coded ≡ Some mode.Plain → ⊥
coded_plain e = cc

coded_lost : Some mode.Coded ≡ Some mode.Lost → ⊥
coded_lost e = cc

lost_plain : Some mode.Lost ≡ Some mode.Plain → ⊥
lost_plain e = cc

lost_coded : Some mode.Lost ≡ Some mode.Coded → ⊥
lost_coded e = cc

module _ (v : ℕ) (old new : Files) where
  abbrev before : VolumeFiles
  before = files_of (contents old) v

  abbrev after : VolumeFiles
  after = files_of (contents new) v

  pub plain_left : (home : ℕ) → index_home before ≡ Some home → IsSettledPlain v home old new → IsFormSettled v old new
  plain_left home at is = record {
    left = record {
      same_mode = is.same_mode;
      plain = λ other there. subst (IsLeftPlain before after) (some_is home other (sym at ∙ there)) is.left;
      coded = λ coded. one_mode (mode_of before) mode.Plain mode.Coded plain_coded (is_plain before home at) coded;
      lost = λ lost. one_mode (mode_of before) mode.Plain mode.Lost plain_lost (is_plain before home at) lost;
      absent = λ none. no_mode (mode_of before) mode.Plain (is_plain before home at) none;
    };
    keeps = is.keeps;
    temps = is.temps;
    settled = is.settled;
  }

  pub coded_left : (ids : List ℕ) → IsTestedCoded before ids → IsSettledCoded v ids old new → IsFormSettled v old new
  coded_left ids was is = record {
    left = record {
      same_mode = is.tested.coded ∙ sym was.coded;
      plain = λ home there. one_mode (mode_of before) mode.Coded mode.Plain coded_plain was.coded (is_plain before home there);
      coded = λ coded. record { ids = ids; was = was; tested = is.tested; left = is.left; ids_fit = is.ids_fit };
      lost = λ lost. one_mode (mode_of before) mode.Coded mode.Lost coded_lost was.coded lost;
      absent = λ none. no_mode (mode_of before) mode.Coded was.coded none;
    };
    keeps = is.keeps;
    temps = is.temps;
    settled = is.settled;
  }

  pub none_settled : mode_of before ≡ None → IsVolumeGone v old new → IsFormSettled v old new
  none_settled none is = record {
    left = record {
      same_mode = absent_mode after (no_files_absent after is.none) ∙ sym none;
      plain = λ home there. no_mode (mode_of before) mode.Plain (is_plain before home there) none;
      coded = λ coded. no_mode (mode_of before) mode.Coded coded none;
      lost = λ lost. no_mode (mode_of before) mode.Lost lost none;
      absent = λ e. is.none;
    };
    keeps = is.keeps;
    temps = is.temps;
    settled = is.settled;
  }

-- a lost volume stays as it was
pub lost_settled : (v : ℕ) (files : Files) → IsLost (files_of (contents files) v) → IsFormSettled v files files
lost_settled v files lost = record {
  left = record {
    same_mode = refl;
    plain = λ home there. one_mode (mode_of (files_of (contents files) v)) mode.Lost mode.Plain lost_plain lost (is_plain (files_of (contents files) v) home there);
    coded = λ coded. one_mode (mode_of (files_of (contents files) v)) mode.Lost mode.Coded lost_coded lost coded;
    lost = λ e. refl;
    absent = λ none. no_mode (mode_of (files_of (contents files) v)) mode.Lost lost none;
  };
  keeps = keeps_none (contents files);
  temps = λ server kind is none. none;
  settled = λ settled. settled;
}

-- ---- the volume's files among all that are listed

module _ (v : ℕ) (found its : List Listed) (those : AreThoseOf v found its) where
  pub its_of : All (λ (l : Listed). l.file.volume ≡ v) its
  its_of k d low = ((those (slice_index_or its k d)).0 (Contains-get_or its k d low)).1

  pub its_files : (files : Files) → HasFilesOf files v found → HasFilesOf files v its
  its_files files all l file of = (those l).1 (all l file of, of)

-- ---- what was found of it

pub found_as : (files : VolumeFiles) (f g : ListedForm) → f ≡ g → IsTestedForm files f → IsFound files g
found_as files f g is tested = subst (IsFound files) is tested.has
