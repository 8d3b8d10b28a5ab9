-- While a plan runs its volume is underway: the files hold what they meant at the start, in a form that the command may have.
use Rattle.std.proofs.Common.{◌≡◌, inl, inr, true, false, Some, refl, sym, ◌∙◌, ap, subst}
use Rattle.image_meaning.specs.Laws.Options.{some_is}
use mathlib.Core.Bool.{true≢false}
use Rattle.site_model.specs.Disk.{Disk}
use Rattle.site_model.specs.Leaves.{Leaves, weaker}
use Rattle.world_model.specs.declared.types.Mode.{Mode}
use Rattle.world_model.specs.declared.types.Mode.TheVariants as mode
use Rattle.world_model.specs.declared.types.Command.{Command}
use Rattle.world_model.specs.declared.types.Command.TheVariants.{Encode, Rebuild, Balance, Decode}
use Rattle.world_model.specs.World.{Volume, empty_volume}
use Rattle.needle_record.specs.Records.{fold_records}
use Rattle.shard_table.specs.Table.{Row}
use Rattle.image_meaning.specs.Files.{VolumeFiles, files_of}
use Rattle.image_meaning.specs.Coded.{coded_with}
use Rattle.image_meaning.specs.Meaning.{volume_of}
use Rattle.image_meaning.specs.Ends.{changes_form}
use Rattle.image_meaning.specs.Share.{Share, finals, IsFirmShare}
use Rattle.image_meaning.specs.Outlasts.{IsHeld, held_plain, held_coded}
use Rattle.image_meaning.specs.Near.{IsFormOf, IsUnderway}
use Rattle.image_meaning.specs.HeldParts.{held_all}
use Rattle.plan_steps.specs.Kept.{Forms, AreForms, HasAForm, IsSameVolume}
use Rattle.plan_steps.specs.Laws.Kept.{fold_mode, kept_plain, kept_plain_sound, kept_plain_means, kept_coded, kept_coded_rules, kept_coded_means}
use Rattle.plan_steps.specs.Runs.{StepKeeps}
use Rattle.plan_steps.specs.Progressing.{Running, FitsProgress}

form_plain : (command : Command) (m : Mode) → changes_form command ≡ true → IsFormOf command m mode.Plain
form_plain (Encode ratio) m e = inl refl
form_plain Decode m e = inl refl
form_plain Rebuild m e = absurd (true≢false (sym e))
form_plain Balance m e = absurd (true≢false (sym e))

form_coded : (command : Command) (m : Mode) → (changes_form command ≡ false → m ≡ mode.Coded) → IsFormOf command m mode.Coded
form_coded (Encode ratio) m was = inr refl
form_coded Decode m was = inr refl
form_coded Rebuild m was = sym (was refl)
form_coded Balance m was = sym (was refl)

-- the volume with another mode
in_form : (u vol : Volume) (form : Mode) → u.used ≡ vol.used → u.needles ≡ vol.needles → u.mode ≡ form → u ≡ record vol { mode = form }
in_form u vol form used needles mode_is = λ i. record { mode = mode_is i; used = used i; needles = needles i }

-- what the files meant at the start
pub record IsOf (w : Volume) (f : Forms) (vol : Volume) : Type 0 where
  pub same : IsSameVolume w vol
  pub was_coded : f.changes ≡ false → vol.mode ≡ mode.Coded

pub of_start : (w : Volume) (f : Forms) (start : VolumeFiles) (vol : Volume) → AreForms w f → HasAForm f start → volume_of start ≡ Some vol → IsOf w f vol
of_start w f start vol forms (inl (changes, kept)) means =
    let is : fold_records f.kept ≡ vol = some_is (fold_records f.kept) vol (sym (kept_plain_means f.kept start kept) ∙ means) in
    record { same = subst (IsSameVolume w) is (forms.plain changes); was_coded = λ e. absurd (true≢false (sym changes ∙ e)) }
of_start w f start vol forms (inr kept) means =
    let is : coded_with f.parts.dat f.parts.info f.parts.deleted ≡ vol = some_is (coded_with f.parts.dat f.parts.info f.parts.deleted) vol (sym (kept_coded_means f.parts forms.parts start kept) ∙ means) in
    record { same = subst (IsSameVolume w) is forms.coded; was_coded = λ e. ap (λ (u : Volume). u.mode) (sym is) }

-- Kept files are underway.
pub kept_underway : (command : Command) (w : Volume) (f : Forms) (start now : VolumeFiles) (vol : Volume) → f.changes ≡ changes_form command → AreForms w f → HasAForm f start → volume_of start ≡ Some vol
    → HasAForm f now → IsUnderway command vol now
kept_underway command w f start now vol changes forms began means (inl (e, kept)) =
    let is = of_start w f start vol forms began means in
    let same = forms.plain e in
    let turned : fold_records f.kept ≡ record vol { mode = mode.Plain } =
    in_form (fold_records f.kept) vol mode.Plain (same.0 ∙ sym is.same.0) (same.1 ∙ sym is.same.1) (fold_mode empty_volume f.kept) in
    record {
      form = mode.Plain;
      is_form = form_plain command vol.mode (sym changes ∙ e);
      held = subst (IsHeld now) (kept_plain_means f.kept now kept ∙ ap Some turned) (held_plain now (kept_plain f.kept now kept) (kept_plain_sound f.kept now kept));
    }
kept_underway command w f start now vol changes forms began means (inr kept) =
    let is = of_start w f start vol forms began means in
    let turned : coded_with f.parts.dat f.parts.info f.parts.deleted ≡ record vol { mode = mode.Coded } =
    in_form (coded_with f.parts.dat f.parts.info f.parts.deleted) vol mode.Coded (forms.coded.0 ∙ sym is.same.0) (forms.coded.1 ∙ sym is.same.1) refl in
    let coded = kept_coded f.parts forms.parts now kept in
    let held = held_coded now coded (kept_coded_rules f.parts forms.parts now kept) f.parts.deleted (held_all f.parts now kept.holds) in
    record {
      form = mode.Coded;
      is_form = form_coded command vol.mode (λ e. is.was_coded (changes ∙ e));
      held = subst (IsHeld now) (sym held.means ∙ kept_coded_means f.parts forms.parts now kept ∙ ap Some turned) held;
    }

module _ (w : Volume) (f : Forms) (r : Running) (row : Row) (start now : Share) (fits : FitsProgress w f r row start now) (vol : Volume) (means : volume_of (finals start) ≡ Some vol) where
  -- so are those of a plan that has come so far
  pub progress_underway : IsUnderway r.plan.command vol (finals now)
  progress_underway = kept_underway r.plan.command w f (finals start) (finals now) vol fits.begins.changes fits.forms fits.begins.kept means fits.fits.kept

  -- and those that a stop within its next step leaves, where the files of the start were firm
  pub step_underway : (old new : Disk) → StepKeeps r.plan f start old new → IsFirmShare start → Leaves old new (λ image said. IsUnderway r.plan.command vol (files_of image r.plan.volume))
  step_underway old new keeps firm = weaker (keeps.leaves firm) (λ image said kept.
      kept_underway r.plan.command w f (finals start) (files_of image r.plan.volume) vol fits.begins.changes fits.forms fits.begins.kept means kept)
