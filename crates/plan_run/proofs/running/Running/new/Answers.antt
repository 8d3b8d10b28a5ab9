use Rattle.std.proofs.Common.{ℕ, List, sym, ◌∙◌, ap, subst}
use Rattle.std.specs.Prelude.{All}
use Rattle.file_names.specs.Names.{IsKind}
use Rattle.plan_steps.specs.declared.plan.FileState.{FileState}
use Rattle.plan_steps.specs.Order.{names_of}
use Rattle.plan_steps.specs.Laws.Beginning.{first_listed}
use Rattle.plan_steps.specs.Laws.Within.{state_within, planned_named}
use Rattle.plan_steps.specs.Stepping.{IsInBounds}
use Rattle.plan_steps.specs.Laws.Due.{bounds_first}
use Rattle.plan_run.specs.Names.{AreNamed}
use Rattle.plan_run.proofs.Named.{kinds_all}
use Rattle.plan_run.proofs.running.Running.new.Goals as goal

pub new-requires-2 : goal.new-requires-2
new-requires-2 c =
    let files = c.in_ok-progress.progress.files.items in
    let listed = first_listed c.args.plan files c.in_ok-progress.ensures.files in
    subst (λ (fs : List FileState). All (λ (s : FileState). IsKind s.kind) fs) (sym c.deref.ensures.value)
    (kinds_all files (λ k s at. planned_named c.args.plan s.kind (state_within c.args.plan c.requires.0 c.requires.1 files listed k s at).1))

pub invariant_of-result : goal.invariant_of-result
invariant_of-result c = record {
  named = subst (λ files. AreNamed c.args.plan.volume files c.in_ok-names.names)
      (ap names_of c.deref.ensures.value ∙ first_listed c.args.plan c.in_ok-progress.progress.files.items c.in_ok-progress.ensures.files) c.in_ok-names.ensures;
  text_is = c.in_ok-text.ensures.text;
  bounds = subst (λ (x : List FileState × ℕ). IsInBounds c.args.plan x.0 x.1) (λ i. (sym c.in_ok-progress.ensures.files i, sym c.in_ok-progress.ensures.place i)) (bounds_first c.args.plan c.requires.0 c.requires.1);
}
