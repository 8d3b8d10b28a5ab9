use Rattle.std.proofs.Common.{sym, ◌∙◌, subst}
use Rattle.std.specs.Prelude.{IsSome}
use Rattle.plan_run.proofs.AtWork.{listed_position, listed_once}
use Rattle.plan_run.proofs.steps.place_of.Goals as goal

pub unwrap-requires : goal.unwrap-requires
unwrap-requires c = subst IsSome (sym c.position_of.ensures) (listed_position c.args.progress.now.files.items c.args.server c.args.kind c.requires.there)

pub returns : goal.returns
returns c = listed_once c.args.progress.now.files.items c.args.server c.args.kind c.unwrap.result c.requires.apart (sym c.position_of.ensures ∙ c.unwrap.ensures)
