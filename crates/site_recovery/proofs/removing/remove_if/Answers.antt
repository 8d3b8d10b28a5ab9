use Rattle.std.proofs.Common.{◌∙◌}
use Rattle.site_recovery.proofs.Removed.{takes_one}
use Rattle.site_recovery.proofs.removing.remove_if.Goals as goal

pub returns-clause-effect : goal.returns-clause-effect
returns-clause-effect g c = λ told.
    takes_one c.args.goes c.args.listed.now _ (c.deref.ensures ∙ c.in_ok-name.ensures) (c.is_going.ensures.0 c.if-not-is_going.false) (c.clear_at.ensures.effect told)
