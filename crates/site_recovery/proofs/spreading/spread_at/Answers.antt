use Rattle.site_recovery.proofs.Spread.{written_spreads}
use Rattle.site_recovery.proofs.spreading.spread_at.Goals as goal

pub returns-clause-effect : goal.returns-clause-effect
returns-clause-effect g c = λ told. written_spreads c.args.volume c.args.server c.args.ids.now _ _ _ (c.journal_at.ensures.same told) (c.write_at.ensures.effect told)
