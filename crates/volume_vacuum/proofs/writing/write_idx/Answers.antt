use Rattle.site_model.specs.Touches.{touches_on}
use Rattle.volume_vacuum.proofs.Copied.{touch_at, touches_firm}
use Rattle.volume_vacuum.proofs.Renames.{named_at}
use Rattle.volume_vacuum.proofs.writing.write_idx.Goals as goal

pub returns-in_err-append_firm-clause-effect : goal.returns-in_err-append_firm-clause-effect
returns-in_err-append_firm-clause-effect g c = λ told.
    let server = c.args.home.now.server in
    touches_on (touch_at (named_at server c.deref.ensures) (c.clear.ensures.effect told).touches) (touch_at (named_at server c.deref-2.ensures) (touches_firm (c.append_firm.ensures.effect told)))

pub returns-clause-effect : goal.returns-clause-effect
returns-clause-effect g c = λ told.
    let server = c.args.home.now.server in
    touches_on (touch_at (named_at server c.deref.ensures) (c.clear.ensures.effect told).touches) (touch_at (named_at server c.deref-2.ensures) (touches_firm (c.append_firm.ensures.effect told)))
