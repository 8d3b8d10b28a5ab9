use Rattle.volume_vacuum.proofs.Whole.{vacuums_none, holds_bytes, plan_within, plan_replaces, plan_vacuums}
use Rattle.volume_vacuum.proofs.volume.vacuum.Goals as goal

pub returns-in_err-home-clause-effect : goal.returns-in_err-home-clause-effect
returns-in_err-home-clause-effect g c = λ told. vacuums_none c.args.volume.now (c.prepare.ensures.same told)

pub replace_files-requires-clause-within : goal.replace_files-requires-clause-within
replace_files-requires-clause-within g c = λ told.
    plan_within g.T.Site.tells c.args.volume.now c.in_ok-home.field-0 c.in_ok-home.ensures.plan told (c.prepare.ensures.same told) c.deref.ensures.value

pub returns-in-Ok-clause-effect : goal.returns-in-Ok-clause-effect
returns-in-Ok-clause-effect g c = λ told.
    plan_replaces g.T.Site.tells c.args.volume.now c.in_ok-home.field-0 c.in_ok-home.ensures.plan told (c.prepare.ensures.same told) c.deref.ensures.value c.deref-2.ensures.value (c.replace_files.ensures.effect told)

pub returns-in-Ok-clause-done : goal.returns-in-Ok-clause-done
returns-in-Ok-clause-done g c = λ told.
    let volume = c.args.volume.now in
    plan_vacuums g.T.Site.tells volume c.in_ok-home.field-0 c.in_ok-home.ensures.plan told (c.prepare.ensures.same told) c.deref.ensures.value c.deref-2.ensures.value
    (holds_bytes (g.T.Site.disk c.args.site.now).files volume.server volume.volume (c.servers-servers.ensures.possible told)) c.replace.ensures (c.replace_files.ensures.effect told) (c.in-Ok.ensures.done told)

pub returns-clause-effect : goal.returns-clause-effect
returns-clause-effect g c = λ told.
    plan_replaces g.T.Site.tells c.args.volume.now c.in_ok-home.field-0 c.in_ok-home.ensures.plan told (c.prepare.ensures.same told) c.deref.ensures.value c.deref-2.ensures.value (c.replace_files.ensures.effect told)
