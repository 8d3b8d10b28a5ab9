use Rattle.std.proofs.Common.{◌<◌, arith}
use Rattle.site_model.specs.Laws.Count.{calls_nowhere, calls_on_anywhere, calls_untold}
use Rattle.coded_volume.proofs.Everywhere.{none_deleted, at_effect, at_deleted}
use Rattle.coded_volume.proofs.deleting.append_everywhere.Goals as goal

pub loop-server-init : goal.loop-server-init
loop-server-init g c = record { runs = calls_nowhere _; deleted = λ told. none_deleted _ _ _ _ _ }

pub returns-in_err-append_at-clause-effect : goal.returns-in_err-append_at-clause-effect
returns-in_err-append_at-clause-effect g c = λ told.
    let within : c.loop-server.server < g.T.Site.servers c.args.site.now = omega (arith, c.loop-server-test.true, c.servers-server-end.ensures.value, c.requires) in
    at_effect _ _ _ _ c.loop-server.server within c.ranges.id.fits _ _ _ (c.loop-server.invariant.deleted told) (c.append_at.ensures.effect told)

pub loop-server-preserved : goal.loop-server-preserved
loop-server-preserved g c = record {
  runs = calls_untold (calls_on_anywhere c.loop-server.invariant.runs c.append_at.ensures.runs);
  deleted = λ told.
      let within : c.loop-server.server < g.T.Site.servers c.args.site.now = omega (arith, c.loop-server-test.true, c.servers-server-end.ensures.value, c.requires) in
      at_deleted _ _ _ _ c.loop-server.server within c.ranges.id.fits _ _ _ (c.loop-server.invariant.deleted told) (c.append_at.ensures.effect told) (λ holds. c.in_ok-append_at.ensures.done holds told);
}
