use Rattle.std.proofs.Common.{◌≡◌, ◌∙◌, ◌+◌, ◌<◌, ℕ, Option, List, Some, None, sym, subst, refl, arith}
use Rattle.std.specs.Prelude.{slice_index_or}
use Rattle.std.specs.List.{All}
use Rattle.std.proofs.lemmas.Result.{err_from_is_err_and}
use Rattle.std.proofs.lemmas.List.Elements.{All-nil, All-push, All-weaker}
use Rattle.site_model.specs.Disk.{Disk}
use Rattle.coded_volume.specs.Checking.{files_on}
use Rattle.site_recovery.specs.declared.forms.Home.{Home}
use Rattle.site_recovery.specs.Homes.{AreHomes, FailsTests}
use Rattle.site_recovery.specs.Opening.{IsAtServer, IsHomeAt}
use Rattle.site_model.specs.Laws.Count.{calls_nowhere, calls_on_anywhere, calls_untold}
use Rattle.site_recovery.proofs.Indexed.{homes_start, homes_found, homes_none, homes_end}
use Rattle.site_recovery.proofs.testing.homes.homes_among.Goals as goal

pub loop-server-init : goal.loop-server-init
loop-server-init g c = record {
  runs = calls_nowhere _;
  same_disk = λ told. refl;
  servers =
      subst (λ (homes : List Home). All (λ (home : Home). home.server < g.T.Site.servers c.args.site.now) homes) (sym c.new-homes.ensures.items)
      (All-nil (λ (home : Home). home.server < g.T.Site.servers c.args.site.now));
  homes = λ told.
      let low = All-weaker (λ s. s < g.T.Site.servers c.args.site.now) (λ s. s < 64) (λ s h. omega (arith, c.requires.few)) c.args.servers.now c.requires.on_servers in
      subst (λ (homes : List Home). AreHomes (files_on (g.T.Site.disk c.args.site.now).files c.args.volume) (slice_index_or c.args.servers.now 0 64) homes) (sym c.new-homes.ensures.items)
      (homes_start (files_on (g.T.Site.disk c.args.site.now).files c.args.volume) c.args.servers.now c.requires.rise low (c.requires.all told));
}

pub home_at-requires-clause-server : goal.home_at-requires-clause-server
home_at-requires-clause-server g c = omega (arith, c.requires.on_servers c.loop-server.server-index 0 c.loop-server-test.true, c.loop-server.invariant.runs.servers)

pub home_at-requires-clause-low : goal.home_at-requires-clause-low
home_at-requires-clause-low g c = omega (arith, c.requires.on_servers c.loop-server.server-index 0 c.loop-server-test.true, c.requires.few)

pub returns-in_err-home-clause-unsound : goal.returns-in_err-home-clause-unsound
returns-in_err-home-clause-unsound g c =
    let p = err_from_is_err_and c.from_residual.result c.from_residual.ensures.1 in
    rw (p.1, p.2) (λ told.
    subst (λ (d : Disk). FailsTests c.args.volume (files_on d.files c.args.volume) c.in_err-home.field-0.0) (c.loop-server.invariant.same_disk told) (c.in_err-home.ensures.unsound told))

pub loop-server-preserved-in_default : goal.loop-server-preserved-in_default
loop-server-preserved-in_default g c = record {
  runs = calls_untold (calls_on_anywhere c.loop-server.invariant.runs c.home_at.ensures.runs);
  same_disk = λ told. c.home_at.ensures.same told ∙ c.loop-server.invariant.same_disk told;
  servers = c.loop-server.invariant.servers;
  homes = λ told.
      let server : ℕ = slice_index_or c.args.servers.now c.loop-server.server-index 0 in
      let low = All-weaker (λ s. s < g.T.Site.servers c.args.site.now) (λ s. s < 64) (λ s h. omega (arith, c.requires.few)) c.args.servers.now c.requires.on_servers in
      let found =
      subst (λ (d : Disk). IsHomeAt (files_on d.files c.args.volume) server None) (c.loop-server.invariant.same_disk told)
      (subst (λ (o : Option Home). IsHomeAt (files_on (g.T.Site.disk c.loop-server.site).files c.args.volume) server o) c.in_default.is (c.in_ok-home.ensures.home told)) in
      homes_none (files_on (g.T.Site.disk c.args.site.now).files c.args.volume) c.args.servers.now c.requires.rise low (c.requires.all told) c.loop-server.server-index c.loop-server.homes.items c.loop-server-test.true (c.loop-server.invariant.homes told) found;
}

pub loop-server-preserved : goal.loop-server-preserved
loop-server-preserved g c =
    let server : ℕ = slice_index_or c.args.servers.now c.loop-server.server-index 0 in
    let at : c.in-Some.home.server ≡ server = subst (λ (o : Option Home). IsAtServer server o) c.in-Some.is c.in_ok-home.ensures.at in
    record {
      runs = calls_untold (calls_on_anywhere c.loop-server.invariant.runs c.home_at.ensures.runs);
      same_disk = λ told. c.home_at.ensures.same told ∙ c.loop-server.invariant.same_disk told;
      servers =
          subst (λ (homes : List Home). All (λ (home : Home). home.server < g.T.Site.servers c.args.site.now) homes) (sym c.in_ok-push.ensures.items)
          (All-push (λ (home : Home). home.server < g.T.Site.servers c.args.site.now) c.loop-server.homes.items c.in-Some.home c.loop-server.invariant.servers
          (omega (arith, at, c.requires.on_servers c.loop-server.server-index 0 c.loop-server-test.true)));
      homes = λ told.
          let low = All-weaker (λ s. s < g.T.Site.servers c.args.site.now) (λ s. s < 64) (λ s h. omega (arith, c.requires.few)) c.args.servers.now c.requires.on_servers in
          let found =
          subst (λ (d : Disk). IsHomeAt (files_on d.files c.args.volume) server (Some c.in-Some.home)) (c.loop-server.invariant.same_disk told)
          (subst (λ (o : Option Home). IsHomeAt (files_on (g.T.Site.disk c.loop-server.site).files c.args.volume) server o) c.in-Some.is (c.in_ok-home.ensures.home told)) in
          subst (λ (homes : List Home). AreHomes (files_on (g.T.Site.disk c.args.site.now).files c.args.volume) (slice_index_or c.args.servers.now (c.loop-server.server-index + 1) 64) homes) (sym c.in_ok-push.ensures.items)
          (homes_found (files_on (g.T.Site.disk c.args.site.now).files c.args.volume) c.args.servers.now c.requires.rise low (c.requires.all told) c.loop-server.server-index c.loop-server.homes.items c.loop-server-test.true (c.loop-server.invariant.homes told) c.in-Some.home at found);
    }

pub returns-clause-homes : goal.returns-clause-homes
returns-clause-homes g c = λ told.
    let low = All-weaker (λ s. s < g.T.Site.servers c.args.site.now) (λ s. s < 64) (λ s h. omega (arith, c.requires.few)) c.args.servers.now c.requires.on_servers in
    homes_end (files_on (g.T.Site.disk c.args.site.now).files c.args.volume) c.args.servers.now c.requires.rise low (c.requires.all told) c.loop-server.server-index c.loop-server.homes.items (omega (arith, c.loop-server-test.false)) (c.loop-server.invariant.homes told)
