use Rattle.std.proofs.Common.{◌-◌, ◌≡◌, ◌≤◌, false, true, IsTrue, length, take, drop}
use Rattle.site_model.specs.Counts.{CallsAt}
use Rattle.site_model.specs.Touches.{Touches, At}
use Rattle.volume_vacuum.specs.Copies.{Grows}
use Rattle.volume_vacuum.specs.Home.{own_dat, cpd_temp_named}
use Rattle.volume_vacuum.proofs.copying.copy_range.Given as goal

abbrev pub invariant-loop-done : goal.invariant-loop-done
invariant-loop-done g l = record {
  within : l.done ≤ l.place.length;
  long : length l.buffer ≡ length l.fn.buffer;
  runs : CallsAt g.T.Site.counts g.T.Site.servers l.home.server l.fn.site l.site (false ≡ true);
  effect : IsTrue g.T.Site.tells → Touches (At (cpd_temp_named l.home)) (g.T.Site.disk l.fn.site) (g.T.Site.disk l.site);
  grows : IsTrue g.T.Site.tells
      → Grows (cpd_temp_named l.home) (take l.done (drop l.place.at (own_dat (g.T.Site.disk l.fn.site).files l.home))) (g.T.Site.disk l.fn.site).files (g.T.Site.disk l.site).files;
}

abbrev pub decreases-loop-done : goal.decreases-loop-done
decreases-loop-done g l = l.place.length - l.done
