use Rattle.std.proofs.Common.{◌≡◌, ◌+◌, ◌^◌, ◌<◌, ◌≤◌, false, true, IsTrue, length}
use Rattle.site_model.specs.Counts.{CallsAt}
use Rattle.site_model.specs.Touches.{Touches, At}
use Rattle.volume_vacuum.specs.Copies.{EndWithin}
use Rattle.volume_vacuum.specs.Home.{own_dat, cpd_temp_named}
use Rattle.volume_vacuum.proofs.Copied.{HasCopied}
use Rattle.volume_vacuum.proofs.copying.copy_records.Given as goal

abbrev pub invariant-loop-entry : goal.invariant-loop-entry
invariant-loop-entry g l = record {
  long : length l.buffer ≡ length l.fn.buffer;
  runs : CallsAt g.T.Site.counts g.T.Site.servers l.home.server l.fn.site l.site (false ≡ true);
  effect : IsTrue g.T.Site.tells → Touches (At (cpd_temp_named l.home)) (g.T.Site.disk l.fn.site) (g.T.Site.disk l.site);
  fits : l.range.at + l.range.length < 2 ^ 63;
  range_within : IsTrue g.T.Site.tells → l.range.at + l.range.length ≤ length (own_dat (g.T.Site.disk l.fn.site).files l.home);
  within : IsTrue g.T.Site.tells → EndWithin (length (own_dat (g.T.Site.disk l.fn.site).files l.home)) l.rest;
  copies : IsTrue g.T.Site.tells
      → HasCopied (cpd_temp_named l.home) (own_dat (g.T.Site.disk l.fn.site).files l.home) l.entries l.range l.rest (g.T.Site.disk l.fn.site).files (g.T.Site.disk l.site).files;
}

abbrev pub decreases-loop-entry : goal.decreases-loop-entry
decreases-loop-entry g l = length l.rest
