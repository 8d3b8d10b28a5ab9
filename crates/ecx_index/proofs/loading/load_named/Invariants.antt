use Rattle.std.proofs.Common.{◌-◌, ◌≡◌, ◌≤◌, ◌%◌, IsTrue, length}
use Rattle.site_model.specs.Disk.{bytes_of}
use Rattle.site_model.specs.Counts.{CallsAt}
use Rattle.ecx_index.proofs.Taken.{HasReached}
use Rattle.ecx_index.proofs.loading.load_named.Given as goal

abbrev pub invariant-loop-at : goal.invariant-loop-at
invariant-loop-at g l = record {
  within : l.at ≤ l.end;
  whole : l.at % 16 ≡ 0;
  room : length l.room ≡ 65536;
  volume : l.loading.volume ≡ l.volume;
  runs : CallsAt g.T.Site.counts g.T.Site.servers l.server l.fn.site l.site ⊥;
  same : IsTrue g.T.Site.tells → g.T.Site.disk l.site ≡ g.T.Site.disk l.fn.site;
  reached : IsTrue g.T.Site.tells → HasReached (bytes_of ((g.T.Site.disk l.fn.site).files (l.server, l.name))) l.at l.loading;
}

abbrev pub decreases-loop-at : goal.decreases-loop-at
decreases-loop-at g l = l.end - l.at
