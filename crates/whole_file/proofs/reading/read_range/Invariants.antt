use Rattle.std.proofs.Common.{length, ◌-◌, ◌≡◌, ◌≤◌, false, true, IsTrue, take, drop}
use Rattle.site_model.specs.Disk.{bytes_of}
use Rattle.site_model.specs.Counts.{CallsAt}
use Rattle.whole_file.proofs.Counting.{HasRead}
use Rattle.whole_file.proofs.reading.read_range.Given as goal

abbrev pub invariant-loop-done : goal.invariant-loop-done
invariant-loop-done g l = record {
  within : l.done ≤ l.count;
  size : length l.bytes.items ≡ l.count;
  calls : HasRead l.done l.count (g.T.Site.counts l.fn.site) (g.T.Site.counts l.site);
  runs : CallsAt g.T.Site.counts g.T.Site.servers l.server l.fn.site l.site (false ≡ true);
  same : IsTrue g.T.Site.tells → g.T.Site.disk l.site ≡ g.T.Site.disk l.fn.site;
  read : IsTrue g.T.Site.tells → take l.done l.bytes.items ≡ take l.done (drop l.at (bytes_of ((g.T.Site.disk l.fn.site).files (l.server, l.name))));
}

abbrev pub decreases-loop-done : goal.decreases-loop-done
decreases-loop-done g l = l.count - l.done
