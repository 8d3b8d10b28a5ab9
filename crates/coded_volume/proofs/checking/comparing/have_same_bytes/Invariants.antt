use Rattle.std.proofs.Common.{◌≡◌, ◌≤◌, ◌-◌, IsTrue, take}
use Rattle.site_model.specs.Disk.{bytes_of}
use Rattle.site_model.specs.Counts.{Calls}
use Rattle.coded_volume.proofs.checking.comparing.have_same_bytes.Given as goal

abbrev pub invariant-loop-at : goal.invariant-loop-at
invariant-loop-at g l = record {
  within : l.at ≤ l.length;
  runs : Calls g.T.Site.counts g.T.Site.servers l.fn.site l.site (λ s. ⊥);
  same_disk : IsTrue g.T.Site.tells → g.T.Site.disk l.site ≡ g.T.Site.disk l.fn.site;
  fronts : IsTrue g.T.Site.tells → take l.at (bytes_of ((g.T.Site.disk l.fn.site).files (l.server, l.name))) ≡ take l.at (bytes_of ((g.T.Site.disk l.fn.site).files (l.other, l.name)));
}

abbrev pub decreases-loop-at : goal.decreases-loop-at
decreases-loop-at g l = l.length - l.at
