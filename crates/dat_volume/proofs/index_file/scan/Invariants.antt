use Rattle.std.proofs.Common.{◌≡◌, ◌*◌, ◌-◌, ◌%◌, ◌≤◌, false, true, IsTrue, length, take}
use Rattle.site_model.specs.Disk.{bytes_of}
use Rattle.site_model.specs.Counts.{CallsAt}
use Rattle.volume_forms.specs.Forms.{entries}
use Rattle.dat_volume.specs.Scanning.{no_chain, with_entries}
use Rattle.dat_volume.proofs.index_file.scan.Given as goal

abbrev pub invariant-loop-at : goal.invariant-loop-at
invariant-loop-at g l = record {
  within : l.at ≤ l.end;
  whole : l.at % 16 ≡ 0;
  count : 16 * l.chain.count ≡ l.at;
  room : length l.buffer ≡ length l.fn.buffer;
  runs : CallsAt g.T.Site.counts g.T.Site.servers l.server l.fn.site l.site (false ≡ true);
  same : IsTrue g.T.Site.tells → g.T.Site.disk l.site ≡ g.T.Site.disk l.fn.site;
  scanned : IsTrue g.T.Site.tells → l.chain ≡ with_entries no_chain (entries (take l.at (bytes_of ((g.T.Site.disk l.fn.site).files (l.server, l.name)))));
}

abbrev pub decreases-loop-at : goal.decreases-loop-at
decreases-loop-at g l = l.end - l.at
