use Rattle.coded_volume.proofs.Standing.{HasServers}
use Rattle.coded_volume.proofs.checking.holders.holders_of.Given as goal

abbrev pub invariant-loop-copy : goal.invariant-loop-copy
invariant-loop-copy l = HasServers l.copies l.copy-index l.first l.last l.others.items
