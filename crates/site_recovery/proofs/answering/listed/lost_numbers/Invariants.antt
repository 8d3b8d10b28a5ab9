use Rattle.std.proofs.Common.{◌≡◌, take}
use Rattle.std.specs.List.{filter_map}
use Rattle.site_recovery.specs.Answering.{lost_number}
use Rattle.site_recovery.proofs.answering.listed.lost_numbers.Given as goal

abbrev pub invariant-loop-found : goal.invariant-loop-found
invariant-loop-found l = l.volumes.items ≡ filter_map lost_number (take l.found-index l.tested)
