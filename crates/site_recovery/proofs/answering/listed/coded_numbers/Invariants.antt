use Rattle.std.proofs.Common.{◌≡◌, take}
use Rattle.std.specs.List.{filter_map}
use Rattle.site_recovery.specs.Answering.{coded_number}
use Rattle.site_recovery.proofs.answering.listed.coded_numbers.Given as goal

abbrev pub invariant-loop-found : goal.invariant-loop-found
invariant-loop-found l = l.volumes.items ≡ filter_map coded_number (take l.found-index l.tested)
