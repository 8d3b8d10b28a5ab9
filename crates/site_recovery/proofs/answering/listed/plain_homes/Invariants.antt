use Rattle.std.proofs.Common.{◌≡◌, take}
use Rattle.std.specs.List.{filter_map}
use Rattle.site_recovery.specs.Answering.{plain_home}
use Rattle.site_recovery.proofs.answering.listed.plain_homes.Given as goal

abbrev pub invariant-loop-found : goal.invariant-loop-found
invariant-loop-found l = l.rows.items ≡ filter_map plain_home (take l.found-index l.tested)
