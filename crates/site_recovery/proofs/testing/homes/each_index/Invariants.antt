use Rattle.std.proofs.Common.{◌≡◌, take}
use Rattle.std.specs.List.{filter_map}
use Rattle.site_recovery.specs.Opening.{index_server}
use Rattle.site_recovery.proofs.testing.homes.each_index.Given as goal

abbrev pub invariant-loop-listed : goal.invariant-loop-listed
invariant-loop-listed l = l.servers.items ≡ filter_map index_server (take l.listed-index l.files)
