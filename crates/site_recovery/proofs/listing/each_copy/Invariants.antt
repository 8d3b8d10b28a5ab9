use Rattle.std.proofs.Common.{◌≡◌, take}
use Rattle.std.specs.List.{filter_map}
use Rattle.site_recovery.specs.Listing.{copy_of}
use Rattle.site_recovery.proofs.listing.each_copy.Given as goal

abbrev pub invariant-loop-listed : goal.invariant-loop-listed
invariant-loop-listed l = l.copies.items ≡ filter_map copy_of (take l.listed-index l.files)
