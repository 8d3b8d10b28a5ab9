use Rattle.coded_volume.specs.Opening.{HasCopiesBefore}
use Rattle.coded_volume.proofs.opening.copies_in.Given as goal

abbrev pub invariant-loop-server : goal.invariant-loop-server
invariant-loop-server l = HasCopiesBefore l.places l.server 0 l.copies.items
