use Rattle.needle_map.proofs.Places.{remove_map}
use Rattle.needle_map.proofs.NeedleMap.remove.Goals as goal

pub returns : goal.returns
returns c = rw (← c.self.view_is) (remove_map c.self.inside.places.entries c.remove-place.new.self.entries c.args.id c.remove-place.ensures.updates.0)
