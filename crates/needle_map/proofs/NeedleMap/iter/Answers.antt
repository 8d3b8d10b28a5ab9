use Rattle.needle_map.proofs.Places.{values-by_id}
use Rattle.needle_map.proofs.NeedleMap.iter.Goals as goal
use Rattle.std.proofs.Common.{sym, ap, ◌∙◌}
use Rattle.needle_map.specs.Entries.{entries_of}

pub returns : goal.returns
returns c = rw (← c.self.view_is) (ap entries_of c.iter.ensures.rest ∙ sym (values-by_id c.self.inside.places.entries c.iter.ensures.ordered))
