use Rattle.std.proofs.Common.{sym, ◌∙◌}
use Rattle.needle_map.proofs.Places.{len-by_id}
use Rattle.needle_map.proofs.NeedleMap.len.Goals as goal

pub returns : goal.returns
returns c = rw (← c.self.view_is) (c.len.ensures.len ∙ sym (len-by_id c.self.inside.places.entries c.len.ensures.ordered))
