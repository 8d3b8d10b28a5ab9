use Rattle.std.proofs.Common.{nat_eq, sym, ◌∙◌, ap}
use Rattle.needle_map.proofs.Places.{len-by_id}
use Rattle.needle_map.proofs.NeedleMap.is_empty.Goals as goal

pub returns : goal.returns
returns c = rw (← c.self.view_is) (ap (λ n. nat_eq n 0) (c.len.ensures.len ∙ sym (len-by_id c.self.inside.places.entries c.len.ensures.ordered)))
