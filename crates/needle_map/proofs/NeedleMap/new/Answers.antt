use Rattle.std.proofs.Common.{◌∙◌, ap}
use Rattle.needle_map.specs.Entries.{by_id}
use Rattle.needle_map.proofs.Places.{no_entries}
use Rattle.needle_map.proofs.NeedleMap.new.Goals as goal

pub returns : goal.returns
returns c = ap by_id c.new.ensures.empty ∙ no_entries
