use Rattle.site_mem.proofs.Recording.{starts_files, starts_said}
use Rattle.site_mem.proofs.history.History.new.Goals as goal

pub invariant_of-result : goal.invariant_of-result
invariant_of-result c = record {
  files = starts_files _ _ _ c.new-2.ensures.files c.new.ensures.items c.none.ensures;
  said = starts_said _ _ c.none.result.since c.new-2.ensures.said c.new.ensures.items;
}
