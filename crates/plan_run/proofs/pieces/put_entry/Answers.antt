use Rattle.std.proofs.Common.{refl, ◌∙◌}
use Rattle.plan_run.proofs.Entries.{entry_put}
use Rattle.plan_run.proofs.pieces.put_entry.Goals as goal

pub returns-clause-entry : goal.returns-clause-entry
returns-clause-entry c = (entry_put c.args.room.now _ c.copy_from_slice.new.self c.args.at c.args.entry.now refl (c.copy_from_slice.ensures.after ∙ c.write_entry.ensures.spelled) c.requires).0

pub returns-clause-size : goal.returns-clause-size
returns-clause-size c = (entry_put c.args.room.now _ c.copy_from_slice.new.self c.args.at c.args.entry.now refl (c.copy_from_slice.ensures.after ∙ c.write_entry.ensures.spelled) c.requires).1
