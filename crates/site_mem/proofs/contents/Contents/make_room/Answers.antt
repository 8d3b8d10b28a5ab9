use Rattle.site_mem.proofs.Keeping.{room_made, other_name}
use Rattle.site_mem.proofs.contents.Contents.make_room.Goals as goal

pub returns-then-ne-clause-files : goal.returns-then-ne-clause-files
returns-then-ne-clause-files c = room_made _ _ _ _ c.remove.ensures.files (other_name c.args.server c.args.old.now c.args.new.now c.if-ne.ensures)
