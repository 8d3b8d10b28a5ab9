use Rattle.std.proofs.Common.{◌∙◌}
use Rattle.site_mem.proofs.Keeping.{renamed_place, apart_renamed, files_renamed, moved_room, moved_none}
use Rattle.site_mem.proofs.contents.Contents.rename.Goals as goal

pub invariant_of-self : goal.invariant_of-self
invariant_of-self c =
    let here = c.in-Some.ensures in
    let apart = c.make_room.new.self.apart in
    let new = c.set_name.new.self in
    record { apart = apart_renamed _ _ _ here apart new (c.args.server, c.args.new.now) (renamed_place _ _ _ here apart _ new _ _ c.index_mut.ensures.value c.set_name.ensures.place c.in_ok-name.ensures.ok) c.make_room.ensures.files.free }

pub returns-in-Some-clause-ok : goal.returns-in-Some-clause-ok
returns-in-Some-clause-ok c =
    let here = c.in-Some.ensures in
    let apart = c.make_room.new.self.apart in
    let new = c.set_name.new.self in
    files_renamed _ _ _ here apart _ new (c.args.server, c.args.new.now) c.index_mut.ensures.value
    (renamed_place _ _ _ here apart _ new _ _ c.index_mut.ensures.value c.set_name.ensures.place c.in_ok-name.ensures.ok)
    c.set_name.ensures.file c.make_room.ensures.files.free
    ∙ moved_room _ _ _ _ c.make_room.ensures.files

pub returns-in_default-clause-ok : goal.returns-in_default-clause-ok
returns-in_default-clause-ok c = moved_none _ _ _ _ c.make_room.ensures.files c.in_default.ensures
