use Rattle.site_model.specs.Disk.{synced}
use Rattle.site_mem.proofs.Keeping.{place_stays, apart_changed, files_changed}
use Rattle.site_mem.proofs.contents.Contents.sync.Goals as goal

pub invariant_of-self : goal.invariant_of-self
invariant_of-self c =
    let here = c.in-Some.ensures in
    let apart = c.args.self.now.apart in
    record { apart = apart_changed _ _ _ here apart c.sync.new.self (place_stays _ _ _ here apart _ c.sync.new.self c.index_mut.ensures.value c.sync.ensures.place) }

pub returns-in-Some-clause-files : goal.returns-in-Some-clause-files
returns-in-Some-clause-files c =
    files_changed _ _ _ c.in-Some.ensures c.args.self.now.apart _ c.sync.new.self synced c.index_mut.ensures.value c.sync.ensures.place c.sync.ensures.file
