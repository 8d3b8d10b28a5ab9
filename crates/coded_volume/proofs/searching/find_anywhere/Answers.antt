use Rattle.std.proofs.Common.{◌+◌, ◌/◌, ◌<◌, Some, refl, sym, ◌∙◌, subst, arith}
use Rattle.std.specs.Prelude.{IsTrue}
use Rattle.site_model.specs.declared.error.DeviceFault.{DeviceFault}
use Rattle.site_model.specs.Disk.{Disk, length_of}
use Rattle.site_model.specs.Laws.Count.{calls_anywhere, calls_on_anywhere, calls_untold}
use Rattle.shard_table.specs.Table.{row_of}
use Rattle.ecx_index.specs.Search.{TakesFewReads}
use Rattle.coded_volume.proofs.Searches.{HasSearched, below_all_stand, none_reliable, place_within, searched_here, searched_more, searched_on, searched_past, some_told}
use Rattle.coded_volume.proofs.searching.find_anywhere.Goals as goal

pub loop-server-preserved-then-not-has_one : goal.loop-server-preserved-then-not-has_one
loop-server-preserved-then-not-has_one g c = record {
  runs = c.loop-server.invariant.runs;
  same = c.loop-server.invariant.same;
  searched = searched_past _ _ _ _ _ _ _ _ _ c.loop-server.invariant.searched (c.has_one.ensures.no c.if-not-has_one.true);
}

pub returns-in-Ok-clause-calls : goal.returns-in-Ok-clause-calls
returns-in-Ok-clause-calls g c = λ told n most.
    let inv = c.loop-server.invariant in
    searched_more (searched_here _ _ _ _ _ _ _ _ _ inv.searched (c.has_one.ensures.yes c.if-not-has_one.false) (g.T.Site.counts c.find.new.site)
    (λ t. subst (λ (d : Disk). TakesFewReads (length_of (d.files (c.loop-server.server, c.args.name.now)) / 16) (g.T.Site.counts c.loop-server.site) (g.T.Site.counts c.find.new.site)) (inv.same t) (c.find.ensures.calls t))
    told n most) _ (below_all_stand (row_of c.args.table.now c.args.volume) c.args.shards (c.loop-server.server + 1))

pub loop-server-preserved : goal.loop-server-preserved
loop-server-preserved g c =
    let inv = c.loop-server.invariant in
    let did = c.find.ensures in
    record {
      runs = calls_on_anywhere inv.runs (calls_untold (calls_anywhere did.runs));
      same = λ told. did.same told ∙ inv.same told;
      searched = subst (λ (f : DeviceFault). HasSearched (IsTrue g.T.Site.tells) (g.T.Site.disk c.args.site.now).files (row_of c.args.table.now c.args.volume) c.args.shards c.args.name.now (c.loop-server.server + 1) (Some f) (g.T.Site.counts c.args.site.now) (g.T.Site.counts c.find.new.site)) (sym c.unwrap_or.ensures)
          (searched_on _ _ _ _ _ _ _ _ _ inv.searched (c.has_one.ensures.yes c.if-not-has_one.false) _
          (λ t. subst (λ (d : Disk). TakesFewReads (length_of (d.files (c.loop-server.server, c.args.name.now)) / 16) (g.T.Site.counts c.loop-server.site) (g.T.Site.counts c.find.new.site)) (inv.same t) (did.calls t))
          c.in-Err.fault c.in-Err.ensures.blame inv.runs.later did.runs.later (c.in-Err.ensures.runs.failed refl));
    }

pub unwrap-requires : goal.unwrap-requires
unwrap-requires g c =
    some_told _ _ _ _ _ _ _ _ _ c.loop-server.invariant.searched c.args.table.now c.args.volume c.servers-server-end.ensures.table refl (omega (arith, c.loop-server-test.false, c.servers-server-end.ensures.value)) c.requires.some

pub returns-clause-few : goal.returns-clause-few
returns-clause-few g c =
    none_reliable (row_of c.args.table.now c.args.volume) c.args.shards (g.T.Site.counts c.args.site.now) (g.T.Site.counts c.loop-server.site) (λ i s h e.
    let within : s < c.loop-server.server = omega (arith, c.loop-server-test.false, c.servers-server-end.ensures.value, place_within c.args.table.now c.args.volume i s c.servers-server-end.ensures.table e) in
    c.loop-server.invariant.searched.failed s within (i, h, e))

pub returns-clause-calls : goal.returns-clause-calls
returns-clause-calls g c = λ told n most.
    searched_more (c.loop-server.invariant.searched.searched told n most) _ (below_all_stand (row_of c.args.table.now c.args.volume) c.args.shards c.loop-server.server)
