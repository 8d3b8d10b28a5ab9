use Rattle.std.proofs.Common.{◌≡◌, [], sym, ◌∙◌, ap, subst}
use Rattle.shard_table.specs.Table.{Table, no_places, row_of}
use Rattle.site_recovery.specs.Answering.{HasHomes, HasRow, HasShardsOf, coded_number}
use Rattle.site_recovery.specs.declared.forms.TestedGroup.{TestedGroup}
use Rattle.site_recovery.proofs.Homed.{none_coded, shards_none, shards_skip, shards_more, this_fresh}
use Rattle.site_recovery.proofs.answering.listed.table_of.Goals as goal
use Rattle.site_recovery.proofs.answering.listed.table_of.Goals.{in-Coded+in_ok-add_homes, in_default}

pub loop-found-init : goal.loop-found-init
loop-found-init c = record {
  servers = ap (λ (t : Table). t.servers) c.new-table.ensures;
  shards = subst (HasShardsOf []) (sym c.new-table.ensures) (shards_none c.args.servers);
}

pub add_homes-requires-clause-fresh : goal.add_homes-requires-clause-fresh
add_homes-requires-clause-fresh c = subst (λ (t : TestedGroup). row_of c.loop-found.table t.group.volume ≡ no_places) (sym c.found-item.is)
    (this_fresh c.args.tested.now c.loop-found.found-index c.found-item.result c.loop-found-test.true c.loop-found.table c.loop-found.invariant.shards c.requires.rise)

pub loop-found-preserved : goal.loop-found-preserved
loop-found-preserved c = elim c.match-found.branch [
  | in-Coded+in_ok-add_homes w ↦ rw w.table-is (record {
    servers = w.in_ok-add_homes.ensures.others.servers ∙ c.loop-found.invariant.servers;
    shards = shards_more c.args.tested.now c.loop-found.found-index c.found-item.result c.loop-found-test.true c.loop-found.table c.loop-found.invariant.shards c.requires.rise w.add_homes.new.table w.in-Coded.copies w.in-Coded.checked
        (ap (λ (t : TestedGroup). t.form) (sym c.found-item.is) ∙ w.in-Coded.is)
        (subst (λ (t : TestedGroup). HasHomes w.add_homes.new.table t.group.volume w.in-Coded.copies.items) c.found-item.is
        (subst (HasHomes w.add_homes.new.table c.found-item.result.group.volume) w.deref.ensures.value w.in_ok-add_homes.ensures.homes))
        (subst (λ (t : TestedGroup). HasRow t.group.volume (row_of w.add_homes.new.table t.group.volume) c.loop-found.table w.add_homes.new.table) c.found-item.is w.in_ok-add_homes.ensures.others);
  })
  | in_default w ↦ rw w.table-is (record {
    servers = c.loop-found.invariant.servers;
    shards = shards_skip c.args.tested.now c.loop-found.found-index c.found-item.result c.loop-found-test.true c.loop-found.table c.loop-found.invariant.shards
        (ap coded_number (sym c.found-item.is) ∙ none_coded c.found-item.result.group.volume c.found-item.result.form w.in_default.not-Coded);
  })
]
