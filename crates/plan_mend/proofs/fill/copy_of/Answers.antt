use Rattle.std.proofs.Common.{◌≡◌, ◌+◌, length, slice_set, sym, ◌∙◌, ap, subst, arith}
use Rattle.file_names.specs.Names.{max_shards}
use Rattle.shard_table.specs.Table.{Row, Table, place_in, row_of}
use Rattle.plan_mend.proofs.Copying.{IsCopied, row_set, one_copied, all_copied}
use Rattle.plan_mend.proofs.fill.copy_of.Goals as goal

pub loop-shard-preserved : goal.loop-shard-preserved
loop-shard-preserved c =
    let row = row_of c.args.table.now c.args.volume in
    let copy = row_of c.loop-shard.copy c.args.volume in
    let is : row_of c.set.new.self c.args.volume ≡ slice_set (row_of c.loop-shard.copy c.args.volume) c.loop-shard.shard (place_in (row_of c.args.table.now c.args.volume) c.loop-shard.shard) =
    ap (λ (t : Table). row_of t c.args.volume) c.set.ensures.placed ∙ row_set c.loop-shard.copy c.args.volume c.loop-shard.shard c.place.result
    ∙ ap (slice_set (row_of c.loop-shard.copy c.args.volume) c.loop-shard.shard) c.place.ensures.place in
    record {
      servers = ap (λ (t : Table). t.servers) c.set.ensures.placed ∙ c.loop-shard.invariant.servers;
      added = c.set.ensures.still_added;
      copied = subst (IsCopied (c.loop-shard.shard + 1) row) (sym is) (one_copied c.loop-shard.shard row copy (omega (arith, c.loop-shard-test.true)) c.loop-shard.invariant.copied);
    }

pub returns-clause-row : goal.returns-clause-row
returns-clause-row c =
    let row = row_of c.args.table.now c.args.volume in
    let copy = row_of c.loop-shard.copy c.args.volume in
    let last : c.loop-shard.shard ≡ max_shards = omega arith in
    all_copied row copy (subst (λ (r : Row). length r ≡ max_shards) c.row-row.ensures.row c.row-row.ensures.placed.shards)
    (subst (λ n. IsCopied n row copy) last c.loop-shard.invariant.copied)
