use Rattle.std.proofs.Common.{ℕ, ◌∙◌, Some, None, set, refl, ap}
use Rattle.std.specs.Prelude.{slice_index_or}
use Rattle.coded_volume.specs.declared.checking.ShardCopy.{ShardCopy}
use Rattle.site_recovery.specs.Listing.{lower_of}
use Rattle.site_recovery.proofs.Placed.{homes_none, homes_more}
use Rattle.site_recovery.proofs.placing.homes_of.Goals as goal

pub loop-copy-init : goal.loop-copy-init
loop-copy-init c = homes_none 16 refl

pub loop-copy-preserved : goal.loop-copy-preserved
loop-copy-preserved c =
    let d : ShardCopy = record { server = 0; shard = 0 } in
    homes_more c.args.copies.now c.loop-copy.copy-index d c.loop-copy.homes _ c.lower.result c.loop-copy-test.true (c.requires c.loop-copy.copy-index d c.loop-copy-test.true) c.loop-copy.invariant
    (c.lower.ensures ∙ ap (λ (i : ℕ). lower_of (slice_index_or c.loop-copy.homes i None) (slice_index_or c.args.copies.now c.loop-copy.copy-index d).server) c.from-shard.ensures)
    (ap (λ (i : ℕ). set c.loop-copy.homes i (Some c.lower.result)) c.from-shard.ensures)
