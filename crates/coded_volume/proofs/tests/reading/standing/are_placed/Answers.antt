use Rattle.std.proofs.Common.{◌≡◌, inl, inr, None, Some, sym, ◌∙◌, ap, subst, arith}
use Rattle.std.proofs.lemmas.Bool.{cases_lt}
use Rattle.std.proofs.lemmas.List.{get_or_past}
use Rattle.site_mem.specs.Site.{disk_at}
use Rattle.shard_table.specs.Table.{place_in}
use Rattle.degraded_read.specs.Reading.{IsShardFile}
use Rattle.coded_volume.proofs.tests.reading.standing.are_placed.Goals as goal

none_some : {A : Type 0} {x : A} → None ≡ Some x → ⊥
none_some e = cc

pub loop-shard-preserved : goal.loop-shard-preserved
loop-shard-preserved c = record {
  placed = λ i s h e. elim (cases_lt i c.loop-shard.shard) [
    | inl before ↦ c.loop-shard.invariant.placed i s before e
    | inr here ↦
        let same : c.loop-shard.shard ≡ i = omega arith in
        subst (λ j. IsShardFile (disk_at c.args.site.now).files 7 c.args.size j s) same
        (c.is_placed.ensures c.if-not-is_placed.false c.loop-shard.shard s (c.deref.ensures ∙ c.in_ok-name.ensures) (ap (place_in c.args.places.now) (c.from.ensures ∙ same) ∙ e))
  ];
}

pub returns : goal.returns
returns c = λ t i s e. elim (cases_lt i 16) [
  | inl low ↦ c.loop-shard.invariant.placed i s (omega (arith, low, c.loop-shard-test.false)) e
  | inr high ↦ absurd (none_some (sym (get_or_past c.args.places.now i None (omega (arith, high, c.told-places))) ∙ e))
]
