use Rattle.std.proofs.Common.{◌≡◌, ◌+◌, ◌*◌, ◌<◌, ◌≤◌, ℕ, zero, suc, List, Option, Some, None, length, take, refl, ◌∙◌, ap, subst, length-take, arith}
use Rattle.std.specs.Prelude.{IsSome}
use Rattle.std.proofs.lemmas.List.{get_or-take}
use Rattle.site_model.specs.Laws.Count.{later_none}
use Rattle.world_model.specs.declared.types.Ratio.{Ratio}
use Rattle.world_model.specs.Ratios.{data_count, parity_count, data_count-twelve}
use Rattle.rs_kernel.specs.Pieces.{IsRestored}
use Rattle.degraded_read.specs.Gathering.{AreNumbers, standing_in}
use Rattle.degraded_read.proofs.Restored.{restored_bytes}
use Rattle.degraded_read.proofs.restoring.restored.Goals as goal

-- a server that failed is told, since one failed before or not enough could be read
some_failed : (before now : Option ℕ) → (now ≡ None → before ≡ None) → (before ≡ None → IsSome now) → IsSome now
some_failed before (Some s) kept enough = refl
some_failed before None kept enough = enough (kept refl)

pub blamed-requires : goal.blamed-requires
blamed-requires g c =
    let found = c.gather-found.ensures.gathered (g.T.Site.counts c.args.site.now) (later_none (g.T.Site.counts c.args.site.now)) in
    let count = c.gather-found.result.count in
    let few : length (take c.gather-found.result.count c.gather-found.result.have) < data_count c.args.ratio =
    omega (arith, length-take count c.gather-found.result.have, c.if-found-enough.true, c.from-enough.ensures, c.data_count.ensures) in
    some_failed c.args.failed.now c.gather-found.result.failed c.gather-found.ensures.blamed.kept (λ none. found.some_failed few (c.requires.enough none))

pub returns-then-found-enough-clause-fails : goal.returns-then-found-enough-clause-fails
returns-then-found-enough-clause-fails g c = record {
  stays = c.gather-found.ensures.blamed;
  told = c.blamed.ensures;
  few = λ old before.
      let found = c.gather-found.ensures.gathered old before in
      found.few (omega (arith, length-take c.gather-found.result.count c.gather-found.result.have, c.if-found-enough.true, c.from-enough.ensures, c.data_count.ensures));
}

-- as many were read as give the others
as_many : (count enough : ℕ) (have : List ℕ) (r : Ratio) → AreNumbers (data_count r) count have → enough ≡ data_count r → enough ≤ count → length (take count have) ≡ data_count r
as_many count enough have r numbers is reached = omega (arith, length-take count have, numbers.room, numbers.few, is, reached, data_count-twelve r)

pub restore_piece-requires-clause-have : goal.restore_piece-requires-clause-have
restore_piece-requires-clause-have g c =
    let found = c.gather-found.ensures.gathered (g.T.Site.counts c.args.site.now) (later_none (g.T.Site.counts c.args.site.now)) in
    record {
      count = as_many c.gather-found.result.count c.from-enough.result c.gather-found.result.have c.args.ratio c.gather-found.ensures.numbers (c.from-enough.ensures ∙ c.data_count.ensures) c.if-found-enough.false;
      shards = record { below = found.below; distinct = found.distinct };
    }

pub returns-clause-part : goal.returns-clause-part
returns-clause-part g c told =
    let found = c.gather-found.ensures.gathered (g.T.Site.counts c.args.site.now) (later_none (g.T.Site.counts c.args.site.now)) in
    let files = (g.T.Site.disk c.args.site.now).files in
    let have = take c.gather-found.result.count c.gather-found.result.have in
    let count : length (take c.gather-found.result.count c.gather-found.result.have) ≡ data_count c.args.ratio =
    as_many c.gather-found.result.count c.from-enough.result c.gather-found.result.have c.args.ratio c.gather-found.ensures.numbers (c.from-enough.ensures ∙ c.data_count.ensures) c.if-found-enough.false in
    let k = data_count c.args.ratio in
    let m = parity_count c.args.ratio in
    let size = length c.args.out.now in
    let room = c.gather-found.new.room in
    let whole = c.from-enough.result * length c.args.out.now in
    let inside : (p q : ℕ) → p < length (take c.gather-found.result.count c.gather-found.result.have) → q < length c.args.out.now → p * length c.args.out.now + q < c.from-enough.result * length c.args.out.now =
    λ p q h l. within p c.from-enough.result (length c.args.out.now) q (omega (arith, h, count, c.from-enough.ensures, c.data_count.ensures)) l in
    record {
      have = have;
      shards = record { count = count; shards = record { below = found.below; distinct = found.distinct } };
      placed = found.placed;
      lowest = λ none. found.lowest none ∙ ap (λ n. take n (standing_in c.args.places.now (k + m))) count;
      bytes = restored_bytes k m files c.args.volume c.args.places.now have (take whole room) c.restore_piece.new.out c.args.at size c.args.shard c.restore_piece.auto.out count
          (λ p h q l. get_or-take whole room (p * length c.args.out.now + q) 0 (inside p q h l) ∙ found.pieces told p h q l)
          (subst (λ l. IsRestored k m l have (take whole room) c.args.shard c.restore_piece.new.out) c.restore_piece.auto.out c.restore_piece.ensures);
    }
  where
    within : (n m size i : ℕ) → n < m → i < size → n * size + i < m * size
    within n zero size i h k = absurd (omega arith)
    within zero (suc m) size i h k = omega arith
    within (suc n) (suc m) size i h k = omega (arith, within n m size i (omega arith) k)

pub returns-clause-fails : goal.returns-clause-fails
returns-clause-fails g c = record { stays = c.gather-found.ensures.blamed; told = tt; few = tt }
