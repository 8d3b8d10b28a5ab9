use Rattle.std.proofs.Common.{◌+◌, ◌-◌, arith}
use Rattle.std.proofs.lemmas.Grind.{common_steps}
use Rattle.site_model.specs.Laws.Count.{calls_write, calls_on}
use Rattle.whole_file.proofs.Counting.{first_sent, next_sent, slice_long}
use Rattle.whole_file.proofs.Appending.{first_some, first_done, next_some, next_done, slice_fits, slice_joins}
use Rattle.whole_file.proofs.pieces.append_all.Goals as goal

pub returns-in_err-append-clause-effect : goal.returns-in_err-append-clause-effect
returns-in_err-append-clause-effect g c = λ told. first_some _ _ _ _ _ (grind (arith, common_steps)) (c.append.ensures.effect told)

pub loop-at-init : goal.loop-at-init
loop-at-init g c = record {
  within = omega arith;
  calls = first_sent _ c.min-at.result _ (grind (arith, common_steps)) (grind (arith, common_steps)) c.in_ok-append.ensures.counts;
  runs = calls_write (grind (arith, common_steps)) c.in_ok-append.ensures.counts c.append.ensures.servers;
  effect = λ told. first_done _ _ _ c.min-at.result _ _ (grind (arith, common_steps)) (grind (arith, common_steps)) (c.append.ensures.effect told) (c.in_ok-append.ensures.done told);
}

pub returns-in_err-append-2-clause-effect : goal.returns-in_err-append-2-clause-effect
returns-in_err-append-2-clause-effect g c = λ told. next_some _ _ _ c.loop-at.at _ _ _ (slice_fits _ c.loop-at.at (c.loop-at.at + c.min.result) (omega arith) (omega arith)) (c.loop-at.invariant.effect told) (c.append-in-loop-at.ensures.effect told)

pub loop-at-preserved : goal.loop-at-preserved
loop-at-preserved g c = record {
  within = omega arith;
  calls = next_sent _ c.loop-at.at _ _ (omega arith) (grind (arith, slice_long)) (grind (arith, slice_long)) c.loop-at.invariant.calls c.in_ok-append-2.ensures.counts;
  runs = calls_on c.loop-at.invariant.runs (calls_write (grind (arith, slice_long)) c.in_ok-append-2.ensures.counts c.append-in-loop-at.ensures.servers);
  effect = λ told. next_done _ _ _ c.loop-at.at _ _ _ _ (slice_fits _ c.loop-at.at (c.loop-at.at + c.min.result) (omega arith) (omega arith)) (slice_joins _ c.loop-at.at (c.loop-at.at + c.min.result) (omega arith)) (c.loop-at.invariant.effect told) (c.append-in-loop-at.ensures.effect told) (c.in_ok-append-2.ensures.done told);
}
