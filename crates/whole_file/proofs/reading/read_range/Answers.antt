use Rattle.std.proofs.Common.{ℕ, List, take, drop, ◌+◌, ◌∙◌, ap, arith}
use Rattle.std.proofs.lemmas.Grind.{common_steps}
use Rattle.site_model.specs.Disk.{bytes_of}
use Rattle.site_model.specs.Laws.Count.{calls_read, calls_on}
use Rattle.whole_file.proofs.Counting.{next_read}
use Rattle.whole_file.proofs.Joining.{piece_joins}
use Rattle.whole_file.proofs.reading.read_range.Goals as goal

pub loop-done-preserved : goal.loop-done-preserved
loop-done-preserved g c = record {
  within = omega arith;
  size = grind (arith, common_steps);
  calls = next_read _ c.loop-done.done _ _ (omega arith) (grind (arith, common_steps)) (grind (arith, common_steps)) c.loop-done.invariant.calls c.in-Ok.ensures.counts;
  runs = calls_on c.loop-done.invariant.runs (calls_read (grind (arith, common_steps)) c.in-Ok.ensures.counts c.read.ensures.servers);
  same = λ told. c.read.ensures.same told ∙ c.loop-done.invariant.same told;
  read = λ told. piece_joins _ c.loop-done.done c.min.result c.args.at c.deref_mut.result.now c.read.new.out _ _ _
      (grind (arith, common_steps))
      (grind (arith, common_steps))
      (grind (arith, common_steps))
      (ap (λ (l : List ℕ). take c.loop-done.done l) c.deref_mut.ensures.value ∙ c.loop-done.invariant.read told)
      (c.in-Ok.ensures.bytes told ∙ rw (c.loop-done.invariant.same told)
      (ap (λ (n : ℕ). take n (drop (c.args.at + c.loop-done.done) (bytes_of ((g.T.Site.disk c.args.site.now).files (c.args.server, c.args.name.now))))) (grind (arith, common_steps))));
}
