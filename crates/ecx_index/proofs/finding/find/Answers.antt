use Rattle.std.proofs.Common.{ℕ, ◌+◌, ◌-◌, ◌*◌, ◌/◌, List, drop, ◌∙◌, ap, arith}
use Rattle.site_model.specs.Disk.{Disk, bytes_of}
use Rattle.site_model.specs.Laws.Count.{calls_read, calls_on}
use Rattle.volume_forms.specs.Forms.{entry_at}
use Rattle.ecx_index.proofs.Halves.{upper_half, lower_half, none_left, once_more, few_reads, in_middle, found_at, less_at, more_at}
use Rattle.ecx_index.proofs.finding.find.Goals as goal

pub returns-in_err-entry-clause-calls : goal.returns-in_err-entry-clause-calls
returns-in_err-entry-clause-calls g c = λ told.
    few_reads (once_more _ (c.loop-low.high - c.loop-low.low) 0 (omega (arith, c.loop-low-test.true)) (omega arith) (c.loop-low.invariant.halved told) c.entry_in.ensures.counts)

pub returns-then-entry-id-clause-entry : goal.returns-then-entry-id-clause-entry
returns-then-entry-id-clause-entry g c = λ told.
    let middle : ℕ = c.loop-low.low + (c.loop-low.high - c.loop-low.low) / 2 in
    let bytes : List ℕ = bytes_of ((g.T.Site.disk c.args.site.now).files (c.args.server, c.args.name.now)) in
    found_at bytes c.args.id middle c.in_ok-entry.entry
    (in_middle bytes c.loop-low.low c.loop-low.high _ c.loop-low-test.true c.loop-low.invariant.within (c.loop-low.invariant.sized told))
    (c.in_ok-entry.ensures.entry told ∙ ap (λ (d : Disk). entry_at (drop (16 * middle) (bytes_of (d.files (c.args.server, c.args.name.now))))) (c.loop-low.invariant.same told))
    c.if-entry-id.true

pub returns-then-entry-id-clause-calls : goal.returns-then-entry-id-clause-calls
returns-then-entry-id-clause-calls g c = λ told.
    few_reads (once_more _ (c.loop-low.high - c.loop-low.low) 0 (omega (arith, c.loop-low-test.true)) (omega arith) (c.loop-low.invariant.halved told) c.entry_in.ensures.counts)

pub loop-low-preserved-then-entry-id-2 : goal.loop-low-preserved-then-entry-id-2
loop-low-preserved-then-entry-id-2 g c =
    let middle : ℕ = c.loop-low.low + (c.loop-low.high - c.loop-low.low) / 2 in
    record {
      within = c.loop-low.invariant.within;
      runs = calls_on c.loop-low.invariant.runs (calls_read (omega arith) c.in_ok-entry.ensures.counts c.entry_in.ensures.servers);
      same = λ told. c.entry_in.ensures.same told ∙ c.loop-low.invariant.same told;
      sized = c.loop-low.invariant.sized;
      between = λ told rising.
          let bytes : List ℕ = bytes_of ((g.T.Site.disk c.args.site.now).files (c.args.server, c.args.name.now)) in
          upper_half bytes c.args.id c.loop-low.low c.loop-low.high middle rising
          (in_middle bytes c.loop-low.low c.loop-low.high _ c.loop-low-test.true c.loop-low.invariant.within (c.loop-low.invariant.sized told))
          (less_at bytes c.args.id middle c.in_ok-entry.entry
          (c.in_ok-entry.ensures.entry told ∙ ap (λ (d : Disk). entry_at (drop (16 * middle) (bytes_of (d.files (c.args.server, c.args.name.now))))) (c.loop-low.invariant.same told))
          c.if-entry-id-2.true)
          (c.loop-low.invariant.between told rising);
      halved = λ told. once_more _ (c.loop-low.high - c.loop-low.low) (c.loop-low.high - (c.loop-low.low + (c.loop-low.high - c.loop-low.low) / 2 + 1)) (omega (arith, c.loop-low-test.true)) (omega (arith, c.loop-low-test.true)) (c.loop-low.invariant.halved told) c.in_ok-entry.ensures.counts;
    }

pub loop-low-preserved : goal.loop-low-preserved
loop-low-preserved g c =
    let middle : ℕ = c.loop-low.low + (c.loop-low.high - c.loop-low.low) / 2 in
    record {
      within = omega (arith, c.loop-low-test.true, c.loop-low.invariant.within);
      runs = calls_on c.loop-low.invariant.runs (calls_read (omega arith) c.in_ok-entry.ensures.counts c.entry_in.ensures.servers);
      same = λ told. c.entry_in.ensures.same told ∙ c.loop-low.invariant.same told;
      sized = c.loop-low.invariant.sized;
      between = λ told rising.
          let bytes : List ℕ = bytes_of ((g.T.Site.disk c.args.site.now).files (c.args.server, c.args.name.now)) in
          lower_half bytes c.args.id c.loop-low.low c.loop-low.high middle rising
          (in_middle bytes c.loop-low.low c.loop-low.high _ c.loop-low-test.true c.loop-low.invariant.within (c.loop-low.invariant.sized told))
          (more_at bytes c.args.id middle c.in_ok-entry.entry
          (c.in_ok-entry.ensures.entry told ∙ ap (λ (d : Disk). entry_at (drop (16 * middle) (bytes_of (d.files (c.args.server, c.args.name.now))))) (c.loop-low.invariant.same told))
          c.if-entry-id-2.false c.if-entry-id.false)
          (c.loop-low.invariant.between told rising);
      halved = λ told. once_more _ (c.loop-low.high - c.loop-low.low) (c.loop-low.low + (c.loop-low.high - c.loop-low.low) / 2 - c.loop-low.low) (omega (arith, c.loop-low-test.true)) (omega (arith, c.loop-low-test.true)) (c.loop-low.invariant.halved told) c.in_ok-entry.ensures.counts;
    }

pub returns-clause-entry : goal.returns-clause-entry
returns-clause-entry g c = λ told rising. none_left _ c.args.id c.loop-low.low c.loop-low.high c.loop-low-test.false (c.loop-low.invariant.between told rising)
