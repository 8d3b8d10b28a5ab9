use Rattle.std.proofs.Common.{◌≡◌, ◌+◌, ◌-◌, ◌<◌, length, take, drop, ◌∙◌, length-take, length-drop, arith}
use Rattle.site_model.specs.Laws.Count.{takes_within}
use Rattle.degraded_read.proofs.Filling.{on_ok, at_middle}
use Rattle.degraded_read.proofs.Calling.{reads_so}
use Rattle.degraded_read.proofs.reader.Reader.read_between.Goals as goal

pub returns-clause-part : goal.returns-clause-part
returns-clause-part g c =
    let from = c.args.from in
    let size = c.args.part.length in
    let out = c.args.out.now in
    let front : length (take c.args.from c.args.out.now) ≡ c.args.from = omega (arith, length-take from out, c.requires.within) in
    let wide : length (take (c.args.from + c.args.part.length - c.args.from) (drop c.args.from c.args.out.now)) ≡ c.args.part.length =
    omega (arith, length-take (from + size - from) (drop from out), length-drop from out, c.requires.within) in
    on_ok c.read_part.result
    (λ read told certain i h.
    let inside : i < length c.read_part.new.out = omega (arith, h, wide, c.read_part.auto.out) in
    at_middle (take from out) c.read_part.new.out _ from i front inside ∙ read told certain i inside)
    c.read_part.ensures.part

pub returns-clause-reads : goal.returns-clause-reads
returns-clause-reads g c =
    let from = c.args.from in
    let size = c.args.part.length in
    let out = c.args.out.now in
    let wide : length (take (c.args.from + c.args.part.length - c.args.from) (drop c.args.from c.args.out.now)) ≡ c.args.part.length =
    omega (arith, length-take (from + size - from) (drop from out), length-drop from out, c.requires.within) in
    reads_so (takes_within (omega arith) (omega (arith, wide))) c.read_part.ensures.reads
