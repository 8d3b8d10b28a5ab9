use Rattle.std.proofs.Common.{◌∙◌, ap, arith}
use Rattle.dat_volume.specs.declared.chain.Chain.{Chain}
use Rattle.dat_volume.proofs.Scanned.{scan_step, scan_end}
use Rattle.dat_volume.proofs.index_file.scan_piece.Goals as goal

pub loop-entry-preserved : goal.loop-entry-preserved
loop-entry-preserved c = record {
  fits = omega (arith, ap (λ (ch : Chain). ch.count) c.push-chain.ensures, c.in-Some.ensures.cases.2);
  rest =
      scan_step _ _ _ _ _ c.read_entry.result c.in-Some.ensures.cases.0 c.in-Some.ensures.cases.1 (omega (arith, c.in-Some.ensures.cases.2)) c.read_entry.ensures.value c.push-chain.ensures
      ∙ c.loop-entry.invariant.rest;
}

pub returns : goal.returns
returns c = scan_end _ _ c.in_default.ensures.cases ∙ c.loop-entry.invariant.rest
