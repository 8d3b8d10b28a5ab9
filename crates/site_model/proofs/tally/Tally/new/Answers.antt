use Rattle.std.proofs.Common.{ℕ, refl, arith}
use Rattle.site_model.proofs.Fills.{filled}
use Rattle.site_model.proofs.tally.Tally.new.Goals as goal

pub invariant_of-result : goal.invariant_of-result
invariant_of-result c = record {
  faults_fit = λ i. omega (arith, filled {A = ℕ} 64 i 0);
  write_faults_fit = λ i. omega (arith, filled {A = ℕ} 64 i 0);
  say_faults_fit = omega arith;
  calls_fit = omega arith;
}

pub returns : goal.returns
returns c = record {
  faults = λ server. filled 64 server 0;
  write_faults = λ server. filled 64 server 0;
  say_faults = refl;
  calls = refl;
  widest = refl;
}
