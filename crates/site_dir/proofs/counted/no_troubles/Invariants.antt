-- as many troubles as turns so far
use Rattle.std.proofs.Common.{◌≡◌, vec_len}
use Rattle.site_dir.proofs.counted.no_troubles.Given as goal

abbrev pub invariant-loop : goal.invariant-loop
invariant-loop l = vec_len l.troubles ≡ l.counter
