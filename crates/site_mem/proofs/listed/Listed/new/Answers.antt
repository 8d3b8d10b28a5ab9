use Rattle.std.proofs.Common.{ℕ, Option, None}
use Rattle.site_mem.proofs.Fills.{filled}
use Rattle.site_mem.proofs.listed.Listed.new.Goals as goal

pub returns-clause-reads : goal.returns-clause-reads
returns-clause-reads c server = filled {A = Option ℕ} 64 server None
