use Rattle.std.proofs.Common.{◌+◌}
use Rattle.job_board.specs.Jobs.{Jobs}
use Rattle.job_board.proofs.Boards.{IsBoard-without}
use Rattle.job_board.proofs.Board.finish.Goals as goal

pub invariant_of-self : goal.invariant_of-self
invariant_of-self g c =
    let board : Jobs g.row.W.Denot = record { unfinished = c.self.inside.jobs.items; next = c.self.inside.started + 1 } in
    rw c.remove_job.ensures (IsBoard-without board c.args.job c.self.invariant)
