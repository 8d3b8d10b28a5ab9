use Rattle.std.proofs.Common.{◌+◌, Some}
use Rattle.job_board.specs.Jobs.{Jobs}
use Rattle.job_board.proofs.Boards.{IsBoard-with_work}
use Rattle.job_board.proofs.Board.give.Goals as goal

pub invariant_of-self : goal.invariant_of-self
invariant_of-self g c =
    let board : Jobs g.row.W.Denot = record { unfinished = c.self.inside.jobs.items; next = c.self.inside.started + 1 } in
    rw c.put_work.ensures (IsBoard-with_work board c.args.job (Some c.args.work) c.self.invariant)
