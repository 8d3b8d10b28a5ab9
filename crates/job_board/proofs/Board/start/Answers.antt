use Rattle.std.proofs.Common.{◌≡◌, ◌+◌, None, arith}
use Rattle.std.specs.List.{find}
use Rattle.job_board.specs.Jobs.{Jobs, has_volume}
use Rattle.job_board.proofs.Boards.{IsBoard-with_job}
use Rattle.job_board.proofs.Board.start.Goals as goal

pub invariant_of-self : goal.invariant_of-self
invariant_of-self g c =
    let board : Jobs g.row.W.Denot = record { unfinished = c.self.inside.jobs.items; next = c.self.inside.started + 1 } in
    let free : find (has_volume c.args.volume) board.unfinished ≡ None = rw (← c.self.view_is) at c.requires.free in
    rw c.in-Ok.ensures.items (IsBoard-with_job board c.args.volume c.args.work (omega arith) free c.self.invariant)
