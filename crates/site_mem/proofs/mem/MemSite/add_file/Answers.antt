use Rattle.std.proofs.Common.{refl, arith}
use Rattle.std.proofs.lemmas.Result.{on_ok_weaker, on_err_weaker}
use Rattle.site_mem.specs.Held.{disk_held, call_held}
use Rattle.site_mem.proofs.Recording.{disk_entered, disk_kept}
use Rattle.site_mem.proofs.Calling.{steps_from, numbered_stepped, since_stepped, within_stepped}
use Rattle.site_mem.proofs.SinceStart.{calls_stepped}
use Rattle.site_mem.proofs.mem.MemSite.add_file.Goals as goal

pub invariant_of-self : goal.invariant_of-self
invariant_of-self c =
    let old = c.args.self.now in
    let steps = steps_from c.enter.result c.enter.ensures.ok c.enter.ensures.err in
    record {
      some = old.some;
      few = old.few;
      numbered = numbered_stepped old.tally.calls old.tally.calls _ steps (omega arith) (omega arith) old.numbered;
      since = since_stepped old.tally.calls old.tally.calls _ steps (omega arith) old.since;
      within = within_stepped old.servers _ steps c.requires.server old.within;
      asked = calls_stepped _ steps refl old.asked;
    }

pub returns-clause-ok : goal.returns-clause-ok
unfolding disk_held call_held
returns-clause-ok c = on_ok_weaker c.enter.result (λ is. disk_entered is) c.enter.ensures.ok

pub returns-clause-err : goal.returns-clause-err
unfolding disk_held
returns-clause-err c = on_err_weaker c.enter.result (λ is. disk_kept is) c.enter.ensures.err
