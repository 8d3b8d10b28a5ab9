use Rattle.std.proofs.Common.{◌<◌, ◌∙◌, length, get_or, sym, ap, subst, arith}
use Rattle.site_mem.specs.Held.{disk_held, call_held, loss_held}
use Rattle.site_mem.specs.Kept.{are_apart}
use Rattle.site_mem.specs.Site.{disk_at, call_at}
use Rattle.site_mem.proofs.Leaving.{reached_from, reached_server, torn_none, torn_absent, torn_more, torn_all, spoken_first, front_at}
use Rattle.site_mem.proofs.SinceStart.{since_start}
use Rattle.site_mem.proofs.Tearing.{left_by}
use Rattle.site_mem.proofs.mem.MemSite.left.Goals as goal

pub loop-file-init : goal.loop-file-init
loop-file-init c = torn_none _ _ _ _ _ c.tell.new.self c.in_ok-site.ensures c.in_ok-tell.ensures.ok c.in_ok-tell.ensures.unused

pub add_torn-requires-clause-server : goal.add_torn-requires-clause-server
add_torn-requires-clause-server c =
    let old = c.args.self.now in
    let all = c.deref-file-items.ensures.value in
    let i = c.loop-file.file-index in
    let file = c.file-item.result in
    let within : i < length c.reach.new.self.files.items = omega (arith, ap length all) in
    let reached = reached_from c.args.tear _ c.in_ok-contents.contents c.reach.new.self _ c.in_ok-contents.ensures c.asked_at.ensures c.in_ok-reach.ensures.files c.in_ok-reach.ensures.said in
    subst (λ n. file.server < n) (sym c.loop-file.invariant.unused.servers_are)
    (reached_server old.servers c.args.call i c.args.tear old.history.entries.items old.history.lost.since c.reach.new.self file within (c.file-item.is ∙ ap (λ l. get_or l i file) all) old.within reached)

pub add_torn-requires-clause-absent : goal.add_torn-requires-clause-absent
add_torn-requires-clause-absent c =
    let kept = c.deref-file-items.result.now in
    torn_absent c.args.tear c.args.self.now.servers c.loop-file.file-index kept (disk_at c.tell.new.self).said c.file-item.result c.loop-file-test.true c.file-item.is
    (ap are_apart c.deref-file-items.ensures.value ∙ c.reach.new.self.apart) c.loop-file.site c.loop-file.invariant

pub loop-file-preserved : goal.loop-file-preserved
loop-file-preserved c =
    let kept = c.deref-file-items.result.now in
    let did = c.in_ok-add_torn.ensures in
    torn_more c.args.tear c.args.self.now.servers c.loop-file.file-index kept (disk_at c.tell.new.self).said c.file-item.result c.loop-file-test.true c.file-item.is
    (ap are_apart c.deref-file-items.ensures.value ∙ c.reach.new.self.apart) c.loop-file.site c.add_torn.new.self c.loop-file.invariant did.files did.said did.past did.unused

pub returns-clause-torn : goal.returns-clause-torn
unfolding disk_held call_held
returns-clause-torn c =
    let reached = reached_from c.args.tear _ c.in_ok-contents.contents c.reach.new.self _ c.in_ok-contents.ensures c.asked_at.ensures c.in_ok-reach.ensures.files c.in_ok-reach.ensures.said in
    torn_all c.args.tear c.args.self.now.servers c.loop-file.file-index _ c.reach.new.self c.deref-file-items.result.now (disk_at c.tell.new.self).said c.loop-file.site c.deref-file-items.ensures.value
    (spoken_first c.deref.result.now c.args.self.now.servers c.in_ok-site.site c.tell.new.self c.in_ok-site.ensures c.in_ok-tell.ensures.ok ∙ c.deref.ensures.value)
    c.loop-file-test.false reached c.loop-file.invariant

pub returns-clause-left : goal.returns-clause-left
unfolding disk_held call_held
returns-clause-left c =
    let reached = reached_from c.args.tear _ c.in_ok-contents.contents c.reach.new.self _ c.in_ok-contents.ensures c.asked_at.ensures c.in_ok-reach.ensures.files c.in_ok-reach.ensures.said in
    left_by c.args.tear (call_at c.args.self.now c.args.call) (disk_at c.loop-file.site)
    (torn_all c.args.tear c.args.self.now.servers c.loop-file.file-index _ c.reach.new.self c.deref-file-items.result.now (disk_at c.tell.new.self).said c.loop-file.site c.deref-file-items.ensures.value
    (spoken_first c.deref.result.now c.args.self.now.servers c.in_ok-site.site c.tell.new.self c.in_ok-site.ensures c.in_ok-tell.ensures.ok ∙ c.deref.ensures.value)
    c.loop-file-test.false reached c.loop-file.invariant)
    (front_at _ c.in_ok-contents.contents c.in_ok-contents.ensures)

pub returns-clause-since_start : goal.returns-clause-since_start
unfolding disk_held call_held loss_held
returns-clause-since_start c none = since_start c.args.call c.args.self.now.history (disk_at c.loop-file.site) c.requires.some c.args.self.now.asked none (returns-clause-left c)
