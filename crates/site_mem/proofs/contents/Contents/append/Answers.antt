use Rattle.std.proofs.Common.{◌∙◌, ap, refl, Some}
use Rattle.std.proofs.lemmas.Result.{on_ok_weaker, on_err_weaker}
use Rattle.site_model.specs.Disk.{grown}
use Rattle.site_mem.proofs.Keeping.{place_stays, apart_changed, files_changed, put_same}
use Rattle.site_mem.proofs.contents.Contents.append.Goals as goal

pub invariant_of-self : goal.invariant_of-self
invariant_of-self c =
    let here = c.in-Some.ensures in
    let apart = c.args.self.now.apart in
    record { apart = apart_changed _ _ _ here apart c.grow.new.self (place_stays _ _ _ here apart _ c.grow.new.self c.index_mut.ensures.value c.grow.ensures.place) }

pub returns-in-Some-clause-ok : goal.returns-in-Some-clause-ok
returns-in-Some-clause-ok c = on_ok_weaker c.grow.result
    (λ e. files_changed _ _ _ c.in-Some.ensures c.args.self.now.apart _ c.grow.new.self (λ file. Some (grown file c.args.bytes.now)) c.index_mut.ensures.value c.grow.ensures.place (ap Some e))
    c.grow.ensures.ok

pub returns-in-Some-clause-err : goal.returns-in-Some-clause-err
returns-in-Some-clause-err c = on_err_weaker c.grow.result
    (λ e. files_changed _ _ _ c.in-Some.ensures c.args.self.now.apart _ c.grow.new.self (λ file. file) c.index_mut.ensures.value c.grow.ensures.place (ap Some e) ∙ put_same _ _ _ refl)
    c.grow.ensures.err
