use Rattle.std.proofs.Common.{◌∙◌, ℕ, Err, ap, sym, arith}
use Rattle.std.proofs.lemmas.Result.{err_from_is_err_and}
use Rattle.site_model.specs.declared.error.OpenFault.TheVariants.{Unsound}
use Rattle.ecx_index.proofs.Taken.{one_done, all_done, one_refused}
use Rattle.ecx_index.proofs.loading.Loading.take_all.Goals as goal

pub returns-in_err-take-clause-refused : goal.returns-in_err-take-clause-refused
returns-in_err-take-clause-refused c =
    let p = err_from_is_err_and c.from_residual.result c.from_residual.ensures.1 in
    rw (p.1, p.2) (λ told.
    one_refused c.args.bytes.now c.loop-entry.rest.now c.in-Some.entry.now c.in-Some.behind.now c.read_entry.result c.args.self.now c.loop-entry.self
    c.loop-entry.invariant.done c.in-Some.ensures.cases.0 c.in-Some.ensures.cases.1 (omega (arith, c.in-Some.ensures.cases.2)) c.read_entry.ensures.value
    (c.in_err-take.ensures.refused (told ∙ ap (λ (v : ℕ). Err (Unsound v 5)) (sym c.loop-entry.invariant.volume))))

pub loop-entry-preserved : goal.loop-entry-preserved
loop-entry-preserved c = record {
  volume = c.take.ensures.volume ∙ c.loop-entry.invariant.volume;
  done =
      one_done c.args.bytes.now c.loop-entry.rest.now c.in-Some.entry.now c.in-Some.behind.now c.read_entry.result c.args.self.now c.loop-entry.self c.take.new.self
      c.loop-entry.invariant.done c.in-Some.ensures.cases.0 c.in-Some.ensures.cases.1 (omega (arith, c.in-Some.ensures.cases.2)) c.read_entry.ensures.value
      c.in_ok-take.ensures.taken;
}

pub returns-clause-taken : goal.returns-clause-taken
returns-clause-taken c = all_done c.args.bytes.now c.loop-entry.rest.now c.args.self.now c.loop-entry.self c.loop-entry.invariant.done c.in_default.ensures.cases
