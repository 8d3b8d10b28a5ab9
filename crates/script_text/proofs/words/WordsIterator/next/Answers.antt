use Rattle.std.proofs.Common.{◌≡◌, length, drop, sym, ap, ◌∙◌, arith}
use Rattle.std.proofs.lemmas.Bool.{eqb-true, eqb-false}
use Rattle.script_text.proofs.WordLaws.{spaces, words-none, words-cut}
use Rattle.script_text.proofs.words.WordsIterator.next.Goals as goal

pub returns-then-is_empty-clause-steps : goal.returns-then-is_empty-clause-steps
returns-then-is_empty-clause-steps c =
    let behind : c.split_at.result.1.now ≡ drop (spaces c.self.inside.rest.now) c.self.inside.rest.now = c.split_at.ensures.back ∙ ap (λ n. drop n c.self.inside.rest.now) c.spaces_before.ensures.count in
    let empty : length c.split_at.result.1.now ≡ 0 = eqb-true _ 0 (sym c.is_empty.ensures ∙ c.if-is_empty.true) in
    let here = sym c.self.view_is ∙ words-none c.self.inside.rest.now (ap length (sym behind) ∙ empty) in
    (here, here)

pub returns-clause-steps : goal.returns-clause-steps
returns-clause-steps c =
    let not_none : length c.split_at.result.1.now ≡ 0 → ⊥ = eqb-false (length c.split_at.result.1.now) 0 (sym c.is_empty.ensures ∙ c.if-is_empty.false) in
    sym c.self.view_is
    ∙ words-cut c.self.inside.rest.now c.split_at.result.1.now c.split_at-2.result.0.now c.split_at-2.result.1.now c.spaces_before.result c.word_length.result
    c.spaces_before.ensures.count c.split_at.ensures.back (omega arith) c.word_length.ensures.count c.split_at-2.ensures.front c.split_at-2.ensures.back

pub returns-clause-goes : goal.returns-clause-goes
returns-clause-goes c =
    let fewer = ap length (returns-clause-steps c) in
    record { on = λ _. (tt, tt, omega (arith, fewer)); keeps = tt; rests = λ _. tt }
