use Rattle.std.proofs.Common.{◌≡◌, ℕ, List, [], length, take, drop, refl, Result, Ok, Err, sym, ap, subst, ◌∙◌, arith}
use Rattle.std.proofs.lemmas.List.{nil_from_length}
use Rattle.std.proofs.lemmas.Bool.Decides.{nat_tests}
use Rattle.world_model.specs.declared.types.Content.{Content}
use Rattle.needle_record.specs.declared.fields.Parts.{Parts}
use Rattle.needle_record.specs.declared.NeedleFault.{NeedleFault}
use Rattle.needle_record.specs.Reading.{content_at, content_or_fault}
use Rattle.needle_record.specs.Given.{Gives, content_of}
use Rattle.needle_record.specs.Laws.FieldSizes.{content_at-reads}
use Rattle.needle_record.proofs.reading.parts_of.Goals as goal

-- fields with nothing behind them, and the data that they begin with
record Ends (fields bytes rest : List ℕ) (parts : Parts) : Type 0 where
  given : content_at fields ≡ Ok (content_of bytes parts, rest)
  place : bytes ≡ take (length bytes) (drop 4 fields)
  none : rest ≡ []

whole : (fields bytes rest : List ℕ) (parts : Parts) → Ends fields bytes rest parts → content_at fields ≡ Ok (content_of bytes parts, [])
whole fields bytes rest parts ends = ends.given ∙ ap (λ r. Ok (content_of bytes parts, r)) ends.none

accepted : (fields bytes rest : List ℕ) (parts : Parts) (size stored : ℕ) → Ends fields bytes rest parts → content_or_fault size stored (Ok (content_of bytes parts, [])) ≡ Ok (content_of bytes parts)
    → content_or_fault size stored (content_at fields) ≡ Ok (content_of (take (length bytes) (drop 4 fields)) parts)
accepted fields bytes rest parts size stored ends e = ap (content_or_fault size stored) (whole fields bytes rest parts ends) ∙ e ∙ ap (λ l. Ok (content_of l parts)) ends.place

refused : (fields bytes rest : List ℕ) (parts : Parts) (size stored : ℕ) (answer : Result Content NeedleFault) → Ends fields bytes rest parts → Gives answer (content_or_fault size stored (Ok (content_of bytes parts, [])))
    → Gives answer (content_or_fault size stored (content_at fields))
refused fields bytes rest parts size stored answer ends given = subst (λ r. Gives answer (content_or_fault size stored r)) (sym (whole fields bytes rest parts ends)) given

pub overflow_sub-taken : goal.overflow_sub-taken
overflow_sub-taken c = omega (arith, (content_at-reads c.args.fields.now _ c.in-Ok.ensures.given).counts)

pub accept-requires : goal.accept-requires
accept-requires c = omega (arith, (content_at-reads c.args.fields.now _ c.in-Ok.ensures.given).counts)

pub returns-in-Ok-accept-clause-within : goal.returns-in-Ok-accept-clause-within
returns-in-Ok-accept-clause-within c = omega (arith, (content_at-reads c.args.fields.now _ c.in-Ok.ensures.given).counts)

pub returns-in-Ok-accept-clause-given : goal.returns-in-Ok-accept-clause-given
returns-in-Ok-accept-clause-given c =
    let ends : Ends c.args.fields.now c.in-Ok.found.0.now c.in-Ok.found.2.now c.in-Ok.found.1 = record { given = c.in-Ok.ensures.given; place = c.in-Ok.ensures.place; none = nil_from_length c.in-Ok.found.2.now (grind (arith, nat_tests)) } in
    accepted c.args.fields.now c.in-Ok.found.0.now c.in-Ok.found.2.now c.in-Ok.found.1 c.args.size c.args.stored ends (c.in-Ok-accept.ensures (content_of c.in-Ok.found.0.now c.in-Ok.found.1) refl)

pub returns-in-Err-clause-given : goal.returns-in-Err-clause-given
returns-in-Err-clause-given c =
    let ends : Ends c.args.fields.now c.in-Ok.found.0.now c.in-Ok.found.2.now c.in-Ok.found.1 = record { given = c.in-Ok.ensures.given; place = c.in-Ok.ensures.place; none = nil_from_length c.in-Ok.found.2.now (grind (arith, nat_tests)) } in
    refused c.args.fields.now c.in-Ok.found.0.now c.in-Ok.found.2.now c.in-Ok.found.1 c.args.size c.args.stored (Err c.in-Err.why) ends (c.in-Err.ensures (content_of c.in-Ok.found.0.now c.in-Ok.found.1) refl)
