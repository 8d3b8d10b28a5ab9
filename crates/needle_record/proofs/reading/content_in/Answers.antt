use Rattle.std.proofs.Common.{◌≡◌, ℕ, ◌==◌, false, List, drop, take, Ok, Some, None, cond, ap, sym, subst, ◌∙◌, rules}
use Rattle.std.proofs.lemmas.List.{take_rest}
use Rattle.world_model.specs.declared.types.Content.{Content}
use Rattle.wire_num.specs.Numbers.{number_of}
use Rattle.needle_record.specs.declared.fields.Parts.{Parts}
use Rattle.needle_record.specs.Reading.{◌>>=◌, content_at, content_in, content_or_fault}
use Rattle.needle_record.specs.Given.{content_of}
use Rattle.needle_record.specs.Laws.Again.{bind_again}
use Rattle.needle_record.proofs.Places.{data_place}
use Rattle.needle_record.proofs.reading.content_in.Goals as goal

-- the content of fields of a size that isn't 0
found : (rest : List ℕ) (size : ℕ) (content : Content) → (size == 0) ≡ false → content_or_fault size (number_of 4 (drop size rest)) (content_at (take size rest)) ≡ Ok content → content_in size rest ≡ Ok (Some content)
unfolding content_in
found rest size content some e = ap (λ b. cond b (Ok None) (content_or_fault size (number_of 4 (drop size rest)) (content_at (take size rest)) >>= λ c. Ok (Some c))) some
    ∙ bind_again (content_or_fault size (number_of 4 (drop size rest)) (content_at (take size rest))) (λ c. Ok (Some c)) content e

-- the same of fields that stand elsewhere
moved : (r rest : List ℕ) (size stored count : ℕ) (parts : Parts) → r ≡ rest → stored ≡ number_of 4 (drop size r)
    → content_or_fault size stored (content_at (take size r)) ≡ Ok (content_of (take count (drop 4 (take size r))) parts)
    → content_or_fault size (number_of 4 (drop size rest)) (content_at (take size rest)) ≡ Ok (content_of (take count (drop 4 (take size rest))) parts)
moved r rest size stored count parts same field e =
    subst (λ l. content_or_fault size (number_of 4 (drop size l)) (content_at (take size l)) ≡ Ok (content_of (take count (drop 4 (take size l))) parts)) same
    (subst (λ n. content_or_fault size n (content_at (take size r)) ≡ Ok (content_of (take count (drop 4 (take size r))) parts)) field e)

pub returns : goal.returns
returns c =
    let behind = take_rest c.deref.result.now 16 ∙ ap (drop 16) c.deref.ensures.value in
    let place = data_place c.args.bytes.items c.args.size c.in_ok-count.count c.in_ok-count.ensures.within in
    found (drop 16 c.args.bytes.items) c.args.size c.content_with.result (search rules)
    (moved _ _ c.args.size c.get_u32.result c.in_ok-count.count c.in_ok-count.parts behind c.get_u32.ensures c.in_ok-count.ensures.given
    ∙ ap (λ l. Ok (content_of l c.in_ok-count.parts)) place
    ∙ ap Ok (sym c.content_with.ensures))
