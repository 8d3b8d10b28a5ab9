use Rattle.std.proofs.Common.{◌≡◌, ℕ, List, get_or, Ok, ap, ◌∙◌, arith}
use Rattle.wire_num.specs.Numbers.{number_of}
use Rattle.needle_record.specs.Laws.Again.{bind_again}
use Rattle.needle_record.specs.Reading.{bytes_at}
use Rattle.needle_record.proofs.fields.u8_at.Goals as goal

-- one byte is its own number
number_of-one : (bytes : List ℕ) → number_of 1 bytes ≡ get_or bytes 0 0
unfolding number_of
number_of-one bytes = omega arith

pub returns : goal.returns
returns c =
    bind_again (bytes_at 1 c.args.rest.now) (λ x. Ok (number_of 1 x.0, x.1)) _ c.in_ok-field.ensures.given
    ∙ ap (λ n. Ok (n, c.in_ok-field.rest.now)) (number_of-one c.in_ok-field.field.now)
