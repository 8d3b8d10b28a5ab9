use Rattle.std.proofs.Common.{◌≡◌, ℕ, ◌<◌, [], ◌∷◌, ◌++◌, sym, ap, ◌∙◌, arith}
use Rattle.wire_num.specs.Numbers.{bytes_of}
use Rattle.needle_record.proofs.appending.push_u8.Goals as goal

-- a byte is its own bytes
bytes_of-one : (x : ℕ) → x < 256 → bytes_of 1 x ≡ x ∷ []
unfolding bytes_of
bytes_of-one x h = ap (λ b. b ∷ []) (omega arith)

pub returns : goal.returns
returns c = record {
  items = c.push_bytes.ensures.items ∙ ap (λ b. c.args.out.now.items ++ b) (sym (bytes_of-one c.args.value (omega arith)));
  len = c.push_bytes.ensures.len;
  capacity = c.push_bytes.ensures.capacity;
}
