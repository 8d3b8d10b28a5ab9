-- Bytes appended one after the other.
use Rattle.std.proofs.Common.{◌≡◌, ℕ, ◌+◌, List, ◌++◌, ap, ◌∙◌, append_assoc, arith}
use Rattle.std.specs.Global.{Vec}
use Rattle.needle_record.specs.Appending.{Appends}

pub Appends-then : (a b c : Vec ℕ) (n m : ℕ) (xs ys : List ℕ) → Appends a b n xs → Appends b c m ys → Appends a c (n + m) (xs ++ ys)
Appends-then a b c n m xs ys first second = record {
  items = second.items ∙ ap (λ l. l ++ ys) first.items ∙ append_assoc a.items xs ys;
  len = omega (arith, first.len, second.len);
  capacity = omega (arith, first.capacity, second.capacity);
}

-- the count in other words
pub Appends-count : (a b : Vec ℕ) (n m : ℕ) (xs : List ℕ) → Appends a b n xs → n ≡ m → Appends a b m xs
Appends-count a b n m xs given same = record { items = given.items; len = omega (arith, given.len, same); capacity = given.capacity }
