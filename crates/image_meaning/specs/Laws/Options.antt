-- Of what may be absent: one value, or none.
use Rattle.std.proofs.Common.{◌≡◌, Some, None}

pub some_is : {A : Type 0} (x y : A) → Some x ≡ Some y → x ≡ y
some_is x y e = cc

pub none_some : {A : Type 0} {x : A} → None ≡ Some x → ⊥
none_some e = cc
