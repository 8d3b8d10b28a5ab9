use Rattle.rs_code.proofs.Products.{IsProductSoFar}
use Rattle.rs_code.proofs.product.Given as goal

abbrev pub invariant-loop-place : goal.invariant-loop-place
invariant-loop-place l = IsProductSoFar l.places l.x l.product l.place-index
