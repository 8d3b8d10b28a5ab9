use Rattle.std.proofs.Common.{arith}
use Rattle.site_mem.proofs.Bytes.{bytes_more, no_shorter}
use Rattle.site_mem.proofs.stored.Stored.grow.Goals as goal

pub invariant_of-self : goal.invariant_of-self
invariant_of-self c = record {
  front = no_shorter _ _ _ _ c.extend_from_slice.ensures.items _ c.args.self.now.front;
  are_bytes = bytes_more _ _ c.args.bytes.now _ c.extend_from_slice.ensures.items c.args.self.now.are_bytes (λ k. omega (arith, c.type_inv.bytes k));
}
