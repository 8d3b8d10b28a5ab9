use Rattle.std.proofs.Common.{◌≡◌, ℕ, List, take, true, false, Ok, arith, ap, sym, ◌∙◌}
use Rattle.wire_num.specs.Laws.Number.{bytes_are}
use Rattle.volume_forms.specs.declared.SuperBlock.{SuperBlock}
use Rattle.volume_forms.specs.declared.SuperFault.{SuperFault}
use Rattle.volume_forms.specs.declared.SuperFault.TheVariants.{Short, Extra}
use Rattle.volume_forms.specs.Faults.{HasFault}
use Rattle.volume_forms.specs.Forms.{SpellsSuper}
use Rattle.volume_forms.specs.Laws.Super.{fault-refused, has_super-by, spelled-is, super_at-spelled}
use Rattle.volume_forms.proofs.read_super.Goals as goal

-- bytes that have a fault spell no block
none_spelled : (fault : SuperFault) (block : SuperBlock) (bytes : List ℕ) → HasFault fault bytes → SpellsSuper block (take 8 bytes) → ⊥
none_spelled fault block bytes h spelled = true_not_false (sym (spelled-is block bytes spelled).0 ∙ fault-refused fault bytes h)
  where
    true_not_false : true ≡ false → ⊥
    true_not_false e = cc

pub returns-then-bytes-lt-SUPER_LENGTH-clause-only : goal.returns-then-bytes-lt-SUPER_LENGTH-clause-only
returns-then-bytes-lt-SUPER_LENGTH-clause-only c block h = absurd (none_spelled Short block _ (omega arith) h)

pub returns-then-get_u16-ne0-clause-only : goal.returns-then-get_u16-ne0-clause-only
returns-then-get_u16-ne0-clause-only c block h =
    absurd (none_spelled Extra block _ (omega arith, c.if-bytes-ne-SUPER_VERSION.false, λ e. c.if-get_u16-ne0.true (c.get_u16.ensures ∙ e)) h)

pub returns-clause-spelled : goal.returns-clause-spelled
returns-clause-spelled c =
    rw (c.get_u16-2.ensures, c.get_u16-3.ensures) (super_at-spelled c.args.bytes.now (bytes_are _ (λ k. omega (arith, c.type_inv.bytes k))) (omega arith) c.if-bytes-ne-SUPER_VERSION.false (sym c.get_u16.ensures ∙ c.if-get_u16-ne0.false))

pub returns-clause-only : goal.returns-clause-only
returns-clause-only c block h =
    rw (c.get_u16-2.ensures, c.get_u16-3.ensures) (ap Ok (spelled-is block _ h).1)

pub returns-clause-fault : goal.returns-clause-fault
returns-clause-fault c =
    has_super-by _ (omega arith) c.if-bytes-ne-SUPER_VERSION.false (sym c.get_u16.ensures ∙ c.if-get_u16-ne0.false)
