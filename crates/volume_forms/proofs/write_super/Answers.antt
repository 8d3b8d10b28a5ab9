use Rattle.std.proofs.Common.{◌++◌, ap, arith, drop, take, ◌∙◌}
use Rattle.wire_num.specs.Numbers.{bytes_of}
use Rattle.volume_forms.proofs.write_super.Goals as goal

pub returns-clause-spelled : goal.returns-clause-spelled
unfolding bytes_of
returns-clause-spelled c = c.put_u16-2.ensures ∙ ap (λ out. take 4 out ++ (bytes_of 2 c.args.block.now.revision ++ drop 6 out)) c.put_u16.ensures

pub returns-clause-accepted : goal.returns-clause-accepted
returns-clause-accepted c version =
    record { version = version; ttl = omega arith; revision = omega arith; spelled = returns-clause-spelled c }
