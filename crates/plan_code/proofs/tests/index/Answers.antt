use Rattle.std.proofs.Common.{◌≡◌, ap, ◌∙◌, arith}
use Rattle.std.specs.Ordering.{nat_cmp}
use Rattle.std.specs.FinMap.{len, len-empty}
use Rattle.volume_forms.specs.declared.Entry.{Entry}
use Rattle.plan_code.proofs.Fresh.{put_more}
use Rattle.plan_code.proofs.tests.index.Goals as goal

pub returns : goal.returns
returns c =
    let none : len c.new-index.result ≡ 0 = ap len c.new-index.ensures ∙ len-empty nat_cmp Entry in
    omega (
      arith,
      none,
      put_more c.new-index.result c.put.new.self c.entry.result.id c.entry.result c.in_ok-put.ensures.ok,
      put_more c.put.new.self c.put-2.new.self c.entry-2.result.id c.entry-2.result c.in_ok-put-2.ensures.ok,
    )
