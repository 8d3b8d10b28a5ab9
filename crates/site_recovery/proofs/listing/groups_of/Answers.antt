use Rattle.std.proofs.Common.{◌+◌, List, ◌∙◌, subst, sym}
use mathlib.Core.Bool.{true≢false}
use Rattle.site_recovery.specs.declared.forms.Group.{Group}
use Rattle.site_recovery.proofs.Grouped.{AreGroupsBelow, groups_skip, groups_more}
use Rattle.site_recovery.proofs.listing.groups_of.Goals as goal

pub loop-start-preserved-then-not-starts_at : goal.loop-start-preserved-then-not-starts_at
loop-start-preserved-then-not-starts_at c =
    groups_skip c.args.files.now c.requires c.loop-start.start c.loop-start.groups.items c.loop-start-test.true (λ starts. true≢false (sym (c.starts_at.ensures.1 starts) ∙ c.if-not-starts_at.true)) c.loop-start.invariant

pub loop-start-preserved : goal.loop-start-preserved
loop-start-preserved c =
    subst (λ (groups : List Group). AreGroupsBelow c.args.files.now (c.loop-start.start + 1) groups) (sym c.in_ok-push.ensures.items)
    (groups_more c.args.files.now c.requires c.loop-start.start c.end_of-end.result _ c.loop-start.groups.items (c.starts_at.ensures.0 c.if-not-starts_at.false) c.end_of-end.ensures c.loop-start.invariant)
