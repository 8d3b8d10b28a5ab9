use Rattle.std.proofs.Common.{◌≡◌, IsTrue, map, take}
use Rattle.std.specs.List.{All}
use Rattle.site_model.specs.Counts.{Calls}
use Rattle.site_recovery.specs.declared.forms.TestedGroup.{TestedGroup}
use Rattle.site_recovery.specs.Opening.{AreTestedGroups, IsWithin}
use Rattle.site_recovery.proofs.testing.groups.test_groups.Given as goal

abbrev pub invariant-loop-group : goal.invariant-loop-group
invariant-loop-group g l = record {
  runs : Calls g.T.Site.counts g.T.Site.servers l.fn.site l.site (λ s. ⊥);
  same_disk : IsTrue g.T.Site.tells → g.T.Site.disk l.site ≡ g.T.Site.disk l.fn.site;
  within : All (λ (t : TestedGroup). IsWithin (g.T.Site.servers l.fn.site) t.form) l.tested.items;
  same_groups : map (λ (t : TestedGroup). t.group) l.tested.items ≡ take l.group-index l.groups;
  tested : IsTrue g.T.Site.tells → AreTestedGroups (g.T.Site.disk l.fn.site).files (take l.group-index l.groups) l.tested.items;
}
