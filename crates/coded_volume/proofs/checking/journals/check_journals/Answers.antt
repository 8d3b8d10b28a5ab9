use Rattle.std.proofs.Common.{refl}
use Rattle.coded_volume.specs.Checking.{files_on}
use Rattle.coded_volume.proofs.Longest.{rule_agrees, agree_rule}
use Rattle.coded_volume.proofs.checking.journals.check_journals.Goals as goal

pub returns-in-Some-clause-journal : goal.returns-in-Some-clause-journal
returns-in-Some-clause-journal g c = (
  record { in_range = c.requires.in_range; room = c.in-Some.ensures.room },
  λ told.
      agree_rule (files_on (g.T.Site.disk c.args.site.now).files c.args.volume) c.args.holders.now c.args.info.now (c.requires.holders told) c.args.index (c.requires.index told) c.in_ok-journals.journals.items (c.in_ok-journals.ensures.journals told)
      c.in-Some.ids.items c.in-Some.ensures,
)

pub returns-in-None-clause-broken : goal.returns-in-None-clause-broken
returns-in-None-clause-broken g c = (
  refl,
  refl,
  λ told journal.
      c.in-None.ensures journal.longest
      (rule_agrees (files_on (g.T.Site.disk c.args.site.now).files c.args.volume) c.args.holders.now c.args.info.now (c.requires.holders told) c.args.index (c.requires.index told) c.in_ok-journals.journals.items (c.in_ok-journals.ensures.journals told)
      journal),
)
