use Rattle.std.proofs.Common.{refl}
use Rattle.std.specs.Prelude.{◌||◌}
use Rattle.site_recovery.specs.declared.forms.Round.TheVariants as round
use Rattle.site_recovery.specs.FormSettling.{in_round}
use Rattle.site_recovery.proofs.InRounds.{due_on, both_settled, every_settled, plain_apart, absent_apart}
use Rattle.site_recovery.proofs.Rounds.{volumes_rise}
use Rattle.site_recovery.proofs.Taking.{on_ok, settles_on}
use Rattle.site_recovery.proofs.settling.forms.settle_forms.Goals as goal

pub settle_round-requires-clause-due : goal.settle_round-requires-clause-due
settle_round-requires-clause-due g c = λ told t has w. c.requires.due told t has refl

pub settle_round-requires-2-clause-due : goal.settle_round-requires-2-clause-due
settle_round-requires-2-clause-due g c = λ told. due_on c.args.tested.now (volumes_rise c.args.tested.now c.args.files.now c.requires.groups) c.args.files.now (in_round round.Plain) (in_round round.Coded) (λ t. plain_apart t.form) (g.T.Site.disk c.args.site.now).files (g.T.Site.disk c.settle_round.new.site).files (c.requires.due told) (c.in_ok-settle_round.ensures.done told)

pub returns-in_err-settle_round-2-clause-effect : goal.returns-in_err-settle_round-2-clause-effect
returns-in_err-settle_round-2-clause-effect g c = λ told. settles_on (c.in_ok-settle_round.ensures.done told).settled (c.settle_round.ensures.effect told) (c.settle_round-2.ensures.effect told)

pub settle_round-requires-3-clause-due : goal.settle_round-requires-3-clause-due
settle_round-requires-3-clause-due g c = λ told. due_on c.args.tested.now (volumes_rise c.args.tested.now c.args.files.now c.requires.groups) c.args.files.now (λ t. in_round round.Plain t || in_round round.Coded t) (in_round round.Absent) (λ t. absent_apart t.form) (g.T.Site.disk c.args.site.now).files (g.T.Site.disk c.settle_round-2.new.site).files (c.requires.due told) (both_settled c.args.tested.now (volumes_rise c.args.tested.now c.args.files.now c.requires.groups) c.args.files.now (in_round round.Plain) (in_round round.Coded) (λ t. plain_apart t.form) (g.T.Site.disk c.args.site.now).files (g.T.Site.disk c.settle_round.new.site).files (c.requires.due told) (c.in_ok-settle_round.ensures.done told) (g.T.Site.disk c.settle_round-2.new.site).files (c.in_ok-settle_round-2.ensures.done told))

pub returns-clause-effect : goal.returns-clause-effect
returns-clause-effect g c = λ told.
    let earlier = (both_settled c.args.tested.now (volumes_rise c.args.tested.now c.args.files.now c.requires.groups) c.args.files.now (in_round round.Plain) (in_round round.Coded) (λ t. plain_apart t.form) (g.T.Site.disk c.args.site.now).files (g.T.Site.disk c.settle_round.new.site).files (c.requires.due told) (c.in_ok-settle_round.ensures.done told) (g.T.Site.disk c.settle_round-2.new.site).files (c.in_ok-settle_round-2.ensures.done told)) in
    settles_on earlier.settled (settles_on (c.in_ok-settle_round.ensures.done told).settled (c.settle_round.ensures.effect told) (c.settle_round-2.ensures.effect told)) (c.settle_round-3.ensures.effect told)

pub returns-clause-done : goal.returns-clause-done
returns-clause-done g c = on_ok c.settle_round-3.result (λ third. λ told.
    every_settled c.args.tested.now (volumes_rise c.args.tested.now c.args.files.now c.requires.groups) c.args.files.now (g.T.Site.disk c.args.site.now).files (g.T.Site.disk c.settle_round-3.new.site).files (c.requires.due told) (both_settled c.args.tested.now (volumes_rise c.args.tested.now c.args.files.now c.requires.groups) c.args.files.now (λ t. in_round round.Plain t || in_round round.Coded t) (in_round round.Absent) (λ t. absent_apart t.form) (g.T.Site.disk c.args.site.now).files (g.T.Site.disk c.settle_round-2.new.site).files (c.requires.due told) (both_settled c.args.tested.now (volumes_rise c.args.tested.now c.args.files.now c.requires.groups) c.args.files.now (in_round round.Plain) (in_round round.Coded) (λ t. plain_apart t.form) (g.T.Site.disk c.args.site.now).files (g.T.Site.disk c.settle_round.new.site).files (c.requires.due told) (c.in_ok-settle_round.ensures.done told) (g.T.Site.disk c.settle_round-2.new.site).files (c.in_ok-settle_round-2.ensures.done told)) (g.T.Site.disk c.settle_round-3.new.site).files (third told))) c.settle_round-3.ensures.done
