use Rattle.std.proofs.Common.{ℕ, ◌<◌, List, map, length, subst, sym, ◌∙◌, ap, arith}
use Rattle.std.specs.Prelude.{◌↔◌, Contains}
use Rattle.std.specs.List.{All}
use Rattle.coded_volume.specs.declared.checking.ShardCopy.{ShardCopy}
use Rattle.image_meaning.specs.Files.{contents, files_of}
use Rattle.site_recovery.specs.Listing.{AreInOrder}
use Rattle.site_recovery.specs.Spreading.{Spreads}
use Rattle.site_recovery.proofs.Taking.{on_ok, settles_none}
use Rattle.site_recovery.proofs.Placed.{holders_below}
use Rattle.site_recovery.proofs.Strays.{still_listed, no_journals, spread_listed}
use Rattle.site_recovery.proofs.CodedRun.{lay_out, run_one, homes_one, run_two, run_three, run_done}
use Rattle.site_recovery.proofs.settling.coded.settle_coded.Goals as goal

pub homes_of-homes-requires : goal.homes_of-homes-requires
homes_of-homes-requires g c = c.requires.copies.numbers

pub returns-in_err-holders-clause-effect : goal.returns-in_err-holders-clause-effect
returns-in_err-holders-clause-effect g c = λ told. settles_none (g.T.Site.disk c.args.site.now)

pub returns-in_err-keeps-clause-effect : goal.returns-in_err-keeps-clause-effect
returns-in_err-keeps-clause-effect g c = λ told. settles_none (g.T.Site.disk c.args.site.now)

pub spread_journals-requires : goal.spread_journals-requires
spread_journals-requires g c =
    let each = subst (λ (l : List ℕ). (s : ℕ) → Contains l s ↔ Contains (map (λ (y : ShardCopy). y.server) c.args.copies.now) s) (sym c.deref.ensures.value) c.in_ok-holders.ensures in
    holders_below (files_of (contents (g.T.Site.disk c.args.site.now).files) c.args.volume) (g.T.Site.servers c.args.site.now) c.args.copies.now c.deref.result.now c.requires.copies each

pub returns-in_err-spread_journals-clause-effect : goal.returns-in_err-spread_journals-clause-effect
returns-in_err-spread_journals-clause-effect g c = λ told.
    let start = g.T.Site.disk c.args.site.now in
    let laid =
    lay_out (files_of (contents start.files) c.args.volume) (g.T.Site.servers c.args.site.now) c.servers.result c.args.copies.now c.deref.result.now c.in_ok-holders.holders.items c.homes_of-homes.result c.in_ok-keeps.keeps.items
    c.requires.copies (c.requires.stand told) c.deref.ensures.value c.in_ok-holders.ensures c.homes_of-homes.ensures c.servers.ensures.servers c.in_ok-keeps.ensures in
    run_one c.args.volume c.ranges.volume.fits c.args.ids.now c.ids_fit.ensures start (c.requires.tested told) _ _ _ _ _ laid (g.T.Site.disk c.spread_journals.new.site) (c.spread_journals.ensures.effect told)

pub clear_copies-requires-clause-order : goal.clear_copies-requires-clause-order
clear_copies-requires-clause-order g c = subst (λ n. AreInOrder n c.args.files.now) (sym c.spread_journals.ensures.runs.servers) c.requires.order

pub clear_copies-requires-clause-listed : goal.clear_copies-requires-clause-listed
clear_copies-requires-clause-listed g c = λ told.
    no_journals c.args.volume c.args.files.now (g.T.Site.disk c.spread_journals.new.site).files
    (spread_listed c.args.volume c.args.files.now c.deref.result.now c.args.ids.now (g.T.Site.disk c.args.site.now) (g.T.Site.disk c.spread_journals.new.site) c.ranges.volume.fits (c.requires.files told)
    (c.spread_journals.ensures.effect told))

pub clear_copies-requires-clause-homes : goal.clear_copies-requires-clause-homes
clear_copies-requires-clause-homes g c = λ told.
    let start = g.T.Site.disk c.args.site.now in
    let laid =
    lay_out (files_of (contents start.files) c.args.volume) (g.T.Site.servers c.args.site.now) c.servers.result c.args.copies.now c.deref.result.now c.in_ok-holders.holders.items c.homes_of-homes.result c.in_ok-keeps.keeps.items
    c.requires.copies (c.requires.stand told) c.deref.ensures.value c.in_ok-holders.ensures c.homes_of-homes.ensures c.servers.ensures.servers c.in_ok-keeps.ensures in
    homes_one c.args.volume c.ranges.volume.fits c.args.ids.now c.ids_fit.ensures start (c.requires.tested told) _ _ _ _ _ laid (g.T.Site.disk c.spread_journals.new.site) (c.spread_journals.ensures.effect told)
    (c.in_ok-spread_journals.ensures.done told)

pub returns-in_err-clear_copies-clause-effect : goal.returns-in_err-clear_copies-clause-effect
returns-in_err-clear_copies-clause-effect g c = λ told.
    let start = g.T.Site.disk c.args.site.now in
    let laid =
    lay_out (files_of (contents start.files) c.args.volume) (g.T.Site.servers c.args.site.now) c.servers.result c.args.copies.now c.deref.result.now c.in_ok-holders.holders.items c.homes_of-homes.result c.in_ok-keeps.keeps.items
    c.requires.copies (c.requires.stand told) c.deref.ensures.value c.in_ok-holders.ensures c.homes_of-homes.ensures c.servers.ensures.servers c.in_ok-keeps.ensures in
    run_two c.args.volume c.ranges.volume.fits c.args.ids.now c.ids_fit.ensures start (c.requires.tested told) _ _ _ _ _ laid (g.T.Site.disk c.spread_journals.new.site) (c.spread_journals.ensures.effect told)
    (c.in_ok-spread_journals.ensures.done told) (g.T.Site.disk c.clear_copies.new.site) (c.clear_copies.ensures.effect told)

pub clear_strays-requires-clause-order : goal.clear_strays-requires-clause-order
clear_strays-requires-clause-order g c = subst (λ n. AreInOrder n c.args.files.now) (sym (c.clear_copies.ensures.runs.servers ∙ c.spread_journals.ensures.runs.servers)) c.requires.order

pub clear_strays-requires-clause-listed : goal.clear_strays-requires-clause-listed
clear_strays-requires-clause-listed g c = λ told.
    still_listed c.args.volume c.args.files.now _ _ (c.clear_copies.ensures.effect told).files
    (spread_listed c.args.volume c.args.files.now c.deref-2.result.now c.args.ids.now (g.T.Site.disk c.args.site.now) (g.T.Site.disk c.spread_journals.new.site) c.ranges.volume.fits (c.requires.files told)
    (subst (λ (l : List ℕ). Spreads c.args.volume l c.args.ids.now (g.T.Site.disk c.args.site.now) (g.T.Site.disk c.spread_journals.new.site)) (c.deref.ensures.value ∙ sym c.deref-2.ensures.value)
    (c.spread_journals.ensures.effect told)))

pub clear_strays-requires-clause-holders : goal.clear_strays-requires-clause-holders
clear_strays-requires-clause-holders g c =
    let each = subst (λ (l : List ℕ). (s : ℕ) → Contains l s ↔ Contains (map (λ (y : ShardCopy). y.server) c.args.copies.now) s) (sym c.deref-2.ensures.value) c.in_ok-holders.ensures in
    subst (λ n. All (λ s. s < n) c.deref-2.result.now) (sym (c.clear_copies.ensures.runs.servers ∙ c.spread_journals.ensures.runs.servers))
    (holders_below (files_of (contents (g.T.Site.disk c.args.site.now).files) c.args.volume) (g.T.Site.servers c.args.site.now) c.args.copies.now c.deref-2.result.now c.requires.copies each)

pub clear_strays-requires-clause-enough : goal.clear_strays-requires-clause-enough
clear_strays-requires-clause-enough g c =
    omega (arith, c.servers.ensures.servers, c.in_ok-keeps.ensures.enough, c.spread_journals.ensures.runs.servers, c.clear_copies.ensures.runs.servers, ap length c.deref-3.ensures.value)

pub returns-clause-effect : goal.returns-clause-effect
returns-clause-effect g c = λ told.
    let start = g.T.Site.disk c.args.site.now in
    let laid =
    lay_out (files_of (contents start.files) c.args.volume) (g.T.Site.servers c.args.site.now) c.servers.result c.args.copies.now c.deref.result.now c.in_ok-holders.holders.items c.homes_of-homes.result c.in_ok-keeps.keeps.items
    c.requires.copies (c.requires.stand told) c.deref.ensures.value c.in_ok-holders.ensures c.homes_of-homes.ensures c.servers.ensures.servers c.in_ok-keeps.ensures in
    run_three c.args.volume c.ranges.volume.fits c.args.ids.now c.ids_fit.ensures start (c.requires.tested told) _ _ _ _ _ laid (g.T.Site.disk c.spread_journals.new.site) (c.spread_journals.ensures.effect told)
    (c.in_ok-spread_journals.ensures.done told) (g.T.Site.disk c.clear_copies.new.site) (c.clear_copies.ensures.effect told) (c.in_ok-clear_copies.ensures.done told) c.deref-3.result.now c.deref-3.ensures.value
    (g.T.Site.disk c.clear_strays.new.site) (c.clear_strays.ensures.effect told)

pub returns-clause-done : goal.returns-clause-done
returns-clause-done g c =
    on_ok c.clear_strays.result (λ gone. λ told.
    let start = g.T.Site.disk c.args.site.now in
    let laid =
    lay_out (files_of (contents start.files) c.args.volume) (g.T.Site.servers c.args.site.now) c.servers.result c.args.copies.now c.deref.result.now c.in_ok-holders.holders.items c.homes_of-homes.result c.in_ok-keeps.keeps.items
    c.requires.copies (c.requires.stand told) c.deref.ensures.value c.in_ok-holders.ensures c.homes_of-homes.ensures c.servers.ensures.servers c.in_ok-keeps.ensures in
    run_done c.args.volume c.ranges.volume.fits c.args.ids.now c.ids_fit.ensures start (c.requires.tested told) _ _ _ _ _ laid (g.T.Site.disk c.spread_journals.new.site) (c.spread_journals.ensures.effect told)
    (c.in_ok-spread_journals.ensures.done told) (g.T.Site.disk c.clear_copies.new.site) (c.clear_copies.ensures.effect told) (c.in_ok-clear_copies.ensures.done told) c.deref-3.result.now c.deref-3.ensures.value
    (g.T.Site.disk c.clear_strays.new.site) (c.clear_strays.ensures.effect told) (gone told))
    c.clear_strays.ensures.done
