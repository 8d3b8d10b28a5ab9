use Rattle.std.proofs.Common.{◌<◌, ℕ, List, sym, subst}
use Rattle.std.specs.Prelude.{Contains}
use Rattle.std.specs.List.{All}
use Rattle.std.specs.List.Sorted.{IsStrictlyIncreasing}
use Rattle.site_recovery.proofs.Indexed.{servers_low, index_among}
use Rattle.site_recovery.proofs.testing.homes.listed_homes.Goals as goal

pub homes_among-requires-clause-rise : goal.homes_among-requires-clause-rise
homes_among-requires-clause-rise g c = subst IsStrictlyIncreasing (sym c.deref.ensures.value) c.in_ok-servers.ensures.rise

pub homes_among-requires-clause-on_servers : goal.homes_among-requires-clause-on_servers
homes_among-requires-clause-on_servers g c =
    subst (λ (l : List ℕ). All (λ s. s < g.T.Site.servers c.args.site.now) l) (sym c.deref.ensures.value)
    (servers_low c.args.files.now c.in_ok-servers.servers.items c.in_ok-servers.ensures.each (g.T.Site.servers c.args.site.now) c.requires.order.on_servers)

pub homes_among-requires-clause-all : goal.homes_among-requires-clause-all
homes_among-requires-clause-all g c = λ told s index.
    subst (λ (l : List ℕ). Contains l s) (sym c.deref.ensures.value)
    (index_among c.args.files.now c.in_ok-servers.servers.items c.in_ok-servers.ensures.each (g.T.Site.disk c.args.site.now).files c.args.volume c.ranges.volume.fits (c.requires.files told) s index)
