use Rattle.std.proofs.Common.{ℕ, ◌+◌, List, take, drop, ◌∙◌, ap}
use Rattle.std.proofs.lemmas.Result.{on_ok_weaker}
use Rattle.site_model.specs.Disk.{bytes_of}
use Rattle.volume_vacuum.specs.Home.{own_dat}
use Rattle.volume_vacuum.proofs.Checked.{if_err, placed_end, past_told, read_right, told_first, told_same}
use Rattle.volume_vacuum.proofs.checking.check_entry.Goals as goal

pub returns-then-end-size-clause-told : goal.returns-then-end-size-clause-told
returns-then-end-size-clause-told g c = λ told.
    let place = c.place_of-place in
    past_told (own_dat (g.T.Site.disk c.args.site.now).files c.args.home.now) c.args.entry (place.result.at + place.result.length) c.args.size c.past_end.result c.past_end.ensures
    (placed_end c.args.entry place.result.at place.result.length place.ensures.at place.ensures.length) (c.requires.long told) c.if-end-size.true

pub returns-in-Ok-clause-ok : goal.returns-in-Ok-clause-ok
returns-in-Ok-clause-ok g c = on_ok_weaker c.check_header.result (λ none told.
    let place = c.place_of-place in
    read_right (own_dat (g.T.Site.disk c.args.site.now).files c.args.home.now) c.read.new.out c.args.entry place.result.at place.result.length c.args.size place.ensures.at place.ensures.length (c.requires.long told) c.if-end-size.false
    (c.in-Ok.ensures.bytes told ∙ ap (λ (n : List ℕ). take 16 (drop place.result.at (bytes_of ((g.T.Site.disk c.args.site.now).files (c.args.home.now.server, n))))) c.deref.ensures)
    ∙ none) c.check_header.ensures.ok

pub returns-in-Ok-clause-told : goal.returns-in-Ok-clause-told
returns-in-Ok-clause-told g c = if_err c.check_header.result _ _ (λ fault tells told.
    let place = c.place_of-place in
    told_same _ _ fault
    (read_right (own_dat (g.T.Site.disk c.args.site.now).files c.args.home.now) c.read.new.out c.args.entry place.result.at place.result.length c.args.size place.ensures.at place.ensures.length (c.requires.long told) c.if-end-size.false
    (c.in-Ok.ensures.bytes told ∙ ap (λ (n : List ℕ). take 16 (drop place.result.at (bytes_of ((g.T.Site.disk c.args.site.now).files (c.args.home.now.server, n))))) c.deref.ensures))
    (told_first _ fault tells)) c.check_header.ensures.told
