use Rattle.std.proofs.Common.{ℕ, List, ◌++◌, Some, sym, ◌∙◌, ap, subst}
use Rattle.std.specs.Prelude.{IsSome}
use Rattle.site_model.specs.Disk.{Place, firm_file}
use Rattle.site_model.specs.Touches.{touches_on, touches_append, touches_sync}
use Rattle.volume_vacuum.specs.Copies.{copied}
use Rattle.volume_vacuum.proofs.Copied.{touch_at, made_anew, firm_anew, stands_some, dat_apart, dat_stays}
use Rattle.volume_vacuum.proofs.Renames.{named_at}
use Rattle.volume_vacuum.proofs.writing.write_dat.Goals as goal

pub returns-in_err-append-clause-effect : goal.returns-in_err-append-clause-effect
returns-in_err-append-clause-effect g c = λ told.
    let server = c.args.home.now.server in
    touches_on (touch_at (named_at server c.deref.ensures) (c.clear.ensures.effect told).touches) (touch_at (named_at server c.deref-2.ensures) (touches_append (c.append.ensures.effect told)))

pub returns-in_err-copy_records-clause-effect : goal.returns-in_err-copy_records-clause-effect
returns-in_err-copy_records-clause-effect g c = λ told.
    let server = c.args.home.now.server in
    let begun = touches_on (touch_at (named_at server c.deref.ensures) (c.clear.ensures.effect told).touches) (touch_at (named_at server c.deref-2.ensures) (touches_append (c.append.ensures.effect told))) in
    touches_on begun (c.copy_records.ensures.effect told)

pub sync-requires-clause-stands : goal.sync-requires-clause-stands
sync-requires-clause-stands g c = λ told.
    let server = c.args.home.now.server in
    let stands = made_anew c.args.front.now (g.T.Site.disk c.clear.new.site).files (g.T.Site.disk c.append.new.self).files (g.T.Site.disk c.copy_records.new.site).files (named_at server c.deref.ensures) (named_at server c.deref-2.ensures) (c.in_ok-clear.ensures.done told) (c.in_ok-append.ensures.done told) (c.in_ok-copy_records.ensures.done told) in
    subst (λ (k : Place). IsSome ((g.T.Site.disk c.copy_records.new.site).files k)) (sym (named_at server c.deref-3.ensures)) (stands_some _ _ stands)

pub returns-in_err-sync-clause-effect : goal.returns-in_err-sync-clause-effect
returns-in_err-sync-clause-effect g c = λ told.
    let server = c.args.home.now.server in
    let begun = touches_on (touch_at (named_at server c.deref.ensures) (c.clear.ensures.effect told).touches) (touch_at (named_at server c.deref-2.ensures) (touches_append (c.append.ensures.effect told))) in
    touches_on (touches_on begun (c.copy_records.ensures.effect told)) (touch_at (named_at server c.deref-3.ensures) (touches_sync (c.sync.ensures.effect told)))

pub returns-clause-effect : goal.returns-clause-effect
returns-clause-effect g c = λ told.
    let server = c.args.home.now.server in
    let begun = touches_on (touch_at (named_at server c.deref.ensures) (c.clear.ensures.effect told).touches) (touch_at (named_at server c.deref-2.ensures) (touches_append (c.append.ensures.effect told))) in
    touches_on (touches_on begun (c.copy_records.ensures.effect told)) (touch_at (named_at server c.deref-3.ensures) (touches_sync (c.sync.ensures.effect told)))

pub returns-clause-done : goal.returns-clause-done
returns-clause-done g c = λ told.
    let server = c.args.home.now.server in
    let begun = touches_on (touch_at (named_at server c.deref.ensures) (c.clear.ensures.effect told).touches) (touch_at (named_at server c.deref-2.ensures) (touches_append (c.append.ensures.effect told))) in
    let stands = made_anew c.args.front.now (g.T.Site.disk c.clear.new.site).files (g.T.Site.disk c.append.new.self).files (g.T.Site.disk c.copy_records.new.site).files (named_at server c.deref.ensures) (named_at server c.deref-2.ensures) (c.in_ok-clear.ensures.done told) (c.in_ok-append.ensures.done told) (c.in_ok-copy_records.ensures.done told) in
    firm_anew (g.T.Site.disk c.copy_records.new.site).files (g.T.Site.disk c.sync.new.self).files (named_at server c.deref-3.ensures) stands (c.in_ok-sync.ensures.done told)
    ∙ ap (λ (dat : List ℕ). Some (firm_file (c.args.front.now ++ copied dat c.args.entries.now))) (dat_stays (dat_apart c.requires.apart) begun)
