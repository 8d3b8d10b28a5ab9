use Rattle.site_model.specs.Touches.{touches_on, touches_sync}
use Rattle.whole_file.proofs.Renaming.{touches_appended, name_differs, only_temp, firm_from, renamed}
use Rattle.whole_file.proofs.whole.replace.Goals as goal

pub returns-in_err-append_all-clause-effect : goal.returns-in_err-append_all-clause-effect
returns-in_err-append_all-clause-effect g c = λ told.
    let apart = name_differs c.args.server _ _ c.requires.differ in
    let cleared = (c.clear.ensures.effect told).touches in
    let written = touches_on cleared (touches_appended (c.append_all.ensures.effect told)) in
    only_temp _ _ c.args.bytes.now apart _ _ written

pub returns-in_err-sync-clause-effect : goal.returns-in_err-sync-clause-effect
returns-in_err-sync-clause-effect g c = λ told.
    let apart = name_differs c.args.server _ _ c.requires.differ in
    let cleared = (c.clear.ensures.effect told).touches in
    let written = touches_on cleared (touches_appended (c.append_all.ensures.effect told)) in
    let synced = touches_on written (touches_sync (c.sync.ensures.effect told)) in
    only_temp _ _ c.args.bytes.now apart _ _ synced

pub returns-in_err-rename-clause-effect : goal.returns-in_err-rename-clause-effect
returns-in_err-rename-clause-effect g c = λ told.
    let apart = name_differs c.args.server _ _ c.requires.differ in
    let cleared = (c.clear.ensures.effect told).touches in
    let written = touches_on cleared (touches_appended (c.append_all.ensures.effect told)) in
    let synced = touches_on written (touches_sync (c.sync.ensures.effect told)) in
    let is = firm_from (c.in_ok-clear.ensures.done told) (c.in_ok-append_all.ensures.done told) (c.in_ok-sync.ensures.done told) in
    renamed _ _ c.args.bytes.now apart _ _ _ synced is (c.rename.ensures.effect told)

pub returns-clause-effect : goal.returns-clause-effect
returns-clause-effect g c = λ told.
    let apart = name_differs c.args.server _ _ c.requires.differ in
    let cleared = (c.clear.ensures.effect told).touches in
    let written = touches_on cleared (touches_appended (c.append_all.ensures.effect told)) in
    let synced = touches_on written (touches_sync (c.sync.ensures.effect told)) in
    let is = firm_from (c.in_ok-clear.ensures.done told) (c.in_ok-append_all.ensures.done told) (c.in_ok-sync.ensures.done told) in
    renamed _ _ c.args.bytes.now apart _ _ _ synced is (c.rename.ensures.effect told)
