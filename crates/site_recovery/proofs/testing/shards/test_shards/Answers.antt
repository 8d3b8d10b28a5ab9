use Rattle.std.proofs.Common.{◌≡◌, subst, sym, arith, IsTrue}
use Rattle.std.proofs.lemmas.Result.{err_from_is_err_and}
use Rattle.site_model.specs.Disk.{Disk}
use Rattle.image_meaning.specs.Coded.{ratio_at}
use Rattle.image_meaning.specs.Sound.{HasOneRatio, IsCoded}
use Rattle.coded_volume.specs.Checking.{AreBelow, AreCopies, AreHolders, AreStanding, Breaks, IsChecked, TellsFirst, files_on}
use Rattle.coded_volume.proofs.Standing.{are_below, holders_are}
use Rattle.site_recovery.proofs.Placed.{homes_are}
use Rattle.site_recovery.proofs.Sharded.{few_lost, enough_coded, found_by, site_fails, ratios_fail, coded_fails, told_breaks}
use Rattle.site_recovery.proofs.testing.shards.test_shards.Goals as goal

pub ratio_at-requires : goal.ratio_at-requires
ratio_at-requires g c =
    (are_below (files_on (g.T.Site.disk c.args.site.now).files c.args.volume) (g.T.Site.servers c.args.site.now) c.args.copies.now c.in_ok-holders.holders c.requires.copies c.in_ok-holders.ensures).first

pub returns-in_err-ratio-clause-broken : goal.returns-in_err-ratio-clause-broken
returns-in_err-ratio-clause-broken g c =
    let p = err_from_is_err_and c.from_residual-in_err-ratio.result c.from_residual-in_err-ratio.ensures.1 in
    rw (p.1, p.2) (λ told. site_fails c.args.volume (files_on (g.T.Site.disk c.args.site.now).files c.args.volume) c.in_err-ratio.field-0.0 c.in_err-ratio.ensures.why)

pub homes_of-homes-requires : goal.homes_of-homes-requires
homes_of-homes-requires g c = c.requires.copies.numbers

pub test_ratios-requires-clause-servers : goal.test_ratios-requires-clause-servers
test_ratios-requires-clause-servers g c =
    subst (λ n. AreBelow n c.in_ok-holders.holders) (sym c.ratio_at.ensures.runs.servers)
    (are_below (files_on (g.T.Site.disk c.args.site.now).files c.args.volume) (g.T.Site.servers c.args.site.now) c.args.copies.now c.in_ok-holders.holders c.requires.copies c.in_ok-holders.ensures)

pub test_ratios-requires-clause-holders : goal.test_ratios-requires-clause-holders
test_ratios-requires-clause-holders g c = λ told.
    subst (λ (d : Disk). AreHolders (files_on d.files c.args.volume) c.in_ok-holders.holders) (sym (c.ratio_at.ensures.same told))
    (holders_are (files_on (g.T.Site.disk c.args.site.now).files c.args.volume) (g.T.Site.servers c.args.site.now) c.args.copies.now c.in_ok-holders.holders c.requires.copies c.in_ok-holders.ensures (c.requires.stand told))

pub test_ratios-requires-clause-first : goal.test_ratios-requires-clause-first
test_ratios-requires-clause-first g c = λ told.
    subst (λ (d : Disk). ratio_at (files_on d.files c.args.volume) c.in_ok-holders.holders.first ≡ c.in_ok-ratio.ratio) (sym (c.ratio_at.ensures.same told)) (sym (c.in_ok-ratio.ensures.ratio told))

pub returns-in_err-test_ratios-clause-broken : goal.returns-in_err-test_ratios-clause-broken
returns-in_err-test_ratios-clause-broken g c =
    let p = err_from_is_err_and c.from_residual-in_err-test_ratios.result c.from_residual-in_err-test_ratios.ensures.1 in
    rw (p.1, p.2) (λ told.
    let F = files_on (g.T.Site.disk c.args.site.now).files c.args.volume in
    let holders = holders_are F (g.T.Site.servers c.args.site.now) c.args.copies.now c.in_ok-holders.holders c.requires.copies c.in_ok-holders.ensures (c.requires.stand told) in
    let homes = homes_are F (g.T.Site.servers c.args.site.now) c.args.copies.now c.homes_of-homes.result c.requires.copies (c.requires.stand told) c.homes_of-homes.ensures in
    let lost =
    few_lost F c.in_ok-holders.holders holders (c.requires.no_index told) c.in_ok-ratio.ratio (c.in_ok-ratio.ensures.ratio told) c.homes_of-homes.result c.homes_of-homes.ensures.all homes c.count_homes.result c.count_homes.ensures
    (omega (arith, c.if-count_homes-from.true, c.from.ensures, c.data_count.ensures)) in
    ratios_fail c.args.volume F lost c.in_err-test_ratios.field-0.0 (told_breaks c.args.volume F (IsTrue g.T.Site.tells) c.in_err-test_ratios.field-0.0 told
    (subst (λ (d : Disk). Breaks c.args.volume 4 (IsTrue g.T.Site.tells → HasOneRatio (files_on d.files c.args.volume) → ⊥) c.in_err-test_ratios.field-0.0) (c.ratio_at.ensures.same told) c.in_err-test_ratios.ensures.broken)))

pub check-requires-clause-copies : goal.check-requires-clause-copies
check-requires-clause-copies g c = subst (λ n. AreCopies n c.args.copies.now) (sym c.ratio_at.ensures.runs.servers) c.requires.copies

pub check-requires-clause-stand : goal.check-requires-clause-stand
check-requires-clause-stand g c = λ told. subst (λ (d : Disk). AreStanding (files_on d.files c.args.volume) c.args.copies.now) (sym (c.ratio_at.ensures.same told)) (c.requires.stand told)

pub returns-then-count_homes-from-clause-found : goal.returns-then-count_homes-from-clause-found
returns-then-count_homes-from-clause-found g c = λ told.
    let F = files_on (g.T.Site.disk c.args.site.now).files c.args.volume in
    let holders = holders_are F (g.T.Site.servers c.args.site.now) c.args.copies.now c.in_ok-holders.holders c.requires.copies c.in_ok-holders.ensures (c.requires.stand told) in
    let homes = homes_are F (g.T.Site.servers c.args.site.now) c.args.copies.now c.homes_of-homes.result c.requires.copies (c.requires.stand told) c.homes_of-homes.ensures in
    let lost =
    few_lost F c.in_ok-holders.holders holders (c.requires.no_index told) c.in_ok-ratio.ratio (c.in_ok-ratio.ensures.ratio told) c.homes_of-homes.result c.homes_of-homes.ensures.all homes c.count_homes.result c.count_homes.ensures
    (omega (arith, c.if-count_homes-from.true, c.from.ensures, c.data_count.ensures)) in
    (lost, subst (λ (d : Disk). HasOneRatio (files_on d.files c.args.volume)) (c.ratio_at.ensures.same told) (c.in_ok-test_ratios.ensures.one told))

pub check-requires-clause-coded : goal.check-requires-clause-coded
check-requires-clause-coded g c = λ told.
    let F = files_on (g.T.Site.disk c.args.site.now).files c.args.volume in
    let holders = holders_are F (g.T.Site.servers c.args.site.now) c.args.copies.now c.in_ok-holders.holders c.requires.copies c.in_ok-holders.ensures (c.requires.stand told) in
    let homes = homes_are F (g.T.Site.servers c.args.site.now) c.args.copies.now c.homes_of-homes.result c.requires.copies (c.requires.stand told) c.homes_of-homes.ensures in
    let coded =
    enough_coded F c.in_ok-holders.holders holders (c.requires.no_index told) c.in_ok-ratio.ratio (c.in_ok-ratio.ensures.ratio told) c.homes_of-homes.result c.homes_of-homes.ensures.all homes c.count_homes.result c.count_homes.ensures
    (omega (arith, c.if-count_homes-from.false, c.from.ensures, c.data_count.ensures)) in
    subst (λ (d : Disk). IsCoded (files_on d.files c.args.volume)) (sym (c.ratio_at.ensures.same told)) coded

pub returns-in_err-checked-clause-broken : goal.returns-in_err-checked-clause-broken
returns-in_err-checked-clause-broken g c =
    let p = err_from_is_err_and c.from_residual-in_err-checked.result c.from_residual-in_err-checked.ensures.1 in
    rw (p.1, p.2) (λ told.
    let F = files_on (g.T.Site.disk c.args.site.now).files c.args.volume in
    let holders = holders_are F (g.T.Site.servers c.args.site.now) c.args.copies.now c.in_ok-holders.holders c.requires.copies c.in_ok-holders.ensures (c.requires.stand told) in
    let homes = homes_are F (g.T.Site.servers c.args.site.now) c.args.copies.now c.homes_of-homes.result c.requires.copies (c.requires.stand told) c.homes_of-homes.ensures in
    let coded =
    enough_coded F c.in_ok-holders.holders holders (c.requires.no_index told) c.in_ok-ratio.ratio (c.in_ok-ratio.ensures.ratio told) c.homes_of-homes.result c.homes_of-homes.ensures.all homes c.count_homes.result c.count_homes.ensures
    (omega (arith, c.if-count_homes-from.false, c.from.ensures, c.data_count.ensures)) in
    coded_fails c.args.volume F coded c.in_err-checked.field-0.0 c.in_err-checked.ensures.unsound.0
    (subst (λ (d : Disk). TellsFirst (files_on d.files c.args.volume) c.in_err-checked.field-0.0) (c.ratio_at.ensures.same told) (c.in_err-checked.ensures.unsound.1 told)))

pub returns-clause-found : goal.returns-clause-found
returns-clause-found g c = λ told.
    let F = files_on (g.T.Site.disk c.args.site.now).files c.args.volume in
    let holders = holders_are F (g.T.Site.servers c.args.site.now) c.args.copies.now c.in_ok-holders.holders c.requires.copies c.in_ok-holders.ensures (c.requires.stand told) in
    let homes = homes_are F (g.T.Site.servers c.args.site.now) c.args.copies.now c.homes_of-homes.result c.requires.copies (c.requires.stand told) c.homes_of-homes.ensures in
    let coded =
    enough_coded F c.in_ok-holders.holders holders (c.requires.no_index told) c.in_ok-ratio.ratio (c.in_ok-ratio.ensures.ratio told) c.homes_of-homes.result c.homes_of-homes.ensures.all homes c.count_homes.result c.count_homes.ensures
    (omega (arith, c.if-count_homes-from.false, c.from.ensures, c.data_count.ensures)) in
    found_by F c.in_ok-checked.checked coded
    (subst (λ (d : Disk). IsChecked (files_on d.files c.args.volume) c.in_ok-checked.checked.info c.in_ok-checked.checked.deleted.items) (c.ratio_at.ensures.same told) (c.in_ok-checked.ensures.checked told))
