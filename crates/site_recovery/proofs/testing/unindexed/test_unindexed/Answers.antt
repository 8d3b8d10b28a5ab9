use Rattle.std.proofs.Common.{◌≡◌, ◌<◌, ◌∙◌, List, length, subst, sym, ap, arith}
use Rattle.std.specs.Vec.{vec_len}
use Rattle.std.proofs.lemmas.Result.{err_from_is_err_and}
use Rattle.coded_volume.specs.declared.checking.ShardCopy.{ShardCopy}
use Rattle.coded_volume.specs.Checking.{AreCopies, AreStanding, files_on}
use Rattle.site_recovery.specs.declared.forms.ListedForm.{ListedForm}
use Rattle.site_recovery.specs.Opening.{IsTestedForm, IsWithin}
use Rattle.site_recovery.proofs.Copied.{copies_are, copies_stand}
use Rattle.site_recovery.proofs.Shardless.{some_of, none_of}
use Rattle.site_recovery.proofs.Opened.{shardless_found, shardless_within, shards_found, shards_within, shards_fail}
use Rattle.site_recovery.proofs.testing.unindexed.test_unindexed.Goals as goal

pub returns-then-is_empty-clause-found : goal.returns-then-is_empty-clause-found
returns-then-is_empty-clause-found g c =
    let empty : length c.in_ok-copies.copies.items ≡ 0 = none_of (vec_len c.in_ok-copies.copies) (length c.in_ok-copies.copies.items) c.is_empty.result c.is_empty.ensures c.if-is_empty.true (omega (arith, c.in_ok-copies.copies.ok.0)) in
    λ told.
    let F = files_on (g.T.Site.disk c.args.site.now).files c.args.volume in
    subst (λ (it : ListedForm). IsTestedForm F it) (sym c.without_shards.ensures)
    (shardless_found F c.in_ok-copies.copies.items empty
    (copies_stand c.args.files.now c.in_ok-copies.copies.items c.in_ok-copies.ensures.copies (g.T.Site.servers c.args.site.now) c.requires.order.on_servers c.requires.order.few (g.T.Site.disk c.args.site.now).files c.args.volume c.ranges.volume.fits (c.requires.files told))
    (c.requires.no_index told) c.in_ok-long.long (c.in_ok-long.ensures.long told))

pub returns-then-is_empty-clause-within : goal.returns-then-is_empty-clause-within
returns-then-is_empty-clause-within g c = subst (λ (it : ListedForm). IsWithin (g.T.Site.servers c.args.site.now) it) (sym c.without_shards.ensures) (shardless_within (g.T.Site.servers c.args.site.now) c.in_ok-long.long)

pub test_shards-requires-clause-copies : goal.test_shards-requires-clause-copies
test_shards-requires-clause-copies g c =
    let some : 0 < length c.in_ok-copies.copies.items = some_of (vec_len c.in_ok-copies.copies) (length c.in_ok-copies.copies.items) c.is_empty.result c.is_empty.ensures c.if-is_empty.false (sym (ap length c.deref.ensures.value) ∙ c.deref.ensures.len) in
    subst (λ (l : List ShardCopy). AreCopies (g.T.Site.servers c.args.site.now) l) (sym c.deref.ensures.value)
    (copies_are c.args.files.now c.in_ok-copies.copies.items c.in_ok-copies.ensures.copies (g.T.Site.servers c.args.site.now) c.requires.order.on_servers c.requires.order.named c.in_ok-copies.ensures.rise some)

pub test_shards-requires-clause-stand : goal.test_shards-requires-clause-stand
test_shards-requires-clause-stand g c = λ told.
    subst (λ (l : List ShardCopy). AreStanding (files_on (g.T.Site.disk c.args.site.now).files c.args.volume) l) (sym c.deref.ensures.value)
    (copies_stand c.args.files.now c.in_ok-copies.copies.items c.in_ok-copies.ensures.copies (g.T.Site.servers c.args.site.now) c.requires.order.on_servers c.requires.order.few (g.T.Site.disk c.args.site.now).files c.args.volume c.ranges.volume.fits (c.requires.files told))

pub returns-in_err-checked-clause-broken : goal.returns-in_err-checked-clause-broken
returns-in_err-checked-clause-broken g c =
    let p = err_from_is_err_and c.from_residual-in_err-checked.result c.from_residual-in_err-checked.ensures.1 in
    rw (p.1, p.2) (λ told. shards_fail c.args.volume (files_on (g.T.Site.disk c.args.site.now).files c.args.volume) c.in_err-checked.field-0.0 (c.in_err-checked.ensures.broken told))

pub returns-clause-found : goal.returns-clause-found
returns-clause-found g c = λ told.
    let F = files_on (g.T.Site.disk c.args.site.now).files c.args.volume in
    subst (λ (it : ListedForm). IsTestedForm F it) (sym c.with_shards.ensures)
    (shards_found F c.in_ok-copies.copies
    (copies_stand c.args.files.now c.in_ok-copies.copies.items c.in_ok-copies.ensures.copies (g.T.Site.servers c.args.site.now) c.requires.order.on_servers c.requires.order.few (g.T.Site.disk c.args.site.now).files c.args.volume c.ranges.volume.fits (c.requires.files told))
    c.in_ok-checked.checked (c.in_ok-checked.ensures.found told))

pub returns-clause-within : goal.returns-clause-within
returns-clause-within g c =
    let some : 0 < length c.in_ok-copies.copies.items = some_of (vec_len c.in_ok-copies.copies) (length c.in_ok-copies.copies.items) c.is_empty.result c.is_empty.ensures c.if-is_empty.false (sym (ap length c.deref.ensures.value) ∙ c.deref.ensures.len) in
    subst (λ (it : ListedForm). IsWithin (g.T.Site.servers c.args.site.now) it) (sym c.with_shards.ensures)
    (shards_within c.in_ok-copies.copies (g.T.Site.servers c.args.site.now)
    (copies_are c.args.files.now c.in_ok-copies.copies.items c.in_ok-copies.ensures.copies (g.T.Site.servers c.args.site.now) c.requires.order.on_servers c.requires.order.named c.in_ok-copies.ensures.rise some)
    c.in_ok-checked.checked c.in_ok-checked.ensures.room)
