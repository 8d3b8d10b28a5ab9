use Rattle.std.proofs.Common.{◌≡◌, ◌+◌, ◌*◌, ◌<◌, ◌≤◌, [], Some, None, length, take, refl, sym, ◌∙◌, ap, subst, length-take, arith}
use Rattle.std.specs.Prelude.{IsTrue, slice_index, slice_index_or, string_bytes}
use Rattle.std.specs.Option.{option_map_or}
use Rattle.site_model.specs.Disk.{bytes_of}
use Rattle.site_model.specs.Laws.Count.{later_read}
use Rattle.shard_table.specs.Table.{place_in}
use Rattle.degraded_read.specs.Gathering.{HasGathered, shard_at, shard_name}
use Rattle.degraded_read.proofs.Steps.{absent_next, read_next, failed_next, none_of, name_is, one_more}
use Rattle.degraded_read.proofs.Blaming.{stays_same, stays_later, stays_next}
use Rattle.degraded_read.proofs.gathering.gather_one.Goals as goal

pub returns-in_default-clause-gathered : goal.returns-in_default-clause-gathered
returns-in_default-clause-gathered g c old before so_far =
    let none : place_in c.args.places.now c.args.shard ≡ None =
    ap (λ i. slice_index_or c.args.places.now i None) (sym c.from.ensures) ∙ none_of _ c.in_default.not-Some in
    absent_next (IsTrue g.T.Site.tells) (g.T.Site.disk c.args.site.now).files c.args.volume c.args.places.now c.args.at c.args.size old (g.T.Site.counts c.args.site.now) c.args.shard _ _ _ none so_far

pub read_into-requires-clause-range : goal.read_into-requires-clause-range
read_into-requires-clause-range g c told =
    let there : place_in c.args.places.now c.args.shard ≡ Some c.in-Some.server = ap (λ i. slice_index_or c.args.places.now i None) (sym c.from.ensures) ∙ c.in-Some.is in
    let place : c.index-names-from.result ≡ slice_index_or c.args.names.now c.args.shard c.index-names-from.result = c.index-names-from.is ∙ ap (λ i. slice_index_or c.args.names.now i c.index-names-from.result) c.from-2.ensures in
    let name = c.as_str-name.ensures.value ∙ name_is string_bytes c.args.names.now c.args.volume c.args.shard c.index-names-from.result c.requires.names c.requires.shard place in
    subst (λ n. c.args.at + c.args.size ≤ length (bytes_of ((g.T.Site.disk c.args.site.now).files (c.in-Some.server, n)))) (sym name) (c.requires.range told c.args.shard c.in-Some.server there)

pub returns-in-Ok-clause-gathered : goal.returns-in-Ok-clause-gathered
returns-in-Ok-clause-gathered g c old before so_far =
    let there : place_in c.args.places.now c.args.shard ≡ Some c.in-Some.server = ap (λ i. slice_index_or c.args.places.now i None) (sym c.from.ensures) ∙ c.in-Some.is in
    let place : c.index-names-from.result ≡ slice_index_or c.args.names.now c.args.shard c.index-names-from.result = c.index-names-from.is ∙ ap (λ i. slice_index_or c.args.names.now i c.index-names-from.result) c.from-2.ensures in
    let name = c.as_str-name.ensures.value ∙ name_is string_bytes c.args.names.now c.args.volume c.args.shard c.index-names-from.result c.requires.names c.requires.shard place in
    let files = (g.T.Site.disk c.args.site.now).files in
    let have = take c.args.so_far.now.count c.args.so_far.now.have in
    let long : length (take c.args.so_far.now.count c.args.so_far.now.have) ≡ c.args.so_far.now.count = omega (arith, length-take c.args.so_far.now.count c.args.so_far.now.have, c.requires.numbers, c.requires.count) in
    let bytes : shard_at (g.T.Site.disk c.args.site.now).files c.args.volume c.args.places.now c.args.shard ≡ bytes_of ((g.T.Site.disk c.args.site.now).files (c.in-Some.server, c.as_str-name.result.now)) =
    ap (λ o. option_map_or (λ s. bytes_of (files (s, shard_name c.args.volume c.args.shard))) o []) there ∙ ap (λ n. bytes_of (files (c.in-Some.server, n))) (sym name) in
    subst (λ have. HasGathered (IsTrue g.T.Site.tells) files c.args.volume c.args.places.now c.args.at c.args.size old (g.T.Site.counts c.read_into.new.site) (c.args.shard + 1) have c.args.so_far.now.failed c.read_into.new.room)
    (sym (one_more c.args.so_far.now.have c.args.so_far.now.count c.args.shard (omega (arith, c.requires.numbers, c.requires.count))))
    (read_next (IsTrue g.T.Site.tells) files c.args.volume c.args.places.now c.args.at c.args.size old (g.T.Site.counts c.args.site.now) (g.T.Site.counts c.read_into.new.site) c.args.shard have c.args.so_far.now.failed c.args.room.now c.read_into.new.room c.in-Some.server there
    (later_read c.read_into.ensures.reads.counts_read)
    (λ i h. c.read_into.ensures.before i (subst (λ n. i < n * c.args.size) long h))
    (λ told i h. ap (λ n. slice_index c.read_into.new.room (n * c.args.size + i)) long ∙ c.in-Ok.ensures.bytes told i h ∙ ap (λ xs. slice_index xs (c.args.at + i)) (sym bytes))
    so_far)

pub returns-in-Err-clause-gathered : goal.returns-in-Err-clause-gathered
returns-in-Err-clause-gathered g c old before so_far =
    let there : place_in c.args.places.now c.args.shard ≡ Some c.in-Some.server = ap (λ i. slice_index_or c.args.places.now i None) (sym c.from.ensures) ∙ c.in-Some.is in
    let files = (g.T.Site.disk c.args.site.now).files in
    let have = take c.args.so_far.now.count c.args.so_far.now.have in
    let long : length (take c.args.so_far.now.count c.args.so_far.now.have) ≡ c.args.so_far.now.count = omega (arith, length-take c.args.so_far.now.count c.args.so_far.now.have, c.requires.numbers, c.requires.count) in
    let later = later_read c.read_into.ensures.reads.counts_read in
    let risen = c.in-Err.ensures.reads.counts_read.failed refl in
    failed_next (IsTrue g.T.Site.tells) files c.args.volume c.args.places.now c.args.at c.args.size old (g.T.Site.counts c.args.site.now) (g.T.Site.counts c.read_into.new.site) c.args.shard have c.args.so_far.now.failed c.args.room.now c.read_into.new.room c.in-Some.server c.lower.result there later
    risen
    (before.faults c.in-Some.server)
    (λ i h. c.read_into.ensures.before i (subst (λ n. i < n * c.args.size) long h))
    so_far

pub returns-in_default-clause-blamed : goal.returns-in_default-clause-blamed
returns-in_default-clause-blamed g c = stays_same c.args.so_far.now.failed (g.T.Site.counts c.args.site.now)

pub returns-in-Ok-clause-blamed : goal.returns-in-Ok-clause-blamed
returns-in-Ok-clause-blamed g c =
    stays_later c.args.so_far.now.failed (g.T.Site.counts c.args.site.now) (g.T.Site.counts c.read_into.new.site) (later_read c.read_into.ensures.reads.counts_read)

pub returns-in-Err-clause-blamed : goal.returns-in-Err-clause-blamed
returns-in-Err-clause-blamed g c =
    stays_next c.args.so_far.now.failed c.in-Some.server c.lower.result (g.T.Site.counts c.args.site.now) (g.T.Site.counts c.read_into.new.site)
    (later_read c.read_into.ensures.reads.counts_read) (c.in-Err.ensures.reads.counts_read.failed refl) c.lower.ensures
