use Rattle.std.proofs.Common.{◌≡◌, inl, inr, ◌+◌, ◌≤◌, [], ◌∷◌, length, is_some, refl, sym, ◌∙◌, ap, subst, arith}
use Rattle.std.specs.Prelude.{slice_index, slice_index_or, string_bytes, slice_set, None, Some}
use Rattle.std.proofs.lemmas.Bool.{lt-ltb}
use Rattle.std.specs.Option.{option_map_or}
use Rattle.site_model.specs.Disk.{Disk, bytes_of}
use Rattle.site_model.specs.Counts.{TakesCalls}
use Rattle.site_model.specs.Laws.Count.{later_read, later_on, takes_on, takes_within}
use Rattle.world_model.specs.Ratios.{data_count-some, counts-sixteen}
use Rattle.stripe_layout.specs.Stripes.{shard_length, shards_in_all}
use Rattle.shard_table.specs.Table.{place_in, row_of}
use Rattle.image_meaning.specs.Files.{contents, files_of}
use Rattle.degraded_read.specs.Gathering.{IsRestoredPart, shard_at, shard_name, standing_in, reliable}
use Rattle.degraded_read.specs.Reading.{ArePlaced}
use Rattle.degraded_read.specs.Reads.{FailsBy}
use Rattle.degraded_read.proofs.Filling.{on_ok, on_err}
use Rattle.degraded_read.proofs.Steps.{name_is}
use Rattle.degraded_read.proofs.Calling.{reads_on, reads_once, reads_so}
use Rattle.degraded_read.proofs.Blaming.{stays_on, stays_next, stays_later, some_none}
use Rattle.degraded_read.proofs.Restored.{row_stands, word_of_code, restored_is, read_is}
use Rattle.degraded_read.proofs.Words.{HasWord}
use Rattle.degraded_read.proofs.Lowest.{word_of_lowest, word_of_data}
use Rattle.degraded_read.proofs.Parts.{placed_without, reliable_without, standing_without, one_if}
use Rattle.degraded_read.proofs.reading.read_part.Goals as goal

pub returns-in_default-clause-part : goal.returns-in_default-clause-part
returns-in_default-clause-part g c =
    let r = c.args.info.now.geometry.ratio in
    let n = shard_length c.args.info.now.geometry c.args.info.now.dat_size in
    let files = (g.T.Site.disk c.args.site.now).files in
    let row = row_of c.args.table.now c.args.volume in
    let of_volume = files_of (contents files) c.args.volume in
    on_ok c.restored.result
    (λ part told certain.
    let given : IsRestoredPart r files c.args.volume row c.args.shard c.args.at c.restored.new.failed c.restored.new.out =
    subst (λ q. IsRestoredPart r files c.args.volume q c.args.shard c.args.at c.restored.new.failed c.restored.new.out) c.row-row.ensures.row (part told) in
    restored_is r of_volume files c.args.volume row c.args.shard c.args.at c.restored.new.out given c.requires.shard
    (elim certain [
      | inl code ↦ λ i h.
          word_of_code r files c.args.volume n row (c.requires.placed told) code
          (row_stands r files c.args.volume n row (c.requires.placed told) (shards_in_all c.args.info.now.geometry) c.requires.enough (omega (arith, counts-sixteen r)))
          given.have (c.args.at + i) given.shards.shards.below given.placed (omega (arith, h, c.restored.auto.out, c.requires.range))
      | inr lowest ↦ λ i h.
          subst (HasWord r of_volume (shard_at files c.args.volume row) (c.args.at + i)) (sym (given.lowest lowest.1))
          (word_of_lowest r (g.T.Site.servers c.args.site.now) files c.args.volume row (c.servers-servers.ensures.possible told) lowest.0 c.requires.enough (c.args.at + i))
    ]))
    c.restored.ensures.part

pub read_into-requires-clause-range : goal.read_into-requires-clause-range
read_into-requires-clause-range g c told =
    let n = shard_length c.args.info.now.geometry c.args.info.now.dat_size in
    let files = (g.T.Site.disk c.args.site.now).files in
    let placed = subst (ArePlaced files c.args.volume n) (sym c.row-row.ensures.row) (c.requires.placed told) in
    let place : c.index-names-from.result ≡ slice_index_or c.args.names.now c.args.shard c.index-names-from.result = c.index-names-from.is ∙ ap (λ i. slice_index_or c.args.names.now i c.index-names-from.result) c.from.ensures in
    let name = c.as_str-name.ensures.value ∙ name_is string_bytes c.args.names.now c.args.volume c.args.shard c.index-names-from.result c.requires.names (omega (arith, c.requires.shard, counts-sixteen c.args.info.now.geometry.ratio)) place in
    subst (λ m. c.args.at + length c.args.out.now ≤ length (bytes_of ((g.T.Site.disk c.args.site.now).files (c.in-Some.server, m)))) (sym name) (omega (arith, (placed c.args.shard c.in-Some.server c.in-Some.ensures.there).long, c.requires.range))

pub restored-requires-in-Err-clause-range : goal.restored-requires-in-Err-clause-range
restored-requires-in-Err-clause-range g c told i s e =
    let n = shard_length c.args.info.now.geometry c.args.info.now.dat_size in
    let files = (g.T.Site.disk c.args.site.now).files in
    let row = c.row-row.result.now in
    let placed = subst (ArePlaced files c.args.volume n) (sym c.row-row.ensures.row) (c.requires.placed told) in
    let rest = placed_without files c.args.volume n row c.args.shard (omega (arith, c.row-row.ensures.placed.shards, c.requires.shard, counts-sixteen c.args.info.now.geometry.ratio)) placed in
    let long = (rest i s (ap (λ row. place_in row i) (sym c.without-places.ensures) ∙ e)).long in
    subst (λ (d : Disk). c.args.at + length c.read_into.new.room ≤ length (bytes_of (d.files (s, shard_name c.args.volume i)))) (sym (c.read_into.ensures.reads.same told)) (omega (arith, long, c.read_into.auto.room, c.requires.range))

pub returns-in-Ok-clause-part : goal.returns-in-Ok-clause-part
returns-in-Ok-clause-part g c told certain =
    let r = c.args.info.now.geometry.ratio in
    let n = shard_length c.args.info.now.geometry c.args.info.now.dat_size in
    let files = (g.T.Site.disk c.args.site.now).files in
    let row = row_of c.args.table.now c.args.volume in
    let of_volume = files_of (contents files) c.args.volume in
    let there : place_in (row_of c.args.table.now c.args.volume) c.args.shard ≡ Some c.in-Some.server = ap (λ q. place_in q c.args.shard) (sym c.row-row.ensures.row) ∙ c.in-Some.ensures.there in
    let place : c.index-names-from.result ≡ slice_index_or c.args.names.now c.args.shard c.index-names-from.result = c.index-names-from.is ∙ ap (λ i. slice_index_or c.args.names.now i c.index-names-from.result) c.from.ensures in
    let name = c.as_str-name.ensures.value ∙ name_is string_bytes c.args.names.now c.args.volume c.args.shard c.index-names-from.result c.requires.names (omega (arith, c.requires.shard, counts-sixteen r)) place in
    let bytes : shard_at files c.args.volume row c.args.shard ≡ bytes_of (files (c.in-Some.server, c.as_str-name.result.now)) =
    ap (λ o. option_map_or (λ s. bytes_of (files (s, shard_name c.args.volume c.args.shard))) o []) there ∙ ap (λ m. bytes_of (files (c.in-Some.server, m))) (sym name) in
    read_is r of_volume files c.args.volume row c.args.shard c.args.at c.read_into.new.room c.requires.shard
    (λ i h. let start : 0 + i ≡ i = omega arith in
    ap (slice_index c.read_into.new.room) (sym start) ∙ c.in-Ok.ensures.bytes told i (omega (arith, h, c.read_into.auto.room)) ∙ ap (λ xs. slice_index xs (c.args.at + i)) (sym bytes))
    (elim certain [
      | inl code ↦ λ i h.
          word_of_code r files c.args.volume n row (c.requires.placed told) code
          (row_stands r files c.args.volume n row (c.requires.placed told) (shards_in_all c.args.info.now.geometry) c.requires.enough (omega (arith, counts-sixteen r)))
          (c.args.shard ∷ []) (c.args.at + i) (c.requires.shard, tt) (ap is_some there, tt) (omega (arith, h, c.read_into.auto.room, c.requires.range))
      | inr lowest ↦ λ i h.
          word_of_data r (g.T.Site.servers c.args.site.now) files c.args.volume row (c.servers-servers.ensures.possible told) lowest.0 c.requires.enough (c.args.at + i) c.args.shard c.in-Some.ensures.low (ap is_some there)
    ])

pub returns-in-Err-clause-part : goal.returns-in-Err-clause-part
returns-in-Err-clause-part g c =
    let r = c.args.info.now.geometry.ratio in
    let n = shard_length c.args.info.now.geometry c.args.info.now.dat_size in
    let files = (g.T.Site.disk c.args.site.now).files in
    let row = row_of c.args.table.now c.args.volume in
    let of_volume = files_of (contents files) c.args.volume in
    on_ok c.restored-in-Err.result
    (λ part told certain.
    let rest : ArePlaced files c.args.volume n c.without-places.result =
    subst (ArePlaced files c.args.volume n) (sym c.without-places.ensures)
    (placed_without files c.args.volume n c.row-row.result.now c.args.shard (omega (arith, c.row-row.ensures.placed.shards, c.requires.shard, counts-sixteen r))
    (subst (ArePlaced files c.args.volume n) (sym c.row-row.ensures.row) (c.requires.placed told))) in
    let given : IsRestoredPart r files c.args.volume c.without-places.result c.args.shard c.args.at c.restored-in-Err.new.failed c.restored-in-Err.new.out =
    subst (λ (d : Disk). IsRestoredPart r d.files c.args.volume c.without-places.result c.args.shard c.args.at c.restored-in-Err.new.failed c.restored-in-Err.new.out) (c.read_into.ensures.reads.same told) (part told) in
    restored_is r of_volume files c.args.volume c.without-places.result c.args.shard c.args.at c.restored-in-Err.new.out given c.requires.shard
    (elim certain [
      | inl code ↦ λ i h.
          word_of_code r files c.args.volume n c.without-places.result rest code
          (row_stands r files c.args.volume n row (c.requires.placed told) (shards_in_all c.args.info.now.geometry) c.requires.enough (omega (arith, counts-sixteen r)))
          given.have (c.args.at + i) given.shards.shards.below given.placed (omega (arith, h, c.restored-in-Err.auto.out, c.read_into.auto.room, c.requires.range))
      | inr lowest ↦ absurd (some_none (c.restored-in-Err.ensures.fails.stays.kept lowest.1))
    ]))
    c.restored-in-Err.ensures.part

pub returns-in_default-clause-fails : goal.returns-in_default-clause-fails
returns-in_default-clause-fails g c =
    subst (λ q. FailsBy c.args.info.now.geometry.ratio q c.restored.result c.args.failed.now c.restored.new.failed (g.T.Site.counts c.args.site.now) (g.T.Site.counts c.restored.new.site)) c.row-row.ensures.row c.restored.ensures.fails

pub returns-in-Ok-clause-fails : goal.returns-in-Ok-clause-fails
returns-in-Ok-clause-fails g c =
    record { stays = stays_later c.args.failed.now (g.T.Site.counts c.args.site.now) (g.T.Site.counts c.read_into.new.site) (later_read c.read_into.ensures.reads.counts_read); told = tt; few = tt }

pub returns-in-Err-clause-fails : goal.returns-in-Err-clause-fails
returns-in-Err-clause-fails g c =
    let r = c.args.info.now.geometry.ratio in
    let all = shards_in_all c.args.info.now.geometry in
    let row = c.row-row.result.now in
    let new = g.T.Site.counts c.restored-in-Err.new.site in
    let later = later_read c.read_into.ensures.reads.counts_read in
    let risen = c.in-Err.ensures.reads.counts_read.failed refl in
    record {
      stays = stays_on later
          (stays_next c.args.failed.now c.in-Some.server c.lower.result (g.T.Site.counts c.args.site.now) (g.T.Site.counts c.read_into.new.site) later risen c.lower.ensures)
          c.restored-in-Err.ensures.fails.stays;
      told = c.restored-in-Err.ensures.fails.told;
      few = on_err c.restored-in-Err.result
          (λ fault few old before.
          let unreliable : reliable (row_of c.args.table.now c.args.volume) old (g.T.Site.counts c.restored-in-Err.new.site) (shards_in_all c.args.info.now.geometry)
          ≤ reliable c.without-places.result old (g.T.Site.counts c.restored-in-Err.new.site) (shards_in_all c.args.info.now.geometry) =
          subst (λ q. reliable q old new all ≤ reliable c.without-places.result old new all) c.row-row.ensures.row
          (subst (λ q. reliable row old new all ≤ reliable q old new all) (sym c.without-places.ensures)
          (reliable_without row c.args.shard all c.in-Some.server old new (omega (arith, c.row-row.ensures.placed.shards, c.requires.shard, counts-sixteen r)) c.in-Some.ensures.there
          (omega (arith, before.faults c.in-Some.server, risen, c.restored-in-Err.ensures.reads.runs.later.faults c.in-Some.server)))) in
          omega (arith, unreliable, few old (later_on before later)))
          c.restored-in-Err.ensures.fails.few;
    }

pub returns-in_default-clause-reads : goal.returns-in_default-clause-reads
returns-in_default-clause-reads g c =
    reads_so (subst (λ q. TakesCalls (length (standing_in q (shards_in_all c.args.info.now.geometry))) (length c.args.out.now) (g.T.Site.counts c.args.site.now) (g.T.Site.counts c.restored.new.site)) c.row-row.ensures.row) c.restored.ensures.reads

pub returns-in-Ok-clause-reads : goal.returns-in-Ok-clause-reads
returns-in-Ok-clause-reads g c =
    reads_so (takes_within (omega (arith, c.requires.enough, data_count-some c.args.info.now.geometry.ratio)) (omega arith)) (reads_once (omega (arith, c.requires.narrow)) c.read_into.ensures.reads)

pub returns-in-Err-clause-reads : goal.returns-in-Err-clause-reads
returns-in-Err-clause-reads g c =
    let all = shards_in_all c.args.info.now.geometry in
    let row = c.row-row.result.now in
    let inside = c.row-row.ensures.placed.shards in
    let fewer : length (standing_in c.without-places.result (shards_in_all c.args.info.now.geometry)) + 1 ≡ length (standing_in (row_of c.args.table.now c.args.volume) (shards_in_all c.args.info.now.geometry)) =
    ap (λ q. length (standing_in q all) + 1) c.without-places.ensures
    ∙ ap (λ b. length (standing_in (slice_set row c.args.shard None) all) + one_if b) (sym (lt-ltb c.args.shard all c.requires.shard))
    ∙ standing_without row c.args.shard all (omega (arith, inside, c.requires.shard, counts-sixteen c.args.info.now.geometry.ratio)) (ap is_some c.in-Some.ensures.there)
    ∙ ap (λ q. length (standing_in q all)) c.row-row.ensures.row in
    let rest = length (standing_in c.without-places.result all) in
    reads_on (λ first second. takes_within {m = 1 + rest} (omega (arith, fewer)) (omega arith) (takes_on {m = 1} {n = rest} first (takes_within (omega arith) (omega (arith, c.read_into.auto.room)) second)))
    (reads_once (omega (arith, c.requires.narrow)) c.read_into.ensures.reads) c.restored-in-Err.ensures.reads
