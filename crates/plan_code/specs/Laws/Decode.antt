-- The plan of a decode begins on the files of a coded volume.
use Rattle.std.proofs.Common.{◌≡◌, ℕ, ◌+◌, ◌*◌, ◌^◌, ◌<◌, ◌≤◌, true, false, List, [], ◌∷◌, ◌++◌, length, refl, sym, ◌∙◌, ap, subst, arith, append_assoc, append-nil, length-append}
use Rattle.std.specs.List.{AllByRecursion}
use Rattle.world_model.specs.Sizes.{max_dat, deletion_length}
use Rattle.stripe_layout.specs.declared.Info.{Info}
use Rattle.stripe_layout.specs.Laws.Info.{IsInRange}
use Rattle.needle_record.specs.declared.Record.{Record}
use Rattle.needle_record.specs.Spelling.{HasRoom, canonical, deletion_of, length_of_record}
use Rattle.needle_record.specs.Records.{Placed, IsWholeDat, records}
use Rattle.needle_record.specs.Laws.Records.{records-write, whole_dat-write}
use Rattle.needle_record.specs.Laws.Spelling.{canonical-reads}
use Rattle.shard_table.specs.Table.{Row, IsRow}
use Rattle.site_model.specs.Counts.{max_servers}
use Rattle.image_meaning.specs.Files.{VolumeFiles}
use Rattle.image_meaning.specs.Coded.{coded_with}
use Rattle.image_meaning.specs.Ends.{changes_form}
use Rattle.image_meaning.specs.Parts.{Parts, AreSoundParts}
use Rattle.image_meaning.specs.Laws.Plain.{has_super-long}
use Rattle.plan_steps.specs.declared.plan.Plan.{Plan}
use Rattle.plan_steps.specs.Planned.{deletions, joined, is_encode}
use Rattle.plan_steps.specs.Legal.{KeepsJoined}
use Rattle.plan_steps.specs.Laws.Forms.{HasEntry, decode_forms, decode_index}
use Rattle.plan_code.specs.Made.{IsDecodeOf, StandEnough}
use Rattle.plan_code.specs.Started.{StandsCoded, Begins}
use Rattle.plan_code.specs.Laws.Bytes.{striped_bytes}
use Rattle.plan_code.specs.Laws.Live.{records_entries}
use Rattle.plan_code.specs.Laws.Coded.{has, deleted_is, coded_means, coded_begins}

abbrev AreIds : List ℕ → Type 0
AreIds ids = AllByRecursion (λ id. id < 2 ^ 64) ids

-- ---- the entries of the joined file's records

all_append : (P : Placed → Type 0) (ps qs : List Placed) → AllByRecursion P ps → AllByRecursion P qs → AllByRecursion P (ps ++ qs)
all_append P [] qs h k = k
all_append P (p ∷ ps) qs h k = (h.0, all_append P ps qs h.1 k)

has_room : (id : ℕ) → id < 2 ^ 64 → HasRoom (deletion_of id)
has_room id h = record { cookie = omega arith; id = h; appended = omega arith }

joined_entries : (ids dat : List ℕ) → IsWholeDat dat → AreIds ids → length dat + deletion_length * length ids ≤ max_dat → AllByRecursion HasEntry (records dat) → AllByRecursion HasEntry (records (dat ++ deletions ids))
joined_entries [] dat whole fits room all = subst (λ d. AllByRecursion HasEntry (records d)) (sym (append-nil dat)) all
joined_entries (id ∷ ids) dat whole fits room all =
    let d : Record = deletion_of id in
    let takes : length_of_record (deletion_of id) ≡ deletion_length = refl in
    let long : length dat + length_of_record (deletion_of id) ≤ max_dat = omega (arith, room, takes) in
    let more : length (dat ++ canonical d) ≡ length dat + 32 = length-append dat (canonical d) ∙ ap (λ n. length dat + n) (canonical-reads d (has_room id fits.0) tt).long in
    let next : AllByRecursion HasEntry (records (dat ++ canonical d)) = subst (AllByRecursion HasEntry) (sym (records-write dat d whole (has_room id fits.0) tt long))
    (all_append HasEntry (records dat) ((length dat, d) ∷ []) all (record { room = has_room id fits.0; fits = tt; place = omega (arith, room) }, tt)) in
    subst (λ ds. AllByRecursion HasEntry (records ds)) (append_assoc dat (canonical d) (deletions ids))
    (joined_entries ids (dat ++ canonical d) (whole_dat-write dat d whole (has_room id fits.0) tt long) fits.1 (omega (arith, more, room)) next)

keeps_joined : (t : Parts) → AreSoundParts t → AreIds t.deleted → KeepsJoined (record { changes = true; kept = records (joined t); parts = t })
keeps_joined t good fits =
    let whole : IsWholeDat t.dat = record { super = has_super-long t.dat good.super; to_end = good.to_end } in
    decode_index t good fits (joined_entries t.deleted t.dat whole fits (omega (arith, good.room, good.size)) (records_entries t.dat (striped_bytes t.info.geometry t.dat t.shards good.striped) whole.super))

-- A tidy and sound coded volume begins the decode that is made of it.
pub decode_starts : (servers v listed : ℕ) (text : Info) (ids : List ℕ) (row : Row) (plan : Plan) (start : VolumeFiles)
    → IsDecodeOf v text listed ids row plan → IsRow servers row → servers ≤ max_servers → StandEnough text.geometry row → IsInRange text → AreIds ids → StandsCoded text ids listed row start → Begins plan start
decode_starts servers v listed text ids row plan start is on few stand range fits stood =
    let other : is_encode plan.command ≡ false = ap is_encode is.command in
    let parts = has servers v listed text ids row plan start is.coded other on few stand stood in
    let t : Parts = parts.parts in
    let same = deleted_is servers v listed text ids row plan start is.coded other on few stand stood in
    let ids_fit : AreIds t.deleted = subst AreIds (sym same) fits in
    record {
      w = coded_with t.dat t.info t.deleted;
      f = record { changes = true; kept = records (joined t); parts = t };
      means = coded_means servers v listed text ids row plan start is.coded other on few stand stood;
      forms = decode_forms t parts.sound ids_fit;
      begins = coded_begins servers v listed text ids row plan start is.coded other on few stand stood (record { changes = true; kept = records (joined t); parts = t })
          (sym (ap changes_form is.command)) refl range fits (λ _. is.home) (λ _. keeps_joined t parts.sound ids_fit);
    }
