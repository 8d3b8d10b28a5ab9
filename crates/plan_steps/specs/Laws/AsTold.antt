-- Files that fit a progress stand as the plan says, and each call of a step that succeeds leaves them so.
-- For `run_step` of the running plans of `plan_run`, to come.
use Rattle.std.proofs.Common.{◌≡◌, ◌≢◌, ◌⊎◌, inl, inr, ⊎_elim, ℕ, zero, suc, ◌+◌, ◌*◌, ◌<◌, ◌≤◌, ◌^◌, true, false, List, [], ◌∷◌, ◌++◌, length, Option, Some, None, is_some, refl, sym, ◌∙◌, ap, subst, arith, length-append}
use Rattle.std.specs.Prelude.{flat_map, slice_get, slice_set, option_map}
use Rattle.std.specs.List.{AllByRecursion}
use Rattle.std.specs.Int.{w32, cast_unsigned}
use Rattle.std.proofs.lemmas.List.{length-take-le}
use Rattle.std.proofs.lemmas.Bool.{cases_lt, eqb-true, false≢true}
use Rattle.image_meaning.specs.Laws.Options.{none_some, some_is}
use Rattle.wire_num.specs.Numbers.{bytes_of}
use Rattle.wire_num.specs.Laws.Number.{length-bytes_of}
use Rattle.wire_num.specs.Pairs.{journal_bytes}
use Rattle.wire_num.specs.Laws.Pair.{length-journal_bytes}
use Rattle.volume_forms.specs.declared.Entry.{Entry}
use Rattle.volume_forms.specs.Forms.{entries, entry_bytes}
use Rattle.volume_forms.specs.Laws.Entry.{length-entries}
use Rattle.world_model.specs.World.{Volume}
use Rattle.world_model.specs.Sizes.{deletion_length}
use Rattle.world_model.specs.Ratios.{counts-sixteen}
use Rattle.world_model.specs.declared.types.Command.{Command}
use Rattle.world_model.specs.declared.types.Command.TheVariants.{Encode, Rebuild, Balance, Decode}
use Rattle.needle_record.specs.declared.Record.{Record}
use Rattle.needle_record.specs.Spelling.{canonical}
use Rattle.needle_record.specs.Laws.Spelling.{canonical-reads}
use Rattle.site_model.specs.Disk.{File, Place, Disk, Appends, Syncs, Renames, IsRenamed, firm_file, grown, synced, size_of}
use Rattle.site_model.specs.Disk as disk
use Rattle.site_model.specs.Touches.{touches_append, touches_sync}
use Rattle.site_model.specs.Counts.{max_servers}
use Rattle.whole_file.specs.Whole.{Clears, WritesWhole, IsWritten}
use Rattle.file_names.specs.declared.Kind.{Kind}
use Rattle.file_names.specs.declared.Kind.TheVariants.{Dat, Idx, Cpd, Cpx, Shard, Ecx, Ecj, Vif}
use Rattle.file_names.specs.Names.{place_of, max_shards}
use Rattle.stripe_layout.specs.declared.Info.{Info}
use Rattle.stripe_layout.specs.Information.{info_text}
use Rattle.stripe_layout.specs.Stripes.{shard_length, shards_in_all}
use Rattle.shard_table.specs.Table.{Row}
use Rattle.image_meaning.specs.Meaning.{max_volumes}
use Rattle.image_meaning.specs.Share.{Share, share_of, finals}
use Rattle.image_meaning.specs.Sound.{Stands}
use Rattle.image_meaning.specs.Parts.{Parts, AreSoundParts}
use Rattle.plan_steps.specs.declared.plan.Plan.{Plan}
use Rattle.plan_steps.specs.declared.plan.Stage.{Stage}
use Rattle.plan_steps.specs.declared.plan.Stage.TheVariants.{Absent, Writing, Synced, Registered, Gone}
use Rattle.plan_steps.specs.declared.plan.FileState.{FileState}
use Rattle.plan_steps.specs.Kept.{Forms}
use Rattle.plan_steps.specs.Planned.{deletions, joined, planned, given, is_encode, is_found}
use Rattle.plan_steps.specs.Laws.Found.{found_index}
use Rattle.plan_steps.specs.Fitting.{StandsBy, AreStates}
use Rattle.plan_steps.specs.Laws.Fitting.{IsSameBut, same_but, was_in, get_set}
use Rattle.plan_steps.specs.Legal.{IsFound, IsNew, TellsParts, HasFile, FitsPlaces}
use Rattle.plan_steps.specs.Laws.Legal.{by_bool, some_at, given_new, file_found}
use Rattle.plan_steps.specs.Laws.Way.{file_before}
use Rattle.plan_steps.specs.Next.{entries_by}
use Rattle.plan_steps.specs.Progressing.{Running, FitsProgress}
use Rattle.plan_steps.specs.Reading.{StandAtPlaces}
use Rattle.plan_steps.specs.AsTold.{IsPlannedKind, IsPlannedLength, IsLong, IsWrittenBy, IsFoundLong, StandsAsTold}

-- ---- lengths of lists

entry_long : (e : Entry) → length (entry_bytes e) ≡ 16
entry_long e =
    length-append (bytes_of 8 e.id ++ bytes_of 4 e.offset) (bytes_of 4 (cast_unsigned w32 e.size))
    ∙ ap (λ n. n + length (bytes_of 4 (cast_unsigned w32 e.size))) (length-append (bytes_of 8 e.id) (bytes_of 4 e.offset))
    ∙ λ i. length-bytes_of 8 e.id i + length-bytes_of 4 e.offset i + length-bytes_of 4 (cast_unsigned w32 e.size) i

entries_long : (es : List Entry) → length (flat_map entry_bytes es) ≡ 16 * length es
entries_long [] = refl
entries_long (e ∷ es) = length-append (entry_bytes e) (flat_map entry_bytes es) ∙ omega (arith, entry_long e, entries_long es)

pub deletion_long : (id : ℕ) → id < 2 ^ 64 → length (canonical (record { cookie = 0; id = id; content = None; appended = 0 })) ≡ deletion_length
deletion_long id h =
    let deletion : Record = record { cookie = 0; id = id; content = None; appended = 0 } in
    (canonical-reads deletion (record { cookie = omega arith; id = h; appended = omega arith }) tt).long

pub deletions_long : (ids : List ℕ) → AllByRecursion (λ id. id < 2 ^ 64) ids → length (deletions ids) ≡ deletion_length * length ids
deletions_long [] h = refl
deletions_long (id ∷ ids) h =
    length-append (canonical (record { cookie = 0; id = id; content = None; appended = 0 })) (deletions ids) ∙ omega (arith, deletion_long id h.0, deletions_long ids h.1)

all_at : {A : Type 0} (P : A → Type 0) (xs : List A) (i : ℕ) (x : A) → AllByRecursion P xs → slice_get xs i ≡ Some x → P x
all_at P [] i x all e = absurd (none_some e)
all_at P (y ∷ xs) zero x all e = subst P (some_is y x e) all.0
all_at P (y ∷ xs) (suc i) x all e = all_at P xs i x all.1 e

-- ---- sizes of files

size_standing : (file : Option File) (bytes : List ℕ) → disk.standing file ≡ Some bytes → size_of file ≡ Some (length bytes)
size_standing None bytes e = absurd (none_some e)
size_standing (Some file) bytes e = ap (λ b. Some (length b)) (some_is file.bytes bytes e)

standing_size : (file : Option File) (n : ℕ) → size_of file ≡ Some n → option_map length (disk.standing file) ≡ Some n
standing_size None n e = absurd (none_some e)
standing_size (Some file) n e = e

size_synced : (file : Option File) → size_of (synced file) ≡ size_of file
size_synced None = refl
size_synced (Some file) = refl

size_grown : (file : Option File) (n : ℕ) (piece : List ℕ) → size_of file ≡ Some n → size_of (Some (grown file piece)) ≡ Some (n + length piece)
size_grown None n piece e = absurd (none_some e)
size_grown (Some file) n piece e = ap Some (length-append file.bytes piece ∙ ap (λ m. m + length piece) (some_is (length file.bytes) n e))

-- ---- what is planned

-- a plan's bytes for files of these kinds
planned_some : (plan : Plan) (t : Parts) → AreSoundParts t → t.info ≡ plan.info → (kind : Kind) → IsPlannedKind plan kind → (bytes : List ℕ) × (planned t kind ≡ Some bytes)
planned_some plan t good told Dat is = (_, refl)
planned_some plan t good told Idx is = (_, refl)
planned_some plan t good told Cpd is = absurd is
planned_some plan t good told Cpx is = absurd is
planned_some plan t good told (Shard i) is =
    let counted : length t.shards ≡ shards_in_all plan.info.geometry = good.striped.count ∙ ap (λ (info : Info). shards_in_all info.geometry) told in
    (_, some_at t.shards i (omega (arith, is, counted)))
planned_some plan t good told Ecx is = (_, refl)
planned_some plan t good told Ecj is = (_, refl)
planned_some plan t good told Vif is = (_, refl)

module _ (plan : Plan) (t : Parts) (good : AreSoundParts t) (told : t.info ≡ plan.info) (ids : t.deleted ≡ plan.deleted.items) (fit : AllByRecursion (λ id. id < 2 ^ 64) t.deleted)
    (index : is_encode plan.command ≡ true → t.index ≡ flat_map entry_bytes plan.entries.items) (count : is_encode plan.command ≡ false → plan.entry_count ≡ length (entries t.index)) where
  index_long : length t.index ≡ 16 * entries_by plan plan.command
  index_long = by_command plan.command refl
    where
      written : is_encode plan.command ≡ true → length t.index ≡ 16 * length plan.entries.items
      written encode = ap length (index encode) ∙ entries_long plan.entries.items

      found : is_encode plan.command ≡ false → length t.index ≡ 16 * plan.entry_count
      found other = omega (arith, count other, length-entries t.index, good.sorted.whole)

      by_command : (c : Command) → plan.command ≡ c → length t.index ≡ 16 * entries_by plan c
      by_command (Encode ratio) e = written (ap is_encode e)
      by_command Rebuild e = found (ap is_encode e)
      by_command Balance e = found (ap is_encode e)
      by_command Decode e = found (ap is_encode e)

  same_shard_length : shard_length t.info.geometry (length t.dat) ≡ shard_length plan.info.geometry plan.info.dat_size
  same_shard_length = ap (shard_length t.info.geometry) good.size ∙ ap (λ (info : Info). shard_length info.geometry info.dat_size) told

  planned_long : (kind : Kind) (bytes : List ℕ) → planned t kind ≡ Some bytes → IsPlannedLength plan (length bytes) kind
  planned_long Dat bytes e =
      let size : length t.dat ≡ plan.info.dat_size = good.size ∙ ap (λ (info : Info). info.dat_size) told in
      ap length (sym (some_is (joined t) bytes e)) ∙ length-append t.dat (deletions t.deleted) ∙ omega (arith, size, deletions_long t.deleted fit, ap length ids)
  planned_long Idx bytes e = tt
  planned_long Cpd bytes e = tt
  planned_long Cpx bytes e = tt
  planned_long (Shard i) bytes e = all_at (λ (s : List ℕ). length s ≡ shard_length t.info.geometry (length t.dat)) t.shards i bytes good.striped.lengths e ∙ same_shard_length
  planned_long Ecx bytes e = ap length (sym (some_is t.index bytes e)) ∙ index_long
  planned_long Ecj bytes e = ap length (sym (some_is (journal_bytes t.deleted) bytes e)) ∙ length-journal_bytes t.deleted ∙ ap (λ (l : List ℕ). 16 * length l) ids
  planned_long Vif bytes e = ap length (sym (some_is (info_text t.info) bytes e)) ∙ ap (λ info. length (info_text info)) told

-- ---- files that fit

plain_home : (plan : Plan) (c : Command) (server : ℕ) → is_found plan c server Dat ≡ true → (is_encode c ≡ true) × (plan.home ≡ server)
plain_home plan (Encode ratio) server e = (refl, eqb-true plan.home server e)
plain_home plan Rebuild server e = absurd (false≢true e)
plain_home plan Balance server e = absurd (false≢true e)
plain_home plan Decode server e = absurd (false≢true e)

module _ (w : Volume) (f : Forms) (r : Running) (row : Row) (start now : Share) (fits : FitsProgress w f r row start now) where
  abbrev tells : TellsParts f.parts r.plan (finals start)
  tells = fits.begins.tells

  pub long_as_planned : (kind : Kind) (bytes : List ℕ) → planned f.parts kind ≡ Some bytes → IsPlannedLength r.plan (length bytes) kind
  long_as_planned = planned_long r.plan f.parts fits.forms.parts tells.info tells.deleted fits.begins.read_back.ids tells.index tells.count

  written_by : (stage : Stage) (n : ℕ) (kind : Kind) (given final temp : Option File) → IsPlannedKind r.plan kind → given ≡ option_map firm_file (planned f.parts kind) → StandsBy stage n given final temp
      → IsWrittenBy r.plan stage n kind final temp
  written_by Absent n kind given final temp is new stands = (stands.1, stands.2)
  written_by Writing n kind given final temp is new stands =
      let front = stands.1 in
      ap size_of front.there ∙ ap (λ (b : List ℕ). Some (length b)) front.front ∙ ap Some (length-take-le n front.whole front.within)
  written_by Synced n kind given final temp is new stands =
      let ready = stands.1 in
      record { bytes = length ready.whole; there = ap size_of ready.there; long = long_as_planned kind ready.whole (bytes_given (planned f.parts kind) ready.whole (sym new ∙ ready.planned)) }
    where
      bytes_given : (o : Option (List ℕ)) (bytes : List ℕ) → option_map firm_file o ≡ Some (firm_file bytes) → o ≡ Some bytes
      bytes_given None bytes e = absurd (none_some e)
      bytes_given (Some whole) bytes e = ap Some (ap disk.bytes_of e)
  written_by Registered n kind given final temp is new stands =
      let bytes = planned_some r.plan f.parts fits.forms.parts tells.info kind is in
      record { bytes = length bytes.0; there = ap size_of (stands.0 ∙ new ∙ ap (option_map firm_file) bytes.1); long = long_as_planned kind bytes.0 bytes.1 }
  written_by Gone n kind given final temp is new stands = tt

  -- they stand as the plan says
  pub told_fits : StandsAsTold r.plan r.states now
  told_fits = record {
    written = λ j s at new is. written_by s.stage s.length s.kind (given r.plan f.parts start s.server s.kind) (now s.server s.kind false) (now s.server s.kind true) is
        (given_new r.plan f.parts start s.server s.kind new) (fits.fits.each j s at);
    found = λ server kind has found is. (fits.begins.finds.below server kind found, long_found server kind has found is);
  }
    where
      as_start : (server : ℕ) (kind : Kind) (bytes : List ℕ) → HasFile r.plan r.states server kind → IsFound r.plan server kind → finals start server kind ≡ Some bytes → size_of (now server kind false) ≡ Some (length bytes)
      as_start server kind bytes has found e =
          size_standing (now server kind false) bytes (file_found f w fits.forms r.plan start fits.begins r.states now fits.fits server kind has found ∙ e)

      shard_found : (server i : ℕ) → i < shards_in_all r.plan.info.geometry → HasFile r.plan r.states server (Shard i) → IsFound r.plan server (Shard i)
          → size_of (now server (Shard i) false) ≡ Some (shard_length r.plan.info.geometry r.plan.info.dat_size)
      shard_found server i short has found =
          let below : i < max_shards = omega (arith, short, counts-sixteen r.plan.info.geometry.ratio) in
          let bytes = planned_some r.plan f.parts fits.forms.parts tells.info (Shard i) short in
          as_start server (Shard i) bytes.0 has found (sym (fits.begins.finds.shards server i below found) ∙ bytes.1) ∙ ap Some (long_as_planned (Shard i) bytes.0 bytes.1)

      index_found : (server : ℕ) → HasFile r.plan r.states server Ecx → IsFound r.plan server Ecx → size_of (now server Ecx false) ≡ Some (16 * entries_by r.plan r.plan.command)
      index_found server has found =
          as_start server Ecx f.parts.index has found (fits.begins.finds.beside server (sym (found_index r.plan r.plan.command server) ∙ found)).index
          ∙ ap Some (long_as_planned Ecx f.parts.index refl)

      data_found : (server : ℕ) → HasFile r.plan r.states server Dat → IsFound r.plan server Dat → size_of (now server Dat false) ≡ Some r.plan.info.dat_size
      data_found server has found =
          let plain = plain_home r.plan r.plan.command server found in
          as_start server Dat f.parts.dat has found (subst (λ n. finals start n Dat ≡ Some f.parts.dat) plain.1 (tells.dat plain.0))
          ∙ ap Some (fits.forms.parts.size ∙ ap (λ (info : Info). info.dat_size) tells.info)

      long_found : (server : ℕ) (kind : Kind) → HasFile r.plan r.states server kind → IsFound r.plan server kind → IsPlannedKind r.plan kind → IsFoundLong r.plan kind (now server kind false)
      long_found server Dat has found is = data_found server has found
      long_found server Idx has found is = tt
      long_found server Cpd has found is = tt
      long_found server Cpx has found is = tt
      long_found server (Shard i) has found is = shard_found server i is has found
      long_found server Ecx has found is = index_found server has found
      long_found server Ecj has found is = tt
      long_found server Vif has found is = tt

-- ---- shards that are read

module _ (plan : Plan) (states : List FileState) (row : Row) (now : Share) (are : AreStates states) (fits : FitsPlaces plan states row) (told : StandsAsTold plan states now) where
  abbrev whole : ℕ
  whole = shard_length plan.info.geometry plan.info.dat_size

  some_standing : (o : Option (List ℕ)) (n : ℕ) → option_map length o ≡ Some n → is_some o ≡ true
  some_standing None n e = absurd (none_some e)
  some_standing (Some bytes) n e = refl

  abbrev IsAt : ℕ → ℕ → Type 0
  IsAt i n = Stands (finals now) n (Shard i) × (option_map length (finals now n (Shard i)) ≡ Some whole)

  by_size : (i n : ℕ) → n < max_servers → size_of (now n (Shard i) false) ≡ Some whole → IsAt i n
  by_size i n h e =
      let long = standing_size (now n (Shard i) false) whole e in
      ((h, some_standing (finals now n (Shard i)) whole long), long)

  by_found : (i n : ℕ) → i < shards_in_all plan.info.geometry → HasFile plan states n (Shard i) → IsFound plan n (Shard i) ⊎ IsNew plan n (Shard i) → IsAt i n
  by_found i n short has (inl is) = let long = told.found n (Shard i) has is short in by_size i n long.0 long.1
  by_found i n short (inr (is, other)) (inr new) = absurd (false≢true (sym new ∙ is))
  by_found i n short (inl (j, s, at, a, b, stage)) (inr new) =
      let is_new : IsNew plan s.server s.kind = subst (λ (p : ℕ × Kind). IsNew plan p.0 p.1) (λ k. (sym a k, sym b k)) new in
      let stands_now : IsLong plan s.kind (now s.server s.kind false) =
      subst (λ x. IsWrittenBy plan x s.length s.kind (now s.server s.kind false) (now s.server s.kind true)) stage (told.written j s at is_new (subst (IsPlannedKind plan) (sym b) short)) in
      by_size i n (subst (λ m. m < max_servers) a (are.named j s at).1)
      (subst (λ (p : ℕ × Kind). size_of (now p.0 p.1 false) ≡ Some stands_now.bytes) (λ k. (a k, b k)) stands_now.there ∙ ap Some (subst (IsPlannedLength plan stands_now.bytes) b stands_now.long))

  -- Each shard that the table names is long enough to be read.
  pub told_places : StandAtPlaces plan.info row (finals now)
  told_places i server below place = by_number (cases_lt i (shards_in_all plan.info.geometry))
    where
      by_number : (i < shards_in_all plan.info.geometry) ⊎ (shards_in_all plan.info.geometry ≤ i) → IsAt i server
      by_number (inl short) = by_found i server short (fits.named i server short place) (by_bool (is_found plan plan.command server (Shard i)))
      by_number (inr beyond) = absurd (none_some (sym (fits.beyond i beyond) ∙ place))

-- ---- one file goes on

module _ (plan : Plan) (states : List FileState) (are : AreStates states) (j : ℕ) (s next : FileState) (at : slice_get states j ≡ Some s) (server : next.server ≡ s.server) (kind : next.kind ≡ s.kind)
    (old new : Share) (same : IsSameBut s.server s.kind old new) (told : StandsAsTold plan states old) where
  abbrev IsStill : Share → FileState → Type 0
  IsStill now a = IsWrittenBy plan a.stage a.length a.kind (now a.server a.kind false) (now a.server a.kind true)

  pub told_on : (IsNew plan s.server s.kind → IsPlannedKind plan s.kind → IsWrittenBy plan next.stage next.length s.kind (new s.server s.kind false) (new s.server s.kind true))
      → (IsFound plan s.server s.kind → next.stage ≢ Registered) → StandsAsTold plan (slice_set states j next) new
  told_on comes stays = record {
    written = λ i a e is_new is. ⊎_elim
        (λ here. subst (IsStill new) (sym here.1) (itself (subst (λ (x : FileState). IsNew plan x.server x.kind) here.1 is_new) (subst (λ (x : FileState). IsPlannedKind plan x.kind) here.1 is)))
        (λ other. unchanged i a other.0 other.1 is_new is)
        (was_in states j s next at server kind i a e);
    found = λ n c has found is.
        let not_this = not_here n c has found in
        let before = told.found n c (file_before plan states j s next at server kind n c (λ stage a b. not_this (sym a) (sym b)) has) found is in
        (before.0, subst (IsFoundLong plan c) (sym (same.finals n c not_this)) before.1);
  }
    where
      itself : IsNew plan next.server next.kind → IsPlannedKind plan next.kind → IsStill new next
      itself is_new is =
          subst (λ (p : ℕ × Kind). IsWrittenBy plan next.stage next.length p.1 (new p.0 p.1 false) (new p.0 p.1 true)) (λ k. (sym server k, sym kind k))
          (comes (subst (λ (p : ℕ × Kind). IsNew plan p.0 p.1) (λ k. (server k, kind k)) is_new) (subst (IsPlannedKind plan) kind is))

      unchanged : (i : ℕ) (a : FileState) → i ≢ j → slice_get states i ≡ Some a → IsNew plan a.server a.kind → IsPlannedKind plan a.kind → IsStill new a
      unchanged i a other e is_new is =
          let apart : a.server ≡ s.server → a.kind ≡ s.kind → ⊥ = λ same_server same_kind. other (are.apart i j a s e at same_server same_kind) in
          let final = same.finals a.server a.kind apart in
          let temp = same.temps a.server a.kind (are.named i a e).0 apart in
          subst (λ (p : Option File × Option File). IsWrittenBy plan a.stage a.length a.kind p.0 p.1) (λ k. (sym final k, sym temp k)) (told.written i a e is_new is)

      -- a file that was found and stands still is another one
      not_here : (n : ℕ) (c : Kind) → HasFile plan (slice_set states j next) n c → IsFound plan n c → n ≡ s.server → c ≡ s.kind → ⊥
      not_here n c (inr (found, other)) is same_server same_kind = other j next (get_set states j s next at) (server ∙ sym same_server) (kind ∙ sym same_kind)
      not_here n c (inl (i, a, e, a_server, a_kind, stage)) is same_server same_kind = ⊎_elim
          (λ here. stays (subst (λ (p : ℕ × Kind). IsFound plan p.0 p.1) (λ k. (same_server k, same_kind k)) is) (ap (λ (x : FileState). x.stage) (sym here.1) ∙ stage))
          (λ other. other.0 (are.apart i j a s other.1 at (a_server ∙ same_server) (a_kind ∙ same_kind)))
          (was_in states j s next at server kind i a e)

-- ---- each call that succeeds

module _ (plan : Plan) (below : plan.volume < max_volumes) (states : List FileState) (are : AreStates states) (old new : Disk) (told : StandsAsTold plan states (share_of old.files plan.volume))
    (j : ℕ) (s : FileState) (at : slice_get states j ≡ Some s) where
  abbrev final : Place
  final = place_of plan.volume s.server s.kind false

  abbrev temp : Place
  temp = place_of plan.volume s.server s.kind true

  abbrev moved_to : FileState → List FileState
  moved_to next = slice_set states j next

  -- calls on this file and its temporary one leave the others
  same_by : ((k : Place) → k ≢ final → k ≢ temp → new.files k ≡ old.files k) → IsSameBut s.server s.kind (share_of old.files plan.volume) (share_of new.files plan.volume)
  same_by others = same_but plan.volume s.server s.kind old.files new.files below (are.named j s at).0 others

  goes_on : (next : FileState) → next.server ≡ s.server → next.kind ≡ s.kind → ((k : Place) → k ≢ final → k ≢ temp → new.files k ≡ old.files k)
      → (IsNew plan s.server s.kind → IsPlannedKind plan s.kind → IsWrittenBy plan next.stage next.length s.kind (new.files final) (new.files temp))
      → (IsFound plan s.server s.kind → next.stage ≢ Registered) → StandsAsTold plan (moved_to next) (share_of new.files plan.volume)
  goes_on next server kind others comes stays =
      told_on plan states are j s next at server kind (share_of old.files plan.volume) (share_of new.files plan.volume) (same_by others) told comes stays

  -- how it stood
  stood : (stage : Stage) → s.stage ≡ stage → IsNew plan s.server s.kind → IsPlannedKind plan s.kind → IsWrittenBy plan stage s.length s.kind (old.files final) (old.files temp)
  stood stage e is_new is = subst (λ x. IsWrittenBy plan x s.length s.kind (old.files final) (old.files temp)) e (told.written j s at is_new is)

  pub syncing_told : s.stage ≡ Writing → IsPlannedLength plan s.length s.kind → Syncs temp old new → new.files temp ≡ synced (old.files temp)
      → StandsAsTold plan (moved_to (record s { stage = Synced })) (share_of new.files plan.volume)
  syncing_told stage long did done =
      goes_on (record s { stage = Synced }) refl refl (λ k a b. (touches_sync did).others k b)
      (λ is_new is. record { bytes = s.length; there = ap size_of done ∙ size_synced (old.files temp) ∙ stood Writing stage is_new is; long = long })
      (λ found e. cc)

  pub registering_told : s.stage ≡ Synced → IsNew plan s.server s.kind → Renames temp final old new → IsRenamed temp final old.files new.files
      → StandsAsTold plan (moved_to (record s { stage = Registered })) (share_of new.files plan.volume)
  registering_told stage new_file did done =
      goes_on (record s { stage = Registered }) refl refl (λ k a b. did.others k b a)
      (λ is_new is. let was = stood Synced stage is_new is in record { bytes = was.bytes; there = ap size_of done.there ∙ was.there; long = was.long })
      (λ found e. false≢true (sym new_file ∙ found))

  pub removing_told : IsFound plan s.server s.kind → Clears final old new → StandsAsTold plan (moved_to (record s { stage = Gone })) (share_of new.files plan.volume)
  removing_told found_file did =
      goes_on (record s { stage = Gone }) refl refl (λ k a b. did.touches.others k (λ same. a same)) (λ is_new is. tt) (λ found e. cc)

  pub growing_told : (piece : List ℕ) → (s.stage ≡ Absent) ⊎ (s.stage ≡ Writing) → Appends temp piece old new → new.files temp ≡ Some (grown (old.files temp) piece)
      → StandsAsTold plan (moved_to (record s { length = s.length + length piece; stage = Writing })) (share_of new.files plan.volume)
  growing_told piece begun did done =
      goes_on (record s { length = s.length + length piece; stage = Writing }) refl refl (λ k a b. (touches_append did).others k b)
      (λ is_new is. ap size_of done ∙ by_stage begun is_new is)
      (λ found e. cc)
    where
      by_stage : (s.stage ≡ Absent) ⊎ (s.stage ≡ Writing) → IsNew plan s.server s.kind → IsPlannedKind plan s.kind → size_of (Some (grown (old.files temp) piece)) ≡ Some (s.length + length piece)
      by_stage (inl stage) is_new is =
          let was = stood Absent stage is_new is in
          let first : length piece ≡ s.length + length piece = omega (arith, was.1) in
          ap (λ (file : Option File). size_of (Some (grown file piece))) was.0 ∙ ap Some first
      by_stage (inr stage) is_new is = size_grown (old.files temp) s.length piece (stood Writing stage is_new is)

  pub putting_told : (bytes : List ℕ) → IsNew plan s.server s.kind → IsPlannedLength plan (length bytes) s.kind → WritesWhole final temp bytes old new → IsWritten final temp bytes new
      → StandsAsTold plan (moved_to (record s { length = length bytes; stage = Registered })) (share_of new.files plan.volume)
  putting_told bytes new_file long did done =
      goes_on (record s { length = length bytes; stage = Registered }) refl refl (λ k a b. did.touches.others k (⊎_elim a b))
      (λ is_new is. record { bytes = length bytes; there = ap size_of done.file; long = long })
      (λ found e. false≢true (sym new_file ∙ found))
