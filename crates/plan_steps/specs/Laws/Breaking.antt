-- A plan that follows its files doesn't break off.
use Rattle.std.proofs.Common.{◌≡◌, ℕ, zero, suc, ◌+◌, ◌-◌, ◌/◌, ◌≤◌, true, false, List, [], ◌∷◌, length, Some, None, refl, sym, ◌∙◌, ap, subst, arith}
use Rattle.std.specs.Prelude.{take, drop, slice_get}
use Rattle.std.proofs.lemmas.List.{drop-drop, take_all, length-take}
use Rattle.image_meaning.specs.Laws.Options.{none_some, some_is}
use Rattle.site_model.specs.Disk.{File, firm_file, standing, bytes_of}
use Rattle.world_model.specs.declared.types.Command.TheVariants.{Decode}
use Rattle.file_names.specs.declared.Kind.{Kind}
use Rattle.file_names.specs.declared.Kind.TheVariants.{Dat, Idx}
use Rattle.needle_record.specs.Spelling.{length_of_record}
use Rattle.needle_record.specs.Records.{Placed, records, end_from, end_of, AreRecords}
use Rattle.needle_record.specs.Laws.Records.{whole_dat-records}
use Rattle.needle_record.specs.Laws.Ends.{found_record_length}
use Rattle.shard_table.specs.Table.{Row}
use Rattle.image_meaning.specs.Share.{Share}
use Rattle.plan_steps.specs.declared.plan.Stage.{Stage}
use Rattle.plan_steps.specs.declared.plan.Stage.TheVariants.{Absent, Writing, Synced, Registered, Gone}
use Rattle.plan_steps.specs.declared.plan.FileState.{FileState}
use Rattle.plan_steps.specs.Planned.{joined, given}
use Rattle.plan_steps.specs.Fitting.{StandsBy}
use Rattle.plan_steps.specs.Laws.Legal.{given_new}
use Rattle.plan_steps.specs.Laws.AsTold.{long_as_planned}
use Rattle.plan_steps.specs.Lists.{list_of}
use Rattle.plan_steps.specs.Laws.Order.{named_at}
use Rattle.plan_steps.specs.DecodeEnd.{list_is, finds}
use Rattle.plan_steps.specs.Progressing.{Running, Follows}
use Rattle.plan_steps.specs.Breaking.{BreaksOff}

-- ---- records behind others

record AreBehind (k place : ℕ) (bytes : List ℕ) (ps : List Placed) : Type 0 where
  pub onward : place ≤ end_from place (take k ps)
  pub are : AreRecords (end_from place (take k ps)) (drop (end_from place (take k ps) - place) bytes) (drop k ps)

none_behind : (place : ℕ) (bytes : List ℕ) (ps : List Placed) → AreRecords place bytes ps → AreRecords place (drop (place - place) bytes) ps
none_behind place bytes ps are = subst (λ n. AreRecords place (drop n bytes) ps) nothing are
  where
    nothing : 0 ≡ place - place
    nothing = omega arith

records_behind : (k place : ℕ) (bytes : List ℕ) (ps : List Placed) → AreRecords place bytes ps → AreBehind k place bytes ps
records_behind zero place bytes ps are = record { onward = omega arith; are = none_behind place bytes ps are }
records_behind (suc k) place bytes [] are = record { onward = omega arith; are = none_behind place bytes [] are }
records_behind (suc k) place bytes (p ∷ ps) (n, at, read, fits, rest) =
    let size : n ≡ length_of_record p.1 = found_record_length bytes (p.1, n) read in
    let first : place + n ≡ p.0 + length_of_record p.1 = omega (arith, at, size) in
    let next = records_behind k (place + n) (drop n bytes) ps rest in
    let end : ℕ = end_from (place + n) (take k ps) in
    let same : end_from (place + n) (take k ps) ≡ end_from (p.0 + length_of_record p.1) (take k ps) = ap (λ m. end_from m (take k ps)) first in
    let far : n + (end_from (place + n) (take k ps) - (place + n)) ≡ end_from (place + n) (take k ps) - place = omega (arith, next.onward) in
    record {
      onward = omega (arith, next.onward, same);
      are = subst (λ m. AreRecords m (drop (m - place) bytes) (drop k ps)) same
          (subst (λ l. AreRecords (end_from (place + n) (take k ps)) l (drop k ps)) (drop-drop (end_from (place + n) (take k ps) - (place + n)) n bytes ∙ ap (λ m. drop m bytes) far) next.are);
    }

-- ---- a plan that follows its files

module _ (r : Running) (row : Row) (start now : Share) (follows : Follows r row start now) (breaks : BreaksOff r now) where
  decode : r.plan.command ≡ Decode
  decode = breaks.decode

  state_of : (k server : ℕ) (kind : Kind) → slice_get (list_of r.plan) k ≡ Some (server, kind) → (x : FileState) × (slice_get r.states k ≡ Some x) × (◌≡◌ {A = ℕ × Kind} (x.server, x.kind) (server, kind))
  state_of k server kind at = named_at (λ (s : FileState). (s.server, s.kind)) r.states k (server, kind) (ap (λ names. slice_get names k) follows.fits.way.listed ∙ at)

  data_state : (x : FileState) × (slice_get r.states 0 ≡ Some x) × (◌≡◌ {A = ℕ × Kind} (x.server, x.kind) (r.plan.home, Dat))
  data_state = state_of 0 r.plan.home Dat (ap (λ names. slice_get names 0) (list_is r.plan decode))

  index_state : (x : FileState) × (slice_get r.states 1 ≡ Some x) × (◌≡◌ {A = ℕ × Kind} (x.server, x.kind) (r.plan.home, Idx))
  index_state = state_of 1 r.plan.home Idx (ap (λ names. slice_get names 1) (list_is r.plan decode))

  whole_joined : length breaks.dat ≡ length (joined follows.f.parts)
  whole_joined = breaks.whole ∙ sym (long_as_planned follows.w follows.f r row start now follows.fits Dat (joined follows.f.parts) refl)

  -- the file that stands is the joined one
  data_is : breaks.dat ≡ joined follows.f.parts
  data_is = by_stage data_state.0.stage data_state.0.length here
    where
      given_is : given r.plan follows.f.parts start r.plan.home Dat ≡ Some (firm_file (joined follows.f.parts))
      given_is = given_new r.plan follows.f.parts start r.plan.home Dat (finds r.plan decode r.plan.home Dat)

      here : StandsBy data_state.0.stage data_state.0.length (Some (firm_file (joined follows.f.parts))) (now r.plan.home Dat false) (now r.plan.home Dat true)
      here = subst (λ g. StandsBy data_state.0.stage data_state.0.length g (now r.plan.home Dat false) (now r.plan.home Dat true)) given_is
          (subst (λ (p : ℕ × Kind). StandsBy data_state.0.stage data_state.0.length (given r.plan follows.f.parts start p.0 p.1) (now p.0 p.1 false) (now p.0 p.1 true)) data_state.2 (follows.fits.fits.each 0 data_state.0 data_state.1))

      none_stands : now r.plan.home Dat true ≡ None → breaks.dat ≡ joined follows.f.parts
      none_stands e = absurd (none_some (sym (ap standing e) ∙ breaks.stands))

      by_file : (file : File) → now r.plan.home Dat true ≡ Some file → breaks.dat ≡ file.bytes
      by_file file e = some_is breaks.dat file.bytes (sym breaks.stands ∙ ap standing e)

      by_stage : (stage : Stage) (n : ℕ) → StandsBy stage n (Some (firm_file (joined follows.f.parts))) (now r.plan.home Dat false) (now r.plan.home Dat true) → breaks.dat ≡ joined follows.f.parts
      by_stage Absent n stands = none_stands stands.1
      by_stage Writing n stands =
          let front = stands.1 in
          let is : joined follows.f.parts ≡ front.whole = ap bytes_of front.planned in
          let taken : breaks.dat ≡ take n (joined follows.f.parts) = by_file front.found front.there ∙ front.front ∙ ap (take n) (sym is) in
          taken ∙ take_all n (joined follows.f.parts) (omega (arith, ap length taken, length-take n (joined follows.f.parts), whole_joined))
      by_stage Synced n stands =
          let ready = stands.1 in
          by_file (firm_file ready.whole) ready.there ∙ sym (ap bytes_of ready.planned)
      by_stage Registered n stands = none_stands stands.1
      by_stage Gone n stands = none_stands stands.1

  -- and records to its end
  pub unbroken : ⊥
  unbroken =
      let k : ℕ = index_state.0.length / 16 in
      let all : AreRecords 8 (drop 8 (joined follows.f.parts)) (records (joined follows.f.parts)) = whole_dat-records (joined follows.f.parts) (follows.fits.begins.joined decode).exact.whole in
      let behind = records_behind (index_state.0.length / 16) 8 (drop 8 (joined follows.f.parts)) (records (joined follows.f.parts)) all in
      let place : r.place ≡ end_of (take (index_state.0.length / 16) (records (joined follows.f.parts))) = follows.fits.next decode 1 index_state.0 index_state.1 (ap (λ (p : ℕ × Kind). p.1) index_state.2) in
      let far : 8 + (end_of (take (index_state.0.length / 16) (records (joined follows.f.parts))) - 8) ≡ end_of (take (index_state.0.length / 16) (records (joined follows.f.parts))) = omega (arith, behind.onward) in
      breaks.breaks (drop (index_state.0.length / 16) (records (joined follows.f.parts)))
      (subst (λ d. AreRecords r.place (drop r.place d) (drop (index_state.0.length / 16) (records (joined follows.f.parts)))) (sym data_is)
      (subst (λ m. AreRecords m (drop m (joined follows.f.parts)) (drop (index_state.0.length / 16) (records (joined follows.f.parts)))) (sym place)
      (subst (λ l. AreRecords (end_of (take (index_state.0.length / 16) (records (joined follows.f.parts)))) l (drop (index_state.0.length / 16) (records (joined follows.f.parts))))
      (drop-drop (end_of (take (index_state.0.length / 16) (records (joined follows.f.parts))) - 8) 8 (joined follows.f.parts) ∙ ap (λ m. drop m (joined follows.f.parts)) far) behind.are)))
