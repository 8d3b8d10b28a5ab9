-- At a plan's start the files fit its first progress.
use Rattle.std.proofs.Common.{◌≡◌, ◌≢◌, ◌⊎◌, inl, inr, ⊎_elim, ℕ, ◌/◌, ◌<◌, ◌≤◌, true, false, List, [], take, Option, Some, None, is_some, IsTrue, refl, sym, ◌∙◌, ap, subst, arith}
use Rattle.std.specs.Prelude.{slice_get, flat_map, unwrap_or}
use mathlib.Core.Bool.{true≢false}
use Rattle.std.proofs.lemmas.Bool.{eqb-true, eq-eqb}
use Rattle.site_model.specs.Disk.{File}
use Rattle.site_model.specs.Disk as disk
use Rattle.world_model.specs.World.{Volume}
use Rattle.world_model.specs.declared.types.Command.{Command}
use Rattle.world_model.specs.declared.types.Command.TheVariants.{Encode, Rebuild, Balance, Decode}
use Rattle.file_names.specs.declared.Kind.{Kind}
use Rattle.file_names.specs.declared.Kind.TheVariants.{Dat, Idx, Cpd, Cpx, Shard, Ecx, Ecj, Vif}
use Rattle.file_names.specs.Names.{IsKind}
use Rattle.stripe_layout.specs.Stripes.{shards_in_all}
use Rattle.volume_forms.specs.Forms.{entry_bytes, has_super}
use Rattle.needle_record.specs.Records.{Placed, records, end_of}
use Rattle.shard_table.specs.Table.{Row, place_in}
use Rattle.image_meaning.specs.Files.{VolumeFiles, stands, has_index}
use Rattle.site_model.specs.Counts.{max_servers}
use Rattle.image_meaning.specs.Plain.{kept_records, FollowsRecords, IsExact}
use Rattle.image_meaning.specs.Ends.{HasNoFiles, changes_form}
use Rattle.image_meaning.specs.Meaning.{max_volumes}
use Rattle.image_meaning.specs.Laws.Plain.{IsAlone, alone_at, alone_dat_at, alone_index_at, exact_kept_records, exact_follows}
use Rattle.image_meaning.specs.Laws.Servers.{lowest-exists}
use Rattle.image_meaning.specs.Share.{Share, finals, temps}
use Rattle.image_meaning.specs.Parts.{Parts}
use Rattle.plan_steps.specs.declared.plan.Plan.{Plan}
use Rattle.plan_steps.specs.declared.plan.Stage.TheVariants.{Absent, Registered}
use Rattle.plan_steps.specs.declared.plan.FileState.{FileState}
use Rattle.plan_steps.specs.Kept.{StandsPlainAt, IsKeptPlain, Forms, AreForms}
use Rattle.plan_steps.specs.Planned.{is_encode, is_found, is_found_plain, joined, given}
use Rattle.plan_steps.specs.Laws.Found.{encode_finds}
use Rattle.plan_steps.specs.Fitting.{StandsBy, AreStates}
use Rattle.plan_steps.specs.Legal.{IsFound, IsNew, AreReadBack, BeginsPlan, HasFile, FitsPlaces}
use Rattle.plan_steps.specs.Laws.Legal.{by_bool, given_found}
use Rattle.plan_steps.specs.Listed.{IsListed, listed_or_other}
use Rattle.plan_steps.specs.Order.{names_of, IsUnfinished, IsReached}
use Rattle.plan_steps.specs.Lists.{list_of}
use Rattle.plan_steps.specs.Progressing.{Running, IsNextPlace, FitsProgress}

-- Nothing was written yet, and what was found stands.
pub record IsInitial (r : Running) : Type 0 where
  pub new : (j : ℕ) (s : FileState) → slice_get r.states j ≡ Some s → IsNew r.plan s.server s.kind → (s.stage ≡ Absent) × (s.length ≡ 0)
  pub found : (j : ℕ) (s : FileState) → slice_get r.states j ≡ Some s → IsFound r.plan s.server s.kind → s.stage ≡ Registered
  pub place : r.place ≡ 8

-- The table names the shards that the plan found, and no other.
pub record NamesFound (plan : Plan) (row : Row) : Type 0 where
  pub named : (i server : ℕ) → i < shards_in_all plan.info.geometry → place_in row i ≡ Some server → IsFound plan server (Shard i)
  pub missing : (i : ℕ) → i < shards_in_all plan.info.geometry → place_in row i ≡ None → (server : ℕ) → IsNew plan server (Shard i)
  pub beyond : (i : ℕ) → shards_in_all plan.info.geometry ≤ i → place_in row i ≡ None

no_file : (file : Option File) → disk.standing file ≡ None → file ≡ None
no_file None e = refl
no_file (Some file) e = absurd (some_none e)
  where
    some_none : Some file.bytes ≡ None → ⊥
    some_none e = cc

module _ (r : Running) (apart : AreStates r.states) (initial : IsInitial r) where
  two_stages : Absent ≢ Registered
  two_stages e = cc

  -- so the list is at its front
  initial_reached : IsReached r.plan r.states 0
  initial_reached = record {
    written = λ k s at before new. absurd (omega (arith, before));
    removed = λ k s at before found. absurd (omega (arith, before));
    waiting = λ k s at behind new. subst IsUnfinished (sym (initial.new k s at new).0) tt;
    staying = λ k s at behind found. initial.found k s at found;
  }

  -- and no record of a decode was read
  initial_place : (t : Parts) → IsNextPlace t r
  initial_place t decode j s at index =
      let new : IsNew r.plan s.server s.kind = ap (λ kind. is_found r.plan r.plan.command s.server kind) index ∙ ap (λ c. is_found r.plan c s.server Idx) decode in
      initial.place ∙ ap (λ n. end_of (take (n / 16) (records (joined t)))) (sym (initial.new j s at new).1)

  -- a shard stands exactly where it was found
  stands_found : (server i : ℕ) → IsFound r.plan server (Shard i) → HasFile r.plan r.states server (Shard i)
  stands_found server i found = ⊎_elim
      (λ (l : IsListed r.states server (Shard i)). inl (l.0, l.1, l.2, l.3, l.4, initial.found l.0 l.1 l.2 (subst (λ (p : ℕ × Kind). IsFound r.plan p.0 p.1) (λ k. (sym l.3 k, sym l.4 k)) found)))
      (λ other. inr (found, other))
      (listed_or_other r.states server (Shard i))

  found_stands : (server i : ℕ) → HasFile r.plan r.states server (Shard i) → IsFound r.plan server (Shard i)
  found_stands server i (inl (j, s, at, a, b, stage)) = ⊎_elim
      (λ found. subst (λ (p : ℕ × Kind). IsFound r.plan p.0 p.1) (λ k. (a k, b k)) found)
      (λ new. absurd (two_stages (sym (initial.new j s at new).0 ∙ stage)))
      (by_bool (is_found r.plan r.plan.command s.server s.kind))
  found_stands server i (inr (found, other)) = found

  pub initial_places : (row : Row) → NamesFound r.plan row → FitsPlaces r.plan r.states row
  initial_places row names = record {
    named = λ i server h place. stands_found server i (names.named i server h place);
    missing = λ i h place server has. true≢false (sym (found_stands server i has) ∙ names.missing i h place server);
    beyond = names.beyond;
  }

  module _ (w : Volume) (f : Forms) (row : Row) (start : Share) (below : r.plan.volume < max_volumes) (forms : AreForms w f) (begins : BeginsPlan f r.plan (finals start))
      (listed : names_of r.states ≡ list_of r.plan) (names : NamesFound r.plan row) (no_temps : HasNoFiles (temps start)) where
    begins_each : (j : ℕ) (s : FileState) → slice_get r.states j ≡ Some s → IsFound r.plan s.server s.kind ⊎ IsNew r.plan s.server s.kind
        → StandsBy s.stage s.length (given r.plan f.parts start s.server s.kind) (start s.server s.kind false) (start s.server s.kind true)
    begins_each j s at (inl e) =
        let named = apart.named j s at in
        subst (λ stage. StandsBy stage s.length (given r.plan f.parts start s.server s.kind) (start s.server s.kind false) (start s.server s.kind true))
        (sym (initial.found j s at e)) (sym (given_found r.plan f.parts start s.server s.kind e), no_file (start s.server s.kind true) (no_temps s.server s.kind named.1 named.0))
    begins_each j s at (inr e) =
        let named = apart.named j s at in
        subst (λ stage. StandsBy stage s.length (given r.plan f.parts start s.server s.kind) (start s.server s.kind false) (start s.server s.kind true))
        (sym (initial.new j s at e).0)
        (no_file (start s.server s.kind false) (begins.finds.none_else s.server s.kind named.1 named.0 e), no_file (start s.server s.kind true) (no_temps s.server s.kind named.1 named.0), (initial.new j s at e).1)

    -- The files of a volume, firm or not, fit the first progress of a plan that tells of them.
    pub begin_fits : FitsProgress w f r row start start
    begin_fits = record {
      below = below;
      forms = forms;
      begins = begins;
      way = record { listed = listed; apart = apart; reached = (0, initial_reached); places = initial_places row names };
      next = initial_place f.parts;
      fits = record {
        each = λ j s at. begins_each j s at (by_bool (is_found r.plan r.plan.command s.server s.kind));
        others = λ server kind other. refl;
        temps = λ server kind server_below is other. no_file (start server kind true) (no_temps server kind server_below is);
        kept = begins.kept;
      };
    }

-- ---- an encode

encode_apart : (c : Command) → is_encode c ≡ true → c ≡ Decode → ⊥
encode_apart (Encode ratio) e d = cc
encode_apart Rebuild e d = true≢false (sym e)
encode_apart Balance e d = true≢false (sym e)
encode_apart Decode e d = true≢false (sym e)

encode_changes : (c : Command) → is_encode c ≡ true → true ≡ changes_form c
encode_changes (Encode ratio) e = refl
encode_changes Rebuild e = absurd (true≢false (sym e))
encode_changes Balance e = absurd (true≢false (sym e))
encode_changes Decode e = refl

-- An index and its data file alone are kept in the plain form.
module _ (files : VolumeFiles) (home : ℕ) (dat idx : List ℕ) (ps : List Placed) (alone : IsAlone files home dat idx) (exact : IsExact dat idx ps) (super : IsTrue (has_super dat)) where
  no_made : (server : ℕ) → server < max_servers → (o : Option (List ℕ)) → files server Cpx ≡ o → files server Cpx ≡ None
  no_made server below None e = e
  no_made server below (Some bytes) e = absurd (neither (alone.alone server Cpx tt (below, ap is_some e)).1)
    where
      neither : (Cpx ≡ Idx) ⊎ (Cpx ≡ Dat) → ⊥
      neither (inl e) = cc
      neither (inr e) = cc

  pub alone_kept : IsKeptPlain ps files
  alone_kept = record {
    some_index = ap is_some (lowest-exists (has_index files) home alone.below (ap is_some (alone_index_at files files home dat idx alone))).1;
    none_made = λ server below. no_made server below (files server Cpx) refl;
    each = λ server has. subst (StandsPlainAt ps files) (sym (alone_at files files home dat idx alone server has)) (record {
      has = (λ i. kept_records (unwrap_or (alone_dat_at files files home dat idx alone i) []) (unwrap_or (alone_index_at files files home dat idx alone i) [])) ∙ exact_kept_records dat idx ps exact;
      follows = subst (λ (b : Option (List ℕ) × Option (List ℕ)). FollowsRecords (unwrap_or b.0 []) (unwrap_or b.1 []))
          (λ i. (sym (alone_dat_at files files home dat idx alone) i, sym (alone_index_at files files home dat idx alone) i)) (exact_follows dat idx ps exact);
      super = subst (λ (o : Option (List ℕ)). IsTrue (has_super (unwrap_or o []))) (sym (alone_dat_at files files home dat idx alone)) super;
    });
  }

-- what an encode found stands at the home
found_home : (plan : Plan) (server : ℕ) (kind : Kind) → is_found_plain plan server kind ≡ true → plan.home ≡ server
found_home plan server Dat e = eqb-true plan.home server e
found_home plan server Idx e = eqb-true plan.home server e
found_home plan server Cpd e = absurd (true≢false (sym e))
found_home plan server Cpx e = absurd (true≢false (sym e))
found_home plan server (Shard i) e = absurd (true≢false (sym e))
found_home plan server Ecx e = absurd (true≢false (sym e))
found_home plan server Ecj e = absurd (true≢false (sym e))
found_home plan server Vif e = absurd (true≢false (sym e))

-- A plain volume with its two files at the home and no other begins an encode of that data file, with these entries.
pub encode_begins : (t : Parts) (plan : Plan) (start : VolumeFiles) (idx : List ℕ) → is_encode plan.command ≡ true → plan.deleted.items ≡ [] → t.info ≡ plan.info → t.deleted ≡ [] → t.index ≡ flat_map entry_bytes plan.entries.items → AreReadBack t
    → IsAlone start plan.home t.dat idx → IsExact t.dat idx (records t.dat) → IsTrue (has_super t.dat) → BeginsPlan (record { changes = true; kept = records t.dat; parts = t }) plan start
encode_begins t plan start idx encode none info ids index read_back alone exact super = record {
  changes = encode_changes plan.command encode;
  kept = inl (refl, alone_kept start plan.home t.dat idx (records t.dat) alone exact super);
  tells = record {
    info = info;
    deleted = ids ∙ sym none;
    dat = λ _. alone.has_dat;
    index = λ _. index;
    count = λ other. absurd (true≢false (sym encode ∙ other));
    home = λ decode. absurd (encode_apart plan.command encode decode);
  };
  finds = record {
    below = λ server kind found. subst (λ n. n < max_servers) (found_home plan server kind (sym (encode_finds plan server kind encode) ∙ found)) alone.below;
    none_else = λ server kind below is new. none_there server kind below is (sym (encode_finds plan server kind encode) ∙ new) (start server kind) refl;
    shards = λ server i h e. absurd (true≢false (sym e ∙ encode_finds plan server (Shard i) encode));
    beside = λ server e. absurd (true≢false (sym e ∙ encode_finds plan server Vif encode));
    whole = λ server e. absurd (true≢false (sym e ∙ encode_finds plan server Ecj encode));
    index = λ server e. subst (λ s. IsTrue (stands start s Idx)) (found_home plan server Idx (sym (encode_finds plan server Idx encode) ∙ e)) (ap is_some alone.has_index);
  };
  read_back = read_back;
  joined = λ decode. absurd (encode_apart plan.command encode decode);
}
  where
    both_found : (server : ℕ) (kind : Kind) → server ≡ plan.home → (kind ≡ Idx) ⊎ (kind ≡ Dat) → is_found_plain plan server kind ≡ true
    both_found server kind at (inl is) = ap (is_found_plain plan server) is ∙ eq-eqb plan.home server (sym at)
    both_found server kind at (inr is) = ap (is_found_plain plan server) is ∙ eq-eqb plan.home server (sym at)

    none_there : (server : ℕ) (kind : Kind) → server < max_servers → IsKind kind → is_found_plain plan server kind ≡ false → (o : Option (List ℕ)) → start server kind ≡ o → start server kind ≡ None
    none_there server kind below is new None e = e
    none_there server kind below is new (Some bytes) e = let there = alone.alone server kind is (below, ap is_some e) in absurd (true≢false (sym (both_found server kind there.0 there.1) ∙ new))
