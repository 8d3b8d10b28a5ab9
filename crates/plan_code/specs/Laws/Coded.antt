-- The plan of a coded volume tells of the files on which it begins.
use Rattle.std.proofs.Common.{◌≡◌, inr, ℕ, ◌<◌, ◌≤◌, ◌^◌, Bool, true, false, List, [], length, Option, Some, None, is_some, IsTrue, refl, sym, ◌∙◌, ap, subst, arith}
use Rattle.std.specs.Prelude.{unwrap_or}
use Rattle.std.specs.List.{AllByRecursion}
use mathlib.Core.Bool.{true≢false}
use Rattle.wire_num.specs.Pairs.{journal_bytes}
use Rattle.world_model.specs.declared.types.Command.TheVariants.{Decode}
use Rattle.file_names.specs.declared.Kind.{Kind}
use Rattle.file_names.specs.declared.Kind.TheVariants.{Dat, Idx, Cpd, Cpx, Shard, Ecx, Ecj, Vif}
use Rattle.file_names.specs.Names.{IsKind, max_shards}
use Rattle.volume_forms.specs.Forms.{entries}
use Rattle.stripe_layout.specs.declared.Info.{Info}
use Rattle.stripe_layout.specs.Laws.Info.{IsInRange}
use Rattle.stripe_layout.specs.Information.{info_of, info_text}
use Rattle.vif_info.specs.Laws.Text.{text_reads_back}
use Rattle.shard_table.specs.Table.{Row, IsRow, place_in}
use Rattle.site_model.specs.Counts.{max_servers}
use Rattle.image_meaning.specs.Files.{VolumeFiles, stands, has_index, is_holder, lowest}
use Rattle.image_meaning.specs.Coded.{coded_with}
use Rattle.image_meaning.specs.Meaning.{volume_of}
use Rattle.image_meaning.specs.Sound.{Stands, IsHolder}
use Rattle.image_meaning.specs.Ends.{changes_form}
use Rattle.image_meaning.specs.HeldParts.{IsBeside, any_member}
use Rattle.image_meaning.specs.Outlasts.{coded_is}
use Rattle.image_meaning.specs.Laws.Options.{some_is}
use Rattle.image_meaning.specs.Laws.Part.{HasParts, parts_of, made_info}
use Rattle.image_meaning.specs.Laws.Servers.{lowest-some, lowest-none, lowest-exists}
use Rattle.image_meaning.specs.Laws.CodedLoss.{any_range}
use Rattle.image_meaning.specs.Laws.Survivable.{sound_coded}
use Rattle.image_meaning.specs.Laws.Views.{made_has, named_has}
use Rattle.plan_steps.specs.declared.plan.Plan.{Plan}
use Rattle.plan_steps.specs.Kept.{Forms, IsKeptCoded}
use Rattle.plan_steps.specs.Planned.{held, placed, is_encode, is_found, is_found_coded}
use Rattle.plan_steps.specs.Legal.{TellsParts, FindsFiles, AreReadBack, KeepsJoined, BeginsPlan}
use Rattle.plan_steps.specs.Plans.{IsPlaced}
use Rattle.plan_steps.specs.MendList.{place_found, found_place, place_held, held_place}
use Rattle.plan_steps.specs.Laws.Found.{coded_finds}
use Rattle.plan_steps.specs.Laws.Begin.{NamesFound}
use Rattle.plan_steps.specs.Laws.Move.{place_within}
use Rattle.plan_code.specs.Made.{IsCodedOf, StandEnough}
use Rattle.plan_code.specs.Started.{StandsCoded}
use Rattle.plan_code.specs.Laws.Made.{coded_placed}

not_true : (b : Bool) → (b ≡ true → ⊥) → b ≡ false
not_true true never = absurd (never refl)
not_true false never = refl

module _ (servers v listed : ℕ) (text : Info) (ids : List ℕ) (row : Row) (plan : Plan) (start : VolumeFiles) (is : IsCodedOf v text listed ids row plan) (coded : is_encode plan.command ≡ false)
    (on : IsRow servers row) (few : servers ≤ max_servers) (stand : StandEnough text.geometry row) where
  finds : (server : ℕ) (kind : Kind) → is_found plan plan.command server kind ≡ is_found_coded plan server kind
  finds server kind = coded_finds plan server kind coded

  at_row : IsPlaced servers plan row
  at_row = coded_placed servers v listed text ids row plan is on stand

  -- The row names the shards that the plan finds.
  pub coded_names : NamesFound plan row
  coded_names = record {
    named = λ i server h place. finds server (Shard i) ∙ place_found plan servers row at_row i server place;
    missing = λ i h none server. finds server (Shard i) ∙ not_true (placed plan i server) (λ found. apart (sym none ∙ found_place plan servers row at_row i server found));
    beyond = at_row.beyond;
  }
    where
      apart : {s : ℕ} → None ≡ Some s → ⊥
      apart e = cc

  module _ (stood : StandsCoded text ids listed row start) where
    -- the volume is made of sound parts
    pub has : HasParts start
    has = parts_of start stood.coded (sound_coded start stood.coded stood.rules)

    info_is : has.parts.info ≡ text
    info_is = some_is has.parts.info text (sym (made_info has.parts start has.made has.form.enough) ∙ stood.rules.texts.first ∙ ap Some stood.info)

    pub deleted_is : has.parts.deleted ≡ ids
    deleted_is = sym has.all.has ∙ stood.deleted has.all.server has.all.holds

    -- ---- where shards stand

    stands_place : (server i : ℕ) → i < max_shards → Stands start server (Shard i) → place_in row i ≡ Some server
    stands_place server i h st =
        let low = lowest-exists (λ s. stands start s (Shard i)) server st.0 st.1 in
        let first = lowest-some (λ s. stands start s (Shard i)) low.0 low.1 in
        stood.places i h ∙ low.1 ∙ ap Some (stood.tidy.once low.0 server i h (first.1, first.0.passes) st)

    place_stands : (server i : ℕ) → place_in row i ≡ Some server → Stands start server (Shard i)
    place_stands server i e =
        let short : i < max_shards = omega (arith, place_within row i server e, on.shards) in
        let first = lowest-some (λ s. stands start s (Shard i)) server (sym (stood.places i short) ∙ e) in
        (first.1, first.0.passes)

    holder_held : (server : ℕ) → IsHolder start server → held plan server ≡ true
    unfolding is_holder
    holder_held server h =
        let found = any_member (λ i. stands start server (Shard i)) 0 max_shards h.1 in
        place_held plan servers row at_row found.0 server (stands_place server found.0 (omega (arith, found.2)) (h.0, found.3))

    held_holder : (server : ℕ) → held plan server ≡ true → IsHolder start server
    unfolding is_holder
    held_holder server e =
        let at = held_place plan servers row at_row server e in
        let st = place_stands server at.0 at.1 in
        (st.0, any_range (λ i. stands start server (Shard i)) 0 max_shards at.0 (omega arith) (omega (arith, place_within row at.0 server at.1, on.shards)) st.1)

    -- ---- the files

    beside_of : (server : ℕ) → IsHolder start server → IsBeside has.parts start server
    beside_of server h = record {
      text = has.made.texts server h;
      index = has.made.indexes server h;
      journal = stood.deleted server h ∙ sym deleted_is;
      rest = has.made.rests server h;
    }

    kept : IsKeptCoded has.parts start
    kept = record {
      form = has.form;
      holds = record { each = λ server i h st. (beside_of server (holder_at server i h st), has.made.stand.each server i h st) };
    }
      where
        holder_at : (server i : ℕ) → i < max_shards → Stands start server (Shard i) → IsHolder start server
        holder_at server i h st = held_holder server (place_held plan servers row at_row i server (stands_place server i h st))

    absent : (server : ℕ) (kind : Kind) (o : Option (List ℕ)) → start server kind ≡ o → (IsTrue (stands start server kind) → ⊥) → start server kind ≡ None
    absent server kind None e never = e
    absent server kind (Some bytes) e never = absurd (never (ap is_some e))

    no_index : (server : ℕ) → server < max_servers → IsTrue (has_index start server) → ⊥
    no_index server below h = true≢false (sym h ∙ lowest-none (has_index start) has.form.no_index server below)

    none_found : (server : ℕ) (kind : Kind) → server < max_servers → IsKind kind → is_found_coded plan server kind ≡ false → start server kind ≡ None
    none_found server Dat below kind_is new = stood.tidy.no_dat server below
    none_found server Idx below kind_is new = absent server Idx (start server Idx) refl (λ st. no_index server below (named_has start server st))
    none_found server Cpd below kind_is new = stood.tidy.no_cpd server below
    none_found server Cpx below kind_is new = absent server Cpx (start server Cpx) refl (λ st. no_index server below (made_has start server st))
    none_found server (Shard i) below kind_is new =
        absent server (Shard i) (start server (Shard i)) refl (λ st. true≢false (sym (place_found plan servers row at_row i server (stands_place server i kind_is (below, st))) ∙ new))
    none_found server Ecx below kind_is new = absent server Ecx (start server Ecx) refl (λ st. true≢false (sym (holder_held server (stood.tidy.at_holders server Ecx tt (below, st))) ∙ new))
    none_found server Ecj below kind_is new = absent server Ecj (start server Ecj) refl (λ st. true≢false (sym (holder_held server (stood.tidy.at_holders server Ecj tt (below, st))) ∙ new))
    none_found server Vif below kind_is new = absent server Vif (start server Vif) refl (λ st. true≢false (sym (holder_held server (stood.tidy.at_holders server Vif tt (below, st))) ∙ new))

    found_below : (server : ℕ) (kind : Kind) → is_found_coded plan server kind ≡ true → server < max_servers
    found_below server Dat e = absurd (true≢false (sym e))
    found_below server Idx e = absurd (true≢false (sym e))
    found_below server Cpd e = absurd (true≢false (sym e))
    found_below server Cpx e = absurd (true≢false (sym e))
    found_below server (Shard i) e = (place_stands server i (found_place plan servers row at_row i server e)).0
    found_below server Ecx e = (held_holder server e).0
    found_below server Ecj e = (held_holder server e).0
    found_below server Vif e = (held_holder server e).0

    counted : length (entries has.parts.index) ≡ listed
    counted =
        let h = stood.counted.1 in
        ap (λ (o : Option (List ℕ)). length (entries (unwrap_or o []))) (sym (has.made.indexes stood.counted.0 h)) ∙ stood.counted.2

    -- What stands means the volume of these parts.
    pub coded_means : volume_of start ≡ Some (coded_with has.parts.dat has.parts.info has.parts.deleted)
    coded_means =
        coded_is start stood.coded has.parts.info has.parts.deleted (made_info has.parts start has.made has.form.enough) (λ server h. stood.deleted server h ∙ sym deleted_is)
        ∙ ap (λ dat. Some (coded_with dat has.parts.info has.parts.deleted)) (sym has.same_data)

    -- The plan tells of the files as they stand.
    pub coded_begins : (f : Forms) → f.changes ≡ changes_form plan.command → f.parts ≡ has.parts → IsInRange text → AllByRecursion (λ id. id < 2 ^ 64) ids
        → (plan.command ≡ Decode → lowest (held plan) ≡ Some plan.home) → (plan.command ≡ Decode → KeepsJoined f) → BeginsPlan f plan start
    coded_begins f changes same range fits home joined = record {
      changes = changes;
      kept = inr (subst (λ t. IsKeptCoded t start) (sym same) kept);
      tells = subst (λ t. TellsParts t plan start) (sym same) (record {
        info = info_is ∙ sym is.info;
        deleted = deleted_is ∙ sym is.deleted;
        dat = λ encode. absurd (true≢false (sym encode ∙ coded));
        index = λ encode. absurd (true≢false (sym encode ∙ coded));
        count = λ _. is.entry_count ∙ sym counted;
        home = home;
      });
      finds = subst (λ t. FindsFiles t plan start) (sym same) (record {
        below = λ server kind found. found_below server kind (sym (finds server kind) ∙ found);
        none_else = λ server kind below kind_is new. none_found server kind below kind_is (sym (finds server kind) ∙ new);
        shards = λ server i h found. has.made.stand.each server i h (place_stands server i (found_place plan servers row at_row i server (sym (finds server (Shard i)) ∙ found)));
        beside = λ server found. beside_of server (held_holder server (sym (finds server Vif) ∙ found));
        whole = λ server found. let h = held_holder server (sym (finds server Ecj) ∙ found) in stood.tidy.whole_journal server h ∙ ap journal_bytes (stood.deleted server h ∙ sym deleted_is);
        index = λ server found. absurd (true≢false (sym (sym (finds server Idx) ∙ found)));
      });
      read_back = subst AreReadBack (sym same) (record {
        text = ap (λ (t : Info). info_of (info_text t)) info_is ∙ text_reads_back text range ∙ ap Some (sym info_is);
        ids = subst (AllByRecursion (λ id. id < 2 ^ 64)) (sym deleted_is) fits;
      });
      joined = joined;
    }
