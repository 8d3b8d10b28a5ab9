-- What a plan and its progress let go on is allowed of the files.
use Rattle.std.proofs.Common.{◌≡◌, ◌≢◌, ◌⊎◌, inl, inr, ⊎_elim, ℕ, zero, suc, ◌+◌, ◌*◌, ◌<◌, ◌≤◌, Bool, true, false, List, [], ◌∷◌, length, Option, Some, None, is_some, IsTrue, refl, sym, ◌∙◌, ap, subst, arith}
use Rattle.std.specs.Prelude.{if◌then◌else◌, nat_lt, filter, slice_get, unwrap_or, option_map, option_and_then}
use Rattle.std.specs.List.{range_with_len}
use Rattle.std.proofs.lemmas.Bool.{ltb-true, cases_lt}
use mathlib.Core.Bool.{true≢false}
use Rattle.wire_num.specs.Pairs.{pairs, pairs_within, journal_bytes}
use Rattle.wire_num.specs.Laws.Pair.{length-journal_bytes, pairs_of_journal}
use Rattle.site_model.specs.Disk.{File, IsFirm, firm_file}
use Rattle.site_model.specs.Disk as disk
use Rattle.world_model.specs.World.{Volume}
use Rattle.world_model.specs.declared.types.Ratio.{Ratio}
use Rattle.world_model.specs.declared.types.Ratio.TheVariants.{ThreeTwo, SixThree, TenFour, TwelveFour}
use Rattle.world_model.specs.Ratios.{data_count, parity_count, counts-sixteen}
use Rattle.world_model.specs.declared.types.Command.{Command}
use Rattle.world_model.specs.declared.types.Command.TheVariants.{Encode, Rebuild, Balance, Decode}
use Rattle.file_names.specs.declared.Kind.{Kind}
use Rattle.file_names.specs.declared.Kind.TheVariants.{Dat, Idx, Cpd, Cpx, Shard, Ecx, Ecj, Vif}
use Rattle.file_names.specs.Names.{IsKind, max_shards}
use Rattle.volume_forms.specs.Forms.{has_super}
use Rattle.stripe_layout.specs.declared.Info.{Info}
use Rattle.stripe_layout.specs.Stripes.{shards_in_all}
use Rattle.stripe_layout.specs.Information.{info_of}
use Rattle.shard_table.specs.Table.{Row}
use Rattle.image_meaning.specs.Files.{VolumeFiles, stands, has_index, is_holder, shard_home, standing}
use Rattle.site_model.specs.Counts.{max_servers}
use Rattle.image_meaning.specs.Plain.{index_home, kept_records, FollowsRecords}
use Rattle.image_meaning.specs.Laws.Plain.{exact_kept_records, exact_follows}
use Rattle.image_meaning.specs.Sound.{HasIndex}
use Rattle.image_meaning.specs.Laws.Servers.{lowest-some, lowest-exists}
use Rattle.image_meaning.specs.Laws.Views.{index_named, named_has}
use Rattle.image_meaning.specs.Ends.{changes_form}
use Rattle.image_meaning.specs.Share.{Share, finals, IsFirmShare}
use Rattle.image_meaning.specs.Parts.{Parts}
use Rattle.image_meaning.specs.HeldParts.{IsBeside, any_member}
use Rattle.plan_steps.specs.declared.plan.Plan.{Plan}
use Rattle.plan_steps.specs.declared.plan.Stage.{Stage}
use Rattle.plan_steps.specs.declared.plan.Stage.TheVariants.{Absent, Writing, Synced, Registered, Gone}
use Rattle.plan_steps.specs.declared.plan.FileState.{FileState}
use Rattle.plan_steps.specs.Kept.{Forms, AreForms, HasAForm}
use Rattle.plan_steps.specs.Laws.Kept.{kept_none_made}
use Rattle.plan_steps.specs.Changes.{TakesShard}
use Rattle.plan_steps.specs.Laws.Change.{fewer_in}
use Rattle.plan_steps.specs.Allowed.{HasSomeIndex, IsAllowed, IsBare, IsJournalOf, IsLastIndex}
use Rattle.plan_steps.specs.Planned.{joined, joined_index, planned, is_found, given}
use Rattle.plan_steps.specs.Laws.Found.{found_index, found_journal}
use Rattle.plan_steps.specs.Fitting.{StandsBy, AreStates, IsOther, FitsStates}
use Rattle.plan_steps.specs.Listed.{IsListed, listed_or_other}
use Rattle.plan_steps.specs.Legal.{IsFound, IsNew, BeginsPlan, HasFile, HasAnIndex, HasBeside, HasNoShard, FitsPlaces, MayRegister, MayRemove, FitsRow}

no_pairs : pairs [] ≡ []
unfolding pairs pairs_within
no_pairs = refl

-- a member of a list that is long enough
pub some_at : {A : Type 0} (xs : List (List A)) (i : ℕ) → i < length xs → slice_get xs i ≡ Some (unwrap_or (slice_get xs i) [])
some_at [] i h = absurd (omega arith)
some_at (x ∷ xs) zero h = refl
some_at (x ∷ xs) (suc i) h = some_at xs i (omega (arith, h))

-- a place with a list is one of the lists' places
pub numbered : {A : Type 0} (xs : List (List A)) (i : ℕ) (o : Option (List A)) → slice_get xs i ≡ o → is_some o ≡ true → i < length xs
numbered [] i None e some = absurd (true≢false (sym some))
numbered [] i (Some s) e some = absurd cc
numbered (x ∷ xs) zero o e some = omega arith
numbered (x ∷ xs) (suc i) o e some = omega (arith, numbered xs i o e some)

-- the numbers below K + M are no fewer than K
enough_numbers : (r : Ratio) → data_count r ≤ length (filter (λ i. nat_lt i (data_count r + parity_count r)) (range_with_len 0 max_shards))
enough_numbers ThreeTwo = omega arith
enough_numbers SixThree = omega arith
enough_numbers TenFour = omega arith
enough_numbers TwelveFour = omega arith

pub by_bool : (b : Bool) → (b ≡ true) ⊎ (b ≡ false)
by_bool true = inl refl
by_bool false = inr refl

-- a firm file of these bytes stands with them
pub standing_firm : (o : Option (List ℕ)) → disk.standing (option_map firm_file o) ≡ o
standing_firm None = refl
standing_firm (Some bytes) = refl

is_firm : (o : Option (List ℕ)) → IsFirm (option_map firm_file o)
is_firm None = tt
is_firm (Some bytes) = (refl, refl)

-- ---- the files that are given

module _ (plan : Plan) (t : Parts) (start : Share) (server : ℕ) (kind : Kind) where
  pub given_found : IsFound plan server kind → given plan t start server kind ≡ start server kind false
  given_found e = ap (λ (b : Bool). if b then start server kind false else option_map firm_file (planned t kind)) e

  pub given_new : IsNew plan server kind → given plan t start server kind ≡ option_map firm_file (planned t kind)
  given_new e = ap (λ (b : Bool). if b then start server kind false else option_map firm_file (planned t kind)) e

  pub given_bytes : (bytes : List ℕ) → IsNew plan server kind → planned t kind ≡ Some bytes → given plan t start server kind ≡ Some (firm_file bytes)
  given_bytes bytes e is = given_new e ∙ ap (option_map firm_file) is

  -- the bytes of a new file are those that are planned
  pub planned_bytes : (bytes : List ℕ) → IsNew plan server kind → given plan t start server kind ≡ Some (firm_file bytes) → planned t kind ≡ Some bytes
  planned_bytes bytes e is = sym (standing_firm (planned t kind)) ∙ ap disk.standing (sym (given_new e) ∙ is)

  given_firm : IsFirmShare start → IsFirm (given plan t start server kind)
  given_firm firm = ⊎_elim
      (λ found. subst IsFirm (sym (given_found found)) (firm server kind))
      (λ new. subst IsFirm (sym (given_new new)) (is_firm (planned t kind)))
      (by_bool (is_found plan plan.command server kind))

-- ---- what stands

module _ (f : Forms) (w : Volume) (forms : AreForms w f) (plan : Plan) (start : Share) (begins : BeginsPlan f plan (finals start)) (states : List FileState) (share : Share)
    (fits : FitsStates f (given plan f.parts start) start states share) where
  abbrev t : Parts
  t = f.parts

  abbrev now : VolumeFiles
  now = finals share

  -- a file that the progress has is the one that was given
  file_given : (server : ℕ) (kind : Kind) → HasFile plan states server kind → share server kind false ≡ given plan t start server kind
  file_given server kind (inl (j, s, at, a, b, c)) =
      let stands = subst (λ stage. StandsBy stage s.length (given plan t start s.server s.kind) (share s.server s.kind false) (share s.server s.kind true)) c (fits.each j s at) in
      subst (λ (p : ℕ × Kind). share p.0 p.1 false ≡ given plan t start p.0 p.1) (λ k. (a k, b k)) stands.0
  file_given server kind (inr (e, other)) = fits.others server kind other ∙ sym (given_found plan t start server kind e)

  -- so it stands as it did at the start, or as planned
  pub file_found : (server : ℕ) (kind : Kind) → HasFile plan states server kind → IsFound plan server kind → now server kind ≡ finals start server kind
  file_found server kind has e = ap disk.standing (file_given server kind has ∙ given_found plan t start server kind e)

  pub file_new : (server : ℕ) (kind : Kind) → HasFile plan states server kind → IsNew plan server kind → now server kind ≡ planned t kind
  file_new server kind has e = ap disk.standing (file_given server kind has ∙ given_new plan t start server kind e) ∙ standing_firm (planned t kind)

  -- ---- firmness

  -- where the files of the start were firm, those under final names are
  pub firm_now : IsFirmShare start → IsFirmShare share
  firm_now firm server kind = ⊎_elim (λ l. listed l) (λ other. subst IsFirm (sym (fits.others server kind other)) (firm server kind)) (listed_or_other states server kind)
    where
      by_stage : (stage : Stage) (n : ℕ) (given final temp : Option File) → StandsBy stage n given final temp → IsFirm given → IsFirm final
      by_stage Absent n given final temp stands is = subst IsFirm (sym stands.0) tt
      by_stage Writing n given final temp stands is = subst IsFirm (sym stands.0) tt
      by_stage Synced n given final temp stands is = subst IsFirm (sym stands.0) tt
      by_stage Registered n given final temp stands is = subst IsFirm (sym stands.0) is
      by_stage Gone n given final temp stands is = subst IsFirm (sym stands.0) tt

      listed : IsListed states server kind → IsFirm (share server kind false)
      listed (j, s, at, a, b) = subst (λ (p : ℕ × Kind). IsFirm (share p.0 p.1 false)) (λ k. (a k, b k))
          (by_stage s.stage s.length (given plan t start s.server s.kind) (share s.server s.kind false) (share s.server s.kind true) (fits.each j s at) (given_firm plan t start s.server s.kind firm))

  -- ---- and a file that stands the progress has

  not_there : (o : Option (List ℕ)) → o ≡ None → is_some o ≡ true → ⊥
  not_there o none some = true≢false (sym some ∙ ap is_some none)

  pub stands_file : (server : ℕ) (kind : Kind) → server < max_servers → IsKind kind → is_some (now server kind) ≡ true → HasFile plan states server kind
  stands_file server kind below is some = ⊎_elim (λ l. listed l) (λ other. by_found other (by_bool (is_found plan plan.command server kind))) (listed_or_other states server kind)
    where
      by_found : IsOther states server kind → IsFound plan server kind ⊎ IsNew plan server kind → HasFile plan states server kind
      by_found other (inl e) = inr (e, other)
      by_found other (inr e) = absurd (not_there (now server kind) (ap disk.standing (fits.others server kind other) ∙ begins.finds.none_else server kind below is e) some)

      by_stage : (l : IsListed states server kind) → (stage : Stage) → l.1.stage ≡ stage → StandsBy stage l.1.length (given plan t start l.1.server l.1.kind) (share l.1.server l.1.kind false) (share l.1.server l.1.kind true)
          → is_some (now l.1.server l.1.kind) ≡ true → HasFile plan states server kind
      by_stage l Absent e stands some = absurd (not_there (now l.1.server l.1.kind) (ap disk.standing stands.0) some)
      by_stage l Writing e stands some = absurd (not_there (now l.1.server l.1.kind) (ap disk.standing stands.0) some)
      by_stage l Synced e stands some = absurd (not_there (now l.1.server l.1.kind) (ap disk.standing stands.0) some)
      by_stage l Registered e stands some = inl (l.0, l.1, l.2, l.3, l.4, e)
      by_stage l Gone e stands some = absurd (not_there (now l.1.server l.1.kind) (ap disk.standing stands.0) some)

      listed : IsListed states server kind → HasFile plan states server kind
      listed l = by_stage l l.1.stage refl (fits.each l.0 l.1 l.2) (subst (λ (p : ℕ × Kind). is_some (now p.0 p.1) ≡ true) (λ k. (sym l.3 k, sym l.4 k)) some)

  -- ---- beside the shards

  -- the journal there is of the deleted ids
  abbrev IsJournal : Option (List ℕ) → Type 0
  IsJournal o = IsJournalOf t.deleted (unwrap_or o [])

  written_journal : IsJournal (Some (journal_bytes t.deleted))
  written_journal =
      let read = pairs_of_journal t.deleted begins.read_back.ids in
      (read, subst (λ ids. length (journal_bytes t.deleted) ≤ 16 * length ids + 16) (sym read) (omega (arith, length-journal_bytes t.deleted)))

  found_beside : (server : ℕ) → IsFound plan server Vif ⊎ IsNew plan server Vif
  found_beside server = by_bool (is_found plan plan.command server Vif)

  journal_has : (server : ℕ) → HasFile plan states server Ecj → IsJournal (now server Ecj)
  journal_has server has = by_found (found_beside server)
    where
      by_found : IsFound plan server Vif ⊎ IsNew plan server Vif → IsJournal (now server Ecj)
      by_found (inl e) = subst IsJournal (sym (file_found server Ecj has (found_journal plan plan.command server ∙ e))) ((begins.finds.beside server e).journal, (begins.finds.beside server e).rest)
      by_found (inr e) = subst IsJournal (sym (file_new server Ecj has (found_journal plan plan.command server ∙ e))) written_journal

  journal_now : (server : ℕ) → server < max_servers → (plan.deleted.items ≡ []) ⊎ HasFile plan states server Ecj → IsJournal (now server Ecj)
  journal_now server below (inr has) = journal_has server has
  journal_now server below (inl none) = by_now (now server Ecj) refl
    where
      by_now : (o : Option (List ℕ)) → now server Ecj ≡ o → IsJournal (now server Ecj)
      by_now None e = subst IsJournal (sym e) (no_pairs ∙ sym (begins.tells.deleted ∙ none), omega arith)
      by_now (Some bytes) e = journal_has server (stands_file server Ecj below tt (ap is_some e))

  pub beside_by : (server : ℕ) → server < max_servers → HasBeside plan states server → IsBeside t now server
  beside_by server below has =
      let journal = journal_now server below has.journal in
      record { text = text_now (found_beside server); index = index_now (found_beside server); journal = journal.0; rest = journal.1 }
    where
      text_now : IsFound plan server Vif ⊎ IsNew plan server Vif → option_and_then info_of (now server Vif) ≡ Some t.info
      text_now (inl e) = ap (option_and_then info_of) (file_found server Vif has.text e) ∙ (begins.finds.beside server e).text
      text_now (inr e) = ap (option_and_then info_of) (file_new server Vif has.text e) ∙ begins.read_back.text

      index_now : IsFound plan server Vif ⊎ IsNew plan server Vif → now server Ecx ≡ Some t.index
      index_now (inl e) = file_found server Ecx has.index (found_index plan plan.command server ∙ e) ∙ (begins.finds.beside server e).index
      index_now (inr e) = file_new server Ecx has.index (found_index plan plan.command server ∙ e)

  -- a shard that the progress has is the parts'
  pub shard_now : (server i : ℕ) → i < max_shards → HasFile plan states server (Shard i) → slice_get t.shards i ≡ now server (Shard i)
  shard_now server i h has = ⊎_elim
      (λ e. begins.finds.shards server i h e ∙ sym (file_found server (Shard i) has e))
      (λ e. sym (file_new server (Shard i) has e))
      (by_bool (is_found plan plan.command server (Shard i)))

  -- ---- indexes

  -- an index holder has a file of that name, since no vacuum was run
  named_index : (server : ℕ) → HasIndex now server → HasFile plan states server Idx
  named_index server has = stands_file server Idx has.0 tt (ap is_some (sym (index_named now server (ap is_some (kept_none_made f now fits.kept server has.0)))) ∙ has.1)

  an_index : (server : ℕ) → HasIndex now server → HasAnIndex plan states
  an_index server has = (server, has.0, named_index server has)

  no_index_now : (HasAnIndex plan states → ⊥) → index_home now ≡ None
  no_index_now none = by_home (index_home now) refl
    where
      by_home : (o : Option ℕ) → index_home now ≡ o → index_home now ≡ None
      by_home None e = e
      by_home (Some s) e = let low = lowest-some (has_index now) s e in absurd (none (an_index s (low.1, low.0.passes)))

  index_now : HasAnIndex plan states → HasSomeIndex now
  index_now (s, below, has) = ap is_some (lowest-exists (has_index now) s below (named_has now s (by_found (by_bool (is_found plan plan.command s Idx))))).1
    where
      by_found : IsFound plan s Idx ⊎ IsNew plan s Idx → is_some (now s Idx) ≡ true
      by_found (inl e) = ap is_some (file_found s Idx has e) ∙ begins.finds.index s e
      by_found (inr e) = ap is_some (file_new s Idx has e)

  -- ---- what may be registered

  new_index : (server : ℕ) → MayRegister plan states server Idx → IsAllowed f now server Idx (Some (joined_index t))
  new_index server may =
      let new : IsNew plan server Dat = ap (λ c. is_found plan c server Dat) may.2 in
      let dat : now server Dat ≡ Some (joined t) = file_new server Dat (inl may.1) new in
      let joins = begins.joined may.2 in
      record {
        changes = begins.changes ∙ ap changes_form may.2;
        no_index = no_index_now may.0;
        has = ap (λ (o : Option (List ℕ)). kept_records (unwrap_or o []) (joined_index t)) dat ∙ exact_kept_records (joined t) (joined_index t) f.kept joins.exact;
        follows = subst (λ (o : Option (List ℕ)). FollowsRecords (unwrap_or o []) (joined_index t)) (sym dat) (exact_follows (joined t) (joined_index t) f.kept joins.exact);
        super = subst (λ (o : Option (List ℕ)). IsTrue (has_super (unwrap_or o []))) (sym dat) joins.super;
      }

  new_shard : (server i : ℕ) → server < max_servers → (bytes : List ℕ) → slice_get t.shards i ≡ Some bytes → MayRegister plan states server (Shard i) → IsAllowed f now server (Shard i) (Some bytes)
  new_shard server i below bytes is may = record { beside = inr (beside_by server below may); shard = is }

  allowed_as : (server : ℕ) (kind : Kind) (o p : Option (List ℕ)) → o ≡ p → IsAllowed f now server kind o → IsAllowed f now server kind p
  allowed_as server kind o p e allowed = subst (IsAllowed f now server kind) e allowed

  -- What may be registered is allowed.
  pub register_allowed : (server : ℕ) (kind : Kind) → server < max_servers → (bytes : List ℕ) → planned t kind ≡ Some bytes → MayRegister plan states server kind → IsAllowed f now server kind (Some bytes)
  register_allowed server Dat below bytes is may = λ has. may (an_index server has)
  register_allowed server Idx below bytes is may = allowed_as server Idx (Some (joined_index t)) (Some bytes) is (new_index server may)
  register_allowed server Cpd below bytes is may = absurd may
  register_allowed server Cpx below bytes is may = absurd may
  register_allowed server (Shard i) below bytes is may = new_shard server i below bytes is may
  register_allowed server Ecx below bytes is may = allowed_as server Ecx (Some t.index) (Some bytes) is refl
  register_allowed server Ecj below bytes is may = allowed_as server Ecj (Some (journal_bytes t.deleted)) (Some bytes) is written_journal
  register_allowed server Vif below bytes is may = allowed_as server Vif (planned t Vif) (Some bytes) is begins.read_back.text

  -- ---- what may be removed

  bare : (server : ℕ) → HasAnIndex plan states ⊎ HasNoShard plan states server → IsBare now server
  unfolding is_holder
  bare server (inl has) = inl (index_now has)
  bare server (inr none) = inr (λ holder.
      let found = any_member (λ i. stands now server (Shard i)) 0 max_shards holder.1 in
      none found.0 (omega (arith, found.2)) (stands_file server (Shard found.0) holder.0 (omega (arith, found.2)) found.3))

  -- the ratio of the plan is that of the parts
  in_all : shards_in_all t.info.geometry ≡ shards_in_all plan.info.geometry
  in_all = ap (λ (i : Info). shards_in_all i.geometry) begins.tells.info

  few : shards_in_all t.info.geometry ≤ max_shards
  few = counts-sixteen t.info.geometry.ratio

  shard_stands : (server i : ℕ) → i < shards_in_all plan.info.geometry → HasFile plan states server (Shard i) → is_some (now server (Shard i)) ≡ true
  shard_stands server i h has = ap is_some (sym (shard_now server i (omega (arith, h, in_all, few)) has) ∙ some_at t.shards i (omega (arith, h, in_all, forms.parts.striped.count)))

  -- where all shards of the ratio stand, they suffice
  all_suffice : ((i : ℕ) → i < shards_in_all t.info.geometry → is_some (shard_home now i) ≡ true) → data_count t.info.geometry.ratio ≤ length (standing now)
  unfolding standing
  all_suffice all = omega (
    arith,
    enough_numbers t.info.geometry.ratio,
    fewer_in (λ i. nat_lt i (data_count t.info.geometry.ratio + parity_count t.info.geometry.ratio)) (λ i. is_some (shard_home now i)) 0 max_shards (λ i h e. all i (ltb-true i (data_count t.info.geometry.ratio + parity_count t.info.geometry.ratio) e)),
  )

  last_index : (server : ℕ) (row : Row) → MayRemove plan states row server Idx → IsLastIndex f now server
  last_index server row may = record {
    only = λ s has. may.only s has.0 (named_index s has);
    enough = all_suffice (λ i h.
        let short : i < shards_in_all plan.info.geometry = omega (arith, h, in_all) in
        let there = may.all i short in
        ap is_some (lowest-exists (λ s. stands now s (Shard i)) there.0 there.1 (shard_stands there.0 i short there.2)).1);
    holds = record {
      each = λ s i h st.
          let has = stands_file s (Shard i) st.0 h st.1 in
          (beside_by s st.0 (may.beside s i h has), shard_now s i h has);
    };
  }

  -- a file that the progress has stands at a server that a site may have
  below_by : AreStates states → (server : ℕ) (kind : Kind) → HasFile plan states server kind → server < max_servers
  below_by are server kind (inl (j, s, at, a, b, c)) = subst (λ n. n < max_servers) a (are.named j s at).1
  below_by are server kind (inr (found, other)) = begins.finds.below server kind found

  -- what the table names stands
  pub row_fits : AreStates states → (row : Row) → FitsPlaces plan states row → FitsRow row now
  row_fits are row places i server h place = ⊎_elim
      (λ short. let has = places.named i server short place in (below_by are server (Shard i) has, shard_stands server i short has))
      (λ beyond. absurd (some_none (sym place ∙ places.beyond i beyond)))
      (cases_lt i (shards_in_all plan.info.geometry))
    where
      some_none : Some server ≡ None → ⊥
      some_none e = cc

  -- What may be removed is allowed.
  pub remove_allowed : (row : Row) → FitsRow row now → (server : ℕ) (kind : Kind) → IsKind kind → MayRemove plan states row server kind → IsAllowed f now server kind None
  remove_allowed row fits_row server Dat is may = λ has. may (named_index server has)
  remove_allowed row fits_row server Idx is may = last_index server row may
  remove_allowed row fits_row server Cpd is may = absurd may
  remove_allowed row fits_row server Cpx is may = absurd may
  remove_allowed row fits_row server (Shard i) is (inl has) = inl (index_now has)
  remove_allowed row fits_row server (Shard i) is (inr (other, apart, inl place)) = inr (other, apart, fits_row i other is place)
  remove_allowed row fits_row server (Shard i) is (inr (other, apart, inr (below, short, has))) = inr (other, apart, (below, shard_stands other i short has))
  remove_allowed row fits_row server Ecx is may = bare server may
  remove_allowed row fits_row server Ecj is may = bare server may
  remove_allowed row fits_row server Vif is may = bare server may

  -- where a shard that was found goes, no index stands, unless the plan is a decode
  pub takes_coded : (server : ℕ) (kind : Kind) → IsFound plan server kind → (plan.command ≡ Decode → ⊥) → TakesShard kind None → index_home now ≡ None
  takes_coded server kind found no_decode (i, is, none) = by_command plan.command refl
    where
      shard_found : IsFound plan server (Shard i)
      shard_found = subst (IsFound plan server) is found

      coded : f.changes ≡ false → HasAForm f now → index_home now ≡ None
      coded e (inl (changes, kept)) = absurd (true≢false (sym changes ∙ e))
      coded e (inr kept) = kept.form.no_index

      by_command : (c : Command) → plan.command ≡ c → index_home now ≡ None
      by_command (Encode ratio) e = absurd (true≢false (sym shard_found ∙ ap (λ c. is_found plan c server (Shard i)) e))
      by_command Rebuild e = coded (begins.changes ∙ ap changes_form e) fits.kept
      by_command Balance e = coded (begins.changes ∙ ap changes_form e) fits.kept
      by_command Decode e = absurd (no_decode e)
