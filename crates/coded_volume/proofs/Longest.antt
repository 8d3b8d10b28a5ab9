-- The journals of all holders, and the ids that they agree on.
use Rattle.std.proofs.Common.{◌≡◌, ◌≢◌, ℕ, zero, suc, ◌+◌, ◌*◌, ◌<◌, ◌≤◌, Bool, true, false, cond, List, [], ◌∷◌, ◌++◌, length, map, take, Option, Some, None, IsTrue, inl, inr, refl, sym, ◌∙◌, ap, subst, arith}
use Rattle.std.specs.Prelude.{◌⊎◌, ◌↔◌, Contains, IsSome, nat_eq, slice_index_or}
use Rattle.std.specs.Ordering.{nat_cmp, is_eq, eq_by_cmp}
use Rattle.std.specs.declared.cmp.Ordering.{Ordering}
use Rattle.std.specs.declared.cmp.Ordering.TheVariants.{Less, Equal, Greater}
use Rattle.std.specs.Cmp.{nat_cmp_total, tied_itself}
use Rattle.std.specs.List.{All, Any, AllWithin, AllByRecursion, IsDistinct}
use Rattle.std.specs.FinMap.{FinMap, get, remove, find, get-remove, get-from_entries, nat_cmp-IsAntisymmetric}
use Rattle.std.proofs.lemmas.Bool.{cases_eq, eqb-false, ne_eqb}
use Rattle.std.proofs.lemmas.List.{get_or_default, take_all, take_more, take-append-le}
use Rattle.std.proofs.lemmas.List.Elements.{All-push, All-contains, AllWithin-more, Contains-append_left}
use Rattle.std.proofs.lemmas.List.Quantifiers.{Any-push}
use mathlib.Core.Bool.{true≢false}
use Rattle.world_model.specs.Sizes.{deletion_length, max_dat}
use Rattle.file_names.specs.declared.Kind.TheVariants.{Ecx, Ecj}
use Rattle.volume_forms.specs.declared.Entry.{Entry}
use Rattle.volume_forms.specs.Forms.{entries}
use Rattle.ecj_journal.specs.declared.reading.Journal.{Journal}
use Rattle.ecx_index.specs.Listed.{map_of, under_ids}
use Rattle.stripe_layout.specs.declared.Info.{Info}
use Rattle.image_meaning.specs.Files.{VolumeFiles, bytes_at}
use Rattle.image_meaning.specs.Coded.{deleted_at}
use Rattle.image_meaning.specs.Ends.{IsStage}
use Rattle.image_meaning.specs.Sound.{IsHolder, HasJournal}
use Rattle.coded_volume.specs.declared.checking.holders.Holders.{Holders}
use Rattle.coded_volume.specs.Checking.{AreHolders, HasIndexOf, IsJournalAt, AreJournals, Follows, AreKnown, AgreeOn, HasLongest}

-- ---- ids that are known, each once

tied : (o : Ordering) → is_eq o ≡ true → o ≡ Equal
tied Less e = absurd (true≢false (sym e))
tied Equal e = refl
tied Greater e = absurd (true≢false (sym e))

gone : (m : FinMap nat_cmp Entry) (id : ℕ) → get (remove m id) id ≡ None
gone m id = get-remove nat_cmp_total m id id ∙ ap (λ o. cond (is_eq o) None (get m id)) (tied_itself nat_cmp_total id)

kept : (m : FinMap nat_cmp Entry) (id y : ℕ) → y ≢ id → get (remove m id) y ≡ get m y
kept m id y other = get-remove nat_cmp_total m id y ∙ by_test (eq_by_cmp nat_cmp y id) refl
  where
    by_test : (b : Bool) → eq_by_cmp nat_cmp y id ≡ b → cond b None (get m y) ≡ get m y
    by_test true same = absurd (other (nat_cmp-IsAntisymmetric y id (tied (nat_cmp y id) same)))
    by_test false apart = refl

none_there : (o : Option Entry) → o ≡ None → IsSome o → ⊥
none_there None e some = true≢false (sym some)
none_there (Some x) e some = absurd cc

abbrev AreThere : FinMap nat_cmp Entry → List ℕ → Type 0
AreThere m ids = AllByRecursion (λ id. IsSome (get m id)) ids

-- those that are there without one are others
others : (m : FinMap nat_cmp Entry) (id : ℕ) (ids : List ℕ) → AreThere (remove m id) ids → AllByRecursion (λ y. nat_eq id y ≡ false) ids × AreThere m ids
others m id [] h = (tt, tt)
others m id (y ∷ ids) h =
    let rest = others m id ids h.1 in
    let apart : y ≢ id = λ same. none_there (get (remove m id) y) (ap (get (remove m id)) same ∙ gone m id) h.0 in
    ((ne_eqb id y (λ same. apart (sym same)), rest.0), (subst IsSome (kept m id y apart) h.0, rest.1))

without : (m : FinMap nat_cmp Entry) (id : ℕ) (ids : List ℕ) → AllByRecursion (λ y. nat_eq id y ≡ false) ids → AreThere m ids → AreThere (remove m id) ids
without m id [] apart h = tt
without m id (y ∷ ids) apart h = (subst IsSome (sym (kept m id y (λ same. eqb-false id y apart.0 (sym same)))) h.0, without m id ids apart.1 h.1)

known_once : (m : FinMap nat_cmp Entry) (ids : List ℕ) → AreKnown m ids → IsDistinct nat_eq ids × AreThere m ids
unfolding IsDistinct
known_once m [] h = (tt, tt)
known_once m (id ∷ ids) h =
    let rest = known_once (remove m id) ids h.1 in
    let apart = others m id ids rest.1 in
    ((apart.0, rest.0), (h.0, apart.1))

once_known : (m : FinMap nat_cmp Entry) (ids : List ℕ) → IsDistinct nat_eq ids → AreThere m ids → AreKnown m ids
unfolding IsDistinct
once_known m [] once h = tt
once_known m (id ∷ ids) once h = (h.0, once_known (remove m id) ids once.1 (without m id ids once.0 h.1))

-- ---- ids of entries

abbrev ids_of : List Entry → List ℕ
ids_of es = map (λ (e : Entry). e.id) es

in_entries : (id : ℕ) (es : List Entry) → IsSome (find nat_cmp id (under_ids es)) → Contains (ids_of es) id
in_entries id [] h = absurd (true≢false (sym h))
in_entries id (e ∷ es) h = by_test (eq_by_cmp nat_cmp id e.id) refl h (in_entries id es)
  where
    by_test : (b : Bool) → eq_by_cmp nat_cmp id e.id ≡ b → IsSome (cond b (Some e) (find nat_cmp id (under_ids es))) → (IsSome (find nat_cmp id (under_ids es)) → Contains (ids_of es) id) → Contains (ids_of (e ∷ es)) id
    by_test true same h behind = (0, omega arith, sym (nat_cmp-IsAntisymmetric id e.id (tied (nat_cmp id e.id) same)))
    by_test false other h behind = let rest = behind h in (suc rest.0, omega (arith, rest.1), rest.2)

of_entries : (id : ℕ) (es : List Entry) (k : ℕ) → k < length (ids_of es) → slice_index_or (ids_of es) k id ≡ id → IsSome (find nat_cmp id (under_ids es))
of_entries id [] k lt at = absurd (omega arith)
of_entries id (e ∷ es) zero lt at = subst (λ o. IsSome (cond (is_eq o) (Some e) (find nat_cmp id (under_ids es)))) (sym (ap (nat_cmp id) at ∙ tied_itself nat_cmp_total id)) refl
of_entries id (e ∷ es) (suc k) lt at = by_test (eq_by_cmp nat_cmp id e.id) (of_entries id es k (omega arith) at)
  where
    by_test : (b : Bool) → IsSome (find nat_cmp id (under_ids es)) → IsSome (cond b (Some e) (find nat_cmp id (under_ids es)))
    by_test true rest = refl
    by_test false rest = rest

there_known : (es : List Entry) (ids : List ℕ) → AreThere (map_of es) ids → AllByRecursion (λ id. Contains (ids_of es) id) ids
unfolding map_of
there_known es [] h = tt
there_known es (id ∷ ids) h = (in_entries id es (subst IsSome (get-from_entries nat_cmp_total (under_ids es) id) h.0), there_known es ids h.1)

known_there : (es : List Entry) (ids : List ℕ) → AllByRecursion (λ id. Contains (ids_of es) id) ids → AreThere (map_of es) ids
unfolding map_of
known_there es [] h = tt
known_there es (id ∷ ids) h = (subst IsSome (sym (get-from_entries nat_cmp_total (under_ids es) id)) (of_entries id es h.0.0 h.0.1 h.0.2), known_there es ids h.1)

-- ---- whether a journal follows

pub follows_is : (ids : List ℕ) (journal : Journal) → journal.rest ≤ 16 → length journal.ids.items ≤ length ids → length ids ≤ length journal.ids.items + 1
    → (journal.ids.items ≡ take (length journal.ids.items) ids) ↔ Follows ids journal
follows_is ids journal rest low high = ((λ front. record { stage = by_length front (cases_eq (length ids) (length journal.ids.items)); rest = rest }), (λ follows. by_stage follows.stage))
  where
    by_length : journal.ids.items ≡ take (length journal.ids.items) ids → (length ids ≡ length journal.ids.items) ⊎ (length ids ≢ length journal.ids.items) → IsStage ids journal.ids.items
    by_length front (inl same) = inl (front ∙ take_all (length journal.ids.items) ids (omega (arith, same)))
    by_length front (inr other) =
        let n : ℕ = length journal.ids.items in
        inr (slice_index_or ids n 0, sym (take_all (n + 1) ids high) ∙ take_more ids n 0 (omega arith) ∙ ap (λ (l : List ℕ). l ++ slice_index_or ids n 0 ∷ []) (sym front))

    by_stage : IsStage ids journal.ids.items → journal.ids.items ≡ take (length journal.ids.items) ids
    by_stage (inl same) = same ∙ sym (take_all (length journal.ids.items) ids (omega (arith, ap length same)))
    by_stage (inr (id, more)) = sym (take-append-le (length journal.ids.items) journal.ids.items (id ∷ []) (omega arith) ∙ take_all (length journal.ids.items) journal.ids.items (omega arith)) ∙ ap (take (length journal.ids.items)) (sym more)

pub follows_by : (ids : List ℕ) (journal : Journal) (result : Bool) (a : List ℕ) (count : ℕ) → a ≡ journal.ids.items → count ≡ length journal.ids.items → IsTrue result ↔ (a ≡ take count ids)
    → journal.rest ≤ 16 → length journal.ids.items ≤ length ids → length ids ≤ length journal.ids.items + 1 → IsTrue result ↔ Follows ids journal
follows_by ids journal result a count same counted tells rest low high =
    let is = follows_is ids journal rest low high in
    ((λ t. is.0 (sym same ∙ tells.0 t ∙ ap (λ n. take n ids) counted)), (λ follows. tells.1 (same ∙ is.1 follows ∙ ap (λ n. take n ids) (sym counted))))

-- ---- the journals, one after the other

-- that of the first holder and those of the first n others
pub record HasRead (files : VolumeFiles) (holders : Holders) (n : ℕ) (journals : List Journal) : Type 0 where
  pub first : Any (IsJournalAt files holders.first) journals
  pub each : AllWithin (λ server. Any (IsJournalAt files server) journals) holders.others.items 0 n
  pub only : All (λ (journal : Journal). (server : ℕ) × IsHolder files server × IsJournalAt files server journal) journals

any_more : (P : Journal → Type 0) (journals : List Journal) (journal : Journal) → Any P journals → Any P (journals ++ journal ∷ [])
any_more P journals journal (k, j, lt, at, holds) =
    let there = Contains-append_left journals (journal ∷ []) j (k, lt, at) in (there.0, j, there.1, there.2, holds)

module _ (files : VolumeFiles) (holders : Holders) (are : AreHolders files holders) where
  pub read_first : (journal : Journal) → IsJournalAt files holders.first journal → HasRead files holders 0 (journal ∷ [])
  read_first journal is = record {
    first = (0, journal, omega arith, refl, is);
    each = λ k d low lt. absurd (omega arith);
    only = All-push (λ (j : Journal). (server : ℕ) × IsHolder files server × IsJournalAt files server j) [] journal (λ k d lt. absurd (omega arith)) (holders.first, are.first, is);
  }

  pub read_next : (n : ℕ) (journals : List Journal) (journal : Journal) (d : ℕ) → n < length holders.others.items → HasRead files holders n journals → IsJournalAt files (slice_index_or holders.others.items n d) journal
      → HasRead files holders (n + 1) (journals ++ journal ∷ [])
  read_next n journals journal d fits has is = record {
    first = any_more (IsJournalAt files holders.first) journals journal has.first;
    each = AllWithin-more (λ server. Any (IsJournalAt files server) (journals ++ journal ∷ [])) holders.others.items 0 n (λ k e low lt. any_more (IsJournalAt files (slice_index_or holders.others.items k e)) journals journal (has.each k e low lt))
        (λ e. subst (λ server. Any (IsJournalAt files server) (journals ++ journal ∷ [])) (get_or_default holders.others.items n d e fits) (Any-push (IsJournalAt files (slice_index_or holders.others.items n d)) journals journal is));
    only = All-push (λ (j : Journal). (server : ℕ) × IsHolder files server × IsJournalAt files server j) journals journal has.only (slice_index_or holders.others.items n d, are.others n d fits, is);
  }

  pub read_all : (n : ℕ) (journals : List Journal) → length holders.others.items ≤ n → HasRead files holders n journals → AreJournals files journals
  read_all n journals end has = record { each = λ server holds. by_place server (are.all server holds); only = has.only }
    where
      by_place : (server : ℕ) → (server ≡ holders.first) ⊎ Contains holders.others.items server → Any (IsJournalAt files server) journals
      by_place server (inl same) = subst (λ s. Any (IsJournalAt files s) journals) (sym same) has.first
      by_place server (inr (k, lt, at)) = subst (λ s. Any (IsJournalAt files s) journals) at (has.each k server (omega arith) (omega arith))

-- ---- the longest journal

-- what each test found, of the journal at this place
pub agree_at : (journals : List Journal) (index : FinMap nat_cmp Entry) (size place count : ℕ) (found : Journal) (longest : List ℕ) → place < length journals → found ≡ slice_index_or journals place found → found.ids.items ≡ longest
    → count ≡ length longest → size + deletion_length * count ≤ max_dat → All (Follows longest) journals → AreKnown index longest → AgreeOn journals index size longest
agree_at journals index size place count found longest fits at same counted room follow known = record {
  some_journal = (place, found, fits, sym at, same);
  follow = follow;
  known = known;
  room = subst (λ n. size + deletion_length * n ≤ max_dat) counted room;
}

-- ---- the rule

behind : (n ids rest : ℕ) → n ≡ 16 * ids + rest → n ≤ 16 * ids + 16 → rest ≤ 16
behind n ids rest e h = omega arith

most_behind : (n ids rest : ℕ) → n ≡ 16 * ids + rest → rest ≤ 16 → n ≤ 16 * ids + 16
most_behind n ids rest e h = omega arith

module _ (files : VolumeFiles) (holders : Holders) (info : Info) (are : AreHolders files holders) (index : FinMap nat_cmp Entry) (has : HasIndexOf files holders info index)
    (journals : List Journal) (all : AreJournals files journals) where
  pub rule_agrees : (journal : HasJournal files info) → AgreeOn journals index info.dat_size journal.longest
  rule_agrees journal = record {
    some_journal =
        let (server, holds, is) = journal.some_holder in
        let (k, j, lt, at, this) = all.each server holds in
        (k, j, lt, at, this.ids ∙ is);
    follow = λ k d lt.
        let (server, holds, this) = all.only k d lt in
        record {
          stage = by_server server (slice_index_or journals k d) this (journal.each server holds);
          rest = behind (length (bytes_at files server Ecj)) (length (deleted_at files server)) (slice_index_or journals k d).rest this.rest (journal.rest server holds);
        };
    known = subst (λ (m : FinMap nat_cmp Entry). AreKnown m journal.longest) (sym has.entries)
        (once_known (map_of (entries (bytes_at files holders.first Ecx))) journal.longest journal.distinct (known_there (entries (bytes_at files holders.first Ecx)) journal.longest (journal.known holders.first are.first)));
    room = journal.room;
  }
    where
      by_server : (server : ℕ) (j : Journal) → IsJournalAt files server j → (deleted_at files server ≡ journal.longest) ⊎ ((id : ℕ) × (journal.longest ≡ deleted_at files server ++ id ∷ [])) → IsStage journal.longest j.ids.items
      by_server server j this (inl same) = inl (this.ids ∙ same)
      by_server server j this (inr (id, more)) = inr (id, more ∙ ap (λ (l : List ℕ). l ++ id ∷ []) (sym this.ids))

  pub agree_rule : (ids : List ℕ) → AgreeOn journals index info.dat_size ids → HasLongest files info ids
  agree_rule ids agree = record {
    journal = record {
      longest = ids;
      some_holder =
          let (k, j, lt, at, is) = agree.some_journal in
          let (server, holds, this) = All-contains (λ (j : Journal). (server : ℕ) × IsHolder files server × IsJournalAt files server j) journals j all.only (k, lt, at) in
          (server, holds, sym this.ids ∙ is);
      each = λ server holds.
          let (k, j, lt, at, this) = all.each server holds in
          by_stage server j this (All-contains (Follows ids) journals j agree.follow (k, lt, at)).stage;
      distinct = once.0;
      known = λ server holds. subst (λ (l : List ℕ). AllByRecursion (λ id. Contains (ids_of (entries l)) id) ids) (has.one.same holders.first server are.first holds) (there_known (entries (bytes_at files holders.first Ecx)) ids once.1);
      room = agree.room;
      rest = λ server holds.
          let (k, j, lt, at, this) = all.each server holds in
          most_behind (length (bytes_at files server Ecj)) (length (deleted_at files server)) j.rest this.rest (All-contains (Follows ids) journals j agree.follow (k, lt, at)).rest;
    };
    longest = refl;
  }
    where
      once : IsDistinct nat_eq ids × AreThere (map_of (entries (bytes_at files holders.first Ecx))) ids
      once = known_once (map_of (entries (bytes_at files holders.first Ecx))) ids (subst (λ (m : FinMap nat_cmp Entry). AreKnown m ids) has.entries agree.known)

      by_stage : (server : ℕ) (j : Journal) → IsJournalAt files server j → IsStage ids j.ids.items → (deleted_at files server ≡ ids) ⊎ ((id : ℕ) × (ids ≡ deleted_at files server ++ id ∷ []))
      by_stage server j this (inl same) = inl (sym this.ids ∙ same)
      by_stage server j this (inr (id, more)) = inr (id, more ∙ ap (λ (l : List ℕ). l ++ id ∷ []) this.ids)
