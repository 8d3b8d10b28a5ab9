-- Which files are listed, and how those beside shards go.
use Rattle.std.proofs.Common.{◌≡◌, ◌≢◌, inl, inr, ⊎_elim, ℕ, ◌+◌, ◌<◌, ◌≤◌, Bool, true, false, List, length, get_or, Option, Some, None, is_some, refl, sym, ◌∙◌, ap, subst, arith}
use Rattle.std.specs.Prelude.{slice_index_or, IsSome, Contains}
use mathlib.Core.Bool.{true≢false}
use Rattle.std.proofs.lemmas.Bool.{cases_eq}
use Rattle.std.proofs.lemmas.List.{get_or_default}
use Rattle.site_model.specs.Disk.{Place, File, Files, Disk}
use Rattle.file_names.specs.declared.Kind.{Kind}
use Rattle.file_names.specs.declared.Kind.TheVariants.{Dat, Idx, Cpd, Cpx, Shard, Ecx, Ecj, Vif}
use Rattle.file_names.specs.Names.{IsKind, name_bytes, place_of}
use Rattle.image_meaning.specs.Meaning.{max_volumes}
use Rattle.site_recovery.specs.declared.forms.Listed.{Listed}
use Rattle.site_recovery.specs.declared.forms.Goes.TheVariants as goes
use Rattle.site_recovery.specs.Changes.{LacksSome, TakesAway}
use Rattle.site_recovery.specs.Removing.{place_in, IsGoing, IsGoingAt, HasFilesOf, HasFinalsBut, HasAllButJournals, AreListedBut, AreListedGone}
use Rattle.site_recovery.specs.Spreading.{IsJournalAmong, Spreads}
use Rattle.site_recovery.specs.CodedGone.{ClearsUnless, IsBesideKind, IsStray, AreStraysGone, AreJournalsGone}
use Rattle.site_recovery.proofs.Members.{contains_cases}
use Rattle.site_recovery.proofs.Places.{same_place}
use Rattle.site_recovery.proofs.Taking.{takes_on, takes_more, takes_clear}
use Rattle.site_recovery.proofs.Gone.{stays_gone}

-- the file of these parts
abbrev file_at : ℕ → ℕ → Kind → Listed
file_at v server kind = record { server = server; file = record { volume = v; kind = kind; temp = false } }

-- ---- what is listed

-- what stands after files were taken away stood before
stood : {touched : Place → Type 0} {old new : Files} (k : Place) → LacksSome touched old new → IsSome (new k) → IsSome (old k)
stood k lacks some = ⊎_elim (λ same. subst (λ o. IsSome o) same some) (λ gone. absurd (true≢false (sym some ∙ ap is_some gone.1))) (lacks k)

module _ (v : ℕ) (found : List Listed) where
  pub still_listed : {touched : Place → Type 0} {journals : ℕ → Type 0} (old new : Files) → LacksSome touched old new → HasFinalsBut journals old v found → HasFinalsBut journals new v found
  still_listed old new lacks all server kind is none some = all server kind is none (stood (place_of v server kind false) lacks some)

  pub no_journals : {journals : ℕ → Type 0} (files : Files) → HasFinalsBut journals files v found → HasAllButJournals files v found
  no_journals files all server kind is none some = all server kind is (λ e at. none e tt) some

  pub kind_listed : (kind : Kind) (keeper : Option ℕ) (files : Files) → IsKind kind → kind ≢ Ecj → HasAllButJournals files v found → AreListedBut keeper files v kind found
  kind_listed kind keeper files is other all server apart some = all server kind is (λ e at. other e) some

  -- after the journals came to these servers
  pub spread_listed : (servers ids : List ℕ) (old new : Disk) → v < max_volumes → HasFilesOf old.files v found → Spreads v servers ids old new → HasFinalsBut (Contains servers) new.files v found
  spread_listed servers ids old new h all spreads server kind is none some =
      all (file_at v server kind) (record { named = record { volume = h; kind = is }; stands = subst (λ o. IsSome o) (spreads.touches.others (place_of v server kind false) no_journal) some }) refl
    where
      no_journal : IsJournalAmong v servers (place_of v server kind false) → ⊥
      no_journal (t, temp, among, e) =
          let same = same_place v v server t kind Ecj false temp h h is tt e in
          none same.kinds (among.0, among.1, get_or_default servers among.0 server 0 among.1 ∙ among.2 ∙ sym same.servers)

module _ (v : ℕ) (keeps : List Bool) where
  abbrev keep_at : ℕ → Bool
  keep_at server = slice_index_or keeps server false

  -- ---- journals, server by server

  abbrev journal_name : List ℕ
  journal_name = name_bytes (record { volume = v; kind = Ecj; temp = false })

  pub takes_journal : (server : ℕ) (name : List ℕ) (b : Bool) {old mid new : Disk} → name ≡ journal_name → b ≡ keep_at server → TakesAway (IsStray v keeps) old mid → ClearsUnless b (server, name) mid new → TakesAway (IsStray v keeps) old new
  takes_journal server name true {old} e same first did = subst (λ (d : Disk). TakesAway (IsStray v keeps) old d) (sym (did.kept refl)) first
  takes_journal server name false e same first did = takes_on first (takes_clear (server, Ecj, (λ i. (server, e i)), tt, sym same) (did.cleared refl))

  module _ (servers : List ℕ) where
    abbrev pub JournalsGoneBelow : ℕ → Files → Type 0
    JournalsGoneBelow n files = (k : ℕ) → k < n → keep_at (get_or servers k 0) ≡ false → files (place_of v (get_or servers k 0) Ecj false) ≡ None

    pub journals_none : (files : Files) → JournalsGoneBelow 0 files
    journals_none files k low other = absurd (omega arith)

    pub journals_more : {touched : Place → Type 0} (n : ℕ) (name : List ℕ) (b : Bool) (old new : Files) → name ≡ journal_name → b ≡ keep_at (get_or servers n 0) → LacksSome touched old new → JournalsGoneBelow n old
        → (b ≡ false → new (get_or servers n 0, name) ≡ None) → JournalsGoneBelow (n + 1) new
    journals_more n name b old new e same lacks before here k low other = elim (cases_eq k n) [
      | inl at ↦ subst (λ j. new (place_of v (get_or servers j 0) Ecj false) ≡ None) (sym at)
          (subst (λ (x : List ℕ). new (get_or servers n 0, x) ≡ None) e (here (same ∙ ap (λ j. keep_at (get_or servers j 0)) (sym at) ∙ other)))
      | inr less ↦ stays_gone (place_of v (get_or servers k 0) Ecj false) lacks (before k (omega arith) other)
    ]

    pub journals_all : (n : ℕ) (files : Files) → n ≡ length servers → JournalsGoneBelow n files → AreJournalsGone v servers keeps files
    journals_all n files all below server has other =
        let at : get_or servers has.0 0 ≡ server = get_or_default servers has.0 0 server has.1 ∙ has.2 in
        subst (λ s. files (place_of v s Ecj false) ≡ None) at (below has.0 (omega (arith, has.1, all)) (ap keep_at at ∙ other))

  -- ---- listed files, one by one

  pub takes_listed : (l : Listed) {old mid new : Disk} → keep_at l.server ≡ false → TakesAway (IsStray v keeps) old mid → TakesAway (IsGoingAt (goes.Beside v) l) mid new → TakesAway (IsStray v keeps) old new
  takes_listed l unkept first did = takes_on first (takes_more stray_at did)
    where
      stray_at : (k : Place) → IsGoingAt (goes.Beside v) l k → IsStray v keeps k
      stray_at k (is, at) =
          (l.server, l.file.kind, at ∙ ap (λ (w : ℕ). place_of w l.server l.file.kind l.file.temp) is.1 ∙ ap (λ (t : Bool). place_of v l.server l.file.kind t) is.0, is.2, unkept)

  module _ (found : List Listed) where
    abbrev pub ListedGoneBelow : ℕ → Files → Type 0
    ListedGoneBelow n files = (l : Listed) (k : ℕ) → k < n → slice_index_or found k l ≡ l → IsGoing (goes.Beside v) l → keep_at l.server ≡ false → files (place_in l) ≡ None

    pub listed_none : (files : Files) → ListedGoneBelow 0 files
    listed_none files l k low at is other = absurd (omega arith)

    module _ (n : ℕ) (d : Listed) (fits : n < length found) where
      abbrev this : Listed
      this = slice_index_or found n d

      this_is : (l : Listed) (k : ℕ) → k ≡ n → slice_index_or found k l ≡ l → this ≡ l
      this_is l k same at = get_or_default found n d l fits ∙ ap (λ j. slice_index_or found j l) (sym same) ∙ at

      pub listed_more : {touched : Place → Type 0} (old new : Files) → LacksSome touched old new → ListedGoneBelow n old → (IsGoing (goes.Beside v) this → new (place_in this) ≡ None) → ListedGoneBelow (n + 1) new
      listed_more old new lacks below gone l k low at is other = elim (cases_eq k n) [
        | inl same ↦ subst (λ (w : Listed). new (place_in w) ≡ None) (this_is l k same at) (gone (subst (IsGoing (goes.Beside v)) (sym (this_is l k same at)) is))
        | inr less ↦ stays_gone (place_in l) lacks (below l k (omega arith) at is other)
      ]

      pub listed_kept : (files : Files) → ListedGoneBelow n files → keep_at this.server ≡ true → ListedGoneBelow (n + 1) files
      listed_kept files below kept l k low at is other = elim (cases_eq k n) [
        | inl same ↦ absurd (true≢false (sym kept ∙ ap (λ (w : Listed). keep_at w.server) (this_is l k same at) ∙ other))
        | inr less ↦ below l k (omega arith) at is other
      ]

    pub listed_all : (n : ℕ) (files : Files) → length found ≤ n → ListedGoneBelow n files → AreListedGone v keeps found files
    listed_all n files all below l has is other = below l has.0 (omega (arith, has.1, all)) has.2 is other

  -- ---- both

  module _ {a b : Place → Type 0} (holders : List ℕ) (found : List Listed) (old mid new : Files) (all : HasFinalsBut (Contains holders) old v found) (first : LacksSome a old mid) (second : LacksSome b mid new)
      (journals : AreJournalsGone v holders keeps mid) (gone : AreListedGone v keeps found new) where
    by_list : (server : ℕ) (kind : Kind) → keep_at server ≡ false → IsBesideKind kind → IsKind kind → (kind ≡ Ecj → Contains holders server → ⊥) → new (place_of v server kind false) ≡ None
    by_list server kind other beside is none = by_old (old (place_of v server kind false)) refl
      where
        by_old : (o : Option File) → old (place_of v server kind false) ≡ o → new (place_of v server kind false) ≡ None
        by_old None e = stays_gone (place_of v server kind false) second (stays_gone (place_of v server kind false) first e)
        by_old (Some x) e = gone (file_at v server kind) (all server kind is none (ap is_some e)) (refl, refl, beside) other

    pub strays_gone : AreStraysGone v keeps new
    strays_gone server Dat is other = absurd is
    strays_gone server Idx is other = absurd is
    strays_gone server Cpd is other = absurd is
    strays_gone server Cpx is other = absurd is
    strays_gone server (Shard i) is other = absurd is
    strays_gone server Ecx is other = by_list server Ecx other tt tt (λ e at. cc)
    strays_gone server Ecj is other = ⊎_elim
        (λ has. stays_gone (place_of v server Ecj false) second (journals server has other))
        (λ none. by_list server Ecj other tt tt (λ e. none))
        (contains_cases holders server)
    strays_gone server Vif is other = by_list server Vif other tt tt (λ e at. cc)
