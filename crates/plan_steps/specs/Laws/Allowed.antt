-- An allowed change keeps one of the two forms, and where no index stands it takes no last copy of a shard.
use Rattle.std.proofs.Common.{true, ◌≡◌, ◌≢◌, ◌⊎◌, inl, inr, ℕ, ◌<◌, List, [], Option, Some, None, is_some, IsTrue, refl, sym, ◌∙◌, ap, subst}
use Rattle.std.specs.Prelude.{unwrap_or, option_and_then, IsSome, slice_get}
use Rattle.std.proofs.lemmas.Bool.{cases_eq}
use mathlib.Core.Bool.{true≢false}
use Rattle.file_names.specs.declared.Kind.{Kind}
use Rattle.file_names.specs.declared.Kind.TheVariants.{Dat, Idx, Cpd, Cpx, Shard, Ecx, Ecj, Vif}
use Rattle.file_names.specs.Names.{max_shards}
use Rattle.volume_forms.specs.Forms.{has_super}
use Rattle.stripe_layout.specs.Information.{info_of}
use Rattle.image_meaning.specs.Files.{VolumeFiles, index_at, dat_at, bytes_at}
use Rattle.site_model.specs.Counts.{max_servers}
use Rattle.image_meaning.specs.Plain.{index_home, kept_records, FollowsRecords}
use Rattle.image_meaning.specs.Coded.{info_at}
use Rattle.image_meaning.specs.Sound.{Stands}
use Rattle.image_meaning.specs.Shards.{KeepsCopies}
use Rattle.image_meaning.specs.Parts.{Parts}
use Rattle.image_meaning.specs.HeldParts.{IsBeside}
use Rattle.image_meaning.specs.Laws.Views.{index_named, dat_named}
use Rattle.plan_steps.specs.Kept.{IsKeptCoded, IsKeptPlain, Forms, HasAForm}
use Rattle.plan_steps.specs.Laws.Kept.{beside_same, none_of_none}
use Rattle.plan_steps.specs.Changes.{IsChanged, TakesShard}
use Rattle.plan_steps.specs.Laws.Change.{plain_changed, coded_free, coded_new, coded_gone, index_gone, index_new, coded_by, same_index, copies_else, copies_new, copies_gone}
use Rattle.plan_steps.specs.Allowed.{HasSomeIndex, IsBare, IsJournalOf, IsAllowed}
use Rattle.plan_steps.specs.Runs.{MayChange}

some_none : {A : Type 0} (o : Option A) → IsSome o → o ≡ None → ⊥
some_none o some none = true≢false (sym some ∙ ap is_some none)

-- ---- a file of the parts comes beside shards

module _ (t : Parts) (files left : VolumeFiles) (server : ℕ) where
  -- the text, the index and the journal are each right
  beside_of : info_at left server ≡ Some t.info → left server Ecx ≡ Some t.index → IsJournalOf t.deleted (bytes_at left server Ecj) → IsBeside t left server
  beside_of text index journal = record { text = text; index = index; journal = journal.0; rest = journal.1 }

  -- one that is as it was
  same_text : left server Vif ≡ files server Vif → IsBeside t files server → info_at left server ≡ Some t.info
  same_text same was = ap (option_and_then info_of) same ∙ was.text

  same_journal : left server Ecj ≡ files server Ecj → IsBeside t files server → IsJournalOf t.deleted (bytes_at left server Ecj)
  same_journal same was = subst (λ (o : Option (List ℕ)). IsJournalOf t.deleted (unwrap_or o [])) (sym same) (was.journal, was.rest)

  -- one of the three is the parts' now, and the others are as they were
  put_beside : (kind : Kind) (now : Option (List ℕ)) → IsChanged files left server kind now → (Idx ≢ kind) × (Cpx ≢ kind) → ((i : ℕ) → Shard i ≢ kind) → (IsBeside t files server → IsBeside t left server) → IsKeptCoded t files → IsKeptCoded t left
  put_beside kind now changed no_index no_shard right kept =
      coded_by files left t (same_index files left server kind now changed no_index) (copies_else files left server kind now changed no_shard) (record { each = held }) kept
    where
      shard : (s i : ℕ) → left s (Shard i) ≡ files s (Shard i)
      shard s i = changed.others s (Shard i) (λ at same. no_shard i same)

      held : (s i : ℕ) → i < max_shards → Stands left s (Shard i) → IsBeside t left s × (slice_get t.shards i ≡ left s (Shard i))
      held s i h st =
          let was = kept.holds.each s i h (st.0, ap is_some (sym (shard s i)) ∙ st.1) in
          (by_server (cases_eq s server) was.0, was.1 ∙ sym (shard s i))
        where
          by_server : (s ≡ server) ⊎ (s ≢ server) → IsBeside t files s → IsBeside t left s
          by_server (inl at) was = subst (IsBeside t left) (sym at) (right (subst (IsBeside t files) at was))
          by_server (inr other) was = beside_same t files left s (changed.others s Vif (λ at same. other at)) (changed.others s Ecx (λ at same. other at)) (changed.others s Ecj (λ at same. other at)) was

-- ---- all of them

allowed_plain : (f : Forms) (files left : VolumeFiles) (server : ℕ) (kind : Kind) (now : Option (List ℕ)) → IsAllowed f files server kind now → IsChanged files left server kind now → f.changes ≡ true → IsKeptPlain f.kept files → HasAForm f left
allowed_plain f files left server Idx (Some idx) allowed changed changes kept = absurd (some_none (index_home files) kept.some_index allowed.no_index)
allowed_plain f files left server Idx None allowed changed changes kept = inr (index_gone files left server None changed f.parts kept.none_made refl allowed.only allowed.enough allowed.holds)
allowed_plain f files left server Dat now allowed changed changes kept = inl (changes, plain_changed files left server Dat now changed f.kept ((λ e. cc), (λ e. cc)) (λ e. cc) (λ has same. allowed has) kept)
allowed_plain f files left server Cpd now allowed changed changes kept = absurd allowed
allowed_plain f files left server Cpx now allowed changed changes kept = absurd allowed
allowed_plain f files left server (Shard i) now allowed changed changes kept = inl (changes, plain_changed files left server (Shard i) now changed f.kept ((λ e. cc), (λ e. cc)) (λ e. cc) (λ has e. cc) kept)
allowed_plain f files left server Ecx now allowed changed changes kept = inl (changes, plain_changed files left server Ecx now changed f.kept ((λ e. cc), (λ e. cc)) (λ e. cc) (λ has e. cc) kept)
allowed_plain f files left server Ecj now allowed changed changes kept = inl (changes, plain_changed files left server Ecj now changed f.kept ((λ e. cc), (λ e. cc)) (λ e. cc) (λ has e. cc) kept)
allowed_plain f files left server Vif now allowed changed changes kept = inl (changes, plain_changed files left server Vif now changed f.kept ((λ e. cc), (λ e. cc)) (λ e. cc) (λ has e. cc) kept)

-- where no index stands, what is allowed where one stands isn't meant
not_plain : {A : Type 0} (files : VolumeFiles) → index_home files ≡ None → HasSomeIndex files ⊎ A → A
not_plain files none (inl some) = absurd (some_none (index_home files) some none)
not_plain files none (inr a) = a

-- a file beside shards goes where there is none
bare_gone : (t : Parts) (files left : VolumeFiles) (server : ℕ) (kind : Kind) → IsChanged files left server kind None → (Idx ≢ kind) × (Cpx ≢ kind) → ((i : ℕ) → Shard i ≢ kind) → IsBare files server → IsKeptCoded t files → IsKeptCoded t left
bare_gone t files left server kind changed no_index no_shard bare kept =
    coded_free files left server kind None changed t no_index no_shard (λ holder. absurd (not_plain files kept.form.no_index bare holder)) kept

allowed_coded : (f : Forms) (files left : VolumeFiles) (server : ℕ) (kind : Kind) (now : Option (List ℕ)) → server < max_servers → IsAllowed f files server kind now → IsChanged files left server kind now → IsKeptCoded f.parts files → HasAForm f left
allowed_coded f files left server Idx (Some idx) below allowed changed kept = inl (
  allowed.changes,
  index_new files left server (Some idx) changed f.kept below refl allowed.no_index (record {
    has = (λ k. kept_records (unwrap_or (dat k) []) (unwrap_or (index k) [])) ∙ allowed.has;
    follows = subst (λ (b : Option (List ℕ) × Option (List ℕ)). FollowsRecords (unwrap_or b.0 []) (unwrap_or b.1 [])) (λ k. (sym dat k, sym index k)) allowed.follows;
    super = subst (λ (o : Option (List ℕ)). IsTrue (has_super (unwrap_or o []))) (sym dat) allowed.super;
  }),
)
  where
    none : left server Cpx ≡ None
    none = changed.others server Cpx (λ at same. absurd cc) ∙ none_of_none files allowed.no_index server below

    index : index_at left server ≡ Some idx
    index = index_named left server (ap is_some none) ∙ changed.here

    dat : dat_at left server ≡ files server Dat
    dat = dat_named left server (ap is_some none) ∙ changed.others server Dat (λ at same. absurd cc)
allowed_coded f files left server Idx None below allowed changed kept = inr (index_gone files left server None changed f.parts (none_of_none files kept.form.no_index) refl allowed.only allowed.enough allowed.holds)
allowed_coded f files left server Dat now below allowed changed kept =
    inr (coded_free files left server Dat now changed f.parts ((λ e. cc), (λ e. cc)) (λ i e. cc) (λ holder. ((λ e. cc), (λ e. cc), (λ e. cc))) kept)
allowed_coded f files left server Cpd now below allowed changed kept = absurd allowed
allowed_coded f files left server Cpx now below allowed changed kept = absurd allowed
allowed_coded f files left server (Shard i) (Some bytes) below allowed changed kept =
    inr (coded_new files left server i (Some bytes) changed f.parts below (not_plain files kept.form.no_index allowed.beside) allowed.shard refl kept)
allowed_coded f files left server (Shard i) None below allowed changed kept =
    let elsewhere = not_plain files kept.form.no_index allowed in
    inr (coded_gone files left server i None changed f.parts elsewhere.0 refl elsewhere.1 elsewhere.2 kept)
allowed_coded f files left server Ecx (Some bytes) below allowed changed kept = inr (put_beside f.parts files left server Ecx (Some bytes) changed ((λ e. cc), (λ e. cc)) (λ i e. cc) (λ was.
    beside_of f.parts files left server (same_text f.parts files left server (changed.others server Vif (λ at same. absurd cc)) was)
    (changed.here ∙ ap Some allowed) (same_journal f.parts files left server (changed.others server Ecj (λ at same. absurd cc)) was)) kept)
allowed_coded f files left server Ecx None below allowed changed kept = inr (bare_gone f.parts files left server Ecx changed ((λ e. cc), (λ e. cc)) (λ i e. cc) allowed kept)
allowed_coded f files left server Ecj (Some bytes) below allowed changed kept = inr (put_beside f.parts files left server Ecj (Some bytes) changed ((λ e. cc), (λ e. cc)) (λ i e. cc) (λ was.
    beside_of f.parts files left server (same_text f.parts files left server (changed.others server Vif (λ at same. absurd cc)) was)
    (changed.others server Ecx (λ at same. absurd cc) ∙ was.index) (subst (λ (o : Option (List ℕ)). IsJournalOf f.parts.deleted (unwrap_or o [])) (sym changed.here) allowed)) kept)
allowed_coded f files left server Ecj None below allowed changed kept = inr (bare_gone f.parts files left server Ecj changed ((λ e. cc), (λ e. cc)) (λ i e. cc) allowed kept)
allowed_coded f files left server Vif (Some bytes) below allowed changed kept = inr (put_beside f.parts files left server Vif (Some bytes) changed ((λ e. cc), (λ e. cc)) (λ i e. cc) (λ was.
    beside_of f.parts files left server (ap (option_and_then info_of) changed.here ∙ allowed)
    (changed.others server Ecx (λ at same. absurd cc) ∙ was.index) (same_journal f.parts files left server (changed.others server Ecj (λ at same. absurd cc)) was)) kept)
allowed_coded f files left server Vif None below allowed changed kept = inr (bare_gone f.parts files left server Vif changed ((λ e. cc), (λ e. cc)) (λ i e. cc) allowed kept)

-- What is allowed may be changed.
pub allowed_may : (f : Forms) (files : VolumeFiles) (server : ℕ) (kind : Kind) (now : Option (List ℕ)) → server < max_servers → HasAForm f files → IsAllowed f files server kind now → MayChange f files server kind now
allowed_may f files server kind now below (inl (changes, kept)) allowed left changed = allowed_plain f files left server kind now allowed changed changes kept
allowed_may f files server kind now below (inr kept) allowed left changed = allowed_coded f files left server kind now below allowed changed kept

-- ---- copies

-- Where a shard goes only while no index stands, no last copy goes.
pub allowed_copies : (f : Forms) (files left : VolumeFiles) (server : ℕ) (kind : Kind) (now : Option (List ℕ)) → server < max_servers → IsAllowed f files server kind now → IsChanged files left server kind now
    → (TakesShard kind now → index_home files ≡ None) → KeepsCopies files left
allowed_copies f files left server Dat now below allowed changed takes = copies_else files left server Dat now changed (λ i e. cc)
allowed_copies f files left server Idx now below allowed changed takes = copies_else files left server Idx now changed (λ i e. cc)
allowed_copies f files left server Cpd now below allowed changed takes = absurd allowed
allowed_copies f files left server Cpx now below allowed changed takes = absurd allowed
allowed_copies f files left server (Shard i) (Some bytes) below allowed changed takes = copies_new files left server i (Some bytes) changed below refl
allowed_copies f files left server (Shard i) None below allowed changed takes =
    let elsewhere = not_plain files (takes (i, refl, refl)) allowed in
    copies_gone files left server i None changed elsewhere.0 elsewhere.1 elsewhere.2
allowed_copies f files left server Ecx now below allowed changed takes = copies_else files left server Ecx now changed (λ i e. cc)
allowed_copies f files left server Ecj now below allowed changed takes = copies_else files left server Ecj now changed (λ i e. cc)
allowed_copies f files left server Vif now below allowed changed takes = copies_else files left server Vif now changed (λ i e. cc)
