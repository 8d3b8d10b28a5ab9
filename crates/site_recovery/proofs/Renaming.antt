-- What a rename leaves, and the two renames of what a vacuum made.
use Rattle.std.proofs.Common.{◌≡◌, ◌≢◌, ◌⊎◌, inl, inr, ⊎_elim, ℕ, ◌<◌, false, Option, Some, None, is_some, List, IsTrue, refl, sym, ◌∙◌, ap, subst}
use Rattle.std.specs.Prelude.{unwrap_or, []}
use Rattle.std.proofs.lemmas.Bool.{cases_eq}
use Rattle.site_model.specs.Disk.{Place, Files, Image, IsFirm, LeftOfAll, IsRenamed, Renames, Disk, IsSettled}
use Rattle.site_model.specs.Disk as disk
use Rattle.site_model.specs.Leaves.{Leaves, starts, weaker, by_rename, place_cases}
use Rattle.site_model.specs.Touches.{firm_left, touches_rename, touches_more}
use Rattle.file_names.specs.declared.Kind.{Kind}
use Rattle.file_names.specs.declared.Kind.TheVariants.{Dat, Idx, Cpd, Cpx}
use Rattle.image_meaning.specs.Files.{VolumeFiles, contents, files_of, stands, lowest, index_bytes, dat_bytes}
use Rattle.file_names.specs.Names.{place_of, IsPlainKind}
use Rattle.image_meaning.specs.Plain.{index_home}
use Rattle.image_meaning.specs.Meaning.{max_volumes}
use Rattle.image_meaning.specs.Laws.PlainLoss.{home_has}
use Rattle.image_meaning.specs.Laws.Vacuum.{HasSameViews, thinned_by, same_four, dat_moved, index_moved}
use Rattle.dat_volume.specs.Opening.{KeepsLengths}
use Rattle.site_recovery.specs.Steps.{KeepsMeaning}
use Rattle.site_recovery.specs.Laws.Step.{keeps_none, keeps_plain, reduced_thinned, kinds_apart}
use Rattle.site_recovery.specs.Homes.{IsTestedPlain}
use Rattle.site_recovery.specs.Changes.{IsOf, Settles, KeepsViews, KeepsOthers, HasNamedDat}
use Rattle.site_recovery.specs.Renaming.{RenamesKind, IsRenamedKind}
use Rattle.site_recovery.proofs.Places.{plain_kind}
use Rattle.site_recovery.proofs.Taking.{settles_on}

-- ---- one rename

-- the file of one place stands at the other
pub record IsMoved (from to : Place) (old new : Image) : Type 0 where
  pub there : new to ≡ old from
  pub gone : new from ≡ None
  pub others : (k : Place) → k ≢ from → k ≢ to → new k ≡ old k

-- a stop within the rename of a firm file leaves each file as it was, or that one moved
rename_leaves : {from to : Place} {old new : Disk} → from ≢ to → IsSettled old.files → Renames from to old new
    → Leaves old new (λ image said. (image ≡ contents old.files) ⊎ IsMoved from to (contents old.files) image)
rename_leaves {from} {to} {old} apart settled did =
    by_rename (starts old (λ image left. inl (as_before image left))) did (λ image left. ⊎_elim
    (λ before. inl (as_before image before))
    (λ after. inr (record {
      there = firm_left (old.files from) (image to) (settled from) after.1;
      gone = after.2 apart;
      others = λ k a b. firm_left (old.files k) (image k) (settled k) (after.0 k a b);
    }))
    left)
  where
    as_before : (image : Image) → LeftOfAll old.files image → image ≡ contents old.files
    as_before image left = λ i k. firm_left (old.files k) (image k) (settled k) (left k) i

-- if each such image keeps the meaning
pub settles_renames : {from to : Place} {old new : Disk} {touched : Place → Type 0} → from ≢ to → touched from → touched to
    → ((image : Image) → IsMoved from to (contents old.files) image → KeepsMeaning (contents old.files) image) → Renames from to old new → Settles touched old new
settles_renames {old = old} {touched = touched} apart is_from is_to keeps did = record {
  touches = touches_more (λ k is. ⊎_elim (λ e. subst touched (sym e) is_from) (λ e. subst touched (sym e) is_to) is) (touches_rename did);
  leaves = λ settled. weaker (rename_leaves apart settled did) (λ image said left. ⊎_elim
      (λ same. subst (λ (i : Image). KeepsMeaning (contents old.files) i) (sym same) (keeps_none (contents old.files)))
      (keeps image)
      left);
}

module _ {from to : Place} {old new : Disk} (apart : from ≢ to) (did : Renames from to old new) (done : IsRenamed from to old.files new.files) where
  pub renamed_moved : IsMoved from to (contents old.files) (contents new.files)
  renamed_moved = record {
    there = ap disk.standing done.there;
    gone = ap disk.standing (done.gone apart);
    others = λ k a b. ap disk.standing (did.others k a b);
  }

  pub renamed_others : (k : Place) → k ≢ to → (new.files k ≡ old.files k) ⊎ (new.files k ≡ None)
  renamed_others k not_to = elim (place_cases k from) [
    | inl same ↦ inr (subst (λ p. new.files p ≡ None) (sym same) (done.gone apart))
    | inr other ↦ inl (did.others k other not_to)
  ]

  pub renamed_settled : IsSettled old.files → IsSettled new.files
  renamed_settled settled k = elim (place_cases k from) [
    | inl same ↦ subst (λ p. IsFirm (new.files p)) (sym same) (subst IsFirm (sym (done.gone apart)) tt)
    | inr not_from ↦ elim (place_cases k to) [
      | inl same ↦ subst (λ p. IsFirm (new.files p)) (sym same) (subst IsFirm (sym done.there) (settled from))
      | inr not_to ↦ subst IsFirm (sym (did.others k not_from not_to)) (settled k)
    ]
  ]

-- ---- the same views at all servers

module _ (files left : VolumeFiles) (same : (server : ℕ) → HasSameViews files left server) where
  -- the same lowest index holder
  pub same_home : index_home left ≡ index_home files
  same_home = λ i. lowest (λ s. is_some ((same s).index i))

  same_tested : (home : ℕ) (lengths : ℕ × ℕ) → IsTestedPlain files home lengths → IsTestedPlain left home lengths
  same_tested home lengths tested =
      let dat : dat_bytes left home ≡ dat_bytes files home = ap (λ (o : Option (List ℕ)). unwrap_or o []) (same home).dat in
      let idx : index_bytes left home ≡ index_bytes files home = ap (λ (o : Option (List ℕ)). unwrap_or o []) (same home).index in
      record {
        at = same_home ∙ tested.at;
        keeps = subst (λ d. KeepsLengths d (index_bytes left home) lengths) (sym dat) (subst (λ i. KeepsLengths (dat_bytes files home) i lengths) (sym idx) tested.keeps);
      }

-- what was tested holds of the files that are named
pub named_tested : (v home : ℕ) (lengths : ℕ × ℕ) (old new : Files) → KeepsViews v old new → IsTestedPlain (files_of (contents old) v) home lengths → IsTestedPlain (files_of (contents new) v) home lengths
named_tested v home lengths old new keeps tested = same_tested (files_of (contents old) v) (files_of (contents new) v) keeps.views home lengths tested

-- one after the other
pub keeps_views_on : {v : ℕ} {old mid new : Files} → KeepsViews v old mid → KeepsViews v mid new → KeepsViews v old new
keeps_views_on first second = record {
  views = λ s. record { index = (second.views s).index ∙ (first.views s).index; dat = (second.views s).dat ∙ (first.views s).dat };
  settled = λ settled. second.settled (first.settled settled);
}

-- ---- the renames of what a vacuum made

pub others_same : (v home : ℕ) {old new : Disk} → new ≡ old → KeepsOthers v home old.files new.files
others_same v home same k dat idx = inl (ap (λ (d : Disk). d.files k) same)

module _ (v home : ℕ) (h : v < max_volumes) where
  abbrev at : Kind → Place
  at kind = place_of v home kind false

  pub cpd_apart : at Cpd ≢ at Dat
  cpd_apart = kinds_apart v home home Cpd Dat h tt tt (λ e. cc)

  pub cpx_apart : at Cpx ≢ at Idx
  cpx_apart = kinds_apart v home home Cpx Idx h tt tt (λ e. cc)

  module _ (old new : Image) where
    -- a file of another kind or at another server stays
    stays_at : (a b kind : Kind) → IsPlainKind a → IsPlainKind b → IsPlainKind kind → kind ≢ a → kind ≢ b → IsMoved (at a) (at b) old new → (s : ℕ) → new (place_of v s kind false) ≡ old (place_of v s kind false)
    stays_at a b kind is_a is_b is not_a not_b moved s =
        moved.others (place_of v s kind false) (kinds_apart v s home kind a h (plain_kind kind is) (plain_kind a is_a) not_a) (kinds_apart v s home kind b h (plain_kind kind is) (plain_kind b is_b) not_b)

    elsewhere : (a b kind : Kind) → IsMoved (at a) (at b) old new → (s : ℕ) → s ≢ home → new (place_of v s kind false) ≡ old (place_of v s kind false)
    elsewhere a b kind moved s other = moved.others (place_of v s kind false) (λ e. other (ap (λ (q : Place). q.0) e)) (λ e. other (ap (λ (q : Place). q.0) e))

    four_elsewhere : (a b : Kind) → IsMoved (at a) (at b) old new → (s : ℕ) → s ≢ home → HasSameViews (files_of old v) (files_of new v) s
    four_elsewhere a b moved s other = same_four (files_of old v) (files_of new v) s (record {
      dat = elsewhere a b Dat moved s other;
      idx = elsewhere a b Idx moved s other;
      cpd = elsewhere a b Cpd moved s other;
      cpx = elsewhere a b Cpx moved s other;
    })

    -- first the data file
    pub dat_views : IsTrue (stands (files_of old v) home Cpx) → IsTrue (stands (files_of old v) home Cpd) → IsMoved (at Cpd) (at Dat) old new → (s : ℕ) → HasSameViews (files_of old v) (files_of new v) s
    dat_views index made moved s = elim (cases_eq s home) [
      | inl same ↦ subst (λ t. HasSameViews (files_of old v) (files_of new v) t) (sym same)
          (dat_moved (files_of old v) (files_of new v) home index made moved.there moved.gone (stays_at Cpd Dat Idx tt tt tt (λ e. cc) (λ e. cc) moved home) (stays_at Cpd Dat Cpx tt tt tt (λ e. cc) (λ e. cc) moved home))
      | inr other ↦ four_elsewhere Cpd Dat moved s other
    ]

    -- then the index
    pub index_views : IsTrue (stands (files_of old v) home Cpx) → stands (files_of old v) home Cpd ≡ false → IsMoved (at Cpx) (at Idx) old new → (s : ℕ) → HasSameViews (files_of old v) (files_of new v) s
    index_views index none moved s = elim (cases_eq s home) [
      | inl same ↦ subst (λ t. HasSameViews (files_of old v) (files_of new v) t) (sym same)
          (index_moved (files_of old v) (files_of new v) home index none moved.there moved.gone (stays_at Cpx Idx Dat tt tt tt (λ e. cc) (λ e. cc) moved home))
      | inr other ↦ four_elsewhere Cpx Idx moved s other
    ]

    -- the meaning stays with the views
    pub keeps_views : (a b : Kind) → index_home (files_of old v) ≡ Some home → IsMoved (at a) (at b) old new → ((s : ℕ) → HasSameViews (files_of old v) (files_of new v) s) → KeepsMeaning old new
    keeps_views a b is moved views =
        let has = home_has (files_of old v) home is in
        keeps_plain old new v home h is (λ k none. moved.others k (none home a) (none home b))
        (reduced_thinned (files_of old v) (files_of new v) home (thinned_by (files_of old v) (files_of new v) (λ s. inl (views s))) (has.0, ap is_some (views home).index ∙ has.1))

  -- The data file gets its name, after a look at the site.
  module _ (start look new : Disk) (same : look ≡ start) (is : index_home (files_of (contents start.files) v) ≡ Some home) (index : IsTrue (stands (files_of (contents start.files) v) home Cpx))
      (made : IsTrue (stands (files_of (contents start.files) v) home Cpd)) (did : RenamesKind v home Cpd Dat look new) where
    from_start : RenamesKind v home Cpd Dat start new
    from_start = subst (λ (d : Disk). RenamesKind v home Cpd Dat d new) same did

    pub names_dat : Settles (IsOf v false) start new
    names_dat = settles_renames cpd_apart (home, Cpd, tt, refl) (home, Dat, tt, refl)
        (λ image moved. keeps_views (contents start.files) image Cpd Dat is moved (dat_views (contents start.files) image index made moved)) from_start

    pub has_named_dat : IsRenamedKind v home Cpd Dat look new → HasNamedDat v home start.files new.files
    has_named_dat done =
        let renamed = subst (λ (d : Disk). IsRenamedKind v home Cpd Dat d new) same done in
        let moved = renamed_moved cpd_apart from_start renamed in
        record {
          keeps = record { views = dat_views (contents start.files) (contents new.files) index made moved; settled = renamed_settled cpd_apart from_start renamed };
          index = ap is_some (stays_at (contents start.files) (contents new.files) Cpd Dat Cpx tt tt tt (λ e. cc) (λ e. cc) moved home) ∙ index;
          named = ap is_some moved.gone;
        }

    pub dat_others : IsRenamedKind v home Cpd Dat look new → KeepsOthers v home start.files new.files
    dat_others done k dat idx = renamed_others cpd_apart from_start (subst (λ (d : Disk). IsRenamedKind v home Cpd Dat d new) same done) k dat

  -- And then the index gets its own.
  module _ (start look mid new : Disk) (same : look ≡ start) (is : index_home (files_of (contents start.files) v) ≡ Some home) (first : HasNamedDat v home look.files mid.files)
      (did : RenamesKind v home Cpx Idx mid new) where
    named : HasNamedDat v home start.files mid.files
    named = subst (λ (d : Disk). HasNamedDat v home d.files mid.files) same first

    mid_home : index_home (files_of (contents mid.files) v) ≡ Some home
    mid_home = same_home (files_of (contents start.files) v) (files_of (contents mid.files) v) named.keeps.views ∙ is

    pub names_index : Settles (IsOf v false) look mid → Settles (IsOf v false) start new
    names_index names =
        settles_on named.keeps.settled (subst (λ (d : Disk). Settles (IsOf v false) d mid) same names)
        (settles_renames cpx_apart (home, Cpx, tt, refl) (home, Idx, tt, refl)
        (λ image moved. keeps_views (contents mid.files) image Cpx Idx mid_home moved (index_views (contents mid.files) image named.index named.named moved)) did)

    module _ (done : IsRenamedKind v home Cpx Idx mid new) where
      pub index_keeps : KeepsViews v start.files new.files
      index_keeps = keeps_views_on named.keeps (record {
        views = index_views (contents mid.files) (contents new.files) named.index named.named (renamed_moved cpx_apart did done);
        settled = renamed_settled cpx_apart did done;
      })

      pub index_others : KeepsOthers v home look.files mid.files → KeepsOthers v home start.files new.files
      index_others before k dat idx = ⊎_elim
          (λ kept. subst (λ (d : Disk). (new.files k ≡ d.files k) ⊎ (new.files k ≡ None)) same (⊎_elim (λ was. inl (kept ∙ was)) (λ none. inr (kept ∙ none)) (before k dat idx)))
          (λ none. inr none)
          (renamed_others cpx_apart did done k idx)

      pub index_unmade : stands (files_of (contents new.files) v) home Cpx ≡ false
      index_unmade = ap is_some (renamed_moved cpx_apart did done).gone
