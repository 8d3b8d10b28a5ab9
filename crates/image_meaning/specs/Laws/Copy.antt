-- What is left of a volume when copies of its files are taken away, and which files are no volume's but one's.
-- What nothing cites yet is for the recovery of coded volumes, to come.
use Rattle.std.proofs.Common.{◌≡◌, ◌≢◌, ◌⊎◌, inl, inr, ⊎_elim, ℕ, ◌<◌, ◌≤◌, Bool, true, false, List, [], length, Option, Some, None, is_some, IsTrue, refl, sym, ◌∙◌, ap, subst, arith}
use Rattle.std.specs.Prelude.{nat_lt, unwrap_or, IsSome, decimal, if◌then◌else◌}
use mathlib.Core.Bool.{true≢false}
use Rattle.std.proofs.lemmas.Bool.{ltb-true}
use Rattle.std.proofs.lemmas.Fmt.{decimal_injective}
use Rattle.site_model.specs.Standing.{lose}
use Rattle.site_model.specs.Disk.{Place, Image}
use Rattle.site_model.specs.Leaves.{place_cases}
use Rattle.world_model.specs.World.{Volume}
use Rattle.file_names.specs.declared.Kind.{Kind}
use Rattle.file_names.specs.declared.Kind.TheVariants.{Dat, Idx, Cpd, Cpx, Shard, Ecx, Ecj, Vif}
use Rattle.file_names.specs.declared.FileName.{FileName}
use Rattle.file_names.specs.Names.{name_bytes, place_of}
use Rattle.file_names.specs.Laws.Name.{after_dot, name_in_parts, no_dot, parts_apart}
use Rattle.volume_forms.specs.Forms.{has_super}
use Rattle.needle_record.specs.Records.{fold_records}
use Rattle.image_meaning.specs.Files.{VolumeFiles, files_of, lose_files, has_index, index_at, dat_at, index_bytes, dat_bytes, SameVolume}
use Rattle.image_meaning.specs.Plain.{kept_records, kept_at, index_home, FollowsRecords}
use Rattle.image_meaning.specs.Meaning.{volume_of, max_volumes}
use Rattle.image_meaning.specs.Sound.{IsPlain, HasIndex, HasOneHome, IsSoundVolume}
use Rattle.image_meaning.specs.Ends.{SurvivesIn, IsSurvivable, MayHave}
use Rattle.image_meaning.specs.Laws.Servers.{lowest-exists}
use Rattle.image_meaning.specs.Laws.PlainLoss.{plain_home, plain_means, is_plain, home_has, index_stood, same_views}
use Rattle.image_meaning.specs.Laws.LossLaw.{coded_form}
use Rattle.image_meaning.specs.Laws.Views.{index_at-lost}
use Rattle.image_meaning.specs.Laws.Survivable.{sound_plain, plain_rules, not_both}

-- ---- fewer copies of a plain volume

-- Each index is left as it was or taken away, and the data file of each that is left is as it was. What a vacuum made may be renamed.
pub record IsThinned (files left : VolumeFiles) : Type 0 where
  pub each : (server : ℕ) → (index_at left server ≡ index_at files server) ⊎ (index_at left server ≡ None)
  pub beside : (server : ℕ) → HasIndex left server → dat_at left server ≡ dat_at files server

module _ (files left : VolumeFiles) (thinned : IsThinned files left) where
  -- an index that is left is as it was
  pub thinned_same : (server : ℕ) → IsTrue (has_index left server) → index_at left server ≡ index_at files server
  thinned_same server e = ⊎_elim (λ same. same) (λ gone. absurd (true≢false (sym e ∙ ap is_some gone))) (thinned.each server)

  pub thinned_stood : (server : ℕ) → HasIndex left server → HasIndex files server
  thinned_stood server h = (h.0, ap is_some (sym (thinned_same server h.1)) ∙ h.1)

  same_dat : (server : ℕ) → HasIndex left server → dat_bytes left server ≡ dat_bytes files server
  same_dat server has = ap (λ (o : Option (List ℕ)). unwrap_or o []) (thinned.beside server has)

  same_index : (server : ℕ) → HasIndex left server → index_bytes left server ≡ index_bytes files server
  same_index server has = ap (λ (o : Option (List ℕ)). unwrap_or o []) (thinned_same server has.1)

  pub thinned_kept : (server : ℕ) → HasIndex left server → kept_at left server ≡ kept_at files server
  thinned_kept server has = let dat = same_dat server has in let idx = same_index server has in λ i. kept_records (dat i) (idx i)

  pub thinned_was_plain : (home : ℕ) → index_home left ≡ Some home → IsPlain files
  thinned_was_plain home e =
      let has = thinned_stood home (home_has left home e) in
      let was = lowest-exists (has_index files) home has.0 has.1 in
      is_plain files was.0 was.1

  -- with an index left, the volume means what it meant
  pub thinned_means : HasOneHome files → (home : ℕ) → index_home left ≡ Some home → volume_of left ≡ volume_of files
  thinned_means one home e =
      let has = home_has left home e in
      let was = plain_home files (thinned_was_plain home e) in
      plain_means left home e ∙ ap (λ ps. Some (fold_records ps)) (thinned_kept home has ∙ one.same home was.0 (thinned_stood home has) (home_has files was.0 was.1)) ∙ sym (plain_means files was.0 was.1)

  -- and is sound if it was
  pub thinned_sound : (home : ℕ) → index_home left ≡ Some home → IsSoundVolume files → IsSoundVolume left
  thinned_sound home e sound =
      let rules = plain_rules files (thinned_was_plain home e) sound in
      sound_plain left (is_plain left home e) (record {
        entries_follow = record {
          all_but_one = λ server has.
              subst (λ d. FollowsRecords d (index_bytes left server)) (sym (same_dat server has))
              (subst (FollowsRecords (dat_bytes files server)) (sym (same_index server has)) (rules.entries_follow.all_but_one server (thinned_stood server has)));
        };
        one_home = record { same = λ s t h k. thinned_kept s h ∙ rules.one_home.same s t (thinned_stood s h) (thinned_stood t k) ∙ sym (thinned_kept t k) };
        super = record { there = λ server has. ap has_super (same_dat server has) ∙ rules.super.there server (thinned_stood server has) };
      })

  -- what it survives now it survived before
  pub thinned_survives : (home : ℕ) → index_home left ≡ Some home → (lost : ℕ → Bool) → SurvivesIn left (lose_files left lost) → SurvivesIn files (lose_files files lost)
  thinned_survives home e lost survives = record {
    index = λ p. by_home (index_home (lose_files left lost)) refl (survives.index (is_plain left home e));
    shards = λ c. absurd (not_both files (thinned_was_plain home e) c);
  }
    where
      -- the server isn't lost, so it has the index that it had
      kept_index : (server : ℕ) → HasIndex (lose_files left lost) server → HasIndex (lose_files files lost) server
      kept_index server has = (has.0, ap is_some (index_at-lost files lost server) ∙ by_lost (index_at left server) (index_at files server) (lost server) (ap is_some (sym (index_at-lost left lost server)) ∙ has.1) (thinned_stood server (index_stood left lost server has)).1)
        where
          by_lost : (o p : Option (List ℕ)) (b : Bool) → is_some (if b then None else o) ≡ true → is_some p ≡ true → is_some (if b then None else p) ≡ true
          by_lost o p true e k = absurd (true≢false (sym e))
          by_lost o p false e k = k

      by_home : (o : Option ℕ) → index_home (lose_files left lost) ≡ o → IsSome o → IsSome (index_home (lose_files files lost))
      by_home None p some = absurd (true≢false (sym some))
      by_home (Some s) p some =
          let has = kept_index s (home_has (lose_files left lost) s p) in
          ap is_some (lowest-exists (has_index (lose_files files lost)) s has.0 has.1).1

-- ---- what losses leave of fewer copies

-- What each loss leaves that the volume survives now, this loss left before, which it survived too, or it is what the volume meant with no loss.
pub record HasFewerCopies (files left : VolumeFiles) : Type 0 where
  pub survives : (lost : ℕ → Bool) → SurvivesIn left (lose_files left lost) → SurvivesIn files (lose_files files lost)
  pub leaves : (lost : ℕ → Bool) → SurvivesIn left (lose_files left lost)
      → (volume_of (lose_files left lost) ≡ volume_of (lose_files files lost)) ⊎ (volume_of (lose_files left lost) ≡ volume_of files)

-- no server
abbrev pub no_loss : ℕ → Bool
no_loss server = false

-- a volume survives no loss
pub survives_none : (files : VolumeFiles) → SurvivesIn files (lose_files files no_loss)
survives_none files = record {
  index = λ p. let home = plain_home files p in ap is_some home.1;
  shards = λ c. (coded_form files c).enough;
}

-- the same files
pub same_copies : (files left : VolumeFiles) → left ≡ files → HasFewerCopies files left
same_copies files left same = subst (λ f. HasFewerCopies files f) (sym same) (record { survives = λ lost h. h; leaves = λ lost h. inl refl })

-- one step after the other
pub fewer_and_fewer : (files between left : VolumeFiles) → HasFewerCopies files between → HasFewerCopies between left → HasFewerCopies files left
fewer_and_fewer files between left first second = record {
  survives = λ lost h. first.survives lost (second.survives lost h);
  leaves = λ lost h. ⊎_elim
      (λ same. ⊎_elim (λ was. inl (same ∙ was)) (λ whole. inr (same ∙ whole)) (first.leaves lost (second.survives lost h)))
      (λ whole. inr (whole ∙ ⊎_elim (λ was. was) (λ was. was) (first.leaves no_loss (survives_none between))))
      (second.leaves lost h);
}

-- a loss takes away copies
pub lose_thinned : (files : VolumeFiles) (lost : ℕ → Bool) → IsThinned files (lose_files files lost)
lose_thinned files lost = record {
  each = λ server. by_lost server (lost server) (index_at-lost files lost server);
  beside = λ server has. (same_views files lost server has).1;
}
  where
    by_lost : (server : ℕ) (b : Bool) → index_at (lose_files files lost) server ≡ (if b then None else index_at files server) → (index_at (lose_files files lost) server ≡ index_at files server) ⊎ (index_at (lose_files files lost) server ≡ None)
    by_lost server true e = inr e
    by_lost server false e = inl e

-- so does taking away copies twice
pub thinned_again : (files between left : VolumeFiles) → IsThinned files between → IsThinned between left → IsThinned files left
thinned_again files between left first second = record {
  each = λ server. ⊎_elim
      (λ same. ⊎_elim (λ was. inl (same ∙ was)) (λ gone. inr (same ∙ gone)) (first.each server))
      (λ gone. inr gone)
      (second.each server);
  beside = λ server has. second.beside server has ∙ first.beside server (thinned_stood between left second server has);
}

-- a plain volume of which an index is left has fewer copies
pub thinned_copies : (files left : VolumeFiles) → IsThinned files left → HasOneHome files → (home : ℕ) → index_home left ≡ Some home → HasFewerCopies files left
thinned_copies files left thinned one home e = record {
  survives = thinned_survives files left thinned home e;
  leaves = λ lost h.
      let now = index_of_survivor (lose_files left lost) (h.index (is_plain left home e)) in
      inr (thinned_means files (lose_files left lost) (thinned_again files left (lose_files left lost) thinned (lose_thinned left lost)) one now.0 now.1);
}
  where
    index_of_survivor : (f : VolumeFiles) → IsSome (index_home f) → (s : ℕ) × (index_home f ≡ Some s)
    index_of_survivor f some = by_home (index_home f) refl some
      where
        by_home : (o : Option ℕ) → index_home f ≡ o → IsSome o → (s : ℕ) × (index_home f ≡ Some s)
        by_home None p q = absurd (true≢false (sym q))
        by_home (Some s) p q = (s, p)

-- What a survivable loss may leave after steps that only take away copies, one may have left before them.
pub fewer_may_have : (old new : Image) → ((v : ℕ) → v < max_volumes → HasFewerCopies (files_of old v) (files_of new v)) → (v : ℕ) (it : Option Volume) → MayHave new v it → MayHave old v it
fewer_may_have old new fewer v it may = by_number (nat_lt v max_volumes) refl may.means
  where
    survivable : IsSurvivable old may.lost
    survivable w h = (fewer w h).survives may.lost (may.survivable w h)

    by_number : (b : Bool) → nat_lt v max_volumes ≡ b → it ≡ (if nat_lt v max_volumes then volume_of (files_of (lose may.lost new) v) else None) → MayHave old v it
    by_number true e means =
        let h = ltb-true v max_volumes e in
        let number : (files : VolumeFiles) → (if nat_lt v max_volumes then volume_of files else None) ≡ volume_of files = λ files. ap (λ b. if b then volume_of files else None) e in
        ⊎_elim
        (λ same. record { lost = may.lost; survivable = survivable; means = means ∙ number (files_of (lose may.lost new) v) ∙ same ∙ sym (number (files_of (lose may.lost old) v)) })
        (λ whole. record { lost = no_loss; survivable = λ w k. survives_none (files_of old w); means = means ∙ number (files_of (lose may.lost new) v) ∙ whole ∙ sym (number (files_of old v)) })
        ((fewer v h).leaves may.lost (may.survivable v h))
    by_number false e means =
        let none : (files : VolumeFiles) → (if nat_lt v max_volumes then volume_of files else None) ≡ None = λ files. ap (λ b. if b then volume_of files else None) e in
        record { lost = may.lost; survivable = survivable; means = means ∙ none (files_of (lose may.lost new) v) ∙ sym (none (files_of (lose may.lost old) v)) }

-- ---- one file taken away

-- where one place may have lost its file, each file is as it was or gone
pub one_gone : (p : Place) (old new : Image) → ((k : Place) → k ≢ p → new k ≡ old k) → (new p ≡ old p) ⊎ (new p ≡ None) → (k : Place) → (new k ≡ old k) ⊎ (new k ≡ None)
one_gone p old new others at k = elim (place_cases k p) [
  | inl same ↦ subst (λ q. (new q ≡ old q) ⊎ (new q ≡ None)) (sym same) at
  | inr other ↦ inl (others k other)
]

-- ---- names of different files

-- a file of another volume stands elsewhere, whatever its kind
pub volumes_apart : (v w s t : ℕ) (a b : Kind) (x y : Bool) → v < max_volumes → w < max_volumes → v ≢ w → place_of v s a x ≢ place_of w t b y
volumes_apart v w s t a b x y h k other e =
    let f : FileName = record { volume = v; kind = a; temp = x } in
    let g : FileName = record { volume = w; kind = b; temp = y } in
    let names : name_bytes f ≡ name_bytes g = ap (λ (q : Place). q.1) e in
    let apart = parts_apart (decimal v) (decimal w) (after_dot f) (after_dot g) (no_dot v h) (no_dot w k) (sym (name_in_parts f) ∙ names ∙ name_in_parts g) in
    other (decimal_injective v w (omega (arith, h)) (omega (arith, k)) apart.0)

-- so does a temporary file of the same volume
pub temp_apart : (v s t : ℕ) (a b : Kind) → v < max_volumes → place_of v s a false ≢ place_of v t b true
temp_apart v s t a b h e =
    let f : FileName = record { volume = v; kind = a; temp = false } in
    let g : FileName = record { volume = v; kind = b; temp = true } in
    let names : name_bytes f ≡ name_bytes g = ap (λ (q : Place). q.1) e in
    let apart = parts_apart (decimal v) (decimal v) (after_dot f) (after_dot g) (no_dot v h) (no_dot v h) (sym (name_in_parts f) ∙ names ∙ name_in_parts g) in
    shorter a b (ap length apart.1)
  where
    short : (a : Kind) → length (after_dot (record { volume = v; kind = a; temp = false })) ≤ 4
    short Dat = omega arith
    short Idx = omega arith
    short Cpd = omega arith
    short Cpx = omega arith
    short (Shard i) = omega arith
    short Ecx = omega arith
    short Ecj = omega arith
    short Vif = omega arith

    long : (b : Kind) → 7 ≤ length (after_dot (record { volume = v; kind = b; temp = true }))
    long Dat = omega arith
    long Idx = omega arith
    long Cpd = omega arith
    long Cpx = omega arith
    long (Shard i) = omega arith
    long Ecx = omega arith
    long Ecj = omega arith
    long Vif = omega arith

    shorter : (a b : Kind) → length (after_dot (record { volume = v; kind = a; temp = false })) ≡ length (after_dot (record { volume = v; kind = b; temp = true })) → ⊥
    shorter a b e = absurd (omega (arith, short a, long b, e))

-- a change to another volume's files, or to temporary files, leaves a volume's files
pub others_left : (v w : ℕ) (a b : Image) → v < max_volumes → w < max_volumes → v ≢ w
    → ((k : Place) → ((server : ℕ) (kind : Kind) (temp : Bool) → k ≢ place_of w server kind temp) → a k ≡ b k) → SameVolume v a b
others_left v w a b h k other same server kind = same (place_of v server kind false) (λ t c y. volumes_apart v w server t kind c false y h k other)
