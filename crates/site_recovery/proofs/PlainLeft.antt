-- What becomes of a plain volume's files that are listed.
use Rattle.std.proofs.Common.{◌≡◌, ◌≢◌, ◌⊎◌, inl, inr, ⊎_elim, ℕ, ◌<◌, true, false, List, Option, Some, None, is_some, refl, sym, ◌∙◌, ap, subst}
use Rattle.std.specs.Prelude.{IsSome, Contains}
use Rattle.std.specs.List.{All}
use Rattle.std.proofs.lemmas.Bool.{cases_eq}
use mathlib.Core.Bool.{true≢false}
use Rattle.site_model.specs.Disk.{Place, Files, Image, Disk}
use Rattle.site_model.specs.Disk as disk
use Rattle.file_names.specs.declared.Kind.{Kind}
use Rattle.file_names.specs.declared.Kind.TheVariants.{Dat, Idx, Cpd, Cpx, Shard, Ecx, Ecj, Vif}
use Rattle.file_names.specs.Names.{IsKind, IsName, place_of, IsPlainKind, IsCodedKind, is_coded_kind}
use Rattle.image_meaning.specs.Files.{VolumeFiles, contents, files_of, stands}
use Rattle.image_meaning.specs.Plain.{index_home}
use Rattle.image_meaning.specs.Meaning.{max_volumes}
use Rattle.image_meaning.specs.Laws.Views.{index_named, dat_named}
use Rattle.image_meaning.specs.Laws.Vacuum.{HasSameViews, IsThinnedAt, thinned_by, same_four}
use Rattle.image_meaning.specs.Laws.PlainLoss.{home_has}
use Rattle.site_recovery.specs.declared.forms.Listed.{Listed}
use Rattle.site_recovery.specs.declared.forms.Goes.TheVariants as goes
use Rattle.site_recovery.specs.Steps.{KeepsMeaning, IsReduced}
use Rattle.site_recovery.specs.Laws.Step.{keeps_plain, reduced_home, reduced_thinned}
use Rattle.site_recovery.specs.Changes.{LacksSome, TakesAway, Settles, IsOf, KeepsOthers, IsLeftAtHome}
use Rattle.site_recovery.specs.CodedSettling.{IsVolumeFile}
use Rattle.site_recovery.specs.Removing.{IsGoingAmong, AreGone, AreListedBut, HasFilesOf}
use Rattle.site_recovery.specs.PlainSettling.{IsKeptAt, AreOthersListed}
use Rattle.site_recovery.proofs.Places.{same_place, coded_kind, coded_apart, none_by}
use Rattle.site_recovery.proofs.Taking.{settles_takes, settles_more}
use Rattle.site_recovery.proofs.Emptied.{name_is, final_at, listed_gone}

module _ (v : ℕ) (h : v < max_volumes) (home : ℕ) (its : List Listed) where
  -- ---- which files are listed

  pub others_first : (files : Files) → HasFilesOf files v its → AreOthersListed v home files its
  others_first files all server kind is not_kept some =
      all (record { server = server; file = record { volume = v; kind = kind; temp = false } }) (record { named = record { volume = h; kind = is }; stands = some }) refl

  -- files that are as they were, or gone
  others_on : (old new : Files) → ((server : ℕ) (kind : Kind) → IsKind kind → (IsKeptAt home server kind → ⊥) → (new (place_of v server kind false) ≡ old (place_of v server kind false)) ⊎ (new (place_of v server kind false) ≡ None))
      → AreOthersListed v home old its → AreOthersListed v home new its
  others_on old new each listed server kind is not_kept some =
      listed server kind is not_kept (stood (each server kind is not_kept))
    where
      stood : (new (place_of v server kind false) ≡ old (place_of v server kind false)) ⊎ (new (place_of v server kind false) ≡ None) → IsSome (old (place_of v server kind false))
      stood (inl same) = ap is_some (sym same) ∙ some
      stood (inr none) = absurd (true≢false (sym some ∙ ap is_some none))

  pub others_named : (old new : Files) → KeepsOthers v home old new → AreOthersListed v home old its → AreOthersListed v home new its
  others_named old new keeps = others_on old new (λ server kind is not_kept. keeps (place_of v server kind false) (apart server kind is Dat tt (λ e. inr e) not_kept) (apart server kind is Idx tt (λ e. inl e) not_kept))
    where
      apart : (server : ℕ) (kind : Kind) → IsKind kind → (other : Kind) → IsKind other → (kind ≡ other → (kind ≡ Idx) ⊎ (kind ≡ Dat)) → (IsKeptAt home server kind → ⊥) → place_of v server kind false ≢ place_of v home other false
      apart server kind is other fits one not_kept e =
          let same = same_place v v server home kind other false false h h is fits e in
          not_kept (same.servers, one same.kinds)

  pub others_lacking : {touched : Place → Type 0} (old new : Files) → LacksSome touched old new → AreOthersListed v home old its → AreOthersListed v home new its
  others_lacking old new lacks = others_on old new (λ server kind is not_kept. ⊎_elim (λ same. inl same) (λ gone. inr gone.1) (lacks (place_of v server kind false)))

  -- so those of each kind are
  pub kind_listed : (kind : Kind) (files : Files) → IsKind kind → AreOthersListed v home files its → AreListedBut (Some home) files v kind its
  kind_listed kind files is listed server other some = listed server kind is (λ kept. other (ap Some (sym kept.0))) some

  pub cpd_listed : (files : Files) → AreOthersListed v home files its → AreListedBut None files v Cpd its
  cpd_listed files listed server other some = listed server Cpd tt (λ kept. ⊎_elim (λ e. cc) (λ e. cc) kept.1) some

-- ---- the two files at the home are left

module _ (v home : ℕ) (start end : Files) (at : index_home (files_of (contents start) v) ≡ Some home) (unmade : stands (files_of (contents start) v) home Cpx ≡ false) (left : IsLeftAtHome v home start end) where
  abbrev before : VolumeFiles
  before = files_of (contents start) v

  abbrev after : VolumeFiles
  after = files_of (contents end) v

  none_elsewhere : (s : ℕ) → s ≢ home → (kind : Kind) → IsPlainKind kind → end (place_of v s kind false) ≡ None
  none_elsewhere s other kind is = none_by (end (place_of v s kind false)) (λ some. other (left.alone s kind is some).0)

  end_unmade : stands after home Cpx ≡ false
  end_unmade = ap (λ (o : Option disk.File). is_some (disk.standing o)) (none_by (end (place_of v home Cpx false)) (λ some. ⊎_elim (λ e. cc) (λ e. cc) (left.alone home Cpx tt some).1))

  home_views : HasSameViews before after home
  home_views = record {
    index = index_named after home end_unmade ∙ ap disk.standing left.idx ∙ sym (index_named before home unmade);
    dat = dat_named after home end_unmade ∙ ap disk.standing left.dat ∙ sym (dat_named before home unmade);
  }

  left_reduced : IsReduced before after home
  left_reduced =
      let has = home_has before home at in
      reduced_thinned before after home (thinned_by before after (λ s. elim (cases_eq s home) [
        | inl same ↦ subst (IsThinnedAt before after) (sym same) (inl home_views)
        | inr other ↦ inr (index_named after s (ap (λ (o : Option disk.File). is_some (disk.standing o)) (none_elsewhere s other Cpx tt)) ∙ ap disk.standing (none_elsewhere s other Idx tt))
      ])) (has.0, ap is_some home_views.index ∙ has.1)

  pub left_home : index_home after ≡ Some home
  left_home = reduced_home before after home at left_reduced

  pub left_keeps : v < max_volumes → ((k : Place) → (IsOf v false k → ⊥) → end k ≡ start k) → KeepsMeaning (contents start) (contents end)
  left_keeps h others = keeps_plain (contents start) (contents end) v home h at (λ k none. ap disk.standing (others k (λ of. none of.0 of.1 of.3))) left_reduced

-- ---- files of the coded form, which an index makes free

coded_fact : (kind : Kind) → IsKind kind → is_coded_kind kind ≡ true → IsCodedKind kind
coded_fact Dat is e = absurd (true≢false (sym e))
coded_fact Idx is e = absurd (true≢false (sym e))
coded_fact Cpd is e = absurd (true≢false (sym e))
coded_fact Cpx is e = absurd (true≢false (sym e))
coded_fact (Shard i) is e = is
coded_fact Ecx is e = tt
coded_fact Ecj is e = tt
coded_fact Vif is e = tt

coded_test : (kind : Kind) → IsCodedKind kind → is_coded_kind kind ≡ true
coded_test Dat is = absurd is
coded_test Idx is = absurd is
coded_test Cpd is = absurd is
coded_test Cpx is = absurd is
coded_test (Shard i) is = refl
coded_test Ecx is = refl
coded_test Ecj is = refl
coded_test Vif is = refl

module _ (v : ℕ) (h : v < max_volumes) (its : List Listed) (named : All (λ (l : Listed). IsName l.file) its) (of : All (λ (l : Listed). l.file.volume ≡ v) its) where
  coded_at : (k : Place) → IsGoingAmong goes.Coded its k → (server : ℕ) × (kind : Kind) × IsCodedKind kind × (k ≡ place_of v server kind false)
  coded_at k (l, has, (is, at)) = (l.server, l.file.kind, coded_fact l.file.kind (name_is its named l has).kind is.1, final_at v h its named of k l has is.0 at)

  -- those of the plain form stay
  pub plain_kept : {A : Type 0} (old new : Place → Option A) → LacksSome (IsGoingAmong goes.Coded its) old new → (s : ℕ) (kind : Kind) → IsPlainKind kind → new (place_of v s kind false) ≡ old (place_of v s kind false)
  plain_kept old new lacks s kind is = ⊎_elim (λ same. same) (λ taken. absurd (apart taken.0)) (lacks (place_of v s kind false))
    where
      apart : IsGoingAmong goes.Coded its (place_of v s kind false) → ⊥
      apart going =
          let c = coded_at (place_of v s kind false) going in
          coded_apart v v c.0 c.1 false false h h c.2 (s, kind, is, sym c.3)

  -- a volume with an index keeps its meaning
  pub coded_keeps : (home : ℕ) (old new : Image) → index_home (files_of old v) ≡ Some home → LacksSome (IsGoingAmong goes.Coded its) old new → KeepsMeaning old new
  coded_keeps home old new at lacks =
      let has = home_has (files_of old v) home at in
      keeps_plain old new v home h at (λ k none. ⊎_elim (λ same. same) (λ taken. absurd (among k none taken.0)) (lacks k))
      (reduced_thinned (files_of old v) (files_of new v) home (thinned_by (files_of old v) (files_of new v) (λ s. inl (views s))) (has.0, ap is_some (views home).index ∙ has.1))
    where
      among : (k : Place) → ((server : ℕ) (kind : Kind) → k ≡ place_of v server kind false → ⊥) → IsGoingAmong goes.Coded its k → ⊥
      among k none going = let c = coded_at k going in none c.0 c.1 c.3

      views : (s : ℕ) → HasSameViews (files_of old v) (files_of new v) s
      views s = same_four (files_of old v) (files_of new v) s (record {
        dat = plain_kept old new lacks s Dat tt;
        idx = plain_kept old new lacks s Idx tt;
        cpd = plain_kept old new lacks s Cpd tt;
        cpx = plain_kept old new lacks s Cpx tt;
      })

  pub coded_settles : (home : ℕ) {old new : Disk} → index_home (files_of (contents old.files) v) ≡ Some home → TakesAway (IsGoingAmong goes.Coded its) old new → Settles (IsVolumeFile v) old new
  coded_settles home {old} at takes = settles_more volume_file (settles_takes (λ image lacks. coded_keeps home (contents old.files) image at lacks) takes)
    where
      volume_file : (k : Place) → IsGoingAmong goes.Coded its k → IsVolumeFile v k
      volume_file k going = let c = coded_at k going in (c.0, c.1, false, coded_kind c.1 c.2, c.3)

  -- none of them is left, if they were listed
  pub coded_none : (old new : Files) → ((s : ℕ) (kind : Kind) → IsCodedKind kind → IsSome (old (place_of v s kind false)) → Contains its (record { server = s; file = record { volume = v; kind = kind; temp = false } }))
      → LacksSome (IsGoingAmong goes.Coded its) old new → AreGone goes.Coded its new → (s : ℕ) (kind : Kind) → IsCodedKind kind → new (place_of v s kind false) ≡ None
  coded_none old new all lacks gone s kind is =
      listed_gone goes.Coded its old new lacks gone (record { server = s; file = record { volume = v; kind = kind; temp = false } }) (record { volume = h; kind = coded_kind kind is }) (refl, coded_test kind is) (λ file. all s kind is file.stands)
