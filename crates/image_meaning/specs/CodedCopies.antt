-- What is left of a coded volume when its journals are spread, and when copies of its files are taken away.
use Rattle.std.proofs.Common.{◌≡◌, IsTrue, ◌≢◌, ◌⊎◌, inl, inr, ⊎_elim, ℕ, ◌+◌, ◌*◌, ◌≤◌, Bool, true, false, List, [], ◌∷◌, ◌++◌, length, Option, Some, None, is_some, refl, sym, ◌∙◌, ap, subst, arith}
use Rattle.std.specs.Prelude.{◌||◌, filter, unwrap_or, option_and_then, if◌then◌else◌}
use Rattle.std.specs.List.{list_any}
use mathlib.Core.Bool.{true≢false}
use Rattle.std.proofs.Math.ListN.{length-append}
use Rattle.file_names.specs.declared.Kind.{Kind}
use Rattle.file_names.specs.declared.Kind.TheVariants.{Idx, Cpx, Shard, Ecx, Ecj, Vif}
use Rattle.wire_num.specs.Pairs.{pairs, journal_bytes}
use Rattle.wire_num.specs.Laws.Pair.{AreIds, pairs_of_journal, length-journal_bytes}
use Rattle.stripe_layout.specs.Information.{info_of}
use Rattle.image_meaning.specs.Files.{VolumeFiles, lose_files, stands, bytes_at, has_index, is_holder, all_shards, shard_home, standing, lowest}
use Rattle.image_meaning.specs.Plain.{index_home}
use Rattle.world_model.specs.Ratios.{data_count}
use Rattle.image_meaning.specs.Coded.{ratio_of, deleted_at}
use Rattle.image_meaning.specs.Meaning.{volume_of}
use Rattle.image_meaning.specs.Sound.{IsHolder}
use Rattle.image_meaning.specs.Ends.{IsStage, SurvivesIn}
use Rattle.image_meaning.specs.Laws.Servers.{lowest-some, lowest-none, lowest-exists}
use Rattle.image_meaning.specs.Laws.Views.{same_index_at, has_either, made_has, named_has}
use Rattle.image_meaning.specs.Laws.CodedLoss.{holder_left, holder_stood}
use Rattle.image_meaning.specs.Laws.Survivable.{fewer, not_both}
use Rattle.image_meaning.specs.Parts.{Parts, AreSoundParts, IsMadeOf, HasEnough, IsCodedForm, HasAll, AllHave, AllLack}
use Rattle.image_meaning.specs.Laws.Part.{made_coded, made_enough, enough_before, made_home, made_left, form_left, all_or_less, means_all, means_less}
use Rattle.image_meaning.specs.Laws.Copy.{HasFewerCopies}

-- no list is itself with one more
no_more : (ids : List ℕ) (id : ℕ) → ids ≡ ids ++ id ∷ [] → ⊥
no_more ids id e = absurd (omega (arith, ap length e, length-append ids (id ∷ [])))

-- ---- the same shards

module _ (files left : VolumeFiles) (same : (server i : ℕ) → left server (Shard i) ≡ files server (Shard i)) where
  pub same_standing : standing left ≡ standing files
  unfolding standing
  same_standing i = filter (λ j. is_some (lowest (λ s. is_some (same s j i)))) all_shards

  pub same_holder : (server : ℕ) → is_holder left server ≡ is_holder files server
  unfolding is_holder
  same_holder server i = list_any (λ j. is_some (same server j i)) all_shards

lost_same : (files left : VolumeFiles) (lost : ℕ → Bool) → ((server i : ℕ) → left server (Shard i) ≡ files server (Shard i)) → (server i : ℕ) → lose_files left lost server (Shard i) ≡ lose_files files lost server (Shard i)
lost_same files left lost same server i = ap (λ (o : Option (List ℕ)). if lost server then None else o) (same server i)

-- ---- journals spread

-- Each file is as it was, but the journal of a holder may have all deleted ids by now.
pub record IsSpread (parts : Parts) (files left : VolumeFiles) : Type 0 where
  pub others : (server : ℕ) (kind : Kind) → kind ≢ Ecj → left server kind ≡ files server kind
  pub journals : (server : ℕ) → IsHolder files server → (left server Ecj ≡ files server Ecj) ⊎ (left server Ecj ≡ Some (journal_bytes parts.deleted))

module _ (parts : Parts) (files left : VolumeFiles) (ids : AreIds parts.deleted) (made : IsMadeOf parts files) (spread : IsSpread parts files left) where
  same_shards : (server i : ℕ) → left server (Shard i) ≡ files server (Shard i)
  same_shards server i = spread.others server (Shard i) (λ e. cc)

  held : (server : ℕ) → IsHolder left server → IsHolder files server
  held server h = (h.0, sym (same_holder files left same_shards server) ∙ h.1)

  holds : (server : ℕ) → IsHolder files server → IsHolder left server
  holds server h = (h.0, same_holder files left same_shards server ∙ h.1)

  -- what a holder has deleted by now
  spread_deleted : (server : ℕ) → IsHolder files server → (deleted_at left server ≡ deleted_at files server) ⊎ (deleted_at left server ≡ parts.deleted)
  spread_deleted server h = ⊎_elim
      (λ same. inl (ap (λ (o : Option (List ℕ)). pairs (unwrap_or o [])) same))
      (λ new. inr (ap (λ (o : Option (List ℕ)). pairs (unwrap_or o [])) new ∙ pairs_of_journal parts.deleted ids))
      (spread.journals server h)

  pub spread_made : IsMadeOf parts left
  spread_made = record {
    texts = λ server h. ap (option_and_then info_of) (spread.others server Vif (λ e. cc)) ∙ made.texts server (held server h);
    indexes = λ server h. spread.others server Ecx (λ e. cc) ∙ made.indexes server (held server h);
    stand = record { each = λ server i h st. made.stand.each server i h (st.0, ap is_some (sym (same_shards server i)) ∙ st.1) ∙ sym (same_shards server i) };
    stages = λ server h. ⊎_elim (λ same. subst (IsStage parts.deleted) (sym same) (made.stages server (held server h))) (λ all. inl all) (spread_deleted server (held server h));
    rests = λ server h. rest server (held server h) (spread.journals server (held server h));
  }
    where
      rest : (server : ℕ) → IsHolder files server → (left server Ecj ≡ files server Ecj) ⊎ (left server Ecj ≡ Some (journal_bytes parts.deleted))
          → length (bytes_at left server Ecj) ≤ 16 * length (deleted_at left server) + 16
      rest server h (inl same) = subst (λ (o : Option (List ℕ)). length (unwrap_or o []) ≤ 16 * length (pairs (unwrap_or o [])) + 16) (sym same) (made.rests server h)
      rest server h (inr new) = subst (λ (o : Option (List ℕ)). length (unwrap_or o []) ≤ 16 * length (pairs (unwrap_or o [])) + 16) (sym new)
          (omega (arith, length-journal_bytes parts.deleted, ap length (pairs_of_journal parts.deleted ids)))

  pub spread_form : IsCodedForm parts files → IsCodedForm parts left
  spread_form form = record {
    no_index = no_home ∙ form.no_index;
    enough = subst (λ (l : List ℕ). data_count parts.info.geometry.ratio ≤ length l) (sym (same_standing files left same_shards)) form.enough;
  }
    where
      no_home : index_home left ≡ index_home files
      no_home i = lowest (λ s. is_some (same_index_at files left s (spread.others s Cpx (λ e. cc)) (spread.others s Idx (λ e. cc)) i))

  module _ (form : IsCodedForm parts files) where
    now_form : IsCodedForm parts left
    now_form = spread_form form

    pub spread_copies : AreSoundParts parts → HasAll parts files → HasFewerCopies files left
    spread_copies sound all = record {
      survives = λ lost h. record {
        index = λ p. absurd (not_both files p (made_coded parts files made form));
        shards = λ c. enough_before parts files made form (lose_files files lost) (was_enough lost (enough_now lost (h.shards (made_coded parts left spread_made now_form))));
      };
      leaves = λ lost h. by_ids lost (enough_now lost (h.shards (made_coded parts left spread_made now_form)));
    }
      where
        enough_now : (lost : ℕ → Bool) → data_count (ratio_of left) ≤ length (standing (lose_files left lost)) → HasEnough parts (lose_files left lost)
        enough_now lost e = made_enough parts left spread_made now_form (lose_files left lost) e

        was_enough : (lost : ℕ → Bool) → HasEnough parts (lose_files left lost) → HasEnough parts (lose_files files lost)
        was_enough lost e = subst (λ (l : List ℕ). data_count parts.info.geometry.ratio ≤ length l) (same_standing (lose_files files lost) (lose_files left lost) (lost_same files left lost same_shards)) e

        by_ids : (lost : ℕ → Bool) → HasEnough parts (lose_files left lost)
            → (volume_of (lose_files left lost) ≡ volume_of (lose_files files lost)) ⊎ (volume_of (lose_files left lost) ≡ volume_of files)
        by_ids lost enough =
            let now : IsMadeOf parts (lose_files left lost) = made_left parts left lost spread_made in
            let was : IsMadeOf parts (lose_files files lost) = made_left parts files lost made in
            let form_now : IsCodedForm parts (lose_files left lost) = form_left parts left lost now_form enough in
            let form_was : IsCodedForm parts (lose_files files lost) = form_left parts files lost form (was_enough lost enough) in
            ⊎_elim
            (λ has. inr (means_all parts (lose_files left lost) now form_now sound has ∙ sym (means_all parts files made form sound all)))
            (λ less. inl (means_less parts (lose_files left lost) now form_now sound less.0 less.1 ∙ sym (means_less parts (lose_files files lost) was form_was sound less.0 (record { last = less.1.last; each = lacked lost less.0 less.1 }))))
            (all_or_less parts (lose_files left lost) now enough)
          where
            -- a holder that lacks the last id now lacked it before
            lacked : (lost : ℕ → Bool) (short : List ℕ) → AllLack parts (lose_files left lost) short → (server : ℕ) → IsHolder (lose_files files lost) server → deleted_at (lose_files files lost) server ≡ short
            lacked lost short lack server h =
                let now : IsHolder (lose_files left lost) server = (h.0, same_holder (lose_files files lost) (lose_files left lost) (lost_same files left lost same_shards) server ∙ h.1) in
                let here : deleted_at left server ≡ short = ap (λ (f : Kind → Option (List ℕ)). pairs (unwrap_or (f Ecj) [])) (sym (holder_left left lost server now.1)) ∙ lack.each server now in
                let there : deleted_at (lose_files files lost) server ≡ deleted_at files server = ap (λ (f : Kind → Option (List ℕ)). pairs (unwrap_or (f Ecj) [])) (holder_left files lost server h.1) in
                ⊎_elim
                (λ same. there ∙ sym same ∙ here)
                (λ whole. absurd (no_more short lack.last.0 (sym here ∙ whole ∙ lack.last.1)))
                (spread_deleted server (holder_stood files lost server h))

-- ---- copies taken away

-- Each file is as it was or gone. The lowest copy of each shard is left, and at each holder that is left the other files.
pub record IsCodedThinned (files left : VolumeFiles) : Type 0 where
  pub each : (server : ℕ) (kind : Kind) → (left server kind ≡ files server kind) ⊎ (left server kind ≡ None)
  pub homes : (i server : ℕ) → shard_home files i ≡ Some server → left server (Shard i) ≡ files server (Shard i)
  pub texts : (server : ℕ) → IsHolder left server → left server Vif ≡ files server Vif
  pub indexes : (server : ℕ) → IsHolder left server → left server Ecx ≡ files server Ecx
  pub journals : (server : ℕ) → IsHolder left server → left server Ecj ≡ files server Ecj

any_more : (test other : ℕ → Bool) (xs : List ℕ) → ((x : ℕ) → test x ≡ true → other x ≡ true) → list_any test xs ≡ true → list_any other xs ≡ true
any_more test other [] more e = e
any_more test other (x ∷ xs) more e = by_first (test x) refl e (any_more test other xs more)
  where
    or_right : (b c : Bool) → c ≡ true → (b || c) ≡ true
    or_right true c e = refl
    or_right false c e = e

    by_first : (b : Bool) → test x ≡ b → (b || list_any test xs) ≡ true → (list_any test xs ≡ true → list_any other xs ≡ true) → (other x || list_any other xs) ≡ true
    by_first true p e rest = ap (λ b. b || list_any other xs) (more x p)
    by_first false p e rest = or_right (other x) (list_any other xs) (rest e)

-- where files went, a holder that is left was one
pub gone_held : (files left : VolumeFiles) → ((server : ℕ) (kind : Kind) → (left server kind ≡ files server kind) ⊎ (left server kind ≡ None)) → (server : ℕ) → IsHolder left server → IsHolder files server
unfolding is_holder
gone_held files left each server h = (h.0, any_more (λ i. stands left server (Shard i)) (λ i. stands files server (Shard i)) all_shards (λ i e. was_there (Shard i) e) h.1)
  where
    was_there : (kind : Kind) → stands left server kind ≡ true → stands files server kind ≡ true
    was_there kind e = ⊎_elim (λ same. ap is_some (sym same) ∙ e) (λ gone. absurd (true≢false (sym e ∙ ap is_some gone))) (each server kind)

module _ (parts : Parts) (files left : VolumeFiles) (made : IsMadeOf parts files) (thinned : IsCodedThinned files left) where
  stood : (server : ℕ) (kind : Kind) → stands left server kind ≡ true → left server kind ≡ files server kind
  stood server kind e = ⊎_elim (λ same. same) (λ gone. absurd (true≢false (sym e ∙ ap is_some gone))) (thinned.each server kind)

  was_there : (server : ℕ) (kind : Kind) → stands left server kind ≡ true → stands files server kind ≡ true
  was_there server kind e = ap is_some (sym (stood server kind e)) ∙ e

  pub thinned_held : (server : ℕ) → IsHolder left server → IsHolder files server
  thinned_held server h = gone_held files left thinned.each server h

  still_home : (i : ℕ) → is_some (shard_home files i) ≡ true → is_some (shard_home left i) ≡ true
  still_home i e = by_home (shard_home files i) refl e
    where
      by_home : (o : Option ℕ) → shard_home files i ≡ o → is_some o ≡ true → is_some (shard_home left i) ≡ true
      by_home None p q = absurd (true≢false (sym q))
      by_home (Some s) p q =
          let found = lowest-some (λ server. stands files server (Shard i)) s p in
          ap is_some (lowest-exists (λ server. stands left server (Shard i)) s found.1 (ap is_some (thinned.homes i s p) ∙ found.0.passes)).1

  pub thinned_made : IsMadeOf parts left
  thinned_made = record {
    texts = λ server h. ap (option_and_then info_of) (thinned.texts server h) ∙ made.texts server (thinned_held server h);
    indexes = λ server h. thinned.indexes server h ∙ made.indexes server (thinned_held server h);
    stand = record { each = λ server i h st. made.stand.each server i h (st.0, was_there server (Shard i) st.1) ∙ sym (stood server (Shard i) st.1) };
    stages = λ server h. subst (λ (o : Option (List ℕ)). IsStage parts.deleted (pairs (unwrap_or o []))) (sym (thinned.journals server h)) (made.stages server (thinned_held server h));
    rests = λ server h.
        subst (λ (o : Option (List ℕ)). length (unwrap_or o []) ≤ 16 * length (pairs (unwrap_or o [])) + 16) (sym (thinned.journals server h)) (made.rests server (thinned_held server h));
  }

  pub thinned_form : IsCodedForm parts files → IsCodedForm parts left
  unfolding standing
  thinned_form form = record {
    no_index = no_home (index_home left) refl;
    enough = omega (arith, form.enough, fewer (λ i. is_some (shard_home files i)) (λ i. is_some (shard_home left i)) all_shards still_home);
  }
    where
      no_home : (o : Option ℕ) → index_home left ≡ o → index_home left ≡ None
      no_home None e = e
      no_home (Some s) e =
          let found = lowest-some (has_index left) s e in
          let stood : IsTrue (has_index files s) = ⊎_elim (λ h. made_has files s (was_there s Cpx h)) (λ h. named_has files s (was_there s Idx h)) (has_either left s found.0.passes) in
          absurd (true≢false (sym stood ∙ lowest-none (has_index files) form.no_index s found.1))

  -- all holders have all deleted ids before the first copy goes
  module _ (all : AllHave parts files) where
    pub thinned_all : AllHave parts left
    thinned_all server h = ap (λ (o : Option (List ℕ)). pairs (unwrap_or o [])) (thinned.journals server h) ∙ all server (thinned_held server h)

    pub thinned_copies : IsCodedForm parts files → AreSoundParts parts → HasFewerCopies files left
    unfolding standing
    thinned_copies form sound = record {
      survives = λ lost h. record {
        index = λ p. absurd (not_both files p (made_coded parts files made form));
        shards = λ c. enough_before parts files made form (lose_files files lost)
            (omega (arith, enough_now lost h, fewer (λ i. is_some (shard_home (lose_files left lost) i)) (λ i. is_some (shard_home (lose_files files lost) i)) all_shards (had_home lost)));
      };
      leaves = λ lost h.
          let now : IsMadeOf parts (lose_files left lost) = made_left parts left lost thinned_made in
          let now_form : IsCodedForm parts (lose_files left lost) = form_left parts left lost (thinned_form form) (enough_now lost h) in
          let home = made_home parts (lose_files left lost) now now_form.enough in
          let was = made_home parts files made form.enough in
          inr (
          means_all parts (lose_files left lost) now now_form sound (record {
            server = home.0;
            holds = home.1;
            has = ap (λ (f : Kind → Option (List ℕ)). pairs (unwrap_or (f Ecj) [])) (holder_left left lost home.0 home.1.1) ∙ thinned_all home.0 (holder_stood left lost home.0 home.1);
          })
          ∙ sym (means_all parts files made form sound (record { server = was.0; holds = was.1; has = all was.0 was.1 }))
          );
    }
      where
        enough_now : (lost : ℕ → Bool) → SurvivesIn left (lose_files left lost) → HasEnough parts (lose_files left lost)
        enough_now lost h = made_enough parts left thinned_made (thinned_form form) (lose_files left lost) (h.shards (made_coded parts left thinned_made (thinned_form form)))

        had : (lost : ℕ → Bool) (server : ℕ) (kind : Kind) (b : Bool) → lost server ≡ b → is_some (if b then None else left server kind) ≡ true → is_some (if b then None else files server kind) ≡ true
        had lost server kind true p e = e
        had lost server kind false p e = was_there server kind e

        had_home : (lost : ℕ → Bool) (i : ℕ) → is_some (shard_home (lose_files left lost) i) ≡ true → is_some (shard_home (lose_files files lost) i) ≡ true
        had_home lost i e = by_home (shard_home (lose_files left lost) i) refl e
          where
            by_home : (o : Option ℕ) → shard_home (lose_files left lost) i ≡ o → is_some o ≡ true → is_some (shard_home (lose_files files lost) i) ≡ true
            by_home None p q = absurd (true≢false (sym q))
            by_home (Some s) p q =
                let found = lowest-some (λ server. stands (lose_files left lost) server (Shard i)) s p in
                ap is_some (lowest-exists (λ server. stands (lose_files files lost) server (Shard i)) s found.1 (had lost s (Shard i) (lost s) refl found.0.passes)).1
