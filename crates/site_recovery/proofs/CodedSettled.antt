-- What becomes of a coded volume's files, run by run.
use Rattle.std.proofs.Common.{◌≡◌, ◌≢◌, ◌⊎◌, inl, inr, ⊎_elim, ℕ, ◌<◌, Bool, true, false, List, Option, Some, None, is_some, refl, sym, ◌∙◌, ap, subst}
use Rattle.std.specs.Prelude.{[], ◌∷◌, ◌++◌, unwrap_or, slice_index_or}
use mathlib.Core.Bool.{true≢false}
use Rattle.std.proofs.lemmas.Bool.{cases_eq}
use Rattle.site_model.specs.Disk.{Place, Disk, IsSettled}
use Rattle.site_model.specs.Disk as disk
use Rattle.site_model.specs.Leaves.{place_cases}
use Rattle.file_names.specs.declared.Kind.{Kind}
use Rattle.file_names.specs.declared.Kind.TheVariants.{Dat, Idx, Cpd, Cpx, Shard, Ecx, Ecj, Vif}
use Rattle.file_names.specs.Names.{IsKind, max_shards, place_of}
use Rattle.wire_num.specs.Laws.Pair.{AreIds}
use Rattle.image_meaning.specs.Files.{VolumeFiles, contents, files_of, stands, has_index, shard_home}
use Rattle.image_meaning.specs.Coded.{deleted_at}
use Rattle.image_meaning.specs.Meaning.{max_volumes}
use Rattle.image_meaning.specs.Sound.{IsCoded, IsHolder, Stands}
use Rattle.image_meaning.specs.JournalPlaces.{journal_apart}
use Rattle.image_meaning.specs.Laws.Copy.{temp_apart}
use Rattle.image_meaning.specs.Laws.Servers.{lowest-none}
use Rattle.image_meaning.specs.Laws.Views.{made_has, named_has}
use Rattle.image_meaning.specs.Laws.LossLaw.{coded_form}
use Rattle.image_meaning.specs.CodedCopies.{IsCodedThinned}
use Rattle.coded_volume.proofs.Standing.{holder_stands, stands_holder}
use Rattle.site_recovery.specs.Changes.{LacksSome, TakesAway, Settles}
use Rattle.site_recovery.specs.Spreading.{IsAmong, IsJournalAmong, Spreads, AreSpread}
use Rattle.site_recovery.specs.CodedSteps.{IsLongest, HaveSameIds, IsLeftCoded}
use Rattle.site_recovery.specs.CodedGone.{MayGo, IsSpare, AreCopiesGone, IsBesideKind, IsStray, AreStraysGone, spare_thinned, keeps_spare_gone, spare_settles}
use Rattle.site_recovery.specs.CodedSettling.{IsVolumeFile, IsTestedCoded, IsSettledCoded}
use Rattle.site_recovery.specs.Steps.{KeepsMeaning}
use Rattle.site_recovery.specs.Laws.Step.{keeps_on}
use Rattle.site_recovery.specs.Laws.CodedStep.{keeps_spread, spread_settles}
use Rattle.site_recovery.proofs.Taking.{lacks_settled, lacks_standing, settles_on, settles_more}
use Rattle.site_recovery.proofs.Gone.{stays_gone}
use Rattle.site_recovery.proofs.Settled.{bytes_same}
use Rattle.site_recovery.proofs.CodedLeft.{HasJournals, home_stands, spread_home, spread_held, spread_coded, spread_same_ids, spread_tested, was_there, thinned_held, thinned_home, thinned_coded, thinned_same_ids, thinned_tested}

-- what passes has a longest journal
pub tested_longest : (files : VolumeFiles) (ids : List ℕ) → IsTestedCoded files ids → IsLongest files ids
tested_longest files ids tested =
    let journal = tested.passes.journal in
    record {
      server = journal.some_holder.0;
      holds = journal.some_holder.1;
      has = journal.some_holder.2 ∙ tested.longest;
      stages = λ s h. subst (λ (l : List ℕ). (deleted_at files s ≡ l) ⊎ ((id : ℕ) × (l ≡ deleted_at files s ++ id ∷ []))) tested.longest (journal.each s h);
    }

-- Which servers are marked: those that are the home of a shard.
pub record AreMarked (files : VolumeFiles) (keeps : List Bool) : Type 0 where
  pub marked : (i server : ℕ) → i < max_shards → shard_home files i ≡ Some server → slice_index_or keeps server false ≡ true
  pub home : (server : ℕ) → slice_index_or keeps server false ≡ true → (i : ℕ) × (i < max_shards) × (shard_home files i ≡ Some server)

module _ (v : ℕ) (h : v < max_volumes) (ids : List ℕ) (fit : AreIds ids) (start : Disk) (tested : IsTestedCoded (files_of (contents start.files) v) ids) where
  abbrev files_in : Disk → VolumeFiles
  files_in d = files_of (contents d.files) v

  -- ---- the journals spread

  module _ (servers : List ℕ) (one : Disk) (spreads : Spreads v servers ids start one) where
    journal_of : (k : Place) → IsJournalAmong v servers k → IsVolumeFile v k
    journal_of k is = (is.0, Ecj, is.1, tt, is.3)

    pub settles_one : Settles (IsVolumeFile v) start one
    settles_one = settles_more journal_of (spread_settles v servers ids start one h tested.coded (tested_longest (files_in start) ids tested) fit spreads)

    module _ (all : (server : ℕ) → IsHolder (files_in start) server → IsAmong servers server) (spread : AreSpread v servers ids start.files one.files) where
      no_journal : (server : ℕ) (kind : Kind) → kind ≢ Ecj → IsJournalAmong v servers (place_of v server kind false) → ⊥
      no_journal server kind other is = by_temp is.0 is.1 is.3
        where
          by_temp : (t : ℕ) (temp : Bool) → place_of v server kind false ≡ place_of v t Ecj temp → ⊥
          by_temp t false e = journal_apart v server t kind h other e
          by_temp t true e = temp_apart v server t kind Ecj h e

      one_has : HasJournals (files_in start) (files_in one) ids
      one_has = record {
        others = λ server kind other. ap disk.standing (spreads.touches.others (place_of v server kind false) (no_journal server kind other));
        journals = λ server holds. bytes_same (one.files (place_of v server Ecj false)) ∙ spread.journals server (all server holds);
      }

      one_keeps : KeepsMeaning (contents start.files) (contents one.files)
      one_keeps =
          keeps_spread (contents start.files) (contents one.files) v ids h tested.coded (tested_longest (files_in start) ids tested) fit
          (λ k none. ap disk.standing (spreads.touches.others k (λ is. none is.0 Ecj is.1 is.3)))
          one_has.others
          (λ server holds. ⊎_elim (λ same. inl (ap disk.standing same)) (λ new. inr (ap disk.standing new)) (spreads.files server))

      pub one_coded : IsCoded (files_in one)
      one_coded = spread_coded (files_in start) (files_in one) ids one_has tested.coded

      one_same : HaveSameIds (files_in one)
      one_same = spread_same_ids (files_in start) (files_in one) ids one_has

      one_tested : IsTestedCoded (files_in one) ids
      one_tested = spread_tested (files_in start) (files_in one) ids one_has fit tested

      pub one_home : (i : ℕ) → shard_home (files_in one) i ≡ shard_home (files_in start) i
      one_home = spread_home (files_in start) (files_in one) ids one_has

      -- ---- the copies taken away

      module _ (two : Disk) (takes : TakesAway (IsSpare v (files_in one)) one two) where
        spare_of : (k : Place) → IsSpare v (files_in one) k → IsVolumeFile v k
        spare_of k is = (is.0, is.1, false, is.4, is.2)

        pub settles_two : Settles (IsVolumeFile v) start two
        settles_two = settles_on spread.settled settles_one (settles_more spare_of (spare_settles v (IsSpare v (files_in one)) one two h one_coded one_same (λ k is. is) takes))

        two_thinned : IsCodedThinned (files_in one) (files_in two)
        two_thinned = spare_thinned (contents one.files) (contents two.files) v h (lacks_standing takes.files)

        two_keeps : KeepsMeaning (contents start.files) (contents two.files)
        two_keeps =
            keeps_on (contents start.files) (contents one.files) (contents two.files) one_keeps
            (keeps_spare_gone (contents one.files) (contents two.files) v h (lacks_standing takes.files) one_coded one_same)

        two_coded : IsCoded (files_in two)
        two_coded = thinned_coded (files_in one) (files_in two) two_thinned one_coded

        two_same : HaveSameIds (files_in two)
        two_same = thinned_same_ids (files_in one) (files_in two) two_thinned one_same

        two_tested : IsTestedCoded (files_in two) ids
        two_tested = thinned_tested (files_in one) (files_in two) two_thinned ids one_same one_tested

        module _ (keeps : List Bool) (marks : AreMarked (files_in start) keeps) (gone : AreCopiesGone v (files_in one) two.files) where
          -- of each shard the copy at its home is left
          two_home : (server i : ℕ) → i < max_shards → stands (files_in two) server (Shard i) ≡ true → shard_home (files_in start) i ≡ Some server
          two_home server i k st = sym (one_home i) ∙ by_home (shard_home (files_in one) i) refl
            where
              other : (shard_home (files_in one) i ≢ Some server) → ⊥
              other apart = true≢false (sym st ∙ ap (λ (o : Option disk.File). is_some (disk.standing o)) (gone.no_copies i server k apart))

              by_home : (o : Option ℕ) → shard_home (files_in one) i ≡ o → shard_home (files_in one) i ≡ Some server
              by_home None e = absurd (other (λ f. no_some server (sym e ∙ f)))
                where
                  no_some : (s : ℕ) → None ≡ Some s → ⊥
                  no_some s e = cc
              by_home (Some t) e = elim (cases_eq t server) [
                | inl same ↦ e ∙ ap (λ (s : ℕ). Some s) same
                | inr apart ↦ absurd (other (λ f. apart (same_server t server (sym e ∙ f))))
              ]
                where
                  same_server : (a b : ℕ) → Some a ≡ Some b → a ≡ b
                  same_server a b e = cc

          not_held : (server : ℕ) → slice_index_or keeps server false ≡ false → IsHolder (files_in two) server → ⊥
          not_held server unmarked holds =
              let shard = stands_holder (files_in two) server holds in
              true≢false (sym (marks.marked shard.0 server shard.1 (two_home server shard.0 shard.1 shard.2.1)) ∙ unmarked)

          -- ---- what stands beside no shard

          may_go : (server : ℕ) (kind : Kind) → IsBesideKind kind → slice_index_or keeps server false ≡ false → MayGo (files_in two) server kind × IsKind kind
          may_go server Dat is unmarked = absurd is
          may_go server Idx is unmarked = absurd is
          may_go server Cpd is unmarked = absurd is
          may_go server Cpx is unmarked = absurd is
          may_go server (Shard i) is unmarked = absurd is
          may_go server Ecx is unmarked = (not_held server unmarked, tt)
          may_go server Ecj is unmarked = (not_held server unmarked, tt)
          may_go server Vif is unmarked = (not_held server unmarked, tt)

          spare_stray : (k : Place) → IsStray v keeps k → IsSpare v (files_in two) k
          spare_stray k is = let may = may_go is.0 is.1 is.3 is.4 in (is.0, is.1, is.2, may.0, may.1)

          stray_of : (k : Place) → IsStray v keeps k → IsVolumeFile v k
          stray_of k is = (is.0, is.1, false, (may_go is.0 is.1 is.3 is.4).1, is.2)

          module _ (three : Disk) (strays : TakesAway (IsStray v keeps) two three) where
            two_settled : IsSettled start.files → IsSettled two.files
            two_settled settled = lacks_settled takes.files (spread.settled settled)

            pub settles_three : Settles (IsVolumeFile v) start three
            settles_three = settles_on two_settled settles_two (settles_more stray_of (spare_settles v (IsStray v keeps) two three h two_coded two_same spare_stray strays))

            spare_lacks : LacksSome (IsSpare v (files_in two)) (contents two.files) (contents three.files)
            spare_lacks k = ⊎_elim (λ same. inl same) (λ went. inr (spare_stray k went.0, went.1)) (lacks_standing strays.files k)

            three_thinned : IsCodedThinned (files_in two) (files_in three)
            three_thinned = spare_thinned (contents two.files) (contents three.files) v h spare_lacks

            three_keeps : KeepsMeaning (contents start.files) (contents three.files)
            three_keeps =
                keeps_on (contents start.files) (contents two.files) (contents three.files) two_keeps
                (keeps_spare_gone (contents two.files) (contents three.files) v h spare_lacks two_coded two_same)

            three_tested : IsTestedCoded (files_in three) ids
            three_tested = thinned_tested (files_in two) (files_in three) three_thinned ids two_same two_tested

            kept : (server i : ℕ) → shard_home (files_in start) i ≡ Some server → files_in three server (Shard i) ≡ files_in start server (Shard i)
            kept server i home =
                let at_one : shard_home (files_in one) i ≡ Some server = one_home i ∙ home in
                three_thinned.homes i server (thinned_home (files_in one) (files_in two) two_thinned i server at_one)
                ∙ two_thinned.homes i server at_one
                ∙ one_has.others server (Shard i) (λ e. cc)

            held_two : (server : ℕ) → IsHolder (files_in three) server → IsHolder (files_in two) server
            held_two = thinned_held (files_in two) (files_in three) three_thinned

            held_one : (server : ℕ) → IsHolder (files_in three) server → IsHolder (files_in one) server
            held_one server holds = thinned_held (files_in one) (files_in two) two_thinned server (held_two server holds)

            no_file : (server : ℕ) (kind : Kind) → three.files (place_of v server kind false) ≡ None → stands (files_in three) server kind ≡ true → ⊥
            no_file server kind none st = true≢false (sym st ∙ ap (λ (o : Option disk.File). is_some (disk.standing o)) none)

            no_index : (server : ℕ) → server < 64 → has_index (files_in three) server ≡ true → ⊥
            no_index server low has = true≢false (sym has ∙ lowest-none (has_index (files_in three)) (coded_form (files_in three) three_tested.coded).no_index server low)

            module _ (gone_beside : AreStraysGone v keeps three.files) where
              beside_held : (server : ℕ) (kind : Kind) → IsBesideKind kind → stands (files_in three) server kind ≡ true → IsHolder (files_in three) server
              beside_held server kind is st = by_mark (slice_index_or keeps server false) refl
                where
                  by_mark : (b : Bool) → slice_index_or keeps server false ≡ b → IsHolder (files_in three) server
                  by_mark false e = absurd (no_file server kind (gone_beside server kind is e) st)
                  by_mark true e =
                      let home = marks.home server e in
                      let was = home_stands (files_in start) home.0 server home.2 in
                      holder_stands (files_in three) server home.0 home.1 (was.0, ap is_some (kept server home.0 home.2) ∙ was.1)

              at_holders : (server : ℕ) (kind : Kind) → IsKind kind → Stands (files_in three) server kind → IsHolder (files_in three) server
              at_holders server Dat is st = absurd (no_file server Dat (stays_gone (place_of v server Dat false) strays.files (gone.no_dat server)) st.1)
              at_holders server Idx is st = absurd (no_index server st.0 (named_has (files_in three) server st.1))
              at_holders server Cpd is st = absurd (no_file server Cpd (stays_gone (place_of v server Cpd false) strays.files (gone.no_cpd server)) st.1)
              at_holders server Cpx is st = absurd (no_index server st.0 (made_has (files_in three) server st.1))
              at_holders server (Shard i) is st = holder_stands (files_in three) server i is st
              at_holders server Ecx is st = beside_held server Ecx tt st.1
              at_holders server Ecj is st = beside_held server Ecj tt st.1
              at_holders server Vif is st = beside_held server Vif tt st.1

              pub left_coded : IsLeftCoded (files_in start) (files_in three) ids
              left_coded = record {
                shards = λ server i k st. two_home server i k (was_there (files_in two) (files_in three) three_thinned server (Shard i) st.1);
                kept = λ server i k home. kept server i home;
                texts = λ server holds.
                    three_thinned.texts server holds ∙ two_thinned.texts server (held_two server holds) ∙ one_has.others server Vif (λ e. cc);
                indexes = λ server holds.
                    three_thinned.indexes server holds ∙ two_thinned.indexes server (held_two server holds) ∙ one_has.others server Ecx (λ e. cc);
                journals = λ server holds.
                    ap (λ (o : Option (List ℕ)). unwrap_or o []) (three_thinned.journals server holds ∙ two_thinned.journals server (held_two server holds))
                    ∙ one_has.journals server (spread_held (files_in start) (files_in one) ids one_has server (held_one server holds));
                no_dat = λ server low. ap disk.standing (stays_gone (place_of v server Dat false) strays.files (gone.no_dat server));
                no_cpd = λ server low. ap disk.standing (stays_gone (place_of v server Cpd false) strays.files (gone.no_cpd server));
                at_holders = at_holders;
              }

              -- temporary files
              no_temp : (server : ℕ) (kind : Kind) → IsKind kind → start.files (place_of v server kind true) ≡ None → three.files (place_of v server kind true) ≡ None
              no_temp server kind is none =
                  stays_gone (place_of v server kind true) strays.files (stays_gone (place_of v server kind true) takes.files (by_place (place_cases (place_of v server kind true) (place_of v server Ecj true))))
                where
                  by_place : (place_of v server kind true ≡ place_of v server Ecj true) ⊎ (place_of v server kind true ≢ place_of v server Ecj true) → one.files (place_of v server kind true) ≡ None
                  by_place (inl same) =
                      subst (λ (p : Place). one.files p ≡ None) (sym same)
                      (⊎_elim (λ was. was ∙ sym (ap start.files same) ∙ none) (λ went. went) (spread.temps server))
                  by_place (inr other) = spreads.touches.others (place_of v server kind true) (λ at. by_temp at.0 at.1 at.3) ∙ none
                    where
                      by_temp : (t : ℕ) (temp : Bool) → place_of v server kind true ≡ place_of v t Ecj temp → ⊥
                      by_temp t false e = temp_apart v t server Ecj kind h (sym e)
                      by_temp t true e = other (e ∙ ap (λ (s : ℕ). place_of v s Ecj true) (sym (ap (λ (p : Place). p.0) e)))

              pub settled_coded : IsSettledCoded v ids start.files three.files
              settled_coded = record {
                tested = three_tested;
                left = left_coded;
                ids_fit = fit;
                keeps = three_keeps;
                temps = no_temp;
                settled = λ settled. lacks_settled strays.files (two_settled settled);
              }
