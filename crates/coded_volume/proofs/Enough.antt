-- When the files of a volume are coded, whatever their text tells.
use Rattle.std.proofs.Common.{◌≡◌, inl, inr, ℕ, zero, suc, ◌+◌, ◌<◌, ◌≤◌, Bool, true, false, cond, List, ◌∷◌, length, Option, Some, None, is_some, IsTrue, refl, sym, ◌∙◌, ap, subst, arith}
use Rattle.std.specs.Prelude.{◌||◌, IsSome, IfSome, filter}
use Rattle.std.specs.List.{range_with_len}
use mathlib.Core.Bool.{true≢false}
use Rattle.site_model.specs.Disk.{Files, IsPossible}
use Rattle.site_model.specs.Disk as disk
use Rattle.file_names.specs.Names.{place_of}
use Rattle.file_names.specs.declared.Kind.{Kind}
use Rattle.file_names.specs.declared.Kind.TheVariants.{Shard, Idx, Cpx}
use Rattle.world_model.specs.Ratios.{data_count-twelve}
use Rattle.shard_table.specs.Table.{Row, IsRow, place_in}
use Rattle.image_meaning.specs.Files.{VolumeFiles, stands, has_index, index_at, shard_home, standing}
use Rattle.image_meaning.specs.Plain.{index_home}
use Rattle.image_meaning.specs.Coded.{ratio_of}
use Rattle.image_meaning.specs.Laws.Servers.{lowest-some, lowest-exists}
use Rattle.image_meaning.specs.Laws.LossLaw.{is_coded}
use Rattle.std.proofs.lemmas.Bool.{cases_lt}
use Rattle.coded_volume.specs.Checking.{files_on}
use Rattle.coded_volume.specs.CheckingTests.{HasTwelve, HasRows, IsCodedAs}
use Rattle.coded_volume.specs.Opening.{IsTableOf}

pub index_is : (files : VolumeFiles) (server : ℕ) → (stands files server Idx || stands files server Cpx) ≡ has_index files server
unfolding index_at
index_is files server = by_files (files server Idx) (files server Cpx)
  where
    by_files : (idx cpx : Option (List ℕ)) → (is_some idx || is_some cpx) ≡ is_some (cond (is_some cpx) cpx idx)
    by_files None None = refl
    by_files None (Some b) = refl
    by_files (Some a) None = refl
    by_files (Some a) (Some b) = refl

filter_front : (p : ℕ → Bool) (a n k : ℕ) → k ≤ n → ((i : ℕ) → a ≤ i → i < a + k → p i ≡ true) → k ≤ length (filter p (range_with_len a n))
filter_front p a n zero h all = omega arith
filter_front p a zero (suc k) h all = absurd (omega arith)
filter_front p a (suc n) (suc k) h all =
    let rest = filter_front p (a + 1) n k (omega arith) (λ i low high. all i (omega arith) (omega arith)) in
    by_test (p a) (all a (omega arith) (omega arith)) rest
  where
    by_test : (b : Bool) → b ≡ true → k ≤ length (filter p (range_with_len (a + 1) n)) → suc k ≤ length (cond b (a ∷ filter p (range_with_len (a + 1) n)) (filter p (range_with_len (a + 1) n)))
    by_test true e rest = omega (arith, rest)
    by_test false e rest = absurd (true≢false (sym e))

none_stands : (files : Files) (v : ℕ) (servers : ℕ) → IsPossible servers files → (server : ℕ) (kind : Kind) → servers ≤ server → files_on files v server kind ≡ None
none_stands files v servers possible server kind far = ap disk.standing (possible.nowhere_else (place_of v server kind false) far)

module _ (row : Row) (files : Files) (possible : IsPossible 4 files) (is : IsRow 4 row) (twelve : HasTwelve row) (rows : HasRows row (files_on files 7) 4) where
  abbrev here : VolumeFiles
  here = files_on files 7

  place_of_shard : (i : ℕ) → i < 12 → (server : ℕ) × (place_in row i ≡ Some server)
  place_of_shard i low = by_place (place_in row i) refl (twelve i low)
    where
      by_place : (o : Option ℕ) → place_in row i ≡ o → IsSome o → (server : ℕ) × (place_in row i ≡ Some server)
      by_place None e some = absurd (true≢false (sym some))
      by_place (Some server) e some = (server, e)

  on_server : (server i : ℕ) → i < 16 → place_in row i ≡ Some server → server < 4
  on_server server i low at = subst (λ (o : Option ℕ). IfSome o (λ n. n < 4)) at (is.on_servers i None (omega (arith, is.shards)))

  stands_low : (server : ℕ) (kind : Kind) → IsTrue (stands here server kind) → server < 4
  stands_low server kind there = elim (cases_lt server 4) [
    | inl low ↦ low
    | inr far ↦ absurd (true≢false (sym there ∙ ap is_some (none_stands files 7 4 possible server kind far)))
  ]

  table_is : IsTableOf row here
  table_is = record {
    stands = λ server i low at.
        let s = on_server server i low at in (omega (arith, s), (rows server s).1.stand i low at);
    only = λ server i low there. (rows server (stands_low server (Shard i) there.1)).1.only i low there.1;
  }

  none_indexed : index_home here ≡ None
  unfolding index_at
  none_indexed = by_home (index_home here) refl
    where
      no_index : (server : ℕ) → has_index here server ≡ false
      no_index server = elim (cases_lt server 4) [
        | inl low ↦ (rows server low).0
        | inr far ↦ sym (index_is here server) ∙ ap (λ (o : Option (List ℕ)). is_some o || stands here server Cpx) (none_stands files 7 4 possible server Idx far) ∙ ap is_some (none_stands files 7 4 possible server Cpx far)
      ]

      by_home : (o : Option ℕ) → index_home here ≡ o → index_home here ≡ None
      by_home None e = e
      by_home (Some server) e = absurd (true≢false (sym (lowest-some (has_index here) server e).0.passes ∙ no_index server))

  enough : 12 ≤ length (standing here)
  unfolding standing
  enough = filter_front (λ i. is_some (shard_home here i)) 0 16 12 (omega arith) (λ i low high.
      let at = place_of_shard i (omega arith) in
      let there = table_is.stands at.0 i (omega arith) at.1 in
      let home = lowest-exists (λ server. stands here server (Shard i)) at.0 there.0 there.1 in
      ap is_some home.1)

  pub coded_as : IsCodedAs row here
  coded_as = record {
    coded = is_coded here (record { no_index = none_indexed; enough = omega (arith, enough, data_count-twelve (ratio_of here)) });
    table = table_is;
    some = let at = place_of_shard 0 (omega arith) in record { shard = 0; server = at.0; number = omega arith; place = at.1 };
  }
