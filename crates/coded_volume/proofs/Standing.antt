-- The servers of all copies are the holders.
use Rattle.std.proofs.Common.{◌≡◌, ℕ, ◌+◌, ◌<◌, ◌≤◌, Bool, true, false, zero, suc, List, [], ◌∷◌, ◌++◌, length, Some, inl, inr, refl, sym, ◌∙◌, ap, subst, arith}
use Rattle.std.specs.Prelude.{◌⊎◌, ◌||◌, Contains, slice_index_or}
use Rattle.std.specs.List.{All, Any, AllWithin, list_any, range_with_len}
use Rattle.std.proofs.lemmas.List.{get_or_default}
use Rattle.std.proofs.lemmas.List.Elements.{All-push, All-contains, AllWithin-more, Contains-append_left, Contains-push}
use Rattle.std.proofs.lemmas.Bool.{cases_lt}
use mathlib.Core.Bool.{true≢false}
use Rattle.file_names.specs.Names.{max_shards}
use Rattle.file_names.specs.declared.Kind.TheVariants.{Shard}
use Rattle.image_meaning.specs.Files.{VolumeFiles, stands, is_holder}
use Rattle.image_meaning.specs.Coded.{first_holder}
use Rattle.image_meaning.specs.Sound.{IsHolder, Stands}
use Rattle.image_meaning.specs.Laws.Servers.{lowest-some, lowest-exists}
use Rattle.image_meaning.specs.Laws.CodedLoss.{any_range}
use Rattle.coded_volume.specs.declared.checking.ShardCopy.{ShardCopy}
use Rattle.coded_volume.specs.declared.checking.holders.Holders.{Holders}
use Rattle.coded_volume.specs.Checking.{AreCopies, AreStanding, AreServersOf, AreBelow, AreHolders}

-- ---- one copy after the other

-- the server is the first, or one of the others
abbrev pub IsAmong : ℕ → List ℕ → ℕ → Type 0
IsAmong first others server = (server ≡ first) ⊎ Contains others server

-- the servers of the first n copies
pub record HasServers (copies : List ShardCopy) (n first last : ℕ) (others : List ℕ) : Type 0 where
  pub others_have : All (λ server. Any (λ (copy : ShardCopy). copy.server ≡ server) copies) others
  pub all : AllWithin (λ (copy : ShardCopy). IsAmong first others copy.server) copies 0 n
  pub last_is : IsAmong first others last

module _ (copies : List ShardCopy) (n first last : ℕ) (others : List ℕ) (d : ShardCopy) (fits : n < length copies) (has : HasServers copies n first last others) where
  pub servers_same : (slice_index_or copies n d).server ≡ last → HasServers copies (n + 1) first last others
  servers_same same = record {
    others_have = has.others_have;
    all = AllWithin-more (λ (copy : ShardCopy). IsAmong first others copy.server) copies 0 n has.all (λ e. subst (λ (copy : ShardCopy). IsAmong first others copy.server) (get_or_default copies n d e fits) (subst (IsAmong first others) (sym same) has.last_is));
    last_is = has.last_is;
  }

  more : (x : ℕ) (server : ℕ) → IsAmong first others server → IsAmong first (others ++ x ∷ []) server
  more x server (inl same) = inl same
  more x server (inr one) = inr (Contains-append_left others (x ∷ []) server one)

  pub servers_more : HasServers copies (n + 1) first (slice_index_or copies n d).server (others ++ (slice_index_or copies n d).server ∷ [])
  servers_more =
      let x : ℕ = (slice_index_or copies n d).server in
      record {
        others_have = All-push (λ server. Any (λ (copy : ShardCopy). copy.server ≡ server) copies) others x has.others_have (n, slice_index_or copies n d, fits, get_or_default copies n (slice_index_or copies n d) d fits, refl);
        all = AllWithin-more (λ (copy : ShardCopy). IsAmong first (others ++ x ∷ []) copy.server) copies 0 n (λ k e low lt. more x (slice_index_or copies k e).server (has.all k e low lt))
            (λ e. subst (λ (copy : ShardCopy). IsAmong first (others ++ x ∷ []) copy.server) (get_or_default copies n d e fits) (inr (Contains-push others x)));
        last_is = inr (Contains-push others x);
      }

-- by the values that the loop has then
module _ (copies : List ShardCopy) (n first last : ℕ) (others : List ℕ) (d : ShardCopy) (fits : n < length copies) (has : HasServers copies n first last others) (new_last : ℕ) (new_others : List ℕ) where
  pub servers_then : new_last ≡ (slice_index_or copies n d).server → new_others ≡ others ++ (slice_index_or copies n d).server ∷ [] → HasServers copies (n + 1) first new_last new_others
  servers_then e f = subst (λ l. HasServers copies (n + 1) first l new_others) (sym e) (subst (λ (l : List ℕ). HasServers copies (n + 1) first (slice_index_or copies n d).server l) (sym f) (servers_more copies n first last others d fits has))

  pub servers_else : (slice_index_or copies n d).server ≡ last → new_last ≡ last → new_others ≡ others → HasServers copies (n + 1) first new_last new_others
  servers_else same e f = subst (λ l. HasServers copies (n + 1) first l new_others) (sym e) (subst (λ (l : List ℕ). HasServers copies (n + 1) first last l) (sym f) (servers_same copies n first last others d fits has same))

-- ---- the holders

no_copy : ShardCopy
no_copy = record { server = 0; shard = 0 }

any_is : (test : ℕ → Bool) (a n : ℕ) → list_any test (range_with_len a n) ≡ true → (i : ℕ) × (i < a + n) × (test i ≡ true)
any_is test a zero e = absurd (true≢false (sym e))
any_is test a (suc n) e = by_test (test a) refl e (any_is test (a + 1) n)
  where
    by_test : (b : Bool) → test a ≡ b → (b || list_any test (range_with_len (a + 1) n)) ≡ true → (list_any test (range_with_len (a + 1) n) ≡ true → (i : ℕ) × (i < a + 1 + n) × (test i ≡ true)) → (i : ℕ) × (i < a + suc n) × (test i ≡ true)
    by_test true is h rest = (a, omega arith, is)
    by_test false is h rest = let found = rest h in (found.0, omega (arith, found.1), found.2)

module _ (files : VolumeFiles) where
  pub holder_stands : (server i : ℕ) → i < max_shards → Stands files server (Shard i) → IsHolder files server
  unfolding is_holder
  holder_stands server i h stand = (stand.0, any_range (λ j. stands files server (Shard j)) 0 max_shards i (omega arith) (omega arith) stand.1)

  pub stands_holder : (server : ℕ) → IsHolder files server → (i : ℕ) × (i < max_shards) × Stands files server (Shard i)
  unfolding is_holder
  stands_holder server holds = let found = any_is (λ j. stands files server (Shard j)) 0 max_shards holds.1 in (found.0, omega (arith, found.1), (holds.0, found.2))

module _ (files : VolumeFiles) (servers : ℕ) (copies : List ShardCopy) (holders : Holders) (are : AreCopies servers copies) (of : AreServersOf copies holders) where
  pub are_below : AreBelow servers holders
  are_below = record {
    first = subst (λ s. s < servers) (of.first no_copy) (are.on_servers 0 no_copy are.some);
    others = λ k d lt.
        let at = of.others k d lt in
        subst (λ s. s < servers) at.4 (All-contains (λ (copy : ShardCopy). copy.server < servers) copies at.1 are.on_servers (at.0, at.2, at.3));
  }

  module _ (stand : AreStanding files copies) where
    of_copy : (copy : ShardCopy) → Contains copies copy → IsHolder files copy.server
    of_copy copy there =
        holder_stands files copy.server copy.shard (All-contains (λ (c : ShardCopy). c.shard < max_shards) copies copy are.numbers there)
        (All-contains (λ (c : ShardCopy). Stands files c.server (Shard c.shard)) copies copy stand.stand there)

    first_holds : IsHolder files holders.first
    first_holds = subst (IsHolder files) (of.first no_copy) (of_copy (slice_index_or copies 0 no_copy) (0, are.some, get_or_default copies 0 (slice_index_or copies 0 no_copy) no_copy are.some))

    copy_of : (server : ℕ) → IsHolder files server → (copy : ShardCopy) × Contains copies copy × (copy.server ≡ server)
    copy_of server holds =
        let shard = stands_holder files server holds in
        (record { server = server; shard = shard.0 }, stand.all server shard.0 shard.1 shard.2, refl)

    not_before : (server : ℕ) → IsHolder files server → holders.first ≤ server
    not_before server holds =
        let one = copy_of server holds in
        by_place one.0 one.1.0 one.1.1 one.1.2 one.2
      where
        by_place : (copy : ShardCopy) (k : ℕ) → k < length copies → slice_index_or copies k copy ≡ copy → copy.server ≡ server → holders.first ≤ server
        by_place copy zero lt at same =
            let e : holders.first ≡ server = sym (of.first copy) ∙ ap (λ (c : ShardCopy). c.server) at ∙ same in omega (arith, e)
        by_place copy (suc k) lt at same =
            let e : (slice_index_or copies 0 copy).server ≡ holders.first = of.first copy in
            let f : (slice_index_or copies (suc k) copy).server ≡ server = ap (λ (c : ShardCopy). c.server) at ∙ same in
            let h : (slice_index_or copies 0 copy).server ≤ (slice_index_or copies (suc k) copy).server = are.rise 0 (suc k) copy (omega arith) lt in
            omega (arith, e, f, h)

    first_is : first_holder files ≡ Some holders.first
    first_is =
        let found = lowest-exists (is_holder files) holders.first first_holds.0 first_holds.1 in
        let is = lowest-some (is_holder files) found.0 found.1 in
        let low : holders.first ≤ found.0 = not_before found.0 (is.1, is.0.passes) in
        found.1 ∙ ap (λ s. Some s) (same found.0 low (λ less. true≢false (sym first_holds.1 ∙ is.0.first holders.first (omega arith) less)))
      where
        same : (s : ℕ) → holders.first ≤ s → (holders.first < s → ⊥) → s ≡ holders.first
        same s low none = elim (cases_lt holders.first s) [
          | inl less ↦ absurd (none less)
          | inr le ↦ omega arith
        ]

    pub holders_are : AreHolders files holders
    holders_are = record {
      lowest = first_is;
      first = first_holds;
      others = λ k d lt.
          let at = of.others k d lt in
          subst (IsHolder files) at.4 (of_copy at.1 (at.0, at.2, at.3));
      all = λ server holds.
          let one = copy_of server holds in
          subst (λ s. (s ≡ holders.first) ⊎ Contains holders.others.items s) one.2 (All-contains (λ (c : ShardCopy). (c.server ≡ holders.first) ⊎ Contains holders.others.items c.server) copies one.0 of.all one.1);
    }
