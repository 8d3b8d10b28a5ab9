-- Which shards of a volume stand after the commands that were run on it.
-- What nothing cites yet is for the store with jobs, to come.
use Rattle.std.proofs.Common.{◌≡◌, ℕ, ◌+◌, ◌<◌, ◌≤◌, Bool, true, false, cond, List, [], ◌∷◌, ◌++◌, Option, Some, None, is_some, refl, sym, ◌∙◌, ap, subst, arith}
use Rattle.std.specs.Prelude.{◌==◌, count_by, MatchBool}
use Rattle.std.specs.List.{last_or}
use Rattle.std.proofs.lemmas.Bool.{ne_eqb}
use Rattle.std.proofs.lemmas.List.Sums.{sum_by-append}
use Rattle.world_model.specs.declared.types.Command.{Command}
use Rattle.world_model.specs.declared.types.Command.TheVariants.{Encode, Rebuild, Balance, Decode}
use Rattle.world_model.specs.declared.types.Ratio.{Ratio}
use Rattle.world_model.specs.Ratios.{data_count, parity_count}
use Rattle.file_names.specs.declared.Kind.TheVariants.{Shard}
use Rattle.file_names.specs.Names.{max_shards}
use Rattle.image_meaning.specs.Files.{VolumeFiles, all_shards}
use Rattle.image_meaning.specs.Coded.{ratio_of, deleted_at}
use Rattle.image_meaning.specs.Sound.{Stands, IsHolder, IsCoded}
use Rattle.image_meaning.specs.Ends.{IsWhole, IsEven, shards_at}

abbrev pub makes_shards : Command → Bool
makes_shards (Encode ratio) = true
makes_shards Rebuild = true
makes_shards Balance = false
makes_shards Decode = false

-- where the last command left the shards
abbrev pub AfterLast : Option Command → VolumeFiles → ℕ → Type 0
AfterLast None files servers = Unit {0}
AfterLast (Some (Encode ratio)) files servers = IsWhole files × IsEven files servers
AfterLast (Some Rebuild) files servers = IsWhole files × IsEven files servers
AfterLast (Some Balance) files servers = IsEven files servers
AfterLast (Some Decode) files servers = Unit {0}

-- each shard that there was is there
abbrev pub KeepsCopies : VolumeFiles → VolumeFiles → Type 0
KeepsCopies old new = (server i : ℕ) → i < max_shards → Stands old server (Shard i) → (s : ℕ) × Stands new s (Shard i)

pub copies_none : (files : VolumeFiles) → KeepsCopies files files
copies_none files server i h stands = (server, stands)

pub copies_on : (old mid new : VolumeFiles) → KeepsCopies old mid → KeepsCopies mid new → KeepsCopies old new
copies_on old mid new first second server i h stands = let between = first server i h stands in second between.0 i h between.1

-- Of a coded volume, by the commands on it that have ended: the last one's promise, and all shards of the opening or, where
-- some command makes shards, all that there are.
pub record ShardsSo (servers : ℕ) (opening files : VolumeFiles) (commands : List Command) : Type 0 where
  pub last : IsCoded files → AfterLast (last_or None commands) files servers
  pub kept : IsCoded files → MatchBool (0 == count_by makes_shards commands) (KeepsCopies opening files) (IsWhole files)

-- all shards that the ratio has stand
abbrev pub HasAllShards : VolumeFiles → Type 0
HasAllShards files = (i : ℕ) → i < data_count (ratio_of files) + parity_count (ratio_of files) → (server : ℕ) × Stands files server (Shard i)

-- what the end of a plan makes of the shards that stood as it began
abbrev pub EndsShards : Command → VolumeFiles → VolumeFiles → ℕ → Type 0
EndsShards (Encode ratio) start now servers = IsWhole now × IsEven now servers
EndsShards Rebuild start now servers = IsWhole now × IsEven now servers
EndsShards Balance start now servers = IsCoded start × IsEven now servers × KeepsCopies start now × (HasAllShards start → IsWhole now)
EndsShards Decode start now servers = IsCoded now → ⊥

last_push : {A : Type 0} (o : Option A) (xs : List A) (x : A) → last_or o (xs ++ x ∷ []) ≡ Some x
last_push o [] x = refl
last_push o (y ∷ xs) x = last_push (Some y) xs x

count_push : (commands : List Command) (command : Command) → count_by makes_shards (commands ++ command ∷ []) ≡ count_by makes_shards commands + count_by makes_shards (command ∷ [])
count_push commands command = sum_by-append (λ c. cond (makes_shards c) 1 0) commands (command ∷ [])

some_made : (n m : ℕ) → m ≡ 1 → (0 == (n + m)) ≡ false
some_made n m e = ne_eqb 0 (n + m) (λ h. omega (arith, h, e))

none_made : (n m : ℕ) → m ≡ 0 → (0 == (n + m)) ≡ (0 == n)
none_made n m e = ap (λ k. 0 == k) (omega (arith, e))

whole_after : (opening files : VolumeFiles) (commands : List Command) (command : Command) → count_by makes_shards (command ∷ []) ≡ 1 → IsWhole files
    → MatchBool (0 == count_by makes_shards (commands ++ command ∷ [])) (KeepsCopies opening files) (IsWhole files)
whole_after opening files commands command one whole =
    subst (λ b. MatchBool b (KeepsCopies opening files) (IsWhole files))
    (sym (ap (λ n. 0 == n) (count_push commands command) ∙ some_made (count_by makes_shards commands) (count_by makes_shards (command ∷ [])) one)) whole

-- a command that has ended
pub shards_ended : (servers : ℕ) (opening start now : VolumeFiles) (commands : List Command) (command : Command) → ShardsSo servers opening start commands
    → EndsShards command start now servers → ShardsSo servers opening now (commands ++ command ∷ [])
shards_ended servers opening start now commands (Encode ratio) so ends = record {
  last = λ coded. subst (λ o. AfterLast o now servers) (sym (last_push None commands (Encode ratio))) ends;
  kept = λ coded. whole_after opening now commands (Encode ratio) refl ends.0;
}
shards_ended servers opening start now commands Rebuild so ends = record {
  last = λ coded. subst (λ o. AfterLast o now servers) (sym (last_push None commands Rebuild)) ends;
  kept = λ coded. whole_after opening now commands Rebuild refl ends.0;
}
shards_ended servers opening start now commands Balance so ends = record {
  last = λ coded. subst (λ o. AfterLast o now servers) (sym (last_push None commands Balance)) ends.1;
  kept = λ coded. subst (λ b. MatchBool b (KeepsCopies opening now) (IsWhole now))
      (sym (ap (λ n. 0 == n) (count_push commands Balance) ∙ none_made (count_by makes_shards commands) (count_by makes_shards (Balance ∷ [])) refl))
      (by_made (0 == count_by makes_shards commands) (so.kept ends.0));
}
  where
    by_made : (b : Bool) → MatchBool b (KeepsCopies opening start) (IsWhole start) → MatchBool b (KeepsCopies opening now) (IsWhole now)
    by_made true keeps = copies_on opening start now keeps ends.2
    by_made false whole = ends.3 whole.there
shards_ended servers opening start now commands Decode so ends = record { last = λ coded. absurd (ends coded); kept = λ coded. absurd (ends coded) }

-- A line changes no shard and no text: a deletion adds an id to each journal.
pub record SameShards (old new : VolumeFiles) : Type 0 where
  pub coded : IsCoded new → IsCoded old
  pub shards : (server i : ℕ) → new server (Shard i) ≡ old server (Shard i)
  pub ratio : ratio_of new ≡ ratio_of old
  pub same_journal : (s t : ℕ) → IsHolder new s → IsHolder new t → deleted_at new s ≡ deleted_at new t

module _ (servers : ℕ) (opening old new : VolumeFiles) (commands : List Command) (same : SameShards old new) where
  stood : (server i : ℕ) → Stands new server (Shard i) → Stands old server (Shard i)
  stood server i h = (h.0, ap is_some (sym (same.shards server i)) ∙ h.1)

  stands_still : (server i : ℕ) → Stands old server (Shard i) → Stands new server (Shard i)
  stands_still server i h = (h.0, ap is_some (same.shards server i) ∙ h.1)

  still_whole : IsCoded new → IsWhole old → IsWhole new
  still_whole coded whole = record {
    coded = coded;
    there = λ i h. let found = whole.there i (subst (λ (r : Ratio). i < data_count r + parity_count r) same.ratio h) in (found.0, stands_still found.0 i found.1);
    once = λ s t i h a b. whole.once s t i h (stood s i a) (stood t i b);
    same_journal = same.same_journal;
  }

  same_count : (server : ℕ) → shards_at new server ≡ shards_at old server
  same_count server = λ j. count_by (λ i. is_some (same.shards server i j)) all_shards

  still_even : IsEven old servers → IsEven new servers
  still_even even s t h k = subst (λ n. shards_at new s ≤ n + 1) (sym (same_count t)) (subst (λ n. n ≤ shards_at old t + 1) (sym (same_count s)) (even s t h k))

  pub shards_same : ShardsSo servers opening old commands → ShardsSo servers opening new commands
  shards_same so = record {
    last = λ coded. by_last (last_or None commands) coded (so.last (same.coded coded));
    kept = λ coded. by_made (0 == count_by makes_shards commands) coded (so.kept (same.coded coded));
  }
    where
      by_last : (o : Option Command) → IsCoded new → AfterLast o old servers → AfterLast o new servers
      by_last None coded after = tt
      by_last (Some (Encode ratio)) coded after = (still_whole coded after.0, still_even after.1)
      by_last (Some Rebuild) coded after = (still_whole coded after.0, still_even after.1)
      by_last (Some Balance) coded after = still_even after
      by_last (Some Decode) coded after = tt

      by_made : (b : Bool) → IsCoded new → MatchBool b (KeepsCopies opening old) (IsWhole old) → MatchBool b (KeepsCopies opening new) (IsWhole new)
      by_made true coded keeps = λ server i h stands. let found = keeps server i h stands in (found.0, stands_still found.0 i found.1)
      by_made false coded whole = still_whole coded whole
