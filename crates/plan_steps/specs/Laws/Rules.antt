-- The rules of a coded volume hold of files that hold its parts, as long as the shards suffice, also while an index stands
-- beside them, as in a decode.
use Rattle.std.proofs.Common.{◌≡◌, inl, ℕ, zero, suc, ◌<◌, ◌≤◌, true, List, [], ◌∷◌, length, Option, Some, None, is_some, IsTrue, refl, sym, ◌∙◌, ap, subst, arith}
use Rattle.std.specs.Prelude.{map, slice_get, unwrap_or, Contains}
use Rattle.std.specs.List.{AllByRecursion}
use mathlib.Core.Bool.{true≢false}
use Rattle.image_meaning.specs.Laws.Options.{none_some, some_is}
use Rattle.file_names.specs.declared.Kind.TheVariants.{Shard, Ecx}
use Rattle.file_names.specs.Names.{max_shards}
use Rattle.volume_forms.specs.Forms.{has_super, entries}
use Rattle.needle_record.specs.Records.{records, end_of, live}
use Rattle.stripe_layout.specs.Stripes.{shard_length, IsStriped}
use Rattle.image_meaning.specs.Files.{VolumeFiles, bytes_at}
use Rattle.volume_forms.specs.Kept.{entry_end}
use Rattle.image_meaning.specs.Coded.{dat_of}
use Rattle.image_meaning.specs.Sound.{Stands, IsHolder, IsSortedIndex, IsSoundCoded}
use Rattle.image_meaning.specs.Parts.{Parts, AreSoundParts, IsMadeOf, HasEnough}
use Rattle.image_meaning.specs.HeldParts.{HoldsParts, held_made, held_all}
use Rattle.image_meaning.specs.Laws.Part.{made_home, made_info, made_dat}
use Rattle.plan_steps.specs.Laws.Legal.{numbered}

all_at : {A : Type 0} (P : A → Type 0) (xs : List A) (i : ℕ) (x : A) → AllByRecursion P xs → slice_get xs i ≡ Some x → P x
all_at P [] i x all e = absurd (none_some e)
all_at P (y ∷ xs) zero x all e = subst P (some_is y x e) all.0
all_at P (y ∷ xs) (suc i) x all e = all_at P xs i x all.1 e

there : (o : Option (List ℕ)) → is_some o ≡ true → o ≡ Some (unwrap_or o [])
there None e = absurd (true≢false (sym e))
there (Some bytes) e = refl

module _ (t : Parts) (good : AreSoundParts t) (files : VolumeFiles) (holds : HoldsParts t files) (enough : HasEnough t files) where
  made : IsMadeOf t files
  made = held_made t files holds

  dat_is : dat_of files ≡ t.dat
  dat_is = made_dat t files made enough good

  index_is : (server : ℕ) → IsHolder files server → bytes_at files server Ecx ≡ t.index
  index_is server h = ap (λ (o : Option (List ℕ)). unwrap_or o []) (made.indexes server h)

  shard_is : (server i : ℕ) → i < max_shards → Stands files server (Shard i) → slice_get t.shards i ≡ Some (bytes_at files server (Shard i))
  shard_is server i h st = made.stand.each server i h st ∙ there (files server (Shard i)) st.1

  pub held_rules : IsSoundCoded files
  held_rules = record {
    info = t.info;
    texts = record { first = made_info t files made enough; each = made.texts };
    index = record {
      there = λ server h. (h.0, ap is_some (made.indexes server h));
      same = λ s u h k. index_is s h ∙ sym (index_is u k);
      sorted = λ server h. subst IsSortedIndex (sym (index_is server h)) good.sorted;
      ends = λ server h. subst (λ b. AllByRecursion (λ e. entry_end e ≤ t.info.dat_size) (entries b)) (sym (index_is server h)) good.ends;
    };
    lengths = record {
      numbers = λ server i h st. omega (arith, numbered t.shards i (Some (bytes_at files server (Shard i))) (shard_is server i h st) refl, good.striped.count);
      each = λ server i h st.
          all_at (λ s. length s ≡ shard_length t.info.geometry (length t.dat)) t.shards i (bytes_at files server (Shard i)) good.striped.lengths (shard_is server i h st)
          ∙ ap (shard_length t.info.geometry) good.size;
    };
    stripes = record { shards = t.shards; striped = subst (λ d. IsStriped t.info.geometry d t.shards) (sym dat_is) good.striped; each = made.stand.each };
    journal = record {
      longest = t.deleted;
      some_holder = let home = made_home t files made enough in (home.0, home.1, held_all t files holds home.0 home.1);
      each = λ server h. inl (held_all t files holds server h);
      distinct = good.distinct;
      known = λ server h. subst (λ b. AllByRecursion (λ id. Contains (map (λ e. e.id) (entries b)) id) t.deleted) (sym (index_is server h)) good.known;
      room = good.room;
      rest = made.rests;
    };
    live_records = record {
      super = subst (λ d. IsTrue (has_super d)) (sym dat_is) good.super;
      to_end = subst (λ d. end_of (records d) ≡ length d) (sym dat_is) good.to_end;
      live_entries = λ server h. ap entries (index_is server h) ∙ good.live_entries ∙ ap (λ d. live (records d)) (sym dat_is);
    };
  }
