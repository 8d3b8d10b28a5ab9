-- The files of one volume, and the copies of shards among them. For the recovery of coded volumes, to come.
use Rattle.std.proofs.Common.{◌≡◌, ℕ, ◌<◌, ◌≤◌, Bool, true, false, List, length, Option, Some, None, is_some, refl, sym, ◌∙◌, ap, subst, arith}
use Rattle.std.specs.Prelude.{IsSome, Contains, slice_index_or}
use Rattle.std.specs.List.{All, filter_map}
use Rattle.std.specs.List.Sorted.{IsNonDecreasingBy, IsPermutation}
use mathlib.Core.Bool.{true≢false}
use Rattle.std.proofs.lemmas.List.Elements.{All-contains, Contains-get_or}
use Rattle.std.proofs.lemmas.List.Sorted.{Contains-permutation, IsPermutation-sym}
use Rattle.site_model.specs.Disk.{Files}
use Rattle.site_model.specs.Disk as disk
use Rattle.site_model.specs.Counts.{max_servers}
use Rattle.file_names.specs.declared.Kind.{Kind}
use Rattle.file_names.specs.declared.Kind.TheVariants.{Dat, Idx, Cpd, Cpx, Shard, Ecx, Ecj, Vif}
use Rattle.file_names.specs.Names.{IsKind, IsName, max_shards, name_bytes, place_of}
use Rattle.image_meaning.specs.Files.{contents, files_of}
use Rattle.image_meaning.specs.Meaning.{max_volumes}
use Rattle.image_meaning.specs.Sound.{Stands}
use Rattle.coded_volume.specs.declared.checking.ShardCopy.{ShardCopy}
use Rattle.coded_volume.specs.Checking.{AreCopies, AreStanding}
use Rattle.site_recovery.specs.declared.forms.Listed.{Listed}
use Rattle.site_recovery.specs.Listing.{AreFilesIn, AreThoseOf, AreFilesOf, copy_by, copy_of}
use Rattle.site_recovery.proofs.Members.{filter_map_has, filter_map_in}

-- those of a volume among all files are the volume's
pub files_of_volume : (files : Files) (v : ℕ) (found its : List Listed) → AreFilesIn files found → AreThoseOf v found its → AreFilesOf files v its
files_of_volume files v found its are those l = (
  λ has. let one = (those l).0 has in ((are l).0 one.0, one.1),
  λ is. (those l).1 ((are l).1 is.0, is.1),
)

-- what a copy says of its file
pub record IsCopyOf (l : Listed) (c : ShardCopy) : Type 0 where
  pub server : l.server ≡ c.server
  pub kind : l.file.kind ≡ Shard c.shard
  pub final : l.file.temp ≡ false

copy_is : (l : Listed) (c : ShardCopy) → copy_of l ≡ Some c → IsCopyOf l c
copy_is l c e = by_parts l.file.temp l.file.kind refl refl e
  where
    some_is : (a b : ShardCopy) → Some a ≡ Some b → a ≡ b
    some_is a b p = cc

    by_parts : (temp : Bool) (kind : Kind) → l.file.temp ≡ temp → l.file.kind ≡ kind → copy_by l.server temp kind ≡ Some c → IsCopyOf l c
    by_parts true kind p q is = absurd cc
    by_parts false Dat p q is = absurd cc
    by_parts false Idx p q is = absurd cc
    by_parts false Cpd p q is = absurd cc
    by_parts false Cpx p q is = absurd cc
    by_parts false (Shard i) p q is =
        let same = some_is (record { server = l.server; shard = i }) c is in
        record { server = ap (λ (d : ShardCopy). d.server) same; kind = q ∙ ap (λ (d : ShardCopy). Shard d.shard) same; final = p }
    by_parts false Ecx p q is = absurd cc
    by_parts false Ecj p q is = absurd cc
    by_parts false Vif p q is = absurd cc

some_standing : (o : Option disk.File) → IsSome o → is_some (disk.standing o) ≡ true
some_standing None some = absurd (true≢false (sym some))
some_standing (Some file) some = refl

pub standing_some : (o : Option disk.File) → is_some (disk.standing o) ≡ true → IsSome o
standing_some None st = absurd (true≢false (sym st))
standing_some (Some file) st = refl

-- what holds of all files holds of those of a volume
pub those_all : (P : Listed → Type 0) (v : ℕ) (found its : List Listed) → AreThoseOf v found its → All P found → All P its
those_all P v found its those all k d lt = All-contains P found (slice_index_or its k d) all ((those (slice_index_or its k d)).0 (Contains-get_or its k d lt)).0

module _ (its : List Listed) (copies : List ShardCopy) (same : IsPermutation (filter_map copy_of its) copies) where
  -- the file of a copy
  file_of : (c : ShardCopy) → Contains copies c → (l : Listed) × Contains its l × IsCopyOf l c
  file_of c has =
      let found = filter_map_has copy_of its c (Contains-permutation copies (filter_map copy_of its) c (IsPermutation-sym (filter_map copy_of its) copies same) has) in
      (found.0, found.1, copy_is found.0 c found.2)

  module _ (servers : ℕ) (low : All (λ (l : Listed). l.server < servers) its) where
    below : (c : ShardCopy) → Contains copies c → c.server < servers
    below c has = let file = file_of c has in subst (λ s. s < servers) file.2.server (All-contains (λ (l : Listed). l.server < servers) its file.0 low file.1)

    pub copies_are : All (λ (l : Listed). IsName l.file) its → IsNonDecreasingBy (λ (c : ShardCopy). c.server) copies → 0 < length copies → AreCopies servers copies
    copies_are named rise some = record {
      some = some;
      rise = λ i j d less lt. rise i j d (omega arith) lt;
      on_servers = λ k d lt. below (slice_index_or copies k d) (Contains-get_or copies k d lt);
      numbers = λ k d lt. number (slice_index_or copies k d) (Contains-get_or copies k d lt);
    }
      where
        number : (c : ShardCopy) → Contains copies c → c.shard < max_shards
        number c has =
            let file = file_of c has in
            let is : IsName file.0.file = All-contains (λ (l : Listed). IsName l.file) its file.0 named file.1 in
            subst IsKind file.2.kind is.kind

    module _ (few : servers ≤ max_servers) (files : Files) (v : ℕ) (h : v < max_volumes) (are : AreFilesOf files v its) where
      stands_there : (c : ShardCopy) → Contains copies c → Stands (files_of (contents files) v) c.server (Shard c.shard)
      stands_there c has =
          let file = file_of c has in
          let is = (are file.0).0 file.1 in
          let place : (file.0.server, name_bytes file.0.file) ≡ (c.server, name_bytes (record { volume = v; kind = Shard c.shard; temp = false })) =
          λ i. (file.2.server i, name_bytes (record { volume = is.1 i; kind = file.2.kind i; temp = file.2.final i })) in
          (omega (arith, below c has, few), some_standing (files (place_of v c.server (Shard c.shard) false)) (subst (λ (k : ℕ × List ℕ). IsSome (files k)) place is.0.stands))

      pub copies_stand : AreStanding (files_of (contents files) v) copies
      copies_stand = record {
        stand = λ k d lt. stands_there (slice_index_or copies k d) (Contains-get_or copies k d lt);
        all = λ server i small st.
            let l : Listed = record { server = server; file = record { volume = v; kind = Shard i; temp = false } } in
            let has = (are l).1 (record { named = record { volume = h; kind = small }; stands = standing_some (files (place_of v server (Shard i) false)) st.1 }, refl) in
            Contains-permutation (filter_map copy_of its) copies (record { server = server; shard = i }) same
            (filter_map_in copy_of its l (record { server = server; shard = i }) has refl);
      }
