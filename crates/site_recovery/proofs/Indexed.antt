-- The servers with an index, by a volume's files that are listed. For the recovery of coded volumes, to come.
use Rattle.std.proofs.Common.{◌≡◌, inl, inr, ⊎_elim, ℕ, ◌+◌, ◌<◌, ◌≤◌, Bool, true, false, List, [], ◌∷◌, ◌++◌, length, Option, Some, None, is_some, refl, sym, ◌∙◌, ap, subst, arith}
use Rattle.std.specs.Prelude.{◌↔◌, Contains, slice_index_or, slice_get}
use Rattle.std.specs.List.{All, filter_map}
use Rattle.std.specs.List.Sorted.{IsStrictlyIncreasing}
use mathlib.Core.Bool.{true≢false}
use Rattle.std.proofs.lemmas.Bool.{cases_eq, cases_lt}
use Rattle.std.proofs.lemmas.List.{get_or_default, get_or_past}
use Rattle.std.proofs.lemmas.List.Elements.{All-contains, Contains-get_or}
use Rattle.std.proofs.lemmas.List.Kept.{AllPairs-from_increasing}
use Rattle.site_model.specs.Disk.{Files}
use Rattle.file_names.specs.declared.Kind.{Kind}
use Rattle.file_names.specs.declared.Kind.TheVariants.{Dat, Idx, Cpd, Cpx, Shard, Ecx, Ecj, Vif}
use Rattle.file_names.specs.Names.{IsKind, place_of}
use Rattle.image_meaning.specs.Files.{VolumeFiles, contents, files_of, has_index}
use Rattle.image_meaning.specs.Meaning.{max_volumes}
use Rattle.image_meaning.specs.Sound.{HasIndex}
use Rattle.image_meaning.specs.Laws.Views.{has_either}
use Rattle.site_recovery.specs.declared.forms.Home.{Home}
use Rattle.site_recovery.specs.declared.forms.Listed.{Listed}
use Rattle.site_recovery.specs.Homes.{IsHome, HasNoneBefore, AreHomes}
use Rattle.site_recovery.specs.Listing.{AreFilesOf}
use Rattle.site_recovery.specs.Opening.{index_by, index_server}
use Rattle.site_recovery.proofs.Copied.{standing_some}
use Rattle.site_recovery.proofs.Homing.{homes_push, homes_skip}
use Rattle.site_recovery.proofs.Members.{none_in, filter_map_has, filter_map_in}

-- ---- the files

-- an index that is listed is at its server
index_is : (l : Listed) (s : ℕ) → index_server l ≡ Some s → l.server ≡ s
index_is l s e = by_parts l.file.temp l.file.kind e
  where
    by_parts : (temp : Bool) (kind : Kind) → index_by l.server temp kind ≡ Some s → l.server ≡ s
    by_parts true kind is = absurd cc
    by_parts false Dat is = absurd cc
    by_parts false Idx is = cc
    by_parts false Cpd is = absurd cc
    by_parts false Cpx is = cc
    by_parts false (Shard i) is = absurd cc
    by_parts false Ecx is = absurd cc
    by_parts false Ecj is = absurd cc
    by_parts false Vif is = absurd cc

module _ (its : List Listed) (servers : List ℕ) (each : (s : ℕ) → Contains servers s ↔ Contains (filter_map index_server its) s) where
  pub servers_low : (n : ℕ) → All (λ (l : Listed). l.server < n) its → All (λ s. s < n) servers
  servers_low n low k d lt =
      let s : ℕ = slice_index_or servers k d in
      let found = filter_map_has index_server its s ((each s).0 (Contains-get_or servers k d lt)) in
      subst (λ t. t < n) (index_is found.0 s found.2) (All-contains (λ (l : Listed). l.server < n) its found.0 low found.1)

  module _ (files : Files) (v : ℕ) (h : v < max_volumes) (are : AreFilesOf files v its) where
    pub index_among : (s : ℕ) → HasIndex (files_of (contents files) v) s → Contains servers s
    index_among s index = ⊎_elim
        (λ made. of_kind Cpx tt refl made)
        (λ named. of_kind Idx tt refl named)
        (has_either (files_of (contents files) v) s index.1)
      where
        of_kind : (kind : Kind) → IsKind kind → index_by s false kind ≡ Some s → is_some (files_of (contents files) v s kind) ≡ true → Contains servers s
        of_kind kind is by st =
            let l : Listed = record { server = s; file = record { volume = v; kind = kind; temp = false } } in
            let has = (are l).1 (record { named = record { volume = h; kind = is }; stands = standing_some (files (place_of v s kind false)) st }, refl) in
            (each s).1 (filter_map_in index_server its l s has by)

-- ---- the homes

module _ (files : VolumeFiles) (servers : List ℕ) (rise : IsStrictlyIncreasing servers) (low : All (λ s. s < 64) servers) (all : (s : ℕ) → HasIndex files s → Contains servers s) where
  -- the servers from this place on, or the number of servers that a site may have
  abbrev pub next : ℕ → ℕ
  next n = slice_index_or servers n 64

  next_low : (n : ℕ) → next n ≤ 64
  next_low n = elim (cases_lt n (length servers)) [
    | inl fits ↦ let less = low n 64 fits in omega (arith, less)
    | inr past ↦ omega (arith, get_or_past servers n 64 past)
  ]

  -- a server with an index below the next is among those before it
  before : (n s : ℕ) → HasIndex files s → s < next n → (k : ℕ) × (k < n) × (k < length servers) × (slice_index_or servers k 64 ≡ s)
  before n s index less =
      let has = all s index in
      let at : slice_index_or servers has.0 64 ≡ s = get_or_default servers has.0 64 s has.1 ∙ has.2 in
      elim (cases_lt has.0 n) [
        | inl under ↦ (has.0, under, has.1, at)
        | inr over ↦ elim (cases_eq has.0 n) [
          | inl same ↦ absurd (omega (arith, less, at, ap (λ k. slice_index_or servers k 64) same))
          | inr other ↦ let more = AllPairs-from_increasing servers rise n has.0 64 (omega arith) has.1 in absurd (omega (arith, less, at, more))
        ]
      ]

  -- where no server has an index there is none
  off : (s : ℕ) → s < 64 → (HasIndex files s → ⊥) → has_index files s ≡ false
  off s few none = by_test (has_index files s) refl
    where
      by_test : (b : Bool) → has_index files s ≡ b → has_index files s ≡ false
      by_test true e = absurd (none (few, e))
      by_test false e = e

  between : (n s : ℕ) → n < length servers → next n + 1 ≤ s → s < next (n + 1) → has_index files s ≡ false
  between n s fits above less = off s (omega (arith, less, next_low (n + 1))) (λ index. not_here (before (n + 1) s index less))
    where
      not_here : (k : ℕ) × (k < n + 1) × (k < length servers) × (slice_index_or servers k 64 ≡ s) → ⊥
      not_here (k, under, lt, at) = elim (cases_eq k n) [
        | inl same ↦ absurd (omega (arith, above, at, ap (λ j. slice_index_or servers j 64) same))
        | inr other ↦ let more = AllPairs-from_increasing servers rise k n 64 (omega arith) fits in absurd (omega (arith, above, at, more))
      ]

  first_on : (n m : ℕ) (first : Option Home) → ((s : ℕ) → n ≤ s → s < m → has_index files s ≡ false) → HasNoneBefore files n first → HasNoneBefore files m first
  first_on n m None none was = λ s less. elim (cases_lt s n) [
    | inl under ↦ was s under
    | inr over ↦ none s over less
  ]
  first_on n m (Some first) none was = was

  homes_on : (n m : ℕ) (homes : List Home) → ((s : ℕ) → n ≤ s → s < m → has_index files s ≡ false) → AreHomes files n homes → AreHomes files m homes
  homes_on n m homes none are = record {
    each = are.each;
    all = λ s less index. elim (cases_lt s n) [
      | inl under ↦ are.all s under index
      | inr over ↦ absurd (true≢false (sym index.1 ∙ none s over less))
    ];
    first = first_on n m (slice_get homes 0) none are.first;
  }

  pub homes_start : AreHomes files (next 0) []
  homes_start = record {
    each = λ home has. absurd (none_in home has);
    all = λ s less index. absurd (nowhere s less index);
    first = λ s less. off s (omega (arith, less, next_low 0)) (nowhere s less);
  }
    where
      nowhere : (s : ℕ) → s < next 0 → HasIndex files s → ⊥
      nowhere s less index = let here = before 0 s index less in absurd (omega (arith, here.1))

  module _ (n : ℕ) (homes : List Home) (fits : n < length servers) (are : AreHomes files (next n) homes) where
    this : slice_index_or servers n 0 ≡ next n
    this = get_or_default servers n 0 64 fits

    pub homes_found : (home : Home) → home.server ≡ slice_index_or servers n 0 → IsHome files home → AreHomes files (next (n + 1)) (homes ++ home ∷ [])
    homes_found home is at_home =
        homes_on (next n + 1) (next (n + 1)) (homes ++ home ∷ []) (λ s. between n s fits) (homes_push files (next n) homes home (is ∙ this) at_home are)

    pub homes_none : has_index files (slice_index_or servers n 0) ≡ false → AreHomes files (next (n + 1)) homes
    homes_none none = homes_on (next n + 1) (next (n + 1)) homes (λ s. between n s fits) (homes_skip files (next n) homes (ap (has_index files) (sym this) ∙ none) are)

  pub homes_end : (n : ℕ) (homes : List Home) → length servers ≤ n → AreHomes files (next n) homes → AreHomes files 64 homes
  homes_end n homes past are = subst (λ m. AreHomes files m homes) (get_or_past servers n 64 past) are
