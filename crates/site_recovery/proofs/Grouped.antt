-- The files of a list by rising volume, volume by volume.
use Rattle.std.proofs.Common.{◌≡◌, ◌≢◌, inl, inr, ℕ, ◌+◌, ◌-◌, ◌<◌, ◌≤◌, List, [], ◌∷◌, ◌++◌, length, map, drop, refl, sym, ◌∙◌, ap, subst, arith}
use Rattle.std.specs.Prelude.{slice_index_or, slice_range}
use Rattle.std.specs.List.{All, Any}
use Rattle.std.specs.List.Sorted.{IsNonDecreasingBy, IsStrictlyIncreasing}
use Rattle.std.proofs.lemmas.Bool.{cases_eq, cases_lt}
use Rattle.std.proofs.lemmas.List.{get_or-drop, get_or-take, length-drop, length-take-le, get_or_default, get_or_append_left, get_or_push, map-append}
use Rattle.std.proofs.lemmas.List.Elements.{All-nil, All-push, All-weaker, All-map, All-get_or}
use Rattle.std.proofs.Math.ListN.{length-append}
use Rattle.site_recovery.specs.declared.forms.Listed.{Listed}
use Rattle.site_recovery.specs.declared.forms.Group.{Group}
use Rattle.site_recovery.specs.Listing.{AreThoseOf, StartsAt, EndsAt, IsGroup, AreGroups}

-- a greater number behind rising ones
rising_push : (xs : List ℕ) (y : ℕ) → IsStrictlyIncreasing xs → All (λ x. x < y) xs → IsStrictlyIncreasing (xs ++ y ∷ [])
rising_push xs y rise below k fits = elim (cases_lt (k + 1) (length xs)) [
  | inl within ↦
      let here = get_or_append_left xs (y ∷ []) 0 k (omega arith) in
      let next = get_or_append_left xs (y ∷ []) 0 (k + 1) within in
      omega (arith, here, next, rise k within)
  | inr last ↦
      let end : length xs ≡ k + 1 = omega (arith, length-append xs (y ∷ [])) in
      let here = get_or_append_left xs (y ∷ []) 0 k (omega arith) in
      let next = get_or_push xs y 0 (k + 1) end in
      omega (arith, here, next, All-get_or (λ x. x < y) xs k 0 (omega arith) below)
]

any_more : (P : Group → Type 0) (groups : List Group) (g : Group) → Any P groups → Any P (groups ++ g ∷ [])
any_more P groups g some = (some.0, some.1, omega (arith, some.2, length-append groups (g ∷ [])), get_or_append_left groups (g ∷ []) some.1 some.0 some.2 ∙ some.3, some.4)

module _ (found : List Listed) where
  abbrev volume_at : ℕ → Listed → ℕ
  volume_at k d = (slice_index_or found k d).file.volume

  abbrev group_at : ℕ → ℕ → Listed → Group
  group_at start end d = record { volume = volume_at start d; start = start; end = end }

  same_default : (k : ℕ) (d e : Listed) → k < length found → volume_at k d ≡ volume_at k e
  same_default k d e fits = ap (λ (l : Listed). l.file.volume) (get_or_default found k d e fits)

  -- the groups that begin before this place
  pub record AreGroupsBelow (n : ℕ) (groups : List Group) : Type 0 where
    pub rise : IsStrictlyIncreasing (map (λ g. g.volume) groups)
    pub each : All (IsGroup found) groups
    pub low : All (λ (g : Group). g.start < n) groups
    pub all : (k : ℕ) (d : Listed) → k < n → Any (λ (g : Group). g.volume ≡ volume_at k d) groups

  pub groups_none : AreGroupsBelow 0 []
  groups_none = record {
    rise = λ k h. absurd (omega arith);
    each = All-nil (IsGroup found);
    low = All-nil (λ (g : Group). g.start < 0);
    all = λ k d h. absurd (omega arith);
  }

  pub groups_all : (n : ℕ) (groups : List Group) → length found ≤ n → AreGroupsBelow n groups → AreGroups found groups
  groups_all n groups end below = record { rise = below.rise; each = below.each; all = λ k d fits. below.all k d (omega arith) }

  -- ---- where the files of a volume end

  abbrev pub AreSameBelow : ℕ → ℕ → ℕ → Type 0
  AreSameBelow start volume n = (k : ℕ) (d : Listed) → start ≤ k → k < n → volume_at k d ≡ volume

  pub same_none : (start volume n : ℕ) (d : Listed) → start < length found → volume ≡ volume_at start d → n ≡ start + 1 → AreSameBelow start volume n
  same_none start volume n d fits is next k e low high =
      subst (λ i. volume_at i e ≡ volume) (omega arith) (same_default start e d fits ∙ sym is)

  pub same_more : (start volume n : ℕ) (d : Listed) → n < length found → AreSameBelow start volume n → volume_at n d ≡ volume → AreSameBelow start volume (n + 1)
  same_more start volume n d fits so_far here k e low high = elim (cases_eq k n) [
    | inl same ↦ subst (λ i. volume_at i e ≡ volume) (sym same) (same_default n e d fits ∙ here)
    | inr other ↦ so_far k e low (omega arith)
  ]

  -- another volume begins there
  pub ends_before : (start volume n : ℕ) (d e : Listed) → start < n → n < length found → volume ≡ volume_at start d → AreSameBelow start volume n → volume_at n e ≢ volume → EndsAt found start n
  ends_before start volume n d e some within is same other = record {
    some = some;
    within = omega arith;
    same = λ k f low high. same k f low high ∙ is ∙ same_default start d f (omega arith);
    other = λ f h e_same. other (same_default n e f within ∙ e_same ∙ same_default start f d (omega arith) ∙ sym is);
  }

  -- the list ends there
  pub ends_behind : (start volume n : ℕ) (d : Listed) → start < n → n ≡ length found → volume ≡ volume_at start d → AreSameBelow start volume n → EndsAt found start n
  ends_behind start volume n d some end is same = record {
    some = some;
    within = omega arith;
    same = λ k f low high. same k f low high ∙ is ∙ same_default start d f (omega arith);
    other = λ f h. absurd (omega arith);
  }

  -- ---- one place more

  module _ (rise : IsNonDecreasingBy (λ (l : Listed). l.file.volume) found) where
    group_is : (start end : ℕ) (d : Listed) → StartsAt found start → EndsAt found start end → IsGroup found (group_at start end d)
    group_is start end d first ends = record {
      some = ends.some;
      within = ends.within;
      same = λ k e low high. ends.same k e low high ∙ same_default start e d (omega (arith, ends.some, ends.within));
      all = λ k e fits same. (not_before k e fits (same ∙ same_default start d e (omega (arith, ends.some, ends.within))), not_behind k e fits (same ∙ same_default start d e (omega (arith, ends.some, ends.within))));
    }
      where
        not_before : (k : ℕ) (e : Listed) → k < length found → volume_at k e ≡ volume_at start e → start ≤ k
        not_before k e fits same = elim (cases_lt k start) [
          | inl less ↦
              let one : volume_at k e ≤ volume_at (start - 1) e = rise k (start - 1) e (omega arith) (omega (arith, ends.some, ends.within)) in
              let two : volume_at (start - 1) e ≤ volume_at start e = rise (start - 1) start e (omega arith) (omega (arith, ends.some, ends.within)) in
              absurd (first e (omega arith) (omega (arith, one, two, same)))
          | inr le ↦ le
        ]

        not_behind : (k : ℕ) (e : Listed) → k < length found → volume_at k e ≡ volume_at start e → k < end
        not_behind k e fits same = elim (cases_lt k end) [
          | inl less ↦ less
          | inr le ↦
              let one : volume_at end e ≤ volume_at k e = rise end k e le fits in
              let two : volume_at start e ≤ volume_at end e = rise start end e (omega (arith, ends.some)) (omega arith) in
              absurd (ends.other e (omega arith) (omega (arith, one, two, same)))
        ]

    -- no volume begins here
    pub groups_skip : (n : ℕ) (groups : List Group) → n < length found → (StartsAt found n → ⊥) → AreGroupsBelow n groups → AreGroupsBelow (n + 1) groups
    groups_skip n groups fits none below = record {
      rise = below.rise;
      each = below.each;
      low = All-weaker (λ (g : Group). g.start < n) (λ (g : Group). g.start < n + 1) (λ g h. omega arith) groups below.low;
      all = λ k d h. elim (cases_eq k n) [
        | inl same ↦ subst (λ i. Any (λ (g : Group). g.volume ≡ volume_at i d) groups) (sym same) (here d)
        | inr other ↦ below.all k d (omega arith)
      ];
    }
      where
        here : (d : Listed) → Any (λ (g : Group). g.volume ≡ volume_at n d) groups
        here d = elim (cases_eq n 0) [
          | inl zero_is ↦ absurd (none (λ e h. absurd (h zero_is)))
          | inr some ↦ elim (cases_eq (volume_at (n - 1) d) (volume_at n d)) [
            | inl same ↦ subst (λ v. Any (λ (g : Group). g.volume ≡ v) groups) same (below.all (n - 1) d (omega arith))
            | inr other ↦ absurd (none (λ e h is. other (same_default (n - 1) d e (omega arith) ∙ is ∙ same_default n e d fits)))
          ]
        ]

    -- one begins here
    pub groups_more : (n end : ℕ) (d : Listed) (groups : List Group) → StartsAt found n → EndsAt found n end → AreGroupsBelow n groups
        → AreGroupsBelow (n + 1) (groups ++ group_at n end d ∷ [])
    groups_more n end d groups first ends below = record {
      rise = subst IsStrictlyIncreasing (sym (map-append (λ (g : Group). g.volume) groups (group_at n end d ∷ [])))
          (rising_push (map (λ (g : Group). g.volume) groups) (volume_at n d) below.rise (All-map (λ v. v < volume_at n d) (λ (g : Group). g.volume) groups lower));
      each = All-push (IsGroup found) groups (group_at n end d) below.each (group_is n end d first ends);
      low = All-push (λ (g : Group). g.start < n + 1) groups (group_at n end d) (All-weaker (λ (g : Group). g.start < n) (λ (g : Group). g.start < n + 1) (λ g h. omega arith) groups below.low) (omega arith);
      all = λ k e h. elim (cases_eq k n) [
        | inl same ↦ (
          length groups,
          group_at n end d,
          omega (arith, length-append groups (group_at n end d ∷ [])),
          get_or_push groups (group_at n end d) (group_at n end d) (length groups) refl,
          subst (λ i. volume_at n d ≡ volume_at i e) (sym same) (same_default n d e fits),
        )
        | inr other ↦ any_more (λ (g : Group). g.volume ≡ volume_at k e) groups (group_at n end d) (below.all k e (omega arith))
      ];
    }
      where
        fits : n < length found
        fits = omega (arith, ends.some, ends.within)

        lower : All (λ (g : Group). g.volume < volume_at n d) groups
        lower k g lt =
            let it : Group = slice_index_or groups k g in
            let is = below.each k g lt in
            let before = below.low k g lt in
            let here : volume_at it.start d ≡ it.volume = is.same it.start d (omega arith) is.some in
            let one : volume_at it.start d ≤ volume_at (n - 1) d = rise it.start (n - 1) d (omega (arith, before)) (omega (arith, before, fits)) in
            let two : volume_at (n - 1) d ≤ volume_at n d = rise (n - 1) n d (omega arith) fits in
            less it.volume (volume_at it.start d) (volume_at (n - 1) d) (volume_at n d) here one two (first d (omega (arith, before)))
          where
            less : (a b c e : ℕ) → b ≡ a → b ≤ c → c ≤ e → c ≢ e → a < e
            less a b c e p q r s = omega arith

-- ---- the files of one group

module _ (found : List Listed) (g : Group) (is : IsGroup found g) where
  abbrev its : List Listed
  its = slice_range found g.start g.end

  long : length its ≡ g.end - g.start
  long = length-take-le (g.end - g.start) (drop g.start found) (omega (arith, length-drop g.start found, is.some, is.within))

  at_place : (k : ℕ) (d : Listed) → k < g.end - g.start → slice_index_or its k d ≡ slice_index_or found (g.start + k) d
  at_place k d low = get_or-take (g.end - g.start) (drop g.start found) k d low ∙ get_or-drop g.start found k d

  pub those_in : AreThoseOf g.volume found its
  those_in l = (
    λ has.
        let low : has.0 < g.end - g.start = omega (arith, has.1, long) in
        let there : slice_index_or found (g.start + has.0) l ≡ l = sym (at_place has.0 l low) ∙ has.2 in (
          (g.start + has.0, omega (arith, low, is.within), there),
          ap (λ (m : Listed). m.file.volume) (sym there) ∙ is.same (g.start + has.0) l (omega arith) (omega (arith, low)),
        ),
    λ both.
        let has = both.0 in
        let within = is.all has.0 l has.1 (ap (λ (m : Listed). m.file.volume) has.2 ∙ both.1) in
        let low : has.0 - g.start < g.end - g.start = omega (arith, within.0, within.1) in
        let place : g.start + (has.0 - g.start) ≡ has.0 = omega (arith, within.0) in
        (has.0 - g.start, omega (arith, low, long), at_place (has.0 - g.start) l low ∙ ap (λ (k : ℕ). slice_index_or found k l) place ∙ has.2),
  )
