-- Where the shards of a row go as missing ones are placed and moves are made: each goes once at most, and no server loses its
-- last one.
use Rattle.std.proofs.Common.{◌≡◌, ◌≢◌, ◌⊎◌, inl, inr, ⊎_elim, ℕ, zero, suc, ◌+◌, ◌<◌, ◌≤◌, Bool, true, false, cond, List, [], ◌∷◌, length, Option, Some, None, refl, sym, ◌∙◌, ap, subst, arith}
use Rattle.std.specs.Prelude.{◌||◌, ◌==◌, count_by, slice_set}
use Rattle.std.specs.List.{list_any, range_with_len}
use Rattle.std.proofs.lemmas.Bool.{cases_eq, eq-eqb, eqb-true, ne_eqb, false≢true}
use Rattle.std.proofs.lemmas.List.{get_or-set_same, get_or-set_other}
use Rattle.std.proofs.lemmas.List.Sums.{sum_by-cons}
use Rattle.image_meaning.specs.Laws.Options.{none_some, some_is}
use Rattle.shard_table.specs.Table.{Row, place_in}
use Rattle.shard_table.specs.Even.{stands_on, count_on, IsFewest, IsMove, AreInTurn, moved, row_after}
use Rattle.shard_table.specs.declared.moves.ShardMove.{ShardMove}
use Rattle.plan_steps.specs.Plans.{AreFilled, filled}
use Rattle.plan_steps.specs.Members.{Has}

-- ---- how many shards a server has

-- whether a place is the server, as a number
abbrev here : ℕ → Option ℕ → ℕ
here s place = cond (stands_on s place) 1 0

here_at : (s p : ℕ) → p ≡ s → here s (Some p) ≡ 1
here_at s p e = ap (λ b. cond b 1 0) (eq-eqb p s e)

here_not : (s p : ℕ) → p ≢ s → here s (Some p) ≡ 0
here_not s p other = ap (λ b. cond b 1 0) (ne_eqb p s other)

count_cons : (s : ℕ) (place : Option ℕ) (row : Row) → count_on (place ∷ row) s ≡ here s place + count_on row s
count_cons s place row = sum_by-cons (λ p. cond (stands_on s p) 1 0) place row

-- one place of a row changes
count_set : (row : Row) (i : ℕ) (place : Option ℕ) (s : ℕ) → i < length row → count_on (slice_set row i place) s + here s (place_in row i) ≡ count_on row s + here s place
count_set [] i place s h = absurd (omega arith)
count_set (x ∷ row) zero place s h = omega (arith, count_cons s place row, count_cons s x row)
count_set (x ∷ row) (suc i) place s h = omega (arith, count_cons s x (slice_set row i place), count_cons s x row, count_set row i place s (omega (arith, h)))

length_set : {A : Type 0} (xs : List A) (i : ℕ) (x : A) → length (slice_set xs i x) ≡ length xs
length_set [] i x = refl
length_set (y ∷ ys) zero x = refl
length_set (y ∷ ys) (suc i) x = omega (arith, length_set ys i x)

-- a shard with a place has room in the row
pub place_within : (row : Row) (i s : ℕ) → place_in row i ≡ Some s → i < length row
place_within [] i s e = absurd (none_some e)
place_within (x ∷ row) zero s e = omega arith
place_within (x ∷ row) (suc i) s e = omega (arith, place_within row i s e)

-- and its server has one shard at least
pub place_counts : (row : Row) (i s : ℕ) → place_in row i ≡ Some s → 1 ≤ count_on row s
place_counts [] i s e = absurd (none_some e)
place_counts (x ∷ row) zero s e = omega (arith, count_cons s x row, ap (here s) e, here_at s s refl)
place_counts (x ∷ row) (suc i) s e = omega (arith, count_cons s x row, place_counts row i s e)

-- a server with a shard is the place of one
pub counts_place : (row : Row) (s : ℕ) → 1 ≤ count_on row s → (i : ℕ) × (place_in row i ≡ Some s)
counts_place [] s h = absurd (omega (arith, h))
counts_place (x ∷ row) s h = by_place x refl (λ more. counts_place row s more)
  where
    by_place : (o : Option ℕ) → x ≡ o → (1 ≤ count_on row s → (i : ℕ) × (place_in row i ≡ Some s)) → (i : ℕ) × (place_in (x ∷ row) i ≡ Some s)
    by_place None e more = let rest = more (omega (arith, h, count_cons s x row, ap (here s) e)) in (suc rest.0, rest.1)
    by_place (Some p) e more = elim (cases_eq p s) [
      | inl same ↦ (0, e ∙ ap Some same)
      | inr other ↦ let rest = more (omega (arith, h, count_cons s x row, ap (here s) e, here_not s p other)) in (suc rest.0, rest.1)
    ]

-- ---- one move

module _ (servers : ℕ) (row : Row) (m : ShardMove) (is : IsMove servers row m) where
  within : m.shard < length row
  within = place_within row m.shard m.from is.chosen.there

  apart : m.to ≢ m.from
  apart e = absurd (omega (arith, is.due, ap (count_on row) e))

  moved_counts : (s : ℕ) → count_on (moved row m) s + here s (Some m.from) ≡ count_on row s + here s (Some m.to)
  moved_counts s = ap (λ place. count_on (moved row m) s + here s place) (sym is.chosen.there) ∙ count_set row m.shard (Some m.to) s within

  at_from : count_on (moved row m) m.from + 1 ≡ count_on row m.from
  at_from = omega (arith, moved_counts m.from, here_at m.from m.from refl, here_not m.from m.to apart)

  at_to : count_on (moved row m) m.to ≡ count_on row m.to + 1
  at_to = omega (arith, moved_counts m.to, here_at m.to m.to refl, here_not m.to m.from (λ e. apart (sym e)))

  elsewhere : (s : ℕ) → s ≢ m.from → s ≢ m.to → count_on (moved row m) s ≡ count_on row s
  elsewhere s not_from not_to = omega (arith, moved_counts s, here_not s m.from (λ e. not_from (sym e)), here_not s m.to (λ e. not_to (sym e)))

  -- no server loses its last shard
  move_some : (s : ℕ) → 1 ≤ count_on row s → 1 ≤ count_on (moved row m) s
  move_some s some = by_server (cases_eq s m.from) (cases_eq s m.to)
    where
      by_server : (s ≡ m.from) ⊎ (s ≢ m.from) → (s ≡ m.to) ⊎ (s ≢ m.to) → 1 ≤ count_on (moved row m) s
      by_server (inl e) either = omega (arith, ap (count_on (moved row m)) e, at_from, is.due)
      by_server (inr not_from) (inl e) = omega (arith, ap (count_on (moved row m)) e, at_to)
      by_server (inr not_from) (inr not_to) = omega (arith, elsewhere s not_from not_to, some)

  pub move_target : 1 ≤ count_on (moved row m) m.to
  move_target = omega (arith, at_to)

-- ---- who got a shard

-- Servers that got a shard have at most one more than any other.
pub record HaveFew (servers : ℕ) (row : Row) (got : ℕ → Bool) : Type 0 where
  pub few : (s t : ℕ) → got s ≡ true → t < servers → count_on row s ≤ count_on row t + 1

abbrev pub got_more : (ℕ → Bool) → ℕ → ℕ → Bool
got_more got to s = got s || (to == s)

or_cases : (a b : Bool) → (a || b) ≡ true → (a ≡ true) ⊎ (b ≡ true)
or_cases true b e = inl refl
or_cases false b e = inr e

or_left : (a b : Bool) → a ≡ true → (a || b) ≡ true
or_left true b e = refl
or_left false b e = absurd (false≢true e)

or_right : (a b : Bool) → b ≡ true → (a || b) ≡ true
or_right true b e = refl
or_right false b e = e

module _ (servers : ℕ) (row : Row) (got : ℕ → Bool) (have : HaveFew servers row got) where
  -- so none of them gives one away
  pub no_source : (m : ShardMove) → IsMove servers row m → got m.from ≡ true → ⊥
  no_source m is e = absurd (omega (arith, have.few m.from m.to e is.target.in_range, is.due))

  -- a missing shard is placed
  pub fill_few : (i s : ℕ) → i < length row → place_in row i ≡ None → IsFewest servers row s → HaveFew servers (slice_set row i (Some s)) (got_more got s)
  fill_few i s within none fewest = record { few = λ a b is below. by_server a b below (cases_eq s a) (or_cases (got a) (s == a) is) }
    where
      counts : (t : ℕ) → count_on (slice_set row i (Some s)) t ≡ count_on row t + here t (Some s)
      counts t = omega (arith, count_set row i (Some s) t within, ap (here t) none)

      more : (t : ℕ) → count_on row t ≤ count_on (slice_set row i (Some s)) t
      more t = omega (arith, counts t)

      by_server : (a b : ℕ) → b < servers → (s ≡ a) ⊎ (s ≢ a) → (got a ≡ true) ⊎ ((s == a) ≡ true) → count_on (slice_set row i (Some s)) a ≤ count_on (slice_set row i (Some s)) b + 1
      by_server a b below (inl e) either = omega (arith, counts a, here_at a s e, ap (count_on row) e, fewest.fewest b below, more b)
      by_server a b below (inr other) (inl is) = omega (arith, counts a, here_not a s other, have.few a b is below, more b)
      by_server a b below (inr other) (inr e) = absurd (other (eqb-true s a e))

  -- a shard is moved
  pub move_few : (m : ShardMove) → IsMove servers row m → HaveFew servers (moved row m) (got_more got m.to)
  move_few m is = record { few = λ a b is_got below. by_servers a b below (cases_eq a m.to) (cases_eq b m.from) (cases_eq b m.to) is_got }
    where
      still : (t : ℕ) → t ≢ m.from → count_on row t ≤ count_on (moved row m) t
      still t not_from = elim (cases_eq t m.to) [
        | inl e ↦ omega (arith, ap (count_on (moved row m)) e, ap (count_on row) e, at_to servers row m is)
        | inr other ↦ omega (arith, elsewhere servers row m is t not_from other)
      ]

      got_before : (a : ℕ) → a ≢ m.to → got_more got m.to a ≡ true → got a ≡ true
      got_before a other e = ⊎_elim (λ is. is) (λ same. absurd (other (sym (eqb-true m.to a same)))) (or_cases (got a) (m.to == a) e)

      -- one that got a shard before has as many as it had
      kept : (a : ℕ) → a ≢ m.to → got_more got m.to a ≡ true → count_on (moved row m) a ≡ count_on row a
      kept a other e = elsewhere servers row m is a (λ from. no_source m is (subst (λ q. got q ≡ true) from (got_before a other e))) other

      by_servers : (a b : ℕ) → b < servers → (a ≡ m.to) ⊎ (a ≢ m.to) → (b ≡ m.from) ⊎ (b ≢ m.from) → (b ≡ m.to) ⊎ (b ≢ m.to) → got_more got m.to a ≡ true → count_on (moved row m) a ≤ count_on (moved row m) b + 1
      by_servers a b below (inl e) (inl from) either is_got =
          omega (arith, ap (count_on (moved row m)) e, at_to servers row m is, ap (count_on (moved row m)) from, at_from servers row m is, is.due)
      by_servers a b below (inl e) (inr not_from) either is_got =
          omega (arith, ap (count_on (moved row m)) e, at_to servers row m is, is.target.fewest b below, still b not_from)
      by_servers a b below (inr other) (inl from) either is_got =
          omega (arith, kept a other is_got, have.few a m.to (got_before a other is_got) is.target.in_range, ap (count_on (moved row m)) from, at_from servers row m is, is.due)
      by_servers a b below (inr other) (inr not_from) either is_got =
          omega (arith, kept a other is_got, have.few a b (got_before a other is_got) below, still b not_from)

-- ---- moves in turn

-- A move takes the shard from its place to its last one, and it's the only one of that shard.
pub record IsMoved (row : Row) (got : ℕ → Bool) (moves : List ShardMove) (i : ℕ) : Type 0 where
  pub move : ShardMove
  pub has : Has moves move
  pub shard : move.shard ≡ i
  pub from : place_in row i ≡ Some move.from
  pub to : place_in (row_after row moves) i ≡ Some move.to
  pub old_source : got move.from ≡ true → ⊥
  pub apart : move.to ≢ move.from
  pub only : (o : ShardMove) → Has moves o → o.shard ≡ i → (o.from ≡ move.from) × (o.to ≡ move.to)

-- Or none does.
pub record IsStill (row : Row) (moves : List ShardMove) (i : ℕ) : Type 0 where
  pub none : (o : ShardMove) → Has moves o → o.shard ≡ i → ⊥
  pub same : place_in (row_after row moves) i ≡ place_in row i

pub moves_fate : (servers : ℕ) (moves : List ShardMove) (row : Row) (got : ℕ → Bool) → AreInTurn servers row moves → HaveFew servers row got → (i : ℕ) → IsMoved row got moves i ⊎ IsStill row moves i
moves_fate servers [] row got turn have i = inr (record { none = λ o has e. has; same = refl })
moves_fate servers (m ∷ moves) row got turn have i =
    by_shard (cases_eq m.shard i) (moves_fate servers moves (moved row m) (got_more got m.to) turn.1 (move_few servers row got have m turn.0) i)
  where
    placed : m.shard ≡ i → place_in (moved row m) i ≡ Some m.to
    placed e = ap (place_in (moved row m)) (sym e) ∙ get_or-set_same row m.shard (Some m.to) None (within servers row m turn.0)

    passed : m.shard ≢ i → place_in (moved row m) i ≡ place_in row i
    passed other = get_or-set_other row m.shard i (Some m.to) None (λ e. other (sym e))

    by_shard : (m.shard ≡ i) ⊎ (m.shard ≢ i) → IsMoved (moved row m) (got_more got m.to) moves i ⊎ IsStill (moved row m) moves i → IsMoved row got (m ∷ moves) i ⊎ IsStill row (m ∷ moves) i
    by_shard (inl e) (inl again) =
        absurd (again.old_source (or_right (got again.move.from) (m.to == again.move.from) (eq-eqb m.to again.move.from (some_is m.to again.move.from (sym (placed e) ∙ again.from)))))
    by_shard (inl e) (inr still) = inl (record {
      move = m;
      has = inl refl;
      shard = e;
      from = ap (place_in row) (sym e) ∙ turn.0.chosen.there;
      to = still.same ∙ placed e;
      old_source = no_source servers row got have m turn.0;
      apart = apart servers row m turn.0;
      only = λ o has same. ⊎_elim (λ is. (ap (λ (q : ShardMove). q.from) (sym is), ap (λ (q : ShardMove). q.to) (sym is))) (λ rest. absurd (still.none o rest same)) has;
    })
    by_shard (inr other) (inl later) = inl (record {
      move = later.move;
      has = inr later.has;
      shard = later.shard;
      from = sym (passed other) ∙ later.from;
      to = later.to;
      old_source = λ e. later.old_source (or_left (got later.move.from) (m.to == later.move.from) e);
      apart = later.apart;
      only = λ o has same. ⊎_elim (λ is. absurd (other (ap (λ (q : ShardMove). q.shard) is ∙ same))) (λ rest. later.only o rest same) has;
    })
    by_shard (inr other) (inr still) = inr (record {
      none = λ o has same. ⊎_elim (λ is. other (ap (λ (q : ShardMove). q.shard) is ∙ same)) (λ rest. still.none o rest same) has;
      same = still.same ∙ passed other;
    })

pub moves_some : (servers : ℕ) (moves : List ShardMove) (row : Row) → AreInTurn servers row moves → (s : ℕ) → 1 ≤ count_on row s → 1 ≤ count_on (row_after row moves) s
moves_some servers [] row turn s some = some
moves_some servers (m ∷ moves) row turn s some = moves_some servers moves (moved row m) turn.1 s (move_some servers row m turn.0 s some)

-- each move's target keeps a shard
pub moved_some : (servers : ℕ) (moves : List ShardMove) (row : Row) → AreInTurn servers row moves → (m : ShardMove) → Has moves m → 1 ≤ count_on (row_after row moves) m.to
moved_some servers [] row turn m has = absurd has
moved_some servers (n ∷ moves) row turn m (inl e) = moves_some servers moves (moved row n) turn.1 m.to (subst (λ (q : ShardMove). 1 ≤ count_on (moved row n) q.to) e (move_target servers row n turn.0))
moved_some servers (n ∷ moves) row turn m (inr has) = moved_some servers moves (moved row n) turn.1 m has

-- and its source and target are servers of the site
pub moves_within : (servers : ℕ) (moves : List ShardMove) (row : Row) → AreInTurn servers row moves → (m : ShardMove) → Has moves m → (m.from < servers) × (m.to < servers)
moves_within servers [] row turn m has = absurd has
moves_within servers (n ∷ moves) row turn m (inl e) = subst (λ (q : ShardMove). (q.from < servers) × (q.to < servers)) e (turn.0.source.in_range, turn.0.target.in_range)
moves_within servers (n ∷ moves) row turn m (inr has) = moves_within servers moves (moved row n) turn.1 m has

-- ---- missing shards are placed

-- by rising number
abbrev pub Rises : List ℕ → Type 0
Rises [] = Unit {0}
Rises (i ∷ rest) = ((j : ℕ) → Has rest j → i < j) × Rises rest

-- these have no place yet, but room
abbrev pub AreMissing : Row → List ℕ → Type 0
AreMissing row missing = (j : ℕ) → Has missing j → (place_in row j ≡ None) × (j < length row)

-- A target is the place of the shard, and it's the only one of that shard.
pub record IsFilled (row : Row) (targets : List (ℕ × ℕ)) (i : ℕ) : Type 0 where
  pub server : ℕ
  pub has : Has targets (i, server)
  pub missed : place_in row i ≡ None
  pub placed : place_in (filled row targets) i ≡ Some server
  pub only : (s : ℕ) → Has targets (i, s) → s ≡ server

-- Or it has none.
pub record IsPassed (row : Row) (targets : List (ℕ × ℕ)) (i : ℕ) : Type 0 where
  pub none : (s : ℕ) → Has targets (i, s) → ⊥
  pub same : place_in (filled row targets) i ≡ place_in row i

still_missing : (row : Row) (i : ℕ) (missing : List ℕ) (s : ℕ) → ((j : ℕ) → Has missing j → i < j) → AreMissing row (i ∷ missing) → AreMissing (slice_set row i (Some s)) missing
still_missing row i missing s rises are j has =
    let less = rises j has in
    let was = are j (inr has) in
    (get_or-set_other row i j (Some s) None (λ e. absurd (omega (arith, less, e))) ∙ was.0, omega (arith, was.1, length_set row i (Some s)))

pub fill_fate : (servers : ℕ) (missing : List ℕ) (targets : List (ℕ × ℕ)) (row : Row) → AreFilled servers row missing targets → Rises missing → AreMissing row missing → (i : ℕ)
    → (IsFilled row targets i × Has missing i) ⊎ (IsPassed row targets i × (Has missing i → ⊥))
fill_fate servers [] [] row are rises missing i = inr (record { none = λ s has. has; same = refl }, λ has. has)
fill_fate servers [] (p ∷ targets) row are rises missing i = absurd are
fill_fate servers (k ∷ rest) [] row are rises missing i = absurd are
fill_fate servers (k ∷ rest) (p ∷ targets) row are rises missing i =
    by_number (cases_eq k i)
    (subst (λ n. (IsFilled (slice_set row n (Some p.1)) targets i × Has rest i) ⊎ (IsPassed (slice_set row n (Some p.1)) targets i × (Has rest i → ⊥))) (sym are.0)
    (fill_fate servers rest targets (slice_set row k (Some p.1)) are.2 rises.1 (still_missing row k rest p.1 rises.0 missing) i))
  where
    by_number : (k ≡ i) ⊎ (k ≢ i) → (IsFilled (slice_set row p.0 (Some p.1)) targets i × Has rest i) ⊎ (IsPassed (slice_set row p.0 (Some p.1)) targets i × (Has rest i → ⊥))
        → (IsFilled row (p ∷ targets) i × Has (k ∷ rest) i) ⊎ (IsPassed row (p ∷ targets) i × (Has (k ∷ rest) i → ⊥))
    by_number (inl e) (inl (again, has)) = absurd (omega (arith, rises.0 i has, e))
    by_number (inl e) (inr (passed, none)) = inl (
      record {
        server = p.1;
        has = inl (λ q. ((are.0 ∙ e) q, p.1));
        missed = ap (place_in row) (sym e) ∙ (missing k (inl refl)).0;
        placed = passed.same ∙ ap (place_in (slice_set row p.0 (Some p.1))) (sym e ∙ sym are.0)
            ∙ get_or-set_same row p.0 (Some p.1) None (subst (λ n. n < length row) (sym are.0) (missing k (inl refl)).1);
        only = λ s has. ⊎_elim (λ same. ap (λ (q : ℕ × ℕ). q.1) (sym same)) (λ later. absurd (passed.none s later)) has;
      },
      inl e,
    )
    by_number (inr other) (inl (later, has)) = inl (
      record {
        server = later.server;
        has = inr later.has;
        missed = sym (get_or-set_other row p.0 i (Some p.1) None (λ e. other (sym are.0 ∙ sym e))) ∙ later.missed;
        placed = later.placed;
        only = λ s has. ⊎_elim (λ same. absurd (other (sym are.0 ∙ ap (λ (q : ℕ × ℕ). q.0) same))) (λ more. later.only s more) has;
      },
      inr has,
    )
    by_number (inr other) (inr (passed, none)) = inr (
      record {
        none = λ s has. ⊎_elim (λ same. other (sym are.0 ∙ ap (λ (q : ℕ × ℕ). q.0) same)) (λ more. passed.none s more) has;
        same = passed.same ∙ get_or-set_other row p.0 i (Some p.1) None (λ e. other (sym are.0 ∙ sym e));
      },
      λ has. ⊎_elim (λ same. other same) (λ more. none more) has,
    )

-- the servers that got one
abbrev pub got_filled : List (ℕ × ℕ) → ℕ → Bool
got_filled targets s = list_any (λ (p : ℕ × ℕ). p.1 == s) targets

-- ask less of who got one
pub fewer_got : {servers : ℕ} {row : Row} {got less : ℕ → Bool} → ((s : ℕ) → less s ≡ true → got s ≡ true) → HaveFew servers row got → HaveFew servers row less
fewer_got more have = record { few = λ s t is below. have.few s t (more s is) below }

or_assoc : (a b c : Bool) → (a || (b || c)) ≡ ((a || b) || c)
or_assoc true b c = refl
or_assoc false b c = refl

pub filled_few : (servers : ℕ) (missing : List ℕ) (targets : List (ℕ × ℕ)) (row : Row) (got : ℕ → Bool) → AreFilled servers row missing targets → Rises missing → AreMissing row missing → HaveFew servers row got
    → HaveFew servers (filled row targets) (λ s. got s || got_filled targets s)
filled_few servers [] [] row got are rises missing have = fewer_got (λ s e. ⊎_elim (λ is. is) (λ none. absurd (false≢true none)) (or_cases (got s) false e)) have
filled_few servers [] (p ∷ targets) row got are rises missing have = absurd are
filled_few servers (k ∷ rest) [] row got are rises missing have = absurd are
filled_few servers (k ∷ rest) (p ∷ targets) row got are rises missing have =
    fewer_got (λ s e. sym (or_assoc (got s) (p.1 == s) (got_filled targets s)) ∙ e)
    (subst (λ n. HaveFew servers (filled (slice_set row n (Some p.1)) targets) (λ s. got_more got p.1 s || got_filled targets s)) (sym are.0)
    (filled_few servers rest targets (slice_set row k (Some p.1)) (got_more got p.1) are.2 rises.1 (still_missing row k rest p.1 rises.0 missing)
    (fill_few servers row got have k p.1 (missing k (inl refl)).1 (missing k (inl refl)).0 are.1)))

-- no server loses a shard
pub filled_some : (servers : ℕ) (missing : List ℕ) (targets : List (ℕ × ℕ)) (row : Row) → AreFilled servers row missing targets → Rises missing → AreMissing row missing → (s : ℕ) → 1 ≤ count_on row s → 1 ≤ count_on (filled row targets) s
filled_some servers [] [] row are rises missing s some = some
filled_some servers [] (p ∷ targets) row are rises missing s some = absurd are
filled_some servers (k ∷ rest) [] row are rises missing s some = absurd are
filled_some servers (k ∷ rest) (p ∷ targets) row are rises missing s some =
    subst (λ n. 1 ≤ count_on (filled (slice_set row n (Some p.1)) targets) s) (sym are.0)
    (filled_some servers rest targets (slice_set row k (Some p.1)) are.2 rises.1 (still_missing row k rest p.1 rises.0 missing) s
    (omega (arith, count_set row k (Some p.1) s (missing k (inl refl)).1, ap (here s) (missing k (inl refl)).0, some)))

-- a target is a server of the site
pub filled_within : (servers : ℕ) (missing : List ℕ) (targets : List (ℕ × ℕ)) (row : Row) → AreFilled servers row missing targets → (i s : ℕ) → Has targets (i, s) → s < servers
filled_within servers [] [] row are i s has = absurd has
filled_within servers [] (p ∷ targets) row are i s has = absurd are
filled_within servers (k ∷ rest) [] row are i s has = absurd are
filled_within servers (k ∷ rest) (p ∷ targets) row are i s (inl same) = subst (λ (q : ℕ × ℕ). q.1 < servers) same are.1.in_range
filled_within servers (k ∷ rest) (p ∷ targets) row are i s (inr has) = filled_within servers rest targets (slice_set row k (Some p.1)) are.2 i s has

-- the length of a row stays
pub length_filled : (targets : List (ℕ × ℕ)) (row : Row) → length (filled row targets) ≡ length row
length_filled [] row = refl
length_filled (p ∷ targets) row = length_filled targets (slice_set row p.0 (Some p.1)) ∙ length_set row p.0 (Some p.1)

pub length_after : (moves : List ShardMove) (row : Row) → length (row_after row moves) ≡ length row
length_after [] row = refl
length_after (m ∷ moves) row = length_after moves (moved row m) ∙ length_set row m.shard (Some m.to)

-- ---- a row by its places

shift_count : (p : ℕ → Bool) (a n : ℕ) → count_by p (range_with_len (a + 1) n) ≡ count_by (λ i. p (suc i)) (range_with_len a n)
shift_count p a zero = refl
shift_count p a (suc n) =
    sum_by-cons (λ i. cond (p i) 1 0) (a + 1) (range_with_len (a + 1 + 1) n)
    ∙ (λ j. cond (p (next a j)) 1 0 + shift_count p (a + 1) n j)
    ∙ sym (sum_by-cons (λ i. cond (p (suc i)) 1 0) a (range_with_len (a + 1) n))
  where
    next : (a : ℕ) → a + 1 ≡ suc a
    next a = omega arith

-- a server has as many shards as places name it
pub count_places : (row : Row) (n s : ℕ) → length row ≡ n → count_by (λ i. stands_on s (place_in row i)) (range_with_len 0 n) ≡ count_on row s
count_places [] zero s e = refl
count_places [] (suc n) s e = absurd (omega (arith, e))
count_places (x ∷ row) zero s e = absurd (omega (arith, e))
count_places (x ∷ row) (suc n) s e =
    sum_by-cons (λ i. cond (stands_on s (place_in (x ∷ row) i)) 1 0) 0 (range_with_len (0 + 1) n)
    ∙ ap (λ k. here s x + k) (shift_count (λ i. stands_on s (place_in (x ∷ row) i)) 0 n ∙ count_places row n s (omega (arith, e)))
    ∙ sym (count_cons s x row)
