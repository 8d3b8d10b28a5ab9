-- Reads of the data file, one after the other.
use Rattle.std.proofs.Common.{◌≡◌, inl, inr, ℕ, ◌+◌, ◌-◌, ◌*◌, ◌<◌, ◌≤◌, List, ◌++◌, length, Result, Ok, Err, refl, sym, ◌∙◌, ap, subst, arith}
use Rattle.std.specs.Prelude.{slice_index, OnOk, get_or}
use Rattle.std.proofs.lemmas.Bool.{cases_lt}
use Rattle.std.proofs.lemmas.List.{get_or-append_right, get_or_append_left}
use Rattle.std.proofs.Math.Nat.{mul-le-mul_right}
use Rattle.site_model.specs.Disk.{Disk}
use Rattle.site_model.specs.Counts.{Counts, CountsRead, widest_piece}
use Rattle.site_model.specs.Laws.Count.{calls_none, calls_read, calls_on, calls_failed, takes_none, takes_on, takes_read, takes_within}
use Rattle.shard_make.specs.Rooms.{HoldsPiece, HoldPieces, IsKeptBefore}
use Rattle.shard_make.specs.Made.{ReadsAt}

pub on_ok : {A E : Type 0} {P Q : Type 0} (r : Result A E) → (P → Q) → OnOk r P → OnOk r Q
on_ok (Ok x) f p = f p
on_ok (Err e) f p = tt

-- ---- calls

module _ {A : Type 0} {tells : Type 0} {disk : A → Disk} {counts : A → Counts} {count : A → ℕ} {server : ℕ} where
  -- Nothing was called, and so nothing failed.
  pub reads_none : {n : ℕ} {F : Type 0} (at : A) → ¬ F → ReadsAt tells disk counts count server n at at F
  reads_none at fine = record {
    same = λ told. refl;
    takes = takes_within (omega arith) (omega arith) (takes_none {width = 0} (counts at));
    calls = calls_failed fine (calls_none at);
    writes = refl;
  }

  pub reads_on : {m n : ℕ} {F G : Type 0} {old mid new : A} → ReadsAt tells disk counts count server m old mid F → ReadsAt tells disk counts count server n mid new G
      → ReadsAt tells disk counts count server (m + n) old new G
  reads_on first second = record {
    same = λ told. second.same told ∙ first.same told;
    takes = takes_on first.takes second.takes;
    calls = calls_on first.calls second.calls;
    writes = second.writes ∙ first.writes;
  }

  -- that of a failure after it
  pub reads_failed : {n : ℕ} {F G : Type 0} {old new : A} → (G → F) → ReadsAt tells disk counts count server n old new F → ReadsAt tells disk counts count server n old new G
  reads_failed failed did = record { same = did.same; takes = did.takes; calls = calls_failed failed did.calls; writes = did.writes }

  pub reads_one : {width : ℕ} {F : Type 0} {old new : A} → width ≤ widest_piece → (tells → disk new ≡ disk old) → CountsRead server width (counts old) (counts new) F → count new ≡ count old
      → ReadsAt tells disk counts count server 1 old new F
  reads_one narrow same did servers =
      record { same = same; takes = takes_within (omega arith) narrow (takes_read did); calls = calls_read narrow did servers; writes = did.writes }

-- ---- bytes

-- of what stands in the middle, and before it
pub at_middle : (front out rest : List ℕ) (from i : ℕ) → length front ≡ from → i < length out → slice_index (front ++ (out ++ rest)) (from + i) ≡ slice_index out i
at_middle front out rest from i long h =
    let place : from + i - from ≡ i = omega arith in
    get_or-append_right front (out ++ rest) from (from + i) 0 long (omega arith)
    ∙ ap (λ m. get_or (out ++ rest) m 0) place
    ∙ get_or_append_left out rest 0 i h

-- one piece more
pub pieces_next : (dat old new : List ℕ) (from apart size n : ℕ) → HoldPieces dat old from apart size n → IsKeptBefore (n * size) old new → HoldsPiece dat new (from + n * apart) size n → HoldPieces dat new from apart size (n + 1)
pieces_next dat old new from apart size n so_far kept piece i h j below = elim (cases_lt i n) [
  | inl less ↦
      let next : i + 1 ≤ n = omega (arith, less) in
      kept (i * size + j) (omega (arith, below, mul-le-mul_right size next)) ∙ so_far i less j below
  | inr more ↦
      let same : i ≡ n = omega (arith, h, more) in
      subst (λ m. slice_index new (m * size + j) ≡ slice_index dat (from + m * apart + j)) (sym same) (piece j below)
]
