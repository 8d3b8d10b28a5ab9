-- How many calls bytes take in pieces.
use Rattle.std.proofs.Common.{◌≡◌, ℕ, ◌+◌, ◌-◌, ◌%◌, ◌<◌, ◌≤◌, min, List, length, take, drop, arith, length-drop}
use Rattle.std.proofs.lemmas.List.{length-take}
use Rattle.site_model.specs.Counts.{Counts, CountsRead, CountsWrite, TakesCalls, widest_piece}
use Rattle.site_model.specs.Laws.Count.{takes_on, takes_within, takes_read, takes_write}
use Rattle.whole_file.specs.Pieces.{read_pieces, append_pieces}

-- so many of n bytes are appended: whole pieces, where there are more to append
pub record HasSent (at n : ℕ) (old new : Counts) : Type 0 where
  pub whole : at < n → at % 65536 ≡ 0
  pub some : at < n → 0 < at
  pub calls : TakesCalls (append_pieces at) widest_piece old new

-- the same of a read, which needs no piece for no byte
pub record HasRead (at n : ℕ) (old new : Counts) : Type 0 where
  pub whole : at < n → at % 65536 ≡ 0
  pub calls : TakesCalls (read_pieces at) widest_piece old new

-- one call more, of one piece
one_more : {old mid new : Counts} (m n width : ℕ) → m + 1 ≤ n → width ≤ widest_piece → TakesCalls m widest_piece old mid → TakesCalls 1 width mid new → TakesCalls n widest_piece old new
one_more {old} {mid} {new} m n width more narrow so_far call =
    let piece : TakesCalls 1 widest_piece mid new = takes_within (omega arith) narrow call in
    let both : TakesCalls (m + 1) widest_piece old new = takes_on so_far piece in
    takes_within more (omega arith) both

module _ {server : ℕ} {F : Type 0} {old new : Counts} where
  pub first_sent : (width at n : ℕ) → width ≡ at → at ≡ min n 65536 → CountsWrite server width old new F → HasSent at n old new
  first_sent width at n same is did = record {
    whole = λ more. omega (arith, is, more);
    some = λ more. omega (arith, is, more);
    calls = takes_within (omega arith) (omega (arith, is, same)) (takes_write did);
  }

module _ {server : ℕ} {F : Type 0} {old mid new : Counts} where
  pub next_sent : (width at end n : ℕ) → at < n → width ≡ min (n - at) 65536 → end ≡ at + width → HasSent at n old mid → CountsWrite server width mid new F → HasSent end n old new
  next_sent width at end n more is ends so_far did = record {
    whole = λ yet. omega (arith, more, is, ends, yet, so_far.whole more);
    some = λ yet. omega (arith, ends, so_far.some more);
    calls = one_more (append_pieces at) (append_pieces end) width (omega (arith, more, is, ends, so_far.whole more, so_far.some more)) (omega (arith, is)) so_far.calls (takes_write did);
  }

  pub next_read : (width at end n : ℕ) → at < n → width ≡ min (n - at) 65536 → end ≡ at + width → HasRead at n old mid → CountsRead server width mid new F → HasRead end n old new
  next_read width at end n more is ends so_far did = record {
    whole = λ yet. omega (arith, more, is, ends, yet, so_far.whole more);
    calls = one_more (read_pieces at) (read_pieces end) width (omega (arith, more, is, ends, so_far.whole more)) (omega (arith, is)) so_far.calls (takes_read did);
  }

-- a slice is as long as it is asked
pub slice_long : (xs : List ℕ) (i n : ℕ) → i + n ≤ length xs → length (take (i + n - i) (drop i xs)) ≡ n
slice_long xs i n within = omega (arith, length-take (i + n - i) (drop i xs), length-drop i xs)
