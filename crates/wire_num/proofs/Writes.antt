-- A field that is written at the front of what follows a place.
use Rattle.std.proofs.Common.{◌≡◌, ℕ, ◌+◌, ◌-◌, ◌≤◌, List, [], ◌++◌, length, take, drop, ap, ◌∙◌, arith}
use Rattle.std.proofs.lemmas.List.{append-nil, drop-drop, drop_all, length-drop, take_rest}
use Rattle.byteorder.specs.Endian.{big_bytes}
use Rattle.wire_num.specs.Numbers.{bytes_of}
use borrow.Rule.Slice.PartMut.{put_mid, mid_of, post_of}

-- xs is what the bytes were, and part what those from the place are now
pub field_written : (at n value : ℕ) (xs part : List ℕ) → at + n ≤ length xs
    → part ≡ big_bytes n value ++ drop n (mid_of at (length xs - at) xs)
    → put_mid at (length xs - at) xs part ≡ take at xs ++ (bytes_of n value ++ drop (at + n) xs)
unfolding bytes_of
field_written at n value xs part inside written =
    let behind : post_of at (length xs - at) xs ≡ [] = drop_all (length xs - at) (drop at xs) (omega (arith, length-drop at xs)) in
    let moved : drop n (mid_of at (length xs - at) xs) ≡ drop (at + n) xs = ap (drop n) (take_rest xs at) ∙ drop-drop n at xs in
    ap (λ rest. take at xs ++ (part ++ rest)) behind
    ∙ ap (λ all. take at xs ++ all) (append-nil part ∙ written ∙ ap (λ rest. big_bytes n value ++ rest) moved)
