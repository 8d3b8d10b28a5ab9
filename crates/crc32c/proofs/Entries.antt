-- The rule of the tables, and look-ups in them.
use Rattle.std.proofs.Common.{◌≡◌, ℕ, zero, suc, ◌+◌, ◌/◌, ◌%◌, ◌^◌, ◌<◌, List, [], ◌∷◌, get_or, map, refl, sym, ◌∙◌, ap, arith}
use Rattle.std.specs.Prelude.{bit_and, bit_xor}
use Rattle.std.specs.Int.Bits.{and_mask, xor_assoc, xor_comm, xor_shr, xor_zero_r}
use Rattle.crc32c.specs.Register.{turned, turns}
use Rattle.crc32c.specs.declared.tables.TheConstants.{TABLE_0, TABLE_1, TABLE_2, TABLE_3, TABLE_4, TABLE_5, TABLE_6, TABLE_7, TABLE_8, TABLE_9, TABLE_10, TABLE_11, TABLE_12, TABLE_13, TABLE_14, TABLE_15}
use Rattle.crc32c.proofs.Turns.{turns-add, turns-low, turns-xor, turns-zero}

-- entry i of the table is the register i behind n zero bits
pub record IsTable (n : ℕ) (table : List ℕ) : Type 0 where
  pub entry : (i : ℕ) → i < 256 → get_or table i 0 ≡ turns n i

-- what f makes of n numbers from i on
abbrev values_from : (ℕ → ℕ) → ℕ → ℕ → List ℕ
values_from f i zero = []
values_from f i (suc n) = f i ∷ values_from f (suc i) n

value_at : (f : ℕ → ℕ) (n i k : ℕ) → k < n → get_or (values_from f i n) k 0 ≡ f (i + k)
value_at f zero i k h = absurd (omega arith)
value_at f (suc n) i zero h = ap f (omega arith)
value_at f (suc n) i (suc k) h = let next : suc i + k ≡ i + suc k = omega arith in value_at f n (suc i) k (omega arith) ∙ ap f next

rule_0 : TABLE_0 ≡ values_from (turns 8) 0 256
unfolding turned turns
rule_0 = refl

pub is_table_0 : IsTable 8 TABLE_0
is_table_0 = record {
  entry = λ i h. (let front : 0 + i ≡ i = omega arith in ap (λ t. get_or t i 0) rule_0 ∙ value_at (turns 8) 256 0 i h ∙ ap (turns 8) front);
}

turned_at : (table : List ℕ) (i : ℕ) → get_or (map (turns 8) table) i 0 ≡ turns 8 (get_or table i 0)
turned_at [] i = sym (turns-zero 8)
turned_at (x ∷ table) zero = refl
turned_at (x ∷ table) (suc i) = turned_at table i

-- eight bits more than in the table before
next_table : (n : ℕ) (before after : List ℕ) → IsTable n before → after ≡ map (turns 8) before → IsTable (n + 8) after
next_table n before after rule same = record {
  entry = λ i h. ap (λ t. get_or t i 0) same ∙ turned_at before i ∙ ap (turns 8) (rule.entry i h) ∙ sym (turns-add n 8 i);
}

pub is_table_1 : IsTable 16 TABLE_1
unfolding turned turns
is_table_1 = next_table 8 TABLE_0 TABLE_1 is_table_0 refl

pub is_table_2 : IsTable 24 TABLE_2
unfolding turned turns
is_table_2 = next_table 16 TABLE_1 TABLE_2 is_table_1 refl

pub is_table_3 : IsTable 32 TABLE_3
unfolding turned turns
is_table_3 = next_table 24 TABLE_2 TABLE_3 is_table_2 refl

pub is_table_4 : IsTable 40 TABLE_4
unfolding turned turns
is_table_4 = next_table 32 TABLE_3 TABLE_4 is_table_3 refl

pub is_table_5 : IsTable 48 TABLE_5
unfolding turned turns
is_table_5 = next_table 40 TABLE_4 TABLE_5 is_table_4 refl

pub is_table_6 : IsTable 56 TABLE_6
unfolding turned turns
is_table_6 = next_table 48 TABLE_5 TABLE_6 is_table_5 refl

pub is_table_7 : IsTable 64 TABLE_7
unfolding turned turns
is_table_7 = next_table 56 TABLE_6 TABLE_7 is_table_6 refl

pub is_table_8 : IsTable 72 TABLE_8
unfolding turned turns
is_table_8 = next_table 64 TABLE_7 TABLE_8 is_table_7 refl

pub is_table_9 : IsTable 80 TABLE_9
unfolding turned turns
is_table_9 = next_table 72 TABLE_8 TABLE_9 is_table_8 refl

pub is_table_10 : IsTable 88 TABLE_10
unfolding turned turns
is_table_10 = next_table 80 TABLE_9 TABLE_10 is_table_9 refl

pub is_table_11 : IsTable 96 TABLE_11
unfolding turned turns
is_table_11 = next_table 88 TABLE_10 TABLE_11 is_table_10 refl

pub is_table_12 : IsTable 104 TABLE_12
unfolding turned turns
is_table_12 = next_table 96 TABLE_11 TABLE_12 is_table_11 refl

pub is_table_13 : IsTable 112 TABLE_13
unfolding turned turns
is_table_13 = next_table 104 TABLE_12 TABLE_13 is_table_12 refl

pub is_table_14 : IsTable 120 TABLE_14
unfolding turned turns
is_table_14 = next_table 112 TABLE_13 TABLE_14 is_table_13 refl

pub is_table_15 : IsTable 128 TABLE_15
unfolding turned turns
is_table_15 = next_table 120 TABLE_14 TABLE_15 is_table_14 refl

look_up : (n x : ℕ) (table : List ℕ) → IsTable n table → get_or table (bit_and x 255) 0 ≡ turns n (x % 256)
look_up n x table rule = ap (λ i. get_or table i 0) (and_mask x 8) ∙ rule.entry (x % 256) (omega arith)

-- one byte behind the bytes below it
pub stepped : (s b : ℕ) → b < 256 → bit_xor (get_or TABLE_0 (bit_and (bit_xor s b) 255) 0) (s / 256) ≡ turns 8 (bit_xor s b)
stepped s b h =
    let none : b / 256 ≡ 0 = omega arith in
    let high : s / 256 ≡ bit_xor s b / 256 = sym (xor_shr s b 8 ∙ ap (bit_xor (s / 256)) none ∙ xor_zero_r (s / 256)) in
    ap (λ x. bit_xor x (s / 256)) (look_up 8 (bit_xor s b) TABLE_0 is_table_0) ∙ ap (bit_xor (turns 8 (bit_xor s b % 256))) high ∙ sym (turns-low 8 (bit_xor s b))

-- the lowest byte is looked up, and the others stay
taken : (n m x y : ℕ) (table : List ℕ) → n ≡ 8 + m → y ≡ x / 256 → IsTable n table → turns n x ≡ bit_xor (get_or table (bit_and x 255) 0) (turns m y)
taken n m x y table bits rest rule =
    let low : turns m (turns 8 (x % 256)) ≡ get_or table (bit_and x 255) 0 =
    sym (turns-add 8 m (x % 256)) ∙ ap (λ k. turns k (x % 256)) (sym bits) ∙ sym (look_up n x table rule) in
    ap (λ k. turns k x) bits ∙ turns-add 8 m x ∙ ap (turns m) (turns-low 8 x) ∙ turns-xor m (turns 8 (x % 256)) (x / 256)
    ∙ ap (λ r. bit_xor r (turns m (x / 256))) low ∙ ap (λ r. bit_xor (get_or table (bit_and x 255) 0) (turns m r)) (sym rest)

-- the same with what was looked up before
taken_next : (sum n m x y : ℕ) (table : List ℕ) → n ≡ 8 + m → y ≡ x / 256 → IsTable n table
    → bit_xor sum (turns n x) ≡ bit_xor (bit_xor sum (get_or table (bit_and x 255) 0)) (turns m y)
taken_next sum n m x y table bits rest rule =
    ap (bit_xor sum) (taken n m x y table bits rest rule) ∙ sym (xor_assoc sum (get_or table (bit_and x 255) 0) (turns m y))

from_lowest : (n x : ℕ) (t0 t1 t2 t3 t4 t5 t6 t7 : List ℕ) → x < 2 ^ 64
    → IsTable (8 + n) t0 → IsTable (16 + n) t1 → IsTable (24 + n) t2 → IsTable (32 + n) t3
    → IsTable (40 + n) t4 → IsTable (48 + n) t5 → IsTable (56 + n) t6 → IsTable (64 + n) t7
    → bit_xor (bit_xor (bit_xor (bit_xor (bit_xor (bit_xor (bit_xor
    (get_or t7 (bit_and x 255) 0)
    (get_or t6 (bit_and (x / 256) 255) 0))
    (get_or t5 (bit_and (x / 65536) 255) 0))
    (get_or t4 (bit_and (x / 16777216) 255) 0))
    (get_or t3 (bit_and (x / 4294967296) 255) 0))
    (get_or t2 (bit_and (x / 1099511627776) 255) 0))
    (get_or t1 (bit_and (x / 281474976710656) 255) 0))
    (get_or t0 (bit_and (x / 72057594037927936) 255) 0) ≡ turns (64 + n) x
from_lowest n x t0 t1 t2 t3 t4 t5 t6 t7 h r0 r1 r2 r3 r4 r5 r6 r7 =
    let a7 : ℕ = get_or t7 (bit_and x 255) 0 in
    let a6 : ℕ = bit_xor a7 (get_or t6 (bit_and (x / 256) 255) 0) in
    let a5 : ℕ = bit_xor a6 (get_or t5 (bit_and (x / 65536) 255) 0) in
    let a4 : ℕ = bit_xor a5 (get_or t4 (bit_and (x / 16777216) 255) 0) in
    let a3 : ℕ = bit_xor a4 (get_or t3 (bit_and (x / 4294967296) 255) 0) in
    let a2 : ℕ = bit_xor a3 (get_or t2 (bit_and (x / 1099511627776) 255) 0) in
    let a1 : ℕ = bit_xor a2 (get_or t1 (bit_and (x / 281474976710656) 255) 0) in
    let a0 : ℕ = bit_xor a1 (get_or t0 (bit_and (x / 72057594037927936) 255) 0) in
    let none : x / 18446744073709551616 ≡ 0 = omega arith in
    sym (taken (64 + n) (56 + n) x (x / 256) t7 (omega arith) refl r7
    ∙ taken_next a7 (56 + n) (48 + n) (x / 256) (x / 65536) t6 (omega arith) (omega arith) r6
    ∙ taken_next a6 (48 + n) (40 + n) (x / 65536) (x / 16777216) t5 (omega arith) (omega arith) r5
    ∙ taken_next a5 (40 + n) (32 + n) (x / 16777216) (x / 4294967296) t4 (omega arith) (omega arith) r4
    ∙ taken_next a4 (32 + n) (24 + n) (x / 4294967296) (x / 1099511627776) t3 (omega arith) (omega arith) r3
    ∙ taken_next a3 (24 + n) (16 + n) (x / 1099511627776) (x / 281474976710656) t2 (omega arith) (omega arith) r2
    ∙ taken_next a2 (16 + n) (8 + n) (x / 281474976710656) (x / 72057594037927936) t1 (omega arith) (omega arith) r1
    ∙ taken_next a1 (8 + n) n (x / 72057594037927936) (x / 18446744073709551616) t0 (omega arith) (omega arith) r0
    ∙ ap (λ y. bit_xor a0 (turns n y)) none ∙ ap (bit_xor a0) (turns-zero n) ∙ xor_zero_r a0)

-- a sum from its other end
from_other_end : (a b c d e f g h : ℕ)
    → bit_xor (bit_xor (bit_xor (bit_xor (bit_xor (bit_xor (bit_xor a b) c) d) e) f) g) h
    ≡ bit_xor (bit_xor (bit_xor (bit_xor (bit_xor (bit_xor (bit_xor h g) f) e) d) c) b) a
from_other_end a b c d e f g h =
    let two : bit_xor h g ≡ bit_xor g h = xor_comm h g in
    let step : (x s t : ℕ) → s ≡ t → bit_xor s x ≡ bit_xor x t = λ x s t same. ap (λ y. bit_xor y x) same ∙ xor_comm t x in
    let right = step a _ _ (step b _ _ (step c _ _ (step d _ _ (step e _ _ (step f _ _ two))))) in
    xor_assoc (bit_xor (bit_xor (bit_xor (bit_xor (bit_xor a b) c) d) e) f) g h
    ∙ xor_assoc (bit_xor (bit_xor (bit_xor (bit_xor a b) c) d) e) f (bit_xor g h)
    ∙ xor_assoc (bit_xor (bit_xor (bit_xor a b) c) d) e (bit_xor f (bit_xor g h))
    ∙ xor_assoc (bit_xor (bit_xor a b) c) d (bit_xor e (bit_xor f (bit_xor g h)))
    ∙ xor_assoc (bit_xor a b) c (bit_xor d (bit_xor e (bit_xor f (bit_xor g h))))
    ∙ xor_assoc a b (bit_xor c (bit_xor d (bit_xor e (bit_xor f (bit_xor g h)))))
    ∙ sym right

-- the eight bytes of a word, each in its table
pub eight_looked_up : (n x : ℕ) (t0 t1 t2 t3 t4 t5 t6 t7 : List ℕ) → x < 2 ^ 64
    → IsTable (8 + n) t0 → IsTable (16 + n) t1 → IsTable (24 + n) t2 → IsTable (32 + n) t3
    → IsTable (40 + n) t4 → IsTable (48 + n) t5 → IsTable (56 + n) t6 → IsTable (64 + n) t7
    → bit_xor (bit_xor (bit_xor (bit_xor (bit_xor (bit_xor (bit_xor
    (get_or t0 (bit_and (x / 72057594037927936) 255) 0)
    (get_or t1 (bit_and (x / 281474976710656) 255) 0))
    (get_or t2 (bit_and (x / 1099511627776) 255) 0))
    (get_or t3 (bit_and (x / 4294967296) 255) 0))
    (get_or t4 (bit_and (x / 16777216) 255) 0))
    (get_or t5 (bit_and (x / 65536) 255) 0))
    (get_or t6 (bit_and (x / 256) 255) 0))
    (get_or t7 (bit_and x 255) 0) ≡ turns (64 + n) x
eight_looked_up n x t0 t1 t2 t3 t4 t5 t6 t7 h r0 r1 r2 r3 r4 r5 r6 r7 =
    from_other_end
    (get_or t0 (bit_and (x / 72057594037927936) 255) 0)
    (get_or t1 (bit_and (x / 281474976710656) 255) 0)
    (get_or t2 (bit_and (x / 1099511627776) 255) 0)
    (get_or t3 (bit_and (x / 4294967296) 255) 0)
    (get_or t4 (bit_and (x / 16777216) 255) 0)
    (get_or t5 (bit_and (x / 65536) 255) 0)
    (get_or t6 (bit_and (x / 256) 255) 0)
    (get_or t7 (bit_and x 255) 0)
    ∙ from_lowest n x t0 t1 t2 t3 t4 t5 t6 t7 h r0 r1 r2 r3 r4 r5 r6 r7
