-- Bytes spell a super block exactly where they pass the test, and then the one that is read of them.
use Rattle.std.proofs.Common.{◌≡◌, ℕ, ◌^◌, ◌<◌, ◌≤◌, List, ◌∷◌, ◌++◌, length, take, drop, get_or, true, false, refl, sym, ◌∙◌, ap, subst, arith}
use Rattle.std.specs.Prelude.{◌==◌, ◌&&◌, slice_index}
use Rattle.std.proofs.lemmas.Bool.{le-leb, lt-leb, eq-eqb, ne_eqb}
use Rattle.std.proofs.lemmas.List.{take-append-drop}
use Rattle.wire_num.specs.Numbers.{number_of, bytes_of}
use Rattle.wire_num.specs.Laws.Number.{AreBytes, bytes_there, number_of-bytes_of, number_fits, bytes_drop}
use Rattle.volume_forms.specs.declared.SuperBlock.{SuperBlock}
use Rattle.volume_forms.specs.declared.SuperFault.{SuperFault}
use Rattle.volume_forms.specs.declared.SuperFault.TheVariants.{Short, Version, Extra}
use Rattle.volume_forms.specs.Faults.{HasFault}
use Rattle.volume_forms.specs.Forms.{SpellsSuper, super_at, super_bytes, has_super}

pub has_super-by : (bytes : List ℕ) → 8 ≤ length bytes → slice_index bytes 0 ≡ 3 → number_of 2 (drop 6 bytes) ≡ 0 → has_super bytes ≡ true
unfolding has_super
has_super-by bytes long version extra =
    let is_long = le-leb 8 (length bytes) long in
    let is_third = eq-eqb (slice_index bytes 0) 3 version in
    let is_plain = eq-eqb (number_of 2 (drop 6 bytes)) 0 extra in
    λ i. (is_long i && is_third i) && is_plain i

-- bytes with a fault aren't accepted
pub fault-refused : (fault : SuperFault) (bytes : List ℕ) → HasFault fault bytes → has_super bytes ≡ false
unfolding has_super
fault-refused Short bytes h =
    let is_short = lt-leb 8 (length bytes) h in
    λ i. (is_short i && (slice_index bytes 0 == 3)) && (number_of 2 (drop 6 bytes) == 0)
fault-refused Version bytes h =
    let is_long = le-leb 8 (length bytes) h.0 in
    let is_other = ne_eqb (slice_index bytes 0) 3 h.1 in
    λ i. (is_long i && is_other i) && (number_of 2 (drop 6 bytes) == 0)
fault-refused Extra bytes h =
    let is_long = le-leb 8 (length bytes) h.0 in
    let is_third = eq-eqb (slice_index bytes 0) 3 h.1 in
    let has_more = ne_eqb (number_of 2 (drop 6 bytes)) 0 h.2 in
    λ i. (is_long i && is_third i) && has_more i

-- eight bytes, cut into the fields
in_fields : (bytes : List ℕ) → 8 ≤ length bytes → take 8 bytes ≡ get_or bytes 0 0 ∷ get_or bytes 1 0 ∷ take 2 (drop 2 bytes) ++ take 2 (drop 4 bytes) ++ take 2 (drop 6 bytes)
in_fields (a ∷ b ∷ c ∷ d ∷ e ∷ f ∷ g ∷ h ∷ rest) long = refl
in_fields _ long = absurd (omega arith)

-- what passes the tests is spelled by the bytes
pub super_at-spelled : (bytes : List ℕ) → AreBytes bytes → 8 ≤ length bytes → slice_index bytes 0 ≡ 3 → number_of 2 (drop 6 bytes) ≡ 0 → SpellsSuper (super_at bytes) (take 8 bytes)
super_at-spelled bytes all long is_third is_plain =
    let ttl = bytes_there 2 2 bytes (omega arith) all in
    let revision = bytes_there 2 4 bytes (omega arith) all in
    let extra = ap (bytes_of 2) (sym is_plain) ∙ bytes_there 2 6 bytes (omega arith) all in
    let fields : super_bytes (super_at bytes) ≡ get_or bytes 0 0 ∷ get_or bytes 1 0 ∷ take 2 (drop 2 bytes) ++ take 2 (drop 4 bytes) ++ take 2 (drop 6 bytes) =
    λ i. get_or bytes 0 0 ∷ get_or bytes 1 0 ∷ ttl i ++ revision i ++ extra i in
    record {
      version = is_third;
      ttl = number_fits 2 (drop 2 bytes) (bytes_drop 2 bytes all);
      revision = number_fits 2 (drop 4 bytes) (bytes_drop 4 bytes all);
      spelled = in_fields bytes long ∙ sym fields;
    }

again : (block : SuperBlock) (rest : List ℕ) → block.version ≡ 3 → block.ttl < 2 ^ 16 → block.revision < 2 ^ 16
    → (has_super (super_bytes block ++ rest) ≡ true) × (super_at (super_bytes block ++ rest) ≡ block)
unfolding bytes_of
again block rest version ttl revision =
    let after = bytes_of 2 0 ++ rest in
    let read_ttl = number_of-bytes_of 2 block.ttl (bytes_of 2 block.revision ++ after) ttl in
    let read_revision = number_of-bytes_of 2 block.revision after revision in (
      has_super-by _ (omega arith) version (number_of-bytes_of 2 0 rest (omega arith)),
      λ i. record { version = block.version; placement = block.placement; ttl = read_ttl i; revision = read_revision i },
    )

-- what the bytes spell is accepted, and read
pub spelled-is : (block : SuperBlock) (bytes : List ℕ) → SpellsSuper block (take 8 bytes) → (has_super bytes ≡ true) × (super_at bytes ≡ block)
spelled-is block bytes h =
    let P : List ℕ → Type 0 = λ all. (has_super all ≡ true) × (super_at all ≡ block) in
    let whole : super_bytes block ++ drop 8 bytes ≡ bytes = ap (λ front. front ++ drop 8 bytes) (sym h.spelled) ∙ take-append-drop 8 bytes in
    subst P whole (again block (drop 8 bytes) h.version h.ttl h.revision)
