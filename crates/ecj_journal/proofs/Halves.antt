-- How an id is put behind a journal, a half at a time.
use Rattle.std.proofs.Common.{◌≡◌, ◌⊎◌, inl, inr, ℕ, ◌+◌, ◌^◌, ◌<◌, ◌≤◌, List, [], ◌++◌, length, Option, Some, None, refl, sym, ◌∙◌, ap, subst, arith, append_assoc}
use Rattle.std.specs.Prelude.{unwrap_or}
use Rattle.std.proofs.lemmas.List.{append-nil}
use Rattle.std.proofs.Math.ListN.{length-append}
use Rattle.site_model.specs.Disk.{File, Place, LeftOf, IsFirm, bytes_of, firm_file, IsPartlyGrown, IsFirmer, Disk, Appends, Syncs, appends}
use Rattle.site_model.specs.Leaves.{Leaves, WithinCall, starts, joins, weaker, left_before, by_append, by_sync}
use Rattle.site_model.specs.Touches.{Touches, At, touches_on, grown_left}
use Rattle.wire_num.specs.Numbers as numbers
use Rattle.wire_num.specs.Laws.Number.{length-bytes_of}
use Rattle.wire_num.specs.Pairs.{journal_bytes}
use Rattle.whole_file.specs.Whole.{AppendsFirm}
use Rattle.wire_num.specs.Laws.Pair.{HasOrGains, has_behind, has_half}
use Rattle.ecj_journal.specs.Journals.{AppendsPair, GrowsBy}

appended : {p : Place} {bytes : List ℕ} {old new : Disk} → Appends p bytes old new → Leaves old new (WithinCall (appends p bytes) old)
appended {p} {bytes} {old} {new} did = by_append (starts old (λ image left. (left_before (appends p bytes) old.files image left, refl))) did (λ image left. (left, refl))

-- and a sync
pub then_synced : {p : Place} {bytes : List ℕ} {old mid new : Disk} → Appends p bytes old mid → Syncs p mid new → AppendsFirm p bytes old new
then_synced did synced = record {
  leaves = by_sync (appended did) synced;
  said = synced.said ∙ did.said;
  others = λ k other. synced.others k other ∙ did.others k other;
}

-- how far a file grew, by an append
pub grows_appended : (n : ℕ) (old new : Option File) → IsPartlyGrown n old new → GrowsBy n (bytes_of old) (bytes_of new)
grows_appended n old new (inl same) = record { more = []; few = omega arith; behind = ap bytes_of same ∙ sym (append-nil (bytes_of old)) }
grows_appended n None new (inr grew) = record { more = grew.0; few = grew.1; behind = ap bytes_of grew.2 }
grows_appended n (Some old) new (inr grew) = record { more = grew.0; few = grew.1; behind = ap bytes_of grew.2 }

-- and a sync, which leaves the bytes
same_bytes : (old new : Option File) → (new ≡ old) ⊎ IsFirmer old new → bytes_of new ≡ bytes_of old
same_bytes old new (inl same) = ap bytes_of same
same_bytes None None (inr firmer) = refl
same_bytes None (Some new) (inr firmer) = absurd firmer
same_bytes (Some old) None (inr firmer) = absurd firmer
same_bytes (Some old) (Some new) (inr firmer) = firmer.0

pub grows_synced : {n : ℕ} {bytes : List ℕ} {old new : Option File} → GrowsBy n bytes (bytes_of old) → (new ≡ old) ⊎ IsFirmer old new → GrowsBy n bytes (bytes_of new)
grows_synced {n} {bytes} {old} {new} grew synced = subst (GrowsBy n bytes) (sym (same_bytes old new synced)) grew

pub grows_on : {m n : ℕ} {a b c : List ℕ} → GrowsBy m a b → GrowsBy n b c → GrowsBy (m + n) a c
grows_on {a = a} first second = record {
  more = first.more ++ second.more;
  few = omega (arith, length-append first.more second.more, first.few, second.few);
  behind = second.behind ∙ ap (λ (l : List ℕ). l ++ second.more) first.behind ∙ append_assoc a first.more second.more;
}

pub grows_within : {m n : ℕ} {a b : List ℕ} → m ≤ n → GrowsBy m a b → GrowsBy n a b
grows_within more grew = record { more = grew.more; few = omega (arith, more, grew.few); behind = grew.behind }

-- what is left of a file that was firm or absent, and grew by at most n bytes
grown_over : (n : ℕ) (old file : Option File) (image : Option (List ℕ)) → IsFirm old → IsPartlyGrown n old file → LeftOf file image
    → (more : List ℕ) × (length more ≤ n) × (unwrap_or image [] ≡ bytes_of old ++ more)
grown_over n None file None firm grew left = ([], omega arith, refl)
grown_over n None file (Some found) firm (inl same) left = absurd (subst (λ f. LeftOf f (Some found)) same left)
grown_over n None file (Some found) firm (inr grew) left =
    let torn = subst (λ f. LeftOf f (Some found)) grew.2 left in (found, omega (arith, torn.no_longer, grew.1), refl)
grown_over n (Some old) file image firm grew left =
    let is : Some old ≡ Some (firm_file old.bytes) = λ i. Some (record { bytes = old.bytes; firm = firm.0 i; is_named = firm.1 i }) in
    let found = grown_left old.bytes n file image (subst (λ f. IsPartlyGrown n f file) is grew) left in
    (found.0, found.1, ap (λ (o : Option (List ℕ)). unwrap_or o []) found.2)

touches_firm : {p : Place} {bytes : List ℕ} {old new : Disk} → AppendsFirm p bytes old new → Touches (At p) old new
touches_firm did = record { leaves = weaker did.leaves (λ image said left. (left.0.0, left.1)); others = did.others; said = did.said }

module _ (p : Place) (id : ℕ) where
  abbrev half : List ℕ
  half = numbers.bytes_of 8 id

  -- the first half
  pub first_half : (old new : Disk) (bytes : List ℕ) → bytes ≡ half → AppendsFirm p bytes old new → GrowsBy 8 (bytes_of (old.files p)) (bytes_of (new.files p)) → AppendsPair p id old new
  first_half old new bytes is_half did grew = record {
    touches = touches_firm did;
    grown = grows_within (omega arith) grew;
    leaves = λ ids fit firm is. weaker did.leaves (λ image said left.
        let found = grown_over (length bytes) (old.files p) left.0.1.0 (image p) firm left.0.1.1 left.0.1.2 in
        subst (HasOrGains ids id) (sym (found.2 ∙ ap (λ (l : List ℕ). l ++ found.0) is))
        (has_behind ids id found.0 fit (omega (arith, found.1, ap length is_half, length-bytes_of 8 id))));
  }

  -- and the second
  pub second_half : (old mid new : Disk) (bytes : List ℕ) → bytes ≡ half → id < 2 ^ 64 → AppendsPair p id old mid → mid.files p ≡ Some (firm_file (bytes_of (old.files p) ++ bytes))
      → AppendsFirm p bytes mid new → GrowsBy 8 (bytes_of (mid.files p)) (bytes_of (new.files p)) → AppendsPair p id old new
  second_half old mid new bytes is_half small first stands did grew = record {
    touches = touches_on first.touches (touches_firm did);
    grown = grows_on {m = 8} {n = 8} (record { more = bytes; few = omega (arith, ap length is_half, length-bytes_of 8 id); behind = ap bytes_of stands }) grew;
    leaves = λ ids fit firm is. joins (first.leaves ids fit firm is) (weaker did.leaves (λ image said left.
        let found = grown_over (length bytes) (mid.files p) left.0.1.0 (image p) (subst IsFirm (sym stands) (refl, refl)) left.0.1.1 left.0.1.2 in
        let front : bytes_of (mid.files p) ≡ bytes_of (old.files p) ++ bytes = ap bytes_of stands in
        subst (HasOrGains ids id)
        (sym (found.2 ∙ ap (λ (l : List ℕ). l ++ found.0) (front ∙ ap (λ (l : List ℕ). l ++ bytes) is ∙ ap (λ (l : List ℕ). journal_bytes ids ++ l) is_half) ∙ append_assoc (journal_bytes ids) half found.0))
        (has_half ids id found.0 fit small (omega (arith, found.1, ap length is_half, length-bytes_of 8 id)))));
  }
