-- Whole lines of a front of the replies' texts.
use Rattle.std.proofs.Common.{◌≡◌, ◌⊎◌, inl, inr, ⊎_elim, ℕ, zero, suc, ◌+◌, Bool, true, false, cond, List, [], ◌∷◌, ◌++◌, length, take, drop, refl, sym, ◌∙◌, ap, subst, arith, append_assoc}
use Rattle.std.specs.Prelude.{◌==◌, nat_eq, flat_map}
use Rattle.std.specs.List.{starts_with}
use Rattle.std.proofs.lemmas.List.Sums.{sum_by-append, sum_by-cons}
use Rattle.world_model.specs.declared.types.Reply.{Reply}
use Rattle.script_text.specs.Texts.{text_of, reply_text}
use Rattle.script_text.specs.Laws.Text.{line_feeds, reply_text-no_feed, text_of-one_feed}
use Rattle.weed_shell.specs.Observed.{ready_text, text_with}
use Rattle.weed_shell.specs.Stops.{said_since}
use Rattle.weed_shell.specs.Stops as stops
use Rattle.promise_uses.specs.Lives.{WholeLinesAreReplies}

abbrev no_bytes : List ℕ
no_bytes = []

-- these bytes are whole lines of the first replies, and a rest without a line feed
record IsFrontOf (replies : List Reply) (bytes : List ℕ) : Type 0 where
  pub rest : List ℕ
  pub no_feed : line_feeds rest ≡ 0
  pub is : bytes ≡ flat_map text_of (take (line_feeds bytes) replies) ++ rest

-- a front of one text and of what follows it
record IsCut (text more bytes : List ℕ) : Type 0 where
  pub either : ((n : ℕ) × (bytes ≡ (text ++ 10 ∷ []) ++ take n more)) ⊎ (line_feeds bytes ≡ 0)

feeds-append : (a b : List ℕ) → line_feeds (a ++ b) ≡ line_feeds a + line_feeds b
feeds-append a b = sum_by-append (λ b. cond (b == 10) 1 0) a b

feeds_first : (b : ℕ) (bytes : List ℕ) → line_feeds (b ∷ bytes) ≡ cond {A = ℕ} (b == 10) 1 0 + line_feeds bytes
feeds_first b bytes = sum_by-cons (λ b. cond (b == 10) 1 0) b bytes

cut_first : (b : ℕ) (text more bytes : List ℕ) → (b == 10) ≡ false → IsCut text more bytes → IsCut (b ∷ text) more (b ∷ bytes)
cut_first b text more bytes e cut = record { either = ⊎_elim (λ whole. inl (whole.0, ap (λ (l : List ℕ). b ∷ l) whole.1)) (λ none. inr (no_more none)) cut.either }
  where
    no_more : line_feeds bytes ≡ 0 → line_feeds (b ∷ bytes) ≡ 0
    no_more none = let first : line_feeds (b ∷ bytes) ≡ 0 + line_feeds bytes = feeds_first b bytes ∙ ap (λ (x : Bool). cond {A = ℕ} x 1 0 + line_feeds bytes) e in omega (arith, first, none)

no_first : (b : ℕ) (text : List ℕ) → line_feeds (b ∷ text) ≡ 0 → ((b == 10) ≡ false) × (line_feeds text ≡ 0)
no_first b text none = by_byte (b == 10) refl
  where
    by_byte : (t : Bool) → (b == 10) ≡ t → ((b == 10) ≡ false) × (line_feeds text ≡ 0)
    by_byte true e = let first : line_feeds (b ∷ text) ≡ 1 + line_feeds text = feeds_first b text ∙ ap (λ (x : Bool). cond {A = ℕ} x 1 0 + line_feeds text) e in absurd (omega (arith, first, none))
    by_byte false e = let first : line_feeds (b ∷ text) ≡ 0 + line_feeds text = feeds_first b text ∙ ap (λ (x : Bool). cond {A = ℕ} x 1 0 + line_feeds text) e in (e, omega (arith, first, none))

cut_text : (text more : List ℕ) (n : ℕ) → line_feeds text ≡ 0 → IsCut text more (take n ((text ++ 10 ∷ []) ++ more))
cut_text text more zero none = record { either = inr refl }
cut_text [] more (suc n) none = record { either = inl (n, refl) }
cut_text (b ∷ text) more (suc n) none = let first = no_first b text none in cut_first b text more (take n ((text ++ 10 ∷ []) ++ more)) first.0 (cut_text text more n first.1)

nothing : (replies : List Reply) (bytes : List ℕ) → line_feeds bytes ≡ 0 → IsFrontOf replies bytes
nothing replies bytes none = record { rest = bytes; no_feed = none; is = ap (λ (n : ℕ). flat_map text_of (take n replies) ++ bytes) (sym none) }

one_more : (r : Reply) (replies : List Reply) (bytes : List ℕ) → IsFrontOf replies bytes → IsFrontOf (r ∷ replies) (text_of r ++ bytes)
one_more r replies bytes front =
    let parts = feeds-append (text_of r) bytes in
    let count : suc (line_feeds bytes) ≡ line_feeds (text_of r ++ bytes) = omega (arith, parts, text_of-one_feed r) in
    record {
      rest = front.rest;
      no_feed = front.no_feed;
      is = ap (λ (l : List ℕ). text_of r ++ l) front.is
          ∙ sym (append_assoc (text_of r) (flat_map text_of (take (line_feeds bytes) replies)) front.rest)
          ∙ ap (λ (n : ℕ). flat_map text_of (take n (r ∷ replies)) ++ front.rest) count;
    }

take_none : (n : ℕ) → take n no_bytes ≡ no_bytes
take_none zero = refl
take_none (suc n) = refl

front : (replies : List Reply) (n : ℕ) → IsFrontOf replies (take n (flat_map text_of replies))
unfolding text_of
front [] n = nothing [] _ (ap line_feeds (take_none n))
front (r ∷ replies) n = by_cut (λ m. front replies m) (cut_text (reply_text r) (flat_map text_of replies) n (reply_text-no_feed r)).either
  where
    by_cut : ((m : ℕ) → IsFrontOf replies (take m (flat_map text_of replies)))
        → ((m : ℕ) × (take n (text_of r ++ flat_map text_of replies) ≡ text_of r ++ take m (flat_map text_of replies))) ⊎ (line_feeds (take n (text_of r ++ flat_map text_of replies)) ≡ 0)
        → IsFrontOf (r ∷ replies) (take n (text_of r ++ flat_map text_of replies))
    by_cut rest (inl whole) = subst (λ (bytes : List ℕ). IsFrontOf (r ∷ replies) bytes) (sym whole.1) (one_more r replies _ (rest whole.0))
    by_cut rest (inr none) = nothing (r ∷ replies) _ none

drop_front : (a b : List ℕ) → drop (length a) (a ++ b) ≡ b
drop_front [] b = refl
drop_front (x ∷ a) b = drop_front a b

-- what was said is `ready`, and a front of the texts
after_ready : (texts : List ℕ) (n : ℕ) → starts_with nat_eq (take n (ready_text ++ texts)) ready_text ≡ true → (m : ℕ) × (take n (ready_text ++ texts) ≡ ready_text ++ take m texts)
after_ready texts zero e = absurd (cc e)
after_ready texts (suc zero) e = absurd (cc e)
after_ready texts (suc (suc zero)) e = absurd (cc e)
after_ready texts (suc (suc (suc zero))) e = absurd (cc e)
after_ready texts (suc (suc (suc (suc zero)))) e = absurd (cc e)
after_ready texts (suc (suc (suc (suc (suc zero))))) e = absurd (cc e)
after_ready texts (suc (suc (suc (suc (suc (suc m)))))) e = (m, refl)

pub whole_lines_are_replies : WholeLinesAreReplies
whole_lines_are_replies start replies said saw ready =
    let n = saw.front.0 in
    let since : said_since start said ≡ take n (text_with replies) = ap (λ (l : List ℕ). drop (length start.disk.said) l) saw.front.1 ∙ drop_front start.disk.said (take n (text_with replies)) in
    let then = after_ready (flat_map text_of replies) n (ap (λ (l : List ℕ). starts_with nat_eq l ready_text) (sym since) ∙ ready) in
    let is : said_since start said ≡ ready_text ++ take then.0 (flat_map text_of replies) = since ∙ then.1 in
    let whole = front replies then.0 in
    let count : stops.answered start said ≡ line_feeds (take then.0 (flat_map text_of replies)) =
    ap (λ (l : List ℕ). line_feeds (drop (length ready_text) l)) is ∙ ap line_feeds (drop_front ready_text (take then.0 (flat_map text_of replies))) in
    (whole.rest, whole.no_feed, is ∙ ap (λ (l : List ℕ). ready_text ++ l) (whole.is ∙ ap (λ (k : ℕ). flat_map text_of (take k replies) ++ whole.rest) (sym count)))
