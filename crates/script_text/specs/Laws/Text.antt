-- Each text is one line.
use Rattle.std.proofs.Common.{◌≡◌, ℕ, zero, suc, ◌+◌, ◌/◌, ◌%◌, ◌<◌, ◌==◌, not, nat_lt, Bool, true, false, cond, List, [], ◌∷◌, ◌++◌, length, get_or, Option, Some, None, refl, sym, ap, ◌∙◌, arith}
use Rattle.std.specs.Prelude.{codes, decimal, flat_map}
use Rattle.std.specs.List.{count_by, list_all}
use Rattle.std.specs.Fmt.{digits, digit_glyph, digits_onto}
use Rattle.std.proofs.lemmas.Bool.{and_from, and_parts, cond_both, ne_eqb}
use Rattle.std.proofs.lemmas.List.Sums.{sum_by-append, sum_by-cons}
use Rattle.hex.specs.Hex.{encode_with, encode_lower, lower_digits}
use Rattle.wire_num.specs.Numbers.{bytes_of}
use Rattle.world_model.specs.declared.types.Content.{Content}
use Rattle.world_model.specs.declared.types.Mode.{Mode}
use Rattle.world_model.specs.declared.types.Mode.TheVariants as mode
use Rattle.world_model.specs.declared.types.What.{What}
use Rattle.world_model.specs.declared.types.What.TheVariants as what
use Rattle.world_model.specs.declared.types.Refusal.{Refusal}
use Rattle.world_model.specs.declared.types.Refusal.TheVariants as refusal
use Rattle.world_model.specs.declared.types.Reply.{Reply}
use Rattle.world_model.specs.declared.types.Reply.TheVariants as reply
use Rattle.script_text.specs.Texts.{mode_text, what_text, refusal_text, part_text, flags_text, parts_text, content_text, row_text, reply_text, text_of}

abbrev pub line_feeds : List ℕ → ℕ
line_feeds bytes = count_by (λ b. b == 10) bytes

-- ---- bytes without a line feed

-- this byte is none
abbrev other : ℕ → Bool
other b = not (b == 10)

abbrev within_line : List ℕ → Bool
within_line bytes = list_all other bytes

record Within (bytes : List ℕ) : Type 0 where
  pub none : within_line bytes ≡ true

text : (bytes : List ℕ) → within_line bytes ≡ true → Within bytes
text bytes h = record { none = h }

append_within : (xs ys : List ℕ) → within_line xs ≡ true → within_line ys ≡ true → within_line (xs ++ ys) ≡ true
append_within [] ys h k = k
append_within (x ∷ xs) ys h k =
    let parts = and_parts (other x) (within_line xs) h in
    and_from (other x) (within_line (xs ++ ys)) parts.0 (append_within xs ys parts.1 k)

infixl 20 ◌then◌
◌then◌ : {xs ys : List ℕ} → Within xs → Within ys → Within (xs ++ ys)
◌then◌ {xs} {ys} h k = record { none = append_within xs ys h.none k.none }

no_feed : (xs : List ℕ) → within_line xs ≡ true → line_feeds xs ≡ 0
no_feed [] h = refl
no_feed (x ∷ xs) h =
    let parts = and_parts (other x) (within_line xs) h in
    sum_by-cons (λ b. cond (b == 10) 1 0) x xs ∙ (λ i. cond (not_true (x == 10) parts.0 i) 1 0 + no_feed xs parts.1 i)
  where
    not_true : (t : Bool) → not t ≡ true → t ≡ false
    not_true true e = sym e
    not_true false e = refl

other_at : (xs : List ℕ) (i : ℕ) → within_line xs ≡ true → other (get_or xs i 0) ≡ true
other_at [] i h = refl
other_at (x ∷ xs) zero h = (and_parts (other x) (within_line xs) h).0
other_at (x ∷ xs) (suc i) h = other_at xs i (and_parts (other x) (within_line xs) h).1

-- ---- numbers and bytes

glyph_is_other : (d : ℕ) → other (digit_glyph false d) ≡ true
glyph_is_other d = cond_both (nat_lt d 10) (48 + d) (87 + d) (λ g. other g ≡ true) (λ _. far (48 + d) (omega arith)) (λ _. far (87 + d) (omega arith))
  where
    far : (g : ℕ) → 10 < g → other g ≡ true
    far g h = ap not (ne_eqb g 10 (λ e. omega arith))

digits_within : (k n : ℕ) (rest : List ℕ) → within_line rest ≡ true → within_line (digits_onto k 10 false n rest) ≡ true
digits_within zero n rest h = h
digits_within (suc k) n rest h =
    let more : within_line (digit_glyph false (n % 10) ∷ rest) ≡ true = and_from (other (digit_glyph false (n % 10))) (within_line rest) (glyph_is_other (n % 10)) h in
    cond_both (n / 10 == 0) (digit_glyph false (n % 10) ∷ rest) (digits_onto k 10 false (n / 10) (digit_glyph false (n % 10) ∷ rest)) (λ ds. within_line ds ≡ true)
    (λ _. more) (λ _. digits_within k (n / 10) (digit_glyph false (n % 10) ∷ rest) more)

decimal_within : (n : ℕ) → Within (decimal n)
unfolding digits
decimal_within n = record { none = digits_within 64 n [] refl }

digits_of_bytes : (bytes : List ℕ) → within_line (encode_lower bytes) ≡ true
unfolding encode_with
digits_of_bytes [] = refl
digits_of_bytes (b ∷ bytes) =
    and_from (other (get_or lower_digits (b / 16) 0)) _ (other_at lower_digits (b / 16) refl)
    (and_from (other (get_or lower_digits (b % 16) 0)) (within_line (encode_lower bytes)) (other_at lower_digits (b % 16) refl) (digits_of_bytes bytes))

hex_within : (bytes : List ℕ) → Within (encode_lower bytes)
hex_within bytes = record { none = digits_of_bytes bytes }

-- ---- parts of replies

space : Within (codes " ")
space = text (codes " ") refl

mode_within : (m : Mode) → Within (mode_text m)
mode_within mode.Plain = text (codes "plain") refl
mode_within mode.Sealed = text (codes "sealed") refl
mode_within mode.Coded = text (codes "coded") refl
mode_within mode.Lost = text (codes "lost") refl

what_within : (w : What) → Within (what_text w)
what_within what.End = text (codes "end") refl
what_within what.Id = text (codes "id") refl
what_within what.Size = text (codes "size") refl
what_within what.Body = text (codes "body") refl
what_within what.Checksum = text (codes "checksum") refl
what_within what.Empty = text (codes "empty") refl
what_within what.Large = text (codes "large") refl

refusal_within : (why : Refusal) → Within (refusal_text why)
refusal_within refusal.NoJob = record { none = refl }
refusal_within refusal.NoServer = record { none = refl }
refusal_within refusal.NoVolume = record { none = refl }
refusal_within refusal.Exists = record { none = refl }
refusal_within refusal.Lost = record { none = refl }
refusal_within (refusal.Busy job) = text (codes "11 busy ") refl then decimal_within job
refusal_within refusal.Coded = record { none = refl }
refusal_within refusal.Plain = record { none = refl }
refusal_within refusal.ReadOnly = record { none = refl }
refusal_within refusal.Empty = record { none = refl }
refusal_within refusal.TooLarge = record { none = refl }
refusal_within refusal.Full = record { none = refl }
refusal_within (refusal.Fault server) = text (codes "15 fault ") refl then decimal_within server
refusal_within (refusal.Damaged w a b) = text (codes "16 damaged ") refl then what_within w then space then decimal_within a then space then decimal_within b
refusal_within refusal.NotFound = record { none = refl }
refusal_within refusal.Cookie = record { none = refl }

part_within : {A : Type 0} (key : List ℕ) (value : A → List ℕ) (part : Option A) → Within key → ((x : A) → Within (value x)) → Within (part_text key value part)
part_within key value None h v = record { none = refl }
part_within key value (Some x) h v = space then h then v x

flags_within : (flags : ℕ) → Within (flags_text flags)
flags_within flags = cond_both (flags == 0) [] (codes " flags=" ++ encode_lower (flags ∷ [])) Within (λ _. text [] refl) (λ _. text (codes " flags=") refl then hex_within (flags ∷ []))

parts_within : (c : Content) → Within (parts_text c)
parts_within c =
    flags_within c.flags then part_within (codes "name=") encode_lower c.name (text (codes "name=") refl) hex_within
    then part_within (codes "mime=") encode_lower c.mime (text (codes "mime=") refl) hex_within
    then part_within (codes "modified=") decimal c.modified (text (codes "modified=") refl) decimal_within
    then part_within (codes "ttl=") (λ n. encode_lower (bytes_of 2 n)) c.ttl (text (codes "ttl=") refl) (λ n. hex_within (bytes_of 2 n))
    then part_within (codes "pairs=") encode_lower c.pairs (text (codes "pairs=") refl) hex_within

content_within : (c : Content) → Within (content_text c)
content_within c = hex_within c.bytes then parts_within c

row_within : (row : ℕ × Mode × ℕ) → Within (row_text row)
row_within row = space then decimal_within row.0 then space then mode_within row.1 then space then decimal_within row.2

rows_within : (rows : List (ℕ × Mode × ℕ)) → Within (flat_map row_text rows)
rows_within [] = text [] refl
rows_within (row ∷ rows) = row_within row then rows_within rows

job_within : (job : ℕ) → Within (codes "OK job " ++ decimal job)
job_within job = text (codes "OK job ") refl then decimal_within job

reply_within : (r : Reply) → Within (reply_text r)
reply_within reply.Done = record { none = refl }
reply_within (reply.Found c) = text (codes "OK ") refl then content_within c
reply_within (reply.Listed rows) = text (codes "OK") refl then rows_within rows
reply_within (reply.Started job) = job_within job
reply_within (reply.Running job) = job_within job then text (codes " running") refl
reply_within (reply.Ended job) = job_within job then text (codes " done") refl
reply_within reply.Long = record { none = refl }
reply_within reply.Syntax = record { none = refl }
reply_within (reply.Refused why) = text (codes "ERR ") refl then refusal_within why

-- ---- the laws

-- the one line feed of a text is its last byte
pub reply_text-no_feed : (r : Reply) → line_feeds (reply_text r) ≡ 0
reply_text-no_feed r = no_feed (reply_text r) (reply_within r).none

pub text_of-one_feed : (r : Reply) → line_feeds (text_of r) ≡ 1
unfolding text_of
text_of-one_feed r = sum_by-append (λ b. cond (b == 10) 1 0) (reply_text r) (10 ∷ []) ∙ ap (λ n. n + 1) (reply_text-no_feed r)

-- so many texts, so many line feeds
pub texts-feeds : (rs : List Reply) → line_feeds (flat_map text_of rs) ≡ length rs
texts-feeds [] = refl
texts-feeds (r ∷ rs) = sum_by-append (λ b. cond (b == 10) 1 0) (text_of r) (flat_map text_of rs) ∙ (λ i. text_of-one_feed r i + texts-feeds rs i) ∙ omega arith
