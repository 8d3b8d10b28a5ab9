-- How copies make the new data file.
use Rattle.std.proofs.Common.{◌≡◌, ◌≢◌, ℕ, ◌+◌, ◌≤◌, List, [], ◌∷◌, ◌++◌, take, drop, Option, Some, None, refl, sym, ◌∙◌, ap, subst, append_assoc}
use Rattle.std.specs.Prelude.{IsSome}
use Rattle.std.proofs.lemmas.List.{append-nil, drop-drop}
use Rattle.std.proofs.Math.Seq.{take-add}
use Rattle.site_model.specs.Disk.{File, Place, Files, grown, synced, firm_file, bytes_of, standing, Disk, Appends}
use Rattle.site_model.specs.Leaves.{weaker}
use Rattle.site_model.specs.Touches.{Touches, At, touches_on, touches_look, touches_append}
use Rattle.whole_file.specs.Whole.{AppendsFirm}
use Rattle.volume_forms.specs.declared.Entry.{Entry}
use Rattle.volume_forms.specs.Kept.{entry_end}
use Rattle.dat_volume.specs.declared.reading.Place.{Place as Range}
use Rattle.volume_vacuum.specs.Copies.{bytes_by, copied, range_bytes, EndWithin, Grows, Joins}

-- ---- one file that grows

pub grows_none : (p : Place) (files : Files) → Grows p [] files files
grows_none p files = record { behind = λ front is. is ∙ ap Some (sym (append-nil front)) }

pub grows_on : {p : Place} {a b : List ℕ} {old mid new : Files} → Grows p a old mid → Grows p b mid new → Grows p (a ++ b) old new
grows_on {p} {a} {b} first second = record { behind = λ front is. second.behind (front ++ a) (first.behind front is) ∙ ap Some (append_assoc front a b) }

pub grows_same : {p : Place} {a b : List ℕ} {old new : Files} → a ≡ b → Grows p a old new → Grows p b old new
grows_same {p} {a} {b} {old} {new} same did = subst (λ l. Grows p l old new) same did

-- by an append
appended : (file after : Option File) (bytes front : List ℕ) → after ≡ Some (grown file bytes) → standing file ≡ Some front → standing after ≡ Some (front ++ bytes)
appended None after bytes front is stands = absurd cc
appended (Some file) after bytes front is stands = ap standing is ∙ ap (λ (l : List ℕ). Some (l ++ bytes)) (let same : file.bytes ≡ front = cc in same)

pub grows_append : (p : Place) (bytes : List ℕ) (old new : Files) → new p ≡ Some (grown (old p) bytes) → Grows p bytes old new
grows_append p bytes old new done = record { behind = λ front is. appended (old p) (new p) bytes front done is }

-- after nothing stood
pub first_append : (file after : Option File) (bytes : List ℕ) → file ≡ None → after ≡ Some (grown file bytes) → standing after ≡ Some bytes
first_append None after bytes none is = ap standing is
first_append (Some file) after bytes none is = absurd cc

-- and then synced
pub synced_firm : (file after : Option File) (bytes : List ℕ) → standing file ≡ Some bytes → after ≡ synced file → after ≡ Some (firm_file bytes)
synced_firm None after bytes stands is = absurd cc
synced_firm (Some file) after bytes stands is = is ∙ ap (λ (l : List ℕ). Some (firm_file l)) (let same : file.bytes ≡ bytes = cc in same)

pub stands_some : (file : Option File) (bytes : List ℕ) → standing file ≡ Some bytes → IsSome file
stands_some None bytes stands = absurd cc
stands_some (Some file) bytes stands = refl

-- ---- the data file beside it

pub dat_apart : {server : ℕ} {a b : List ℕ} → a ≢ b → ◌≢◌ {A = Place} (server, a) (server, b)
dat_apart apart e = apart (ap (λ (p : Place). p.1) e)

pub dat_stays : {p q : Place} {old new : Disk} → q ≢ p → Touches (At p) old new → bytes_of (new.files q) ≡ bytes_of (old.files q)
dat_stays {p} {q} apart did = ap bytes_of (did.others q apart)

-- ---- pieces of a range

-- a piece more
pub range_more : (bytes piece : List ℕ) (at done count : ℕ) → piece ≡ take count (drop (at + done) bytes) → take done (drop at bytes) ++ piece ≡ take (done + count) (drop at bytes)
range_more bytes piece at done count is =
    ap (λ l. take done (drop at bytes) ++ l) (is ∙ ap (take count) (sym (drop-drop done at bytes)))
    ∙ sym (take-add done count (drop at bytes))

-- what a piece of the range puts behind what was copied of it
pub range_grows : (p : Place) (bytes piece : List ℕ) (at done count : ℕ) (old mid new : Files) → Grows p (take done (drop at bytes)) old mid → new p ≡ Some (grown (mid p) piece) → piece ≡ take count (drop (at + done) bytes)
    → Grows p (take (done + count) (drop at bytes)) old new
range_grows p bytes piece at done count old mid new so_far done_is is = grows_same (range_more bytes piece at done count is) (grows_on so_far (grows_append p piece mid new done_is))

-- ---- ranges that follow each other

joined_bytes : (dat : List ℕ) (range next : Range) → range.at + range.length ≡ next.at → take (range.length + next.length) (drop range.at dat) ≡ range_bytes dat range ++ range_bytes dat next
joined_bytes dat range next follows =
    take-add range.length next.length (drop range.at dat)
    ∙ ap (λ l. range_bytes dat range ++ take next.length l) (drop-drop range.length range.at dat ∙ ap (λ n. drop n dat) follows)

pub joined : {kept : Range} (p : Place) (dat : List ℕ) (range next : Range) (files : Files) → range.at + range.length ≡ next.at → kept ≡ record { at = range.at; length = range.length + next.length } → Joins p dat range next kept files files
joined {kept} p dat range next files follows is = record {
  front = [];
  grows = grows_none p files;
  both = ap (range_bytes dat) is ∙ joined_bytes dat range next follows;
}

-- ---- records one after the other

-- so much is copied, and this range and these records are left
pub record HasCopied (p : Place) (dat : List ℕ) (entries : List Entry) (range : Range) (rest : List Entry) (old new : Files) : Type 0 where
  pub front : List ℕ
  pub grows : Grows p front old new
  pub left : front ++ (range_bytes dat range ++ copied dat rest) ≡ copied dat entries

pub copied_more : {p : Place} {dat : List ℕ} {entries rest more : List Entry} {range next kept : Range} {old mid new : Files} (e : Entry) → rest ≡ e ∷ more → range_bytes dat next ≡ bytes_by dat e
    → HasCopied p dat entries range rest old mid → Joins p dat range next kept mid new → HasCopied p dat entries kept more old new
copied_more {p} {dat} {entries} {rest} {more} {range} {next} {kept} e is own so_far did = record {
  front = so_far.front ++ did.front;
  grows = grows_on so_far.grows did.grows;
  left =
      append_assoc so_far.front did.front (range_bytes dat kept ++ copied dat more)
      ∙ ap (λ l. so_far.front ++ l)
      (sym (append_assoc did.front (range_bytes dat kept) (copied dat more)) ∙ ap (λ l. l ++ copied dat more) did.both
      ∙ append_assoc (range_bytes dat range) (range_bytes dat next) (copied dat more)
      ∙ ap (λ l. range_bytes dat range ++ (l ++ copied dat more)) own
      ∙ ap (λ es. range_bytes dat range ++ copied dat es) (sym is))
      ∙ so_far.left;
}

pub copied_all : {p : Place} {dat : List ℕ} {entries rest : List Entry} {range : Range} {old mid new : Files} → rest ≡ [] → HasCopied p dat entries range rest old mid → Grows p (range_bytes dat range) mid new → Grows p (copied dat entries) old new
copied_all {p} {dat} {entries} {rest} {range} is so_far did =
    grows_same (ap (λ l. so_far.front ++ l) (sym (append-nil (range_bytes dat range)) ∙ ap (λ es. range_bytes dat range ++ copied dat es) (sym is)) ∙ so_far.left) (grows_on so_far.grows did)

-- the next record ends within the data file, and so do those behind it
pub next_within : {n : ℕ} {rest more : List Entry} (e : Entry) → rest ≡ e ∷ more → EndWithin n rest → (entry_end e ≤ n) × EndWithin n more
next_within {n} e is within = subst (EndWithin n) is within

-- ---- places that are spelled otherwise

pub touch_at : {p q : Place} {old new : Disk} → p ≡ q → Touches (At p) old new → Touches (At q) old new
touch_at {p} {q} {old} {new} same did = subst (λ k. Touches (At k) old new) same did

-- an append after a look
pub next_touch : {p k : Place} {bytes : List ℕ} {old mid look new : Disk} → k ≡ p → Touches (At p) old mid → look ≡ mid → Appends k bytes look new → Touches (At p) old new
next_touch at so_far same did = touches_on so_far (touches_on (touches_look same) (touch_at at (touches_append did)))

-- a piece of a range, read and then appended
pub next_range : {p q k : Place} {piece : List ℕ} {old mid look : Disk} (new : Files) (at done count : ℕ) → q ≢ p → k ≡ p → look ≡ mid → Touches (At p) old mid
    → Grows p (take done (drop at (bytes_of (old.files q)))) old.files mid.files → new k ≡ Some (grown (look.files k) piece) → piece ≡ take count (drop (at + done) (bytes_of (mid.files q)))
    → Grows p (take (done + count) (drop at (bytes_of (old.files q)))) old.files new
next_range {p} {q} {k} {piece} {old} {mid} {look} new at done count apart place same so_far grows appends reads =
    range_grows p (bytes_of (old.files q)) piece at done count old.files mid.files new grows
    (subst (λ (n : Place). new n ≡ Some (grown (look.files n) piece)) place appends ∙ ap (λ (d : Disk). Some (grown (d.files p) piece)) same)
    (reads ∙ ap (λ l. take count (drop (at + done) l)) (dat_stays apart so_far))

-- ---- a file that is made anew

pub made_anew : {p k l : Place} (front : List ℕ) {bytes : List ℕ} (f1 f2 f3 : Files) → k ≡ p → l ≡ p → f1 k ≡ None → f2 l ≡ Some (grown (f1 l) front) → Grows p bytes f2 f3 → standing (f3 p) ≡ Some (front ++ bytes)
made_anew {p} {k} {l} front {bytes} f1 f2 f3 at_k at_l none appends grows =
    grows.behind front (first_append (f1 p) (f2 p) front (subst (λ n. f1 n ≡ None) at_k none) (subst (λ n. f2 n ≡ Some (grown (f1 n) front)) at_l appends))

pub firm_anew : {p k : Place} {bytes : List ℕ} (old new : Files) → k ≡ p → standing (old p) ≡ Some bytes → new k ≡ synced (old k) → new p ≡ Some (firm_file bytes)
firm_anew {p} {k} {bytes} old new at stands done = synced_firm (old p) (new p) bytes stands (subst (λ n. new n ≡ synced (old n)) at done)

pub touches_firm : {p : Place} {bytes : List ℕ} {old new : Disk} → AppendsFirm p bytes old new → Touches (At p) old new
touches_firm did = record { leaves = weaker did.leaves (λ image said left. (left.0.0, left.1)); others = did.others; said = did.said }
