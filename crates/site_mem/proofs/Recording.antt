-- The disk of a record that grows.
use Rattle.std.proofs.Common.{◌≡◌, ℕ, ◌-◌, Bool, true, false, cond, nat_lt, List, [], ◌∷◌, ◌++◌, length, take, get_or, None, refl, sym, ◌∙◌, ap, arith, length-append}
use Rattle.std.proofs.lemmas.List.{take_at}
use Rattle.site_model.specs.Disk.{Place, Files, Disk}
use Rattle.site_mem.specs.declared.entry.Entry.{Entry}
use Rattle.site_mem.specs.declared.history.History.{History}
use Rattle.site_mem.specs.declared.stored.Stored.{Stored}
use Rattle.site_mem.specs.Kept.{files_kept}
use Rattle.site_mem.specs.Events.{Event, event_kept, after, files_after, said_after}
use Rattle.site_mem.specs.Lost.{has_lost, without}
use Rattle.site_mem.specs.Record.{nothing, after_entry, from, disk_of, AreSame}
use Rattle.site_mem.specs.Entered.{IsEntered, IsUnentered}

pub from_push : (d : Disk) (entries : List Entry) (e : Entry) → from d (entries ++ e ∷ []) ≡ after_entry (from d entries) e
from_push d [] e = refl
from_push d (x ∷ entries) e = from_push (after_entry d x) entries e

-- nothing was lost
pub without_none : (since : List ℕ) (d : Disk) → ((server : ℕ) → get_or since server 0 ≡ 0) → without (has_lost since) d ≡ d
without_none since d none = λ i. record { files = λ k. (stays k) i; said = d.said; past = d.past }
  where
    stays : (k : Place) → cond (has_lost since k.0) None (d.files k) ≡ d.files k
    stays k = ap (λ n. cond (nat_lt 0 n) None (d.files k)) (none k.0)

pub disk_more : (entries : List Entry) (since now : List ℕ) (e : Entry) → e.lost.since ≡ since → ((server : ℕ) → get_or now server 0 ≡ 0)
    → disk_of (entries ++ e ∷ []) now ≡ after e.is_done (event_kept e.asked) (disk_of entries since)
disk_more entries since now e lost none =
    without_none now (from nothing (entries ++ e ∷ [])) none ∙ from_push nothing entries e
    ∙ ap (λ l. after e.is_done (event_kept e.asked) (without (has_lost l) (from nothing entries))) lost

-- what stands goes on with the record
pub files_more : (b : Bool) (event : Event) (old new : Files) (d : Disk) → AreSame old d.files → new ≡ cond b (files_after event old) old → AreSame new (after b event d).files
files_more true event old new d same is k = ap (λ (f : Files). f k) (is ∙ ap (files_after event) (λ i p. (same p) i))
files_more false event old new d same is k = ap (λ (f : Files). f k) is ∙ same k

pub said_more : (b : Bool) (event : Event) (old new : List ℕ) (d : Disk) → old ≡ d.said → new ≡ cond b (said_after event old) old → new ≡ (after b event d).said
said_more true event old new d same is = is ∙ ap (said_after event) same
said_more false event old new d same is = is ∙ same

module _ {n : ℕ} {b : Bool} {event : Event} {old new : History} where
  pub disk_entered : IsEntered n b event old new → disk_of new.entries.items new.lost.since ≡ after b event (disk_of old.entries.items old.lost.since)
  disk_entered is =
      ap (λ (l : List Entry). disk_of l new.lost.since) is.entries
      ∙ disk_more old.entries.items old.lost.since new.lost.since is.entry is.lost is.emptied
      ∙ ap (λ (done : Bool). after done (event_kept is.entry.asked) (disk_of old.entries.items old.lost.since)) is.is_done
      ∙ ap (λ (e : Event). after b e (disk_of old.entries.items old.lost.since)) is.event

pub disk_kept : {old new : History} → IsUnentered old new → disk_of new.entries.items new.lost.since ≡ disk_of old.entries.items old.lost.since
disk_kept {old} {new} is = ap (λ (l : List Entry). disk_of l new.lost.since) is.entries ∙ ap (λ (s : List ℕ). disk_of old.entries.items s) is.lost

-- nothing was asked
pub starts_files : (kept : List Stored) (entries : List Entry) (since : List ℕ) → kept ≡ [] → entries ≡ [] → ((server : ℕ) → get_or since server 0 ≡ 0) → AreSame (files_kept kept) (disk_of entries since).files
starts_files kept entries since no_file no_entry none k =
    ap (λ (l : List Stored). files_kept l k) no_file
    ∙ sym (ap (λ (d : Disk). d.files k) (ap (λ (l : List Entry). disk_of l since) no_entry ∙ without_none since nothing none))

pub starts_said : (said : List ℕ) (entries : List Entry) (since : List ℕ) → said ≡ [] → entries ≡ [] → said ≡ (disk_of entries since).said
starts_said said entries since nothing_said no_entry = nothing_said ∙ sym (ap (λ (l : List Entry). (disk_of l since).said) no_entry)

-- nothing changed
pub files_same : (kept new_kept : List Stored) (entries new_entries : List Entry) (since : List ℕ) → AreSame (files_kept kept) (disk_of entries since).files
    → files_kept new_kept ≡ files_kept kept → new_entries ≡ entries → AreSame (files_kept new_kept) (disk_of new_entries since).files
files_same kept new_kept entries new_entries since same files is k =
    ap (λ (f : Files). f k) files ∙ same k ∙ sym (ap (λ (l : List Entry). (disk_of l since).files k) is)

pub said_same : (said new_said : List ℕ) (entries new_entries : List Entry) (since : List ℕ) → said ≡ (disk_of entries since).said → new_said ≡ said → new_entries ≡ entries → new_said ≡ (disk_of new_entries since).said
said_same said new_said entries new_entries since same is entry = is ∙ same ∙ sym (ap (λ (l : List Entry). (disk_of l since).said) entry)

-- one entry more
module _ (entries new_entries : List Entry) (since now : List ℕ) (e : Entry) (event : Event) (is : new_entries ≡ entries ++ e ∷ []) (lost : e.lost.since ≡ since) (none : (server : ℕ) → get_or now server 0 ≡ 0) (asked : event_kept e.asked ≡ event) where
  grown_disk : disk_of new_entries now ≡ after e.is_done event (disk_of entries since)
  grown_disk = ap (λ (l : List Entry). disk_of l now) is ∙ disk_more entries since now e lost none ∙ ap (λ (v : Event). after e.is_done v (disk_of entries since)) asked

  pub grown_files : (kept new_kept : List Stored) → AreSame (files_kept kept) (disk_of entries since).files → files_kept new_kept ≡ cond e.is_done (files_after event (files_kept kept)) (files_kept kept)
      → AreSame (files_kept new_kept) (disk_of new_entries now).files
  grown_files kept new_kept same files k =
      files_more e.is_done event (files_kept kept) (files_kept new_kept) (disk_of entries since) same files k ∙ sym (ap (λ (d : Disk). d.files k) grown_disk)

  pub grown_said : (said new_said : List ℕ) → said ≡ (disk_of entries since).said → new_said ≡ cond e.is_done (said_after event said) said → new_said ≡ (disk_of new_entries now).said
  grown_said said new_said same becomes = said_more e.is_done event said new_said (disk_of entries since) same becomes ∙ sym (ap (λ (d : Disk). d.said) grown_disk)

-- what was pushed is popped again
pub popped : {A : Type 0} (old pushed : List A) (x : A) (n : ℕ) → pushed ≡ old ++ x ∷ [] → n ≡ length pushed → take (n - 1) pushed ≡ old
popped old pushed x n is long =
    ap (λ m. take m pushed) (omega (arith, long, ap length is, length-append old (x ∷ []))) ∙ ap (λ l. take (length old) l) is ∙ take_at old (x ∷ []) (length old) refl
