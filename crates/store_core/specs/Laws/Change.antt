-- Which puts and deletions the store's world refuses, and what an accepted one makes of it.
use Rattle.std.proofs.Common.{◌≡◌, ℕ, ◌+◌, ◌<◌, Bool, true, false, List, [], ◌∷◌, length, Option, Some, None, refl, sym, ◌∙◌, ap, subst}
use Rattle.std.specs.Prelude.{◌==◌, not, nat_lt, if◌then◌else◌, MatchOption}
use Rattle.std.specs.Option.{option_map_or}
use Rattle.std.specs.FinMap.{get as at_id}
use Rattle.site_model.specs.Disk.{Files, Disk}
use Rattle.world_model.specs.declared.types.Content.{Content}
use Rattle.world_model.specs.declared.types.Refusal.{Refusal}
use Rattle.world_model.specs.declared.types.Refusal.TheVariants as refusal
use Rattle.world_model.specs.declared.types.Line.{Line}
use Rattle.world_model.specs.declared.types.Line.TheVariants as line
use Rattle.world_model.specs.declared.types.Reply.TheVariants as reply
use Rattle.world_model.specs.Sizes.{length_of_content, is_too_large, deletion_length, max_dat}
use Rattle.world_model.specs.World.{Needle, Volume, World, with_changed}
use Rattle.world_model.specs.Moves.{is_coded, is_sealed, when, first, has_none, has_other_cookie, refusal_of, grammatical, Allowed, Accepted, next_world}
use Rattle.needle_record.specs.declared.Record.{Record}
use Rattle.needle_record.specs.Records.{Placed, after_record, fold_records, end_of}
use Rattle.image_meaning.specs.Files.{VolumeFiles, contents, files_of, temps_of}
use Rattle.image_meaning.specs.Plain.{kept_records}
use Rattle.image_meaning.specs.Laws.Plain.{exact_kept_records, kept_used}
use Rattle.image_meaning.specs.Meaning.{max_volumes}
use Rattle.dat_volume.specs.declared.volume.DatVolume.{DatVolume}
use Rattle.store_core.specs.declared.slot.Slot.{Slot}
use Rattle.store_core.specs.declared.slot.Slot.TheVariants as slot
use Rattle.store_core.specs.declared.store.Store.{Store}
use Rattle.store_core.specs.Lines.{Serves}
use Rattle.store_core.specs.Slots.{plain_slot, unreadable}
use Rattle.store_core.specs.Refusals.{content_refusal, put_refusal, delete_refusal}
use Rattle.store_core.specs.Changes.{needle_refusal}
use Rattle.store_core.specs.Store.{slot_of, HoldsPlain, Fits, store_world}
use Rattle.store_core.specs.Laws.Store.{fold_records-mode}
use Rattle.store_core.specs.Laws.Put.{holds, holds_there}
use Rattle.store_core.specs.Laws.World.{world_has, unreadable_refuses, readable_rows}

-- A line on a plain volume of this world appends the record, if nothing refuses it.
pub record IsChange (w : World) (v : ℕ) (vol : Volume) (r : Record) (l : Line) : Type 0 where
  pub next : next_world w (grammatical l) reply.Done ≡ with_changed w v (λ x. after_record x r)
  pub done : refusal_of w l ≡ None → Allowed w (grammatical l) reply.Done
  pub refused : (why : Refusal) → refusal_of w l ≡ Some why → Allowed w (grammatical l) (reply.Refused why)
  pub refuses : refusal_of w l ≡ needle_refusal r (at_id vol.needles r.id)

-- the first refusal, or else the second
abbrev pub or_else : Option Refusal → Option Refusal → Option Refusal
or_else None second = second
or_else (Some why) second = Some why

-- what the volume in memory says is used is
pub holds_used : (d : DatVolume) (v : ℕ) (files temps : VolumeFiles) (plain : HoldsPlain d v files temps) → (fold_records plain.ps).used ≡ d.used
holds_used d v files temps plain =
    let kept : kept_records plain.dat plain.idx ≡ plain.ps = exact_kept_records plain.dat plain.idx plain.ps plain.exact in
    ap (λ (ps : List Placed). (fold_records ps).used) (sym kept) ∙ kept_used plain.dat plain.idx plain.exact.whole.super
    ∙ ap end_of (kept ∙ sym plain.exact.has) ∙ plain.exact.whole.to_end ∙ sym plain.used

put_rows : (empty large full other : Bool)
    → first (when empty refusal.Empty ∷ when large refusal.TooLarge ∷ when full refusal.Full ∷ when other refusal.Cookie ∷ [])
    ≡ or_else (if empty then Some refusal.Empty else if large then Some refusal.TooLarge else if full then Some refusal.Full else None) (when other refusal.Cookie)
put_rows true large full other = refl
put_rows false true full other = refl
put_rows false false true other = refl
put_rows false false false true = refl
put_rows false false false false = refl

delete_rows : (full none other : Bool)
    → first (when full refusal.Full ∷ when none refusal.NotFound ∷ when other refusal.Cookie ∷ [])
    ≡ or_else (if full then Some refusal.Full else None) (first (when none refusal.NotFound ∷ when other refusal.Cookie ∷ []))
delete_rows true none other = refl
delete_rows false none other = refl

-- what the needle refuses
put_by_needle : (cookie id now : ℕ) (content : Content) (needle : Option Needle)
    → when (option_map_or (λ n. not (n.cookie == cookie)) needle false) refusal.Cookie ≡ needle_refusal (record { cookie = cookie; id = id; content = Some content; appended = now }) needle
put_by_needle cookie id now content None = refl
put_by_needle cookie id now content (Some n) = by_test (n.cookie == cookie)
  where
    by_test : (b : Bool) → when (not b) refusal.Cookie ≡ (if b then None else Some refusal.Cookie)
    by_test true = refl
    by_test false = refl

delete_by_needle : (cookie id now : ℕ) (needle : Option Needle)
    → first (when (option_map_or (λ n. false) needle true) refusal.NotFound ∷ when (option_map_or (λ n. not (n.cookie == cookie)) needle false) refusal.Cookie ∷ [])
    ≡ needle_refusal (record { cookie = cookie; id = id; content = None; appended = now }) needle
delete_by_needle cookie id now None = refl
delete_by_needle cookie id now (Some n) = by_test (n.cookie == cookie)
  where
    by_test : (b : Bool) → first (when false refusal.NotFound ∷ when (not b) refusal.Cookie ∷ []) ≡ (if b then None else Some refusal.Cookie)
    by_test true = refl
    by_test false = refl

module _ (store : Store) (servers : ℕ) (files : Files) (fits : Fits store servers files) (v id cookie : ℕ) (below : v < max_volumes) where
  abbrev world : World
  world = store_world store (contents files)

  -- the rows of a put, and of a deletion
  abbrev put_tests : Content → Volume → List (Option Refusal)
  put_tests content vol =
      None
      ∷ when (is_coded vol.mode) refusal.Coded
      ∷ when (is_sealed vol.mode) refusal.ReadOnly
      ∷ when (length content.bytes == 0) refusal.Empty
      ∷ when (is_too_large content) refusal.TooLarge
      ∷ when (nat_lt store.settings.limit (vol.used + length_of_content content)) refusal.Full
      ∷ when (has_other_cookie vol.needles id cookie) refusal.Cookie
      ∷ []

  abbrev delete_tests : Volume → List (Option Refusal)
  delete_tests vol =
      None
      ∷ when (is_sealed vol.mode) refusal.ReadOnly
      ∷ when (nat_lt max_dat (vol.used + deletion_length)) refusal.Full
      ∷ when (has_none vol.needles id) refusal.NotFound
      ∷ when (has_other_cookie vol.needles id cookie) refusal.Cookie
      ∷ []

  module _ (d : DatVolume) (had : slot_of store v ≡ Some (plain_slot d false)) where
    -- the records of the volume, and the volume
    abbrev plain : HoldsPlain d v (files_of (contents files) v) (temps_of (contents files) v)
    plain = holds store servers files fits v below d false had

    abbrev meant : Volume
    meant = fold_records plain.ps

    is_used : meant.used ≡ d.used
    is_used = holds_used d v (files_of (contents files) v) (temps_of (contents files) v) plain

    -- a put is refused by the slot, or else by the cookie
    pub put_refuses : (content : Content)
        → refusal_of world (line.Put v id cookie content) ≡ or_else (content_refusal content d.used store.settings.limit) (when (has_other_cookie meant.needles id cookie) refusal.Cookie)
    put_refuses content =
        readable_rows d false (world.volumes v) (plain.ps, holds_there store servers files fits v below d false had) (put_tests content)
        ∙ ap (λ m. first (None ∷ when (is_coded m) refusal.Coded ∷ when (is_sealed m) refusal.ReadOnly ∷ when (length content.bytes == 0) refusal.Empty ∷ when (is_too_large content) refusal.TooLarge
        ∷ when (nat_lt store.settings.limit (meant.used + length_of_content content)) refusal.Full ∷ when (has_other_cookie meant.needles id cookie) refusal.Cookie ∷ [])) (fold_records-mode plain.ps)
        ∙ ap (λ n. first (when (length content.bytes == 0) refusal.Empty ∷ when (is_too_large content) refusal.TooLarge
        ∷ when (nat_lt store.settings.limit (n + length_of_content content)) refusal.Full ∷ when (has_other_cookie meant.needles id cookie) refusal.Cookie ∷ [])) is_used
        ∙ put_rows (length content.bytes == 0) (is_too_large content) (nat_lt store.settings.limit (d.used + length_of_content content)) (has_other_cookie meant.needles id cookie)

    -- a deletion is refused by the slot, or else by the needle
    pub delete_refuses :
        refusal_of world (line.Delete v id cookie)
        ≡ or_else (if nat_lt max_dat (d.used + deletion_length) then Some refusal.Full else None)
        (first (when (has_none meant.needles id) refusal.NotFound ∷ when (has_other_cookie meant.needles id cookie) refusal.Cookie ∷ []))
    delete_refuses =
        readable_rows d false (world.volumes v) (plain.ps, holds_there store servers files fits v below d false had) delete_tests
        ∙ ap (λ m. first (None ∷ when (is_sealed m) refusal.ReadOnly ∷ when (nat_lt max_dat (meant.used + deletion_length)) refusal.Full
        ∷ when (has_none meant.needles id) refusal.NotFound ∷ when (has_other_cookie meant.needles id cookie) refusal.Cookie ∷ [])) (fold_records-mode plain.ps)
        ∙ ap (λ n. first (when (nat_lt max_dat (n + deletion_length)) refusal.Full ∷ when (has_none meant.needles id) refusal.NotFound ∷ when (has_other_cookie meant.needles id cookie) refusal.Cookie ∷ [])) is_used
        ∙ delete_rows (nat_lt max_dat (d.used + deletion_length)) (has_none meant.needles id) (has_other_cookie meant.needles id cookie)

    -- what the slot doesn't refuse is a change
    pub put_change : (content : Content) (now : ℕ) → content_refusal content d.used store.settings.limit ≡ None
        → IsChange world v meant (record { cookie = cookie; id = id; content = Some content; appended = now }) (line.Put v id cookie content)
    put_change content now free = record {
      next = refl;
      done = λ e. subst (λ o. MatchOption o (Accepted world (line.Put v id cookie content) reply.Done) (λ why. reply.Done ≡ reply.Refused why)) (sym e) refl;
      refused = λ why e. subst (λ o. MatchOption o (Accepted world (line.Put v id cookie content) (reply.Refused why)) (λ y. reply.Refused why ≡ reply.Refused y)) (sym e) refl;
      refuses = put_refuses content ∙ ap (λ o. or_else o (when (has_other_cookie meant.needles id cookie) refusal.Cookie)) free
          ∙ put_by_needle cookie id now content (at_id meant.needles id);
    }

    pub delete_change : (now : ℕ) → (if nat_lt max_dat (d.used + deletion_length) then Some refusal.Full else None) ≡ None
        → IsChange world v meant (record { cookie = cookie; id = id; content = None; appended = now }) (line.Delete v id cookie)
    delete_change now free = record {
      next = refl;
      done = λ e. subst (λ o. MatchOption o (Accepted world (line.Delete v id cookie) reply.Done) (λ why. reply.Done ≡ reply.Refused why)) (sym e) refl;
      refused = λ why e. subst (λ o. MatchOption o (Accepted world (line.Delete v id cookie) (reply.Refused why)) (λ y. reply.Refused why ≡ reply.Refused y)) (sym e) refl;
      refuses = delete_refuses ∙ ap (λ o. or_else o (first (when (has_none meant.needles id) refusal.NotFound ∷ when (has_other_cookie meant.needles id cookie) refusal.Cookie ∷ []))) free
          ∙ delete_by_needle cookie id now (at_id meant.needles id);
    }

  -- what the slot refuses the world does
  put_by_seal : (content : Content) (why : Refusal) (d : DatVolume) (sealed : Bool) → slot_of store v ≡ Some (plain_slot d sealed) → put_refusal (Some (plain_slot d sealed)) content store.settings.limit ≡ Some why
      → refusal_of world (line.Put v id cookie content) ≡ Some why
  put_by_seal content why d true e p =
      readable_rows d true (world.volumes v) ((holds store servers files fits v below d true e).ps, holds_there store servers files fits v below d true e) (put_tests content) ∙ p
  put_by_seal content why d false e p =
      put_refuses d e content ∙ ap (λ o. or_else o (when (has_other_cookie (fold_records (holds store servers files fits v below d false e).ps).needles id cookie) refusal.Cookie)) p

  put_by_slot : (content : Content) (why : Refusal) (s : Option Slot) → slot_of store v ≡ s → put_refusal s content store.settings.limit ≡ Some why → refusal_of world (line.Put v id cookie content) ≡ Some why
  put_by_slot content why None e p = unreadable_refuses (slot_of store v) (world.volumes v) (world_has store servers files fits v below) why (ap unreadable e ∙ p) (put_tests content)
  put_by_slot content why (Some slot.Lost) e p = unreadable_refuses (slot_of store v) (world.volumes v) (world_has store servers files fits v below) why (ap unreadable e ∙ p) (put_tests content)
  put_by_slot content why (Some (slot.Plain plain)) e p = put_by_seal content why plain.volume plain.sealed e p

  delete_by_seal : (why : Refusal) (d : DatVolume) (sealed : Bool) → slot_of store v ≡ Some (plain_slot d sealed) → delete_refusal (Some (plain_slot d sealed)) ≡ Some why → refusal_of world (line.Delete v id cookie) ≡ Some why
  delete_by_seal why d true e p =
      readable_rows d true (world.volumes v) ((holds store servers files fits v below d true e).ps, holds_there store servers files fits v below d true e) delete_tests ∙ p
  delete_by_seal why d false e p =
      delete_refuses d e ∙ ap (λ o. or_else o (first (when (has_none (fold_records (holds store servers files fits v below d false e).ps).needles id) refusal.NotFound
      ∷ when (has_other_cookie (fold_records (holds store servers files fits v below d false e).ps).needles id cookie) refusal.Cookie ∷ []))) p

  delete_by_slot : (why : Refusal) (s : Option Slot) → slot_of store v ≡ s → delete_refusal s ≡ Some why → refusal_of world (line.Delete v id cookie) ≡ Some why
  delete_by_slot why None e p = unreadable_refuses (slot_of store v) (world.volumes v) (world_has store servers files fits v below) why (ap unreadable e ∙ p) delete_tests
  delete_by_slot why (Some slot.Lost) e p = unreadable_refuses (slot_of store v) (world.volumes v) (world_has store servers files fits v below) why (ap unreadable e ∙ p) delete_tests
  delete_by_slot why (Some (slot.Plain plain)) e p = delete_by_seal why plain.volume plain.sealed e p

-- a line that is refused, and nothing changes
pub refused_serves : (l : Line) (store : Store) (servers : ℕ) (disk : Disk) (why : Refusal) → Fits store servers disk.files → Allowed (store_world store (contents disk.files)) (grammatical l) (reply.Refused why)
    → Serves l store store disk disk (reply.Refused why) servers
refused_serves l store servers disk why fits allowed = record { allowed = allowed; moves = refl; fits = fits; settled = λ settled. settled }

module _ (store : Store) (servers : ℕ) (disk : Disk) (fits : Fits store servers disk.files) (v id cookie : ℕ) (below : v < max_volumes) (why : Refusal) where
  pub put_refused : (content : Content) → put_refusal (slot_of store v) content store.settings.limit ≡ Some why → Serves (line.Put v id cookie content) store store disk disk (reply.Refused why) servers
  put_refused content e =
      let w = store_world store (contents disk.files) in
      refused_serves (line.Put v id cookie content) store servers disk why fits
      (subst (λ o. MatchOption o (Accepted w (line.Put v id cookie content) (reply.Refused why)) (λ y. reply.Refused why ≡ reply.Refused y)) (sym (put_by_slot store servers disk.files fits v id cookie below content why (slot_of store v) refl e)) refl)

  pub delete_refused : delete_refusal (slot_of store v) ≡ Some why → Serves (line.Delete v id cookie) store store disk disk (reply.Refused why) servers
  delete_refused e =
      let w = store_world store (contents disk.files) in
      refused_serves (line.Delete v id cookie) store servers disk why fits
      (subst (λ o. MatchOption o (Accepted w (line.Delete v id cookie) (reply.Refused why)) (λ y. reply.Refused why ≡ reply.Refused y)) (sym (delete_by_slot store servers disk.files fits v id cookie below why (slot_of store v) refl e)) refl)
