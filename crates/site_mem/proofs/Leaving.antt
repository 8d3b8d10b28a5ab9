-- The site that a stop leaves, made file by file.
use Rattle.std.proofs.Common.{◌≡◌, ⊎_elim, ℕ, zero, suc, ◌+◌, ◌<◌, ◌≤◌, ◌==◌, nat_lt, Bool, true, false, cond, List, [], ◌∷◌, ◌++◌, length, take, get_or, Option, Some, None, is_some, refl, sym, ◌∙◌, ap, subst, arith}
use Rattle.std.proofs.lemmas.Bool.{cases_lt, and_parts}
use Rattle.std.proofs.lemmas.List.{take_more, take_all}
use Rattle.site_model.specs.Disk.{File, Place, Files, Call, Disk, HasFirmFront, appends, syncs, cuts, renames, removes, says}
use Rattle.site_mem.specs.declared.mem.MemSite.{MemSite}
use Rattle.site_mem.specs.declared.contents.Contents.{Contents}
use Rattle.site_mem.specs.declared.entry.Entry.{Entry}
use Rattle.site_mem.specs.declared.stored.Stored.{Stored}
use Rattle.site_mem.specs.declared.tear.Tear.{Tear}
use Rattle.site_mem.specs.declared.tear.Tear.TheVariants.{None as KeepsNone, All, Half, Fill}
use Rattle.site_mem.specs.Events.{Event, event_kept, added, told, called, done, put_file, files_called}
use Rattle.site_mem.specs.Kept.{place_kept, file_of, files_kept, are_apart}
use Rattle.site_mem.specs.Lost.{had_lost, files_without}
use Rattle.site_mem.specs.Record.{nothing, after_entry}
use Rattle.site_mem.specs.Counting.{IsWithin, is_within}
use Rattle.site_model.specs.Tallies.{AreNone}
use Rattle.site_mem.specs.Calls.{Underway, at_call, call_of, are_within, IsNowhereElse}
use Rattle.site_mem.specs.Replayed.{IsContentsAt}
use Rattle.site_mem.specs.Torn.{torn, torn_file, files_reached, said_reached, firm_of, IsTorn}
use Rattle.site_mem.specs.Site.{disk_at, IsFresh, IsUnused, KeepsUnused}
use Rattle.site_mem.proofs.Places.{by_place, put_here, put_else}
use Rattle.site_mem.proofs.Keeping.{apart_rest, behind, else_than, files_at, files_push}
use Rattle.site_mem.proofs.Calling.{nowhere_after, nowhere_at, within_is, front_of}

-- a call at these servers, if there is one
abbrev IsCallWithin : ℕ → Option Call → Type 0
IsCallWithin servers None = Unit {0}
IsCallWithin servers (Some call) = IsWithin servers (called call)

pub call_within : (servers n : ℕ) (d : Disk) (entries : List Entry) (since : List ℕ) → are_within servers entries ≡ true → IsCallWithin servers (at_call n d entries since).call
call_within servers n d [] since within = tt
call_within servers n d (e ∷ entries) since within = each (nat_lt e.number n) (e.number == n) (call_within servers n (after_entry d e) entries since (and_parts _ _ within).1)
  where
    asked : (event : Event) → is_within servers event ≡ true → IsCallWithin servers (call_of event)
    asked (added p bytes) is = tt
    asked (told bytes) is = tt
    asked (called call) is = within_is servers (called call) is

    each : (b t : Bool) → IsCallWithin servers (at_call n (after_entry d e) entries since).call
        → IsCallWithin servers (cond b (at_call n (after_entry d e) entries since) (record { files = files_without (had_lost e.lost.since n) d.files; said = d.said; call = cond t (call_of (event_kept e.asked)) None })).call
    each true t rest = rest
    each false true rest = asked (event_kept e.asked) (and_parts _ _ within).0
    each false false rest = tt

nowhere_called : (servers : ℕ) (call : Call) (files : Files) → IsWithin servers (called call) → IsNowhereElse servers files → IsNowhereElse servers (files_called call files)
nowhere_called servers call files within nowhere = nowhere_after servers (called call) files within nowhere

nowhere_reached : (servers : ℕ) (tear : Tear) (call : Option Call) (files : Files) → IsCallWithin servers call → IsNowhereElse servers files → IsNowhereElse servers (files_reached tear call files)
nowhere_reached servers KeepsNone call files within nowhere = nowhere
nowhere_reached servers All None files within nowhere = nowhere
nowhere_reached servers Half None files within nowhere = nowhere
nowhere_reached servers (Fill value) None files within nowhere = nowhere
nowhere_reached servers All (Some (appends p bytes)) files within nowhere = nowhere_called servers (appends p bytes) files within nowhere
nowhere_reached servers Half (Some (appends p bytes)) files within nowhere = nowhere_called servers (appends p bytes) files within nowhere
nowhere_reached servers (Fill value) (Some (appends p bytes)) files within nowhere = nowhere_called servers (appends p bytes) files within nowhere
nowhere_reached servers All (Some (syncs p)) files within nowhere = nowhere
nowhere_reached servers Half (Some (syncs p)) files within nowhere = nowhere
nowhere_reached servers (Fill value) (Some (syncs p)) files within nowhere = nowhere
nowhere_reached servers All (Some (cuts p n)) files within nowhere = nowhere_called servers (cuts p n) files within nowhere
nowhere_reached servers Half (Some (cuts p n)) files within nowhere = nowhere_called servers (cuts p n) files within nowhere
nowhere_reached servers (Fill value) (Some (cuts p n)) files within nowhere = nowhere_called servers (cuts p n) files within nowhere
nowhere_reached servers All (Some (renames p q)) files within nowhere = nowhere_called servers (renames p q) files within nowhere
nowhere_reached servers Half (Some (renames p q)) files within nowhere = nowhere_called servers (renames p q) files within nowhere
nowhere_reached servers (Fill value) (Some (renames p q)) files within nowhere = nowhere_called servers (renames p q) files within nowhere
nowhere_reached servers All (Some (removes p)) files within nowhere = nowhere_called servers (removes p) files within nowhere
nowhere_reached servers Half (Some (removes p)) files within nowhere = nowhere_called servers (removes p) files within nowhere
nowhere_reached servers (Fill value) (Some (removes p)) files within nowhere = nowhere_called servers (removes p) files within nowhere
nowhere_reached servers All (Some (says bytes)) files within nowhere = nowhere
nowhere_reached servers Half (Some (says bytes)) files within nowhere = nowhere
nowhere_reached servers (Fill value) (Some (says bytes)) files within nowhere = nowhere

-- what a stop within the call finds done
pub record IsReached (tear : Tear) (under_way : Underway) (contents : Contents) : Type 0 where
  pub files : files_kept contents.files.items ≡ files_reached tear under_way.call under_way.files
  pub said : contents.said.items ≡ said_reached tear under_way.call under_way.said

pub reached_from : (tear : Tear) (under_way : Underway) (old new : Contents) (asked : Option Call) → IsContentsAt under_way old → asked ≡ under_way.call
    → files_kept new.files.items ≡ files_reached tear asked (files_kept old.files.items) → new.said.items ≡ said_reached tear asked old.said.items → IsReached tear under_way new
reached_from tear under_way old new asked held is files said = record {
  files = files ∙ ap (λ call. files_reached tear call (files_kept old.files.items)) is ∙ ap (λ (f : Files). files_reached tear under_way.call f) (λ i k. (held.files k) i);
  said = said ∙ ap (λ call. said_reached tear call old.said.items) is ∙ ap (λ s. said_reached tear under_way.call s) held.said;
}

-- a file that is kept is at a server of the site
pub server_of : (servers : ℕ) (kept : List Stored) (i : ℕ) (s : Stored) (files : Files) → i < length kept → s ≡ get_or kept i s → are_apart kept ≡ true → files_kept kept ≡ files → IsNowhereElse servers files → s.server < servers
server_of servers kept i s files within is apart same nowhere = ⊎_elim
    (λ inside. inside)
    (λ far. absurd (clash (files_kept kept (place_kept s)) (ap (λ (t : Stored). files_kept kept (place_kept t)) is ∙ files_at kept i s within apart) (ap (λ (f : Files). is_some (f (place_kept s))) same ∙ nowhere (place_kept s) far)))
    (cases_lt s.server servers)
  where
    clash : (f : Option File) → f ≡ Some (file_of (get_or kept i s)) → is_some f ≡ false → ⊥
    clash f on off = cc (ap (λ g. is_some g) on)

pub reached_server : (servers n i : ℕ) (tear : Tear) (entries : List Entry) (since : List ℕ) (contents : Contents) (s : Stored) → i < length contents.files.items → s ≡ get_or contents.files.items i s → are_within servers entries ≡ true
    → IsReached tear (at_call n nothing entries since) contents → s.server < servers
reached_server servers n i tear entries since contents s within is all reached =
    server_of servers contents.files.items i s _ within is contents.apart reached.files
    (nowhere_reached servers tear (at_call n nothing entries since).call (at_call n nothing entries since).files (call_within servers n nothing entries since all) (nowhere_at servers n nothing entries since all (λ k far. refl)))

-- of the files before it none is at its place
none_before : (kept : List Stored) (i : ℕ) (s : Stored) → i < length kept → s ≡ get_or kept i s → are_apart kept ≡ true → files_kept (take i kept) (place_kept s) ≡ None
none_before [] i s within is apart = absurd (omega arith)
none_before (x ∷ kept) zero s within is apart = refl
none_before (x ∷ kept) (suc i) s within is apart =
    behind x (take i kept) (place_kept s) (λ e. else_than x kept i s (omega arith) apart (ap (λ (t : Stored). place_kept t) (sym is) ∙ e)) ∙ none_before kept i s (omega arith) is (apart_rest x kept apart)

-- the site has what is left of the first i files, and what was said
pub record HasTorn (tear : Tear) (servers i : ℕ) (kept : List Stored) (spoken : List ℕ) (site : MemSite) : Type 0 where
  pub files : (k : Place) → (disk_at site).files k ≡ firm_of (torn tear (files_kept (take i kept) k))
  pub said : (disk_at site).said ≡ spoken
  pub past : (disk_at site).past ≡ []
  pub unused : IsUnused servers site

unused_on : (servers : ℕ) (old new : MemSite) → IsUnused servers old → KeepsUnused old new → IsUnused servers new
unused_on servers old new is keeps = record {
  servers_are = keeps.counts.servers ∙ is.servers_are;
  counts = subst (λ c. AreNone c) (sym keeps.counts.counts) is.counts;
  wants = keeps.counts.wants ∙ is.wants;
  fails = λ number. keeps.listed.fails number ∙ is.fails number;
  reads_fail = λ server. keeps.listed.reads_fail server ∙ is.reads_fail server;
}

pub torn_none : (tear : Tear) (servers : ℕ) (kept : List Stored) (spoken : List ℕ) (fresh site : MemSite) → IsFresh servers fresh → disk_at site ≡ done (told spoken) (disk_at fresh) → KeepsUnused fresh site → HasTorn tear servers 0 kept (disk_at site).said site
torn_none tear servers kept spoken fresh site is tells keeps = record {
  files = λ k. ap (λ (d : Disk). d.files k) (tells ∙ ap (λ d. done (told spoken) d) is.disk);
  said = refl;
  past = ap (λ (d : Disk). d.past) (tells ∙ ap (λ d. done (told spoken) d) is.disk);
  unused = unused_on servers fresh site is.unused keeps;
}

pub spoken_first : (spoken : List ℕ) (servers : ℕ) (fresh site : MemSite) → IsFresh servers fresh → disk_at site ≡ done (told spoken) (disk_at fresh) → (disk_at site).said ≡ spoken
spoken_first spoken servers fresh site is tells = ap (λ (d : Disk). d.said) (tells ∙ ap (λ d. done (told spoken) d) is.disk)

module _ (tear : Tear) (servers i : ℕ) (kept : List Stored) (spoken : List ℕ) (s : Stored) (within : i < length kept) (is : s ≡ get_or kept i s) (apart : are_apart kept ≡ true) where
  pub torn_absent : (site : MemSite) → HasTorn tear servers i kept spoken site → (disk_at site).files (place_kept s) ≡ None
  torn_absent site far = far.files (place_kept s) ∙ ap (λ f. firm_of (torn tear f)) (none_before kept i s within is apart)

  grown : (k : Place) → files_kept (take (i + 1) kept) k ≡ put_file (place_kept s) (Some (file_of s)) (files_kept (take i kept)) k
  grown k = ap (λ l. files_kept l k) (take_more kept i s within ∙ ap (λ x. take i kept ++ x ∷ []) (sym is))
      ∙ files_push (take i kept) s k (none_before kept i s within is apart)

  torn_at : (old : MemSite) → HasTorn tear servers i kept spoken old → (k : Place) → put_file (place_kept s) (firm_of (torn_file tear (file_of s))) (disk_at old).files k ≡ firm_of (torn tear (put_file (place_kept s) (Some (file_of s)) (files_kept (take i kept)) k))
  torn_at old far k = by_place (place_kept s) k
      (λ e. ap (λ q. put_file (place_kept s) (firm_of (torn_file tear (file_of s))) (disk_at old).files q) e ∙ put_here (place_kept s) (firm_of (torn_file tear (file_of s))) (disk_at old).files
      ∙ sym (ap (λ f. firm_of (torn tear f)) (ap (λ q. put_file (place_kept s) (Some (file_of s)) (files_kept (take i kept)) q) e ∙ put_here (place_kept s) (Some (file_of s)) (files_kept (take i kept)))))
      (λ ne off. put_else (place_kept s) k (firm_of (torn_file tear (file_of s))) (disk_at old).files ne ∙ far.files k
      ∙ sym (ap (λ f. firm_of (torn tear f)) (put_else (place_kept s) k (Some (file_of s)) (files_kept (take i kept)) ne)))

  pub torn_more : (old new : MemSite) → HasTorn tear servers i kept spoken old → (disk_at new).files ≡ put_file (place_kept s) (firm_of (torn_file tear (file_of s))) (disk_at old).files → (disk_at new).said ≡ (disk_at old).said
      → (disk_at new).past ≡ (disk_at old).past → KeepsUnused old new → HasTorn tear servers (i + 1) kept spoken new
  torn_more old new far files said past keeps = record {
    files = λ k. ap (λ (f : Files). f k) files ∙ torn_at old far k ∙ sym (ap (λ f. firm_of (torn tear f)) (grown k));
    said = said ∙ far.said;
    past = past ∙ far.past;
    unused = unused_on servers old new far.unused keeps;
  }

-- all files are torn
pub torn_all : (tear : Tear) (servers n : ℕ) (under_way : Underway) (contents : Contents) (kept : List Stored) (spoken : List ℕ) (site : MemSite) → kept ≡ contents.files.items → spoken ≡ contents.said.items → length kept ≤ n
    → IsReached tear under_way contents → HasTorn tear servers n kept spoken site → IsTorn tear under_way (disk_at site)
torn_all tear servers n under_way contents kept spoken site same spoke all reached far = record {
  files = λ k. far.files k ∙ ap (λ (l : List Stored). firm_of (torn tear (files_kept l k))) (take_all n kept all ∙ same) ∙ ap (λ (f : Files). firm_of (torn tear (f k))) reached.files;
  said = far.said ∙ spoke ∙ reached.said;
  past = far.past;
}

-- of what stood as the call was made no more is firm than there is
pub front_at : (under_way : Underway) (contents : Contents) → IsContentsAt under_way contents → (k : Place) → HasFirmFront (under_way.files k)
front_at under_way contents held k = subst (λ f. HasFirmFront f) (held.files k) (front_of contents.files.items k)
