-- The index that a rebuild or a balance copies: where it stands, and what it holds.
use Rattle.std.proofs.Common.{◌≡◌, ◌≢◌, ◌⊎◌, inl, inr, ⊎_elim, ℕ, ◌+◌, ◌-◌, ◌*◌, ◌<◌, ◌≤◌, true, false, List, [], ◌∷◌, length, get_or, map, take, drop, Option, Some, None, refl, sym, ◌∙◌, ap, subst, arith}
use Rattle.std.specs.Prelude.{◌==◌, IfSome, min, slice_get}
use Rattle.std.specs.String.{string_bytes}
use Rattle.std.proofs.lemmas.Bool.{eq-eqb, false≢true}
use Rattle.std.proofs.lemmas.List.{length-take-le, length-drop}
use Rattle.site_model.specs.Disk.{File, Files, bytes_of, size_of}
use Rattle.site_model.specs.Disk as disk
use Rattle.site_model.specs.Counts.{widest_piece}
use Rattle.world_model.specs.World.{Volume}
use Rattle.world_model.specs.Ratios.{data_count-some}
use Rattle.file_names.specs.declared.Kind.{Kind}
use Rattle.file_names.specs.declared.Kind.TheVariants.{Shard, Ecx, Vif}
use Rattle.file_names.specs.Names.{place_of}
use Rattle.shard_table.specs.Table.{Row}
use Rattle.image_meaning.specs.Laws.Options.{none_some, some_is}
use Rattle.image_meaning.specs.Share.{Share, share_of}
use Rattle.plan_steps.specs.declared.plan.FileState.{FileState}
use Rattle.plan_steps.specs.declared.step.Step.TheVariants.{CopyPiece}
use Rattle.plan_steps.specs.AsTold.{StandsAsTold}
use Rattle.plan_steps.specs.Fitting.{IsOther}
use Rattle.plan_steps.specs.Kept.{Forms}
use Rattle.plan_steps.specs.Laws.Found.{coded_finds}
use Rattle.plan_steps.specs.Laws.Legal.{file_found}
use Rattle.plan_steps.specs.Laws.Move.{place_within}
use Rattle.plan_steps.specs.Laws.Order.{name_at}
use Rattle.plan_steps.specs.Legal.{IsFound, HasFile}
use Rattle.plan_steps.specs.Lists.{list_by, list_of, mend_names}
use Rattle.plan_steps.specs.Members.{Has, at_has, has_any}
use Rattle.plan_steps.specs.MendEnd.{IsMending}
use Rattle.plan_steps.specs.MendList.{IsBesideKind, GetsFirst, IsMoveOf, held_place, in_mend}
use Rattle.plan_steps.specs.Next.{entries_by, first_holder, next_step}
use Rattle.plan_steps.specs.Order.{Names, names_of}
use Rattle.plan_steps.specs.Planned.{held, is_encode, is_found_coded}
use Rattle.plan_steps.specs.Plans.{IsPlaced, IsPlanBy}
use Rattle.plan_steps.specs.Progressing.{Running, FitsProgress}
use Rattle.plan_steps.specs.Stepping.{HasPiece}
use Rattle.plan_run.specs.declared.names.FileNames.{FileNames}
use Rattle.plan_run.specs.Pieces.{IsPiece}
use Rattle.plan_run.specs.Stepping.{IsAtWork}
use Rattle.plan_run.proofs.Copied.{is, from_short, right}
use Rattle.plan_run.proofs.Mending.{mends, from_holder}
use Rattle.plan_run.proofs.Named.{named_file}

long_file : (o : Option File) (n : ℕ) → size_of o ≡ Some n → length (bytes_of o) ≡ n
long_file None n e = absurd (none_some e)
long_file (Some file) n e = some_is (length file.bytes) n e

bytes_are : (o : Option File) (bytes : List ℕ) → disk.standing o ≡ Some bytes → bytes_of o ≡ bytes
bytes_are None bytes e = absurd (none_some e)
bytes_are (Some file) bytes e = some_is file.bytes bytes e

-- ---- where it stands

module _ (r : Running) (servers : ℕ) (names : FileNames) (work : IsAtWork r servers names) (mends : IsMending r.plan.command) where
  placed : (row : Row) × IsPlaced servers r.plan row
  placed = ⊎_elim
      (λ e. let made = subst (IsPlanBy servers r.plan) e work.of_plan.made in (made.0.row, made.0.placed))
      (λ e. let made = subst (IsPlanBy servers r.plan) e work.of_plan.made in (made.0.row, made.0.placed))
      mends

  no_encode : is_encode r.plan.command ≡ false
  no_encode = ⊎_elim (λ e. ap is_encode e) (λ e. ap is_encode e) mends

  list_is : list_of r.plan ≡ mend_names r.plan
  list_is = by_command mends
    where
      by_command : IsMending r.plan.command → list_of r.plan ≡ mend_names r.plan
      by_command (inl e) = ap (list_by r.plan) e
      by_command (inr e) = ap (list_by r.plan) e

  -- the index has as many entries as the plan counts
  pub count_is : entries_by r.plan r.plan.command ≡ r.plan.entry_count
  count_is = ⊎_elim (λ e. ap (entries_by r.plan) e) (λ e. ap (entries_by r.plan) e) mends

  module _ (from : ℕ) (first : from ≡ first_holder r.plan.places.items r.plan.home) where
    first_held : held r.plan from ≡ true
    first_held = by_places r.plan.places.items refl
      where
        by_places : (places : List (ℕ × ℕ)) → r.plan.places.items ≡ places → held r.plan from ≡ true
        by_places [] e = absurd (omega (arith, data_count-some r.plan.info.geometry.ratio, placed.1.enough, ap length e))
        by_places (p ∷ places) e =
            has_any (λ (q : ℕ × ℕ). q.1 == from) r.plan.places.items p (subst (λ (ps : List (ℕ × ℕ)). Has ps p) (sym e) (inl refl))
            (eq-eqb p.1 from (sym (first ∙ ap (λ ps. first_holder ps r.plan.home) e)))

    -- it has a place
    pub on_site : from < servers
    on_site =
        let at = held_place r.plan servers placed.0 placed.1 from first_held in
        subst (λ (o : Option ℕ). IfSome o (λ server. server < servers)) at.1 (placed.1.is_row.on_servers at.0 None (place_within placed.0 at.0 from at.1))

    found : (kind : Kind) → is_found_coded r.plan from kind ≡ true → IsFound r.plan from kind
    found kind e = coded_finds r.plan from kind no_encode ∙ e

    -- a server with shards keeps its index
    not_listed : IsOther r.states from Ecx
    not_listed j s there is_server is_kind =
        let listed : slice_get (list_of r.plan) j ≡ Some (from, Ecx) =
        ap (λ (files : Names). slice_get files j) (sym work.on_its_way.1.listed) ∙ name_at (λ (x : FileState). (x.server, x.kind)) r.states j s there ∙ (λ k. Some (is_server k, is_kind k)) in
        by_member (in_mend r.plan from Ecx (subst (λ (files : Names). Has files (from, Ecx)) list_is (at_has (list_of r.plan) j (from, Ecx) listed)))
      where
        by_member : (IsBesideKind Ecx × GetsFirst r.plan from) ⊎ (((i : ℕ) × (Ecx ≡ Shard i) × Has r.plan.targets.items (i, from)) ⊎ IsMoveOf r.plan.moves.items from Ecx) → ⊥
        by_member (inl (beside, gets)) = false≢true (sym gets.0 ∙ first_held)
        by_member (inr (inl (i, e, has))) = cc
        by_member (inr (inr (m, has, e, ends))) = cc

    has_index : HasFile r.plan r.states from Ecx
    has_index = inr (found Ecx first_held, not_listed)

    pub index_long : (now : Share) → StandsAsTold r.plan r.states now → length (bytes_of (now from Ecx false)) ≡ 16 * r.plan.entry_count
    index_long now told = long_file (now from Ecx false) (16 * r.plan.entry_count) ((told.found from Ecx has_index (found Ecx first_held) tt).1 ∙ ap (λ n. Some (16 * n)) count_is)

    -- it is the parts' index
    pub index_is : (w : Volume) (f : Forms) (row : Row) (start now : Share) → FitsProgress w f r row start now → bytes_of (now from Ecx false) ≡ f.parts.index
    index_is w f row start now fits = bytes_are (now from Ecx false) f.parts.index
        (file_found f w fits.forms r.plan start fits.begins r.states now fits.fits from Ecx has_index (found Ecx first_held) ∙ (fits.begins.finds.beside from (found Vif first_held)).index)

-- ---- its next piece

module _ (r : Running) (servers : ℕ) (names : FileNames) (work : IsAtWork r servers names) (from to at : ℕ) (due : HasPiece r (CopyPiece from to Ecx at) × (◌≢◌ {A = Kind} Ecx Vif)) (stepped : next_step r.plan r.states r.place ≡ Some (CopyPiece from to Ecx at)) where
  mending : IsMending r.plan.command
  mending = mends r servers names work from to Ecx at due.0 (is r servers names work from to Ecx at due).1 stepped (λ e. cc) (λ e. cc)

  first : from ≡ first_holder r.plan.places.items r.plan.home
  first = from_holder r servers names work from to Ecx at due.0 (is r servers names work from to Ecx at due).1 stepped refl

  pub source_there : from < servers
  source_there = on_site r servers names work mending from first

  count : entries_by r.plan r.plan.command ≡ r.plan.entry_count
  count = count_is r servers names work mending

  -- the piece begins within the index
  pub index_short : at ≤ 16 * r.plan.entry_count
  index_short = subst (λ n. at ≤ 16 * n) count (from_short r servers names work from to Ecx at due)

  -- how long it is
  pub piece_is : min widest_piece (16 * r.plan.entry_count - at) ≡ min widest_piece (16 * entries_by r.plan r.plan.command - at)
  piece_is = ap (λ n. min widest_piece (16 * n - at)) (sym count)

  module _ (place : ℕ) (same : place ≡ due.0.at) (name : List ℕ) (named : name ≡ get_or (map string_bytes names.lasts.items) place []) where
    -- the name is that of an index, at whichever server
    is_name : (from, name) ≡ place_of r.plan.volume from Ecx false
    is_name = ap (λ bytes. (from, bytes))
        (named ∙ (named_file (map string_bytes names.lasts.items) r.plan.volume false (list_of r.plan) place due.0.file.server Ecx work.named.lasts_are listed_name).1)
      where
        listed_name : slice_get (list_of r.plan) place ≡ Some (due.0.file.server, Ecx)
        listed_name =
            ap (λ (files : Names). slice_get files place) (sym work.on_its_way.1.listed) ∙ ap (slice_get (names_of r.states)) same
            ∙ name_at (λ (x : FileState). (x.server, x.kind)) r.states due.0.at due.0.file due.0.there ∙ (λ k. Some (due.0.file.server, (is r servers names work from to Ecx at due).1 k))

    -- it is read within the file
    pub within : (files : Files) (n : ℕ) → StandsAsTold r.plan r.states (share_of files r.plan.volume) → at + n ≤ 16 * r.plan.entry_count → at + n ≤ length (bytes_of (files (from, name)))
    within files n told fits =
        omega (arith, fits, index_long r servers names work mending from first (share_of files r.plan.volume) told, ap (λ k. length (bytes_of (files k))) is_name)

    -- and what is read is what follows
    pub right_index : (files : Files) (n : ℕ) (piece : List ℕ) → at + n ≤ length (bytes_of (files (from, name))) → piece ≡ take n (drop at (bytes_of (files (from, name)))) → (w : Volume) (f : Forms) (row : Row) (start : Share)
        → FitsProgress w f r row start (share_of files r.plan.volume) → IsPiece f.parts due.0.file piece
    right_index files n piece inside part w f row start fits =
        right r servers names work from to Ecx at due f.parts f.parts.index piece refl (part ∙ (λ k. take (sym long k) (drop at (whole k)))) (omega (arith, long, inside, ap length whole))
      where
        whole : bytes_of (files (from, name)) ≡ f.parts.index
        whole = ap (λ k. bytes_of (files k)) is_name ∙ index_is r servers names work mending from first w f row start (share_of files r.plan.volume) fits

        long : length piece ≡ n
        long = ap length part ∙ length-take-le n (drop at (bytes_of (files (from, name)))) (omega (arith, length-drop at (bytes_of (files (from, name))), inside))
