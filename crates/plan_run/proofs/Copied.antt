-- The piece of a file that is copied next.
use Rattle.std.proofs.Common.{◌≡◌, ◌≢◌, inl, inr, ⊎_elim, ℕ, ◌+◌, ◌<◌, ◌≤◌, ◌^◌, true, false, List, length, take, drop, Some, sym, ◌∙◌, ap, subst, arith}
use Rattle.std.specs.Prelude.{◌==◌, slice_get}
use Rattle.std.proofs.lemmas.Bool.{and_parts, and_from, eqb-true, false≢true, leb-true}
use Rattle.std.proofs.lemmas.List.{length-take-le}
use Rattle.image_meaning.specs.Laws.Options.{some_is}
use Rattle.site_model.specs.Disk.{Files}
use Rattle.world_model.specs.World.{Volume}
use Rattle.world_model.specs.Ratios.{data_count}
use Rattle.file_names.specs.declared.Kind.{Kind}
use Rattle.file_names.specs.declared.Kind.TheVariants.{Idx, Shard, Vif}
use Rattle.shard_table.specs.Table.{Row, Table, row_of}
use Rattle.image_meaning.specs.Ends.{changes_form}
use Rattle.image_meaning.specs.Share.{Share, finals, share_of}
use Rattle.degraded_read.specs.Reading.{HasEnoughShards, shards_standing}
use Rattle.plan_steps.specs.declared.plan.FileState.{FileState}
use Rattle.plan_steps.specs.declared.step.Step.TheVariants.{CopyPiece}
use Rattle.plan_steps.specs.Kept.{Forms, HasAForm, IsKeptCoded}
use Rattle.plan_steps.specs.Planned.{planned}
use Rattle.plan_steps.specs.Listed.{IsListed}
use Rattle.plan_steps.specs.Walk.{is_file}
use Rattle.plan_steps.specs.Laws.Walk.{file_is}
use Rattle.plan_steps.specs.Laws.Enough.{leaves_enough}
use Rattle.plan_steps.specs.Laws.Within.{state_within}
use Rattle.image_meaning.specs.Parts.{Parts}
use Rattle.plan_steps.specs.AsTold.{IsPlannedKind}
use Rattle.plan_steps.specs.MendEnd.{IsMending}
use Rattle.plan_steps.specs.Next.{is_behind}
use Rattle.plan_steps.specs.Legality.{goes_on, goes_on_behind}
use Rattle.plan_steps.specs.After.{IsShort}
use Rattle.plan_steps.specs.Progressing.{Running, IsOnItsWay, FitsProgress}
use Rattle.plan_steps.specs.Stepping.{HasPiece}
use Rattle.plan_run.specs.declared.names.FileNames.{FileNames}
use Rattle.plan_run.specs.Copying.{AreCoded, GivesShardPart}
use Rattle.plan_run.specs.Pieces.{IsPiece}
use Rattle.plan_run.specs.Places.{HasTable}
use Rattle.plan_run.specs.Stepping.{IsAtWork}
use Rattle.plan_run.specs.Writing.{HasRoom}

-- as long as the room that it was read into
pub piece_long : (n : ℕ) (room out : List ℕ) → n ≤ length room → length out ≡ length (take n room) → length out ≡ n
piece_long n room out fits same = same ∙ length-take-le n room fits

module _ (r : Running) (servers : ℕ) (names : FileNames) (work : IsAtWork r servers names) (mends : IsMending r.plan.command) where
  -- while shards are mended or moved the volume is coded
  pub coded : (files : Files) → AreCoded r files
  coded files w f row start fits = by_form fits.fits.kept
    where
      same : f.changes ≡ false
      same = fits.begins.changes ∙ ⊎_elim (λ e. ap changes_form e) (λ e. ap changes_form e) mends

      by_form : HasAForm f (finals (share_of files r.plan.volume)) → IsKeptCoded f.parts (finals (share_of files r.plan.volume))
      by_form (inl (changes, kept)) = absurd (false≢true (sym same ∙ changes))
      by_form (inr kept) = kept

  -- and there are enough to read them
  pub enough : (table : Table) → HasTable r servers table → HasEnoughShards r.plan.info (row_of table r.plan.volume)
  enough table has =
      let row : Row = row_of table r.plan.volume in
      let way : IsOnItsWay r row = record { listed = work.on_its_way.1.listed; apart = work.on_its_way.1.apart; reached = work.on_its_way.1.reached; places = has.fits } in
      leb-true (data_count r.plan.info.geometry.ratio) (shards_standing r.plan.info row) (leaves_enough r row servers work.of_plan way mends)

module _ (r : Running) (servers : ℕ) (names : FileNames) (work : IsAtWork r servers names) (from to : ℕ) (kind : Kind) (at : ℕ) (due : HasPiece r (CopyPiece from to kind at) × (kind ≢ Vif)) where
  abbrev pub s : FileState
  s = due.0.file

  both : (is_file to kind s ≡ true) × ((at == s.length) ≡ true)
  both = and_parts (is_file to kind s) (at == s.length) due.0.goes

  pub is : (s.server ≡ to) × (s.kind ≡ kind)
  is = file_is to kind s both.0

  pub listed : IsListed r.states to kind
  listed = (due.0.at, s, due.0.there, is.0, is.1)

  begins : at ≡ s.length
  begins = eqb-true at s.length both.1

  -- the piece begins within the file
  pub from_short : IsShort r.plan at kind
  from_short = subst (λ (p : ℕ × Kind). IsShort r.plan p.0 p.1) (λ k. (sym begins k, is.1 k)) (work.bounds.short.lengths due.0.at s due.0.there due.0.behind)

  -- and is of one that a plan may write
  pub of_kind : IsPlannedKind r.plan kind
  of_kind = subst (IsPlannedKind r.plan) is.1 (state_within r.plan servers work.of_plan r.states work.on_its_way.1.listed due.0.at s due.0.there).1

  pub has_room : (place n : ℕ) → place ≡ due.0.at → at + n < 2 ^ 64 → HasRoom r.states place n
  has_room place n same fits u at_u =
      let here : u ≡ s = some_is u s (sym at_u ∙ ap (slice_get r.states) same ∙ due.0.there) in
      omega (arith, ap (λ (x : FileState). x.length) here, begins, fits)

  pub goes : goes_on_behind r.plan r.place (CopyPiece from to kind at) s ≡ true
  goes = and_from (is_behind s.stage) (goes_on r.plan r.place (CopyPiece from to kind at) s) due.0.behind due.0.goes

  pub only : (place : ℕ) → place ≡ due.0.at → (k : ℕ) (u : FileState) → slice_get r.states k ≡ Some u → goes_on_behind r.plan r.place (CopyPiece from to kind at) u ≡ true → k ≡ place
  only place same k u at_u e =
      let on = (and_parts (is_behind u.stage) (goes_on r.plan r.place (CopyPiece from to kind at) u) e).1 in
      let this = file_is to kind u (and_parts (is_file to kind u) (at == u.length) on).0 in
      work.on_its_way.1.apart.apart k due.0.at u s at_u due.0.there (this.0 ∙ sym is.0) (this.1 ∙ sym is.1) ∙ sym same

  pub no_index : kind ≢ Idx → s.kind ≢ Idx
  no_index other e = other (sym is.1 ∙ e)

  -- what follows of the bytes that are planned
  pub right : (t : Parts) (whole piece : List ℕ) → planned t kind ≡ Some whole → piece ≡ take (length piece) (drop at whole) → at + length piece ≤ length whole → IsPiece t s piece
  right t whole piece is_planned part within = record {
    whole = whole;
    planned_is = subst (λ c. planned t c ≡ Some whole) (sym is.1) is_planned;
    follows = subst (λ n. piece ≡ take (length piece) (drop n whole)) begins part;
    within = omega (arith, begins, within);
  }

-- of a shard
module _ (r : Running) (servers : ℕ) (names : FileNames) (work : IsAtWork r servers names) (from to i at : ℕ) (due : HasPiece r (CopyPiece from to (Shard i) at) × (◌≢◌ {A = Kind} (Shard i) Vif)) where
  pub right_shard : (files : Files) (piece : List ℕ) → GivesShardPart r files i at piece → (w : Volume) (f : Forms) (row : Row) (start : Share) → FitsProgress w f r row start (share_of files r.plan.volume) → IsPiece f.parts due.0.file piece
  right_shard files piece gives w f row start fits =
      let part = gives w f row start fits in
      right r servers names work from to (Shard i) at due f.parts part.whole piece part.there part.part part.within
