-- The piece of a journal that is next.
use Rattle.std.proofs.Common.{◌≡◌, ◌≢◌, ◌⊎◌, inl, inr, ℕ, ◌-◌, ◌*◌, ◌/◌, ◌%◌, ◌≤◌, true, List, length, take, drop, Some, refl, sym, ◌∙◌, ap, subst, arith}
use Rattle.std.specs.Prelude.{◌==◌, min, slice_get}
use Rattle.std.proofs.lemmas.Bool.{and_parts, and_from, eqb-true, false≢true}
use Rattle.std.proofs.lemmas.List.{length-take, length-drop}
use Rattle.wire_num.specs.Pairs.{journal_bytes}
use Rattle.wire_num.specs.Laws.Pair.{length-journal_bytes}
use Rattle.world_model.specs.World.{Volume}
use Rattle.file_names.specs.declared.Kind.{Kind}
use Rattle.file_names.specs.declared.Kind.TheVariants.{Idx, Ecj}
use Rattle.shard_table.specs.Table.{Row}
use Rattle.image_meaning.specs.Share.{Share}
use Rattle.plan_steps.specs.declared.plan.Stage.{Stage}
use Rattle.plan_steps.specs.declared.plan.Stage.TheVariants.{Absent, Writing, Synced, Registered, Gone}
use Rattle.plan_steps.specs.declared.plan.FileState.{FileState}
use Rattle.plan_steps.specs.declared.step.Step.TheVariants.{PutJournal}
use Rattle.plan_steps.specs.Kept.{Forms}
use Rattle.plan_steps.specs.Planned.{planned}
use Rattle.plan_steps.specs.Listed.{IsListed}
use Rattle.plan_steps.specs.Walk.{is_file}
use Rattle.plan_steps.specs.Laws.Walk.{file_is}
use Rattle.plan_steps.specs.Next.{is_behind}
use Rattle.plan_steps.specs.Legality.{goes_on, goes_on_behind}
use Rattle.plan_steps.specs.After.{IsShort, IsInUnits}
use Rattle.plan_steps.specs.Progressing.{Running, FitsProgress}
use Rattle.plan_steps.specs.Stepping.{HasPiece}
use Rattle.plan_run.specs.declared.names.FileNames.{FileNames}
use Rattle.plan_run.specs.Pieces.{IsPiece}
use Rattle.plan_run.specs.Stepping.{IsAtWork}
use Rattle.plan_run.specs.Writing.{HasRoom}
use Rattle.plan_run.proofs.Pairs.{journal_piece}
use Rattle.image_meaning.specs.Laws.Options.{some_is}

-- a file that isn't synced yet
pub begun_by : (stage : Stage) → is_behind stage ≡ true → (stage ≡ Absent) ⊎ (stage ≡ Writing)
begun_by Absent e = inl refl
begun_by Writing e = inr refl
begun_by Synced e = absurd (false≢true e)
begun_by Registered e = absurd (false≢true e)
begun_by Gone e = absurd (false≢true e)

module _ (r : Running) (servers : ℕ) (names : FileNames) (work : IsAtWork r servers names) (server at : ℕ) (due : HasPiece r (PutJournal server at)) where
  abbrev s : FileState
  s = due.file

  abbrev ids : List ℕ
  ids = r.plan.deleted.items

  abbrev pub piece : List ℕ
  piece = journal_bytes (take 2048 (drop at ids))

  both : (is_file server Ecj s ≡ true) × ((at == s.length / 16) ≡ true)
  both = and_parts (is_file server Ecj s) (at == s.length / 16) due.goes

  pub is : (s.server ≡ server) × (s.kind ≡ Ecj)
  is = file_is server Ecj s both.0

  pub listed : IsListed r.states server Ecj
  listed = (due.at, s, due.there, is.0, is.1)

  short : s.length ≤ 16 * length ids
  short = subst (IsShort r.plan s.length) is.1 (work.bounds.short.lengths due.at s due.there due.behind)

  whole_pairs : s.length % 16 ≡ 0
  whole_pairs = subst (IsInUnits r.plan s.length) is.1 (work.bounds.units.units due.at s due.there due.behind)

  begins : s.length ≡ 16 * at
  begins = omega (arith, eqb-true at (s.length / 16) both.1, whole_pairs)

  pub from_short : at ≤ length ids
  from_short = omega (arith, begins, short)

  pub long : length piece ≡ 16 * min 2048 (length ids - at)
  long = length-journal_bytes (take 2048 (drop at ids)) ∙ ap (λ n. 16 * n) (length-take 2048 (drop at ids) ∙ ap (min 2048) (length-drop at ids))

  pub has_room : (place : ℕ) → place ≡ due.at → HasRoom r.states place (length piece)
  has_room place same u at_u =
      let here : u ≡ s = some_is u s (sym at_u ∙ ap (slice_get r.states) same ∙ due.there) in
      omega (arith, ap (λ (x : FileState). x.length) here, short, long, work.of_plan.room)

  pub goes : goes_on_behind r.plan r.place (PutJournal server at) s ≡ true
  goes = and_from (is_behind s.stage) (goes_on r.plan r.place (PutJournal server at) s) due.behind due.goes

  pub only : (place : ℕ) → place ≡ due.at → (k : ℕ) (u : FileState) → slice_get r.states k ≡ Some u → goes_on_behind r.plan r.place (PutJournal server at) u ≡ true → k ≡ place
  only place same k u at_u e =
      let on = (and_parts (is_behind u.stage) (goes_on r.plan r.place (PutJournal server at) u) e).1 in
      let this = file_is server Ecj u (and_parts (is_file server Ecj u) (at == u.length / 16) on).0 in
      work.on_its_way.1.apart.apart k due.at u s at_u due.there (this.0 ∙ sym is.0) (this.1 ∙ sym is.1) ∙ sym same

  pub no_index : s.kind ≢ Idx
  no_index e = let clash : ◌≡◌ {A = Kind} Ecj Idx = sym is.1 ∙ e in cc

  pub right : (now : Share) (w : Volume) (f : Forms) (row : Row) (start : Share) → FitsProgress w f r row start now → IsPiece f.parts s piece
  right now w f row start fits = record {
    whole = journal_bytes f.parts.deleted;
    planned_is = subst (λ c. planned f.parts c ≡ Some (journal_bytes f.parts.deleted)) (sym is.1) refl;
    follows = journal_piece ids at 2048 from_short ∙ (λ i. take (sym long i) (drop (sym begins i) (journal_bytes (sym fits.begins.tells.deleted i))));
    within = omega (arith, begins, long, from_short, length-journal_bytes f.parts.deleted, ap length fits.begins.tells.deleted);
  }
