-- A step that copies a piece is one of a rebuild or a balance, and that of an index copies from the first holder.
use Rattle.std.proofs.Common.{◌≡◌, ◌≢◌, inl, inr, ⊎_elim, ℕ, ◌-◌, ◌/◌, Bool, true, false, Option, Some, None, refl, sym, ◌∙◌, ap, subst}
use Rattle.std.specs.Prelude.{if◌then◌else◌, nat_lt, slice_get}
use Rattle.std.proofs.lemmas.Bool.{false≢true}
use Rattle.image_meaning.specs.Laws.Options.{none_some, some_is}
use Rattle.world_model.specs.declared.types.Command.{Command}
use Rattle.world_model.specs.declared.types.Command.TheVariants.{Encode, Rebuild, Balance, Decode}
use Rattle.file_names.specs.declared.Kind.{Kind}
use Rattle.file_names.specs.declared.Kind.TheVariants.{Dat, Idx, Cpd, Cpx, Shard, Ecx, Ecj, Vif}
use Rattle.stripe_layout.specs.Stripes.{row_width, large_rows}
use Rattle.stripe_layout.specs.Pieces.{large_part}
use Rattle.plan_steps.specs.declared.plan.FileState.{FileState}
use Rattle.plan_steps.specs.declared.plan.Stage.{Stage}
use Rattle.plan_steps.specs.declared.plan.Stage.TheVariants.{Absent, Writing, Synced, Registered, Gone}
use Rattle.plan_steps.specs.declared.step.Step.{Step}
use Rattle.plan_steps.specs.declared.step.Step.TheVariants.{PutInfo, WriteEntries, PutJournal, MakePiece, MendPiece, JoinPiece, JoinDeletes, CopyPiece, Sync, Register, Unregister, DropIndex, DropData}
use Rattle.plan_steps.specs.DecodeEnd.{new_listed}
use Rattle.plan_steps.specs.Laws.Order.{name_at}
use Rattle.plan_steps.specs.Legal.{IsNew}
use Rattle.plan_steps.specs.Lists.{list_of}
use Rattle.plan_steps.specs.Members.{at_has}
use Rattle.plan_steps.specs.MendEnd.{IsMending}
use Rattle.plan_steps.specs.Next.{make_in_rows, make_step, join_in_rows, join_step, large_end, is_made, shard_source, mend_step, shard_step, first_holder, index_step, piece_step, is_whole, going_step, coming_step, file_step, file_at, turn_of, step_at, next_step}
use Rattle.plan_steps.specs.Order.{Names}
use Rattle.plan_steps.specs.Planned.{is_encode, is_found}
use Rattle.plan_steps.specs.Progressing.{Running}
use Rattle.plan_steps.specs.Stepping.{HasPiece}
use Rattle.plan_steps.specs.Walk.{first_open}
use Rattle.plan_run.specs.declared.names.FileNames.{FileNames}
use Rattle.plan_run.specs.Stepping.{IsAtWork}

-- no encode copies, and an index is copied from the first holder
record IsCopy (r : Running) (from : ℕ) (kind : Kind) : Type 0 where
  no_encode : is_encode r.plan.command ≡ false
  source : kind ≡ Ecx → from ≡ first_holder r.plan.places.items r.plan.home

module _ (r : Running) where
  abbrev IsCopying : Step → Type 0
  IsCopying (PutInfo server) = Unit {0}
  IsCopying (WriteEntries at) = Unit {0}
  IsCopying (PutJournal server at) = Unit {0}
  IsCopying (MakePiece row at) = Unit {0}
  IsCopying (MendPiece at) = Unit {0}
  IsCopying (JoinPiece row block at) = Unit {0}
  IsCopying (JoinDeletes at) = Unit {0}
  IsCopying (CopyPiece from to kind at) = IsCopy r from kind
  IsCopying (Sync server kind) = Unit {0}
  IsCopying (Register server kind) = Unit {0}
  IsCopying (Unregister server kind) = Unit {0}
  IsCopying (DropIndex server) = Unit {0}
  IsCopying (DropData server) = Unit {0}

  either : (b : Bool) (x y : Step) → IsCopying x → IsCopying y → IsCopying (if b then x else y)
  either true x y first second = first
  either false x y first second = second

  going : (server : ℕ) (kind : Kind) → IsCopying (going_step server kind)
  going server Dat = tt
  going server Idx = tt
  going server Cpd = tt
  going server Cpx = tt
  going server (Shard i) = tt
  going server Ecx = tt
  going server Ecj = tt
  going server Vif = tt

  make : (n : ℕ) → IsCopying (make_step r.plan.info n)
  make n =
      let g = r.plan.info.geometry in
      let size = r.plan.info.dat_size in
      either (nat_lt n (large_part g size)) (make_in_rows g.large 0 n) (make_in_rows g.small (large_rows g size) (n - large_part g size)) tt tt

  join : (n : ℕ) → IsCopying (join_step r.plan.info n)
  join n =
      let g = r.plan.info.geometry in
      let size = r.plan.info.dat_size in
      either (nat_lt n (large_end r.plan.info)) (join_in_rows (row_width g) g.large 0 n) (join_in_rows (row_width g) g.small (large_rows g size) (n - large_end r.plan.info)) tt tt

  mend : (i server n : ℕ) → is_encode r.plan.command ≡ false → IsCopying (mend_step r.plan i server n)
  mend i server n e = either (is_made r.plan i server) (MendPiece n) (CopyPiece (shard_source r.plan i server) server (Shard i) n) tt (record { no_encode = e; source = λ same. cc })

  shard : (i server n : ℕ) (c : Command) → r.plan.command ≡ c → IsCopying (shard_step r.plan c i server n)
  shard i server n (Encode ratio) e = make n
  shard i server n Rebuild e = mend i server n (ap is_encode e)
  shard i server n Balance e = mend i server n (ap is_encode e)
  shard i server n Decode e = mend i server n (ap is_encode e)

  index : (server n : ℕ) (c : Command) → r.plan.command ≡ c → IsCopying (index_step r.plan c server n)
  index server n (Encode ratio) e = tt
  index server n Rebuild e = record { no_encode = ap is_encode e; source = λ same. refl }
  index server n Balance e = record { no_encode = ap is_encode e; source = λ same. refl }
  index server n Decode e = record { no_encode = ap is_encode e; source = λ same. refl }

  piece : (server n : ℕ) (kind : Kind) → IsCopying (piece_step r.plan r.place server n kind)
  piece server n Dat = either (nat_lt n r.plan.info.dat_size) (join_step r.plan.info n) (JoinDeletes ((n - r.plan.info.dat_size) / 32)) (join n) tt
  piece server n Idx = tt
  piece server n Cpd = tt
  piece server n Cpx = tt
  piece server n (Shard i) = shard i server n r.plan.command refl
  piece server n Ecx = index server n r.plan.command refl
  piece server n Ecj = tt
  piece server n Vif = tt

  coming : (s : FileState) (stage : Stage) → IsCopying (coming_step r.plan r.place s stage)
  coming s Absent = piece s.server s.length s.kind
  coming s Writing = either (is_whole r.plan r.place s.length s.kind) (Sync s.server s.kind) (piece_step r.plan r.place s.server s.length s.kind) tt (piece s.server s.length s.kind)
  coming s Synced = tt
  coming s Registered = tt
  coming s Gone = piece s.server s.length s.kind

  file : (s : FileState) → IsCopying (file_step r.plan r.place s)
  file s = either (is_found r.plan r.plan.command s.server s.kind) (going_step s.server s.kind) (coming_step r.plan r.place s s.stage) (going s.server s.kind) (coming s s.stage)

  next : (step : Step) → next_step r.plan r.states r.place ≡ Some step → IsCopying step
  next step e = by_file (file_at r.states (first_open r.plan r.states)) e
    where
      by_file : (o : Option FileState) → step_at r.plan r.states r.place o ≡ Some step → IsCopying step
      by_file None e = absurd (none_some e)
      by_file (Some s) e = subst IsCopying (some_is (file_step r.plan r.place (turn_of r.states s)) step e) (file (turn_of r.states s))

  module _ (servers : ℕ) (names : FileNames) (work : IsAtWork r servers names) (from to : ℕ) (kind : Kind) (at : ℕ) (due : HasPiece r (CopyPiece from to kind at)) (is : due.file.kind ≡ kind)
      (stepped : next_step r.plan r.states r.place ≡ Some (CopyPiece from to kind at)) where
    listed : slice_get (list_of r.plan) due.at ≡ Some (due.file.server, kind)
    listed = ap (λ (files : Names). slice_get files due.at) (sym work.on_its_way.1.listed) ∙ name_at (λ (x : FileState). (x.server, x.kind)) r.states due.at due.file due.there ∙ (λ k. Some (due.file.server, is k))

    -- a decode writes the files of the plain volume alone
    none_decode : kind ≢ Dat → kind ≢ Idx → r.plan.command ≡ Decode → ⊥
    none_decode no_data no_index e =
        let new : IsNew r.plan due.file.server kind = subst (IsNew r.plan due.file.server) is due.new in
        ⊎_elim no_index no_data (new_listed r.plan e due.file.server kind (at_has (list_of r.plan) due.at (due.file.server, kind) listed) new).1

    pub mends : kind ≢ Dat → kind ≢ Idx → IsMending r.plan.command
    mends no_data no_index = by_command r.plan.command refl
      where
        by_command : (c : Command) → r.plan.command ≡ c → IsMending r.plan.command
        by_command (Encode ratio) e = absurd (false≢true (sym (next (CopyPiece from to kind at) stepped).no_encode ∙ ap is_encode e))
        by_command Rebuild e = inl e
        by_command Balance e = inr e
        by_command Decode e = absurd (none_decode no_data no_index e)

    pub from_holder : kind ≡ Ecx → from ≡ first_holder r.plan.places.items r.plan.home
    from_holder same = (next (CopyPiece from to kind at) stepped).source same
