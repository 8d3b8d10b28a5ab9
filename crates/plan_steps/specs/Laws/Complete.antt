-- A file that counts as whole has all the bytes that are planned.
-- For `run_step` of the running plans of `plan_run`, to come.
use Rattle.std.proofs.Common.{◌≡◌, ℕ, ◌*◌, ◌/◌, ◌≤◌, true, false, List, length, take, Some, refl, sym, ◌∙◌, ap, subst, arith}
use Rattle.std.specs.Prelude.{slice_get}
use Rattle.std.proofs.lemmas.List.{take_all, length-take}
use Rattle.std.proofs.lemmas.Bool.{eqb-true, false≢true}
use Rattle.image_meaning.specs.Laws.Options.{some_is}
use Rattle.world_model.specs.World.{Volume}
use Rattle.world_model.specs.declared.types.Command.TheVariants.{Decode}
use Rattle.file_names.specs.declared.Kind.{Kind}
use Rattle.file_names.specs.declared.Kind.TheVariants.{Dat, Idx, Cpd, Cpx, Shard, Ecx, Ecj, Vif}
use Rattle.needle_record.specs.Records.{records, end_of, IsWholeDat}
use Rattle.needle_record.specs.Laws.Records.{records-cut}
use Rattle.shard_table.specs.Table.{Row}
use Rattle.image_meaning.specs.Plain.{IsExact}
use Rattle.image_meaning.specs.Share.{Share}
use Rattle.plan_steps.specs.declared.plan.Plan.{Plan}
use Rattle.plan_steps.specs.declared.plan.Stage.TheVariants.{Writing}
use Rattle.plan_steps.specs.declared.plan.FileState.{FileState}
use Rattle.plan_steps.specs.Kept.{Forms}
use Rattle.plan_steps.specs.Planned.{joined, joined_index, planned, given}
use Rattle.plan_steps.specs.Fitting.{StandsBy}
use Rattle.plan_steps.specs.Legal.{IsNew}
use Rattle.plan_steps.specs.Laws.Legal.{planned_bytes}
use Rattle.plan_steps.specs.Next.{joined_length, is_whole}
use Rattle.plan_steps.specs.AsTold.{IsPlannedLength}
use Rattle.plan_steps.specs.Laws.AsTold.{long_as_planned}
use Rattle.plan_steps.specs.Progressing.{Running, FitsProgress}

-- it is as long as a file of its kind is to be
pub whole_long : (plan : Plan) (place n : ℕ) (kind : Kind) → is_whole plan place n kind ≡ true → IsPlannedLength plan n kind
whole_long plan place n Dat e = eqb-true n (joined_length plan) e
whole_long plan place n Idx e = tt
whole_long plan place n Cpd e = tt
whole_long plan place n Cpx e = tt
whole_long plan place n (Shard i) e = eqb-true n _ e
whole_long plan place n Ecx e = eqb-true n _ e
whole_long plan place n Ecj e = eqb-true n _ e
whole_long plan place n Vif e = absurd (false≢true e)

-- the entries of all records end where the last one does
all_entries : (dat : List ℕ) (n : ℕ) → IsWholeDat dat → n ≤ 16 * length (records dat) → end_of (take (n / 16) (records dat)) ≡ length dat → n ≡ 16 * length (records dat)
all_entries dat n whole within ends =
    let cut : records dat ≡ take (n / 16) (records dat) =
    ap records (sym (take_all (length dat) dat (omega arith))) ∙ ap (λ m. records (take m dat)) (sym ends) ∙ records-cut dat (n / 16) whole.super in
    omega (arith, within, ap length cut, length-take (n / 16) (records dat))

module _ (w : Volume) (f : Forms) (r : Running) (row : Row) (start now : Share) (fits : FitsProgress w f r row start now) (k : ℕ) (s : FileState) (at : slice_get r.states k ≡ Some s)
    (new : IsNew r.plan s.server s.kind) (stage : s.stage ≡ Writing) (whole : is_whole r.plan r.place s.length s.kind ≡ true) where
  same_length : (kind : Kind) (n m : ℕ) → IsPlannedLength r.plan n kind → IsPlannedLength r.plan m kind → (kind ≡ Idx → n ≡ m) → is_whole r.plan r.place n kind ≡ true → n ≡ m
  same_length Dat n m a b index e = a ∙ sym b
  same_length Idx n m a b index e = index refl
  same_length Cpd n m a b index e = absurd (false≢true e)
  same_length Cpx n m a b index e = absurd (false≢true e)
  same_length (Shard i) n m a b index e = a ∙ sym b
  same_length Ecx n m a b index e = a ∙ sym b
  same_length Ecj n m a b index e = a ∙ sym b
  same_length Vif n m a b index e = absurd (false≢true e)

  -- the index of a decode, which is whole where all records are read
  index_whole : r.plan.command ≡ Decode → s.kind ≡ Idx → s.length ≡ length (joined_index f.parts)
  index_whole decode e =
      let stands = subst (λ x. StandsBy x s.length (given r.plan f.parts start s.server s.kind) (now s.server s.kind false) (now s.server s.kind true)) stage (fits.fits.each k s at) in
      let front = stands.1 in
      let exact : IsExact (joined f.parts) (joined_index f.parts) f.kept = (fits.begins.joined decode).exact in
      let bytes : front.whole ≡ joined_index f.parts =
      sym (some_is (joined_index f.parts) front.whole (subst (λ c. planned f.parts c ≡ Some front.whole) e (planned_bytes r.plan f.parts start s.server s.kind front.whole new front.planned))) in
      let long : length (joined_index f.parts) ≡ 16 * length (records (joined f.parts)) = exact.index_length ∙ ap (λ ps. 16 * length ps) (sym exact.has) in
      let place : r.place ≡ end_of (take (s.length / 16) (records (joined f.parts))) = fits.next decode k s at e in
      let end : r.place ≡ joined_length r.plan = eqb-true r.place (joined_length r.plan) (subst (λ c. is_whole r.plan r.place s.length c ≡ true) e whole) in
      let size : length (joined f.parts) ≡ joined_length r.plan = long_as_planned w f r row start now fits Dat (joined f.parts) refl in
      all_entries (joined f.parts) s.length exact.whole (omega (arith, front.within, ap length bytes, long)) (sym place ∙ end ∙ sym size) ∙ sym long

  -- All that is planned is written.
  pub complete_length : (s.kind ≡ Idx → r.plan.command ≡ Decode) → (bytes : List ℕ) → planned f.parts s.kind ≡ Some bytes → s.length ≡ length bytes
  complete_length decode bytes e =
      same_length s.kind s.length (length bytes) (whole_long r.plan r.place s.length s.kind whole) (long_as_planned w f r row start now fits s.kind bytes e)
      (λ kind. index_whole (decode kind) kind ∙ ap length (some_is (joined_index f.parts) bytes (subst (λ c. planned f.parts c ≡ Some bytes) kind e))) whole
