-- Pieces of the deletions that a decode writes.
use Rattle.std.proofs.Common.{◌≡◌, ◌≢◌, ℕ, zero, suc, ◌+◌, ◌-◌, ◌*◌, ◌/◌, ◌%◌, ◌<◌, ◌≤◌, ◌^◌, Bool, true, false, List, [], ◌∷◌, ◌++◌, length, take, drop, get_or, Some, refl, sym, ◌∙◌, ap, subst, arith, length-append, take-append-drop}
use Rattle.std.specs.Prelude.{◌==◌, if◌then◌else◌, nat_lt, min, slice_get}
use Rattle.std.specs.List.{AllByRecursion}
use Rattle.std.proofs.lemmas.Bool.{and_parts, and_from, eqb-true, ltb-false, false≢true}
use Rattle.std.proofs.lemmas.List.{take_at, append-nil, length-take-le, length-take, length-drop}
use Rattle.std.proofs.Math.Seq.{drop-append_seam}
use Rattle.std.proofs.lemmas.Grind.{flat_map-append}
use Rattle.image_meaning.specs.Laws.Options.{some_is}
use Rattle.image_meaning.specs.Share.{Share}
use Rattle.needle_record.specs.Spelling.{canonical, deletion_of}
use Rattle.world_model.specs.World.{Volume}
use Rattle.file_names.specs.declared.Kind.{Kind}
use Rattle.file_names.specs.declared.Kind.TheVariants.{Dat, Idx}
use Rattle.stripe_layout.specs.declared.Info.{Info}
use Rattle.shard_table.specs.Table.{Row}
use Rattle.plan_steps.specs.declared.plan.FileState.{FileState}
use Rattle.plan_steps.specs.declared.step.Step.TheVariants.{JoinDeletes}
use Rattle.plan_steps.specs.Kept.{Forms}
use Rattle.plan_steps.specs.Planned.{deletions, joined, planned}
use Rattle.plan_steps.specs.Listed.{IsListed}
use Rattle.plan_steps.specs.Laws.Order.{name_at}
use Rattle.plan_steps.specs.Next.{is_behind, is_data}
use Rattle.plan_steps.specs.Legality.{is_behind_data, goes_on, goes_on_behind}
use Rattle.plan_steps.specs.Laws.Advances.{data_kind}
use Rattle.plan_steps.specs.After.{IsShort, IsInUnits}
use Rattle.plan_steps.specs.Laws.AsTold.{deletion_long, deletions_long}
use Rattle.plan_steps.specs.Laws.DataFile.{data_home}
use Rattle.plan_steps.specs.Progressing.{Running, FitsProgress}
use Rattle.plan_steps.specs.Stepping.{HasPiece}
use Rattle.plan_run.specs.declared.names.FileNames.{FileNames}
use Rattle.plan_run.specs.Pieces.{IsPiece}
use Rattle.plan_run.specs.Stepping.{IsAtWork}
use Rattle.plan_run.specs.Writing.{HasRoom}
use Rattle.plan_run.proofs.Pairs.{put_front, put_size}

abbrev AreIds : List ℕ → Type 0
AreIds ids = AllByRecursion (λ id. id < 2 ^ 64) ids

ids_front : (n : ℕ) (ids : List ℕ) → AreIds ids → AreIds (take n ids)
ids_front zero ids fit = tt
ids_front (suc n) [] fit = tt
ids_front (suc n) (id ∷ ids) fit = (fit.0, ids_front n ids fit.1)

ids_behind : (n : ℕ) (ids : List ℕ) → AreIds ids → AreIds (drop n ids)
ids_behind zero ids fit = fit
ids_behind (suc n) [] fit = tt
ids_behind (suc n) (id ∷ ids) fit = ids_behind n ids fit.1

-- ---- the room that is filled

pub record AreFilled (count : ℕ) (ids first room : List ℕ) : Type 0 where
  pub records : take (32 * count) room ≡ deletions (take count ids)
  pub size : length room ≡ length first

take_one : (xs : List ℕ) (k x : ℕ) → k < length xs → x ≡ get_or xs k x → take (suc k) xs ≡ take k xs ++ x ∷ []
take_one [] k x short there = absurd (omega (arith, short))
take_one (y ∷ ys) zero x short there = ap (λ z. z ∷ []) (sym there)
take_one (y ∷ ys) (suc k) x short there = ap (λ zs. y ∷ zs) (take_one ys k x (omega (arith, short)) there)

pub one_more : (count : ℕ) (ids first old new : List ℕ) (id : ℕ) → id < 2 ^ 64 → AreFilled count ids first old → 32 * length ids ≤ length first → count < length ids → id ≡ get_or ids count id
    → new ≡ take (32 * count) old ++ (canonical (deletion_of id) ++ drop (32 * count + 32) old) → AreFilled (count + 1) ids first new
one_more count ids first old new id fits so_far room short there put =
    let next : count + 1 ≡ suc count = omega arith in
    let end : 32 * (count + 1) ≡ 32 * count + 32 = omega arith in
    let long : length (canonical (deletion_of id)) ≡ 32 = deletion_long id fits in
    let within : 32 * count + 32 ≤ length old = omega (arith, so_far.size, room, short) in record {
      records = ap (λ n. take n new) end ∙ put_front old new (canonical (deletion_of id)) (32 * count) 32 put long within ∙ ap (λ l. l ++ canonical (deletion_of id)) so_far.records
          ∙ sym (ap (λ n. deletions (take n ids)) next ∙ ap deletions (take_one ids count id short there) ∙ flat_map-append (λ i. canonical (deletion_of i)) (take count ids) (id ∷ [])
          ∙ ap (λ l. deletions (take count ids) ++ l) (append-nil (canonical (deletion_of id))));
      size = put_size old new (canonical (deletion_of id)) (32 * count) 32 put long within ∙ so_far.size;
    }

-- ---- where they stand in the data file

drop_past : (a b : List ℕ) (n : ℕ) → drop (length a + n) (a ++ b) ≡ drop n b
drop_past [] b n = let same : 0 + n ≡ n = omega arith in ap (λ m. drop m b) same
drop_past (x ∷ a) b n = let next : suc (length a) + n ≡ suc (length a + n) = omega arith in ap (λ m. drop m (x ∷ (a ++ b))) next ∙ drop_past a b n

deletions_piece : (dat ids : List ℕ) (k n : ℕ) → AreIds ids → k ≤ length ids
    → deletions (take n (drop k ids)) ≡ take (32 * min n (length ids - k)) (drop (length dat + 32 * k) (dat ++ deletions ids))
deletions_piece dat ids k n fit short =
    let rest = drop k ids in
    let rest_fit = ids_behind k ids fit in
    let count : length (take n rest) ≡ min n (length ids - k) = length-take n rest ∙ ap (min n) (length-drop k ids) in
    let front : length (deletions (take k ids)) ≡ 32 * k = deletions_long (take k ids) (ids_front k ids fit) ∙ ap (λ m. 32 * m) (length-take-le k ids short) in
    let split : deletions ids ≡ deletions (take k ids) ++ deletions rest =
    ap deletions (sym (take-append-drop k ids)) ∙ flat_map-append (λ i. canonical (deletion_of i)) (take k ids) rest in
    let behind : drop (length dat + 32 * k) (dat ++ deletions ids) ≡ deletions rest =
    drop_past dat (deletions ids) (32 * k) ∙ ap (drop (32 * k)) split ∙ ap (λ m. drop m (deletions (take k ids) ++ deletions rest)) (sym front) ∙ drop-append_seam (deletions (take k ids)) (deletions rest) in
    let parts : deletions rest ≡ deletions (take n rest) ++ deletions (drop n rest) =
    ap deletions (sym (take-append-drop n rest)) ∙ flat_map-append (λ i. canonical (deletion_of i)) (take n rest) (drop n rest) in
    sym (ap (take (32 * min n (length ids - k))) (behind ∙ parts)
    ∙ take_at (deletions (take n rest)) (deletions (drop n rest)) (32 * min n (length ids - k)) (deletions_long (take n rest) (ids_front n rest rest_fit) ∙ ap (λ m. 32 * m) count))

-- ---- the piece that is next

module _ (r : Running) (servers : ℕ) (names : FileNames) (work : IsAtWork r servers names) (at : ℕ) (due : HasPiece r (JoinDeletes at)) where
  abbrev s : FileState
  s = due.file

  abbrev ids : List ℕ
  ids = r.plan.deleted.items

  abbrev pub piece : List ℕ
  piece = deletions (take 2048 (drop at ids))

  both : (is_data s.kind ≡ true) × (is_behind_data r.plan.info.dat_size at s.length ≡ true)
  both = and_parts (is_data s.kind) (is_behind_data r.plan.info.dat_size at s.length) due.goes

  is_dat : s.kind ≡ Dat
  is_dat = data_kind s.kind both.0

  at_home : (k : ℕ) (u : FileState) → slice_get r.states k ≡ Some u → u.kind ≡ Dat → u.server ≡ r.plan.home
  at_home k u at_u e = data_home r.plan k u.server
      (ap (λ files. slice_get files k) (sym work.on_its_way.1.listed) ∙ name_at (λ (x : FileState). (x.server, x.kind)) r.states k u at_u ∙ (λ i. Some (u.server, e i)))

  pub is : (s.server ≡ r.plan.home) × (s.kind ≡ Dat)
  is = (at_home due.at s due.there is_dat, is_dat)

  pub listed : IsListed r.states r.plan.home Dat
  listed = (due.at, s, due.there, is.0, is.1)

  short : s.length ≤ r.plan.info.dat_size + 32 * length ids
  short = subst (IsShort r.plan s.length) is.1 (work.bounds.short.lengths due.at s due.there due.behind)

  whole_records : (s.length - r.plan.info.dat_size) % 32 ≡ 0
  whole_records = subst (IsInUnits r.plan s.length) is.1 (work.bounds.units.units due.at s due.there due.behind)

  begins : s.length ≡ r.plan.info.dat_size + 32 * at
  begins = by_part (nat_lt s.length r.plan.info.dat_size) refl both.1
    where
      by_part : (b : Bool) → nat_lt s.length r.plan.info.dat_size ≡ b → (if b then false else (at == (s.length - r.plan.info.dat_size) / 32)) ≡ true → s.length ≡ r.plan.info.dat_size + 32 * at
      by_part true less e = absurd (false≢true e)
      by_part false less e = omega (arith, ltb-false s.length r.plan.info.dat_size less, eqb-true at ((s.length - r.plan.info.dat_size) / 32) e, whole_records)

  pub from_short : at ≤ length ids
  from_short = omega (arith, begins, short)

  pub long : length piece ≡ 32 * min 2048 (length ids - at)
  long = deletions_long (take 2048 (drop at ids)) (ids_front 2048 (drop at ids) (ids_behind at ids work.of_plan.ids)) ∙ ap (λ n. 32 * n) (length-take 2048 (drop at ids) ∙ ap (min 2048) (length-drop at ids))

  pub has_room : (place : ℕ) → place ≡ due.at → HasRoom r.states place (length piece)
  has_room place same u at_u =
      let here : u ≡ s = some_is u s (sym at_u ∙ ap (slice_get r.states) same ∙ due.there) in
      omega (arith, ap (λ (x : FileState). x.length) here, short, long, work.of_plan.room)

  pub goes : goes_on_behind r.plan r.place (JoinDeletes at) s ≡ true
  goes = and_from (is_behind s.stage) (goes_on r.plan r.place (JoinDeletes at) s) due.behind due.goes

  pub only : (place : ℕ) → place ≡ due.at → (k : ℕ) (u : FileState) → slice_get r.states k ≡ Some u → goes_on_behind r.plan r.place (JoinDeletes at) u ≡ true → k ≡ place
  only place same k u at_u e =
      let on = (and_parts (is_behind u.stage) (goes_on r.plan r.place (JoinDeletes at) u) e).1 in
      let dat = data_kind u.kind (and_parts (is_data u.kind) (is_behind_data r.plan.info.dat_size at u.length) on).0 in
      work.on_its_way.1.apart.apart k due.at u s at_u due.there (at_home k u at_u dat ∙ sym is.0) (dat ∙ sym is.1) ∙ sym same

  pub no_index : s.kind ≢ Idx
  no_index e = let clash : ◌≡◌ {A = Kind} Dat Idx = sym is.1 ∙ e in cc

  pub right : (now : Share) (w : Volume) (f : Forms) (row : Row) (start : Share) → FitsProgress w f r row start now → IsPiece f.parts s piece
  right now w f row start fits =
      let size : length f.parts.dat ≡ r.plan.info.dat_size = fits.forms.parts.size ∙ ap (λ (info : Info). info.dat_size) fits.begins.tells.info in
      let same : f.parts.deleted ≡ ids = fits.begins.tells.deleted in
      let begin : s.length ≡ length f.parts.dat + 32 * at = omega (arith, begins, size) in record {
        whole = joined f.parts;
        planned_is = subst (λ c. planned f.parts c ≡ Some (joined f.parts)) (sym is.1) refl;
        follows = deletions_piece f.parts.dat ids at 2048 work.of_plan.ids from_short ∙ (λ i. take (sym long i) (drop (sym begin i) (f.parts.dat ++ deletions (sym same i))));
        within = omega (
          arith,
          begin,
          long,
          from_short,
          length-append f.parts.dat (deletions f.parts.deleted),
          ap (λ (l : List ℕ). length (deletions l)) same,
          deletions_long ids work.of_plan.ids,
        );
      }
