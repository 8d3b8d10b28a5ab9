-- The piece of the data file that a decode joins next, while the volume is still coded.
use Rattle.std.proofs.Common.{◌≡◌, ◌≢◌, ◌⊎◌, inl, inr, ⊎_elim, ℕ, ◌+◌, ◌<◌, ◌≤◌, Bool, true, false, cond, List, [], ◌∷◌, ◌++◌, length, take, drop, Option, Some, None, is_some, refl, sym, ◌∙◌, ap, subst, arith, length-append}
use Rattle.std.specs.Prelude.{◌&&◌, nat_lt, filter, flat_map, slice_get}
use mathlib.Core.Bool.{true≢false}
use Rattle.std.proofs.lemmas.Bool.{cases_lt, and_parts, and_from, eq-eqb, ltb-true, false≢true}
use Rattle.image_meaning.specs.Laws.Options.{some_is}
use Rattle.image_meaning.specs.Laws.Plain.{lowest-all_fail}
use Rattle.image_meaning.specs.Laws.Views.{index_named}
use Rattle.image_meaning.specs.Files.{has_index}
use Rattle.image_meaning.specs.Share.{Share, finals, share_of}
use Rattle.site_model.specs.Counts.{max_servers}
use Rattle.site_model.specs.Disk.{Files}
use Rattle.world_model.specs.World.{Volume}
use Rattle.world_model.specs.declared.types.Command.{Command}
use Rattle.world_model.specs.declared.types.Command.TheVariants.{Encode, Rebuild, Balance, Decode}
use Rattle.file_names.specs.declared.Kind.{Kind}
use Rattle.file_names.specs.declared.Kind.TheVariants.{Dat, Idx, Cpx, Shard}
use Rattle.file_names.specs.Names.{IsKind}
use Rattle.stripe_layout.specs.declared.Geometry.{Geometry}
use Rattle.stripe_layout.specs.declared.Info.{Info}
use Rattle.stripe_layout.specs.Rows.{row_block, row_start}
use Rattle.shard_table.specs.Table.{Row, Table, place_in, row_of}
use Rattle.degraded_read.specs.Reading.{HasEnoughShards}
use Rattle.plan_steps.specs.declared.plan.FileState.{FileState}
use Rattle.plan_steps.specs.declared.step.Step.TheVariants.{JoinPiece}
use Rattle.plan_steps.specs.DecodeEnd.{list_is, finds}
use Rattle.plan_steps.specs.Kept.{Forms}
use Rattle.plan_steps.specs.Laws.Advances.{data_kind}
use Rattle.plan_steps.specs.Laws.DataFile.{data_home}
use Rattle.plan_steps.specs.Laws.Kept.{coded_where}
use Rattle.plan_steps.specs.Laws.Legal.{by_bool, stands_file}
use Rattle.plan_steps.specs.Laws.Order.{named_at, name_at}
use Rattle.plan_steps.specs.Legal.{IsFound, HasFile}
use Rattle.plan_steps.specs.Legality.{goes_on, goes_on_behind, is_join}
use Rattle.plan_steps.specs.Listed.{IsListed, listed_or_other}
use Rattle.plan_steps.specs.Lists.{list_by, list_of, mend_names}
use Rattle.plan_steps.specs.Members.{Has, at_has}
use Rattle.plan_steps.specs.MendList.{IsBesideKind, GetsFirst, IsMoveOf, in_mend, place_found, place_short}
use Rattle.plan_steps.specs.Next.{is_behind, is_data, join_step}
use Rattle.plan_steps.specs.Order.{Names, IsReached, IsUnfinished}
use Rattle.plan_steps.specs.Planned.{deletions, joined, is_found, is_found_coded, planned}
use Rattle.plan_steps.specs.Plans.{all_numbers, place_if, IsDecodePlan, IsPlanBy}
use Rattle.plan_steps.specs.Progressing.{Running, FitsProgress}
use Rattle.plan_steps.specs.Stepping.{HasPiece}
use Rattle.plan_run.specs.declared.names.FileNames.{FileNames}
use Rattle.plan_run.specs.Copying.{AreCoded, GivesShardPart, IsShardPart}
use Rattle.plan_run.specs.Pieces.{IsPiece}
use Rattle.plan_run.specs.Places.{HasTable}
use Rattle.plan_run.specs.Stepping.{IsAtWork}
use Rattle.plan_run.specs.Writing.{HasRoom}
use Rattle.plan_run.proofs.Striped.{IsInBlock, in_block, front_part, block_part}

-- no fewer shards have a place in a row than in another, where each of that one has
few_of : (first row : Row) → ((i : ℕ) → is_some (place_in first i) ≡ true → is_some (place_in row i) ≡ true) → (xs : List ℕ) → length (flat_map (λ i. place_if i (place_in first i)) xs) ≤ length (filter (λ i. is_some (place_in row i)) xs)
few_of first row stay [] = omega arith
few_of first row stay (i ∷ xs) = by_place (place_in first i) (is_some (place_in row i)) (stay i) (few_of first row stay xs)
  where
    by_place : (o : Option ℕ) (b : Bool) → (is_some o ≡ true → b ≡ true) → length (flat_map (λ i. place_if i (place_in first i)) xs) ≤ length (filter (λ i. is_some (place_in row i)) xs)
        → length (place_if i o ++ flat_map (λ i. place_if i (place_in first i)) xs) ≤ length (cond b (i ∷ filter (λ i. is_some (place_in row i)) xs) (filter (λ i. is_some (place_in row i)) xs))
    by_place None true is rest = omega (arith, rest)
    by_place None false is rest = rest
    by_place (Some s) true is rest = omega (arith, rest)
    by_place (Some s) false is rest = absurd (true≢false (sym (is refl)))

module _ (r : Running) (servers : ℕ) (names : FileNames) (work : IsAtWork r servers names) (row block at : ℕ) (due : HasPiece r (JoinPiece row block at)) where
  abbrev pub s : FileState
  s = due.file

  abbrev g : Geometry
  g = r.plan.info.geometry

  abbrev size : ℕ
  size = r.plan.info.dat_size

  both : ((is_data s.kind && nat_lt s.length size) ≡ true) × (is_join row block at (join_step r.plan.info s.length) ≡ true)
  both = and_parts (is_data s.kind && nat_lt s.length size) (is_join row block at (join_step r.plan.info s.length)) due.goes

  first : (is_data s.kind ≡ true) × (nat_lt s.length size ≡ true)
  first = and_parts (is_data s.kind) (nat_lt s.length size) both.0

  is_dat : s.kind ≡ Dat
  is_dat = data_kind s.kind first.0

  at_home : (k : ℕ) (u : FileState) → slice_get r.states k ≡ Some u → u.kind ≡ Dat → u.server ≡ r.plan.home
  at_home k u at_u e = data_home r.plan k u.server
      (ap (λ files. slice_get files k) (sym work.on_its_way.1.listed) ∙ name_at (λ (x : FileState). (x.server, x.kind)) r.states k u at_u ∙ (λ i. Some (u.server, e i)))

  pub is : (s.server ≡ r.plan.home) × (s.kind ≡ Dat)
  is = (at_home due.at s due.there is_dat, is_dat)

  pub listed : IsListed r.states r.plan.home Dat
  listed = (due.at, s, due.there, is.0, is.1)

  pub inside : s.length < size
  inside = ltb-true s.length size first.1

  -- the piece is one of a block
  pub stands : IsInBlock g size s.length row block at
  stands = in_block r.plan.info work.of_plan.geometry s.length row block at inside both.1

  -- ---- the volume is still coded

  abbrev NewOf : Command × (ℕ × Kind) → Type 0
  NewOf p = is_found r.plan p.0 p.1.0 p.1.1 ≡ false

  -- no other plan writes a data file
  decodes : r.plan.command ≡ Decode
  decodes = by_command r.plan.command refl
    where
      listed_name : slice_get (list_of r.plan) due.at ≡ Some (r.plan.home, Dat)
      listed_name = ap (λ (files : Names). slice_get files due.at) (sym work.on_its_way.1.listed) ∙ name_at (λ (x : FileState). (x.server, x.kind)) r.states due.at s due.there ∙ (λ k. Some (is.0 k, is.1 k))

      by_member : (IsBesideKind Dat × GetsFirst r.plan r.plan.home) ⊎ (((i : ℕ) × (◌≡◌ {A = Kind} Dat (Shard i)) × Has r.plan.targets.items (i, r.plan.home)) ⊎ IsMoveOf r.plan.moves.items r.plan.home Dat) → ⊥
      by_member (inl (inl e, gets)) = cc
      by_member (inl (inr (inl e), gets)) = cc
      by_member (inl (inr (inr e), gets)) = cc
      by_member (inr (inl (i, e, has))) = cc
      by_member (inr (inr (m, has, e, ends))) = cc

      none_mended : list_of r.plan ≡ mend_names r.plan → ⊥
      none_mended e = by_member (in_mend r.plan r.plan.home Dat (at_has (mend_names r.plan) due.at (r.plan.home, Dat) (ap (λ (files : Names). slice_get files due.at) (sym e) ∙ listed_name)))

      by_command : (c : Command) → r.plan.command ≡ c → r.plan.command ≡ Decode
      by_command (Encode ratio) e = absurd (false≢true (sym (subst NewOf (λ k. (e k, (is.0 k, is.1 k))) due.new) ∙ eq-eqb r.plan.home r.plan.home refl))
      by_command Rebuild e = absurd (none_mended (ap (list_by r.plan) e))
      by_command Balance e = absurd (none_mended (ap (list_by r.plan) e))
      by_command Decode e = e

  -- the data file is the first of the list
  first_place : due.at ≡ 0
  first_place =
      let head = named_at (λ (x : FileState). (x.server, x.kind)) r.states 0 (r.plan.home, Dat) (ap (λ (files : Names). slice_get files 0) (work.on_its_way.1.listed ∙ list_is r.plan decodes)) in
      work.on_its_way.1.apart.apart due.at 0 s head.0 due.there head.1 (is.0 ∙ sym (ap (λ (p : ℕ × Kind). p.0) head.2)) (is.1 ∙ sym (ap (λ (p : ℕ × Kind). p.1) head.2))

  -- so none is finished
  reached : IsReached r.plan r.states 0
  reached = subst (IsReached r.plan r.states) (by_place (cases_lt 0 work.on_its_way.1.reached.0)) work.on_its_way.1.reached.1
    where
      by_place : (0 < work.on_its_way.1.reached.0) ⊎ (work.on_its_way.1.reached.0 ≤ 0) → work.on_its_way.1.reached.0 ≡ 0
      by_place (inl some) = absurd (false≢true (sym (ap is_behind (work.on_its_way.1.reached.1.written due.at s due.there (omega (arith, first_place, some)) due.new)) ∙ due.behind))
      by_place (inr none) = omega (arith, none)

  -- what stands was found, and what was found stands
  only_found : (server : ℕ) (kind : Kind) → HasFile r.plan r.states server kind → IsFound r.plan server kind
  only_found server kind (inr (found, other)) = found
  only_found server kind (inl (k, u, at_u, a, b, c)) = ⊎_elim
      (λ found. subst (λ (p : ℕ × Kind). IsFound r.plan p.0 p.1) (λ i. (a i, b i)) found)
      (λ new. absurd (subst IsUnfinished c (reached.waiting k u at_u (omega arith) new)))
      (by_bool (is_found r.plan r.plan.command u.server u.kind))

  still_stands : (server : ℕ) (kind : Kind) → IsFound r.plan server kind → HasFile r.plan r.states server kind
  still_stands server kind found = ⊎_elim
      (λ (l : IsListed r.states server kind). inl (l.0, l.1, l.2, l.3, l.4, reached.staying l.0 l.1 l.2 (omega arith) (subst (λ (p : ℕ × Kind). IsFound r.plan p.0 p.1) (λ i. (sym l.3 i, sym l.4 i)) found)))
      (λ other. inr (found, other))
      (listed_or_other r.states server kind)

  pub coded : (files : Files) → AreCoded r files
  coded files w f places start fits = coded_where f (finals now) fits.fits.kept (lowest-all_fail (has_index (finals now)) (λ server below.
      ap is_some (index_named (finals now) server (ap is_some (none server Cpx below tt refl)) ∙ none server Idx below tt refl)))
    where
      now : Share
      now = share_of files r.plan.volume

      none : (server : ℕ) (kind : Kind) → server < max_servers → IsKind kind → is_found_coded r.plan server kind ≡ false → finals now server kind ≡ None
      none server kind below named e = by_now (finals now server kind) refl
        where
          by_now : (o : Option (List ℕ)) → finals now server kind ≡ o → finals now server kind ≡ None
          by_now None is_none = is_none
          by_now (Some bytes) is_some_file = absurd (false≢true (sym e ∙ sym (finds r.plan decodes server kind)
              ∙ only_found server kind (stands_file f w fits.forms r.plan start fits.begins r.states now fits.fits server kind below named (ap is_some is_some_file))))

  -- ---- and there are shards enough

  pub enough : (table : Table) → HasTable r servers table → HasEnoughShards r.plan.info (row_of table r.plan.volume)
  enough table has = omega (arith, plan.placed.enough, ap length plan.placed.places, few_of plan.row places stays (all_numbers g))
    where
      places : Row
      places = row_of table r.plan.volume

      plan : IsDecodePlan servers r.plan
      plan = subst (IsPlanBy servers r.plan) decodes work.of_plan.made

      by_row : (i server : ℕ) → place_in plan.row i ≡ Some server → (o : Option ℕ) → place_in places i ≡ o → is_some o ≡ true
      by_row i server e (Some t) there = refl
      by_row i server e None none = absurd (has.fits.missing i (place_short r.plan servers plan.row plan.placed i server e) none server
          (still_stands server (Shard i) (finds r.plan decodes server (Shard i) ∙ place_found r.plan servers plan.row plan.placed i server e)))

      stays : (i : ℕ) → is_some (place_in plan.row i) ≡ true → is_some (place_in places i) ≡ true
      stays i some = by_first (place_in plan.row i) refl some
        where
          by_first : (o : Option ℕ) → place_in plan.row i ≡ o → is_some o ≡ true → is_some (place_in places i) ≡ true
          by_first None e is_there = absurd (false≢true is_there)
          by_first (Some server) e is_there = by_row i server e (place_in places i) refl

  -- ---- the piece

  pub has_room : (place n : ℕ) → place ≡ due.at → n ≤ size → HasRoom r.states place n
  has_room place n same fits u at_u =
      let here : u ≡ s = some_is u s (sym at_u ∙ ap (slice_get r.states) same ∙ due.there) in
      omega (arith, ap (λ (x : FileState). x.length) here, inside, fits, work.of_plan.room)

  pub goes : goes_on_behind r.plan r.place (JoinPiece row block at) s ≡ true
  goes = and_from (is_behind s.stage) (goes_on r.plan r.place (JoinPiece row block at) s) due.behind due.goes

  pub only : (place : ℕ) → place ≡ due.at → (k : ℕ) (u : FileState) → slice_get r.states k ≡ Some u → goes_on_behind r.plan r.place (JoinPiece row block at) u ≡ true → k ≡ place
  only place same k u at_u e =
      let on = (and_parts (is_behind u.stage) (goes_on r.plan r.place (JoinPiece row block at) u) e).1 in
      let of_data = (and_parts (is_data u.kind && nat_lt u.length size) (is_join row block at (join_step r.plan.info u.length)) on).0 in
      let dat = data_kind u.kind (and_parts (is_data u.kind) (nat_lt u.length size) of_data).0 in
      work.on_its_way.1.apart.apart k due.at u s at_u due.there (at_home k u at_u dat ∙ sym is.0) (dat ∙ sym is.1) ∙ sym same

  pub no_index : s.kind ≢ Idx
  no_index e = let clash : ◌≡◌ {A = Kind} Dat Idx = sym is.1 ∙ e in cc

  pub right : (files : Files) (piece : List ℕ) → GivesShardPart r files block (row_start g size row + at) piece → at + length piece ≤ row_block g size row → s.length + length piece ≤ size
      → (w : Volume) (f : Forms) (places : Row) (start : Share) → FitsProgress w f r places start (share_of files r.plan.volume) → IsPiece f.parts s piece
  right files piece gives in_row in_file w f places start fits = record {
    whole = joined f.parts;
    planned_is = subst (λ c. planned f.parts c ≡ Some (joined f.parts)) (sym is.1) refl;
    follows = part.part ∙ (λ k. take (length piece) (drop (row_start (same k).0 (same k).1 row + at) part.whole))
        ∙ block_part f.parts.info.geometry f.parts.dat f.parts.shards fits.forms.parts.striped s.length row block at (length piece) there in_row_there in_file_there part.whole part.there
        ∙ sym (front_part f.parts.dat (deletions f.parts.deleted) s.length (length piece) in_file_there);
    within = omega (arith, in_file_there, length-append f.parts.dat (deletions f.parts.deleted));
  }
    where
      part : IsShardPart f.parts block (row_start g size row + at) piece
      part = gives w f places start fits

      same : ◌≡◌ {A = Geometry × ℕ} (g, size) (f.parts.info.geometry, length f.parts.dat)
      same k = ((ap (λ (info : Info). info.geometry) (sym fits.begins.tells.info)) k, sym (fits.forms.parts.size ∙ ap (λ (info : Info). info.dat_size) fits.begins.tells.info) k)

      there : IsInBlock f.parts.info.geometry (length f.parts.dat) s.length row block at
      there = subst (λ (p : Geometry × ℕ). IsInBlock p.0 p.1 s.length row block at) same stands

      in_row_there : at + length piece ≤ row_block f.parts.info.geometry (length f.parts.dat) row
      in_row_there = subst (λ (p : Geometry × ℕ). at + length piece ≤ row_block p.0 p.1 row) same in_row

      in_file_there : s.length + length piece ≤ length f.parts.dat
      in_file_there = subst (λ (p : Geometry × ℕ). s.length + length piece ≤ p.1) same in_file
