-- What a get reads in a decode: the shards, as long as enough of them have places, and then the data file that it made. For the
-- store with jobs, to come.
use Rattle.std.proofs.Common.{◌≡◌, ◌≢◌, ◌⊎◌, inl, inr, ⊎_elim, ℕ, zero, suc, ◌+◌, ◌<◌, ◌≤◌, Bool, true, false, cond, List, ◌∷◌, ◌++◌, length, Option, Some, None, is_some, refl, sym, ◌∙◌, ap, subst, arith}
use Rattle.std.specs.Prelude.{◌==◌, filter, flat_map, slice_get, if◌then◌else◌, option_map, MatchBool}
use Rattle.std.specs.List.{range_with_len}
use mathlib.Core.Bool.{true≢false}
use Rattle.std.proofs.lemmas.Bool.{cases_lt, le-leb, leb-true, and_parts}
use Rattle.image_meaning.specs.Laws.Options.{some_is}
use Rattle.site_model.specs.Disk.{firm_file}
use Rattle.site_model.specs.Disk as disk
use Rattle.site_model.specs.Counts.{max_servers}
use Rattle.world_model.specs.declared.types.Command.TheVariants.{Decode}
use Rattle.world_model.specs.Ratios.{data_count, counts-sixteen}
use Rattle.file_names.specs.declared.Kind.{Kind}
use Rattle.file_names.specs.declared.Kind.TheVariants.{Dat, Idx, Shard, Ecx, Ecj, Vif}
use Rattle.file_names.specs.Names.{max_shards}
use Rattle.stripe_layout.specs.declared.Info.{Info}
use Rattle.stripe_layout.specs.Stripes.{shards_in_all}
use Rattle.needle_record.specs.Records.{Placed, records, fold_records}
use Rattle.shard_table.specs.Table.{Row, place_in}
use Rattle.image_meaning.specs.Files.{all_servers, standing, stands, shard_home}
use Rattle.image_meaning.specs.Coded.{dat_of}
use Rattle.image_meaning.specs.Sound.{Stands}
use Rattle.image_meaning.specs.Ends.{changes_form}
use Rattle.image_meaning.specs.Parts.{HasEnough}
use Rattle.image_meaning.specs.HeldParts.{HoldsParts, held_made, held_all}
use Rattle.image_meaning.specs.Laws.Part.{made_info, made_dat}
use Rattle.image_meaning.specs.Laws.Servers.{lowest-some, lowest-exists}
use Rattle.image_meaning.specs.Share.{Share, finals}
use Rattle.plan_steps.specs.declared.plan.Stage.TheVariants.{Registered, Gone}
use Rattle.plan_steps.specs.declared.plan.FileState.{FileState}
use Rattle.plan_steps.specs.Kept.{IsKeptCoded}
use Rattle.plan_steps.specs.Laws.Kept.{beside_same}
use Rattle.plan_steps.specs.Laws.Rules.{held_rules}
use Rattle.plan_steps.specs.Planned.{deletions, joined, held, is_at, is_found, planned, given}
use Rattle.plan_steps.specs.Fitting.{StandsBy}
use Rattle.plan_steps.specs.Legal.{IsFound, IsNew, HasFile}
use Rattle.plan_steps.specs.Laws.Legal.{by_bool, given_new, standing_firm, stands_file, numbered}
use Rattle.plan_steps.specs.Order.{Names, names_of}
use Rattle.plan_steps.specs.Laws.Order.{named_at, name_at}
use Rattle.plan_steps.specs.Lists.{shard_names, left_names, list_of}
use Rattle.plan_steps.specs.Members.{Has, has_at, at_has, get_front, get_behind, get_either, has_flat, flat_has, has_filter, has_range, any_has, has_any}
use Rattle.plan_steps.specs.Laws.End.{in_states, not_in_list}
use Rattle.plan_steps.specs.Laws.Underway.{of_start}
use Rattle.plan_steps.specs.Laws.Progress.{progress_row}
use Rattle.plan_steps.specs.DecodeEnd.{list_is, finds, found_listed, new_listed, start_coded}
use Rattle.plan_steps.specs.Progressing.{Running, Follows}
use Rattle.plan_steps.specs.Reading.{has_enough, ReadsCoded, ReadsJoined}
use Rattle.plan_contract.specs.Following.{told, made_records}

-- what passes one test passes another, and lies within a shorter range
few_within : (p q : ℕ → Bool) (m a n : ℕ) → ((i : ℕ) → a ≤ i → i < a + m → p i ≡ true → (q i ≡ true) × (i < a + n)) → length (filter p (range_with_len a m)) ≤ length (filter q (range_with_len a n))
few_within p q zero a n h = omega arith
few_within p q (suc m) a n h = by_first n h (λ k more. few_within p q m (a + 1) k more)
  where
    by_tests : (b c : Bool) (xs ys : List ℕ) → (b ≡ true → c ≡ true) → length xs ≤ length ys → length (cond b (a ∷ xs) xs) ≤ length (cond c (a ∷ ys) ys)
    by_tests true true xs ys is less = omega (arith, less)
    by_tests true false xs ys is less = absurd (true≢false (sym (is refl)))
    by_tests false true xs ys is less = omega (arith, less)
    by_tests false false xs ys is less = less

    none_there : (b : Bool) (xs : List ℕ) → (b ≡ true → ⊥) → length xs ≤ 0 → length (cond b (a ∷ xs) xs) ≤ 0
    none_there true xs none less = absurd (none refl)
    none_there false xs none less = less

    by_first : (n : ℕ) → ((i : ℕ) → a ≤ i → i < a + suc m → p i ≡ true → (q i ≡ true) × (i < a + n))
        → ((k : ℕ) → ((i : ℕ) → a + 1 ≤ i → i < a + 1 + m → p i ≡ true → (q i ≡ true) × (i < a + 1 + k)) → length (filter p (range_with_len (a + 1) m)) ≤ length (filter q (range_with_len (a + 1) k)))
        → length (filter p (range_with_len a (suc m))) ≤ length (filter q (range_with_len a n))
    by_first zero h rest = none_there (p a) (filter p (range_with_len (a + 1) m)) (λ e. omega (arith, (h a (omega arith) (omega arith) e).1))
        (rest 0 (λ i from to e. let is = h i (omega (arith, from)) (omega (arith, to)) e in (is.0, omega (arith, is.1))))
    by_first (suc n) h rest = by_tests (p a) (q a) (filter p (range_with_len (a + 1) m)) (filter q (range_with_len (a + 1) n)) (λ e. (h a (omega arith) (omega arith) e).0)
        (rest n (λ i from to e. let is = h i (omega (arith, from)) (omega (arith, to)) e in (is.0, omega (arith, is.1))))

-- which file goes with a server's last shard
abbrev IsLeftKind : Kind → Type 0
IsLeftKind kind = (kind ≡ Ecx) ⊎ ((kind ≡ Ecj) ⊎ (kind ≡ Vif))

left_has : (s : ℕ) (kind : Kind) → IsLeftKind kind → Has (left_names s) (s, kind)
left_has s kind (inl e) = inl (λ k. (s, sym e k))
left_has s kind (inr (inl e)) = inr (inl (λ k. (s, sym e k)))
left_has s kind (inr (inr e)) = inr (inr (inl (λ k. (s, sym e k))))

not_left : (s t i : ℕ) → Has (left_names s) (t, Shard i) → ⊥
not_left s t i (inl e) = kinds (ap (λ (p : ℕ × Kind). p.1) e)
  where
    kinds : Ecx ≢ Shard i
    kinds e = cc
not_left s t i (inr (inl e)) = kinds (ap (λ (p : ℕ × Kind). p.1) e)
  where
    kinds : Ecj ≢ Shard i
    kinds e = cc
not_left s t i (inr (inr (inl e))) = kinds (ap (λ (p : ℕ × Kind). p.1) e)
  where
    kinds : Vif ≢ Shard i
    kinds e = cc
not_left s t i (inr (inr (inr none))) = none

module _ (r : Running) (row : Row) (start now : Share) (follows : Follows r row start now) (decode : r.plan.command ≡ Decode) where
  abbrev states : List FileState
  states = r.states

  abbrev reached_at : ℕ
  reached_at = follows.fits.way.reached.0

  abbrev shards : Names
  shards = shard_names r.plan.places.items

  abbrev lefts : Names
  lefts = flat_map left_names (filter (held r.plan) all_servers)

  names_are : names_of states ≡ (r.plan.home, Dat) ∷ (r.plan.home, Idx) ∷ (shards ++ lefts)
  names_are = follows.fits.way.listed ∙ list_is r.plan decode

  name_is : (k : ℕ) (x : FileState) → slice_get states k ≡ Some x → slice_get ((r.plan.home, Dat) ∷ (r.plan.home, Idx) ∷ (shards ++ lefts)) k ≡ Some (x.server, x.kind)
  name_is k x at = ap (λ names. slice_get names k) (sym names_are) ∙ name_at (λ (s : FileState). (s.server, s.kind)) states k x at

  state_of : (k server : ℕ) (kind : Kind) → slice_get ((r.plan.home, Dat) ∷ (r.plan.home, Idx) ∷ (shards ++ lefts)) k ≡ Some (server, kind) → (x : FileState) × (slice_get states k ≡ Some x) × (◌≡◌ {A = ℕ × Kind} (x.server, x.kind) (server, kind))
  state_of k server kind at = named_at (λ (s : FileState). (s.server, s.kind)) states k (server, kind) (ap (λ names. slice_get names k) names_are ∙ at)

  -- ---- a shard that stands was found, and comes before all that stands beside it

  abbrev IsWaiting : ℕ → ℕ → Type 0
  IsWaiting server i = (k : ℕ) × (x : FileState) × (slice_get states k ≡ Some x) × (x.server ≡ server) × (x.kind ≡ Shard i) × IsFound r.plan server (Shard i) × (reached_at ≤ k)

  two_stages : Registered ≢ Gone
  two_stages e = cc

  found_at : (x : FileState) (server : ℕ) (kind : Kind) → x.server ≡ server → x.kind ≡ kind → IsFound r.plan server kind → IsFound r.plan x.server x.kind
  found_at x server kind a b found = subst (λ (p : ℕ × Kind). IsFound r.plan p.0 p.1) (λ i. (sym a i, sym b i)) found

  shard_waits : (server i : ℕ) → i < max_shards → Stands (finals now) server (Shard i) → IsWaiting server i
  shard_waits server i h st = by_file (stands_file follows.f follows.w follows.fits.forms r.plan start follows.fits.begins states now follows.fits.fits server (Shard i) st.0 h st.1)
    where
      neither : (◌≡◌ {A = Kind} (Shard i) Idx) ⊎ (◌≡◌ {A = Kind} (Shard i) Dat) → ⊥
      neither (inl e) = cc
      neither (inr e) = cc

      by_place : (k : ℕ) (x : FileState) → slice_get states k ≡ Some x → x.server ≡ server → x.kind ≡ Shard i → x.stage ≡ Registered → IsFound r.plan server (Shard i) ⊎ IsNew r.plan server (Shard i) → IsWaiting server i
      by_place k x at a b stage (inl found) = (
        k,
        x,
        at,
        a,
        b,
        found,
        ⊎_elim
            (λ less. absurd (two_stages (sym stage ∙ follows.fits.way.reached.1.removed k x at less (found_at x server (Shard i) a b found))))
            (λ more. more)
            (cases_lt k reached_at),
      )
      by_place k x at a b stage (inr new) = absurd (neither (new_listed r.plan decode server (Shard i)
          (at_has (list_of r.plan) k (server, Shard i) (ap (λ names. slice_get names k) (sym follows.fits.way.listed) ∙ name_at (λ (s : FileState). (s.server, s.kind)) states k x at ∙ (λ i. Some (a i, b i)))) new).1)

      by_file : HasFile r.plan states server (Shard i) → IsWaiting server i
      by_file (inl (k, x, at, a, b, stage)) = by_place k x at a b stage (by_bool (is_found r.plan r.plan.command server (Shard i)))
      by_file (inr (found, other)) = absurd (not_in_list follows.w follows.f r row start now follows.fits server (Shard i) other (found_listed r.plan decode server (Shard i) st.0 found))

  -- a file that was found and waits stands as it did
  found_stays : (k : ℕ) (x : FileState) (server : ℕ) (kind : Kind) → slice_get states k ≡ Some x → x.server ≡ server → x.kind ≡ kind → IsFound r.plan server kind → reached_at ≤ k → finals now server kind ≡ finals start server kind
  found_stays k x server kind at a b found waits =
      let here : IsFound r.plan x.server x.kind = found_at x server kind a b found in
      let stage : x.stage ≡ Registered = follows.fits.way.reached.1.staying k x at waits here in
      let stands : StandsBy Registered x.length (given r.plan follows.f.parts start x.server x.kind) (now x.server x.kind false) (now x.server x.kind true) =
      subst (λ stage. StandsBy stage x.length (given r.plan follows.f.parts start x.server x.kind) (now x.server x.kind false) (now x.server x.kind true)) stage (follows.fits.fits.each k x at) in
      (λ i. finals now (sym a i) (sym b i))
      ∙ ap disk.standing (stands.0 ∙ ap (λ b. if b then start x.server x.kind false else option_map firm_file (planned follows.f.parts x.kind)) here)
      ∙ (λ i. finals start (a i) (b i))

  shard_before : (k server i : ℕ) → slice_get ((r.plan.home, Dat) ∷ (r.plan.home, Idx) ∷ (shards ++ lefts)) k ≡ Some (server, Shard i) → k < length shards + 2
  shard_before zero server i at = absurd (kinds (ap (λ (p : ℕ × Kind). p.1) (some_is (r.plan.home, Dat) (server, Shard i) at)))
    where
      kinds : Dat ≢ Shard i
      kinds e = cc
  shard_before (suc zero) server i at = absurd (kinds (ap (λ (p : ℕ × Kind). p.1) (some_is (r.plan.home, Idx) (server, Shard i) at)))
    where
      kinds : Idx ≢ Shard i
      kinds e = cc
  shard_before (suc (suc m)) server i at = ⊎_elim
      (λ front. omega (arith, (get_front shards lefts m (server, Shard i) front).1))
      (λ behind. let found = flat_has left_names (filter (held r.plan) all_servers) (server, Shard i) (at_has lefts behind.0 (server, Shard i) behind.2) in absurd (not_left found.0 server i found.2))
      (get_either shards lefts m (server, Shard i) at)

  held_of : (server i : ℕ) → IsFound r.plan server (Shard i) → held r.plan server ≡ true
  held_of server i found =
      let here = any_has (is_at i server) r.plan.places.items (sym (finds r.plan decode server (Shard i)) ∙ found) in
      has_any (λ (p : ℕ × ℕ). p.1 == server) r.plan.places.items here.0 here.1 (and_parts (here.0.0 == i) (here.0.1 == server) here.2).1

  -- the files beside a shard stand as they did
  left_stays : (server i : ℕ) → server < max_servers → IsWaiting server i → (kind : Kind) → IsLeftKind kind → finals now server kind ≡ finals start server kind
  left_stays server i below (k, x, at, a, b, found, waits) kind is =
      let has : Has lefts (server, kind) = has_flat left_names (filter (held r.plan) all_servers) server (server, kind)
      (has_filter (held r.plan) all_servers server (has_range 0 max_servers server (omega arith) (omega (arith, below))) (held_of server i found)) (left_has server kind is) in
      let there = has_at lefts (server, kind) has in
      let here = state_of (suc (suc (length shards + there.0))) server kind (get_behind shards lefts there.0 ∙ there.1) in
      found_stays (suc (suc (length shards + there.0))) here.0 server kind here.1 (ap (λ (p : ℕ × Kind). p.0) here.2) (ap (λ (p : ℕ × Kind). p.1) here.2) (found_left is)
      (omega (arith, waits, shard_before k server i (name_is k x at ∙ (λ i. Some (a i, b i)))))
    where
      found_left : IsLeftKind kind → IsFound r.plan server kind
      found_left (inl e) = ap (is_found r.plan r.plan.command server) e ∙ finds r.plan decode server Ecx ∙ held_of server i found
      found_left (inr (inl e)) = ap (is_found r.plan r.plan.command server) e ∙ finds r.plan decode server Ecj ∙ held_of server i found
      found_left (inr (inr e)) = ap (is_found r.plan r.plan.command server) e ∙ finds r.plan decode server Vif ∙ held_of server i found

  -- so the shards that stand are the parts', with their files beside them
  holds_now : HoldsParts follows.f.parts (finals now)
  holds_now = record {
    each = λ server i h st.
        let waits = shard_waits server i h st in
        let found : IsFound r.plan server (Shard i) = waits.5 in (
          beside_same follows.f.parts (finals start) (finals now) server (left_stays server i st.0 waits Vif (inr (inr refl))) (left_stays server i st.0 waits Ecx (inl refl)) (left_stays server i st.0 waits Ecj (inr (inl refl)))
              (follows.fits.begins.finds.beside server (finds r.plan decode server Vif ∙ held_of server i found)),
          follows.fits.begins.finds.shards server i h found ∙ sym (found_stays waits.0 waits.1 server (Shard i) waits.2 waits.3 waits.4 found waits.6),
        );
  }

  -- ---- enough of them

  same_info : follows.f.parts.info ≡ r.plan.info
  same_info = follows.fits.begins.tells.info

  all_few : shards_in_all r.plan.info.geometry ≤ max_shards
  all_few = counts-sixteen r.plan.info.geometry.ratio

  place_stands : (i : ℕ) → i < max_shards → is_some (place_in row i) ≡ true → is_some (shard_home (finals now) i) ≡ true
  place_stands i h some = by_place (place_in row i) refl some
    where
      by_place : (o : Option ℕ) → place_in row i ≡ o → is_some o ≡ true → is_some (shard_home (finals now) i) ≡ true
      by_place None e none = absurd (true≢false (sym none))
      by_place (Some s) e there =
          let st = progress_row follows.w follows.f r row start now follows.fits i s h e in
          ap is_some (lowest-exists (λ s. stands (finals now) s (Shard i)) s st.0 st.1).1

  stand_enough : has_enough r.plan.info row ≡ true → HasEnough follows.f.parts (finals now)
  unfolding standing
  stand_enough e = omega (
    arith,
    leb-true (data_count r.plan.info.geometry.ratio) (length (filter (λ i. is_some (place_in row i)) (range_with_len 0 (shards_in_all r.plan.info.geometry)))) e,
    ap (λ (info : Info). data_count info.geometry.ratio) same_info,
    few_within (λ i. is_some (place_in row i)) (λ i. is_some (shard_home (finals now) i)) (shards_in_all r.plan.info.geometry) 0 max_shards (λ i from to there.
        (place_stands i (omega (arith, to, all_few)) there, omega (arith, to, all_few))),
  )

  start_kept : IsKeptCoded follows.f.parts (finals start)
  start_kept = start_coded r.plan decode follows.f (finals start) follows.fits.begins

  start_dat : dat_of (finals start) ≡ follows.f.parts.dat
  start_dat = made_dat follows.f.parts (finals start) (held_made follows.f.parts (finals start) start_kept.holds) start_kept.form.enough follows.fits.forms.parts

  reads_coded : has_enough r.plan.info row ≡ true → ReadsCoded (told r.plan) (finals start) (finals now)
  reads_coded e = record {
    rules = held_rules follows.f.parts follows.fits.forms.parts (finals now) holds_now (stand_enough e);
    info = made_info follows.f.parts (finals now) (held_made follows.f.parts (finals now) holds_now) (stand_enough e) ∙ ap Some same_info;
    deleted = λ server holder. held_all follows.f.parts (finals now) holds_now server holder ∙ follows.fits.begins.tells.deleted;
    same_dat = made_dat follows.f.parts (finals now) (held_made follows.f.parts (finals now) holds_now) (stand_enough e) follows.fits.forms.parts ∙ sym start_dat;
  }

  -- ---- and else the data file

  -- as long as nothing was registered, each shard of the start has its place
  start_place : reached_at ≡ 0 → (i : ℕ) → i < max_shards → is_some (shard_home (finals start) i) ≡ true → (is_some (place_in row i) ≡ true) × (i < shards_in_all r.plan.info.geometry)
  start_place none i h some = by_home (shard_home (finals start) i) refl some
    where
      by_row : (s : ℕ) → i < shards_in_all r.plan.info.geometry → HasFile r.plan states s (Shard i) → (o : Option ℕ) → place_in row i ≡ o → is_some o ≡ true
      by_row s short has None e = absurd (follows.fits.way.places.missing i short e s has)
      by_row s short has (Some t) e = refl

      by_found : (s : ℕ) → Stands (finals start) s (Shard i) → IsFound r.plan s (Shard i) ⊎ IsNew r.plan s (Shard i) → (is_some (place_in row i) ≡ true) × (i < shards_in_all r.plan.info.geometry)
      by_found s st (inr new) = absurd (true≢false (sym st.1 ∙ ap is_some (follows.fits.begins.finds.none_else s (Shard i) st.0 h new)))
      by_found s st (inl found) =
          let short : i < shards_in_all r.plan.info.geometry = omega (
            arith,
            numbered follows.f.parts.shards i (finals start s (Shard i)) (follows.fits.begins.finds.shards s i h found) st.1,
            follows.fits.forms.parts.striped.count,
            ap (λ (info : Info). shards_in_all info.geometry) same_info,
          ) in
          let l = in_states follows.w follows.f r row start now follows.fits s (Shard i) (found_listed r.plan decode s (Shard i) st.0 found) in
          (by_row s short (inl (l.0, l.1, l.2, l.3, l.4, follows.fits.way.reached.1.staying l.0 l.1 l.2 (omega (arith, none)) (found_at l.1 s (Shard i) l.3 l.4 found))) (place_in row i) refl, short)

      by_home : (o : Option ℕ) → shard_home (finals start) i ≡ o → is_some o ≡ true → (is_some (place_in row i) ≡ true) × (i < shards_in_all r.plan.info.geometry)
      by_home None e none = absurd (true≢false (sym none))
      by_home (Some s) e there =
          let low = lowest-some (λ s. stands (finals start) s (Shard i)) s e in
          by_found s (low.1, low.0.passes) (by_bool (is_found r.plan r.plan.command s (Shard i)))

  enough_first : reached_at ≡ 0 → has_enough r.plan.info row ≡ true
  unfolding standing
  enough_first none = le-leb (data_count r.plan.info.geometry.ratio) (length (filter (λ i. is_some (place_in row i)) (range_with_len 0 (shards_in_all r.plan.info.geometry)))) (omega (
    arith,
    start_kept.form.enough,
    ap (λ (info : Info). data_count info.geometry.ratio) same_info,
    few_within (λ i. is_some (shard_home (finals start) i)) (λ i. is_some (place_in row i)) max_shards 0 (shards_in_all r.plan.info.geometry) (λ i from to there.
        let is = start_place none i (omega (arith, to)) there in (is.0, omega (arith, is.1))),
  ))

  data_new : IsNew r.plan r.plan.home Dat
  data_new = finds r.plan decode r.plan.home Dat

  data_stands : 0 < reached_at → finals now r.plan.home Dat ≡ Some (joined follows.f.parts)
  data_stands some =
      let here = state_of 0 r.plan.home Dat refl in
      let a : here.0.server ≡ r.plan.home = ap (λ (p : ℕ × Kind). p.0) here.2 in
      let b : here.0.kind ≡ Dat = ap (λ (p : ℕ × Kind). p.1) here.2 in
      let new : IsNew r.plan here.0.server here.0.kind = subst (λ (p : ℕ × Kind). IsNew r.plan p.0 p.1) (λ i. (sym a i, sym b i)) data_new in
      let stands : StandsBy Registered here.0.length (given r.plan follows.f.parts start here.0.server here.0.kind) (now here.0.server here.0.kind false) (now here.0.server here.0.kind true) =
      subst (λ stage. StandsBy stage here.0.length (given r.plan follows.f.parts start here.0.server here.0.kind) (now here.0.server here.0.kind false) (now here.0.server here.0.kind true))
      (follows.fits.way.reached.1.written 0 here.0 here.1 some new) (follows.fits.fits.each 0 here.0 here.1) in
      (λ i. finals now (sym a i) (sym b i))
      ∙ ap disk.standing (stands.0 ∙ given_new r.plan follows.f.parts start here.0.server here.0.kind new)
      ∙ standing_firm (planned follows.f.parts here.0.kind) ∙ ap (planned follows.f.parts) b

  joins : joined follows.f.parts ≡ dat_of (finals start) ++ deletions r.plan.deleted.items
  joins = λ i. sym start_dat i ++ deletions (follows.fits.begins.tells.deleted i)

  reads_joined : 0 < reached_at → ReadsJoined r.plan.home (made_records r.plan start) (finals start) (finals now)
  reads_joined some = record {
    dat = joined follows.f.parts;
    stands = data_stands some;
    super = (follows.fits.begins.joined decode).super;
    whole = (follows.fits.begins.joined decode).exact.whole;
    has = ap records joins;
    needles = λ vol means.
        ap (λ (ps : List Placed). (fold_records ps).needles) (sym (ap records joins) ∙ (follows.fits.begins.joined decode).exact.has)
        ∙ (follows.fits.forms.plain (follows.fits.begins.changes ∙ ap changes_form decode)).1
        ∙ sym (of_start follows.w follows.f (finals start) vol follows.fits.forms follows.fits.begins.kept means).same.1;
  }

  -- By the places that are left.
  pub reads_decode : MatchBool (has_enough r.plan.info row) (ReadsCoded (told r.plan) (finals start) (finals now)) (ReadsJoined r.plan.home (made_records r.plan start) (finals start) (finals now))
  reads_decode = by_places (has_enough r.plan.info row) refl
    where
      some_or_none : (n : ℕ) → (n ≡ 0) ⊎ (0 < n)
      some_or_none zero = inl refl
      some_or_none (suc n) = inr (omega arith)

      by_places : (b : Bool) → has_enough r.plan.info row ≡ b → MatchBool b (ReadsCoded (told r.plan) (finals start) (finals now)) (ReadsJoined r.plan.home (made_records r.plan start) (finals start) (finals now))
      by_places true e = reads_coded e
      by_places false e = reads_joined (⊎_elim (λ none. absurd (true≢false (sym (enough_first none) ∙ e))) (λ some. some) (some_or_none reached_at))
