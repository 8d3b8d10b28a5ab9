-- What a get reads while an encode, a rebuild or a balance runs. For the store with jobs, to come.
use Rattle.std.proofs.Common.{◌≡◌, inl, inr, ⊎_elim, ℕ, ◌+◌, ◌<◌, ◌≤◌, Bool, true, false, List, [], ◌∷◌, ◌++◌, length, Some, refl, sym, ◌∙◌, ap, subst, arith, append_assoc, length-append}
use Rattle.std.specs.Prelude.{filter, map, slice_get, option_map, if◌then◌else◌}
use mathlib.Core.Bool.{true≢false}
use Rattle.std.proofs.lemmas.Bool.{cases_lt, eq-eqb}
use Rattle.site_model.specs.Disk.{firm_file}
use Rattle.site_model.specs.Disk as disk
use Rattle.file_names.specs.declared.Kind.{Kind}
use Rattle.file_names.specs.declared.Kind.TheVariants.{Dat, Idx, Ecx, Vif}
use Rattle.shard_table.specs.Table.{Row}
use Rattle.image_meaning.specs.Files.{VolumeFiles, all_servers}
use Rattle.image_meaning.specs.Ends.{changes_form}
use Rattle.image_meaning.specs.HeldParts.{held_made, held_all}
use Rattle.image_meaning.specs.Laws.Part.{made_info, made_dat}
use Rattle.image_meaning.specs.Share.{Share, finals}
use Rattle.plan_steps.specs.declared.plan.Stage.TheVariants.{Registered}
use Rattle.plan_steps.specs.declared.plan.FileState.{FileState}
use Rattle.plan_steps.specs.Kept.{HasAForm, IsKeptCoded}
use Rattle.plan_steps.specs.Laws.Kept.{kept_coded_rules}
use Rattle.plan_steps.specs.Planned.{is_encode, is_found, planned, given}
use Rattle.plan_steps.specs.Laws.Found.{encode_finds}
use Rattle.plan_steps.specs.Fitting.{StandsBy}
use Rattle.plan_steps.specs.Listed.{IsListed, listed_or_other}
use Rattle.plan_steps.specs.Legal.{IsFound}
use Rattle.plan_steps.specs.Order.{Names, names_of, IsReached}
use Rattle.plan_steps.specs.Laws.Order.{named_at, name_at}
use Rattle.plan_steps.specs.Lists.{is_target, shard_names, list_of}
use Rattle.plan_steps.specs.Members.{Has, at_has, get_front, get_behind}
use Rattle.plan_steps.specs.Walk.{is_last_stage, is_finished, AreFinished}
use Rattle.plan_steps.specs.Laws.Next.{no_step_ends}
use Rattle.plan_steps.specs.Left.{left_of}
use Rattle.plan_steps.specs.Laws.Left.{left_none}
use Rattle.plan_steps.specs.EncodeEnd.{encode_list, IsEncoded, by_names}
use Rattle.plan_steps.specs.MendEnd.{IsMending}
use Rattle.plan_steps.specs.Progressing.{Running, Follows}
use Rattle.plan_steps.specs.Reading.{ReadsCoded}
use Rattle.plan_contract.specs.Following.{told}

-- ---- the last of a list

at_end : (front : Names) (x : ℕ × Kind) → slice_get (front ++ x ∷ []) (length front) ≡ Some x
at_end front x = ap (slice_get (front ++ x ∷ [])) (sym plus) ∙ get_behind front (x ∷ []) 0
  where
    plus : length front + 0 ≡ length front
    plus = omega arith

none_behind : (front : Names) (x y : ℕ × Kind) (k : ℕ) → slice_get (front ++ x ∷ []) k ≡ Some y → k ≤ length front
none_behind front x y k e = omega (arith, (get_front (front ++ x ∷ []) [] k y e).1, length-append front (x ∷ []))

last_data : (texts indexes shards : Names) (a b : ℕ × Kind) → texts ++ (indexes ++ (shards ++ (a ∷ b ∷ []))) ≡ (texts ++ (indexes ++ (shards ++ a ∷ []))) ++ b ∷ []
last_data texts indexes shards a b = sym (
    append_assoc texts (indexes ++ (shards ++ a ∷ [])) (b ∷ [])
    ∙ ap (λ names. texts ++ names) (append_assoc indexes (shards ++ a ∷ []) (b ∷ []) ∙ ap (λ names. indexes ++ names) (append_assoc shards (a ∷ []) (b ∷ []))))

module _ (r : Running) (row : Row) (start now : Share) (follows : Follows r row start now) where
  abbrev states : List FileState
  states = r.states

  -- ---- an encode

  module _ (encode : is_encode r.plan.command ≡ true) where
    abbrev front : Names
    front = map (λ s. (s, Vif)) (filter (is_target r.plan) all_servers) ++ (map (λ s. (s, Ecx)) (filter (is_target r.plan) all_servers) ++ (shard_names r.plan.targets.items ++ (r.plan.home, Idx) ∷ []))

    names_are : names_of states ≡ front ++ (r.plan.home, Dat) ∷ []
    names_are = follows.fits.way.listed ∙ encode_list r.plan r.plan.command encode
        ∙ last_data (map (λ s. (s, Vif)) (filter (is_target r.plan) all_servers)) (map (λ s. (s, Ecx)) (filter (is_target r.plan) all_servers)) (shard_names r.plan.targets.items) (r.plan.home, Idx) (r.plan.home, Dat)

    data_found : IsFound r.plan r.plan.home Dat
    data_found = encode_finds r.plan r.plan.home Dat encode ∙ eq-eqb r.plan.home r.plan.home refl

    -- its data file goes last
    place_within : (k : ℕ) (s : FileState) → slice_get states k ≡ Some s → k ≤ length front
    place_within k s at = none_behind front (r.plan.home, Dat) (s.server, s.kind) k (ap (λ names. slice_get names k) (sym names_are) ∙ name_at (λ (s : FileState). (s.server, s.kind)) states k s at)

    all_finished : (j : ℕ) → IsReached r.plan states j → length front < j → AreFinished r.plan states
    all_finished j reached far k s at = by_found (is_found r.plan r.plan.command s.server s.kind) refl
      where
        before : k < j
        before = omega (arith, place_within k s at, far)

        by_found : (b : Bool) → is_found r.plan r.plan.command s.server s.kind ≡ b → is_finished r.plan s ≡ true
        by_found true e = (λ i. is_last_stage (e i) (reached.removed k s at before e i))
        by_found false e = (λ i. is_last_stage (e i) (reached.written k s at before e i))

    -- and stands as long as a step is left
    data_stands : 0 < left_of r.plan states r.place → (k : ℕ) (s : FileState) → slice_get states k ≡ Some s → s.server ≡ r.plan.home → s.kind ≡ Dat → s.stage ≡ Registered
    data_stands some k s at a b = ⊎_elim
        (λ less. absurd (omega (arith, some, (left_none r.plan states r.place).1 ((no_step_ends r.plan states r.place).1 (all_finished follows.fits.way.reached.0 follows.fits.way.reached.1 less)))))
        (λ more. follows.fits.way.reached.1.staying k s at (omega (arith, more, place_is)) (subst (λ (p : ℕ × Kind). IsFound r.plan p.0 p.1) (λ i. (sym a i, sym b i)) data_found))
        (cases_lt (length front) follows.fits.way.reached.0)
      where
        last : (x : FileState) × (slice_get states (length front) ≡ Some x) × (◌≡◌ {A = ℕ × Kind} (x.server, x.kind) (r.plan.home, Dat))
        last = named_at (λ (s : FileState). (s.server, s.kind)) states (length front) (r.plan.home, Dat) (ap (λ names. slice_get names (length front)) names_are ∙ at_end front (r.plan.home, Dat))

        place_is : k ≡ length front
        place_is = follows.fits.way.apart.apart k (length front) s last.0 at last.1 (a ∙ ap (λ (p : ℕ × Kind). p.0) (sym last.2)) (b ∙ ap (λ (p : ℕ × Kind). p.1) (sym last.2))

    -- so it is read as it was
    pub reads_data : 0 < left_of r.plan states r.place → (server : ℕ) → finals now server Dat ≡ finals start server Dat
    reads_data some server = ⊎_elim
        (λ (l : IsListed states server Dat). by_place l.0 l.1 l.2 l.3 l.4)
        (λ other. ap disk.standing (follows.fits.fits.others server Dat other))
        (listed_or_other states server Dat)
      where
        at_home : IsEncoded r.plan server Dat → server ≡ r.plan.home
        at_home (inl (target, inl e)) = absurd cc
        at_home (inl (target, inr e)) = absurd cc
        at_home (inr (inl (j, e, has))) = absurd cc
        at_home (inr (inr (home, e))) = home

        by_place : (j : ℕ) (s : FileState) → slice_get states j ≡ Some s → s.server ≡ server → s.kind ≡ Dat → finals now server Dat ≡ finals start server Dat
        by_place j s at a b =
            let name : slice_get (names_of states) j ≡ Some (server, Dat) = name_at (λ (s : FileState). (s.server, s.kind)) states j s at ∙ (λ i. Some (a i, b i)) in
            let listed : Has (list_of r.plan) (server, Dat) = at_has (list_of r.plan) j (server, Dat) (ap (λ names. slice_get names j) (sym follows.fits.way.listed) ∙ name) in
            let home : server ≡ r.plan.home = at_home (by_names r.plan server Dat (subst (λ (names : Names). Has names (server, Dat)) (encode_list r.plan r.plan.command encode) listed)) in
            let found : IsFound r.plan s.server s.kind = subst (λ (p : ℕ × Kind). IsFound r.plan p.0 p.1) (λ i. ((sym home ∙ sym a) i, sym b i)) data_found in
            let stage : s.stage ≡ Registered = data_stands some j s at (a ∙ home) b in
            let stands : StandsBy Registered s.length (given r.plan follows.f.parts start s.server s.kind) (now s.server s.kind false) (now s.server s.kind true) =
            subst (λ stage. StandsBy stage s.length (given r.plan follows.f.parts start s.server s.kind) (now s.server s.kind false) (now s.server s.kind true)) stage (follows.fits.fits.each j s at) in
            (λ i. finals now (sym a i) (sym b i))
            ∙ ap disk.standing (stands.0 ∙ ap (λ b. if b then start s.server s.kind false else option_map firm_file (planned follows.f.parts s.kind)) found)
            ∙ (λ i. finals start (a i) (b i))

  -- ---- a rebuild and a balance

  kept_coded : follows.f.changes ≡ false → (files : VolumeFiles) → HasAForm follows.f files → IsKeptCoded follows.f.parts files
  kept_coded same files (inl (changes, kept)) = absurd (true≢false (sym changes ∙ same))
  kept_coded same files (inr kept) = kept

  module _ (mends : IsMending r.plan.command) where
    stays : follows.f.changes ≡ false
    stays = by_command mends
      where
        by_command : IsMending r.plan.command → follows.f.changes ≡ false
        by_command (inl e) = follows.fits.begins.changes ∙ ap changes_form e
        by_command (inr e) = follows.fits.begins.changes ∙ ap changes_form e

    kept_now : IsKeptCoded follows.f.parts (finals now)
    kept_now = kept_coded stays (finals now) follows.fits.fits.kept

    kept_start : IsKeptCoded follows.f.parts (finals start)
    kept_start = kept_coded stays (finals start) follows.fits.begins.kept

    -- the shards give the data file that they gave
    pub reads_shards : ReadsCoded (told r.plan) (finals start) (finals now)
    reads_shards = record {
      rules = kept_coded_rules follows.f.parts follows.fits.forms.parts (finals now) kept_now;
      info = made_info follows.f.parts (finals now) (held_made follows.f.parts (finals now) kept_now.holds) kept_now.form.enough ∙ ap Some follows.fits.begins.tells.info;
      deleted = λ server holder. held_all follows.f.parts (finals now) kept_now.holds server holder ∙ follows.fits.begins.tells.deleted;
      same_dat = made_dat follows.f.parts (finals now) (held_made follows.f.parts (finals now) kept_now.holds) kept_now.form.enough follows.fits.forms.parts
          ∙ sym (made_dat follows.f.parts (finals start) (held_made follows.f.parts (finals start) kept_start.holds) kept_start.form.enough follows.fits.forms.parts);
    }
