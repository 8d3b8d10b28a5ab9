-- Jobs of a world: what a stop leaves near a world with a job unfinished is near the world without it, or near the one
-- after it.
use Rattle.std.proofs.Common.{◌≡◌, ◌≢◌, ◌⊎◌, inl, inr, ⊎_elim, ℕ, ◌+◌, ◌<◌, Bool, true, false, List, [], ◌∷◌, ◌++◌, Option, Some, None, refl, sym, ◌∙◌, ap, subst, arith}
use Rattle.std.specs.Prelude.{◌==◌, ◌||◌, ◌&&◌, not, if◌then◌else◌, filter, option_map}
use Rattle.std.specs.Option.{option_map_or}
use Rattle.std.specs.List.{AllByRecursion}
use Rattle.std.proofs.lemmas.Bool.{cases_eq, eq-eqb, ne_eqb, eqb-true}
use Rattle.world_model.specs.declared.types.Mode.{Mode}
use Rattle.world_model.specs.declared.types.Mode.TheVariants as mode
use Rattle.world_model.specs.declared.types.Command.{Command}
use Rattle.world_model.specs.declared.types.Command.TheVariants.{Encode, Rebuild, Balance, Decode}
use Rattle.world_model.specs.declared.types.Line.TheVariants as line
use Rattle.world_model.specs.declared.types.Reply.{Reply}
use Rattle.world_model.specs.World.{Volume, Job, World}
use Rattle.world_model.specs.Moves.{has_job, job_at, mode_after, with_ended, without_job, effect}
use Rattle.image_meaning.specs.Ends.{NearMode, NearVolume, IsNear, is_changing, changes_form, unmarked}

-- Numbers rise, and no volume comes twice.
abbrev pub AreInOrder : List Job → Type 0
AreInOrder [] = Unit {0}
AreInOrder (job ∷ jobs) = AllByRecursion (λ later. (job.number < later.number) × (job.volume ≢ later.volume)) jobs × AreInOrder jobs

pub record HasJobs (w : World) : Type 0 where
  pub in_order : AreInOrder w.jobs
  pub started : AllByRecursion (λ job. job.number < w.next_job) w.jobs

abbrev job_on : ℕ → Job → Bool
job_on v job = (job.volume == v) && changes_form job.command

abbrev numbered : ℕ → Job → Bool
numbered n job = job.number == n

-- ---- a job more

abbrev pub new_job : World → ℕ → Command → Job
new_job w v command = record { number = w.next_job; volume = v; command = command }

-- the world with the job started
abbrev pub with_started : World → ℕ → Command → World
with_started w v command = record w { jobs = w.jobs ++ new_job w v command ∷ []; next_job = w.next_job + 1 }

not_yet : (n : ℕ) (job : Job) → job.number < n → numbered n job ≡ false
not_yet n job h = ne_eqb job.number n (λ e. omega (arith, e, h))

found_last : (jobs : List Job) (job : Job) → AllByRecursion (λ j. j.number < job.number) jobs → has_job (jobs ++ job ∷ []) job.number ≡ Some job
found_last [] job h = ap (λ b. if b then Some job else None) (eq-eqb job.number job.number refl)
found_last (j ∷ jobs) job h = ap (λ b. if b then Some j else has_job (jobs ++ job ∷ []) job.number) (not_yet job.number j h.0) ∙ found_last jobs job h.1

filtered_last : (jobs : List Job) (job : Job) → AllByRecursion (λ j. j.number < job.number) jobs → filter (λ j. not (numbered job.number j)) (jobs ++ job ∷ []) ≡ jobs
filtered_last [] job h = ap (λ b. if not b then job ∷ [] else []) (eq-eqb job.number job.number refl)
filtered_last (j ∷ jobs) job h =
    ap (λ b. if not b then j ∷ filter (λ k. not (numbered job.number k)) (jobs ++ job ∷ []) else filter (λ k. not (numbered job.number k)) (jobs ++ job ∷ [])) (not_yet job.number j h.0)
    ∙ ap (λ js. j ∷ js) (filtered_last jobs job h.1)

-- Starting a job and ending it is the line without `&`.
pub line_is_job : (w : World) (v : ℕ) (command : Command) (r : Reply) → HasJobs w → without_job (with_started w v command) w.next_job ≡ effect w (line.Start v command false) r
line_is_job w v command r has =
    ap (λ o. option_map_or
    (λ job. record (with_ended (with_started w v command) job.volume job.command) { jobs = filter (λ j. not (j.number == w.next_job)) (with_started w v command).jobs })
    o (with_started w v command)) (found_last w.jobs (new_job w v command) has.started)
    ∙ (λ i. record { servers = w.servers; limit = w.limit; volumes = (with_ended w v command).volumes; jobs = filtered_last w.jobs (new_job w v command) has.started i; next_job = w.next_job + 1 })

-- ---- which volumes are changing

any_append : (v : ℕ) (jobs : List Job) (job : Job) → is_changing (jobs ++ job ∷ []) v ≡ (is_changing jobs v || job_on v job)
any_append v [] job = or_none (job_on v job)
  where
    or_none : (b : Bool) → (b || false) ≡ b
    or_none true = refl
    or_none false = refl
any_append v (j ∷ jobs) job = ap (λ b. job_on v j || b) (any_append v jobs job) ∙ assoc (job_on v j) (is_changing jobs v) (job_on v job)
  where
    assoc : (a b c : Bool) → (a || (b || c)) ≡ ((a || b) || c)
    assoc true b c = refl
    assoc false b c = refl

elsewhere_on : (v q : ℕ) (command : Command) (number : ℕ) → q ≢ v → job_on q (record { number = number; volume = v; command = command }) ≡ false
elsewhere_on v q command number other = ap (λ b. b && changes_form command) (ne_eqb v q (λ e. other (sym e)))

-- a new job changes the form of its own volume at most
pub started_elsewhere : (w : World) (v : ℕ) (command : Command) (q : ℕ) → q ≢ v → is_changing (with_started w v command).jobs q ≡ is_changing w.jobs q
started_elsewhere w v command q other =
    any_append q w.jobs (new_job w v command) ∙ ap (λ b. is_changing w.jobs q || b) (elsewhere_on v q command w.next_job other) ∙ or_false (is_changing w.jobs q)
  where
    or_false : (b : Bool) → (b || false) ≡ b
    or_false true = refl
    or_false false = refl

free_unchanging : (jobs : List Job) (v : ℕ) → job_at jobs v ≡ None → is_changing jobs v ≡ false
free_unchanging [] v free = refl
free_unchanging (j ∷ jobs) v free = by_volume (j.volume == v) free (λ e. free_unchanging jobs v e)
  where
    by_volume : (b : Bool) → (if b then Some j else job_at jobs v) ≡ None → (job_at jobs v ≡ None → is_changing jobs v ≡ false) → ((b && changes_form j.command) || is_changing jobs v) ≡ false
    by_volume true e more = absurd cc
    by_volume false e more = more e

pub started_there : (w : World) (v : ℕ) (command : Command) → job_at w.jobs v ≡ None → is_changing (with_started w v command).jobs v ≡ changes_form command
started_there w v command free =
    any_append v w.jobs (new_job w v command)
    ∙ ap (λ b. b || job_on v (new_job w v command)) (free_unchanging w.jobs v free)
    ∙ ap (λ b. b && changes_form command) (eq-eqb v v refl)

-- ---- the line without `&`

-- a plain or sealed volume for an encode, and a coded one for the others
abbrev pub Suits : Command → Mode → Type 0
Suits (Encode ratio) m = unmarked m ≡ mode.Plain
Suits Rebuild m = m ≡ mode.Coded
Suits Balance m = m ≡ mode.Coded
Suits Decode m = m ≡ mode.Coded

pub suits_not_lost : (command : Command) (m : Mode) → Suits command m → m ≡ mode.Lost → ⊥
suits_not_lost (Encode ratio) m suits e = absurd cc
suits_not_lost Rebuild m suits e = absurd cc
suits_not_lost Balance m suits e = absurd cc
suits_not_lost Decode m suits e = absurd cc

near_either : (command : Command) (m n : Mode) → Suits command m → NearMode (changes_form command) m n → NearMode false m n ⊎ NearMode false (mode_after command m) n
near_either (Encode ratio) m n suits (inl plain) = inl (plain ∙ sym suits)
near_either (Encode ratio) m n suits (inr coded) = inr coded
near_either Rebuild m n suits near = inl near
near_either Balance m n suits near = inl near
near_either Decode m n suits (inl plain) = inr plain
near_either Decode m n suits (inr coded) = inl (coded ∙ sym (ap unmarked suits))

-- Of the world with the job: the world before the line, or the one after it.
pub near_started : (w : World) (v : ℕ) (command : Command) (vol : Volume) (r : Reply) → job_at w.jobs v ≡ None → w.volumes v ≡ Some vol → Suits command vol.mode
    → (u : World) → IsNear (with_started w v command) u → IsNear w u ⊎ IsNear (effect w (line.Start v command false) r) u
near_started w v command vol r free has suits u near = by_volume (u.volumes v) refl there
  where
    there : NearVolume (changes_form command) (Some vol) (u.volumes v)
    there = subst (λ b. NearVolume b (Some vol) (u.volumes v)) (started_there w v command free) (subst (λ o. NearVolume (is_changing (with_started w v command).jobs v) o (u.volumes v)) has (near v))

    others : (q : ℕ) → q ≢ v → NearVolume (is_changing w.jobs q) (w.volumes q) (u.volumes q)
    others q other = subst (λ b. NearVolume b (w.volumes q) (u.volumes q)) (started_elsewhere w v command q other) (near q)

    before : (x : Volume) → u.volumes v ≡ Some x → NearVolume false (Some vol) (Some x) → IsNear w u
    before x is at q = elim (cases_eq q v) [
      | inl e ↦ subst (λ p. NearVolume (is_changing w.jobs p) (w.volumes p) (u.volumes p)) (sym e)
          (subst (λ b. NearVolume b (w.volumes v) (u.volumes v)) (sym (free_unchanging w.jobs v free))
          (subst (λ o. NearVolume false o (u.volumes v)) (sym has) (subst (NearVolume false (Some vol)) (sym is) at)))
      | inr other ↦ others q other
    ]

    after : (x : Volume) → u.volumes v ≡ Some x → NearVolume false (Some (record vol { mode = mode_after command vol.mode })) (Some x) → IsNear (effect w (line.Start v command false) r) u
    after x is at q = elim (cases_eq q v) [
      | inl e ↦ subst (λ p. NearVolume (is_changing w.jobs p) ((effect w (line.Start v command false) r).volumes p) (u.volumes p)) (sym e)
          (subst (λ b. NearVolume b ((effect w (line.Start v command false) r).volumes v) (u.volumes v)) (sym (free_unchanging w.jobs v free))
          (subst (λ o. NearVolume false o (u.volumes v)) (sym ended_there) (subst (NearVolume false (Some (record vol { mode = mode_after command vol.mode }))) (sym is) at)))
      | inr other ↦ subst (λ o. NearVolume (is_changing w.jobs q) o (u.volumes q)) (sym (ended_elsewhere q other)) (others q other)
    ]
      where
        ended_there : (effect w (line.Start v command false) r).volumes v ≡ Some (record vol { mode = mode_after command vol.mode })
        ended_there =
            ap (λ b. if b then option_map (λ (x : Volume). record x { mode = mode_after command x.mode }) (w.volumes v) else w.volumes v) (eq-eqb v v refl)
            ∙ ap (option_map (λ (x : Volume). record x { mode = mode_after command x.mode })) has

        ended_elsewhere : (q : ℕ) → q ≢ v → (effect w (line.Start v command false) r).volumes q ≡ w.volumes q
        ended_elsewhere q other = ap (λ b. if b then option_map (λ (x : Volume). record x { mode = mode_after command x.mode }) (w.volumes v) else w.volumes q) (ne_eqb q v other)

    by_volume : (o : Option Volume) → u.volumes v ≡ o → NearVolume (changes_form command) (Some vol) (u.volumes v) → IsNear w u ⊎ IsNear (effect w (line.Start v command false) r) u
    by_volume None is at = absurd (suits_not_lost command vol.mode suits (none_lost (changes_form command) (subst (NearVolume (changes_form command) (Some vol)) is at)))
      where
        none_lost : (b : Bool) → NearVolume b (Some vol) None → vol.mode ≡ mode.Lost
        none_lost true e = e
        none_lost false e = e
    by_volume (Some x) is at = ⊎_elim
        (λ near. inl (before x is (here.0, here.1, near)))
        (λ near. inr (after x is (here.0, here.1, near)))
        (near_either command vol.mode x.mode suits here.2)
      where
        parts : (b : Bool) → NearVolume b (Some vol) (Some x) → (x.used ≡ vol.used) × (x.needles ≡ vol.needles) × NearMode b vol.mode x.mode
        parts true h = h
        parts false h = h

        here : (x.used ≡ vol.used) × (x.needles ≡ vol.needles) × NearMode (changes_form command) vol.mode x.mode
        here = parts (changes_form command) (subst (NearVolume (changes_form command) (Some vol)) is at)

-- ---- a job that ends

-- all jobs of this number have this volume and command
abbrev AreThis : ℕ → Job → List Job → Type 0
AreThis n job jobs = AllByRecursion (λ k. numbered n k ≡ true → k ≡ job) jobs

none_later : (n : ℕ) (jobs : List Job) (first : Job) → numbered n first ≡ true → AllByRecursion (λ later. (first.number < later.number) × (first.volume ≢ later.volume)) jobs → AreThis n first jobs
none_later n [] first is later = tt
none_later n (k ∷ jobs) first is later =
    ((λ e. absurd (omega (arith, later.0.0, eqb-true k.number n e, eqb-true first.number n is))), none_later n jobs first is later.1)

only_job : (n : ℕ) (jobs : List Job) (job : Job) → AreInOrder jobs → has_job jobs n ≡ Some job → AreThis n job jobs
only_job n [] job order found = tt
only_job n (k ∷ jobs) job order found = by_number (numbered n k) refl (λ e. only_job n jobs job order.1 e)
  where
    some_is : (a b : Job) → Some a ≡ Some b → a ≡ b
    some_is a b e = cc

    by_number : (b : Bool) → numbered n k ≡ b → (has_job jobs n ≡ Some job → AreThis n job jobs) → AreThis n job (k ∷ jobs)
    by_number true e more =
        let same : k ≡ job = some_is k job (sym (ap (λ b. if b then Some k else has_job jobs n) e) ∙ found) in
        ((λ _. same), subst (λ j. AreThis n j jobs) same (none_later n jobs k e order.0))
    by_number false e more =
        ((λ t. absurd (apart (sym e ∙ t))), more (sym (ap (λ b. if b then Some k else has_job jobs n) e) ∙ found))
      where
        apart : false ≡ true → ⊥
        apart h = cc

-- a volume that the job doesn't change
ended_same : (n : ℕ) (job : Job) (jobs : List Job) (q : ℕ) → AreThis n job jobs → job_on q job ≡ false → is_changing (filter (λ j. not (j.number == n)) jobs) q ≡ is_changing jobs q
ended_same n job [] q all off = refl
ended_same n job (k ∷ jobs) q all off = by_number (ended_same n job jobs q all.1 off) (numbered n k) refl
  where
    by_number : is_changing (filter (λ j. not (j.number == n)) jobs) q ≡ is_changing jobs q
        → (b : Bool) → numbered n k ≡ b → is_changing (filter (λ j. not (j.number == n)) (k ∷ jobs)) q ≡ (job_on q k || is_changing jobs q)
    by_number rest true e =
        ap (λ b. is_changing (if not b then k ∷ filter (λ j. not (j.number == n)) jobs else filter (λ j. not (j.number == n)) jobs) q) e
        ∙ rest ∙ sym (ap (λ b. b || is_changing jobs q) (ap (job_on q) (all.0 e) ∙ off))
    by_number rest false e =
        ap (λ b. is_changing (if not b then k ∷ filter (λ j. not (j.number == n)) jobs else filter (λ j. not (j.number == n)) jobs) q) e
        ∙ ap (λ b. job_on q k || b) rest

found_changing : (n : ℕ) (jobs : List Job) (job : Job) → has_job jobs n ≡ Some job → changes_form job.command ≡ true → is_changing jobs job.volume ≡ true
found_changing n [] job found changes = absurd cc
found_changing n (k ∷ jobs) job found changes = by_number (numbered n k) refl (λ e. found_changing n jobs job e changes)
  where
    some_is : (a b : Job) → Some a ≡ Some b → a ≡ b
    some_is a b e = cc

    or_true : (a : Bool) → (a || true) ≡ true
    or_true true = refl
    or_true false = refl

    by_number : (b : Bool) → numbered n k ≡ b → (has_job jobs n ≡ Some job → is_changing jobs job.volume ≡ true) → (job_on job.volume k || is_changing jobs job.volume) ≡ true
    by_number true e more =
        ap (λ (j : Job). job_on job.volume j || is_changing jobs job.volume) (some_is k job (sym (ap (λ b. if b then Some k else has_job jobs n) e) ∙ found))
        ∙ ap (λ b. (b && changes_form job.command) || is_changing jobs job.volume) (eq-eqb job.volume job.volume refl)
        ∙ ap (λ b. b || is_changing jobs job.volume) changes
    by_number false e more =
        ap (λ b. job_on job.volume k || b) (more (sym (ap (λ b. if b then Some k else has_job jobs n) e) ∙ found)) ∙ or_true (job_on job.volume k)

-- What is near the world after the job's end is near the world that has it unfinished.
pub near_before_end : (w : World) (n : ℕ) (job : Job) → HasJobs w → has_job w.jobs n ≡ Some job → (u : World) → IsNear (without_job w n) u → IsNear w u
near_before_end w n job has found u near q = elim (cases_eq q job.volume) [
  | inl e ↦ subst (λ p. NearVolume (is_changing w.jobs p) (w.volumes p) (u.volumes p)) (sym e) (at_volume (changes_form job.command) refl (near_there job.volume))
  | inr other ↦ subst (λ b. NearVolume b (w.volumes q) (u.volumes q)) (same q (elsewhere_on job.volume q job.command job.number other))
      (subst (λ o. NearVolume (is_changing (filter (λ j. not (j.number == n)) w.jobs) q) o (u.volumes q))
      (ap (λ b. if b then option_map changed (w.volumes job.volume) else w.volumes q) (ne_eqb q job.volume other)) (near_there q))
]
  where
    changed : Volume → Volume
    changed x = record x { mode = mode_after job.command x.mode }

    same : (q : ℕ) → job_on q job ≡ false → is_changing (filter (λ j. not (j.number == n)) w.jobs) q ≡ is_changing w.jobs q
    same q off = ended_same n job w.jobs q (only_job n w.jobs job has.in_order found) off

    near_there : (q : ℕ) → NearVolume (is_changing (filter (λ j. not (j.number == n)) w.jobs) q) (if q == job.volume then option_map changed (w.volumes job.volume) else w.volumes q) (u.volumes q)
    near_there q = subst (λ (x : World). NearVolume (is_changing x.jobs q) (x.volumes q) (u.volumes q))
        (ap (λ o. option_map_or (λ j. record (with_ended w j.volume j.command) { jobs = filter (λ k. not (k.number == n)) w.jobs }) o w) found) (near q)

    -- of a volume that is changed in form, whatever is near it in the one form or the other
    loosened : (b : Bool) (o x : Option Volume) → (command : Command) → changes_form command ≡ true → NearVolume b (option_map (λ (y : Volume). record y { mode = mode_after command y.mode }) o) x → NearVolume true o x
    loosened true None None command changes at = tt
    loosened false None None command changes at = tt
    loosened true None (Some x) command changes at = absurd at
    loosened false None (Some x) command changes at = absurd at
    loosened true (Some y) None (Encode ratio) changes at = absurd cc
    loosened false (Some y) None (Encode ratio) changes at = absurd cc
    loosened true (Some y) None Decode changes at = absurd cc
    loosened false (Some y) None Decode changes at = absurd cc
    loosened b (Some y) x Rebuild changes at = absurd cc
    loosened b (Some y) x Balance changes at = absurd cc
    loosened true (Some y) (Some x) (Encode ratio) changes at = at
    loosened false (Some y) (Some x) (Encode ratio) changes at = (at.0, at.1, inr at.2)
    loosened true (Some y) (Some x) Decode changes at = at
    loosened false (Some y) (Some x) Decode changes at = (at.0, at.1, inl at.2)

    kept : (command : Command) → changes_form command ≡ false → (o : Option Volume) → option_map (λ (y : Volume). record y { mode = mode_after command y.mode }) o ≡ o
    kept (Encode ratio) e o = absurd cc
    kept Decode e o = absurd cc
    kept Rebuild e None = refl
    kept Rebuild e (Some y) = refl
    kept Balance e None = refl
    kept Balance e (Some y) = refl

    at_volume : (b : Bool) → changes_form job.command ≡ b
        → NearVolume (is_changing (filter (λ j. not (j.number == n)) w.jobs) job.volume) (if job.volume == job.volume then option_map changed (w.volumes job.volume) else w.volumes job.volume) (u.volumes job.volume)
        → NearVolume (is_changing w.jobs job.volume) (w.volumes job.volume) (u.volumes job.volume)
    at_volume true changes at =
        subst (λ b. NearVolume b (w.volumes job.volume) (u.volumes job.volume)) (sym (found_changing n w.jobs job found changes))
        (loosened (is_changing (filter (λ j. not (j.number == n)) w.jobs) job.volume) (w.volumes job.volume) (u.volumes job.volume) job.command changes
        (subst (λ o. NearVolume (is_changing (filter (λ j. not (j.number == n)) w.jobs) job.volume) o (u.volumes job.volume)) there at))
      where
        there : (if job.volume == job.volume then option_map changed (w.volumes job.volume) else w.volumes job.volume) ≡ option_map changed (w.volumes job.volume)
        there = ap (λ b. if b then option_map changed (w.volumes job.volume) else w.volumes job.volume) (eq-eqb job.volume job.volume refl)
    at_volume false changes at =
        subst (λ b. NearVolume b (w.volumes job.volume) (u.volumes job.volume)) (same job.volume off)
        (subst (λ o. NearVolume (is_changing (filter (λ j. not (j.number == n)) w.jobs) job.volume) o (u.volumes job.volume)) there at)
      where
        off : job_on job.volume job ≡ false
        off = ap (λ b. b && changes_form job.command) (eq-eqb job.volume job.volume refl) ∙ changes

        there : (if job.volume == job.volume then option_map changed (w.volumes job.volume) else w.volumes job.volume) ≡ w.volumes job.volume
        there = ap (λ b. if b then option_map changed (w.volumes job.volume) else w.volumes job.volume) (eq-eqb job.volume job.volume refl) ∙ kept job.command changes (w.volumes job.volume)
