-- Commands and steps, one reply more; and jobs that have ended, which stay so.
use Rattle.std.proofs.Common.{◌≡◌, ℕ, zero, suc, ◌+◌, ◌<◌, ◌≤◌, Bool, true, false, List, [], ◌∷◌, ◌++◌, length, take, Option, Some, None, refl, sym, ◌∙◌, ap, subst, arith}
use Rattle.std.specs.Prelude.{◌==◌, not, if◌then◌else◌, filter, slice_get, MatchOption}
use Rattle.std.specs.Option.{option_map_or}
use Rattle.std.specs.List.{AllByRecursion}
use Rattle.std.proofs.lemmas.Bool.{ne_eqb, eqb-true}
use Rattle.world_model.specs.declared.types.Command.{Command}
use Rattle.world_model.specs.declared.types.Line.{Line}
use Rattle.world_model.specs.declared.types.Line.TheVariants as line
use Rattle.world_model.specs.declared.types.Reply.{Reply}
use Rattle.world_model.specs.declared.types.Reply.TheVariants as reply
use Rattle.world_model.specs.declared.types.Refusal.TheVariants as refusal
use Rattle.world_model.specs.World.{World, Job}
use Rattle.world_model.specs.Moves.{Reading, over_long, ungrammatical, grammatical, Accepted, Allowed, effect, has_job, is_accepted, next_world, with_ended}
use Rattle.world_model.specs.Runs.{IsRun, world_after}
use Rattle.world_model.specs.Jobs.{accepted_on, command_on, running_steps, steps_if_running, with_command}

-- ---- one reply more

with_command-append : (b : Bool) (o : Option Command) (xs ys : List Command) → with_command b o (xs ++ ys) ≡ with_command b o xs ++ ys
with_command-append true (Some c) xs ys = refl
with_command-append true None xs ys = refl
with_command-append false o xs ys = refl

pub accepted_push : (v : ℕ) (lines : List Reading) (replies : List Reply) (l : Reading) (r : Reply) → slice_get lines (length replies) ≡ Some l
    → accepted_on v lines (replies ++ r ∷ []) ≡ accepted_on v lines replies ++ with_command (is_accepted r) (command_on v l) []
accepted_push v [] [] l r at = absurd cc
accepted_push v (x ∷ lines) [] l r at = let same : x ≡ l = cc in ap (λ y. with_command (is_accepted r) (command_on v y) []) same
accepted_push v [] (s ∷ replies) l r at = absurd cc
accepted_push v (x ∷ lines) (s ∷ replies) l r at =
    ap (with_command (is_accepted s) (command_on v x)) (accepted_push v lines replies l r at)
    ∙ with_command-append (is_accepted s) (command_on v x) (accepted_on v lines replies) (with_command (is_accepted r) (command_on v l) [])

pub running_push : (job : ℕ) (lines : List Reading) (replies : List Reply) (l : Reading) (r : Reply) → slice_get lines (length replies) ≡ Some l
    → running_steps job lines (replies ++ r ∷ []) ≡ running_steps job lines replies + steps_if_running job l r
running_push job [] [] l r at = absurd cc
running_push job (x ∷ lines) [] l r at = let same : x ≡ l = cc in ap (λ y. steps_if_running job y r + 0) same ∙ omega arith
running_push job [] (s ∷ replies) l r at = absurd cc
running_push job (x ∷ lines) (s ∷ replies) l r at = ap (λ n. steps_if_running job x s + n) (running_push job lines replies l r at) ∙ omega arith

-- ---- the numbers of jobs

-- a line starts one job at most
pub record CountsJob (w u : World) : Type 0 where
  pub rises : w.next_job ≤ u.next_job
  pub once : u.next_job ≤ w.next_job + 1

ended_counts : (w : World) (number : ℕ) (o : Option Job) → CountsJob w (option_map_or (λ (job : Job). record (with_ended w job.volume job.command) { jobs = filter (λ j. not (j.number == number)) w.jobs }) o w)
ended_counts w number None = record { rises = omega arith; once = omega arith }
ended_counts w number (Some job) = record { rises = omega arith; once = omega arith }

effect_counts : (w : World) (l : Line) (r : Reply) → CountsJob w (effect w l r)
effect_counts w (line.Start v command true) r = record { rises = omega arith; once = omega arith }
effect_counts w (line.Start v command false) r = record { rises = omega arith; once = omega arith }
effect_counts w (line.Step job steps) (reply.Ended n) = ended_counts w job (has_job w.jobs job)
effect_counts w (line.Wait job) r = ended_counts w job (has_job w.jobs job)
effect_counts w l r = record { rises = omega arith; once = omega arith }

next_counts : (w : World) (l : Reading) (r : Reply) → CountsJob w (next_world w l r)
next_counts w over_long r = record { rises = omega arith; once = omega arith }
next_counts w ungrammatical r = record { rises = omega arith; once = omega arith }
next_counts w (grammatical l) r = by_reply (is_accepted r)
  where
    by_reply : (b : Bool) → CountsJob w (if b then effect w l r else w)
    by_reply true = effect_counts w l r
    by_reply false = record { rises = omega arith; once = omega arith }

-- the next job's number grows by one a line at most
pub numbers_bounded : (w : World) (lines : List Reading) (replies : List Reply) → (world_after w lines replies).next_job ≤ w.next_job + length replies
numbers_bounded w lines [] = omega arith
numbers_bounded w [] (r ∷ replies) = omega arith
numbers_bounded w (l ∷ lines) (r ∷ replies) = omega (arith, numbers_bounded (next_world w l r) lines replies, (next_counts w l r).once)

-- ---- a job that isn't unfinished, and whose number was given

-- the number was given, and no unfinished job has it
pub record IsOver (w : World) (n : ℕ) : Type 0 where
  pub given : n < w.next_job
  pub none : has_job w.jobs n ≡ None

none_behind : (n : ℕ) (jobs : List Job) (job : Job) → has_job jobs n ≡ None → (job.number == n) ≡ false → has_job (jobs ++ job ∷ []) n ≡ None
none_behind n [] job none other = ap (λ b. if b then Some job else None) other
none_behind n (j ∷ jobs) job none other = by_number (j.number == n) none (λ e. none_behind n jobs job e other)
  where
    by_number : (b : Bool) → (if b then Some j else has_job jobs n) ≡ None → (has_job jobs n ≡ None → has_job (jobs ++ job ∷ []) n ≡ None) → (if b then Some j else has_job (jobs ++ job ∷ []) n) ≡ None
    by_number true e more = absurd cc
    by_number false e more = more e

none_among : (n number : ℕ) (jobs : List Job) → has_job jobs n ≡ None → has_job (filter (λ j. not (j.number == number)) jobs) n ≡ None
none_among n number [] none = refl
none_among n number (j ∷ jobs) none = by_test (j.number == n) refl none (λ e. none_among n number jobs e)
  where
    by_kept : (b : Bool) → (j.number == n) ≡ false → has_job (filter (λ k. not (k.number == number)) jobs) n ≡ None
        → has_job (if b then j ∷ filter (λ k. not (k.number == number)) jobs else filter (λ k. not (k.number == number)) jobs) n ≡ None
    by_kept true other rest = ap (λ b. if b then Some j else has_job (filter (λ k. not (k.number == number)) jobs) n) other ∙ rest
    by_kept false other rest = rest

    by_test : (b : Bool) → (j.number == n) ≡ b → (if b then Some j else has_job jobs n) ≡ None → (has_job jobs n ≡ None → has_job (filter (λ k. not (k.number == number)) jobs) n ≡ None)
        → has_job (filter (λ k. not (k.number == number)) (j ∷ jobs)) n ≡ None
    by_test true is e more = absurd cc
    by_test false is e more = by_kept (not (j.number == number)) is (more e)

ended_over : (w : World) (number n : ℕ) (o : Option Job) → IsOver w n
    → IsOver (option_map_or (λ (job : Job). record (with_ended w job.volume job.command) { jobs = filter (λ j. not (j.number == number)) w.jobs }) o w) n
ended_over w number n None over = over
ended_over w number n (Some job) over = record { given = over.given; none = none_among n number w.jobs over.none }

effect_over : (w : World) (l : Line) (r : Reply) (n : ℕ) → IsOver w n → IsOver (effect w l r) n
effect_over w (line.Start v command true) r n over = record {
  given = omega (arith, over.given);
  none = none_behind n w.jobs (record { number = w.next_job; volume = v; command = command }) over.none (ne_eqb w.next_job n (λ e. omega (arith, e, over.given)));
}
effect_over w (line.Start v command false) r n over = record { given = omega (arith, over.given); none = over.none }
effect_over w (line.Step job steps) (reply.Ended k) n over = ended_over w job n (has_job w.jobs job) over
effect_over w (line.Wait job) r n over = ended_over w job n (has_job w.jobs job) over
effect_over w l r n over = record { given = over.given; none = over.none }

-- it is never unfinished again
pub next_over : (w : World) (l : Reading) (r : Reply) (n : ℕ) → IsOver w n → IsOver (next_world w l r) n
next_over w over_long r n over = over
next_over w ungrammatical r n over = over
next_over w (grammatical l) r n over = by_reply (is_accepted r)
  where
    by_reply : (b : Bool) → IsOver (if b then effect w l r else w) n
    by_reply true = effect_over w l r n over
    by_reply false = over

pub over_after : (w : World) (lines : List Reading) (replies : List Reply) (n : ℕ) → IsOver w n → IsOver (world_after w lines replies) n
over_after w lines [] n over = over
over_after w [] (r ∷ replies) n over = over
over_after w (l ∷ lines) (r ∷ replies) n over = over_after (next_world w l r) lines replies n (next_over w l r n over)

-- A line that steps it is refused.
step_of_none : (w : World) (n steps : ℕ) (r : Reply) → has_job w.jobs n ≡ None → Allowed w (grammatical (line.Step n steps)) r → r ≡ reply.Refused refusal.NoJob
step_of_none w n steps r none allowed =
    subst (λ (o : Option Job). MatchOption (option_map_or (λ (_ : Job). None) o (Some refusal.NoJob)) (Accepted w (line.Step n steps) r) (λ why. r ≡ reply.Refused why)) none allowed

no_step : (w : World) (l : Reading) (r : Reply) (n : ℕ) → has_job w.jobs n ≡ None → Allowed w l r → steps_if_running n l r ≡ 0
no_step w (grammatical (line.Step j steps)) (reply.Running k) n none allowed = by_number (j == n) refl
  where
    by_number : (b : Bool) → (j == n) ≡ b → (if b then steps else 0) ≡ 0
    by_number false e = refl
    by_number true e = absurd (apart (step_of_none w j steps (reply.Running k) (subst (λ m. has_job w.jobs m ≡ None) (sym (eqb-true j n e)) none) allowed))
      where
        apart : reply.Running k ≡ reply.Refused refusal.NoJob → ⊥
        apart x = cc
no_step w l r n none allowed = refl

-- so no step of it is counted
pub no_steps : (w : World) (lines : List Reading) (replies : List Reply) (n : ℕ) → IsOver w n → IsRun w lines replies → running_steps n lines replies ≡ 0
no_steps w lines [] n over run = refl
no_steps w [] (r ∷ replies) n over run = refl
no_steps w (l ∷ lines) (r ∷ replies) n over run = omega (arith, no_step w l r n over.none run.0, no_steps (next_world w l r) lines replies n (next_over w l r n over) run.1)

-- ---- numbers that weren't given yet

-- each unfinished job has a number that was given
abbrev pub AreGiven : World → Type 0
AreGiven w = AllByRecursion (λ job. job.number < w.next_job) w.jobs

below_more : (n m : ℕ) (jobs : List Job) → n ≤ m → AllByRecursion (λ (job : Job). job.number < n) jobs → AllByRecursion (λ (job : Job). job.number < m) jobs
below_more n m [] more below = tt
below_more n m (j ∷ jobs) more below = (omega (arith, below.0, more), below_more n m jobs more below.1)

below_among : (n number : ℕ) (jobs : List Job) → AllByRecursion (λ (job : Job). job.number < n) jobs → AllByRecursion (λ (job : Job). job.number < n) (filter (λ j. not (j.number == number)) jobs)
below_among n number [] below = tt
below_among n number (j ∷ jobs) below = by_kept (not (j.number == number)) (below_among n number jobs below.1)
  where
    by_kept : (b : Bool) → AllByRecursion (λ (job : Job). job.number < n) (filter (λ k. not (k.number == number)) jobs)
        → AllByRecursion (λ (job : Job). job.number < n) (if b then j ∷ filter (λ k. not (k.number == number)) jobs else filter (λ k. not (k.number == number)) jobs)
    by_kept true rest = (below.0, rest)
    by_kept false rest = rest

below_behind : (n : ℕ) (jobs : List Job) (job : Job) → job.number < n → AllByRecursion (λ (j : Job). j.number < n) jobs → AllByRecursion (λ (j : Job). j.number < n) (jobs ++ job ∷ [])
below_behind n [] job last below = (last, tt)
below_behind n (j ∷ jobs) job last below = (below.0, below_behind n jobs job last below.1)

ended_given : (w : World) (number : ℕ) (o : Option Job) → AreGiven w
    → AreGiven (option_map_or (λ (job : Job). record (with_ended w job.volume job.command) { jobs = filter (λ j. not (j.number == number)) w.jobs }) o w)
ended_given w number None given = given
ended_given w number (Some job) given = below_among w.next_job number w.jobs given

effect_given : (w : World) (l : Line) (r : Reply) → AreGiven w → AreGiven (effect w l r)
effect_given w (line.Start v command true) r given =
    below_behind (w.next_job + 1) w.jobs (record { number = w.next_job; volume = v; command = command }) (omega arith) (below_more w.next_job (w.next_job + 1) w.jobs (omega arith) given)
effect_given w (line.Start v command false) r given = below_more w.next_job (w.next_job + 1) w.jobs (omega arith) given
effect_given w (line.Step job steps) (reply.Ended k) given = ended_given w job (has_job w.jobs job) given
effect_given w (line.Wait job) r given = ended_given w job (has_job w.jobs job) given
effect_given w l r given = given

pub next_given : (w : World) (l : Reading) (r : Reply) → AreGiven w → AreGiven (next_world w l r)
next_given w over_long r given = given
next_given w ungrammatical r given = given
next_given w (grammatical l) r given = by_reply (is_accepted r)
  where
    by_reply : (b : Bool) → AreGiven (if b then effect w l r else w)
    by_reply true = effect_given w l r given
    by_reply false = given

-- no job has such a number
pub none_given : (n m : ℕ) (jobs : List Job) → m ≤ n → AllByRecursion (λ (job : Job). job.number < m) jobs → has_job jobs n ≡ None
none_given n m [] later below = refl
none_given n m (j ∷ jobs) later below = ap (λ b. if b then Some j else has_job jobs n) (ne_eqb j.number n (λ e. omega (arith, e, below.0, later))) ∙ none_given n m jobs later below.1

numbers_rise : (w : World) (lines : List Reading) (replies : List Reply) → w.next_job ≤ (world_after w lines replies).next_job
numbers_rise w lines [] = omega arith
numbers_rise w [] (r ∷ replies) = omega arith
numbers_rise w (l ∷ lines) (r ∷ replies) = omega (arith, numbers_rise (next_world w l r) lines replies, (next_counts w l r).rises)

-- The job of a line without `&` is over as soon as it has a number: no step of it is ever counted.
pub uncounted : (w : World) (lines : List Reading) (replies : List Reply) (place v : ℕ) (command : Command) (r : Reply) → IsRun w lines replies → AreGiven w
    → slice_get lines place ≡ Some (grammatical (line.Start v command false)) → slice_get replies place ≡ Some r → is_accepted r ≡ true
    → running_steps (world_after w lines (take place replies)).next_job lines replies ≡ 0
uncounted w [] [] place v command r run given is was accepted = absurd cc
uncounted w (l ∷ lines) [] place v command r run given is was accepted = absurd cc
uncounted w [] (s ∷ replies) place v command r run given is was accepted = absurd run
uncounted w (l ∷ lines) (s ∷ replies) zero v command r run given is was accepted =
    let line_is : l ≡ grammatical (line.Start v command false) = cc in
    let reply_is : s ≡ r = cc in
    let over : IsOver (next_world w l s) w.next_job = subst (λ x. IsOver (next_world w x s) w.next_job) (sym line_is)
    (subst (λ b. IsOver (if b then effect w (line.Start v command false) s else w) w.next_job) (sym (ap is_accepted reply_is ∙ accepted))
    (record { given = omega arith; none = none_given w.next_job w.next_job w.jobs (omega arith) given })) in
    omega (arith, ap (λ x. steps_if_running w.next_job x s) line_is, no_steps (next_world w l s) lines replies w.next_job over run.1)
uncounted w (l ∷ lines) (s ∷ replies) (suc place) v command r run given is was accepted =
    let later = world_after (next_world w l s) lines (take place replies) in
    let n : ℕ = later.next_job in
    omega (
      arith,
      no_step w l s n (none_given n w.next_job w.jobs (omega (arith, (next_counts w l s).rises, numbers_rise (next_world w l s) lines (take place replies))) given) run.0,
      uncounted (next_world w l s) lines replies place v command r run.1 (next_given w l s given) is was accepted,
    )
