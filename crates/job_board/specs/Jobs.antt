-- The jobs of a board.
use Rattle.std.specs.Prelude.{◌≡◌, ◌≢◌, ℕ, ◌+◌, ◌<◌, ◌==◌, not, Bool, if◌then◌else◌, List, [], ◌∷◌, ◌++◌, map, Option, Some, None, option_and_then, option_map, IsSomeAnd, refl}
use Rattle.std.specs.List.{AllByRecursion, filter, find}
use Rattle.std.specs.Coded.{Coded, code_by, coded×, coded_ℕ, coded_list, coded_option}
use Rattle.job_board.specs.declared.Job.{Job}

-- the unfinished jobs by rising number, and the number of the next one
pub record Jobs (W : Type 0) : Type 0 where
  pub unfinished : List (Job W)
  pub next : ℕ

abbrev pub coded_job : {W : Type 0} → Coded W → Coded (Job W)
coded_job {W} w = code_by (ℕ × (ℕ × Option W)) (coded× coded_ℕ (coded× coded_ℕ (coded_option w))) (λ j. (j.number, (j.volume, j.work))) (λ p. record { number = p.0; volume = p.1.0; work = p.1.1 }) (λ _. refl)

abbrev pub coded_jobs : {W : Type 0} → Coded W → Coded (Jobs W)
coded_jobs {W} w = code_by (List (Job W) × ℕ) (coded× (coded_list (coded_job w)) coded_ℕ) (λ b. (b.unfinished, b.next)) (λ p. record { unfinished = p.0; next = p.1 }) (λ _. refl)

module _ {W : Type 0} where
  abbrev pub has_number : ℕ → Job W → Bool
  has_number number job = job.number == number

  abbrev pub has_volume : ℕ → Job W → Bool
  has_volume volume job = job.volume == volume

  -- the work of the job of this number, where it isn't out
  abbrev pub work_of : List (Job W) → ℕ → Option W
  work_of jobs number = option_and_then (λ (job : Job W). job.work) (find (has_number number) jobs)

  -- the number of the volume's job
  abbrev pub number_for : List (Job W) → ℕ → Option ℕ
  number_for jobs volume = option_map (λ (job : Job W). job.number) (find (has_volume volume) jobs)

  -- the volume of the job of this number
  abbrev pub volume_for : List (Job W) → ℕ → Option ℕ
  volume_for jobs number = option_map (λ (job : Job W). job.volume) (find (has_number number) jobs)

  abbrev pub first_number : List (Job W) → Option ℕ
  first_number [] = None
  first_number (job ∷ more) = Some job.number

  -- the job of this number is there, and its work isn't
  abbrev pub IsOut : List (Job W) → ℕ → Type 0
  IsOut jobs number = IsSomeAnd (find (has_number number) jobs) (λ job. job.work ≡ None)

  -- a job more, of the next number
  abbrev pub with_job : Jobs W → ℕ → W → Jobs W
  with_job b volume work = record { unfinished = b.unfinished ++ record { number = b.next; volume = volume; work = Some work } ∷ []; next = b.next + 1 }

  abbrev pub set_work : ℕ → Option W → Job W → Job W
  set_work number work job = if job.number == number then record job { work = work } else job

  -- the job of this number with this work, or without
  abbrev pub with_work : Jobs W → ℕ → Option W → Jobs W
  with_work b number work = record b { unfinished = map {A = Job W} {B = Job W} (set_work number work) b.unfinished }

  -- no job of this number
  abbrev pub without : Jobs W → ℕ → Jobs W
  without b number = record b { unfinished = filter (λ job. not (has_number number job)) b.unfinished }

  -- numbers rise, and no volume comes twice
  abbrev pub InOrder : List (Job W) → Type 0
  InOrder [] = Unit {0}
  InOrder (job ∷ more) = AllByRecursion (λ later. (job.number < later.number) × (job.volume ≢ later.volume)) more × InOrder more

  -- what holds of every board
  pub record IsBoard (b : Jobs W) : Type 0 where
    pub in_order : InOrder b.unfinished
    pub started : AllByRecursion (λ job. (0 < job.number) × (job.number < b.next)) b.unfinished
