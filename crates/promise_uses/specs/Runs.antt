-- What is asked of one run.
use Rattle.std.specs.Prelude.{ℕ}
use Rattle.site_model.specs.Counts.{Counts, Rose}

-- no count of faults rose
pub record IsCalm (old new : Counts) (faults_before faults_after : ℕ) : Type 0 where
  pub devices : (server : ℕ) → ¬ Rose (old.faults server) (new.faults server)
  pub says : ¬ Rose old.say_faults new.say_faults
  pub source : ¬ Rose faults_before faults_after
