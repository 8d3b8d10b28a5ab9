-- The smallest plan: so many steps that touch no file. It follows none, so nothing is claimed of what it makes of a volume.
use Rattle.std.proofs.Common.{◌≡◌, ℕ, [], Option, Some, None}
use Rattle.world_model.specs.declared.types.Command.TheVariants.{Decode}
use Rattle.world_model.specs.declared.types.Ratio.TheVariants.{ThreeTwo}
use Rattle.shard_table.specs.Table.{place_in}
use Rattle.plan_steps.specs.Ending.{HasNoPlaces}
use Rattle.plan_steps.specs.AnyPlans.{Plans}

pub no_place : (o : Option ℕ) (server : ℕ) → o ≡ None → o ≡ Some server → ⊥
no_place None server none some = cc
no_place (Some s) server none some = cc

abbrev pub countdown : Plans
countdown = record {
  Running = ℕ;
  plan = λ r. record { command = Decode; volume = 0; home = 0; info = record { dat_size = 8; geometry = record { large = 1; small = 1; ratio = ThreeTwo } }; deleted = [] };
  left = λ r. r;
  made_records = λ plan start. [];
  IsPlan = λ r servers. Unit {0};
  IsOnItsWay = λ r row. HasNoPlaces row;
  StandsAsTold = λ r now. Unit {0};
  BreaksOff = λ r now. ⊥;
  Follows = λ r row start now. ⊥;
  on_its_way = λ r row start now follows. absurd follows;
  told = λ r row start now follows. absurd follows;
  places = λ r row now none stands i server h is. absurd (no_place (place_in row i) server (none i h) is);
  enough = λ r servers row none is. tt;
  unbroken = λ r row start now follows breaks. follows;
  bound = λ r row start now vol follows means. absurd follows;
  underway = λ r row start now vol follows means. absurd follows;
  reads = λ r row start now follows going. absurd follows;
  firm = λ r row start now follows firm. absurd follows;
  ends = λ r servers row start now follows is over. absurd follows;
}
