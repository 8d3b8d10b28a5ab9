-- What is made of a coded volume is a plan, and some server has a shard.
use Rattle.std.proofs.Common.{◌≡◌, ℕ, ◌+◌, ◌*◌, ◌^◌, ◌<◌, ◌≤◌, true, List, [], ◌∷◌, length, Option, Some, None, IsSome, is_some, inl, refl, sym, ◌∙◌, ap, subst, arith}
use Rattle.std.specs.Prelude.{◌==◌, IfSome}
use Rattle.std.specs.List.{AllByRecursion}
use Rattle.std.proofs.lemmas.Bool.{eq-eqb}
use Rattle.world_model.specs.Sizes.{deletion_length, max_dat}
use Rattle.world_model.specs.Ratios.{data_count, data_count-some}
use Rattle.world_model.specs.declared.types.Command.{Command}
use Rattle.world_model.specs.declared.types.Command.TheVariants.{Decode}
use Rattle.stripe_layout.specs.declared.Info.{Info}
use Rattle.stripe_layout.specs.Stripes.{GeometryInRange, shards_in_all}
use Rattle.stripe_layout.specs.Laws.Info.{IsInRange}
use Rattle.shard_table.specs.Table.{Row, IsRow, place_in}
use Rattle.site_model.specs.Counts.{max_servers}
use Rattle.image_meaning.specs.Files.{lowest}
use Rattle.image_meaning.specs.Laws.Servers.{lowest-exists}
use Rattle.plan_steps.specs.declared.plan.Plan.{Plan}
use Rattle.plan_steps.specs.Planned.{held}
use Rattle.plan_steps.specs.Plans.{places_of, IsPlaced, IsPlanBy, IsPlan}
use Rattle.plan_steps.specs.Members.{Has, has_any}
use Rattle.plan_steps.specs.MendList.{held_place}
use Rattle.plan_steps.specs.Laws.Move.{place_within}
use Rattle.plan_code.specs.Made.{FitTypes, IsCodedOf, LeavesAll, IsDecodeOf, StandEnough}

-- a place is a server of the site
pub place_below : (servers : ℕ) (row : Row) (i s : ℕ) → IsRow servers row → place_in row i ≡ Some s → s < servers
place_below servers row i s is e = subst (λ (o : Option ℕ). IfSome o (λ server. server < servers)) e (is.on_servers i None (place_within row i s e))

module _ (servers v listed : ℕ) (text : Info) (ids : List ℕ) (row : Row) (plan : Plan) (is : IsCodedOf v text listed ids row plan) (on : IsRow servers row) (stand : StandEnough text.geometry row) where
  pub coded_placed : IsPlaced servers plan row
  coded_placed = record {
    is_row = on;
    beyond = subst (λ (t : Info). (i : ℕ) → shards_in_all t.geometry ≤ i → place_in row i ≡ None) (sym is.info) stand.beyond;
    places = is.places ∙ ap (λ (t : Info). places_of t.geometry row) (sym is.info);
    enough = subst (λ (t : Info). data_count t.geometry.ratio ≤ length plan.places.items) (sym is.info)
        (subst (λ (ps : List (ℕ × ℕ)). data_count text.geometry.ratio ≤ length ps) (sym is.places) stand.enough);
  }

  pub some_holder : servers ≤ max_servers → IsSome (lowest (held plan))
  some_holder few = by_places plan.places.items refl
    where
      by_places : (places : List (ℕ × ℕ)) → plan.places.items ≡ places → IsSome (lowest (held plan))
      by_places [] e = absurd (omega (arith, data_count-some text.geometry.ratio, stand.enough, ap length (sym is.places ∙ e)))
      by_places (p ∷ places) e =
          let holds : held plan p.1 ≡ true = has_any (λ (q : ℕ × ℕ). q.1 == p.1) plan.places.items p (subst (λ (ps : List (ℕ × ℕ)). Has ps p) (sym e) (inl refl)) (eq-eqb p.1 p.1 refl) in
          let at = held_place plan servers row coded_placed p.1 holds in
          ap is_some (lowest-exists (held plan) p.1 (omega (arith, place_below servers row at.0 p.1 on at.1, few)) holds).1

  pub coded_plans : FitTypes servers row ids → IsInRange text → listed < 2 ^ 60 → text.dat_size + deletion_length * length ids ≤ max_dat → IsPlanBy servers plan plan.command → IsPlan plan servers
  coded_plans given range short room made = record {
    some_server = given.some_server;
    few_servers = given.few_servers;
    geometry = subst (λ (t : Info). GeometryInRange t.geometry) (sym is.info) range.geometry;
    some_bytes = subst (λ (t : Info). 8 ≤ t.dat_size) (sym is.info) range.least;
    room = omega (arith, room, ap (λ (t : Info). t.dat_size) is.info, ap length is.deleted);
    entries = omega (arith, ap length is.entries);
    count = omega (arith, short, is.entry_count);
    ids = subst (AllByRecursion (λ id. id < 2 ^ 64)) (sym is.deleted) given.are_ids;
    made = made;
  }

pub decode_of : (v listed : ℕ) (text : Info) (ids : List ℕ) (row : Row) (plan : Plan) (home : ℕ) → IsCodedOf v text listed ids row plan → LeavesAll plan → lowest (held plan) ≡ Some home
    → IsDecodeOf v text listed ids row (record plan { command = Decode; home = home })
decode_of v listed text ids row plan home is leaves lowest_is = record {
  command = refl;
  coded = record { volume = is.volume; info = is.info; entries = is.entries; entry_count = is.entry_count; deleted = is.deleted; places = is.places };
  home = lowest_is;
  targets = leaves.targets;
  moves = leaves.moves;
}

pub decode_plans : (servers v listed : ℕ) (text : Info) (ids : List ℕ) (row : Row) (plan : Plan) → IsDecodeOf v text listed ids row plan → FitTypes servers row ids → StandEnough text.geometry row → IsInRange text
    → listed < 2 ^ 60 → text.dat_size + deletion_length * length ids ≤ max_dat → IsPlan plan servers
decode_plans servers v listed text ids row plan is given stand range short room =
    coded_plans servers v listed text ids row plan is.coded given.is_row stand given range short room
    (subst (λ (c : Command). IsPlanBy servers plan c) (sym is.command)
    (record { row = row; placed = coded_placed servers v listed text ids row plan is.coded given.is_row stand; home = is.home; targets = is.targets; moves = is.moves }))
