-- What the contract of plans refuses and what it admits, by small examples.
use Rattle.std.proofs.Common.{◌≡◌, ℕ, Bool, true, false, List, ◌∷◌, [], Some, None, is_some, refl, arith}
use Rattle.std.specs.Prelude.{◌==◌, ◌&&◌, if◌then◌else◌}
use Rattle.file_names.specs.declared.Kind.TheVariants.{Shard}
use Rattle.image_meaning.specs.Files.{VolumeFiles}
use Rattle.image_meaning.specs.Shards.{KeepsCopies}
use Rattle.plan_steps.specs.AnyPlans.{IsLeft}

-- ---- the steps that remain

-- A step that takes the last of what remains isn't told as one that leaves some.
last_step : IsLeft 1 false 1 0 → ⊥
last_step left = omega (arith, left.1 (omega arith))

-- Fewer steps aren't run than were given.
two_of_three : IsLeft 3 false 9 7 → ⊥
two_of_three left = omega (arith, left.0)

-- A plan may come to its end with much of its bound left: how many steps a decode takes depends on where records stand
-- that are dead, which no plan tells.
ends_early : IsLeft 1 true 15 0
ends_early = refl

-- ---- copies of shards

one_byte : List ℕ
one_byte = 7 ∷ []

-- one shard, at one server
shard_at : ℕ → VolumeFiles
shard_at home server (Shard i) = if (server == home) && (i == 0) then Some one_byte else None
shard_at home server kind = None

-- The last copy of a shard doesn't go.
last_copy : KeepsCopies (shard_at 0) (λ server kind. None) → ⊥
unfolding shard_at
last_copy keeps = gone (keeps 0 0 (omega arith) (omega arith, refl)).1.1
  where
    gone : ◌≡◌ {A = Bool} false true → ⊥
    gone e = cc

-- It may move.
moved_copy : KeepsCopies (shard_at 0) (shard_at 1)
unfolding shard_at
moved_copy server i below stands = (1, (omega arith, by_shard (server == 0) (i == 0) refl stands.1))
  where
    by_shard : (a b : Bool) → (i == 0) ≡ b → is_some (if a && b then Some one_byte else None) ≡ true → is_some (if i == 0 then Some one_byte else None) ≡ true
    by_shard true true e is = λ j. is_some (if e j then Some one_byte else None)
    by_shard true false e is = absurd cc
    by_shard false b e is = absurd cc
