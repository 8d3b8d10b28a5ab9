-- What a plan and its progress answer to the questions which file may get its final name and which may go.
use Rattle.std.specs.Prelude.{ℕ, ◌==◌, ◌&&◌, ◌||◌, not, ltb, Bool, true, false, List, [], ◌∷◌, Option, Some, None}
use Rattle.std.specs.List.{list_any, list_all, range_with_len}
use Rattle.file_names.specs.declared.Kind.{Kind}
use Rattle.file_names.specs.declared.Kind.TheVariants.{Dat, Idx, Cpd, Cpx, Shard, Ecx, Ecj, Vif}
use Rattle.file_names.specs.Names.{max_shards}
use Rattle.stripe_layout.specs.Stripes.{shards_in_all}
use Rattle.shard_table.specs.Table.{Row, place_in}
use Rattle.site_model.specs.Counts.{max_servers}
use Rattle.plan_steps.specs.declared.plan.Plan.{Plan}
use Rattle.plan_steps.specs.declared.plan.FileState.{FileState}
use Rattle.plan_steps.specs.Planned.{is_encode, is_decode}
use Rattle.plan_steps.specs.Walk.{has_file, is_registered_at}

abbrev pub is_nil : List ℕ → Bool
is_nil [] = true
is_nil (x ∷ xs) = false

-- an index stands at some server
unfoldable pub has_an_index : Plan → List FileState → Bool
has_an_index plan states = list_any (λ server. has_file plan states server Idx) (range_with_len 0 max_servers)

-- the shard stands at some server
unfoldable pub has_shard : Plan → List FileState → ℕ → Bool
has_shard plan states i = list_any (λ server. has_file plan states server (Shard i)) (range_with_len 0 max_servers)

-- some shard stands at the server
unfoldable pub has_some_shard : Plan → List FileState → ℕ → Bool
has_some_shard plan states server = list_any (λ i. has_file plan states server (Shard i)) (range_with_len 0 max_shards)

-- the text, the index and an equal journal stand there
unfoldable pub has_beside : Plan → List FileState → ℕ → Bool
has_beside plan states server = has_file plan states server Vif && has_file plan states server Ecx && (is_nil plan.deleted.items || has_file plan states server Ecj)

-- a file that is ready may be registered
abbrev pub may_register : Plan → List FileState → ℕ → Kind → Bool
may_register plan states server Dat = not (has_an_index plan states)
may_register plan states server Idx = is_decode plan.command && not (has_an_index plan states) && is_registered_at states server Dat
may_register plan states server Cpd = false
may_register plan states server Cpx = false
may_register plan states server (Shard i) = has_beside plan states server
may_register plan states server Ecx = true
may_register plan states server Ecj = true
may_register plan states server Vif = true

-- ---- what goes

-- each shard of the plan's ratio stands at some server
unfoldable pub has_all_shards : Plan → List FileState → Bool
has_all_shards plan states = list_all (λ i. has_shard plan states i) (range_with_len 0 (shards_in_all plan.info.geometry))

-- where no shard stands, or the files beside it do too
unfoldable pub is_complete_at : Plan → List FileState → ℕ → Bool
is_complete_at plan states server = not (has_some_shard plan states server) || has_beside plan states server

unfoldable pub is_complete : Plan → List FileState → Bool
is_complete plan states = list_all (λ server. is_complete_at plan states server) (range_with_len 0 max_servers)

-- no index stands at a server other than this
unfoldable pub has_no_index_but : Plan → List FileState → ℕ → ℕ → Bool
has_no_index_but plan states server s = (s == server) || not (has_file plan states s Idx)

unfoldable pub is_only_index : Plan → List FileState → ℕ → Bool
is_only_index plan states server = list_all (λ s. has_no_index_but plan states server s) (range_with_len 0 max_servers)

-- the table has the shard at another server
abbrev pub is_elsewhere : Option ℕ → ℕ → Bool
is_elsewhere None server = false
is_elsewhere (Some other) server = not (other == server)

-- all shards stand, with the files beside them
unfoldable pub is_coded : Plan → List FileState → Bool
is_coded plan states = has_all_shards plan states && is_complete plan states

-- the index of an encode goes at the end
unfoldable pub may_drop_index : Plan → List FileState → ℕ → Bool
may_drop_index plan states server = is_encode plan.command && is_coded plan states && is_only_index plan states server

-- the shard stands at a server other than this
unfoldable pub has_shard_but : Plan → List FileState → ℕ → ℕ → ℕ → Bool
has_shard_but plan states server i other = not (other == server) && has_file plan states other (Shard i)

unfoldable pub stands_elsewhere : Plan → List FileState → ℕ → ℕ → Bool
stands_elsewhere plan states server i = list_any (λ other. has_shard_but plan states server i other) (range_with_len 0 max_servers)

-- the ratio has such a shard
abbrev pub is_in_ratio : Plan → ℕ → Bool
is_in_ratio plan i = ltb i (shards_in_all plan.info.geometry)

-- a shard goes where another server has it, by the table or by the list
unfoldable pub may_drop_shard : Plan → List FileState → Row → ℕ → ℕ → Bool
may_drop_shard plan states row server i = has_an_index plan states || is_elsewhere (place_in row i) server || (is_in_ratio plan i && stands_elsewhere plan states server i)

-- an index stands somewhere, or no shard there
unfoldable pub is_bare : Plan → List FileState → ℕ → Bool
is_bare plan states server = has_an_index plan states || not (has_some_shard plan states server)

-- a file may be removed
abbrev pub may_remove : Plan → List FileState → Row → ℕ → Kind → Bool
may_remove plan states row server Dat = not (has_file plan states server Idx)
may_remove plan states row server Idx = may_drop_index plan states server
may_remove plan states row server Cpd = false
may_remove plan states row server Cpx = false
may_remove plan states row server (Shard i) = may_drop_shard plan states row server i
may_remove plan states row server Ecx = is_bare plan states server
may_remove plan states row server Ecj = is_bare plan states server
may_remove plan states row server Vif = is_bare plan states server
