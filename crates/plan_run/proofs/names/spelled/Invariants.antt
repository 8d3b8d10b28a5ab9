use Rattle.std.proofs.Common.{◌≡◌, map, take}
use Rattle.std.specs.String.{string_bytes}
use Rattle.plan_steps.specs.Order.{names_of}
use Rattle.plan_run.specs.Names.{name_for}
use Rattle.plan_run.proofs.names.spelled.Given as goal

abbrev pub invariant-loop-file : goal.invariant-loop-file
invariant-loop-file l = map string_bytes l.names.items ≡ map (name_for l.volume l.temp) (names_of (take l.file-index l.files))
