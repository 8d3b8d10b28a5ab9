use Rattle.std.proofs.Common.{sym, ◌∙◌, ap}
use Rattle.std.specs.Option.{option_map, option_copied}
use Rattle.needle_map.specs.Entries.{entry_at}
use Rattle.needle_map.proofs.Places.{get-by_id}
use Rattle.needle_map.proofs.NeedleMap.get.Goals as goal

pub returns-in_err-place-clause-value : goal.returns-in_err-place-clause-value
returns-in_err-place-clause-value c =
    let found = get-by_id c.self.inside.places.entries c.args.id ∙ ap (option_map (entry_at c.args.id)) (sym c.get.ensures.value ∙ ap option_copied c.in_err-place.was) in
    c.from_residual.ensures ∙ sym (rw (← c.self.view_is) found)

pub returns-clause-value : goal.returns-clause-value
returns-clause-value c =
    let found = get-by_id c.self.inside.places.entries c.args.id ∙ ap (option_map (entry_at c.args.id)) (sym c.get.ensures.value ∙ ap option_copied c.in_ok-place.was) in
    rw (← c.self.view_is, c.entry_at.ensures) (sym found)
