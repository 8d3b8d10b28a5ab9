use Rattle.std.proofs.Common.{◌∙◌, ap}
use Rattle.std.proofs.lemmas.Bool.{false≢true}
use Rattle.std.specs.Option.{option_map}
use Rattle.std.specs.FinMap as map
use Rattle.needle_map.specs.Entries.{entry_at}
use Rattle.needle_map.proofs.Places.{get-by_id, put_map}
use Rattle.needle_map.proofs.NeedleMap.put.Goals as goal

-- memory is wanted only for an id that isn't there
pub returns-in_err-insert-clause-overwrite_succeeds : goal.returns-in_err-insert-clause-overwrite_succeeds
returns-in_err-insert-clause-overwrite_succeeds c = λ there.
    let none = get-by_id c.self.inside.places.entries c.args.entry.id ∙ ap (option_map (entry_at c.args.entry.id)) c.in_err-insert.ensures.absent in
    absurd (false≢true (rw (← c.self.view_is, none) at there))

pub returns-clause-ok : goal.returns-clause-ok
returns-clause-ok c =
    let put = put_map c.self.inside.places.entries c.insert.new.self.entries c.args.entry.id c.place_of.result c.in_ok-insert.ensures.updates.0 in
    rw (← c.self.view_is) (put ∙ ap (map.insert _ c.args.entry.id) c.place_of.ensures)
