use Rattle.script_text.proofs.Searches.{found, missed}
use Rattle.script_text.proofs.words.length_before.Goals as goal

pub returns-in-Some-clause-count : goal.returns-in-Some-clause-count
returns-in-Some-clause-count c = found c.args.byte c.args.text.now c.in-Some.at c.in-Some.ensures

pub returns-in-None-clause-count : goal.returns-in-None-clause-count
returns-in-None-clause-count c = missed c.args.byte c.args.text.now c.in-None.ensures
