use Rattle.std.proofs.Common.{◌∙◌}
use Rattle.whole_file.proofs.Renaming.{temp_differs}
use Rattle.whole_file.proofs.whole.write_whole.Goals as goal

pub replace-requires-clause-differ : goal.replace-requires-clause-differ
replace-requires-clause-differ g c =
    temp_differs c.args.volume c.args.kind c.ranges.volume.fits c.requires.kind _ _ (c.deref.ensures ∙ c.in_ok-last.ensures) (c.deref-2.ensures ∙ c.in_ok-temp.ensures)
