use Rattle.dat_volume.proofs.Cuts.{both_cut, places_differ}
use Rattle.dat_volume.proofs.cutting.cut_both.Goals as goal

pub returns-in_err-cut_longer-2-clause-effect : goal.returns-in_err-cut_longer-2-clause-effect
returns-in_err-cut_longer-2-clause-effect g c = λ told. both_cut (places_differ c.args.server c.args.dat.now c.args.idx.now c.requires.apart) (c.cut_longer.ensures.effect told) (c.cut_longer-2.ensures.effect told)

pub returns-clause-effect : goal.returns-clause-effect
returns-clause-effect g c = λ told. both_cut (places_differ c.args.server c.args.dat.now c.args.idx.now c.requires.apart) (c.cut_longer.ensures.effect told) (c.cut_longer-2.ensures.effect told)
