use Rattle.plan_run.proofs.Pairs.{pair_put}
use Rattle.plan_run.proofs.pieces.put_pair.Goals as goal

pub returns-clause-pair : goal.returns-clause-pair
returns-clause-pair c = (pair_put c.args.room.now c.put_u64.new.out c.put_u64-2.new.out c.args.at c.args.id c.put_u64.ensures c.put_u64-2.ensures c.requires).0

pub returns-clause-size : goal.returns-clause-size
returns-clause-size c = (pair_put c.args.room.now c.put_u64.new.out c.put_u64-2.new.out c.args.at c.args.id c.put_u64.ensures c.put_u64-2.ensures c.requires).1
