use Rattle.std.proofs.Common.{◌∙◌, []}
use Rattle.plan_steps.specs.Members.{get_front}
use Rattle.plan_run.proofs.tests.Run.carry_out.Goals as goal

-- each call leaves as many servers, since the file stands in the list
pub invariant_of-self-in-Put-clause-servers : goal.invariant_of-self-in-Put-clause-servers
invariant_of-self-in-Put-clause-servers g c = (c.put_file.ensures.runs c.requires.file c.requires.at).runs.servers ∙ c.args.self.now.servers

pub invariant_of-self-in-Sync-clause-servers : goal.invariant_of-self-in-Sync-clause-servers
invariant_of-self-in-Sync-clause-servers g c = (c.sync_file.ensures.runs c.requires.file c.requires.at).blamed.runs.servers ∙ c.args.self.now.servers

pub invariant_of-self-in-Register-clause-servers : goal.invariant_of-self-in-Register-clause-servers
invariant_of-self-in-Register-clause-servers g c = (c.register_file.ensures.runs c.requires.file c.requires.at).blamed.runs.servers ∙ c.args.self.now.servers

pub invariant_of-self-in-Clear-clause-servers : goal.invariant_of-self-in-Clear-clause-servers
invariant_of-self-in-Clear-clause-servers g c = (c.clear_file.ensures.runs c.requires.file c.requires.at).runs.servers ∙ c.args.self.now.servers

-- `Grow` has no arm of its own, since a test stands before it
pub invariant_of-self-clause-servers : goal.invariant_of-self-clause-servers
invariant_of-self-clause-servers g c = (c.grow_file.ensures.runs c.requires.file c.requires.at).servers ∙ c.args.self.now.servers

pub put_file-requires-clause-there : goal.put_file-requires-clause-there
put_file-requires-clause-there g c = (get_front c.args.self.now.progress.files.items [] 1 c.requires.file c.requires.at).1
