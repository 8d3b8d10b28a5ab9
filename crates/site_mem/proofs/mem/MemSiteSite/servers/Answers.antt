use Rattle.std.proofs.Common.{subst}
use Rattle.site_model.specs.Disk.{HasFirmFront, AreBytes, bytes_of}
use Rattle.site_mem.specs.Held.{disk_held}
use Rattle.site_mem.proofs.Calling.{front_of, bytes_kept, nowhere_else}
use Rattle.site_mem.proofs.Seeing.{no_file}
use Rattle.site_mem.proofs.mem.MemSiteSite.servers.Goals as goal

pub returns-clause-possible : goal.returns-clause-possible
unfolding disk_held
returns-clause-possible c = λ told. record {
  nowhere_else = λ k far. no_file _ (nowhere_else c.args.self.now.servers c.args.self.now.history.entries.items c.args.self.now.history.lost.since c.args.self.now.within k far);
  firm_front = λ k. subst (λ f. HasFirmFront f) (c.args.self.now.history.files k) (front_of c.args.self.now.history.contents.files.items k);
  bytes = λ k. subst (λ f. AreBytes (bytes_of f)) (c.args.self.now.history.files k) (bytes_kept c.args.self.now.history.contents.files.items k);
}

pub returns-clause-counts : goal.returns-clause-counts
returns-clause-counts c = record {
  faults = c.args.self.now.tally.faults_fit;
  write_faults = c.args.self.now.tally.write_faults_fit;
  say_faults = c.args.self.now.tally.say_faults_fit;
  calls = c.args.self.now.tally.calls_fit;
}
