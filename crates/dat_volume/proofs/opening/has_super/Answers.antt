use Rattle.std.proofs.Common.{take, drop, ◌∙◌, ap, arith}
use Rattle.site_model.specs.Disk.{Disk, bytes_of}
use Rattle.dat_volume.proofs.Blocks.{short_block, block_read}
use Rattle.dat_volume.proofs.opening.has_super.Goals as goal

pub returns-then-branch-lt-SUPER_END-clause-block : goal.returns-then-branch-lt-SUPER_END-clause-block
returns-then-branch-lt-SUPER_END-clause-block g c = λ told.
    short_block (bytes_of ((g.T.Site.disk c.args.site.now).files (c.args.server, c.args.dat.now))) (omega (arith, c.in_ok-size_of.ensures.size told, c.if-branch-lt-SUPER_END.true))

pub returns-in-Ok-clause-block : goal.returns-in-Ok-clause-block
returns-in-Ok-clause-block g c = λ told.
    c.is_ok.ensures.value
    ∙ block_read c.read_super.result c.read.new.out (bytes_of ((g.T.Site.disk c.args.site.now).files (c.args.server, c.args.dat.now))) c.read_super.ensures.fault
    (c.in-Ok.ensures.bytes told ∙ ap (λ (d : Disk). take 8 (drop 0 (bytes_of (d.files (c.args.server, c.args.dat.now))))) (c.size_of.ensures.same told))
    (omega (arith, c.in_ok-size_of.ensures.size told, c.if-branch-lt-SUPER_END.false))
