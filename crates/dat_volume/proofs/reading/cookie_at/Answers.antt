use Rattle.std.proofs.Common.{◌≤◌, length, sym, ◌∙◌, ap, arith}
use Rattle.wire_num.specs.Numbers.{number_of}
use Rattle.site_model.specs.Disk.{bytes_of}
use Rattle.dat_volume.specs.Needles.{bytes_from}
use Rattle.dat_volume.proofs.Heads.{head_number}
use Rattle.dat_volume.proofs.reading.cookie_at.Goals as goal

pub returns-clause-answer : goal.returns-clause-answer
returns-clause-answer g c = λ told.
    let dat = bytes_of ((g.T.Site.disk c.args.site.now).files (c.args.server, c.args.name.now)) in
    let read = c.in_ok-bytes.ensures.answer told in
    let long : 4 ≤ length c.in_ok-bytes.bytes.items = omega (arith, c.in_ok-bytes.ensures.front.0) in (
      read.1,
      c.read_header.ensures.cookie ∙ ap (number_of 4) c.deref.ensures.value
          ∙ sym (head_number 4 16 (bytes_from dat c.args.entry) c.in_ok-bytes.bytes.items long read.0),
    )
