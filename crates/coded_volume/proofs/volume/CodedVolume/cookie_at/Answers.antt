use Rattle.std.proofs.Common.{◌≤◌, length, sym, ◌∙◌, ap, arith}
use Rattle.wire_num.specs.Numbers.{number_of}
use Rattle.dat_volume.specs.Needles.{bytes_from}
use Rattle.dat_volume.proofs.Heads.{head_number}
use Rattle.coded_volume.specs.Agrees.{own_dat}
use Rattle.coded_volume.proofs.volume.CodedVolume.cookie_at.Goals as goal

pub returns-clause-cookie : goal.returns-clause-cookie
returns-clause-cookie g c = λ told agrees.
    let front = c.in_ok-bytes.ensures.front in
    let long : 4 ≤ length c.in_ok-bytes.bytes.items = omega (arith, front.long) in
    c.read_header.ensures.cookie ∙ ap (number_of 4) c.deref.ensures.value
    ∙ sym (head_number 4 16 (bytes_from (own_dat c.args.self.now (g.T.Site.disk c.args.site.now).files) c.args.entry) c.in_ok-bytes.bytes.items long (front.same told agrees))
