use Rattle.std.proofs.Common.{◌≡◌, ℕ, length, take, Result, Err, sym, ◌∙◌, ap, subst}
use Rattle.site_model.specs.Disk.{bytes_of}
use Rattle.needle_record.specs.declared.Record.{Record}
use Rattle.needle_record.specs.declared.NeedleFault.{NeedleFault}
use Rattle.needle_record.specs.Given.{Gives}
use Rattle.needle_record.specs.Reading.{needle_at}
use Rattle.dat_volume.specs.Needles.{bytes_from}
use Rattle.dat_volume.proofs.Faults.{given_fault}
use Rattle.dat_volume.proofs.Heads.{own_bytes, own_length, head_whole, reading_told}
use Rattle.dat_volume.proofs.reading.record_at.Goals as goal

pub returns-in-Ok-clause-answer : goal.returns-in-Ok-clause-answer
returns-in-Ok-clause-answer g c = λ told.
    let dat = bytes_of ((g.T.Site.disk c.args.site.now).files (c.args.server, c.args.name.now)) in
    let place = c.place_of-place in
    let front = c.in_ok-bytes.ensures.front in
    let read = c.in_ok-bytes.ensures.answer told in (
      read.1,
      own_bytes dat c.in_ok-bytes.bytes.items c.args.entry front.1 (front.0 ∙ place.ensures.length) (read.0 ∙ ap (λ (n : ℕ). take n (bytes_from dat c.args.entry)) place.ensures.length)
          ∙ own_length c.in_ok-bytes.bytes.items c.in-Ok.record c.in-Ok.field-0-1 c.in-Ok.ensures.exact,
    )

pub damage-requires : goal.damage-requires
damage-requires g c =
    let front = c.in_ok-bytes.ensures.front in
    given_fault c.in_ok-bytes.bytes.items c.in-Err.fault
    (head_whole c.in_ok-bytes.bytes.items c.args.entry front.1 (front.0 ∙ c.place_of-place.ensures.length))
    c.in-Err.ensures.exact

pub returns-in-Err-clause-answer : goal.returns-in-Err-clause-answer
returns-in-Err-clause-answer g c =
    let dat = bytes_of ((g.T.Site.disk c.args.site.now).files (c.args.server, c.args.name.now)) in
    let place = c.place_of-place in
    let front = c.in_ok-bytes.ensures.front in (
      c.damage.ensures.differ,
      λ told.
          let read = c.in_ok-bytes.ensures.answer told in
          let same : needle_at (bytes_from dat c.args.entry) ≡ needle_at c.in_ok-bytes.bytes.items =
          own_bytes dat c.in_ok-bytes.bytes.items c.args.entry front.1 (front.0 ∙ place.ensures.length) (read.0 ∙ ap (λ (n : ℕ). take n (bytes_from dat c.args.entry)) place.ensures.length) in
          reading_told dat c.args.entry c.in-Err.fault c.damage.result read.1
          (subst (λ (r : Result (Record × ℕ) NeedleFault). Gives (Err c.in-Err.fault) r) (sym same) c.in-Err.ensures.exact)
          c.damage.ensures.told,
    )
