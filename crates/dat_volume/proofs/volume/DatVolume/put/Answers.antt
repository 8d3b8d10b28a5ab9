use Rattle.std.proofs.Common.{ℕ, List, ◌++◌, false, sym, ◌∙◌, ap, arith}
use Rattle.volume_forms.specs.declared.Entry.{Entry}
use Rattle.volume_forms.specs.Forms.{entry_bytes}
use Rattle.needle_record.specs.Spelling.{canonical}
use Rattle.needle_record.specs.Records.{Index}
use Rattle.dat_volume.proofs.Apart.{index_apart}
use Rattle.dat_volume.proofs.Making.{here}
use Rattle.dat_volume.proofs.Putting.{puts_none, puts, is_put, put_calls, at_ok}
use Rattle.dat_volume.proofs.Restoring.{again, in_place}
use Rattle.dat_volume.proofs.volume.DatVolume.put.Goals as goal

pub returns-in_err-dat-clause-effect : goal.returns-in_err-dat-clause-effect
returns-in_err-dat-clause-effect g c = λ told. puts_none _ _ _ _ _

pub returns-in_err-idx-clause-effect : goal.returns-in_err-idx-clause-effect
returns-in_err-idx-clause-effect g c = λ told. puts_none _ _ _ _ _

pub returns-in_err-write_record-clause-effect : goal.returns-in_err-write_record-clause-effect
returns-in_err-write_record-clause-effect g c = λ told. puts_none _ _ _ _ _

pub returns-in_err-enter-clause-effect : goal.returns-in_err-enter-clause-effect
returns-in_err-enter-clause-effect g c = λ told. puts_none _ _ _ _ _

pub append_record-written-requires-clause-differ : goal.append_record-written-requires-clause-differ
append_record-written-requires-clause-differ g c same =
    index_apart c.args.self.now.volume false false (omega (arith, c.fits-self)) _ _ (c.deref-2.ensures ∙ c.in_ok-idx.ensures) (c.deref.ensures ∙ c.in_ok-dat.ensures) (sym same)

pub take_back-requires-clause-stands : goal.take_back-requires-clause-stands
take_back-requires-clause-stands g c = in_place c.args.self.now.index c.entry_of-entry.result c.args.needle.now.content (ap (λ (e : Entry). e.id) c.entry_of-entry.ensures) c.get-earlier.ensures.value c.in_ok-enter.ensures.ok

pub returns-then-is_err-clause-err : goal.returns-then-is_err-clause-err
returns-then-is_err-clause-err g c = ap (λ (i : Index). record { server = c.args.self.now.server; volume = c.args.self.now.volume; index = i; used = c.args.self.now.used })
    (c.take_back.ensures ∙ again c.args.self.now.index c.entry_of-entry.result c.args.needle.now.content (ap (λ (e : Entry). e.id) c.entry_of-entry.ensures) c.get-earlier.ensures.value c.in_ok-enter.ensures.ok)

pub returns-then-is_err-clause-effect : goal.returns-then-is_err-clause-effect
returns-then-is_err-clause-effect g c = λ told.
    let volume = c.args.self.now in
    let bytes = c.deref-3.ensures.value ∙ c.in_ok-write_record.ensures.ok ∙ ap (λ (l : List ℕ). l ++ canonical c.args.needle.now) c.new-record.ensures.items in
    let entry = c.write_entry.ensures.spelled ∙ ap entry_bytes c.entry_of-entry.ensures in
    puts volume.server volume.volume volume.used c.args.needle.now c.numbers_have_room.ensures c.requires.fits c.requires.room
    (here volume.server (c.deref.ensures ∙ c.in_ok-dat.ensures)) (here volume.server (c.deref-2.ensures ∙ c.in_ok-idx.ensures)) bytes entry (c.append_record-written.ensures.effect told)

pub returns-then-is_err-clause-calls : goal.returns-then-is_err-clause-calls
returns-then-is_err-clause-calls g c = λ short.
    let bytes = c.deref-3.ensures.value ∙ c.in_ok-write_record.ensures.ok ∙ ap (λ (l : List ℕ). l ++ canonical c.args.needle.now) c.new-record.ensures.items in
    put_calls c.args.needle.now c.entry_of-entry.result _ _ c.numbers_have_room.ensures c.requires.fits bytes c.write_entry.ensures.spelled c.append_record-written.ensures.calls short

pub returns-clause-effect : goal.returns-clause-effect
returns-clause-effect g c = λ told.
    let volume = c.args.self.now in
    let bytes = c.deref-3.ensures.value ∙ c.in_ok-write_record.ensures.ok ∙ ap (λ (l : List ℕ). l ++ canonical c.args.needle.now) c.new-record.ensures.items in
    let entry = c.write_entry.ensures.spelled ∙ ap entry_bytes c.entry_of-entry.ensures in
    puts volume.server volume.volume volume.used c.args.needle.now c.numbers_have_room.ensures c.requires.fits c.requires.room
    (here volume.server (c.deref.ensures ∙ c.in_ok-dat.ensures)) (here volume.server (c.deref-2.ensures ∙ c.in_ok-idx.ensures)) bytes entry (c.append_record-written.ensures.effect told)

pub returns-clause-done : goal.returns-clause-done
returns-clause-done g c = λ told.
    let volume = c.args.self.now in
    let bytes = c.deref-3.ensures.value ∙ c.in_ok-write_record.ensures.ok ∙ ap (λ (l : List ℕ). l ++ canonical c.args.needle.now) c.new-record.ensures.items in
    let entry = c.write_entry.ensures.spelled ∙ ap entry_bytes c.entry_of-entry.ensures in
    is_put volume.server volume.volume volume.used c.args.needle.now c.numbers_have_room.ensures c.requires.fits c.requires.room
    (here volume.server (c.deref.ensures ∙ c.in_ok-dat.ensures)) (here volume.server (c.deref-2.ensures ∙ c.in_ok-idx.ensures)) bytes entry (at_ok c.append_record-written.result (sym c.is_err.ensures.value ∙ c.if-is_err.false) c.append_record-written.ensures.done told)

pub returns-clause-calls : goal.returns-clause-calls
returns-clause-calls g c = λ short.
    let bytes = c.deref-3.ensures.value ∙ c.in_ok-write_record.ensures.ok ∙ ap (λ (l : List ℕ). l ++ canonical c.args.needle.now) c.new-record.ensures.items in
    put_calls c.args.needle.now c.entry_of-entry.result _ _ c.numbers_have_room.ensures c.requires.fits bytes c.write_entry.ensures.spelled c.append_record-written.ensures.calls short
