use Rattle.std.proofs.Common.{◌∙◌, sym, subst}
use Rattle.dat_volume.specs.NewFiles.{FourPlaces, AreApart}
use Rattle.dat_volume.proofs.Apart.{four_apart}
use Rattle.dat_volume.proofs.Creating.{named, new_block, creates, created}
use Rattle.dat_volume.proofs.volume.DatVolume.create.Goals as goal

pub make_files-requires-clause-apart : goal.make_files-requires-clause-apart
make_files-requires-clause-apart g c =
    let is = named c.args.server c.args.volume (record { dat = c.in_ok-final_name.field-0; idx = c.in_ok-final_name-2.field-0; dat_temp = c.in_ok-temp_name.field-0; idx_temp = c.in_ok-temp_name-2.field-0 })
    c.in_ok-final_name.ensures c.in_ok-final_name-2.ensures c.in_ok-temp_name.ensures c.in_ok-temp_name-2.ensures in
    subst (λ (f : FourPlaces). AreApart f) (sym is) (four_apart c.args.server c.args.volume c.ranges.volume.fits)

pub returns-in-Ok-clause-effect : goal.returns-in-Ok-clause-effect
returns-in-Ok-clause-effect g c = λ told.
    let is = named c.args.server c.args.volume (record { dat = c.in_ok-final_name.field-0; idx = c.in_ok-final_name-2.field-0; dat_temp = c.in_ok-temp_name.field-0; idx_temp = c.in_ok-temp_name-2.field-0 })
    c.in_ok-final_name.ensures c.in_ok-final_name-2.ensures c.in_ok-temp_name.ensures c.in_ok-temp_name-2.ensures in
    creates c.args.server c.args.volume is (c.write_super.ensures.spelled ∙ new_block) (c.make_files.ensures.effect told)

pub returns-in-Ok-clause-done : goal.returns-in-Ok-clause-done
returns-in-Ok-clause-done g c = λ told none.
    let is = named c.args.server c.args.volume (record { dat = c.in_ok-final_name.field-0; idx = c.in_ok-final_name-2.field-0; dat_temp = c.in_ok-temp_name.field-0; idx_temp = c.in_ok-temp_name-2.field-0 })
    c.in_ok-final_name.ensures c.in_ok-final_name-2.ensures c.in_ok-temp_name.ensures c.in_ok-temp_name-2.ensures in
    created c.args.server c.args.volume is (c.write_super.ensures.spelled ∙ new_block) none (c.in-Ok.ensures.done told)

pub returns-clause-effect : goal.returns-clause-effect
returns-clause-effect g c = λ told.
    let is = named c.args.server c.args.volume (record { dat = c.in_ok-final_name.field-0; idx = c.in_ok-final_name-2.field-0; dat_temp = c.in_ok-temp_name.field-0; idx_temp = c.in_ok-temp_name-2.field-0 })
    c.in_ok-final_name.ensures c.in_ok-final_name-2.ensures c.in_ok-temp_name.ensures c.in_ok-temp_name-2.ensures in
    creates c.args.server c.args.volume is (c.write_super.ensures.spelled ∙ new_block) (c.make_files.ensures.effect told)
