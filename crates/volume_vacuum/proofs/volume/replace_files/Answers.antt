use Rattle.std.proofs.Common.{ℕ, List, ◌++◌, Some, sym, ◌∙◌, ap}
use Rattle.site_model.specs.Disk.{Place, firm_file}
use Rattle.file_names.specs.declared.Kind.TheVariants.{Dat, Cpd}
use Rattle.volume_vacuum.specs.Copies.{copied}
use Rattle.volume_vacuum.specs.Home.{own_dat}
use Rattle.volume_vacuum.specs.Laws.Apart.{temp_apart}
use Rattle.volume_vacuum.proofs.Copied.{touch_at}
use Rattle.volume_vacuum.proofs.Renames.{named_at}
use Rattle.volume_vacuum.proofs.Whole.{first_temp, both_temps, replaces_temps, replaces_all, are_replaced}
use Rattle.volume_vacuum.proofs.volume.replace_files.Goals as goal

pub write_dat-requires-clause-apart : goal.write_dat-requires-clause-apart
write_dat-requires-clause-apart g c = λ same.
    let home = c.args.home.now in
    let named = c.requires.named in
    temp_apart home.volume home.server home.server Dat Cpd named.small tt tt (named_at home.server (sym named.dat ∙ same ∙ named.cpd_temp))

pub returns-in_err-write_dat-clause-effect : goal.returns-in_err-write_dat-clause-effect
returns-in_err-write_dat-clause-effect g c = λ told.
    let home = c.args.home.now in
    let named = c.requires.named in
    let first = touch_at (named_at home.server named.cpd_temp) (c.write_dat.ensures.effect told) in
    replaces_temps home.server home.volume named.small (first_temp home.server home.volume named.small first) _ _

pub returns-in_err-write_idx-clause-effect : goal.returns-in_err-write_idx-clause-effect
returns-in_err-write_idx-clause-effect g c = λ told.
    let home = c.args.home.now in
    let named = c.requires.named in
    let first = touch_at (named_at home.server named.cpd_temp) (c.write_dat.ensures.effect told) in
    let second = touch_at (named_at home.server named.cpx_temp) (c.write_idx.ensures.effect told) in
    replaces_temps home.server home.volume named.small (both_temps home.server home.volume named.small first second) _ _

pub returns-in_err-name_files-clause-effect : goal.returns-in_err-name_files-clause-effect
returns-in_err-name_files-clause-effect g c = λ told.
    let home = c.args.home.now in
    let named = c.requires.named in
    let first = touch_at (named_at home.server named.cpd_temp) (c.write_dat.ensures.effect told) in
    let second = touch_at (named_at home.server named.cpx_temp) (c.write_idx.ensures.effect told) in
    let dat_done =
    ap (λ (k : Place). (g.T.Site.disk c.write_dat.new.site).files k) (sym (named_at home.server named.cpd_temp)) ∙ c.in_ok-write_dat.ensures.done told
    ∙ ap (λ (front : List ℕ). Some (firm_file (front ++ copied (own_dat (g.T.Site.disk c.args.site.now).files home) c.args.entries.now))) c.raise.ensures in
    let idx_done = ap (λ (k : Place). (g.T.Site.disk c.write_idx.new.site).files k) (sym (named_at home.server named.cpx_temp)) ∙ c.in_ok-write_idx.ensures.done told in
    replaces_all home.server home.volume named.small first second dat_done idx_done (c.name_files.ensures.effect told)

pub returns-clause-effect : goal.returns-clause-effect
returns-clause-effect g c = λ told.
    let home = c.args.home.now in
    let named = c.requires.named in
    let first = touch_at (named_at home.server named.cpd_temp) (c.write_dat.ensures.effect told) in
    let second = touch_at (named_at home.server named.cpx_temp) (c.write_idx.ensures.effect told) in
    let dat_done =
    ap (λ (k : Place). (g.T.Site.disk c.write_dat.new.site).files k) (sym (named_at home.server named.cpd_temp)) ∙ c.in_ok-write_dat.ensures.done told
    ∙ ap (λ (front : List ℕ). Some (firm_file (front ++ copied (own_dat (g.T.Site.disk c.args.site.now).files home) c.args.entries.now))) c.raise.ensures in
    let idx_done = ap (λ (k : Place). (g.T.Site.disk c.write_idx.new.site).files k) (sym (named_at home.server named.cpx_temp)) ∙ c.in_ok-write_idx.ensures.done told in
    replaces_all home.server home.volume named.small first second dat_done idx_done (c.name_files.ensures.effect told)

pub returns-clause-done : goal.returns-clause-done
returns-clause-done g c = λ told.
    let home = c.args.home.now in
    let named = c.requires.named in
    let first = touch_at (named_at home.server named.cpd_temp) (c.write_dat.ensures.effect told) in
    let second = touch_at (named_at home.server named.cpx_temp) (c.write_idx.ensures.effect told) in
    let dat_done =
    ap (λ (k : Place). (g.T.Site.disk c.write_dat.new.site).files k) (sym (named_at home.server named.cpd_temp)) ∙ c.in_ok-write_dat.ensures.done told
    ∙ ap (λ (front : List ℕ). Some (firm_file (front ++ copied (own_dat (g.T.Site.disk c.args.site.now).files home) c.args.entries.now))) c.raise.ensures in
    let idx_done = ap (λ (k : Place). (g.T.Site.disk c.write_idx.new.site).files k) (sym (named_at home.server named.cpx_temp)) ∙ c.in_ok-write_idx.ensures.done told in
    are_replaced home.server home.volume named.small first second dat_done idx_done (c.in_ok-name_files.ensures.done told)
