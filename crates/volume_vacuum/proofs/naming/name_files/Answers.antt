use Rattle.std.proofs.Common.{refl, ◌∙◌}
use Rattle.file_names.specs.declared.Kind.TheVariants.{Cpd, Cpx}
use Rattle.volume_vacuum.specs.Home.{temp_at}
use Rattle.volume_vacuum.proofs.Renames.{named_at, rename_at, renamed_at, first_cpx_temp, second_cpd, third_cpx, names1, names2, names3, names4, renamed4, some_by}
use Rattle.volume_vacuum.proofs.naming.name_files.Goals as goal

pub returns-in_err-rename-clause-effect : goal.returns-in_err-rename-clause-effect
returns-in_err-rename-clause-effect g c = λ told.
    let named = c.requires.named in
    let server = c.args.home.now.server in
    let from1 = named_at server (c.deref.ensures ∙ named.cpd_temp) in
    let to1 = named_at server (c.deref-2.ensures ∙ named.cpd) in
    let first = rename_at from1 to1 (c.rename.ensures.effect told) in
    names1 server c.args.home.now.volume named.small first

pub returns-in_err-rename-2-clause-effect : goal.returns-in_err-rename-2-clause-effect
returns-in_err-rename-2-clause-effect g c = λ told.
    let named = c.requires.named in
    let server = c.args.home.now.server in
    let from1 = named_at server (c.deref.ensures ∙ named.cpd_temp) in
    let to1 = named_at server (c.deref-2.ensures ∙ named.cpd) in
    let first = rename_at from1 to1 (c.rename.ensures.effect told) in
    let first_done = renamed_at from1 to1 (c.in_ok-rename.ensures.done told) in
    let from2 = named_at server (c.deref-3.ensures ∙ named.cpx_temp) in
    let to2 = named_at server (c.deref-4.ensures ∙ named.cpx) in
    let second = rename_at from2 to2 (c.rename-2.ensures.effect told) in
    names2 server c.args.home.now.volume named.small first first_done second

pub returns-in_err-rename-3-clause-effect : goal.returns-in_err-rename-3-clause-effect
returns-in_err-rename-3-clause-effect g c = λ told.
    let named = c.requires.named in
    let server = c.args.home.now.server in
    let from1 = named_at server (c.deref.ensures ∙ named.cpd_temp) in
    let to1 = named_at server (c.deref-2.ensures ∙ named.cpd) in
    let first = rename_at from1 to1 (c.rename.ensures.effect told) in
    let first_done = renamed_at from1 to1 (c.in_ok-rename.ensures.done told) in
    let from2 = named_at server (c.deref-3.ensures ∙ named.cpx_temp) in
    let to2 = named_at server (c.deref-4.ensures ∙ named.cpx) in
    let second = rename_at from2 to2 (c.rename-2.ensures.effect told) in
    let second_done = renamed_at from2 to2 (c.in_ok-rename-2.ensures.done told) in
    let from3 = named_at server (c.deref-5.ensures ∙ named.cpd) in
    let to3 = named_at server (c.deref-6.ensures ∙ named.dat) in
    let third = rename_at from3 to3 (c.rename-3.ensures.effect told) in
    names3 server c.args.home.now.volume named.small first first_done second second_done third

pub returns-in_err-rename-4-clause-effect : goal.returns-in_err-rename-4-clause-effect
returns-in_err-rename-4-clause-effect g c = λ told.
    let named = c.requires.named in
    let server = c.args.home.now.server in
    let from1 = named_at server (c.deref.ensures ∙ named.cpd_temp) in
    let to1 = named_at server (c.deref-2.ensures ∙ named.cpd) in
    let first = rename_at from1 to1 (c.rename.ensures.effect told) in
    let first_done = renamed_at from1 to1 (c.in_ok-rename.ensures.done told) in
    let from2 = named_at server (c.deref-3.ensures ∙ named.cpx_temp) in
    let to2 = named_at server (c.deref-4.ensures ∙ named.cpx) in
    let second = rename_at from2 to2 (c.rename-2.ensures.effect told) in
    let second_done = renamed_at from2 to2 (c.in_ok-rename-2.ensures.done told) in
    let from3 = named_at server (c.deref-5.ensures ∙ named.cpd) in
    let to3 = named_at server (c.deref-6.ensures ∙ named.dat) in
    let third = rename_at from3 to3 (c.rename-3.ensures.effect told) in
    let third_done = renamed_at from3 to3 (c.in_ok-rename-3.ensures.done told) in
    let from4 = named_at server (c.deref-7.ensures ∙ named.cpx) in
    let to4 = named_at server (c.deref-8.ensures ∙ named.idx) in
    let fourth = rename_at from4 to4 (c.rename-4.ensures.effect told) in
    names4 server c.args.home.now.volume named.small first first_done second second_done third third_done fourth

pub returns-clause-effect : goal.returns-clause-effect
returns-clause-effect g c = λ told.
    let named = c.requires.named in
    let server = c.args.home.now.server in
    let from1 = named_at server (c.deref.ensures ∙ named.cpd_temp) in
    let to1 = named_at server (c.deref-2.ensures ∙ named.cpd) in
    let first = rename_at from1 to1 (c.rename.ensures.effect told) in
    let first_done = renamed_at from1 to1 (c.in_ok-rename.ensures.done told) in
    let from2 = named_at server (c.deref-3.ensures ∙ named.cpx_temp) in
    let to2 = named_at server (c.deref-4.ensures ∙ named.cpx) in
    let second = rename_at from2 to2 (c.rename-2.ensures.effect told) in
    let second_done = renamed_at from2 to2 (c.in_ok-rename-2.ensures.done told) in
    let from3 = named_at server (c.deref-5.ensures ∙ named.cpd) in
    let to3 = named_at server (c.deref-6.ensures ∙ named.dat) in
    let third = rename_at from3 to3 (c.rename-3.ensures.effect told) in
    let third_done = renamed_at from3 to3 (c.in_ok-rename-3.ensures.done told) in
    let from4 = named_at server (c.deref-7.ensures ∙ named.cpx) in
    let to4 = named_at server (c.deref-8.ensures ∙ named.idx) in
    let fourth = rename_at from4 to4 (c.rename-4.ensures.effect told) in
    names4 server c.args.home.now.volume named.small first first_done second second_done third third_done fourth

pub returns-clause-done : goal.returns-clause-done
returns-clause-done g c = λ told.
    let named = c.requires.named in
    let server = c.args.home.now.server in
    let from1 = named_at server (c.deref.ensures ∙ named.cpd_temp) in
    let to1 = named_at server (c.deref-2.ensures ∙ named.cpd) in
    let first = rename_at from1 to1 (c.rename.ensures.effect told) in
    let first_done = renamed_at from1 to1 (c.in_ok-rename.ensures.done told) in
    let from2 = named_at server (c.deref-3.ensures ∙ named.cpx_temp) in
    let to2 = named_at server (c.deref-4.ensures ∙ named.cpx) in
    let second = rename_at from2 to2 (c.rename-2.ensures.effect told) in
    let second_done = renamed_at from2 to2 (c.in_ok-rename-2.ensures.done told) in
    let from3 = named_at server (c.deref-5.ensures ∙ named.cpd) in
    let to3 = named_at server (c.deref-6.ensures ∙ named.dat) in
    let third = rename_at from3 to3 (c.rename-3.ensures.effect told) in
    let third_done = renamed_at from3 to3 (c.in_ok-rename-3.ensures.done told) in
    let from4 = named_at server (c.deref-7.ensures ∙ named.cpx) in
    let to4 = named_at server (c.deref-8.ensures ∙ named.idx) in
    let fourth = rename_at from4 to4 (c.rename-4.ensures.effect told) in
    let fourth_done = renamed_at from4 to4 (c.in_ok-rename-4.ensures.done told) in
    renamed4 server c.args.home.now.volume named.small first first_done second second_done third third_done fourth fourth_done

pub rename-requires-clause-stands : goal.rename-requires-clause-stands
rename-requires-clause-stands g c = λ told.
    let named = c.requires.named in
    let server = c.args.home.now.server in
    let from1 = named_at server (c.deref.ensures ∙ named.cpd_temp) in
    some_by (g.T.Site.disk c.args.site.now).files (g.T.Site.disk c.args.site.now).files (temp_at c.args.home.now Cpd) from1 refl (c.requires.dat_stands told)

pub rename-requires-2-clause-stands : goal.rename-requires-2-clause-stands
rename-requires-2-clause-stands g c = λ told.
    let named = c.requires.named in
    let server = c.args.home.now.server in
    let from1 = named_at server (c.deref.ensures ∙ named.cpd_temp) in
    let to1 = named_at server (c.deref-2.ensures ∙ named.cpd) in
    let first = rename_at from1 to1 (c.rename.ensures.effect told) in
    let first_done = renamed_at from1 to1 (c.in_ok-rename.ensures.done told) in
    let from2 = named_at server (c.deref-3.ensures ∙ named.cpx_temp) in
    some_by (g.T.Site.disk c.args.site.now).files (g.T.Site.disk c.rename.new.self).files (temp_at c.args.home.now Cpx) from2 (first_cpx_temp server c.args.home.now.volume named.small first) (c.requires.idx_stands told)

pub rename-requires-3-clause-stands : goal.rename-requires-3-clause-stands
rename-requires-3-clause-stands g c = λ told.
    let named = c.requires.named in
    let server = c.args.home.now.server in
    let from1 = named_at server (c.deref.ensures ∙ named.cpd_temp) in
    let to1 = named_at server (c.deref-2.ensures ∙ named.cpd) in
    let first = rename_at from1 to1 (c.rename.ensures.effect told) in
    let first_done = renamed_at from1 to1 (c.in_ok-rename.ensures.done told) in
    let from2 = named_at server (c.deref-3.ensures ∙ named.cpx_temp) in
    let to2 = named_at server (c.deref-4.ensures ∙ named.cpx) in
    let second = rename_at from2 to2 (c.rename-2.ensures.effect told) in
    let second_done = renamed_at from2 to2 (c.in_ok-rename-2.ensures.done told) in
    let from3 = named_at server (c.deref-5.ensures ∙ named.cpd) in
    some_by (g.T.Site.disk c.args.site.now).files (g.T.Site.disk c.rename-2.new.self).files (temp_at c.args.home.now Cpd) from3 (second_cpd server c.args.home.now.volume named.small first first_done second) (c.requires.dat_stands told)

pub rename-requires-4-clause-stands : goal.rename-requires-4-clause-stands
rename-requires-4-clause-stands g c = λ told.
    let named = c.requires.named in
    let server = c.args.home.now.server in
    let from1 = named_at server (c.deref.ensures ∙ named.cpd_temp) in
    let to1 = named_at server (c.deref-2.ensures ∙ named.cpd) in
    let first = rename_at from1 to1 (c.rename.ensures.effect told) in
    let first_done = renamed_at from1 to1 (c.in_ok-rename.ensures.done told) in
    let from2 = named_at server (c.deref-3.ensures ∙ named.cpx_temp) in
    let to2 = named_at server (c.deref-4.ensures ∙ named.cpx) in
    let second = rename_at from2 to2 (c.rename-2.ensures.effect told) in
    let second_done = renamed_at from2 to2 (c.in_ok-rename-2.ensures.done told) in
    let from3 = named_at server (c.deref-5.ensures ∙ named.cpd) in
    let to3 = named_at server (c.deref-6.ensures ∙ named.dat) in
    let third = rename_at from3 to3 (c.rename-3.ensures.effect told) in
    let third_done = renamed_at from3 to3 (c.in_ok-rename-3.ensures.done told) in
    let from4 = named_at server (c.deref-7.ensures ∙ named.cpx) in
    some_by (g.T.Site.disk c.args.site.now).files (g.T.Site.disk c.rename-3.new.self).files (temp_at c.args.home.now Cpx) from4 (third_cpx server c.args.home.now.volume named.small first first_done second second_done third) (c.requires.idx_stands told)
