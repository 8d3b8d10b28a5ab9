use Rattle.std.proofs.Common.{◌≡◌, ℕ, map, string_bytes, inl, None, refl, sym, subst}
use Rattle.site_model.specs.Disk.{Disk, IsSettled}
use Rattle.image_meaning.specs.Files.{contents}
use Rattle.image_meaning.specs.Meaning.{meaning}
use Rattle.image_meaning.specs.Sound.{IsSound}
use Rattle.site_recovery.specs.Recovering.{HasNoCoded}
use Rattle.weed_shell.specs.Words.{served_settings}
use Rattle.promise_uses.proofs.Starting.{empty_sound, empty_settled, empty_means, empty_uncoded, needle_stays, on_some}
use Rattle.promise_uses.proofs.Stamping.{needle_has_time}
use Rattle.promise_uses.proofs.first_run.run_from_nothing.Goals as goal

pub returns-clause-answered : goal.returns-clause-answered
returns-clause-answered c =
    on_some (served_settings (map string_bytes c.args.words.now)) (λ s promise. promise (subst (λ (d : Disk). IsSound (contents d.files)) (sym c.requires.fresh) empty_sound)) (c.weed.ensures.headline refl)

pub returns-clause-needle : goal.returns-clause-needle
returns-clause-needle c = on_some (served_settings (map string_bytes c.args.words.now)) (λ s promise. needle_stays _
    (promise (subst (λ (d : Disk). IsSound (contents d.files)) (sym c.requires.fresh) empty_sound))
    (subst (λ (d : Disk). IsSettled d.files) (sym c.requires.fresh) empty_settled)
    (subst (λ (d : Disk). (v : ℕ) → (meaning c.args.site.now.servers s.limit (contents d.files)).volumes v ≡ None) (sym c.requires.fresh) empty_means)) (c.weed.ensures.headline refl)

pub returns-clause-ends : goal.returns-clause-ends
returns-clause-ends c = λ served small calm. c.weed.ensures.complete refl served
    (subst (λ (d : Disk). IsSound (contents d.files)) (sym c.requires.fresh) empty_sound)
    (subst (λ (d : Disk). HasNoCoded d.files) (sym c.requires.fresh) empty_uncoded)
    (record { devices = calm.devices; says = calm.says; source = calm.source; taken = inl small })

pub returns-clause-stamped : goal.returns-clause-stamped
returns-clause-stamped c = on_some (served_settings (map string_bytes c.args.words.now)) (λ s stamps.
    let is = stamps (subst (λ (d : Disk). IsSound (contents d.files)) (sym c.requires.fresh) empty_sound) in
    needle_has_time _ is.0 c.args.clock.now c.weed.new.clock is.2 is.1 (subst (λ (d : Disk). IsSettled d.files) (sym c.requires.fresh) empty_settled)) (c.weed.ensures.stamps refl)
