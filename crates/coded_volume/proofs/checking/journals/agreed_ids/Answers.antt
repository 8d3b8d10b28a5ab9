use Rattle.std.proofs.Common.{ℕ, List, ◌≡◌, ◌<◌, length, ◌∙◌, refl, ap, subst, sym, arith}
use Rattle.std.specs.List.{All}
use Rattle.std.proofs.lemmas.List.{get_or_default}
use Rattle.ecj_journal.specs.declared.reading.Journal.{Journal}
use Rattle.coded_volume.specs.Checking.{Follows, AreKnown, AgreeOn}
use Rattle.coded_volume.proofs.Longest.{agree_at}
use Rattle.coded_volume.proofs.checking.journals.agreed_ids.Goals as goal

pub returns : goal.returns
returns c =
    let ids : List ℕ = c.index.result.now.ids.items in
    let fits : c.longest_place-place.result < length c.args.journals.items = omega (arith, c.longest_place-place.ensures.place, ap length c.deref.ensures.value) in
    let same : c.index.result.now ≡ c.swap_remove.result =
    c.index.ensures ∙ get_or_default c.args.journals.items c.longest_place-place.result c.index.result.now c.swap_remove.result fits ∙ sym c.swap_remove.ensures.value in
    let follow = subst (λ (l : List Journal). All (Follows c.deref-else-not-has_room-2.result.now) l) c.deref-else-not-has_room.ensures.value c.if-not-all_follow.ensures in
    subst (AgreeOn c.args.journals.items c.args.index c.args.dat_size) (ap (λ (j : Journal). j.ids.items) same)
    (agree_at c.args.journals.items c.args.index c.args.dat_size c.longest_place-place.result c.len.result c.index.result.now ids fits c.index.ensures refl
    (omega (arith, c.len.ensures, c.index.result.now.ids.ok.0)) (c.has_room.ensures.0 c.if-not-has_room.false)
    (subst (λ (l : List ℕ). All (Follows l) c.args.journals.items) c.deref-else-not-has_room-2.ensures.value follow)
    (subst (AreKnown c.args.index) c.deref-else-not-all_follow.ensures.value (c.are_known.ensures.0 c.if-not-are_known.false)))
