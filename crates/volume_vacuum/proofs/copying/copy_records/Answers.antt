use Rattle.std.proofs.Common.{ℕ, List, take, drop, ◌∙◌, ap, subst, arith}
use Rattle.std.proofs.lemmas.List.{nil_from_length}
use Rattle.std.proofs.lemmas.Result.{on_ok_weaker}
use Rattle.site_model.specs.Laws.Count.{calls_on}
use Rattle.site_model.specs.Touches.{touches_on}
use Rattle.volume_vacuum.specs.Copies.{range_bytes, Joins}
use Rattle.volume_vacuum.specs.Home.{own_dat, cpd_temp_named}
use Rattle.volume_vacuum.proofs.Checked.{placed_end}
use Rattle.volume_vacuum.proofs.Copied.{dat_apart, dat_stays, grows_same, copied_more, copied_all, next_within}
use Rattle.volume_vacuum.proofs.copying.copy_records.Goals as goal

pub returns-in_err-range-clause-effect : goal.returns-in_err-range-clause-effect
returns-in_err-range-clause-effect g c = λ told. touches_on (c.loop-entry.invariant.effect told) (c.join_or_copy.ensures.effect told)

pub loop-entry-preserved : goal.loop-entry-preserved
loop-entry-preserved g c =
    let e = c.in-Some.entry.now in
    let next = c.place_of.result in
    let kept = c.in_ok-range.ensures.kept in
    let ends = placed_end e next.at next.length c.place_of.ensures.at c.place_of.ensures.length in
    record {
      long = c.join_or_copy.ensures.long ∙ c.loop-entry.invariant.long;
      runs = calls_on c.loop-entry.invariant.runs c.in_ok-range.ensures.runs;
      effect = λ told. touches_on (c.loop-entry.invariant.effect told) (c.join_or_copy.ensures.effect told);
      fits = omega (arith, kept.0, c.place_of.ensures.short);
      range_within = λ told. omega (arith, kept.0, ends, (next_within e c.in-Some.ensures.cases.0 (c.loop-entry.invariant.within told)).0);
      within = λ told. (next_within e c.in-Some.ensures.cases.0 (c.loop-entry.invariant.within told)).1;
      copies = λ told.
          let dat = own_dat (g.T.Site.disk c.args.site.now).files c.args.home.now in
          copied_more e c.in-Some.ensures.cases.0 (λ i. take (c.place_of.ensures.length i) (drop (c.place_of.ensures.at i) dat)) (c.loop-entry.invariant.copies told)
          (subst (λ (d : List ℕ). Joins (cpd_temp_named c.args.home.now) d c.loop-entry.range next c.in_ok-range.range (g.T.Site.disk c.loop-entry.site).files (g.T.Site.disk c.join_or_copy.new.site).files)
          (dat_stays (dat_apart c.requires.apart) (c.loop-entry.invariant.effect told)) (kept.1 told));
    }

pub returns-clause-effect : goal.returns-clause-effect
returns-clause-effect g c = λ told. touches_on (c.loop-entry.invariant.effect told) (c.copy_range.ensures.effect told)

pub returns-clause-done : goal.returns-clause-done
returns-clause-done g c = on_ok_weaker c.copy_range.result (λ grows told.
    copied_all (nil_from_length c.loop-entry.rest.now c.in_default.ensures.cases) (c.loop-entry.invariant.copies told)
    (grows_same (ap (λ (d : List ℕ). range_bytes d c.loop-entry.range) (dat_stays (dat_apart c.requires.apart) (c.loop-entry.invariant.effect told))) (grows told))) c.copy_range.ensures.done
