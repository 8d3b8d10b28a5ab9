use Rattle.std.proofs.Common.{ℕ, None, ap, ◌∙◌, subst, sym}
use Rattle.std.specs.Prelude.{slice_index_or}
use Rattle.file_names.specs.declared.Kind.TheVariants.{Dat, Cpd, Shard}
use Rattle.image_meaning.specs.Files.{contents, files_of}
use Rattle.site_model.specs.Laws.Count.{calls_on_anywhere, calls_untold}
use Rattle.site_recovery.specs.Listing.{AreInOrder}
use Rattle.site_recovery.proofs.Strays.{still_listed, kind_listed}
use Rattle.site_recovery.proofs.Thinned.{takes_dat, takes_cpd, takes_shard, dat_gone, shard_gone}
use Rattle.site_recovery.proofs.thinning.clear_copies.Goals as goal

pub clear_listed-requires-clause-listed : goal.clear_listed-requires-clause-listed
clear_listed-requires-clause-listed g c = λ told. kind_listed c.args.volume c.args.files.now Dat None (g.T.Site.disk c.args.site.now).files tt (λ e. cc) (c.requires.listed told)

pub clear_listed-requires-2-clause-order : goal.clear_listed-requires-2-clause-order
clear_listed-requires-2-clause-order g c = subst (λ n. AreInOrder n c.args.files.now) (sym c.clear_listed.ensures.runs.servers) c.requires.order

pub clear_listed-requires-2-clause-listed : goal.clear_listed-requires-2-clause-listed
clear_listed-requires-2-clause-listed g c = λ told.
    kind_listed c.args.volume c.args.files.now Cpd None (g.T.Site.disk c.clear_listed.new.site).files tt (λ e. cc)
    (still_listed c.args.volume c.args.files.now _ _ (c.clear_listed.ensures.effect told).files (c.requires.listed told))

pub clear_listed-requires-in-loop-shard-clause-order : goal.clear_listed-requires-in-loop-shard-clause-order
clear_listed-requires-in-loop-shard-clause-order g c = subst (λ n. AreInOrder n c.args.files.now) (sym c.loop-shard.invariant.runs.servers) c.requires.order

pub clear_listed-requires-in-loop-shard-clause-listed : goal.clear_listed-requires-in-loop-shard-clause-listed
clear_listed-requires-in-loop-shard-clause-listed g c = λ told.
    kind_listed c.args.volume c.args.files.now (Shard c.loop-shard.shard) _ (g.T.Site.disk c.loop-shard.site).files c.loop-shard-test.true (λ e. cc)
    (still_listed c.args.volume c.args.files.now _ _ (c.loop-shard.invariant.takes told).files (c.requires.listed told))

pub returns-in_err-clear_listed-clause-effect : goal.returns-in_err-clear_listed-clause-effect
returns-in_err-clear_listed-clause-effect g c = λ told. takes_dat c.args.volume (files_of (contents (g.T.Site.disk c.args.site.now).files) c.args.volume) (c.clear_listed.ensures.effect told)

pub returns-in_err-clear_listed-2-clause-effect : goal.returns-in_err-clear_listed-2-clause-effect
returns-in_err-clear_listed-2-clause-effect g c = λ told.
    let files = files_of (contents (g.T.Site.disk c.args.site.now).files) c.args.volume in
    takes_cpd c.args.volume files (takes_dat c.args.volume files (c.clear_listed.ensures.effect told)) (c.clear_listed-2.ensures.effect told)

pub loop-shard-init : goal.loop-shard-init
loop-shard-init g c =
    let files = files_of (contents (g.T.Site.disk c.args.site.now).files) c.args.volume in
    record {
      runs = calls_untold (calls_on_anywhere c.clear_listed.ensures.runs c.clear_listed-2.ensures.runs);
      takes = λ told. takes_cpd c.args.volume files (takes_dat c.args.volume files (c.clear_listed.ensures.effect told)) (c.clear_listed-2.ensures.effect told);
      gone = λ told. dat_gone c.args.volume files _ _ (c.clear_listed-2.ensures.effect told).files (c.in_ok-clear_listed.ensures.done told) (c.in_ok-clear_listed-2.ensures.done told);
    }

pub returns-in_err-clear_listed-3-clause-effect : goal.returns-in_err-clear_listed-3-clause-effect
returns-in_err-clear_listed-3-clause-effect g c = λ told.
    takes_shard c.args.volume (files_of (contents (g.T.Site.disk c.args.site.now).files) c.args.volume) c.loop-shard.shard _ c.loop-shard-test.true
    (ap (λ (n : ℕ). slice_index_or c.args.homes.now n None) c.from.ensures ∙ c.requires.homes told c.loop-shard.shard c.loop-shard-test.true)
    (c.loop-shard.invariant.takes told) (c.clear_listed-in-loop-shard.ensures.effect told)

pub loop-shard-preserved : goal.loop-shard-preserved
loop-shard-preserved g c = record {
  runs = calls_untold (calls_on_anywhere c.loop-shard.invariant.runs c.clear_listed-in-loop-shard.ensures.runs);
  takes = λ told.
      takes_shard c.args.volume (files_of (contents (g.T.Site.disk c.args.site.now).files) c.args.volume) c.loop-shard.shard _ c.loop-shard-test.true
      (ap (λ (n : ℕ). slice_index_or c.args.homes.now n None) c.from.ensures ∙ c.requires.homes told c.loop-shard.shard c.loop-shard-test.true)
      (c.loop-shard.invariant.takes told) (c.clear_listed-in-loop-shard.ensures.effect told);
  gone = λ told.
      shard_gone c.args.volume (files_of (contents (g.T.Site.disk c.args.site.now).files) c.args.volume) c.loop-shard.shard _ _ _
      (ap (λ (n : ℕ). slice_index_or c.args.homes.now n None) c.from.ensures ∙ c.requires.homes told c.loop-shard.shard c.loop-shard-test.true)
      (c.clear_listed-in-loop-shard.ensures.effect told).files (c.loop-shard.invariant.gone told) (c.in_ok-clear_listed-3.ensures.done told);
}
