use Rattle.std.proofs.Common.{◌≡◌, ◌<◌, ℕ, IsTrue}
use Rattle.std.specs.Prelude.{slice_index_or}
use Rattle.site_model.specs.Counts.{Calls}
use Rattle.site_recovery.specs.declared.forms.Listed.{Listed}
use Rattle.site_recovery.specs.Listing.{IsLongDat}
use Rattle.site_recovery.proofs.testing.unindexed.is_long_listed.Given as goal

abbrev pub invariant-loop-listed : goal.invariant-loop-listed
invariant-loop-listed g l = record {
  runs : Calls g.T.Site.counts g.T.Site.servers l.fn.site l.site (λ s. ⊥);
  same_disk : IsTrue g.T.Site.tells → g.T.Site.disk l.site ≡ g.T.Site.disk l.fn.site;
  short : IsTrue g.T.Site.tells → (k : ℕ) (d : Listed) → k < l.listed-index → IsLongDat (g.T.Site.disk l.fn.site).files l.volume (slice_index_or l.files k d) → ⊥;
}
