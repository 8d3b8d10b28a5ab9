-- Two files cut one after the other.
use Rattle.std.proofs.Common.{◌≡◌, ◌≢◌, ◌⊎◌, inl, inr, ⊎_elim, ℕ, List, sym, ap, subst}
use Rattle.site_model.specs.Disk.{Place, LeftOf, cut_to, Disk}
use Rattle.site_model.specs.Leaves.{joins, weaker}
use Rattle.site_model.specs.Touches.{Touches, At, touches_on, touches_more}
use Rattle.dat_volume.specs.Shortening.{Shortens, ShortensBoth}

touches_shorten : {p : Place} {n : ℕ} {old new : Disk} → Shortens p n old new → Touches (At p) old new
touches_shorten did = record { leaves = weaker did.leaves (λ image said left. (left.0.0, left.1)); others = did.others; said = did.said }

module _ {p q : Place} {m n : ℕ} (apart : p ≢ q) where
  -- the first alone
  pub first_cut : {old new : Disk} → Shortens p m old new → ShortensBoth p q m n old new
  first_cut did = record {
    touches = touches_more (λ k is. inl is) (touches_shorten did);
    leaves = weaker did.leaves (λ image said left. (left.0.1, inl (left.0.0 q (λ e. apart (sym e)))));
  }

  -- both
  pub both_cut : {old mid new : Disk} → Shortens p m old mid → Shortens q n mid new → ShortensBoth p q m n old new
  both_cut {old} {mid} {new} first second =
      let alone = first_cut first in
      let same : mid.files q ≡ old.files q = first.others q (λ e. apart (sym e)) in
      record {
        touches = touches_on alone.touches (touches_more (λ k is. inr is) (touches_shorten second));
        leaves = joins alone.leaves (weaker second.leaves (λ image said left. (
          ⊎_elim
              (λ is. inl (subst (λ f. LeftOf f (image p)) is (left.0.0 p apart)))
              (λ is. inr (subst (λ f. LeftOf f (image p)) is (left.0.0 p apart)))
              first.either,
          subst (λ f. LeftOf f (image q) ⊎ LeftOf (cut_to n f) (image q)) same left.0.1,
        )));
      }

pub places_differ : (server : ℕ) (a b : List ℕ) → a ≢ b → ◌≢◌ {A = Place} (server, a) (server, b)
places_differ server a b differ e = differ (ap (λ (p : Place). p.1) e)
