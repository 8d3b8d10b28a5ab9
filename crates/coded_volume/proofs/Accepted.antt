-- What the texts of all holders say.
use Rattle.std.proofs.Common.{◌≡◌, ◌≢◌, ℕ, List, Option, Some, None, Ok, Err, inl, inr, refl, sym, ◌∙◌, ap, subst}
use Rattle.std.specs.Prelude.{◌⊎◌, Contains, Result, IfSome, IfOk, IfErr, option_and_then}
use Rattle.std.specs.List.{All}
use Rattle.std.proofs.lemmas.List.Elements.{All-contains}
use Rattle.serde_json.specs.Data.{Data}
use Rattle.stripe_layout.specs.declared.Info.{Info}
use Rattle.stripe_layout.specs.Information.{Fields, fields_of, info_from, info_of, ◌>>=◌}
use Rattle.stripe_layout.specs.Laws.Info.{IsInRange, info_in_range}
use Rattle.vif_info.specs.Reads.{IsReading, Says}
use Rattle.vif_info.specs.declared.InfoFault.{InfoFault}
use Rattle.vif_info.specs.declared.InfoFault.TheVariants as fault
use Rattle.site_model.specs.declared.error.OpenFault.{OpenFault}
use Rattle.site_model.specs.declared.error.OpenFault.TheVariants as open_fault
use Rattle.image_meaning.specs.Files.{VolumeFiles}
use Rattle.image_meaning.specs.Coded.{info_at, volume_info}
use Rattle.image_meaning.specs.Sound.{HasInfo}
use Rattle.coded_volume.specs.declared.checking.holders.Holders.{Holders}
use Rattle.coded_volume.specs.Checking.{AreHolders, unless_memory}

-- ---- one text

from_fields : (bytes : List ℕ) (d : Data) (f : Fields) → Says bytes d → fields_of d ≡ Some f → info_of bytes ≡ info_from f
unfolding info_of
from_fields bytes d f says has = ap (λ (o : Option Data). o >>= (λ d. fields_of d >>= info_from)) says ∙ ap (λ (o : Option Fields). o >>= info_from) has

pub info_accepted : (bytes : List ℕ) (info : Info) → IsReading bytes (Ok info) → (info_of bytes ≡ Some info) × IsInRange info
info_accepted bytes info (d, says, (f, has, is)) =
    let e : info_of bytes ≡ Some info = from_fields bytes d f says has ∙ is in (e, info_in_range bytes info e)

none_of : (bytes : List ℕ) (why : InfoFault) → why ≢ fault.Memory → IsReading bytes (Err why) → info_of bytes ≡ None
unfolding info_of
none_of bytes fault.NotJson other none = ap (λ (o : Option Data). o >>= (λ d. fields_of d >>= info_from)) none
none_of bytes fault.Field other (d, says, none) = ap (λ (o : Option Data). o >>= (λ d. fields_of d >>= info_from)) says ∙ ap (λ (o : Option Fields). o >>= info_from) none
none_of bytes fault.Range other (d, says, (f, has, none)) = from_fields bytes d f says has ∙ none
none_of bytes fault.Memory other h = absurd (other refl)

pub info_refused : (bytes : List ℕ) (why : InfoFault) (result : Result (Option Info) OpenFault) → result ≡ unless_memory why → IsReading bytes (Err why)
    → IfOk result (λ info. info ≡ info_of bytes) × IfOk result (λ info. IfSome info IsInRange) × IfErr result (λ told. told ≡ open_fault.Memory)
info_refused bytes why result is reading = subst (λ (r : Result (Option Info) OpenFault). IfOk r (λ info. info ≡ info_of bytes) × IfOk r (λ info. IfSome info IsInRange) × IfErr r (λ told. told ≡ open_fault.Memory)) (sym is) (by_fault why reading)
  where
    by_fault : (why : InfoFault) → IsReading bytes (Err why) → IfOk (unless_memory why) (λ info. info ≡ info_of bytes) × IfOk (unless_memory why) (λ info. IfSome info IsInRange) × IfErr (unless_memory why) (λ told. told ≡ open_fault.Memory)
    by_fault fault.NotJson h = (sym (none_of bytes fault.NotJson (λ e. cc) h), tt, tt)
    by_fault fault.Field h = (sym (none_of bytes fault.Field (λ e. cc) h), tt, tt)
    by_fault fault.Range h = (sym (none_of bytes fault.Range (λ e. cc) h), tt, tt)
    by_fault fault.Memory h = (tt, tt, refl)

-- ---- all texts

module _ (files : VolumeFiles) (holders : Holders) (are : AreHolders files holders) where
  pub texts_pass : (info : Info) → info_at files holders.first ≡ Some info → All (λ server. info_at files server ≡ Some info) holders.others.items → HasInfo files info
  unfolding volume_info
  texts_pass info first others = record {
    first = ap (option_and_then (info_at files)) are.lowest ∙ first;
    each = λ server holds. by_place server (are.all server holds);
  }
    where
      by_place : (server : ℕ) → (server ≡ holders.first) ⊎ Contains holders.others.items server → info_at files server ≡ Some info
      by_place server (inl same) = ap (info_at files) same ∙ first
      by_place server (inr one) = All-contains (λ s. info_at files s ≡ Some info) holders.others.items server others one
