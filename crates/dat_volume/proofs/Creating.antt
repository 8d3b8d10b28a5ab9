-- What the making of a volume leaves of its files.
use Rattle.std.proofs.Common.{◌≡◌, ℕ, List, true, false, refl, sym, subst}
use Rattle.std.specs.Prelude.{string_bytes}
use Rattle.site_model.specs.Disk.{Files, Disk}
use Rattle.wire_num.specs.Numbers.{bytes_of}
use Rattle.volume_forms.specs.Forms.{super_bytes}
use Rattle.file_names.specs.declared.Kind.TheVariants.{Dat, Idx}
use Rattle.file_names.specs.Names.{name_bytes}
use Rattle.dat_volume.specs.declared.writing.NewNames.{NewNames}
use Rattle.dat_volume.specs.NewFiles.{FourPlaces, under_names, of_volume, NoneOf, Makes, AreMade}
use Rattle.dat_volume.specs.Writes.{new_dat, NoneStands, Creates, IsCreated}
use Rattle.dat_volume.specs.Laws.Write.{new_exact}

-- the names are those of the volume's files
pub named : (server v : ℕ) (names : NewNames)
    → string_bytes names.dat ≡ name_bytes (record { volume = v; kind = Dat; temp = false }) → string_bytes names.idx ≡ name_bytes (record { volume = v; kind = Idx; temp = false })
    → string_bytes names.dat_temp ≡ name_bytes (record { volume = v; kind = Dat; temp = true }) → string_bytes names.idx_temp ≡ name_bytes (record { volume = v; kind = Idx; temp = true })
    → under_names server names ≡ of_volume server v
named server v names dat idx dat_own idx_own = λ i. record { dat = (server, dat i); idx = (server, idx i); dat_temp = (server, dat_own i); idx_temp = (server, idx_own i) }

-- the super block of a new volume
pub new_block : super_bytes (record { version = 3; placement = 0; ttl = 0; revision = 0 }) ≡ new_dat
unfolding bytes_of
new_block = refl

creates_here : (server v : ℕ) {old new : Disk} → Makes (of_volume server v) new_dat old new → Creates server v old new
creates_here server v did = record {
  touches = did.touches;
  leaves = λ none. did.leaves (record { dat = none.dat; idx = none.idx; dat_temp = none.dat_temp; idx_temp = none.idx_temp });
}

created_here : (server v : ℕ) {files : Files} → AreMade (of_volume server v) new_dat files → IsCreated server v files
created_here server v are = record { firm = record { dat_file = are.dat; idx_file = are.idx; exact = new_exact }; no_dat_temp = are.dat_temp; no_idx_temp = are.idx_temp }

module _ (server v : ℕ) {four : FourPlaces} {bytes : List ℕ} (is : four ≡ of_volume server v) (block : bytes ≡ new_dat) where
  pub creates : {old new : Disk} → Makes four bytes old new → Creates server v old new
  creates {old} {new} did = creates_here server v (subst (λ f. Makes f new_dat old new) is (subst (λ b. Makes four b old new) block did))

  pub created : {old new : Files} → NoneStands server v old → (NoneOf four old → AreMade four bytes new) → IsCreated server v new
  created {old} {new} none made = created_here server v (subst (λ f. AreMade f new_dat new) is (subst (λ b. AreMade four b new) block (made (subst (λ f. NoneOf f old) (sym is) here))))
    where
      here : NoneOf (of_volume server v) old
      here = record { dat = none.dat; idx = none.idx; dat_temp = none.dat_temp; idx_temp = none.idx_temp }
