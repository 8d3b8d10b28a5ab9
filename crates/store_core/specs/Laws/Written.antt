-- What a line writes that leaves the site as it is.
use Rattle.std.proofs.Common.{◌≡◌, ◌⊎◌, inl, ℕ, Option, None, Result, Ok, Err, refl, sym, subst}
use Rattle.site_model.specs.Disk.{Image, Disk, LeftOfAll, IsSettled}
use Rattle.site_model.specs.Leaves.{Leaves, starts}
use Rattle.site_model.specs.Touches.{firm_left}
use Rattle.needle_record.specs.declared.Record.{Record}
use Rattle.image_meaning.specs.Files.{contents}
use Rattle.store_core.specs.declared.halt.Halt.{Halt}
use Rattle.store_core.specs.Written.{HasSameRecords, IsWritten, Writes}

-- Settled, a stop leaves the records that stand.
pub same_left : (wrote : Option (ℕ × Record)) (d : Disk) → IsSettled d.files
    → Leaves d d (λ image said. HasSameRecords (contents d.files) image ⊎ IsWritten wrote (contents d.files) image)
same_left wrote d settled = starts d (λ image left. inl (same image left))
  where
    same : (image : Image) → LeftOfAll d.files image → HasSameRecords (contents d.files) image
    same image left =
        let is : contents d.files ≡ image = λ i k. sym (firm_left (d.files k) (image k) (settled k) (left k)) i in
        subst (HasSameRecords (contents d.files)) is (λ v below. refl)

-- a call that does nothing, and was refused or failed
pub writes_idle : {A : Type 0} (wrote : Option (ℕ × Record)) (d : Disk) (h : Halt) → Writes {A = A} wrote d d (Err h)
writes_idle wrote d h = record { done = tt; leaves = same_left wrote d }

-- a line that writes nothing, and leaves the site as it is
pub writes_nothing : {A : Type 0} (old new : Disk) (result : Result A Halt) → new ≡ old → Writes None old new result
writes_nothing old new result same = subst (λ (d : Disk). Writes None old d result) (sym same) (still result)
  where
    still : {A : Type 0} (x : Result A Halt) → Writes None old old x
    still (Ok x) = record { done = λ v below. refl; leaves = same_left None old }
    still (Err h) = writes_idle None old h
