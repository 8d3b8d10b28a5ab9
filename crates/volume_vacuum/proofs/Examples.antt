-- A needle that was deleted, and another that was put behind: what a vacuum makes of the two files.
use Rattle.std.proofs.Common.{◌≡◌, ℕ, List, [], ◌∷◌, ◌++◌, Some, None, replicate, refl}
use Rattle.wire_num.specs.Numbers.{number_of, bytes_of}
use Rattle.world_model.specs.declared.types.Content.{Content}
use Rattle.needle_record.specs.Records.{Placed}
use Rattle.volume_vacuum.specs.Live.{live_records, moved, new_dat, new_idx}

nine : Content
nine = record { bytes = 49 ∷ 50 ∷ 51 ∷ 52 ∷ 53 ∷ 54 ∷ 55 ∷ 56 ∷ 57 ∷ []; flags = 0; name = None; mime = None; modified = None; ttl = None; pairs = None }

three : List Placed
three = (8, record { cookie = 42; id = 1; content = Some nine; appended = 5 }) ∷ (56, record { cookie = 42; id = 1; content = None; appended = 6 }) ∷ (88, record { cookie = 42; id = 2; content = Some nine; appended = 7 }) ∷ []

before : List ℕ
before = (3 ∷ 0 ∷ 0 ∷ 0 ∷ 0 ∷ 0 ∷ 0 ∷ 0 ∷ []) ++ replicate 48 1 ++ replicate 32 2 ++ replicate 48 3

its_dat : new_dat before three ≡ (3 ∷ 0 ∷ 0 ∷ 0 ∷ 0 ∷ 1 ∷ 0 ∷ 0 ∷ []) ++ replicate 48 3
unfolding new_dat live_records three before nine number_of bytes_of
its_dat = refl

its_idx : new_idx three ≡ 0 ∷ 0 ∷ 0 ∷ 0 ∷ 0 ∷ 0 ∷ 0 ∷ 2 ∷ 0 ∷ 0 ∷ 0 ∷ 1 ∷ 0 ∷ 0 ∷ 0 ∷ 14 ∷ []
unfolding new_idx live_records moved three nine bytes_of
its_idx = refl

-- the last revision is followed by the first
last_revision : new_dat (3 ∷ 0 ∷ 0 ∷ 0 ∷ 255 ∷ 255 ∷ 0 ∷ 0 ∷ []) [] ≡ 3 ∷ 0 ∷ 0 ∷ 0 ∷ 0 ∷ 0 ∷ 0 ∷ 0 ∷ []
unfolding new_dat live_records number_of bytes_of
last_revision = refl
