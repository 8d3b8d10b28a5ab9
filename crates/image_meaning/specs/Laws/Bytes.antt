-- The files of a volume on a site are bytes. For the recovery of coded volumes, to come.
use Rattle.std.proofs.Common.{ℕ, false, [], Option, Some, None}
use Rattle.std.specs.Prelude.{unwrap_or}
use Rattle.site_model.specs.Disk.{File, Files, IsPossible, AreBytes, bytes_of}
use Rattle.site_model.specs.Disk as disk
use Rattle.file_names.specs.declared.Kind.{Kind}
use Rattle.image_meaning.specs.Files.{contents, files_of, bytes_at}
use Rattle.file_names.specs.Names.{place_of}

pub bytes_stand : (servers : ℕ) (files : Files) → IsPossible servers files → (v server : ℕ) (kind : Kind) → AreBytes (bytes_at (files_of (contents files) v) server kind)
bytes_stand servers files possible v server kind = by_file (files (place_of v server kind false)) (possible.bytes (place_of v server kind false))
  where
    by_file : (file : Option File) → AreBytes (bytes_of file) → AreBytes (unwrap_or (disk.standing file) [])
    by_file None are = tt
    by_file (Some file) are = are
