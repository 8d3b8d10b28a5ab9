-- What a reader is made for.
use Rattle.std.specs.Prelude.{◌≡◌, ℕ}
use Rattle.degraded_read.specs.declared.reader.Reader.{Reader}

-- a reader of this volume, with room for parts of so many bytes
pub record IsReader (v most : ℕ) (reader : Reader) : Type 0 where
  pub volume : reader.volume ≡ v
  pub widest : reader.widest ≡ most
