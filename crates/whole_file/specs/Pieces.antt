-- In how many calls bytes are read and appended, of at most 65,536 bytes each.
use Rattle.std.specs.Prelude.{ℕ, ◌+◌, ◌/◌, max}

-- the pieces in which n bytes are read: none for no byte
abbrev pub read_pieces : ℕ → ℕ
read_pieces n = (n + 65535) / 65536

-- those in which they are appended: one for no byte, since an absent file is made
abbrev pub append_pieces : ℕ → ℕ
append_pieces n = max 1 (read_pieces n)
