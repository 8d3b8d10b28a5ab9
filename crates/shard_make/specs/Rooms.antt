-- Pieces of a row, one behind the other.
use Rattle.std.specs.Prelude.{◌≡◌, ℕ, ◌+◌, ◌*◌, ◌<◌, List, take, drop, slice_index}
use Rattle.rs_code.specs.Codeword.{IsCodeword}
use Rattle.rs_kernel.specs.Pieces.{column}

-- piece i stands there: these bytes of a data file from a place on, and zeros past its end
abbrev pub HoldsPiece : (dat room : List ℕ) (from size i : ℕ) → Type 0
HoldsPiece dat room from size i = (j : ℕ) → j < size → slice_index room (i * size + j) ≡ slice_index dat (from + j)

-- the first pieces do, which are so far apart in the file
abbrev pub HoldPieces : (dat room : List ℕ) (from apart size count : ℕ) → Type 0
HoldPieces dat room from apart size count = (i : ℕ) → i < count → HoldsPiece dat room (from + i * apart) size i

abbrev pub IsKeptBefore : ℕ → List ℕ → List ℕ → Type 0
IsKeptBefore n old new = (j : ℕ) → j < n → slice_index new j ≡ slice_index old j

-- each column of the pieces is a codeword
abbrev pub AreColumns : (k m size : ℕ) (room : List ℕ) → Type 0
AreColumns k m size room = (j : ℕ) → j < size → IsCodeword k m (column (k + m) size j room)

-- the bytes of a piece
abbrev pub piece_in : List ℕ → ℕ → ℕ → List ℕ
piece_in room size i = take size (drop (i * size) room)
