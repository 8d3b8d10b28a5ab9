-- Why bytes are no super block.
use Rattle.std.specs.Prelude.{◌≡◌, ◌≢◌, ◌<◌, ◌≤◌, List, ℕ, length, drop, slice_index}
use Rattle.wire_num.specs.Numbers.{number_of}
use Rattle.volume_forms.specs.declared.SuperFault.{SuperFault}
use Rattle.volume_forms.specs.declared.SuperFault.TheVariants.{Short, Version, Extra}

-- the first fault of the bytes: each stands where those before it don't
abbrev pub HasFault : SuperFault → List ℕ → Type 0
HasFault Short bytes = length bytes < 8
HasFault Version bytes = (8 ≤ length bytes) × (slice_index bytes 0 ≢ 3)
HasFault Extra bytes = (8 ≤ length bytes) × (slice_index bytes 0 ≡ 3) × (number_of 2 (drop 6 bytes) ≢ 0)
