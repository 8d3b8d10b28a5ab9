-- Whose fault an error tells of.
use Rattle.std.specs.Prelude.{◌≡◌, ℕ}
use Rattle.site_model.specs.declared.error.OpenFault.{OpenFault}
use Rattle.site_model.specs.declared.error.OpenFault.TheVariants as open_fault
use Rattle.whole_file.specs.declared.fault.FileFault.{FileFault}
use Rattle.whole_file.specs.declared.fault.FileFault.TheVariants as file_fault
use Rattle.dat_volume.specs.declared.fault.VolumeFault.{VolumeFault}
use Rattle.dat_volume.specs.declared.fault.VolumeFault.TheVariants as volume_fault
use Rattle.dat_volume.specs.declared.fault.GetFault.{GetFault}
use Rattle.dat_volume.specs.declared.fault.GetFault.TheVariants as get_fault

-- a fault of a device is one of this server's
abbrev pub BlamesServer : ℕ → VolumeFault → Type 0
BlamesServer server (volume_fault.Fault device) = device.server ≡ server
BlamesServer server volume_fault.Memory = Unit {0}

-- the same of a read
abbrev pub ReadBlamesServer : ℕ → GetFault → Type 0
ReadBlamesServer server (get_fault.Fault device) = device.server ≡ server
ReadBlamesServer server (get_fault.Damaged what a b) = Unit {0}
ReadBlamesServer server get_fault.Memory = Unit {0}

-- ---- a fault of a call below or within

-- what a file's fault is to a read of a needle
abbrev pub reading_of : FileFault → GetFault
reading_of (file_fault.Fault device) = get_fault.Fault device
reading_of file_fault.Memory = get_fault.Memory

-- what a change's fault is to an opening
abbrev pub opening_of : VolumeFault → OpenFault
opening_of (volume_fault.Fault device) = open_fault.Fault device.server
opening_of volume_fault.Memory = open_fault.Memory
