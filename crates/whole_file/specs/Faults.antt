-- What a file's fault is to an opening.
use Rattle.site_model.specs.declared.error.OpenFault.{OpenFault}
use Rattle.site_model.specs.declared.error.OpenFault.TheVariants as open_fault
use Rattle.whole_file.specs.declared.fault.FileFault.{FileFault}
use Rattle.whole_file.specs.declared.fault.FileFault.TheVariants as file_fault

abbrev pub opening_of : FileFault → OpenFault
opening_of (file_fault.Fault device) = open_fault.Fault device.server
opening_of file_fault.Memory = open_fault.Memory
