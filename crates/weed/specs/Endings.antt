-- The numbers and the lines of endings.
use Rattle.std.specs.Prelude.{ℕ, List, ◌++◌, codes, decimal}
use Rattle.weed_shell.specs.declared.status.Status.{Status}
use Rattle.weed_shell.specs.declared.status.Status.TheVariants as status
use Rattle.weed_shell.specs.Statuses.{status_number}
use Rattle.weed.specs.declared.ending.Ending.{Ending}
use Rattle.weed.specs.declared.ending.Ending.TheVariants as ending

-- that of the status, and one more where there was no site
abbrev pub ending_number : Ending → ℕ
ending_number (ending.Ran status) = status_number status
ending_number ending.NoSite = 8

abbrev pub status_text : Status → List ℕ
status_text status.Done = codes "done"
status_text status.Usage = codes "usage"
status_text (status.Fault server) = codes "fault of server " ++ decimal server
status_text status.Memory = codes "memory"
status_text (status.Unsound volume rule) = codes "volume " ++ (decimal volume ++ (codes " breaks rule " ++ decimal rule))
status_text status.SourceFault = codes "input fault"
status_text status.SayFault = codes "output fault"
status_text status.TooMuch = codes "input too long"

-- what stands behind the program's name
abbrev pub ending_text : Ending → List ℕ
ending_text (ending.Ran status) = status_text status
ending_text ending.NoSite = codes "no site"
