-- What the program prints of why it stops.
use Rattle.std.specs.Prelude.{ℕ, List, Option, Some, codes, if◌then◌else◌, nat_eq}
use Rattle.std.specs.Fmt.{◌++?◌, decimal}
use Rattle.rangerun_library.specs.declared.fault.Cause.{Cause}
use Rattle.rangerun_library.specs.declared.fault.Cause.TheVariants.{Arguments, Command, Number, EmptyRange, Value, Stream, Memory}
use Rattle.rangerun_library.specs.declared.fault.Fault.{Fault}

-- the number of a cause
abbrev pub fault_number : Cause → ℕ
fault_number Arguments = 1
fault_number Command = 2
fault_number Number = 3
fault_number EmptyRange = 4
fault_number Value = 5
fault_number Stream = 6
fault_number Memory = 7

-- the exit status that tells of a number: of a stream 3, of memory 4, and of what the program was given 2
abbrev pub status_of : ℕ → ℕ
status_of number =
    if nat_eq number (fault_number Stream) then 3
    else if nat_eq number (fault_number Memory) then 4
    else 2

-- the words that tell of a fault: its number, and the line
abbrev pub fault_text : Fault → Option (List ℕ)
fault_text fault = Some (codes "fault ") ++? Some (decimal fault.number) ++? Some (codes " at line ") ++? Some (decimal fault.line)
