-- How errors of the system are reported.
use Rattle.std.specs.declared.io.ErrorKind.{ErrorKind}
use Rattle.std.specs.declared.io.ErrorKind.TheVariants.{OutOfMemory, NotFound}
use Rattle.goal_base.specs.declared.device.IoFault.{IoFault}
use Rattle.goal_base.specs.declared.device.IoFault.TheVariants as io
use Rattle.goal_base.specs.declared.device.OpenFault.{OpenFault}
use Rattle.goal_base.specs.declared.device.OpenFault.TheVariants as opening

-- an error of an open file or of a stream, by its kind: `NoMemory` only if memory ran out
abbrev pub fault_of : ErrorKind → IoFault
fault_of OutOfMemory = io.NoMemory
fault_of _ = io.Failed

-- an error of opening a file by its name
abbrev pub fault_of_open : ErrorKind → OpenFault
fault_of_open OutOfMemory = opening.NoMemory
fault_of_open NotFound = opening.Absent
fault_of_open _ = opening.Failed
