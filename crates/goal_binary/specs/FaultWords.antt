-- The message of a fault.
use Rattle.std.specs.Prelude.{ℕ, List, ◌++◌, codes, decimal}
use Rattle.goal_binary.specs.declared.fault.FileFault.{FileFault}
use Rattle.goal_binary.specs.declared.fault.FileFault.TheVariants as fault

abbrev pub fault_words : FileFault → List ℕ
fault_words (fault.Short at) = codes "the file ends inside a field after " ++ decimal at ++ codes " bytes"
fault_words fault.Magic = codes "the bytes do not begin with the magic of a compiled file"
fault_words (fault.Version found) = codes "the file is of version " ++ decimal found
fault_words (fault.Field at) = codes "no file has what stands at byte " ++ decimal at
fault_words (fault.Extra at) = codes "bytes follow the last rank at byte " ++ decimal at
fault_words (fault.Plan rule) = codes "the plans of the file are no schedule"
fault_words fault.NoMemory = codes "out of memory"
