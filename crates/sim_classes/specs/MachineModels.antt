-- What contracts know of a machine of the code.
use Rattle.sim_classes.specs.declared.machine.Machine.{Machine}
use Rattle.sim_classes.specs.Machine.{MachineModel}
use Rattle.sim_classes.specs.Parts.{machine_of_parts}

abbrev pub machine_model : Machine → MachineModel
machine_model m = machine_of_parts m.classes.items m.inside m.usual m.nodes.items m.pair_classes
