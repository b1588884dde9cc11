-- Why there is no program, where that was found by what finds names.
use Rattle.pv_resolve.specs.declared.fault.ResolveFault.{ResolveFault}
use Rattle.pv_resolve.specs.declared.fault.ResolveFault.TheVariants as found
use Rattle.pv_program.specs.declared.fault.ProgramFault.{ProgramFault}
use Rattle.pv_program.specs.declared.fault.ProgramFault.TheVariants.{TooLarge, NoMemory}

-- the same cause
abbrev pub fault_of : ResolveFault → ProgramFault
fault_of found.TooLarge = TooLarge
fault_of found.NoMemory = NoMemory
