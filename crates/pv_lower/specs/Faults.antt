-- What a fault below is told as.
use Rattle.pv_resolve.specs.declared.fault.ResolveFault.{ResolveFault}
use Rattle.pv_resolve.specs.declared.fault.ResolveFault.TheVariants as resolve
use Rattle.pv_terms.specs.declared.fault.TermFault.{TermFault}
use Rattle.pv_terms.specs.declared.fault.TermFault.TheVariants as term
use Rattle.pv_lower.specs.declared.fault.LowerFault.{LowerFault}
use Rattle.pv_lower.specs.declared.fault.LowerFault.TheVariants.{TooLarge, NoMemory}

abbrev pub of_resolve : ResolveFault → LowerFault
of_resolve resolve.TooLarge = TooLarge
of_resolve resolve.NoMemory = NoMemory

abbrev pub of_term : TermFault → LowerFault
of_term term.TooLarge = TooLarge
of_term term.NoMemory = NoMemory
