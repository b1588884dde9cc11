use Rattle.pv_case.specs.Checks.{each}
use Rattle.pv_case.specs.Fields.{symbol_lies}
use Rattle.pv_case.proofs.OverMaps.{asked}
use Rattle.pv_case.proofs.symbols.symbols_lie.Given as goal

abbrev pub invariant-loop-path : goal.invariant-loop-path
invariant-loop-path l = (each symbol_lies (asked l.yielded)).keeps
