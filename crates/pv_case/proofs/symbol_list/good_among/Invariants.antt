use Rattle.pv_case.specs.SymbolLists.{AreRead}
use Rattle.pv_case.proofs.OverMaps.{asked}
use Rattle.pv_case.proofs.symbol_list.good_among.Given as goal

abbrev pub invariant-loop-name : goal.invariant-loop-name
invariant-loop-name l = AreRead l.symbols (asked l.yielded)
