use Rattle.std.proofs.Common.{◌≡◌, map}
use Rattle.pv_case.specs.Cases.{bound_data, bound_of}
use Rattle.pv_case.proofs.OverMaps.{asked}
use Rattle.pv_case.proofs.making.bounds_among.Given as goal

abbrev pub invariant-loop-path : goal.invariant-loop-path
invariant-loop-path l = map bound_data l.bounds.items ≡ map bound_of (asked l.yielded)
