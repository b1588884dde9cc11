use Rattle.std.proofs.Common.{◌≡◌, map, option_map}
use Rattle.pv_case.specs.Fields.{symbol_names}
use Rattle.pv_case.specs.Least.{behind_objects}
use Rattle.pv_case.proofs.OverMaps.{asked}
use Rattle.pv_case.proofs.strays.least_in_symbols.Given as goal

abbrev pub invariant-loop-name : goal.invariant-loop-name
invariant-loop-name l =
    option_map (λ t. t.now) l.least
    ≡ behind_objects symbol_names (option_map (λ t. t.now) l.fn.so_far) (map (λ p. p.1) (asked l.yielded))
