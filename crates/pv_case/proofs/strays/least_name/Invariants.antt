use Rattle.std.proofs.Common.{◌≡◌, map, option_map}
use Rattle.std.specs.List.{fold}
use Rattle.pv_case.specs.Least.{names_of, behind}
use Rattle.pv_case.proofs.OverMaps.{asked}
use Rattle.pv_case.proofs.strays.least_name.Given as goal

abbrev pub invariant-loop-name : goal.invariant-loop-name
invariant-loop-name l =
    option_map (λ t. t.now) l.least
    ≡ fold (behind (names_of l.object)) (option_map (λ t. t.now) l.fn.so_far) (map (λ p. p.0) (asked l.yielded))
