use Rattle.std.proofs.Common.{◌≡◌, ◌++◌, map, drop, [], pos}
use Rattle.pv_mean.specs.Cells.{brief_cell}
use Rattle.pv_cells.proofs.own.push_nameless.Given as goal

abbrev pub invariant-loop-ty : goal.invariant-loop-ty
invariant-loop-ty l = l.cells.items ++ map (λ ty. brief_cell [] ty (pos 0)) (drop l.ty-index l.types)
    ≡ l.initial.cells.items ++ map (λ ty. brief_cell [] ty (pos 0)) l.types
