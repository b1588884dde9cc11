use Rattle.pv_types.specs.Named.{types_of}
use Rattle.pv_types.specs.View.{type_tree}
use Rattle.pv_types.specs.Search.{IsSearch}
use Rattle.pv_types.proofs.search.Search.finds.Given as goal

abbrev pub invariant-loop : goal.invariant-loop
invariant-loop l = IsSearch (types_of l.named) (type_tree l.ty) l.self
