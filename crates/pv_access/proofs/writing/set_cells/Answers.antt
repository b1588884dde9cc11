use Rattle.std.proofs.Common.{sym, subst, []}
use Rattle.pv_access.specs.Pushed.{AreAt}
use Rattle.pv_access.proofs.writing.set_cells.Goals as goal

pub returns : goal.returns
returns c = λ w ms table is moves.
    c.set_elements.ensures.sets w [] ms table is (subst (λ l. AreAt c.args.nodes.now.items l []) (sym c.new-conditions.ensures.items) tt) moves
