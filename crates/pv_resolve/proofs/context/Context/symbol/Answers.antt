use Rattle.pv_eval.specs.Operands.{spot_of}
use Rattle.pv_resolve.specs.Contexts.{area_spot}
use Rattle.pv_resolve.specs.Rooms.{FitsRoot}
use Rattle.pv_resolve.proofs.Naming.{symbol_found, symbol_missing}
use Rattle.std.proofs.lemmas.Bool.{false≢true}
use Rattle.std.proofs.Common.{ap, sym, subst, ◌∙◌}
use Rattle.pv_tree.specs.Scopes.{ProjectTree, first_symbol}
use Rattle.pv_tree.specs.Projects.{symbol_tree}
use Rattle.pv_resolve.proofs.Nears.{symbol_root_fits}
use Rattle.pv_resolve.proofs.Roots.{symbol_fits}
use Rattle.pv_resolve.proofs.context.Context.symbol.Goals as goal

pub returns-in_ok-spot-in-Some-clause-value : goal.returns-in_ok-spot-in-Some-clause-value
returns-in_ok-spot-in-Some-clause-value c =
    λ source first is. symbol_found c.args.self.now source c.args.name.now.key c.in-Some.symbol.now (spot_of c.in_ok-spot-in-Some.spot) is c.in-Some.ensures
    (c.in_ok-spot-in-Some.ensures.value source is ∙ ap (area_spot source c.in-Some.symbol.now.2) c.deref.ensures)

pub returns-in-None-clause-value : goal.returns-in-None-clause-value
returns-in-None-clause-value c =
    λ source first is. symbol_missing c.args.self.now source c.args.name.now.key is c.in-None.ensures

pub returns-in_err-spot-in-Some-clause-room : goal.returns-in_err-spot-in-Some-clause-room
returns-in_err-spot-in-Some-clause-room c =
    λ source is h. absurd (false≢true (c.in_err-spot-in-Some.ensures.room source is h (subst FitsRoot (sym c.deref.ensures) (symbol_root_fits c.in-Some.symbol.now.1
    (symbol_fits source.project.symbols c.args.name.now.key (symbol_tree c.in-Some.symbol.now) h.symbols
    (sym (c.in-Some.ensures ∙ ap (λ (p : ProjectTree). first_symbol p.symbols c.args.name.now.key) is.project)))))))
