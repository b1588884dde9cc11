use Rattle.std.proofs.Common.{ℤ, [], ◌∷◌, ◌++◌, map, rules, ap, ◌∙◌}
use Rattle.std.specs.Int.{w128}
use Rattle.std.specs.Prelude.{FitsSigned}
use Rattle.std.proofs.lemmas.Int.{to_z-of_z}
use Rattle.pv_mean.specs.declared.cell.Cell.{Cell}
use Rattle.pv_flow.specs.Automata.{Variable}
use Rattle.pv_flow.specs.View.{variable_of}
use Rattle.pv_variables.proofs.Listing.{one_behind}
use Rattle.pv_variables.proofs.list.push_cell.Goals as goal

abbrev started : Cell → ℤ → Variable
started x s = record { ty = x.ty; role = x.role; start = s; only = x.bound }

pub returns : goal.returns
returns c =
    let fits : FitsSigned w128 c.args.cell.now.start = search rules in
    one_behind c.args.vars.now.items c.push.new.self.items _ c.in_ok-push.ensures.items
    ∙ ap (λ (s : ℤ). map variable_of c.args.vars.now.items ++ started c.args.cell.now s ∷ []) (to_z-of_z w128 c.args.cell.now.start fits)
