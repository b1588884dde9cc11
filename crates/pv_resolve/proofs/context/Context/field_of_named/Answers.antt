use Rattle.std.proofs.Common.{option_map, refl, sym, subst}
use Rattle.std.proofs.lemmas.Result.{IfOk-weaker}
use Rattle.std.specs.Prelude.{IfSome}
use Rattle.pv_names.specs.Entries.{block_of}
use Rattle.pv_resolve.specs.Laying.{laid_tree}
use Rattle.pv_resolve.proofs.Naming.{type_numbered, field_of_block, no_type}
use Rattle.pv_resolve.proofs.Nears.{IsNear}
use Rattle.pv_resolve.proofs.context.Context.field_of_named.Goals as goal

pub returns-in-Some-clause-value : goal.returns-in-Some-clause-value
returns-in-Some-clause-value c =
    λ source is. IfOk-weaker c.variable_from.result _ _ (λ o e.
    field_of_block c.args.self.now source c.args.ty.now.key c.args.name.now.key (block_of c.in-Some.entry.now) c.args.first (option_map laid_tree o)
    is c.in-Some.ensures e)
    (c.variable_from.ensures.value source is
    (type_numbered c.args.self.now source c.args.ty.now.key (block_of c.in-Some.entry.now) c.number_of-number.result is c.in-Some.ensures
    c.number_of-number.ensures))

pub returns-in-None-clause-value : goal.returns-in-None-clause-value
returns-in-None-clause-value c =
    λ source is. no_type c.args.self.now source c.args.ty.now.key c.args.name.now.key c.args.first is c.in-None.ensures

pub returns-in-Some-clause-near : goal.returns-in-Some-clause-near
returns-in-Some-clause-near c =
    λ source is near. c.variable_from.ensures.near source is
    (type_numbered c.args.self.now source c.args.ty.now.key (block_of c.in-Some.entry.now) c.number_of-number.result is c.in-Some.ensures
    c.number_of-number.ensures)
    (subst (λ o. IfSome o IsNear)
    (sym (field_of_block c.args.self.now source c.args.ty.now.key c.args.name.now.key (block_of c.in-Some.entry.now) c.args.first _ is c.in-Some.ensures
    refl)) near)
