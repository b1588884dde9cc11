use Rattle.std.proofs.Common.{ap, ◌∙◌}
use Rattle.pv_tree.specs.Rules.Misfits.{start_misfits_type}
use Rattle.pv_types.proofs.ForCallers.{nameless, has_names}
use Rattle.pv_names.specs.InScope.{scope_of}
use Rattle.pv_rules_expr.specs.Places.{place_where}
use Rattle.pv_rules_decl.proofs.NearShared.{nameless_near, some_near, none_near}
use Rattle.pv_rules_decl.proofs.starts.misfit_start.Goals as goal

pub returns-then-is_empty : goal.returns-then-is_empty
returns-then-is_empty c = λ nearest. nameless_near (start_misfits_type (scope_of c.args.scope.now)) c.args.of.now nearest
    (nameless c.args.of.now c.is_empty.result c.is_empty.ensures c.if-is_empty.true)

pub returns-in-Some : goal.returns-in-Some
returns-in-Some c = λ nearest.
    let test = start_misfits_type (scope_of c.args.scope.now) in
    let some = has_names c.args.of.now c.is_empty.result c.is_empty.ensures c.if-is_empty.false in
    some_near test c.args.of.now c.in-Some.literal c.where_is.result nearest some c.in-Some.is
    (c.where_is.ensures ∙ ap (λ b. place_where b c.in-Some.literal.place)
    (c.misfits_held.ensures ∙ ap (λ t. test t c.in-Some.literal) c.level_of.ensures))

pub returns-in-None : goal.returns-in-None
returns-in-None c = λ nearest.
    let some = has_names c.args.of.now c.is_empty.result c.is_empty.ensures c.if-is_empty.false in
    none_near (start_misfits_type (scope_of c.args.scope.now)) c.args.of.now nearest some c.in-None.is
