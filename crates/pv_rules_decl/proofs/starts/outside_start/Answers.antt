use Rattle.std.proofs.Common.{ap, ◌∙◌}
use Rattle.pv_tree.specs.Rules.OutOfRange.{start_is_outside}
use Rattle.pv_types.proofs.ForCallers.{nameless, has_names}
use Rattle.pv_rules_expr.specs.Places.{place_where}
use Rattle.pv_rules_decl.proofs.NearShared.{nameless_near, some_near, none_near}
use Rattle.pv_rules_decl.proofs.starts.outside_start.Goals as goal

pub returns-then-is_empty : goal.returns-then-is_empty
returns-then-is_empty c = λ nearest. nameless_near start_is_outside c.args.of.now nearest
    (nameless c.args.of.now c.is_empty.result c.is_empty.ensures c.if-is_empty.true)

pub returns-in-Some : goal.returns-in-Some
returns-in-Some c = λ nearest.
    let some = has_names c.args.of.now c.is_empty.result c.is_empty.ensures c.if-is_empty.false in
    some_near start_is_outside c.args.of.now c.in-Some.literal c.where_is.result nearest some c.in-Some.is
    (c.where_is.ensures ∙ ap (λ b. place_where b c.in-Some.literal.place)
    (c.is_start_outside.ensures ∙ ap (λ t. start_is_outside t c.in-Some.literal) c.level_of.ensures))

pub returns-in-None : goal.returns-in-None
returns-in-None c = λ nearest.
    let some = has_names c.args.of.now c.is_empty.result c.is_empty.ensures c.if-is_empty.false in
    none_near start_is_outside c.args.of.now nearest some c.in-None.is
