use Rattle.std.proofs.Common.{◌≡◌, map, sym, refl, subst, ap, ◌∙◌, arith}
use Rattle.std.proofs.lemmas.Result.{IfOk-weaker, on_ok_weaker}
use Rattle.pv_word.specs.declared.types.Ty.TheVariants.{Dint}
use Rattle.pv_tree.specs.LiteralTypes.{nothing}
use Rattle.pv_tree.specs.Types.{literal_of}
use Rattle.pv_tree.specs.View.{expr_tree, operand_tree, step_tree, exprs_of}
use Rattle.pv_tree.proofs.ForCallers.{unary_seen, binary_seen, std_seen, read_seen, place_seen, paren_seen, field_seen, index_seen}
use Rattle.pv_names.specs.Sorts.{want_tree}
use Rattle.pv_names.specs.Written.{written_tree}
use Rattle.pv_resolve.specs.Contexts.{block_in}
use Rattle.pv_variables.specs.Origins.{placed}
use Rattle.pv_lower.specs.Lowered.{scope_of, part_type}
use Rattle.pv_lower.specs.Lowering.{IsMeeting, IsWanted}
use Rattle.pv_lower.proofs.Behind.{access_keeps}
use Rattle.pv_terms.proofs.ForCallers.{keeps}
use Rattle.pv_lower.proofs.Composed.{of_literal, of_read, of_unary, of_paren, of_binary, of_function, of_type}
use Rattle.pv_lower.proofs.Stepping.{of_field, of_known, of_index}
use Rattle.pv_lower.proofs.Loops.{given_none, given_next, given_all, reached_none, reached_next, reached_all}
use Rattle.pv_lower.proofs.lowering.Lowering.+lowering.Goals as goal

pub expression-returns-in-Some : goal.expression-returns-in-Some
expression-returns-in-Some t c = λ source is table.
    IfOk-weaker c.push_literal.result _ _
    (λ n p. of_literal source (block_in c.args.self.now.context) (want_tree c.args.want) (expr_tree c.args.e.now) (written_tree c.in-Some.literal) _ _ _ n
    c.in-Some.ensures p)
    (c.push_literal.ensures table)

pub expression-returns-in_ok-access-in-Read : goal.expression-returns-in_ok-access-in-Read
expression-returns-in_ok-access-in-Read t c = λ source is table.
    let x = c.in_ok-access-in-Read.ensures source is table in
    IfOk-weaker c.part_read.result _ _
    (λ n y. of_read source (block_in c.args.self.now.context) (want_tree c.args.want) (expr_tree c.args.e.now) (operand_tree c.in-Read.operand)
    _ c.in_ok-access-in-Read.access _ _ _ _ _ _ n (read_seen c.args.e.now c.in-Read.operand c.in-Read.is) (place_seen c.in-Read.operand) x y)
    (c.part_read.ensures source _ is x.checks.grows.table x.access)

pub expression-returns-in_ok-push_operator-in-Unary : goal.expression-returns-in_ok-push_operator-in-Unary
expression-returns-in_ok-push_operator-in-Unary t c = λ source is table.
    let arg = c.deref-in-Unary.result.now in
    let x = c.in_ok-a-in-Unary.ensures source is table in
    of_unary source (block_in c.args.self.now.context) (want_tree c.args.want) (expr_tree c.args.e.now) c.in-Unary.op c.in-Unary.place (expr_tree arg)
    c.in_ok-own-in-Unary.own _ _ _ _ _ _ _
    (unary_seen c.args.e.now c.in-Unary.op c.in-Unary.place c.in-Unary.arg arg c.in-Unary.is c.deref-in-Unary.ensures) c.in-None.ensures
    (subst (λ x. c.in_ok-own-in-Unary.own ≡ part_type (scope_of source (block_in c.args.self.now.context)) nothing (expr_tree x))
    (c.deref.ensures ∙ sym c.deref-in-Unary.ensures) (c.in_ok-own-in-Unary.ensures source is)) x
    (c.in_ok-push_operator-in-Unary.ensures _ x.checks.grows.table x.at)

pub expression-returns-in_ok-b-in-Binary : goal.expression-returns-in_ok-b-in-Binary
expression-returns-in_ok-b-in-Binary t c = λ source is table.
    let l = c.deref-in-Binary-3.result.now in
    let r = c.deref-in-Binary-4.result.now in
    let scope = scope_of source (block_in c.args.self.now.context) in
    let x = c.in_ok-a-in-Binary.ensures source is table in
    let y = c.in_ok-b-in-Binary.ensures source is x.checks.grows.table in
    IfOk-weaker c.push_joined.result _ _
    (λ n z. of_binary source (block_in c.args.self.now.context) (want_tree c.args.want) (expr_tree c.args.e.now) c.in-Binary.op c.in-Binary.place
    (expr_tree l) (expr_tree r) c.in_ok-met-in-Binary.met _ _ _ _ _ _ _ _ _ _ n
    (binary_seen c.args.e.now c.in-Binary.op c.in-Binary.place c.in-Binary.left c.in-Binary.right l r c.in-Binary.is c.deref-in-Binary-3.ensures
    c.deref-in-Binary-4.ensures)
    (subst (λ b. IsMeeting c.in_ok-met-in-Binary.met scope (expr_tree l) (expr_tree b)) (c.deref-in-Binary-2.ensures ∙ sym c.deref-in-Binary-4.ensures)
    (subst (λ a. IsMeeting c.in_ok-met-in-Binary.met scope (expr_tree a) (expr_tree c.deref-in-Binary-2.result.now))
    (c.deref-in-Binary.ensures ∙ sym c.deref-in-Binary-3.ensures) (c.in_ok-met-in-Binary.ensures source is))) x y z)
    (c.push_joined.ensures _ _ y.checks.grows.table (keeps _ _ _ _ y.checks.grows x.at) y.at)

pub expression-loop-arg-init : goal.expression-loop-arg-init
expression-loop-arg-init t c =
    given_none c.args.self.now c.in_ok-wants-in-Std.wants c.args.nodes.now.items c.args.checks.now.items c.new-given.result.items
    c.deref-arg-items.result.now c.new-given.ensures.items

pub expression-loop-arg-preserved : goal.expression-loop-arg-preserved
expression-loop-arg-preserved t c =
    given_next c.args.self.now c.in_ok-wants-in-Std.wants c.args.nodes.now.items _ _ c.args.checks.now.items _ _ c.loop-arg.given.items _ _ c.loop-arg.wanted
    c.loop-arg.arg-index c.deref-arg-items.result.now c.arg-item.result c.loop-arg-test.true c.arg-item.is c.in_ok-push-in-Std.ensures.items
    c.loop-arg.invariant (λ source is. c.in_ok-own-in-Std.ensures source is) (λ source is table. c.in_ok-term-in-Std.ensures source is table)

pub expression-returns-in_ok-ty-in-Std : goal.expression-returns-in_ok-ty-in-Std
expression-returns-in_ok-ty-in-Std t c = λ source is table.
    let items = c.deref-arg-items.result.now in
    let block = block_in c.args.self.now.context in
    let same = c.as_slice.ensures.value ∙ sym c.deref-arg-items.ensures.value in
    let last = c.as_slice-in-Std.ensures.value ∙ sym c.deref-arg-items.ensures.value in
    let x = given_all c.args.self.now c.in_ok-wants-in-Std.wants c.args.nodes.now.items _ c.args.checks.now.items _ c.loop-arg.given.items c.loop-arg.wanted
    c.loop-arg.arg-index items (omega arith) c.loop-arg.invariant source is table _
    (subst (λ l. IsWanted c.in_ok-wants-in-Std.wants c.in-Std.function (scope_of source block) (exprs_of (map expr_tree l))) same
    (c.in_ok-wants-in-Std.ensures source is)) in
    IfOk-weaker c.push_applied.result _ _
    (λ n p. of_function source block (want_tree c.args.want) (expr_tree c.args.e.now) c.in-Std.function c.in-Std.place (exprs_of (map expr_tree items))
    (exprs_of (map expr_tree c.as_slice-in-Std.result.now)) c.in_ok-ty-in-Std.ty c.loop-arg.given.items _ _ _ _ _ n
    (std_seen c.args.e.now c.in-Std.function c.in-Std.place c.in-Std.args items c.in-Std.is c.deref-arg-items.ensures.value)
    (c.in_ok-ty-in-Std.ensures source is) x (ap (λ l. exprs_of (map expr_tree l)) last) p)
    (c.push_applied.ensures _ x.checks.grows.table x.terms)

pub expression-returns-in-Paren : goal.expression-returns-in-Paren
expression-returns-in-Paren t c = λ source is table.
    IfOk-weaker c.expression-in-Paren.result _ _
    (λ n x. of_paren source (block_in c.args.self.now.context) (want_tree c.args.want) (expr_tree c.args.e.now) c.in-Paren.field-0
    (expr_tree c.deref-in-Paren.result.now) _ _ _ _ n
    (paren_seen c.args.e.now c.in-Paren.field-0 c.in-Paren.inner c.deref-in-Paren.result.now c.in-Paren.is c.deref-in-Paren.ensures) x)
    (c.expression-in-Paren.ensures source is table)

pub operand-loop-step-init : goal.operand-loop-step-init
operand-loop-step-init t c =
    reached_none c.args.self.now c.args.nodes.now.items c.args.checks.now.items _ c.args.operand.now.root.value
    (λ source is. c.in_ok-begin.ensures.value source is.context ∙ ap (placed source (block_in c.args.self.now.context)) c.deref.ensures)
    c.new-moves.ensures.items

pub operand-loop-step-preserved : goal.operand-loop-step-preserved
operand-loop-step-preserved t c =
    reached_next c.args.self.now c.args.nodes.now.items _ _ c.args.checks.now.items _ _ c.loop-step.access _ c.args.operand.now.root.value
    c.deref-step-items.result.now c.loop-step.step-index c.step-item.result c.loop-step-test.true c.step-item.is c.loop-step.invariant
    (λ source a is table at. c.in_ok-step.ensures source a is table at)

pub operand-returns : goal.operand-returns
operand-returns t c = λ source is table.
    reached_all c.args.self.now c.args.nodes.now.items _ c.args.checks.now.items _ c.loop-step.access c.args.operand.now c.deref-step-items.result.now
    c.loop-step.step-index c.deref-step-items.ensures.value (omega arith) c.loop-step.invariant source is table

pub step-returns-in_ok-begin-in-Field : goal.step-returns-in_ok-begin-in-Field
step-returns-in_ok-begin-in-Field t c = λ source a is table at.
    of_field source (block_in c.args.self.now.context) a (step_tree c.args.step.now) c.in-Field.name c.in-Field.field-1 c.args.access.now _ _ _
    (field_seen c.args.step.now c.in-Field.name c.in-Field.field-1 c.in-Field.is) table at
    (c.in_ok-begin-in-Field.ensures.value source is.context) refl

pub step-returns-in-Some : goal.step-returns-in-Some
step-returns-in-Some t c = λ source a is table at.
    on_ok_weaker c.known_element.result
    (λ x. of_known source (block_in c.args.self.now.context) a (step_tree c.args.step.now) (expr_tree c.deref.result.now) c.in-Index.place
    (written_tree c.in-Some.literal) _ _ _
    (index_seen c.args.step.now c.in-Index.e c.in-Index.place c.deref.result.now c.in-Index.is c.deref.ensures) c.in-Some.ensures table x)
    (c.known_element.ensures source _ a is at)

pub step-returns-in_ok-index-in-None : goal.step-returns-in_ok-index-in-None
step-returns-in_ok-index-in-None t c = λ source a is table at.
    let block = block_in c.args.self.now.context in
    let e = expr_tree c.deref-in-None-2.result.now in
    let x = c.in_ok-own-in-None.ensures source is table in
    let y = c.in_ok-index-in-None.ensures _ x.checks.grows.table x.at in
    let of = subst (λ i. c.in_ok-ty-in-None.ty ≡ part_type (scope_of source block) nothing (expr_tree i))
    (c.deref-in-None.ensures ∙ sym c.deref-in-None-2.ensures) (c.in_ok-ty-in-None.ensures source is) in
    let none = c.in-None.ensures ∙ ap (λ i. literal_of (expr_tree i)) (c.deref.ensures ∙ sym c.deref-in-None-2.ensures) in
    let z = of_type source block nothing e c.in_ok-ty-in-None.ty Dint _ _ _ _ _ _ _ of x y in
    on_ok_weaker c.moved_element.result
    (λ w. of_index source block a (step_tree c.args.step.now) e c.in-Index.place c.args.access.now _ _ _ _ _ _ _ _
    (index_seen c.args.step.now c.in-Index.e c.in-Index.place c.deref-in-None-2.result.now c.in-Index.is c.deref-in-None-2.ensures) none at.origin z w)
    (c.moved_element.ensures source a _ is z.checks.grows.table (access_keeps _ _ c.args.access.now a z.checks.grows at) z.at)
