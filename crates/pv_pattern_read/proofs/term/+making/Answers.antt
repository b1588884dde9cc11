use Rattle.std.proofs.Common.{map, sym, ap, ◌∙◌, ◌<◌, arith, refl, subst, IfOk}
use Rattle.std.proofs.lemmas.Result.{IfOk-weaker}
use Rattle.pv_tree.specs.declared.expr.Expr.{size-Expr}
use Rattle.pv_tree.specs.Types.{literal_of}
use Rattle.pv_tree.specs.View.{expr_tree, operand_tree, exprs_of}
use Rattle.pv_names.specs.Written.{written_tree}
use Rattle.pv_names.specs.Sorts.{number_value}
use Rattle.pv_tree.proofs.ForCallers.{unary_seen, binary_seen, std_seen, read_seen, paren_seen}
use Rattle.pv_resolve.proofs.ForCallers.{lit_seen, no_lit}
use Rattle.pv_pattern.specs.Terms.{IsTermOf}
use Rattle.pv_pattern_read.proofs.Deep.{unary_falls, left_falls, right_falls, arg_falls, paren_falls}
use Rattle.pv_pattern_read.proofs.Wanted.{at_read, at_unary, at_kept, at_left, at_right, at_arg, at_paren, at_literal, as_many_terms, binary_left}
use Rattle.pv_pattern_read.proofs.Termed.{of_literal, of_paren, type_in, terms_none, terms_next, terms_all}
use Rattle.pv_pattern_read.proofs.term.+making.Goals as goal

pub constant-requires : goal.constant-requires
constant-requires t c = at_literal c.args.context.now (expr_tree c.args.e.now) (written_tree c.in-Some.literal) (sym c.in-Some.ensures) c.requires

pub returns-in-Some : goal.returns-in-Some
returns-in-Some t c = λ source is entered.
    of_literal source (expr_tree c.args.e.now) (written_tree c.in-Some.literal) c.constant.result (number_value c.in-Some.literal.number)
    (sym c.in-Some.ensures) c.constant.ensures refl

pub unreachable-requires : goal.unreachable-requires
unreachable-requires t c =
    no_lit (expr_tree c.args.e.now) c.in-Lit.ty c.in-Lit.value c.in-Lit.place
    (lit_seen c.args.e.now c.in-Lit.ty c.in-Lit.value c.in-Lit.place c.in-Lit.is) c.in-None.ensures

pub read_term-requires : goal.read_term-requires
read_term-requires t c =
    at_read c.args.context.now (expr_tree c.args.e.now) (operand_tree c.in-Read.operand) (read_seen c.args.e.now c.in-Read.operand c.in-Read.is) c.requires

pub returns-in-Read : goal.returns-in-Read
returns-in-Read t c = λ source is entered.
    subst (λ e. IfOk c.read_term.result (λ term. IsTermOf source term e)) (sym (read_seen c.args.e.now c.in-Read.operand c.in-Read.is))
    (c.read_term.ensures source is entered)

pub term_of-requires : goal.term_of-requires
term_of-requires t c =
    let smaller = unary_falls c.args.e.now c.deref.result.now c.in-Unary.op c.in-Unary.place c.in-Unary.arg c.in-Unary.is c.deref.ensures in
    let less : size-Expr c.deref.result.now < t = omega (arith, smaller, c.decreases) in (
      less,
      at_unary c.args.context.now (expr_tree c.args.e.now) (expr_tree c.deref.result.now) c.in-Unary.op c.in-Unary.place
          (unary_seen c.args.e.now c.in-Unary.op c.in-Unary.place c.in-Unary.arg c.deref.result.now c.in-Unary.is c.deref.ensures)
          c.in-None.ensures c.requires,
    )

pub returns-in_ok-ty-in-Unary : goal.returns-in_ok-ty-in-Unary
returns-in_ok-ty-in-Unary t c = λ source is entered.
    let seen = unary_seen c.args.e.now c.in-Unary.op c.in-Unary.place c.in-Unary.arg c.deref.result.now c.in-Unary.is c.deref.ensures in
    subst (λ e. IfOk c.unary_term.result (λ term. IsTermOf source term e)) (sym seen)
    (c.unary_term.ensures source c.in-Unary.place (expr_tree c.deref.result.now) (ap literal_of (sym seen) ∙ sym c.in-None.ensures)
    (type_in c.args.context.now source (expr_tree c.args.e.now) _ c.in_ok-ty-in-Unary.ty is entered seen c.in_ok-ty-in-Unary.ensures)
    (c.in_ok-term-in-Unary.ensures source is entered))

pub term_of-requires-in-Binary : goal.term_of-requires-in-Binary
term_of-requires-in-Binary t c =
    let l = c.deref-in-Binary.result.now in
    let smaller = left_falls c.args.e.now l c.in-Binary.op c.in-Binary.place c.in-Binary.left c.in-Binary.right c.in-Binary.is
    c.deref-in-Binary.ensures in
    let less : size-Expr l < t = omega (arith, smaller, c.decreases) in (
      less,
      at_left c.args.context.now (expr_tree c.args.e.now) (expr_tree l) _ c.in-Binary.op c.in-Binary.place
          (binary_left c.args.e.now c.in-Binary.op c.in-Binary.place c.in-Binary.left c.in-Binary.right l c.in-Binary.is c.deref-in-Binary.ensures)
          c.requires,
    )

pub term_of-requires-in-Binary-2 : goal.term_of-requires-in-Binary-2
term_of-requires-in-Binary-2 t c =
    let l = c.deref-in-Binary.result.now in
    let r = c.deref-in-Binary-2.result.now in
    let smaller = right_falls c.args.e.now r c.in-Binary.op c.in-Binary.place c.in-Binary.left c.in-Binary.right c.in-Binary.is
    c.deref-in-Binary-2.ensures in
    let less : size-Expr r < t = omega (arith, smaller, c.decreases) in (
      less,
      at_right c.args.context.now (expr_tree c.args.e.now) (expr_tree l) (expr_tree r) c.in-Binary.op c.in-Binary.place
          (binary_seen c.args.e.now c.in-Binary.op c.in-Binary.place c.in-Binary.left c.in-Binary.right l r c.in-Binary.is
          c.deref-in-Binary.ensures c.deref-in-Binary-2.ensures) c.requires,
    )

pub binary_term-requires : goal.binary_term-requires
binary_term-requires t c =
    let l = c.deref-in-Binary.result.now in
    let r = c.deref-in-Binary-2.result.now in
    at_kept c.args.context.now (expr_tree c.args.e.now) (expr_tree l) (expr_tree r) c.in-Binary.op c.in-Binary.place
    (binary_seen c.args.e.now c.in-Binary.op c.in-Binary.place c.in-Binary.left c.in-Binary.right l r c.in-Binary.is
    c.deref-in-Binary.ensures c.deref-in-Binary-2.ensures) c.requires

pub returns-in_ok-ty-in-Binary : goal.returns-in_ok-ty-in-Binary
returns-in_ok-ty-in-Binary t c = λ source is entered.
    let l = c.deref-in-Binary.result.now in
    let r = c.deref-in-Binary-2.result.now in
    let seen = binary_seen c.args.e.now c.in-Binary.op c.in-Binary.place c.in-Binary.left c.in-Binary.right l r c.in-Binary.is
    c.deref-in-Binary.ensures c.deref-in-Binary-2.ensures in
    subst (λ e. IfOk c.binary_term.result (λ term. IsTermOf source term e)) (sym seen)
    (c.binary_term.ensures source c.in-Binary.place (expr_tree l) (expr_tree r)
    (type_in c.args.context.now source (expr_tree c.args.e.now) _ c.in_ok-ty-in-Binary.ty is entered seen c.in_ok-ty-in-Binary.ensures)
    (c.in_ok-first-in-Binary.ensures source is entered) (c.in_ok-second-in-Binary.ensures source is entered))

pub term_of-requires-in-loop-arg : goal.term_of-requires-in-loop-arg
term_of-requires-in-loop-arg t c =
    let items = c.deref-arg-items.result.now in
    let smaller = arg_falls c.args.e.now c.arg-item.result c.in-Std.function c.in-Std.place c.in-Std.args c.in-Std.is items
    c.deref-arg-items.ensures.value c.loop-arg.arg-index c.loop-arg-test.true c.arg-item.is in
    let less : size-Expr c.arg-item.result < t = omega (arith, smaller, c.decreases) in (
      less,
      at_arg c.args.context.now (expr_tree c.args.e.now) c.in-Std.function c.in-Std.place items c.loop-arg.arg-index c.arg-item.result
          (std_seen c.args.e.now c.in-Std.function c.in-Std.place c.in-Std.args items c.in-Std.is c.deref-arg-items.ensures.value)
          c.loop-arg-test.true c.arg-item.is c.requires,
    )

pub loop-arg-init : goal.loop-arg-init
loop-arg-init t c = terms_none c.args.context.now c.new-terms.result.items c.new-terms.ensures.items

pub loop-arg-preserved : goal.loop-arg-preserved
loop-arg-preserved t c =
    terms_next c.args.context.now c.loop-arg.terms.items _ c.in_ok-term-in-Std.term c.deref-arg-items.result.now c.loop-arg.arg-index _
    c.arg-item.result c.loop-arg-test.true c.arg-item.is refl c.in_ok-push-in-Std.ensures.items (λ source is entered. c.in_ok-term-in-Std.ensures source is entered)
    c.loop-arg.invariant

pub function_term-requires : goal.function_term-requires
function_term-requires t c =
    let items = c.deref-arg-items.result.now in
    let h = c.requires in
    as_many_terms c.args.context.now (expr_tree c.args.e.now) c.in-Std.function c.in-Std.place items c.loop-arg.terms.items
    (std_seen c.args.e.now c.in-Std.function c.in-Std.place c.in-Std.args items c.in-Std.is c.deref-arg-items.ensures.value) h
    (terms_all c.args.context.now c.loop-arg.terms.items items c.loop-arg.arg-index (omega arith) c.loop-arg.invariant h.source h.context h.at)

pub returns-in_ok-ty-in-Std : goal.returns-in_ok-ty-in-Std
returns-in_ok-ty-in-Std t c = λ source is entered.
    let items = c.deref-arg-items.result.now in
    let seen = std_seen c.args.e.now c.in-Std.function c.in-Std.place c.in-Std.args items c.in-Std.is c.deref-arg-items.ensures.value in
    subst (λ e. IfOk c.function_term.result (λ term. IsTermOf source term e)) (sym seen)
    (c.function_term.ensures source c.in-Std.place (exprs_of (map expr_tree items))
    (type_in c.args.context.now source (expr_tree c.args.e.now) _ c.in_ok-ty-in-Std.ty is entered seen c.in_ok-ty-in-Std.ensures)
    (terms_all c.args.context.now c.loop-arg.terms.items items c.loop-arg.arg-index (omega arith) c.loop-arg.invariant source is entered))

pub term_of-requires-in-Paren : goal.term_of-requires-in-Paren
term_of-requires-in-Paren t c =
    let x = c.deref-in-Paren.result.now in
    let smaller = paren_falls c.args.e.now x c.in-Paren.field-0 c.in-Paren.inner c.in-Paren.is c.deref-in-Paren.ensures in
    let less : size-Expr x < t = omega (arith, smaller, c.decreases) in (
      less,
      at_paren c.args.context.now (expr_tree c.args.e.now) (expr_tree x) c.in-Paren.field-0
          (paren_seen c.args.e.now c.in-Paren.field-0 c.in-Paren.inner x c.in-Paren.is c.deref-in-Paren.ensures) c.requires,
    )

pub returns-in-Paren : goal.returns-in-Paren
returns-in-Paren t c = λ source is entered.
    IfOk-weaker c.term_of-in-Paren.result _ _
    (λ term h. of_paren source term (expr_tree c.args.e.now) (expr_tree c.deref-in-Paren.result.now) c.in-Paren.field-0
    (paren_seen c.args.e.now c.in-Paren.field-0 c.in-Paren.inner c.deref-in-Paren.result.now c.in-Paren.is c.deref-in-Paren.ensures) h)
    (c.term_of-in-Paren.ensures source is entered)
