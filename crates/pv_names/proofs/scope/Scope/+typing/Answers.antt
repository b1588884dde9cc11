use Rattle.std.proofs.Common.{ap, sym, ◌∙◌, map, arith}
use Rattle.std.proofs.lemmas.List.{take_all}
use Rattle.pv_tree.specs.Sorts as sorts
use Rattle.pv_tree.specs.Types as types
use Rattle.pv_tree.specs.View.{expr_tree}
use Rattle.pv_names.specs.InScope.{scope_of}
use Rattle.pv_names.specs.Sorts.{sort_tree}
use Rattle.pv_tree.proofs.ForCallers.{unary_seen, std_seen}
use Rattle.pv_names.proofs.Steps.{sorts_mapped}
use Rattle.pv_names.proofs.LiteralSorts.{unary_made}
use Rattle.pv_names.proofs.scope.Scope.+typing.Goals as goal

pub sort_of-returns-in_ok-arg-in-Unary : goal.sort_of-returns-in_ok-arg-in-Unary
sort_of-returns-in_ok-arg-in-Unary t c =
    c.unary_sort.ensures
    ∙ unary_made (scope_of c.args.self.now) (expr_tree c.args.e.now) c.in-Unary.op c.in-Unary.place (expr_tree c.deref.result.now)
    (sort_tree c.in_ok-arg-in-Unary.arg)
    (unary_seen c.args.e.now c.in-Unary.op c.in-Unary.place c.in-Unary.arg c.deref.result.now c.in-Unary.is c.deref.ensures)
    c.in_ok-arg-in-Unary.ensures

pub sort_of-returns-after-loop-arg : goal.sort_of-returns-after-loop-arg
sort_of-returns-after-loop-arg t c =
    let scope = scope_of c.args.self.now in
    let f = c.in-Std.function in
    let items = c.deref-arg-items.result.now in
    c.one_of.ensures ∙ ap sorts.one_of c.result_of_function.ensures
    ∙ ap (λ l. sorts.one_of (sorts.result_of_function f (sorts.arguments_of f l)))
    (ap (map sort_tree) c.as_slice.ensures.value ∙ c.loop-arg.invariant
    ∙ ap (map (λ e. types.sort_of scope (expr_tree e))) (take_all c.loop-arg.arg-index items (omega arith))
    ∙ sorts_mapped scope items)
    ∙ ap (types.sort_of scope)
    (sym (std_seen c.args.e.now f c.in-Std.place c.in-Std.args items c.in-Std.is c.deref-arg-items.ensures.value))
