use Rattle.std.proofs.Common.{[], pos, map, None, refl, sym, ap, ◌∙◌, subst, arith}
use Rattle.pv_tree.specs.Sorts as sorts
use Rattle.pv_tree.specs.Things.{root_place, thing_of_root}
use Rattle.pv_names.specs.InScope.{scope_of}
use Rattle.pv_names.specs.Sorts.{sort_tree}
use Rattle.pv_names.specs.Views.{thing_tree}
use Rattle.pv_names.specs.Written.{written_tree}
use Rattle.pv_names.proofs.ForCallers.{unary_made}
use Rattle.pv_resolve.proofs.Sorting.{typed_by, literal_sort, read_sort, binary_sort, paren_sort, sorts_next, function_sort, field_indexed, index_indexed, told_none, told_next, told_all}
use Rattle.pv_eval.specs.Means.{activation}
use Rattle.pv_mean.specs.Activations.{root_begins}
use Rattle.std.proofs.lemmas.Result.{IfOk-weaker, on_ok_weaker}
use Rattle.pv_tree.specs.View.{expr_tree, operand_tree, step_tree, exprs_of, steps_of}
use Rattle.pv_resolve.specs.Begins.{begin_at}
use Rattle.std.proofs.lemmas.Bool.{false≢true}
use Rattle.pv_resolve.specs.Rooms.{FitsExpr, FitsOperand, FitsSteps, FitsStep, BeginsRoomy, FitsRoot}
use Rattle.pv_resolve.proofs.Rooms.{begins_field}
use Rattle.pv_resolve.proofs.Roots.{root_roomy}
use Rattle.pv_resolve.proofs.Fits.{literal_fits, lit_seen, no_lit, unary_fits, each_arg_fits, each_step_fits, failed, failed_both}
use Rattle.pv_tree.proofs.ForCallers.{operand_seen, unary_seen, binary_seen, std_seen, read_seen, place_seen, paren_seen, field_seen, index_seen}
use Rattle.pv_resolve.specs.Contexts.{block_in}
use Rattle.pv_resolve.proofs.FormLaws.{grows_twice, paren_means}
use Rattle.pv_resolve.proofs.Walking.{number_then, index_makes, walk_index, walk_field}
use Rattle.pv_resolve.proofs.Loops.{grows_none, HasArguments, arguments_none, arguments_next, arguments_all, walked_none, walked_next, walked_all}
use Rattle.pv_resolve.proofs.context.Context.+resolving.Goals as goal

pub expr-returns-in-Some : goal.expr-returns-in-Some
expr-returns-in-Some t c =
    record {
      grows = c.push_written.ensures.grows;
      within = c.push_written.ensures.within;
      sort = IfOk-weaker c.push_written.result _ _
          (λ m same. same ∙ literal_sort (scope_of c.args.self.now.scope) (expr_tree c.args.e.now) (written_tree c.in-Some.literal) c.in-Some.ensures)
          c.push_written.ensures.sort;
      room = λ source is h fits. c.push_written.ensures.memory (literal_fits (expr_tree c.args.e.now) _ (sym c.in-Some.ensures) fits);
      means = λ source is. c.push_written.ensures.means source (block_in c.args.self.now) (expr_tree c.args.e.now) (sym c.in-Some.ensures);
    }

pub expr-returns-in_ok-node-in-Read : goal.expr-returns-in_ok-node-in-Read
expr-returns-in_ok-node-in-Read t c =
    let found = c.in_ok-found-in-Read in
    let node = c.in_ok-node-in-Read in
    let seen = read_seen c.args.e.now c.in-Read.operand c.in-Read.is in
    record {
      grows = grows_twice _ _ _ found.ensures.grows node.ensures.grows;
      within = node.ensures.within;
      sort = read_sort (scope_of c.args.self.now.scope) (expr_tree c.args.e.now) (operand_tree c.in-Read.operand) (sort_tree found.found.sort) seen
          found.ensures.sort;
      room = λ source is h fits. tt;
      means = λ source is. node.ensures.means source (block_in c.args.self.now) _ (expr_tree c.args.e.now) (operand_tree c.in-Read.operand) seen
          (place_seen c.in-Read.operand) (found.ensures.names source is);
    }

pub expr-returns-in_ok-node-in-Unary : goal.expr-returns-in_ok-node-in-Unary
expr-returns-in_ok-node-in-Unary t c =
    let made = c.in_ok-made-in-Unary in
    let node = c.in_ok-node-in-Unary in
    let arg = expr_tree c.deref.result.now in
    let seen = unary_seen c.args.e.now c.in-Unary.op c.in-Unary.place c.in-Unary.arg c.deref.result.now c.in-Unary.is c.deref.ensures in
    let sort = c.unary_sort-sort.ensures ∙ unary_made (scope_of c.args.self.now.scope) (expr_tree c.args.e.now) c.in-Unary.op c.in-Unary.place arg
    (sort_tree made.made.sort) seen made.ensures.sort in
    record {
      grows = grows_twice _ _ _ made.ensures.grows node.ensures.grows;
      within = node.ensures.within;
      sort = sort;
      room = λ source is h fits. tt;
      means = λ source is. node.ensures.means source (block_in c.args.self.now) _ (expr_tree c.args.e.now) c.in-Unary.place arg seen
          (sym c.in-None.ensures) (c.type_of_sort-ty.ensures ∙ typed_by c.args.self.now source (expr_tree c.args.e.now) (sort_tree c.unary_sort-sort.result) is sort)
          (made.ensures.means source is);
    }

pub expr-returns-in_ok-node-in-Binary : goal.expr-returns-in_ok-node-in-Binary
expr-returns-in_ok-node-in-Binary t c =
    let l = c.in_ok-l-in-Binary in
    let r = c.in_ok-r-in-Binary in
    let node = c.in_ok-node-in-Binary in
    let left = expr_tree c.deref-in-Binary.result.now in
    let right = expr_tree c.deref-in-Binary-2.result.now in
    let seen = binary_seen c.args.e.now c.in-Binary.op c.in-Binary.place c.in-Binary.left c.in-Binary.right c.deref-in-Binary.result.now
    c.deref-in-Binary-2.result.now c.in-Binary.is c.deref-in-Binary.ensures c.deref-in-Binary-2.ensures in
    let sort = c.binary_sort-sort.ensures ∙ binary_sort (scope_of c.args.self.now.scope) (expr_tree c.args.e.now) c.in-Binary.op c.in-Binary.place left right
    (sort_tree l.l.sort) (sort_tree r.r.sort) seen l.ensures.sort r.ensures.sort in
    record {
      grows = grows_twice _ _ _ (grows_twice _ _ _ l.ensures.grows r.ensures.grows) node.ensures.grows;
      within = node.ensures.within;
      sort = sort;
      room = λ source is h fits. tt;
      means = λ source is. node.ensures.means source (block_in c.args.self.now) _ _ (expr_tree c.args.e.now) left right seen
          (c.type_of_sort-ty-in-Binary.ensures ∙ typed_by c.args.self.now source (expr_tree c.args.e.now) (sort_tree c.binary_sort-sort.result) is sort)
          (l.ensures.means source is) (r.ensures.means source is);
    }

pub expr-loop-arg-init : goal.expr-loop-arg-init
expr-loop-arg-init t c =
    record {
      arguments = subst (λ ns. HasArguments c.args.self.now c.args.nodes.now.items c.args.nodes.now.items ns []) (sym c.new-numbers.ensures.items)
          (arguments_none c.args.self.now c.args.nodes.now.items c.requires);
      sorts = ap (map sort_tree) c.new-sorts.ensures.items;
    }

pub expr-loop-arg-preserved : goal.expr-loop-arg-preserved
expr-loop-arg-preserved t c =
    let made = c.in_ok-made-in-Std in
    record {
      arguments = arguments_next c.args.self.now c.args.nodes.now.items _ _ c.loop-arg.numbers.items _ made.made.node c.deref-arg-items.result.now
          c.loop-arg.arg-index c.arg-item.result c.loop-arg-test.true c.arg-item.is c.in_ok-push-in-Std.ensures.items c.loop-arg.invariant.arguments
          made.ensures.grows made.ensures.within (λ source is. made.ensures.means source is);
      sorts = sorts_next (scope_of c.args.self.now.scope) c.loop-arg.sorts.items _ made.made.sort c.deref-arg-items.result.now c.loop-arg.arg-index
          c.arg-item.result c.loop-arg-test.true c.arg-item.is c.in_ok-push-in-Std-2.ensures.items made.ensures.sort c.loop-arg.invariant.sorts;
    }

pub expr-returns-after-loop-arg : goal.expr-returns-after-loop-arg
expr-returns-after-loop-arg t c =
    let items = c.deref-arg-items.result.now in
    let f = c.in-Std.function in
    let seen = std_seen c.args.e.now f c.in-Std.place c.in-Std.args items c.in-Std.is c.deref-arg-items.ensures.value in
    let sort = c.one_of-sort.ensures ∙ ap sorts.one_of c.result_of_function.ensures
    ∙ ap (λ l. sorts.one_of (sorts.result_of_function f (sorts.arguments_of f (map sort_tree l)))) c.as_slice.ensures.value
    ∙ function_sort (scope_of c.args.self.now.scope) (expr_tree c.args.e.now) f c.in-Std.place items c.loop-arg.arg-index
    (map sort_tree c.loop-arg.sorts.items) seen (omega arith) c.loop-arg.invariant.sorts in
    record {
      grows = on_ok_weaker c.push_applied.result (λ g. grows_twice _ _ _ c.loop-arg.invariant.arguments.grows g) c.push_applied.ensures.grows;
      within = c.push_applied.ensures.within;
      sort = IfOk-weaker c.push_applied.result _ _ (λ m same. ap sort_tree same ∙ sort) c.push_applied.ensures.sort;
      room = λ source is h fits. c.push_applied.ensures.memory;
      means = λ source is. c.push_applied.ensures.means source (block_in c.args.self.now) _ (expr_tree c.args.e.now) c.in-Std.place
          (exprs_of (map expr_tree items)) seen
          (typed_by c.args.self.now source (expr_tree c.args.e.now) (sort_tree c.one_of-sort.result) is sort)
          (arguments_all c.args.self.now c.args.nodes.now.items _ c.loop-arg.numbers.items items c.loop-arg.arg-index (omega arith)
          c.loop-arg.invariant.arguments source is);
    }

pub expr-returns-in-Paren : goal.expr-returns-in-Paren
expr-returns-in-Paren t c =
    let inner = expr_tree c.deref-in-Paren.result.now in
    let seen = paren_seen c.args.e.now c.in-Paren.field-0 c.in-Paren.inner c.deref-in-Paren.result.now c.in-Paren.is c.deref-in-Paren.ensures in
    record {
      grows = c.expr-in-Paren.ensures.grows;
      within = c.expr-in-Paren.ensures.within;
      sort = IfOk-weaker c.expr-in-Paren.result _ _
          (λ m same. paren_sort (scope_of c.args.self.now.scope) (expr_tree c.args.e.now) c.in-Paren.field-0 inner (sort_tree m.sort) seen same)
          c.expr-in-Paren.ensures.sort;
      room = λ source is h fits. c.expr-in-Paren.ensures.room source is h (subst FitsExpr seen fits);
      means = λ source is. IfOk-weaker c.expr-in-Paren.result _ _
          (λ m means. paren_means source (block_in c.args.self.now) _ _ m.node c.in-Paren.field-0 (expr_tree c.args.e.now) inner seen means)
          (c.expr-in-Paren.ensures.means source is);
    }

pub operand-loop-step-init : goal.operand-loop-step-init
operand-loop-step-init t c =
    let scope = scope_of c.args.self.now.scope in
    let o = c.args.operand.now in
    record {
      walked = walked_none c.args.self.now c.args.nodes.now.items c.in_ok-begin.begin c.block_begun.result c.args.operand.now.root.value c.requires c.in_ok-begin.ensures.spot
          (λ source is. c.block_begun.ensures source c.in_ok-begin.begin is (c.in_ok-begin.ensures.value source 0 is
          ∙ ap (root_begins source (activation (block_in c.args.self.now) 0)) c.deref.ensures))
          (λ source first is. c.in_ok-begin.ensures.value source first is
          ∙ ap (root_begins source (activation (block_in c.args.self.now) first)) c.deref.ensures);
      told = told_none scope o c.root_place-last.result (thing_tree c.root-thing.result) c.deref-step-items.result.now c.deref-step-items.ensures.value
          (c.root_place-last.ensures ∙ ap (λ r. root_place r o.place) c.deref-3.ensures)
          (c.root-thing.ensures ∙ ap (λ r. thing_of_root scope r o.place) c.deref-2.ensures);
      room = λ source is h fits. record {
        most = 0;
        is_most = refl;
        roomy = subst (BeginsRoomy source.project 0) (sym (c.in_ok-begin.ensures.value source 0 is
            ∙ ap (root_begins source (activation (block_in c.args.self.now) 0)) c.deref.ensures))
            (root_roomy source (block_in c.args.self.now) h c.args.operand.now.root.value);
        holds = c.block_begun.ensures source c.in_ok-begin.begin is (c.in_ok-begin.ensures.value source 0 is
            ∙ ap (root_begins source (activation (block_in c.args.self.now) 0)) c.deref.ensures);
      };
    }

pub operand-loop-step-preserved : goal.operand-loop-step-preserved
operand-loop-step-preserved t c =
    let next = c.in_ok-next in
    record {
      walked = walked_next c.args.self.now c.args.nodes.now.items _ _ c.loop-step.walk next.next.walk c.args.operand.now.root.value c.deref-step-items.result.now
          c.loop-step.step-index c.step-item.result c.loop-step-test.true c.step-item.is c.loop-step.invariant.walked next.ensures.grows
          next.ensures.spot next.ensures.address (λ source is w. next.ensures.leads source _ c.args.operand.now.root.value _ is w);
      told = told_next (scope_of c.args.self.now.scope) (operand_tree c.args.operand.now) c.loop-step.last c.last_behind-last.result
          (thing_tree c.loop-step.thing) (thing_tree c.dated-thing.result) (thing_tree c.step-thing.result) c.loop-step.indexed next.next.indexed
          c.deref-step-items.result.now c.loop-step.step-index c.step-item.result c.loop-step-test.true c.step-item.is c.dated-thing.ensures c.step-thing.ensures
          c.last_behind-last.ensures next.ensures.indexed c.loop-step.invariant.told;
      room = λ source is h fits. (next.ensures.room source is h
          (each_step_fits c.deref-step-items.result.now c.loop-step.step-index c.step-item.result c.loop-step-test.true c.step-item.is
          (subst (λ l. FitsSteps (steps_of (map step_tree l))) (sym c.deref-step-items.ensures.value)
          (subst FitsOperand (operand_seen c.args.operand.now) fits).1))
          (c.loop-step.invariant.room source is h fits)).1;
    }

pub operand-returns : goal.operand-returns
operand-returns t c =
    record {
      grows = c.loop-step.invariant.walked.grows;
      within = c.operand_at.ensures.within _ c.loop-step.invariant.walked.address;
      sort = told_all (scope_of c.args.self.now.scope) (operand_tree c.args.operand.now) c.loop-step.last (thing_tree c.loop-step.thing)
          (thing_tree c.dated.result) c.loop-step.indexed c.deref-step-items.result.now c.loop-step.step-index (sort_tree c.sort_at.result) (omega arith)
          c.loop-step.invariant.told c.dated.ensures c.sort_at.ensures;
      room = λ source is h fits. tt;
      names = λ source is. walked_all c.args.self.now c.args.nodes.now.items _ c.loop-step.walk c.args.operand.now c.operand_at.result
          c.deref-step-items.result.now c.loop-step.step-index c.deref-step-items.ensures.value (omega arith) c.loop-step.invariant.walked
          c.operand_at.ensures.value source is;
    }

pub step-returns-in_ok-begin-in-Field : goal.step-returns-in_ok-begin-in-Field
step-returns-in_ok-begin-in-Field t c =
    record {
      grows = grows_none _ c.requires.ordered;
      spot = c.in_ok-begin-in-Field.ensures.spot;
      address = c.requires.address;
      indexed = field_indexed (scope_of c.args.self.now.scope) (thing_tree c.args.thing) c.args.indexed (step_tree c.args.step.now) c.in-Field.name
          c.in-Field.field-1 (field_seen c.args.step.now c.in-Field.name c.in-Field.field-1 c.in-Field.is);
      room = λ source is h fits w. (
        tt,
        record {
          most = w.most;
          is_most = w.is_most;
          roomy = subst (BeginsRoomy source.project w.most) (sym (c.in_ok-begin-in-Field.ensures.value source is w.holds None (pos 0) 0))
              (begins_field source h.rules w.most (begin_at c.args.walk.begin 0) c.in-Field.name.key w.roomy);
          holds = tt;
        },
      );
      leads = λ source base root so_far is w. walk_field source (block_in c.args.self.now) base _ c.args.walk.begin c.in_ok-begin-in-Field.begin c.args.walk.block c.args.walk.address root so_far
          (step_tree c.args.step.now) c.in-Field.name c.in-Field.field-1
          (field_seen c.args.step.now c.in-Field.name c.in-Field.field-1 c.in-Field.is) (c.in_ok-begin-in-Field.ensures.value source is w.holds) w;
    }

pub step-returns-in_ok-next-in-Index : goal.step-returns-in_ok-next-in-Index
step-returns-in_ok-next-in-Index t c =
    let from = c.in_ok-from-in-Index in
    let i = c.in_ok-index-in-Index in
    let next = c.in_ok-next-in-Index in
    let e = expr_tree c.deref.result.now in
    let seen = index_seen c.args.step.now c.in-Index.e c.in-Index.place c.deref.result.now c.in-Index.is c.deref.ensures in
    record {
      grows = grows_twice _ _ _ (grows_twice _ _ _ from.ensures.grows i.ensures.grows) next.ensures.grows;
      spot = next.ensures.spot;
      address = next.ensures.address;
      indexed = c.still_indexed.ensures ∙ index_indexed (scope_of c.args.self.now.scope) (thing_tree c.args.thing) c.args.indexed (step_tree c.args.step.now) e
          c.in-Index.place (sort_tree i.index.sort) seen i.ensures.sort;
      room = λ source is h fits w. next.ensures.room source w.most is (i.ensures.grows.same_most from.from w.most (from.ensures.most w.most w.is_most))
          w.roomy;
      leads = λ source base root so_far is w.
          let begun = from.ensures.leads source (block_in c.args.self.now) base root (steps_of so_far) w in
          walk_index source (block_in c.args.self.now) base _ _ c.args.walk.begin c.args.walk.block from.from next.next root so_far (step_tree c.args.step.now) e c.in-Index.place
          seen begun
          (next.ensures.goes source base (number_then begun.meaning source (block_in c.args.self.now) e) is
          (index_makes source (block_in c.args.self.now) base _ _ c.args.walk.begin c.args.walk.block from.from i.index.node root so_far e begun (i.ensures.means source is)));
    }

pub step-returns-in_err-next-in-Index-clause-room : goal.step-returns-in_err-next-in-Index-clause-room
step-returns-in_err-next-in-Index-clause-room t c =
    let from = c.in_ok-from-in-Index in
    let i = c.in_ok-index-in-Index in
    λ source is h fits w. failed_both _ _ _ c.from_residual-in_err-next-in-Index.ensures.1 (c.in_err-next-in-Index.ensures.room source w.most is
    (i.ensures.grows.same_most from.from w.most (from.ensures.most w.most w.is_most)) w.roomy).0

pub expr-returns-in-Lit-clause-room : goal.expr-returns-in-Lit-clause-room
expr-returns-in-Lit-clause-room t c =
    λ source is h fits. absurd (no_lit (expr_tree c.args.e.now) c.in-Lit.ty c.in-Lit.value c.in-Lit.place
    (lit_seen c.args.e.now c.in-Lit.ty c.in-Lit.value c.in-Lit.place c.in-Lit.is) c.in-None.ensures)

pub expr-returns-in_err-found-in-Read-clause-room : goal.expr-returns-in_err-found-in-Read-clause-room
expr-returns-in_err-found-in-Read-clause-room t c =
    λ source is h fits. failed _ _ c.from_residual.ensures.1 (c.in_err-found-in-Read.ensures.room source is h (subst FitsExpr (read_seen c.args.e.now c.in-Read.operand c.in-Read.is) fits))

pub expr-returns-in_err-node-in-Read-clause-room : goal.expr-returns-in_err-node-in-Read-clause-room
expr-returns-in_err-node-in-Read-clause-room t c =
    λ source is h fits. failed _ _ c.from_residual-in_err-node-in-Read.ensures.1 c.in_err-node-in-Read.ensures.memory

pub expr-returns-in_err-node-in-Unary-clause-room : goal.expr-returns-in_err-node-in-Unary-clause-room
expr-returns-in_err-node-in-Unary-clause-room t c =
    λ source is h fits. failed _ _ c.from_residual-in_err-node-in-Unary.ensures.1 c.in_err-node-in-Unary.ensures.memory

pub expr-returns-in_err-node-in-Binary-clause-room : goal.expr-returns-in_err-node-in-Binary-clause-room
expr-returns-in_err-node-in-Binary-clause-room t c =
    λ source is h fits. failed _ _ c.from_residual-in_err-node-in-Binary.ensures.1 c.in_err-node-in-Binary.ensures.memory

pub expr-returns-in_err-made-in-Unary-clause-room : goal.expr-returns-in_err-made-in-Unary-clause-room
expr-returns-in_err-made-in-Unary-clause-room t c =
    λ source is h fits. failed _ _ c.from_residual-in_err-made-in-Unary.ensures.1 (c.in_err-made-in-Unary.ensures.room source is h
    (unary_fits (expr_tree c.args.e.now) (expr_tree c.deref.result.now) c.in-Unary.op c.in-Unary.place
    (unary_seen c.args.e.now c.in-Unary.op c.in-Unary.place c.in-Unary.arg c.deref.result.now c.in-Unary.is c.deref.ensures) c.in-None.ensures fits))

pub expr-returns-in_err-l-in-Binary-clause-room : goal.expr-returns-in_err-l-in-Binary-clause-room
expr-returns-in_err-l-in-Binary-clause-room t c =
    λ source is h fits. failed _ _ c.from_residual-in_err-l-in-Binary.ensures.1 (c.in_err-l-in-Binary.ensures.room source is h
    (subst FitsExpr (binary_seen c.args.e.now c.in-Binary.op c.in-Binary.place c.in-Binary.left c.in-Binary.right c.deref-in-Binary.result.now
    c.in-Binary.right.value c.in-Binary.is c.deref-in-Binary.ensures refl) fits).0)

pub expr-returns-in_err-r-in-Binary-clause-room : goal.expr-returns-in_err-r-in-Binary-clause-room
expr-returns-in_err-r-in-Binary-clause-room t c =
    λ source is h fits. failed _ _ c.from_residual-in_err-r-in-Binary.ensures.1 (c.in_err-r-in-Binary.ensures.room source is h
    (subst FitsExpr (binary_seen c.args.e.now c.in-Binary.op c.in-Binary.place c.in-Binary.left c.in-Binary.right c.deref-in-Binary.result.now
    c.deref-in-Binary-2.result.now c.in-Binary.is c.deref-in-Binary.ensures c.deref-in-Binary-2.ensures) fits).1)

pub expr-returns-in_err-made-in-Std-clause-room : goal.expr-returns-in_err-made-in-Std-clause-room
expr-returns-in_err-made-in-Std-clause-room t c =
    λ source is h fits. failed _ _ c.from_residual-in_err-made-in-Std.ensures.1 (c.in_err-made-in-Std.ensures.room source is h
    (each_arg_fits c.deref-arg-items.result.now c.loop-arg.arg-index c.arg-item.result c.loop-arg-test.true c.arg-item.is
    (subst FitsExpr (std_seen c.args.e.now c.in-Std.function c.in-Std.place c.in-Std.args c.deref-arg-items.result.now c.in-Std.is
    c.deref-arg-items.ensures.value) fits)))

pub operand-returns-in_err-begin-clause-room : goal.operand-returns-in_err-begin-clause-room
operand-returns-in_err-begin-clause-room t c =
    λ source is h fits. absurd (false≢true (c.in_err-begin.ensures.room source is h
    (subst FitsRoot (sym c.deref.ensures) (subst FitsOperand (operand_seen c.args.operand.now) fits).0)))

pub operand-returns-in_err-next-clause-room : goal.operand-returns-in_err-next-clause-room
operand-returns-in_err-next-clause-room t c =
    λ source is h fits. failed _ _ c.from_residual-in_err-next.ensures.1 (c.in_err-next.ensures.room source is h
    (each_step_fits c.deref-step-items.result.now c.loop-step.step-index c.step-item.result c.loop-step-test.true c.step-item.is
    (subst (λ l. FitsSteps (steps_of (map step_tree l))) (sym c.deref-step-items.ensures.value)
    (subst FitsOperand (operand_seen c.args.operand.now) fits).1))
    (c.loop-step.invariant.room source is h fits)).0

pub step-returns-in_err-begin-in-Field-clause-room : goal.step-returns-in_err-begin-in-Field-clause-room
step-returns-in_err-begin-in-Field-clause-room t c =
    λ source is h fits w. absurd (false≢true (c.in_err-begin-in-Field.ensures.room source w.most is w.holds h.rules w.roomy))

pub step-returns-in_err-from-in-Index-clause-room : goal.step-returns-in_err-from-in-Index-clause-room
step-returns-in_err-from-in-Index-clause-room t c =
    λ source is h fits w. failed_both _ _ _ c.from_residual-in_err-from-in-Index.ensures.1 c.in_err-from-in-Index.ensures.memory

pub step-returns-in_err-index-in-Index-clause-room : goal.step-returns-in_err-index-in-Index-clause-room
step-returns-in_err-index-in-Index-clause-room t c =
    λ source is h fits w. failed_both _ _ _ c.from_residual-in_err-index-in-Index.ensures.1 (c.in_err-index-in-Index.ensures.room source is h
    (subst FitsStep (index_seen c.args.step.now c.in-Index.e c.in-Index.place c.deref.result.now c.in-Index.is c.deref.ensures) fits))
