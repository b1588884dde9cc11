use Rattle.std.proofs.Common.{refl, map}
use Rattle.pv_types.specs.declared.layout.TheConstants.{MAX_LEAVES}
use Rattle.pv_types.specs.View.{vars_tree, var_trees}
use Rattle.pv_mean.specs.LaidOut.{test_of}
use Rattle.pv_cells.specs.Forms.{formed, leaves_among}
use Rattle.pv_cells.specs.Planned.{planned}
use Rattle.pv_cells.proofs.Pushing.{next_left, few_now, few_later, none_left}
use Rattle.pv_cells.proofs.PlanParts.{leaves-first, vars-first}
use Rattle.pv_cells.proofs.plan.Plan.push_variables.Goals as goal

pub push_part-requires : goal.push_part-requires
push_part-requires c =
    let p = planned c.args.self.now in
    let t = test_of c.args.part in
    record {
      plan = c.requires.plan;
      few = few_now c.args.vars.now c.loop-of.of-index _ c.of-item.result (λ l. leaves_among p t (var_trees l))
          (leaves_among p t (vars_tree c.of-item.result)) (leaves-first p t c.of-item.result) c.loop-of-test.true c.of-item.is refl MAX_LEAVES c.loop-of.invariant.few;
    }

pub loop-of-preserved : goal.loop-of-preserved
loop-of-preserved c =
    let p = planned c.args.self.now in
    let t = test_of c.args.part in
    let form = c.args.form in
    record {
      grown = next_left c.args.vars.now c.loop-of.of-index _ c.of-item.result (λ l. map (formed form) (leaves_among p t (var_trees l)))
          (map (formed form) (leaves_among p t (vars_tree c.of-item.result))) (vars-first form p t c.of-item.result) c.loop-of-test.true c.of-item.is refl
          c.loop-of.cells.items c.push_part.new.cells.items _ c.in_ok-push_part.ensures c.loop-of.invariant.grown;
      few = few_later c.args.vars.now c.loop-of.of-index _ c.of-item.result (λ l. leaves_among p t (var_trees l)) (leaves_among p t (vars_tree c.of-item.result))
          (leaves-first p t c.of-item.result) c.loop-of-test.true c.of-item.is refl MAX_LEAVES c.loop-of.invariant.few;
    }

pub returns : goal.returns
returns c =
    let p = planned c.args.self.now in
    let t = test_of c.args.part in
    none_left c.args.vars.now c.loop-of.of-index (λ l. map (formed c.args.form) (leaves_among p t (var_trees l))) c.loop-of.cells.items _ refl
    c.loop-of-test.false c.loop-of.invariant.grown
