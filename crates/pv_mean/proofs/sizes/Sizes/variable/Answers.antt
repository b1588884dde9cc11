use Rattle.std.proofs.Common.{◌+◌, refl, ap, sym, ◌∙◌, drop}
use Rattle.std.proofs.lemmas.List.{drop_all}
use Rattle.pv_types.specs.View.{var_trees}
use Rattle.pv_types.proofs.ForCallers.{vars_from}
use Rattle.pv_mean.specs.Counts.{capped}
use Rattle.pv_mean.specs.Sized.{sized_project}
use Rattle.pv_mean.specs.LaidOut.{laid_counted, test_of}
use Rattle.pv_mean.proofs.LaidVariables.{counted_laid}
use Rattle.pv_mean.proofs.sizes.Sizes.variable.Goals as goal

pub returns-in-Found : goal.returns-in-Found
returns-in-Found c =
    let project = sized_project c.args.self.now in
    let test = test_of c.args.part in
    let vars = c.args.vars.now in
    let key = c.args.name.now.key in
    let i = c.loop-of.of-index in
    c.in-Found.ensures (var_trees (drop (i + 1) vars))
    ∙ ap (λ l. laid_counted project test l key c.loop-of.at) (sym (vars_from vars i c.of-item.result c.loop-of-test.true c.of-item.is))
    ∙ c.loop-of.invariant
    ∙ counted_laid project test (var_trees vars) key c.args.first (capped c.args.first) refl

pub loop-of-preserved : goal.loop-of-preserved
loop-of-preserved c =
    let project = sized_project c.args.self.now in
    let test = test_of c.args.part in
    let vars = c.args.vars.now in
    let key = c.args.name.now.key in
    let i = c.loop-of.of-index in
    c.in-Behind.ensures (var_trees (drop (i + 1) vars))
    ∙ ap (λ l. laid_counted project test l key c.loop-of.at) (sym (vars_from vars i c.of-item.result c.loop-of-test.true c.of-item.is))
    ∙ c.loop-of.invariant

pub returns : goal.returns
returns c =
    let project = sized_project c.args.self.now in
    let test = test_of c.args.part in
    let vars = c.args.vars.now in
    let key = c.args.name.now.key in
    ap (λ l. laid_counted project test (var_trees l) key c.loop-of.at) (sym (drop_all c.loop-of.of-index vars c.loop-of-test.false))
    ∙ c.loop-of.invariant
    ∙ counted_laid project test (var_trees vars) key c.args.first (capped c.args.first) refl
