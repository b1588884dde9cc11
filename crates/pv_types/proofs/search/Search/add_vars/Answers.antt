use Rattle.std.proofs.Common.{ap, refl, arith, ℕ, ◌≡◌}
use Rattle.pv_types.specs.Named.{types_of}
use Rattle.pv_types.specs.View.{vars_tree, var_trees, listed}
use Rattle.pv_types.specs.Sizes.{size_of_vars, size_of_named}
use Rattle.pv_types.specs.Walk.{around_view}
use Rattle.pv_types.proofs.Searching.{pushed_covered, then_covered, vars_parted, if_ok}
use Rattle.pv_types.proofs.search.Search.add_vars.Goals as goal

pub returns : goal.returns
returns c =
    let types = types_of c.args.named.now in
    let around = around_view c.args.around in
    let rest = λ (n : ℕ). size_of_vars (size_of_named types n) around (listed (var_trees c.in-Some.vars.now)) in
    let first = λ (n : ℕ). size_of_vars (size_of_named types n) around (listed (vars_tree c.in-Some.of.now)) in
    let whole = λ (n : ℕ). size_of_vars (size_of_named types n) around (listed (var_trees c.args.vars.now)) in
    let both : (n : ℕ) → rest n ≡ 0 → first n ≡ 0 → whole n ≡ 0 =
    λ n a b. let sum = vars_parted (size_of_named types n) around (vars_tree c.in-Some.of.now) (var_trees c.in-Some.vars.now) in
    let parts = ap (λ l. size_of_vars (size_of_named types n) around (listed (var_trees l))) c.in-Some.ensures.cases.0 in
    omega (arith, sum, parts, a, b) in
    if_ok c.add_shared.result
    (λ found covers no. then_covered types c.args.self.now _ c.add_shared.new.self rest first whole
    (pushed_covered types c.args.self.now _ _ rest c.in_ok-push.ensures.items refl (λ n none. none)) (covers no) both)
    c.add_shared.ensures
