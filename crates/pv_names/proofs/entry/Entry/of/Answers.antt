use Rattle.std.proofs.Common.{ap, sym, subst, ◌∙◌, ℕ, List, map, None}
use Rattle.std.specs.Prelude.{bytes_eq}
use Rattle.std.proofs.lemmas.Simd.{map-map}
use Rattle.pv_types.specs.declared.var.Var.{Var}
use Rattle.pv_types.specs.Tree.{VarTree}
use Rattle.pv_types.specs.View.{var_tree, var_trees, name_of}
use Rattle.pv_names.specs.Firsts.{number_in, first_number}
use Rattle.pv_names.specs.Needed.{needed_among}
use Rattle.pv_names.specs.Params.{sole_input}
use Rattle.pv_names.specs.Doubled.{FindsDoubled}
use Rattle.pv_names.proofs.UniqueNames.{told_by_table}
use Rattle.pv_names.proofs.entry.Entry.of.Goals as goal

pub invariant_of-result-clause-all : goal.invariant_of-result-clause-all
invariant_of-result-clause-all c = c.in_ok-vars.ensures ∙ ap var_trees c.as_slice.ensures.value

pub invariant_of-result-clause-by_name : goal.invariant_of-result-clause-by_name
invariant_of-result-clause-by_name c = λ key.
    c.in_ok-numbers.ensures.firsts key ∙ ap (λ vars. first_number (bytes_eq key) (map (λ v. v.name.now.key) vars)) c.as_slice-2.ensures.value

pub invariant_of-result-clause-all_needed : goal.invariant_of-result-clause-all_needed
invariant_of-result-clause-all_needed c =
    c.in_ok-needed.ensures ∙ ap (λ vars. needed_among c.args.block.now.kind (map var_tree vars)) c.as_slice-3.ensures.value

pub invariant_of-result-clause-one_input : goal.invariant_of-result-clause-one_input
invariant_of-result-clause-one_input c =
    c.sole_input-sole.ensures ∙ ap (λ vars. sole_input None (map var_tree vars)) c.as_slice-4.ensures.value

pub invariant_of-result-clause-apart : goal.invariant_of-result-clause-apart
invariant_of-result-clause-apart c =
    let key : Var → List ℕ = λ v. v.name.now.key in
    let name : VarTree → List ℕ = λ v. (name_of v).key in
    let vars = c.as_slice-2.result.now in
    told_by_table (number_in c.in_ok-numbers.numbers) (map key vars) (map name (var_trees c.args.block.now.interface.vars.items))
    c.in_ok-numbers.unique c.in_ok-numbers.ensures.firsts
    (sym (map-map name var_tree vars)
    ∙ ap (map name) (ap (map var_tree) c.as_slice-2.ensures.value ∙ c.in_ok-vars.ensures ∙ ap var_trees c.as_slice.ensures.value))
    c.in_ok-numbers.ensures.unique

pub invariant_of-result-clause-by_part : goal.invariant_of-result-clause-by_part
invariant_of-result-clause-by_part c =
    subst (λ (vars : List Var). FindsDoubled c.in_ok-doubled.doubled c.in_ok-numbers.unique (map var_tree vars))
    c.as_slice-5.ensures.value c.in_ok-doubled.ensures
