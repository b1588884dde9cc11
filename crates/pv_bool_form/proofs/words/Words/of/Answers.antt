use Rattle.std.proofs.Common.{◌≡◌, ◌∙◌, ap, map, sym, arith, length}
use Rattle.std.proofs.lemmas.List.{length-map}
use Rattle.pv_types.specs.View.{var_tree, var_trees}
use Rattle.pv_bool_form.specs.Numbering.{place_of_key}
use Rattle.pv_bool_form.proofs.words.Words.of.Goals as goal

pub invariant_of-result : goal.invariant_of-result
invariant_of-result c =
    let many : length c.in_ok-vars.vars.items ≡ length (var_trees c.args.declared.now) =
    sym (length-map c.in_ok-vars.vars.items var_tree) ∙ ap length c.in_ok-vars.ensures in record {
      few = omega (arith, many, c.requires);
      by_name = λ key. c.in_ok-numbers.ensures key ∙ ap (λ l. place_of_key (map var_tree l) key) c.as_slice.ensures.value;
    }
