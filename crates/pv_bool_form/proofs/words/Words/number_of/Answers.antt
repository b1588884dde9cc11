use Rattle.std.proofs.Common.{sym, ◌∙◌, arith}
use Rattle.std.proofs.lemmas.List.{length-map}
use Rattle.pv_types.specs.View.{var_tree}
use Rattle.pv_bool_form.specs.Wording.{words_of}
use Rattle.pv_bool_form.proofs.Places.{place_within}
use Rattle.pv_bool_form.proofs.words.Words.number_of.Goals as goal

pub overflow_cast-result : goal.overflow_cast-result
overflow_cast-result c =
    let lt = place_within (words_of c.args.self.now) c.deref.result.now c.in-Some.n (sym c.root.ensures ∙ c.in-Some.is) in
    let many = length-map c.args.self.now.vars.items var_tree in
    let few = c.args.self.now.few in
    omega (arith, lt, many, few)
