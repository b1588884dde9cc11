use Rattle.std.proofs.Common.{ap, sym, ◌∙◌, ◌∷◌, suc, add-one}
use Rattle.std.proofs.lemmas.Option.{IfSome_then}
use Rattle.pv_types.specs.View.{var_tree, trees_from}
use Rattle.pv_types.proofs.Words.{first_named, got_at, past_all, none_on}
use Rattle.pv_types.proofs.var.first_from.Goals as goal

pub returns-in-Some-get-clause-some : goal.returns-in-Some-get-clause-some
returns-in-Some-get-clause-some c =
    let v = c.in-Some.of.now in
    let all = c.args.vars.now in
    let n = c.args.from in
    let w = c.in-Some-get.word.now in
    let l = c.in-Some-get.ensures.lookup in
    first_named v c.in-Some.behind.now all n w c.in-Some.ensures.cases.0
    (got_at v.names.items c.as_slice.result.now n w c.as_slice.ensures.value l.3.0 l.1)
    ∙ ap (λ t. t ∷ trees_from all (suc n)) (sym c.var_of-var.ensures.tree)
    ∙ ap (λ m. var_tree c.var_of-var.result ∷ trees_from all m) (sym (add-one n))

pub returns-in-Some-get-clause-shared : goal.returns-in-Some-get-clause-shared
returns-in-Some-get-clause-shared c =
    c.in-Some.ensures.cases.0 ∙ ap (λ v. v ∷ c.in-Some.behind.now) (sym c.var_of-var.ensures.shared)

pub returns-in-None-clause-some : goal.returns-in-None-clause-some
returns-in-None-clause-some c =
    let v = c.in-Some.of.now in
    IfSome_then c.first_of.result c.first_of.ensures.some
    (λ f e. past_all v c.in-Some.behind.now c.args.vars.now c.args.from c.as_slice.result.now c.in-Some.ensures.cases.0
    c.as_slice.ensures.value c.in-None.ensures.lookup.3 ∙ e)

pub returns-in-None-clause-none : goal.returns-in-None-clause-none
returns-in-None-clause-none c =
    let v = c.in-Some.of.now in
    none_on c.first_of.result
    (λ e. past_all v c.in-Some.behind.now c.args.vars.now c.args.from c.as_slice.result.now c.in-Some.ensures.cases.0
    c.as_slice.ensures.value c.in-None.ensures.lookup.3 ∙ e)
    c.first_of.ensures.none
