use Rattle.std.proofs.Common.{◌<◌, sym, subst, ap, ◌∙◌, arith}
use Rattle.std.proofs.lemmas.Bool.{false≢true}
use Rattle.pv_tree.specs.View.{block_tree}
use Rattle.pv_mean.specs.declared.count.TheConstants.{BEYOND}
use Rattle.pv_mean.specs.Layout.{size_among}
use Rattle.pv_variables.specs.Variables.{is_bound_in}
use Rattle.pv_variables.proofs.Bounded.{entry_near, bound_near, bound_few}
use Rattle.pv_variables.proofs.numbers.bound_count.Goals as goal

pub returns-clause-room : goal.returns-clause-room
returns-clause-room c = λ source is h.
    let few = bound_few source (block_tree c.args.block.now) h in
    let own = c.in_ok-own.ensures.value source is in
    let params = c.in_ok-params.ensures.value source is
    ∙ ap (size_among source.project (is_bound_in (block_tree c.args.block.now))) c.requires in
    let value = c.value_count.ensures in
    let brief = c.in_ok-brief.ensures.value in
    c.behind.ensures.room (omega (arith, few, own, params, value, brief))

pub returns-in_err-own-clause-room : goal.returns-in_err-own-clause-room
returns-in_err-own-clause-room c = λ source is h.
    absurd (false≢true (c.in_err-own.ensures.room source is (entry_near source (block_tree c.args.block.now) h)))

pub returns-in_err-params-clause-room : goal.returns-in_err-params-clause-room
returns-in_err-params-clause-room c = λ source is h.
    absurd (false≢true (c.in_err-params.ensures.room source is
    (subst (λ l. size_among source.project (is_bound_in (block_tree c.args.block.now)) l < BEYOND) (sym c.requires)
    (bound_near source (block_tree c.args.block.now) h))))

pub returns-in_err-brief-clause-room : goal.returns-in_err-brief-clause-room
returns-in_err-brief-clause-room c = λ source is h.
    let few = bound_few source (block_tree c.args.block.now) h in
    let params = c.in_ok-params.ensures.value source is
    ∙ ap (size_among source.project (is_bound_in (block_tree c.args.block.now))) c.requires in
    let value = c.value_count.ensures in
    absurd (false≢true (c.in_err-brief.ensures.room (omega (arith, few, params, value))))
