use Rattle.std.proofs.Common.{refl, subst}
use Rattle.pv_variables.specs.Begun.{origin_of, IsElements}
use Rattle.pv_variables.specs.Origins.{elements_placed}
use Rattle.pv_lower.proofs.Stepping.{of_none}
use Rattle.pv_lower.proofs.lowering.Lowering.moved_element.Goals as goal

pub returns-in-Some : goal.returns-in-Some
returns-in-Some c = λ source a t is table at index.
    let o = elements_placed (origin_of c.args.access.now.begin) in
    c.move_on.ensures source.project a t o
    (subst (λ f. IsElements source.project o f) c.in-Some.is (c.in_ok-found.ensures.value source is.context)) table at index

pub returns-in-None : goal.returns-in-None
returns-in-None c = λ source a t is table at index.
    let o = elements_placed (origin_of c.args.access.now.begin) in
    of_none source.project a c.args.place t _ _ _ _ c.args.access.now _ o
    (subst (λ f. IsElements source.project o f) c.in-None.is (c.in_ok-found.ensures.value source is.context)) table refl refl at refl refl
