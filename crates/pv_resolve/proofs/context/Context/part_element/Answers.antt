use Rattle.std.proofs.Common.{refl, sym, subst, ap, inl, inr, rules}
use Rattle.std.specs.Prelude.{FitsSigned}
use Rattle.std.specs.Int.{w128}
use Rattle.std.proofs.lemmas.Int.{to_z-of_z}
use Rattle.pv_types.specs.View.{type_tree}
use Rattle.pv_names.specs.Views.{held_tree}
use Rattle.pv_resolve.specs.declared.begin.Begin.TheVariants.{In}
use Rattle.pv_resolve.proofs.Elements.{IsNoArray, same_bounds, goes_trap}
use Rattle.pv_resolve.proofs.FormLaws.{added_grows, added_within}
use Rattle.pv_resolve.proofs.Nears.{begins_small, trap_small, walk_trap}
use Rattle.pv_resolve.specs.Laying.{laid_tree}
use Rattle.pv_resolve.proofs.Fits.{failed_both}
use Rattle.pv_resolve.proofs.context.Context.part_element.Goals as goal

pub returns-in-Array-clause-goes : goal.returns-in-Array-clause-goes
returns-in-Array-clause-goes c =
    let a = c.in-Array in
    let low : FitsSigned w128 a.low = search rules in
    let high : FitsSigned w128 a.high = search rules in
    λ source base values is m. c.array_element.ensures.goes source base a.place values is
    (same_bounds (held_tree c.args.laid.ty) a.low a.high _ _ (type_tree a.of.now) a.place (ap held_tree a.is) (to_z-of_z w128 a.low low)
    (to_z-of_z w128 a.high high)) m

-- arms that are one in the code have one goal
pub returns-in_ok-n-in-Plain-clause-grows : goal.returns-in_ok-n-in-Plain-clause-grows
returns-in_ok-n-in-Plain-clause-grows c =
    added_grows _ _ _ c.in_ok-n-in-Plain.n c.in_ok-n-in-Plain.ensures.adds.1

pub returns-in_ok-n-in-Plain-clause-address : goal.returns-in_ok-n-in-Plain-clause-address
returns-in_ok-n-in-Plain-clause-address c =
    added_within _ _ _ c.in_ok-n-in-Plain.n c.in_ok-n-in-Plain.ensures.adds.1

pub returns-in_ok-n-in-Plain-clause-goes : goal.returns-in_ok-n-in-Plain-clause-goes
returns-in_ok-n-in-Plain-clause-goes c =
    let none : IsNoArray (held_tree c.args.laid.ty) = elim c.in-Plain.is [
      | inl p ↦ subst IsNoArray (sym (ap held_tree p.1)) tt
      | inr p ↦ elim p [
        | inl q ↦ subst IsNoArray (sym (ap held_tree q.1)) tt
        | inr q ↦ elim q [
          | inl r ↦ subst IsNoArray (sym (ap held_tree r.2)) tt
          | inr r ↦ subst IsNoArray (sym (ap held_tree r)) tt
        ]
      ]
    ] in
    λ source base values is m. goes_trap source base _ _ (In c.args.part c.args.laid) c.args.part c.args.laid c.args.from c.args.index
    c.in_ok-n-in-Plain.n c.in_ok-n-in-Plain.ensures.adds.0 c.args.place values refl none c.in_ok-n-in-Plain.ensures.adds.1 m

pub returns-in-Array-clause-room : goal.returns-in-Array-clause-room
returns-in-Array-clause-room c =
    let a = c.in-Array in
    let low : FitsSigned w128 a.low = search rules in
    let high : FitsSigned w128 a.high = search rules in
    λ source more is most h. c.array_element.ensures.room source more a.place is
    (same_bounds (held_tree c.args.laid.ty) a.low a.high _ _ (type_tree a.of.now) a.place (ap held_tree a.is) (to_z-of_z w128 a.low low)
    (to_z-of_z w128 a.high high)) most h

pub returns-in_err-n-in-Plain-clause-room : goal.returns-in_err-n-in-Plain-clause-room
returns-in_err-n-in-Plain-clause-room c =
    λ source more is most h. failed_both _ _ _ c.from_residual.ensures.1 (c.in_err-n-in-Plain.ensures.memory more most
    (trap_small more (begins_small source.project more c.args.part (laid_tree c.args.laid) h)))

pub returns-in_ok-n-in-Plain-clause-room : goal.returns-in_ok-n-in-Plain-clause-room
returns-in_ok-n-in-Plain-clause-room c =
    λ source more is most h. (
      tt,
      walk_trap source.project more _ _ c.args.from c.args.index c.in_ok-n-in-Plain.n c.args.place
          (c.in_ok-n-in-Plain.ensures.most more most (trap_small more (begins_small source.project more c.args.part (laid_tree c.args.laid) h))),
    )
