use Rattle.std.proofs.Common.{ap, sym, subst, ◌∙◌, inl, inr}
use Rattle.pv_names.specs.Views.{held_tree}
use Rattle.pv_resolve.specs.Laying.{laid_tree}
use Rattle.pv_mean.specs.Activations.{spot_of}
use Rattle.pv_resolve.specs.Begins.{begins_in, begins_behind, address_value}
use Rattle.pv_resolve.proofs.Fields.{IsNoCell, no_cell}
use Rattle.pv_resolve.proofs.walk.part_at.Goals as goal

pub returns-in-Plain-clause-value : goal.returns-in-Plain-clause-value
returns-in-Plain-clause-value c =
    λ begin values. c.cell_at.ensures.value begin values
    ∙ ap (λ t. spot_of (begins_behind c.args.address (address_value c.args.address values)
    (begins_in c.args.part begin (record { ty = t; first = c.args.laid.first })))) (sym (ap held_tree c.in-Plain.is))

-- arms that are one in the code have one goal
pub returns-in-Array-clause-value : goal.returns-in-Array-clause-value
returns-in-Array-clause-value c =
    let none : IsNoCell (held_tree c.args.laid.ty) = elim c.in-Array.is [
      | inl p ↦ subst IsNoCell (sym (ap held_tree p.4)) tt
      | inr p ↦ elim p [
        | inl q ↦ subst IsNoCell (sym (ap held_tree q.1)) tt
        | inr q ↦ elim q [
          | inl r ↦ subst IsNoCell (sym (ap held_tree r.2)) tt
          | inr r ↦ subst IsNoCell (sym (ap held_tree r)) tt
        ]
      ]
    ] in
    λ begin values. no_cell c.args.part begin (laid_tree c.args.laid) c.args.address (address_value c.args.address values) none
