use Rattle.std.proofs.Common.{inl, inr, sym, ap}
use Rattle.std.proofs.lemmas.Result.{on_ok_weaker}
use Rattle.pv_access.specs.Accesses.{unset_checks}
use Rattle.pv_access.proofs.Pushing.{no_checks, checks_say}
use Rattle.pv_access.proofs.reading.push_unset.Goals as goal

pub returns-in-Brief : goal.returns-in-Brief
returns-in-Brief c = λ ms table are.
    on_ok_weaker c.check_brief.result
    (λ z. checks_say _ _ _ _ _ _ (sym (ap (λ s. unset_checks s ms c.args.place) c.in-Brief.is)) z)
    (c.check_brief.ensures ms table are)

-- arms that are one in the code have one goal
pub returns-in-Cell : goal.returns-in-Cell
returns-in-Cell c = λ ms table are.
    checks_say _ _ _ _ _ _
    (elim c.in-Cell.is [
      | inl p ↦ sym (ap (λ s. unset_checks s ms c.args.place) p.2)
      | inr p ↦ elim p [
        | inl p ↦ sym (ap (λ s. unset_checks s ms c.args.place) p.2)
        | inr p ↦ elim p [
          | inl p ↦ sym (ap (λ s. unset_checks s ms c.args.place) p.3)
          | inr p ↦ elim p [
            | inl p ↦ sym (ap (λ s. unset_checks s ms c.args.place) p.1)
            | inr p ↦ sym (ap (λ s. unset_checks s ms c.args.place) p)
          ]
        ]
      ]
    ])
    (no_checks _ _ table)
