use Rattle.std.proofs.Common.{◌≡◌, ◌≤◌, ◌∙◌, ℕ, List, false, length, take, Some, refl, sym, ap, subst}
use Rattle.pv_cnf.specs.Clause.{has_outside}
use Rattle.pv_log.specs.Propagation.{unit_of}
use Rattle.pv_watch.specs.Trail.{Path}
use Rattle.pv_learn.proofs.learn.is_asserting.Goals as goal

pub look_at-requires-clause-inside : goal.look_at-requires-clause-inside
look_at-requires-clause-inside c =
    subst (λ (ls : List ℕ). has_outside c.trail.result.now.variables ls ≡ false) (sym c.as_slice.ensures.value)
    (subst (λ (v : ℕ). has_outside v c.args.draft.now.lits.items ≡ false)
    (c.trail.ensures.variables ∙ ap (λ (q : Path). q.variables) (sym c.trail.ensures.path)) (c.in-NoEmpty.ensures.follows refl).each.0.inside)

pub look_at-requires-clause-there : goal.look_at-requires-clause-there
look_at-requires-clause-there c = subst (λ (q : Path). c.args.start ≤ length q.falses) (sym c.trail.ensures.path) c.requires.there

pub returns-in-Unit-clause-asserting : goal.returns-in-Unit-clause-asserting
returns-in-Unit-clause-asserting c = λ _. record {
  follows = (c.in-NoEmpty.ensures.follows refl).each.0;
  lit = c.in-Unit.field-0;
  unit = subst (λ (q : Path). unit_of (take c.args.start q.falses) c.args.draft.now.lits.items ≡ Some c.in-Unit.field-0) c.trail.ensures.path
      (subst (λ (ls : List ℕ). unit_of (take c.args.start c.trail.result.now.falses) ls ≡ Some c.in-Unit.field-0) c.as_slice.ensures.value
      c.in-Unit.ensures);
}
