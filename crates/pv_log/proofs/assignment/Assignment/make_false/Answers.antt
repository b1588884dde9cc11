use Rattle.std.proofs.Common.{◌≡◌, ◌++◌, ◌∷◌, [], List, ℕ, true, false, set, sym, subst, arith}
use Rattle.pv_cnf.specs.Literal.{complement, is_outside}
use Rattle.pv_log.specs.Propagation.{is_false}
use Rattle.pv_log.specs.Assignment.{Agree, Partial}
use Rattle.pv_log.proofs.AssignmentLaws.{Agree-set, room}
use Rattle.pv_log.proofs.assignment.Assignment.make_false.Goals as goal

pub unwrap-requires : goal.unwrap-requires
unwrap-requires c =
    let inside = subst (λ (p : Partial). is_outside p.variables c.args.lit ≡ false) (sym c.self.view_is) c.requires.inside in
    let other = subst (λ (p : Partial). is_false p.falses c.args.lit ≡ false) (sym c.self.view_is) c.requires.not_false in
    let opposite = subst (λ (p : Partial). is_false p.falses (complement c.args.lit) ≡ false) (sym c.self.view_is) c.requires.not_true in
    let short = room c.self.inside.variables c.self.inside.marks.items c.self.inside.trail.items c.args.lit c.self.invariant.0 inside other opposite in
    c.push.ensures.succeeds (omega (arith, c.self.invariant.1))

pub invariant_of-self : goal.invariant_of-self
invariant_of-self c =
    let inside = subst (λ (p : Partial). is_outside p.variables c.args.lit ≡ false) (sym c.self.view_is) c.requires.inside in
    let other = subst (λ (p : Partial). is_false p.falses c.args.lit ≡ false) (sym c.self.view_is) c.requires.not_false in
    let opposite = subst (λ (p : Partial). is_false p.falses (complement c.args.lit) ≡ false) (sym c.self.view_is) c.requires.not_true in
    let items : c.push.new.self.items ≡ c.self.inside.trail.items ++ c.args.lit ∷ [] = rw c.unwrap.ensures at c.push.ensures.items in
    let after = Agree-set c.self.inside.variables c.self.inside.marks.items c.self.inside.trail.items c.args.lit c.self.invariant.0 inside other opposite in
    (subst (λ (t : List ℕ). Agree c.self.inside.variables (set c.self.inside.marks.items c.args.lit true) t) (sym items) after, omega (arith, c.self.invariant.1, c.push.ensures.capacity))
