-- What the calls answer, whichever they do.
use Rattle.std.proofs.Common.{◌≡◌, ℕ, ◌≤◌, None, Result, Ok, Err, IfOk, IfErr, OnOk, subst}
use Rattle.pv_machine.specs.Same.{IsSame}
use Rattle.pv_flow.specs.declared.parts.Parts.{Parts as CodeParts}
use Rattle.pv_flow.specs.declared.inlined_machine.Inlined.{Inlined}
use Rattle.pv_flow.specs.declared.acyclic_machine.Acyclic.{Acyclic}
use Rattle.pv_flow.specs.Machines.{inlined_machine, acyclic_machine}
use Rattle.pv_flow.specs.MachineView.{inlined_parts, inlined_code, bound_of, acyclic_parts, acyclic_code, attached_in}
use Rattle.pv_flow.specs.View.{parts_of}
use Rattle.pv_copies.specs.Unrolled.{unrolled, unrolled_size}
use Rattle.pv_unroll.specs.declared.fault.TheConstants.{MAX_EDGES}
use Rattle.pv_unroll.specs.declared.fault.TooLarge.{TooLarge}
use Rattle.pv_unroll.specs.Correct.{IsTooLarge, KeepsTables}
use Rattle.pv_unroll.proofs.Conditions.{same_of}

-- of the automaton's own parts and bound
pub unrolled_copies : (m : Inlined) (p : CodeParts) (n : ℕ) (r : Result Acyclic TooLarge) → p ≡ inlined_code m → n ≡ bound_of m
    → IfOk r (λ a. acyclic_parts a ≡ unrolled (parts_of p) n) → IfOk r (λ a. acyclic_parts a ≡ unrolled (inlined_parts m) (bound_of m))
unrolled_copies m p n r e f is =
    subst (λ (k : ℕ). IfOk r (λ a. acyclic_parts a ≡ unrolled (inlined_parts m) k)) f
    (subst (λ (q : CodeParts). IfOk r (λ a. acyclic_parts a ≡ unrolled (parts_of q) n)) e is)

pub unrolled_tables : (m : Inlined) (p : CodeParts) (r : Result Acyclic TooLarge) → p ≡ inlined_code m
    → IfOk r (λ a. KeepsTables p (acyclic_code a)) → IfOk r (λ a. KeepsTables (inlined_code m) (acyclic_code a))
unrolled_tables m p r e is = subst (λ (q : CodeParts). IfOk r (λ a. KeepsTables q (acyclic_code a))) e is

pub unrolled_fits : (m : Inlined) (p : CodeParts) (n : ℕ) (r : Result Acyclic TooLarge) → p ≡ inlined_code m → n ≡ bound_of m
    → OnOk r (unrolled_size (parts_of p) n ≤ MAX_EDGES) → OnOk r (unrolled_size (inlined_parts m) (bound_of m) ≤ MAX_EDGES)
unrolled_fits m p n r e f is =
    subst (λ (k : ℕ). OnOk r (unrolled_size (inlined_parts m) k ≤ MAX_EDGES)) f
    (subst (λ (q : CodeParts). OnOk r (unrolled_size (parts_of q) n ≤ MAX_EDGES)) e is)

pub unrolled_large : (m : Inlined) (p : CodeParts) (n : ℕ) (r : Result Acyclic TooLarge) → p ≡ inlined_code m → n ≡ bound_of m
    → IfErr r (IsTooLarge (parts_of p) n) → IfErr r (IsTooLarge (inlined_parts m) (bound_of m))
unrolled_large m p n r e f is =
    subst (λ (k : ℕ). IfErr r (IsTooLarge (inlined_parts m) k)) f
    (subst (λ (q : CodeParts). IfErr r (IsTooLarge (parts_of q) n)) e is)

pub made_same : (m : Inlined) (r : Result Acyclic TooLarge) → IfOk r (λ a. acyclic_parts a ≡ unrolled (inlined_parts m) (bound_of m))
    → IfOk r (λ a. attached_in a ≡ None)
    → IfOk r (λ a. IsSame (acyclic_machine (acyclic_parts a) (attached_in a)) (inlined_machine (inlined_parts m) (bound_of m)))
made_same m (Ok a) parts bare = same_of m a parts bare
made_same m (Err fault) parts bare = tt
