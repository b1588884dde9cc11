-- Terms and assignments that name only a program's bits, as calls have them.
use Rattle.std.proofs.Common.{◌≡◌, ◌<◌, ℕ, List, length, map, sym, ◌∙◌, ap, subst, arith, get_or, All}
use Rattle.std.proofs.lemmas.List.{length-map, get_or-map}
use Rattle.pv_bool.specs.declared.program.Assignment.{Assignment}
use Rattle.pv_bool.specs.Tree.{AssignmentTree, assignment_tree, IsAssignmentOver}

-- an assignment of a body
pub over-at : (n m : ℕ) (all : List Assignment) (i : ℕ) (a : Assignment) → m ≡ n → i < length all → a ≡ get_or all i a
    → All (IsAssignmentOver n) (map assignment_tree all) → IsAssignmentOver m (assignment_tree a)
over-at n m all i a same lt is over =
    let below : i < length (map assignment_tree all) = omega (arith, length-map all assignment_tree) in
    let at : get_or (map assignment_tree all) i (assignment_tree a)
    ≡ assignment_tree a = get_or-map assignment_tree all i a (assignment_tree a) lt ∙ ap assignment_tree (sym is) in
    subst (λ (k : ℕ). IsAssignmentOver k (assignment_tree a)) (sym same)
    (subst (λ (t : AssignmentTree). IsAssignmentOver n t) at (over i (assignment_tree a) below))

-- all of them
pub over-all : (n m : ℕ) (body all : List Assignment) → m ≡ n → body ≡ all → All (IsAssignmentOver n) (map assignment_tree all)
    → All (IsAssignmentOver m) (map assignment_tree body)
over-all n m body all e f over =
    subst (λ (k : ℕ). All (IsAssignmentOver k) (map assignment_tree body)) (sym e)
    (subst (λ (xs : List Assignment). All (IsAssignmentOver n) (map assignment_tree xs)) (sym f) over)
