-- Edges beside their marks: what is so of each way and of each check's trap is so of each edge with its mark, and so are calls.
use Rattle.std.proofs.Common.{◌≡◌, ℕ, zero, suc, ◌+◌, ◌<◌, ◌≤◌, List, [], ◌∷◌, ◌++◌, length, slice_get, Option, Some, None, refl, subst, arith}
use Rattle.std.specs.List.{AllByRecursion}
use Rattle.std.proofs.lemmas.Option.{same_Some, none-some}
use Rattle.pv_flow.specs.Terms.{Term}
use Rattle.pv_flow.specs.Automata.{Edge, CallEdge}
use Rattle.pv_layout.specs.Spots.{Check, Spot, Act, Branch, Enter, checks_of, true_term, both, negated, none_of, check_edges, way_edges, edges_at}
use Rattle.pv_layout.specs.Layout.{checks_in, edges_of, calls_of, no_marks, way_marks, marks_of}
use Rattle.pv_layout.proofs.Each.{EachFrom}
use Rattle.pv_layout.specs.Sound.{EachWay}

abbrev pub Along : (ℕ → ℕ → Option ℕ → Type 0) → List Edge → List (Option ℕ) → Type 0
Along Q [] [] = Unit {0}
Along Q [] (mark ∷ marks) = ⊥
Along Q (edge ∷ edges) [] = ⊥
Along Q (edge ∷ edges) (mark ∷ marks) = Q edge.from edge.to mark × Along Q edges marks

along_append : (Q : ℕ → ℕ → Option ℕ → Type 0) (xs ys : List Edge) (ms ns : List (Option ℕ)) → Along Q xs ms → Along Q ys ns
    → Along Q (xs ++ ys) (ms ++ ns)
along_append Q [] ys [] ns h g = g
along_append Q [] ys (m ∷ ms) ns h g = absurd h
along_append Q (x ∷ xs) ys [] ns h g = absurd h
along_append Q (x ∷ xs) ys (m ∷ ms) ns h g = (h.0, along_append Q xs ys ms ns h.1 g)

pub record IsMarkedAt (Q : ℕ → ℕ → Option ℕ → Type 0) (marks : List (Option ℕ)) (e : ℕ) (edge : Edge) : Type 0 where
  pub mark : Option ℕ
  pub stands : slice_get marks e ≡ Some mark
  pub so : Q edge.from edge.to mark

pub along_index : (Q : ℕ → ℕ → Option ℕ → Type 0) (edges : List Edge) (marks : List (Option ℕ)) (e : ℕ) (edge : Edge) → Along Q edges marks
    → slice_get edges e ≡ Some edge → IsMarkedAt Q marks e edge
along_index Q [] marks e edge h here = absurd (none-some edge here)
along_index Q (x ∷ edges) [] e edge h here = absurd h
along_index Q (x ∷ edges) (m ∷ marks) zero edge h here =
    record { mark = m; stands = refl; so = subst (λ (y : Edge). Q y.from y.to m) (same_Some x edge here) h.0 }
along_index Q (x ∷ edges) (m ∷ marks) (suc e) edge h here =
    let r = along_index Q edges marks e edge h.1 here in record { mark = r.mark; stands = r.stands; so = r.so }

-- ---- spots

along_checks : (Q : ℕ → ℕ → Option ℕ → Type 0) (done t l : ℕ) (none : Term) (checks : List Check)
    → ((s : ℕ) → t ≤ s → s < t + length checks → Q l (done + suc s) None) → Along Q (check_edges done t l none checks) (no_marks checks)
along_checks Q done t l none [] go = tt
along_checks Q done t l none (check ∷ checks) go = (
  go t (omega arith) (omega arith),
  along_checks Q done (suc t) l (both none (negated check.fails)) checks (λ s low high. go s (omega (arith, low)) (omega (arith, high))),
)

along_ways : (Q : ℕ → ℕ → Option ℕ → Type 0) (l : ℕ) (none : Term) (spot : Spot) → EachWay (Q l) spot
    → Along Q (way_edges l none spot) (way_marks spot)
along_ways Q l none (Act checks on) h = (h, tt)
along_ways Q l none (Branch checks c one other) h = (h.0, (h.1, tt))
along_ways Q l none (Enter block instance place to) h = tt

pub along_spots : (Q : ℕ → ℕ → Option ℕ → Type 0) (done t l : ℕ) (spots : List Spot)
    → ((m s : ℕ) → l ≤ m → m < l + length spots → t ≤ s → s < t + checks_in spots → Q m (done + suc s) None)
    → EachFrom (λ m spot. EachWay (Q m) spot) l spots → Along Q (edges_of done t l spots) (marks_of spots)
along_spots Q done t l [] go h = tt
along_spots Q done t l (spot ∷ spots) go h = along_append Q (edges_at done t l spot)
    (edges_of done (t + length (checks_of spot)) (suc l) spots)
    (no_marks (checks_of spot) ++ way_marks spot) (marks_of spots)
    (along_append Q (check_edges done t l true_term (checks_of spot)) (way_edges l (none_of true_term (checks_of spot)) spot)
    (no_marks (checks_of spot)) (way_marks spot)
    (along_checks Q done t l true_term (checks_of spot) (λ s low high. go l s (omega arith) (omega arith) low (omega (arith, high))))
    (along_ways Q l (none_of true_term (checks_of spot)) spot h.0))
    (along_spots Q done (t + length (checks_of spot)) (suc l) spots
    (λ m s from below low high. go m s (omega (arith, from)) (omega (arith, below)) (omega (arith, low)) (omega (arith, high))) h.1)

-- ---- calls

-- a call, by where it begins, where it leads, and the variable from which on the block's bound ones lie
abbrev pub IfCall : (ℕ → ℕ → ℕ → Type 0) → ℕ → Spot → Type 0
IfCall R l (Act checks on) = Unit {0}
IfCall R l (Branch checks c one other) = Unit {0}
IfCall R l (Enter block instance place to) = R l to instance

pub calls_all : (R : ℕ → ℕ → ℕ → Type 0) (l : ℕ) (spots : List Spot) → EachFrom (IfCall R) l spots
    → AllByRecursion (λ (call : CallEdge). R call.from call.to call.instance) (calls_of l spots)
calls_all R l [] h = tt
calls_all R l (Act checks on ∷ spots) h = calls_all R (suc l) spots h.1
calls_all R l (Branch checks c one other ∷ spots) h = calls_all R (suc l) spots h.1
calls_all R l (Enter block instance place to ∷ spots) h = (h.0, calls_all R (suc l) spots h.1)
