-- Edges and call edges of each location: those of its spot, so one guard is true there, and where no spot is there are none.
use Rattle.std.proofs.Common.{◌≡◌, ℕ, zero, suc, ◌+◌, ◌<◌, ◌≤◌, List, [], ◌∷◌, ◌++◌, length, slice_get, Bool as Truth, true, false, ◌==◌, cond, Some, refl, sym, subst, ap, ◌∙◌, arith}
use Rattle.std.specs.List.{AllByRecursion}
use Rattle.std.proofs.lemmas.Bool.{ne_eqb, eq-eqb}
use Rattle.std.proofs.lemmas.Option.{same_Some, none-some}
use Rattle.pv_flow.specs.Terms.{Valuation}
use Rattle.pv_flow.specs.Automata.{Edge, CallEdge, edges_from, calls_from}
use Rattle.pv_flow.specs.WellMade.{true_guards}
use Rattle.pv_layout.specs.Spots.{Spot, Act, Branch, Enter, checks_of, edges_at}
use Rattle.pv_layout.specs.Layout.{edges_of, calls_of}
use Rattle.pv_layout.proofs.Lists.{all_map}
use Rattle.pv_layout.proofs.Guards.{one_edge}
use Rattle.pv_layout.proofs.Edges.{spot_begins, all_begin, no_more}
use Rattle.pv_layout.proofs.Counted.{edges_count}
use Rattle.pv_layout.proofs.Ends.{edge_of}

from_none : (l : ℕ) (edges : List Edge) → AllByRecursion (λ (edge : Edge). edge.from ≡ l → ⊥) edges → edges_from l edges ≡ []
from_none l [] all = refl
from_none l (edge ∷ edges) all =
    ap (λ (b : Truth). cond b (edge ∷ edges_from l edges) (edges_from l edges)) (ne_eqb edge.from l all.0) ∙ from_none l edges all.1

from_all : (l : ℕ) (edges : List Edge) → AllByRecursion (λ (edge : Edge). edge.from ≡ l) edges → edges_from l edges ≡ edges
from_all l [] all = refl
from_all l (edge ∷ edges) all =
    ap (λ (b : Truth). cond b (edge ∷ edges_from l edges) (edges_from l edges)) (eq-eqb edge.from l all.0)
    ∙ ap (λ (more : List Edge). edge ∷ more) (from_all l edges all.1)

from_append : (l : ℕ) (xs ys : List Edge) → edges_from l (xs ++ ys) ≡ edges_from l xs ++ edges_from l ys
from_append l [] ys = refl
from_append l (edge ∷ xs) ys = by (edge.from == l) (from_append l xs ys)
  where
    by : (b : Truth) → edges_from l (xs ++ ys) ≡ edges_from l xs ++ edges_from l ys
        → cond b (edge ∷ edges_from l (xs ++ ys)) (edges_from l (xs ++ ys))
        ≡ cond b (edge ∷ edges_from l xs) (edges_from l xs) ++ edges_from l ys
    by true h = ap (λ (more : List Edge). edge ∷ more) h
    by false h = h

-- those of other locations
from_other : (done t m l : ℕ) (spot : Spot) → (m ≡ l → ⊥) → edges_from l (edges_at done t m spot) ≡ []
from_other done t m l spot ne = from_none l (edges_at done t m spot)
    (all_map (λ (edge : Edge). edge.from ≡ m) (λ (edge : Edge). edge.from ≡ l → ⊥) (edges_at done t m spot)
    (λ edge from same. ne (sym from ∙ same)) (spot_begins done t m spot))

from_later : (done t first l : ℕ) (spots : List Spot) → l < first → edges_from l (edges_of done t first spots) ≡ []
from_later done t first l spots lt = from_none l (edges_of done t first spots)
    (all_map (λ (edge : Edge). first ≤ edge.from) (λ (edge : Edge). edge.from ≡ l → ⊥) (edges_of done t first spots)
    (λ edge low same. omega (arith, lt, low, same)) (all_begin done t first spots))

pub edges_past : (done t first l : ℕ) (spots : List Spot) → first + length spots ≤ l → edges_from l (edges_of done t first spots) ≡ []
edges_past done t first l [] le = refl
edges_past done t first l (spot ∷ spots) le =
    from_append l (edges_at done t first spot) (edges_of done (t + length (checks_of spot)) (suc first) spots)
    ∙ (ap (λ (more : List Edge). more ++ edges_from l (edges_of done (t + length (checks_of spot)) (suc first) spots))
    (from_other done t first l spot (λ same. omega (arith, le, same)))
    ∙ edges_past done (t + length (checks_of spot)) (suc first) l spots (omega (arith, le)))

-- the edges at location l are those of this spot, for some number of traps before it
pub record HasEdges (done : ℕ) (all : List Edge) (l : ℕ) (spot : Spot) : Type 0 where
  pub trap : ℕ
  pub edges : edges_from l all ≡ edges_at done trap l spot

pub edges_located : (done t first i : ℕ) (spots : List Spot) (spot : Spot) → slice_get spots i ≡ Some spot
    → HasEdges done (edges_of done t first spots) (first + i) spot
edges_located done t first i [] spot here = absurd (none-some spot here)
edges_located done t first zero (x ∷ spots) spot here =
    subst (λ (l : ℕ). HasEdges done (edges_of done t first (x ∷ spots)) l spot) (omega arith)
    (subst (λ (y : Spot). HasEdges done (edges_of done t first (x ∷ spots)) first y) (same_Some x spot here) (record {
      trap = t;
      edges = from_append first (edges_at done t first x) (edges_of done (t + length (checks_of x)) (suc first) spots)
          ∙ (ap (λ (more : List Edge). more ++ edges_from first (edges_of done (t + length (checks_of x)) (suc first) spots))
          (from_all first (edges_at done t first x) (spot_begins done t first x))
          ∙ (ap (λ (more : List Edge). edges_at done t first x ++ more)
          (from_later done (t + length (checks_of x)) (suc first) first spots (omega arith))
          ∙ no_more (edges_at done t first x)));
    }))
edges_located done t first (suc i) (x ∷ spots) spot here =
    let more = subst (λ (l : ℕ). HasEdges done (edges_of done (t + length (checks_of x)) (suc first) spots) l spot) (omega arith)
    (edges_located done (t + length (checks_of x)) (suc first) i spots spot here) in
    passed more.trap more.edges
  where
    passed : (trap : ℕ) → edges_from (first + suc i) (edges_of done (t + length (checks_of x)) (suc first) spots)
        ≡ edges_at done trap (first + suc i) spot
        → HasEdges done (edges_of done t first (x ∷ spots)) (first + suc i) spot
    passed trap e = record {
      trap = trap;
      edges = from_append (first + suc i) (edges_at done t first x) (edges_of done (t + length (checks_of x)) (suc first) spots)
          ∙ (ap (λ (more : List Edge). more ++ edges_from (first + suc i) (edges_of done (t + length (checks_of x)) (suc first) spots))
          (from_other done t first (first + suc i) x (λ same. omega (arith, same))) ∙ e);
    }

-- ---- calls

abbrev pub call_list : ℕ → Spot → List CallEdge
call_list l (Act checks on) = []
call_list l (Branch checks c one other) = []
call_list l (Enter block instance place to) = edge_of l to block instance place ∷ []

calls_later : (first l : ℕ) (spots : List Spot) → l < first → calls_from l (calls_of first spots) ≡ []
calls_later first l [] lt = refl
calls_later first l (Act checks on ∷ spots) lt = calls_later (suc first) l spots (omega (arith, lt))
calls_later first l (Branch checks c one other ∷ spots) lt = calls_later (suc first) l spots (omega (arith, lt))
calls_later first l (Enter block instance place to ∷ spots) lt =
    ap (λ (b : Truth). cond b (edge_of first to block instance place ∷ calls_from l (calls_of (suc first) spots))
    (calls_from l (calls_of (suc first) spots))) (ne_eqb first l (λ same. omega (arith, lt, same)))
    ∙ calls_later (suc first) l spots (omega (arith, lt))

call_first : (first : ℕ) (spot : Spot) (spots : List Spot) → calls_from first (calls_of first (spot ∷ spots)) ≡ call_list first spot
call_first first (Act checks on) spots = calls_later (suc first) first spots (omega arith)
call_first first (Branch checks c one other) spots = calls_later (suc first) first spots (omega arith)
call_first first (Enter block instance place to) spots =
    ap (λ (b : Truth). cond b (edge_of first to block instance place ∷ calls_from first (calls_of (suc first) spots))
    (calls_from first (calls_of (suc first) spots))) (eq-eqb first first refl)
    ∙ ap (λ (more : List CallEdge). edge_of first to block instance place ∷ more) (calls_later (suc first) first spots (omega arith))

call_passes : (first l : ℕ) (spot : Spot) (spots : List Spot) → first < l
    → calls_from l (calls_of first (spot ∷ spots)) ≡ calls_from l (calls_of (suc first) spots)
call_passes first l (Act checks on) spots lt = refl
call_passes first l (Branch checks c one other) spots lt = refl
call_passes first l (Enter block instance place to) spots lt =
    ap (λ (b : Truth). cond b (edge_of first to block instance place ∷ calls_from l (calls_of (suc first) spots))
    (calls_from l (calls_of (suc first) spots))) (ne_eqb first l (λ same. omega (arith, lt, same)))

pub calls_past : (first l : ℕ) (spots : List Spot) → first + length spots ≤ l → calls_from l (calls_of first spots) ≡ []
calls_past first l [] le = refl
calls_past first l (spot ∷ spots) le =
    call_passes first l spot spots (omega (arith, le)) ∙ calls_past (suc first) l spots (omega (arith, le))

pub calls_located : (first i : ℕ) (spots : List Spot) (spot : Spot) → slice_get spots i ≡ Some spot
    → calls_from (first + i) (calls_of first spots) ≡ call_list (first + i) spot
calls_located first i [] spot here = absurd (none-some spot here)
calls_located first zero (x ∷ spots) spot here =
    subst (λ (l : ℕ). calls_from l (calls_of first (x ∷ spots)) ≡ call_list l spot) (omega arith)
    (call_first first x spots ∙ ap (λ (y : Spot). call_list first y) (same_Some x spot here))
calls_located first (suc i) (x ∷ spots) spot here = call_passes first (first + suc i) x spots (omega arith)
    ∙ subst (λ (l : ℕ). calls_from l (calls_of (suc first) spots) ≡ call_list l spot) (omega arith)
    (calls_located (suc first) i spots spot here)

-- ---- how many

pub guards_of : (w : Valuation) (done trap l : ℕ) (spot : Spot) → 0 < length (edges_at done trap l spot)
    → true_guards w (edges_at done trap l spot) ≡ 1
guards_of w done trap l (Act checks on) some = one_edge done trap l (Act checks on) w
guards_of w done trap l (Branch checks c one other) some = one_edge done trap l (Branch checks c one other) w
guards_of w done trap l (Enter block instance place to) some = absurd (omega (arith, some))

pub call_alone : (done trap l : ℕ) (spot : Spot) → 0 < length (call_list l spot)
    → length (call_list l spot) + length (edges_at done trap l spot) ≡ 1
call_alone done trap l (Act checks on) some = absurd (omega (arith, some))
call_alone done trap l (Branch checks c one other) some = absurd (omega (arith, some))
call_alone done trap l (Enter block instance place to) some = refl

pub some_edge : (done trap l : ℕ) (spot : Spot) → 0 < length (call_list l spot) + length (edges_at done trap l spot)
some_edge done trap l (Act checks on) = let e = edges_count done trap l (Act checks on) in omega (arith, e)
some_edge done trap l (Branch checks c one other) = let e = edges_count done trap l (Branch checks c one other) in omega (arith, e)
some_edge done trap l (Enter block instance place to) = omega arith
