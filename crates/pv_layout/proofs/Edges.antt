-- The edges from a location are those of its spot: where they begin in the list of all, with the marks and the traps that go with them.
use Rattle.std.proofs.Common.{◌≡◌, ℕ, zero, suc, ◌+◌, ◌<◌, ◌≤◌, List, [], ◌∷◌, ◌++◌, length, slice_get, Bool, true, false, ◌==◌, cond, Some, None, refl, sym, subst, ap, ◌∙◌, arith}
use Rattle.std.specs.List.{AllByRecursion}
use Rattle.std.proofs.lemmas.Bool.{ne_eqb, eq-eqb}
use Rattle.std.proofs.lemmas.List.{length-append}
use Rattle.std.proofs.lemmas.Option.{same_Some, none-some}
use Rattle.pv_flow.specs.Terms.{Term, Valuation, holds_in}
use Rattle.pv_flow.specs.Automata.{Edge, Loop}
use Rattle.pv_flow.specs.Runs.{Counts, Spot as State, Way as Taken, taken, way_of, ways_by}
use Rattle.pv_layout.specs.Spots.{Check, Spot, Act, Branch, Enter, checks_of, is_on, failing, true_term, both, negated, none_of, check_edges, way_edges, edges_at}
use Rattle.pv_layout.specs.Layout.{edges_of, traps_at, traps_of, no_marks, way_marks, marks_of}
use Rattle.pv_layout.specs.Correct.{IsLaid}
use Rattle.pv_layout.proofs.Lists.{all_append, all_map}
use Rattle.pv_layout.proofs.Guards.{IsBit, beside, clear_more}

-- ---- ways by edges

pub ways_here : (loops : List Loop) (n l : ℕ) (counts : Counts) (e : ℕ) (edge : Edge) (edges : List Edge) → edge.from ≡ l
    → ways_by loops n l counts e (edge ∷ edges) ≡ way_of loops n l counts e edge ∷ ways_by loops n l counts (suc e) edges
ways_here loops n l counts e edge edges from =
    ap (λ (b : Bool). cond b (way_of loops n l counts e edge ∷ ways_by loops n l counts (suc e) edges)
    (ways_by loops n l counts (suc e) edges))
    (eq-eqb edge.from l from)

ways_none : (loops : List Loop) (n l : ℕ) (counts : Counts) (e : ℕ) (edges : List Edge)
    → AllByRecursion (λ (edge : Edge). edge.from ≡ l → ⊥) edges → ways_by loops n l counts e edges ≡ []
ways_none loops n l counts e [] all = refl
ways_none loops n l counts e (edge ∷ edges) all =
    ap (λ (b : Bool). cond b (way_of loops n l counts e edge ∷ ways_by loops n l counts (suc e) edges)
    (ways_by loops n l counts (suc e) edges))
    (ne_eqb edge.from l all.0)
    ∙ ways_none loops n l counts (suc e) edges all.1

ways_append : (loops : List Loop) (n l : ℕ) (counts : Counts) (e : ℕ) (xs ys : List Edge)
    → ways_by loops n l counts e (xs ++ ys) ≡ ways_by loops n l counts e xs ++ ways_by loops n l counts (e + length xs) ys
ways_append loops n l counts e [] ys = ap (λ (m : ℕ). ways_by loops n l counts m ys) (omega arith)
ways_append loops n l counts e (edge ∷ xs) ys = by (edge.from == l) (ways_append loops n l counts (suc e) xs ys
    ∙ ap (λ (m : ℕ). ways_by loops n l counts (suc e) xs ++ ways_by loops n l counts m ys) (omega arith))
  where
    by : (b : Bool)
        → ways_by loops n l counts (suc e) (xs ++ ys) ≡ ways_by loops n l counts (suc e) xs ++ ways_by loops n l counts
        (e + suc (length xs)) ys
        → cond b (way_of loops n l counts e edge ∷ ways_by loops n l counts (suc e) (xs ++ ys))
        (ways_by loops n l counts (suc e) (xs ++ ys))
        ≡ cond b (way_of loops n l counts e edge ∷ ways_by loops n l counts (suc e) xs) (ways_by loops n l counts (suc e) xs)
        ++ ways_by loops n l counts (e + suc (length xs)) ys
    by true h = ap (λ (ways : List (Taken State)). way_of loops n l counts e edge ∷ ways) h
    by false h = h

-- ---- where edges begin

check_begins : (done t l : ℕ) (none : Term) (checks : List Check)
    → AllByRecursion (λ (edge : Edge). edge.from ≡ l) (check_edges done t l none checks)
check_begins done t l none [] = tt
check_begins done t l none (check ∷ checks) = (refl, check_begins done (suc t) l (both none (negated check.fails)) checks)

way_begins : (l : ℕ) (none : Term) (spot : Spot) → AllByRecursion (λ (edge : Edge). edge.from ≡ l) (way_edges l none spot)
way_begins l none (Act checks on) = (refl, tt)
way_begins l none (Branch checks c one other) = (refl, (refl, tt))
way_begins l none (Enter block instance place to) = tt

pub spot_begins : (done t l : ℕ) (spot : Spot) → AllByRecursion (λ (edge : Edge). edge.from ≡ l) (edges_at done t l spot)
spot_begins done t l spot = all_append (λ (edge : Edge). edge.from ≡ l) (check_edges done t l true_term (checks_of spot))
    (way_edges l (none_of true_term (checks_of spot)) spot) (check_begins done t l true_term (checks_of spot))
    (way_begins l (none_of true_term (checks_of spot)) spot)

pub all_begin : (done t l : ℕ) (spots : List Spot) → AllByRecursion (λ (edge : Edge). l ≤ edge.from) (edges_of done t l spots)
all_begin done t l [] = tt
all_begin done t l (spot ∷ spots) =
    all_append (λ (edge : Edge). l ≤ edge.from) (edges_at done t l spot) (edges_of done (t + length (checks_of spot)) (suc l) spots)
    (all_map (λ (edge : Edge). edge.from ≡ l) (λ (edge : Edge). l ≤ edge.from) (edges_at done t l spot) (λ edge h. omega (arith, h))
    (spot_begins done t l spot))
    (all_map (λ (edge : Edge). suc l ≤ edge.from) (λ (edge : Edge). l ≤ edge.from)
    (edges_of done (t + length (checks_of spot)) (suc l) spots)
    (λ edge h. omega (arith, h)) (all_begin done (t + length (checks_of spot)) (suc l) spots))

-- ---- as many marks as edges

check_marks : (done t l : ℕ) (none : Term) (checks : List Check) → length (check_edges done t l none checks) ≡ length (no_marks checks)
check_marks done t l none [] = refl
check_marks done t l none (check ∷ checks) = ap (λ (n : ℕ). suc n) (check_marks done (suc t) l (both none (negated check.fails)) checks)

ways_marked : (l : ℕ) (none : Term) (spot : Spot) → length (way_edges l none spot) ≡ length (way_marks spot)
ways_marked l none (Act checks on) = refl
ways_marked l none (Branch checks c one other) = refl
ways_marked l none (Enter block instance place to) = refl

spot_marks : (done t l : ℕ) (spot : Spot) → length (edges_at done t l spot) ≡ length (no_marks (checks_of spot) ++ way_marks spot)
spot_marks done t l spot =
    let one = check_marks done t l true_term (checks_of spot) in
    let two = ways_marked l (none_of true_term (checks_of spot)) spot in
    let three = length-append (no_marks (checks_of spot)) (way_marks spot) in
    length-append (check_edges done t l true_term (checks_of spot)) (way_edges l (none_of true_term (checks_of spot)) spot)
    ∙ omega (arith, one, two, three)

pub traps_count : (done t : ℕ) (checks : List Check) → length (traps_at done t checks) ≡ length checks
traps_count done t [] = refl
traps_count done t (check ∷ checks) = ap (λ (n : ℕ). suc n) (traps_count done (suc t) checks)

-- ---- the spot's edges among all

pub no_more : {X : Type 0} (xs : List X) → xs ++ [] ≡ xs
no_more [] = refl
no_more {X} (x ∷ xs) = ap (λ (ys : List X). x ∷ ys) (no_more xs)

pub laid_ahead : {X : Type 0} (x : X) (whole : List X) (a : ℕ) (xs : List X) → IsLaid whole a xs → IsLaid (x ∷ whole) (suc a) xs
laid_ahead x whole a [] laid = tt
laid_ahead x whole a (y ∷ xs) laid = (laid.0, laid_ahead x whole (suc a) xs laid.1)

laid_self : {X : Type 0} (xs ys : List X) → IsLaid (xs ++ ys) 0 xs
laid_self [] ys = tt
laid_self (x ∷ xs) ys = (refl, laid_ahead x (xs ++ ys) 0 xs (laid_self xs ys))

laid_past : {X : Type 0} (front whole : List X) (a : ℕ) (xs : List X) → IsLaid whole a xs → IsLaid (front ++ whole) (length front + a) xs
laid_past [] whole a xs laid = subst (λ (m : ℕ). IsLaid whole m xs) (omega arith) laid
laid_past (x ∷ front) whole a xs laid = subst (λ (m : ℕ). IsLaid (x ∷ (front ++ whole)) m xs) (omega arith)
    (laid_ahead x (front ++ whole) (length front + a) xs (laid_past front whole a xs laid))

-- of the spots from location `first` on, before which there are t traps and e edges, the one at location l
pub record EdgesAt (loops : List Loop) (n : ℕ) (counts : Counts) (done : ℕ) (spots : List Spot) (first t e l : ℕ)
    (spot : Spot) : Type 0 where
  pub edge : ℕ
  pub trap : ℕ
  pub ways : ways_by loops n l counts e (edges_of done t first spots) ≡ ways_by loops n l counts (e + edge)
      (edges_at done (t + trap) l spot)
  pub marks : IsLaid (marks_of spots) edge (no_marks (checks_of spot) ++ way_marks spot)
  pub traps : IsLaid (traps_of done t spots) trap (traps_at done (t + trap) (checks_of spot))

edges_first : (loops : List Loop) (n : ℕ) (counts : Counts) (done : ℕ) (spot : Spot) (spots : List Spot) (t e l : ℕ)
    → EdgesAt loops n counts done (spot ∷ spots) l t e l spot
edges_first loops n counts done spot spots t e l = record {
  edge = 0;
  trap = 0;
  ways = ways_append loops n l counts e (edges_at done t l spot) (edges_of done (t + length (checks_of spot)) (suc l) spots)
      ∙ (ap (λ (ways : List (Taken State)). ways_by loops n l counts e (edges_at done t l spot) ++ ways)
      (ways_none loops n l counts (e + length (edges_at done t l spot)) (edges_of done (t + length (checks_of spot)) (suc l) spots)
      (all_map (λ (edge : Edge). suc l ≤ edge.from) (λ (edge : Edge). edge.from ≡ l → ⊥)
      (edges_of done (t + length (checks_of spot)) (suc l) spots)
      (λ edge low same. omega (arith, low, same)) (all_begin done (t + length (checks_of spot)) (suc l) spots)))
      ∙ (no_more (ways_by loops n l counts e (edges_at done t l spot))
      ∙ (ap (λ (m : ℕ). ways_by loops n l counts m (edges_at done t l spot)) (omega arith)
      ∙ ap (λ (m : ℕ). ways_by loops n l counts (e + 0) (edges_at done m l spot)) (omega arith))));
  marks = laid_self (no_marks (checks_of spot) ++ way_marks spot) (marks_of spots);
  traps = subst (λ (m : ℕ). IsLaid (traps_of done t (spot ∷ spots)) 0 (traps_at done m (checks_of spot))) (omega arith)
      (laid_self (traps_at done t (checks_of spot)) (traps_of done (t + length (checks_of spot)) spots));
}

edges_later : (loops : List Loop) (n : ℕ) (counts : Counts) (done : ℕ) (other : Spot) (spots : List Spot) (first t e l : ℕ) (spot : Spot)
    → first < l
    → EdgesAt loops n counts done spots (suc first) (t + length (checks_of other)) (e + length (edges_at done t first other)) l spot
    → EdgesAt loops n counts done (other ∷ spots) first t e l spot
edges_later loops n counts done other spots first t e l spot lt h = record {
  edge = length (edges_at done t first other) + h.edge;
  trap = length (checks_of other) + h.trap;
  ways = ways_append loops n l counts e (edges_at done t first other) (edges_of done (t + length (checks_of other)) (suc first) spots)
      ∙ (ap (λ (ways : List (Taken State)). ways ++ ways_by loops n l counts (e + length (edges_at done t first other))
      (edges_of done (t + length (checks_of other)) (suc first) spots))
      (ways_none loops n l counts e (edges_at done t first other)
      (all_map (λ (edge : Edge). edge.from ≡ first) (λ (edge : Edge). edge.from ≡ l → ⊥) (edges_at done t first other)
      (λ edge from same. omega (arith, lt, from, same)) (spot_begins done t first other)))
      ∙ (h.ways
      ∙ (ap (λ (m : ℕ). ways_by loops n l counts m (edges_at done (t + length (checks_of other) + h.trap) l spot)) (omega arith)
      ∙ ap (λ (m : ℕ). ways_by loops n l counts (e + (length (edges_at done t first other) + h.edge)) (edges_at done m l spot))
      (omega arith))));
  marks = subst (λ (m : ℕ). IsLaid (marks_of (other ∷ spots)) (m + h.edge) (no_marks (checks_of spot) ++ way_marks spot))
      (sym (spot_marks done t first other))
      (laid_past (no_marks (checks_of other) ++ way_marks other) (marks_of spots) h.edge
      (no_marks (checks_of spot) ++ way_marks spot) h.marks);
  traps = subst (λ (m : ℕ). IsLaid (traps_of done t (other ∷ spots)) (m + h.trap)
      (traps_at done (t + (length (checks_of other) + h.trap)) (checks_of spot)))
      (traps_count done t (checks_of other))
      (laid_past (traps_at done t (checks_of other)) (traps_of done (t + length (checks_of other)) spots) h.trap
      (traps_at done (t + (length (checks_of other) + h.trap)) (checks_of spot))
      (subst (λ (m : ℕ). IsLaid (traps_of done (t + length (checks_of other)) spots) h.trap (traps_at done m (checks_of spot)))
      (omega arith) h.traps));
}

pub edges_there : (loops : List Loop) (n : ℕ) (counts : Counts) (done : ℕ) (spots : List Spot) (first t e i : ℕ) (spot : Spot)
    → slice_get spots i ≡ Some spot → EdgesAt loops n counts done spots first t e (first + i) spot
edges_there loops n counts done [] first t e i spot at = absurd (none-some spot at)
edges_there loops n counts done (x ∷ spots) first t e zero spot at =
    subst (λ (l : ℕ). EdgesAt loops n counts done (x ∷ spots) first t e l spot) (omega arith)
    (subst (λ (y : Spot). EdgesAt loops n counts done (x ∷ spots) first t e first y) (same_Some x spot at)
    (edges_first loops n counts done x spots t e first))
edges_there loops n counts done (x ∷ spots) first t e (suc i) spot at =
    edges_later loops n counts done x spots first t e (first + suc i) spot (omega arith)
    (subst (λ (l : ℕ). EdgesAt loops n counts done spots (suc first) (t + length (checks_of x))
    (e + length (edges_at done t first x)) l spot) (omega arith)
    (edges_there loops n counts done spots (suc first) (t + length (checks_of x)) (e + length (edges_at done t first x)) i spot at))

-- ---- the way that is taken

pub take_step : (v : Valuation) (way : Taken State) (ways : List (Taken State)) (b : Bool) → holds_in v way.guard ≡ b
    → taken v (way ∷ ways) ≡ elim b [ true ↦ Some way | false ↦ taken v ways ]
take_step v way ways b held = ap (λ (h : Bool). elim h [ true ↦ Some way | false ↦ taken v ways ]) held

-- where no check fails, what is left is taken
pub clear_takes : (v : Valuation) (loops : List Loop) (n l : ℕ) (counts : Counts) (done t e : ℕ) (none : Term) (checks : List Check)
    (rest : Term → List Edge) → IsBit v none true → failing v checks ≡ None
    → IsBit v (none_of none checks) true
    × (taken v (ways_by loops n l counts e (check_edges done t l none checks ++ rest (none_of none checks)))
    ≡ taken v (ways_by loops n l counts (e + length checks) (rest (none_of none checks))))
clear_takes v loops n l counts done t e none [] rest is clear =
    (is, ap (λ (m : ℕ). taken v (ways_by loops n l counts m (rest none))) (omega arith))
clear_takes v loops n l counts done t e none (check ∷ checks) rest is clear = by (is_on v check.fails) refl
    (λ off left. clear_takes v loops n l counts done (suc t) (suc e) (both none (negated check.fails)) checks rest
    (clear_more v none check.fails is off) left)
  where
    here : Edge
    here = record { from = l; to = done + suc t; guard = both check.fails none; sets = [] }

    more : List Edge
    more = check_edges done (suc t) l (both none (negated check.fails)) checks ++ rest (none_of (both none (negated check.fails)) checks)

    left_of : is_on v check.fails ≡ false → failing v checks ≡ None
    left_of off = sym (ap (λ (b : Bool). elim b [ true ↦ Some check | false ↦ failing v checks ]) off) ∙ clear

    never : is_on v check.fails ≡ true → ⊥
    never on = none-some check (sym clear ∙ ap (λ (b : Bool). elim b [ true ↦ Some check | false ↦ failing v checks ]) on)

    by : (b : Bool) → is_on v check.fails ≡ b
        → (is_on v check.fails ≡ false → failing v checks ≡ None → IsBit v (none_of (both none (negated check.fails)) checks) true
        × (taken v (ways_by loops n l counts (suc e) more)
        ≡ taken v (ways_by loops n l counts (suc e + length checks) (rest (none_of (both none (negated check.fails)) checks)))))
        → IsBit v (none_of (both none (negated check.fails)) checks) true
        × (taken v (ways_by loops n l counts e (here ∷ more))
        ≡ taken v (ways_by loops n l counts (e + suc (length checks)) (rest (none_of (both none (negated check.fails)) checks))))
    by true on go = absurd (never on)
    by false off go =
        let h = go off (left_of off) in (
          h.0,
          ap (λ (ways : List (Taken State)). taken v ways) (ways_here loops n l counts e here more refl)
              ∙ (take_step v (way_of loops n l counts e here) (ways_by loops n l counts (suc e) more) false
              (beside v check.fails none is ∙ off)
              ∙ (h.1 ∙ ap (λ (m : ℕ). taken v (ways_by loops n l counts m (rest (none_of (both none (negated check.fails)) checks))))
              (omega arith))),
        )

-- the edge of the check's trap, the q-th of the spot's
abbrev pub trap_edge : ℕ → ℕ → ℕ → Term → Edge
trap_edge done l m guard = record { from = l; to = done + suc m; guard = guard; sets = [] }

pub record FailTakes (v : Valuation) (loops : List Loop) (n l : ℕ) (counts : Counts) (done t e : ℕ) (checks : List Check) (check : Check)
    (edges : List Edge) : Type 0 where
  pub number : ℕ
  pub guard : Term
  pub stands : slice_get checks number ≡ Some check
  pub takes : taken v (ways_by loops n l counts e edges) ≡ Some (way_of loops n l counts (e + number) (trap_edge done l (t + number) guard))

-- the first check that fails is taken
pub fails_takes : (v : Valuation) (loops : List Loop) (n l : ℕ) (counts : Counts) (done t e : ℕ) (none : Term) (checks : List Check)
    (check : Check)
    (rest : List Edge) → IsBit v none true → failing v checks ≡ Some check
    → FailTakes v loops n l counts done t e checks check (check_edges done t l none checks ++ rest)
fails_takes v loops n l counts done t e none [] check rest is fails = absurd (none-some check fails)
fails_takes v loops n l counts done t e none (first ∷ checks) check rest is fails = by (is_on v first.fails) refl
    (λ off left. fails_takes v loops n l counts done (suc t) (suc e) (both none (negated first.fails)) checks check rest
    (clear_more v none first.fails is off) left)
  where
    here : Edge
    here = trap_edge done l t (both first.fails none)

    more : List Edge
    more = check_edges done (suc t) l (both none (negated first.fails)) checks ++ rest

    chosen : (b : Bool) → is_on v first.fails ≡ b → failing v (first ∷ checks) ≡ elim b [ true ↦ Some first | false ↦ failing v checks ]
    chosen b on = ap (λ (b : Bool). elim b [ true ↦ Some first | false ↦ failing v checks ]) on

    step : (b : Bool) → is_on v first.fails ≡ b → taken v (ways_by loops n l counts e (here ∷ more))
        ≡ elim b [ true ↦ Some (way_of loops n l counts e here) | false ↦ taken v (ways_by loops n l counts (suc e) more) ]
    step b on = ap (λ (ways : List (Taken State)). taken v ways) (ways_here loops n l counts e here more refl)
        ∙ take_step v (way_of loops n l counts e here) (ways_by loops n l counts (suc e) more) b (beside v first.fails none is ∙ on)

    by : (b : Bool) → is_on v first.fails ≡ b
        → (is_on v first.fails ≡ false → failing v checks ≡ Some check
        → FailTakes v loops n l counts done (suc t) (suc e) checks check more)
        → FailTakes v loops n l counts done t e (first ∷ checks) check (here ∷ more)
    by true on go = record {
      number = 0;
      guard = both first.fails none;
      stands = sym (chosen true on) ∙ fails;
      takes = step true on
          ∙ (ap (λ (m : ℕ). Some (way_of loops n l counts m (trap_edge done l t (both first.fails none)))) (omega arith)
          ∙ ap (λ (m : ℕ). Some (way_of loops n l counts (e + 0) (trap_edge done l m (both first.fails none)))) (omega arith));
    }
    by false off go =
        let h = go off (sym (chosen false off) ∙ fails) in
        record {
          number = suc h.number;
          guard = h.guard;
          stands = h.stands;
          takes = step false off ∙ (h.takes
              ∙ (ap (λ (m : ℕ). Some (way_of loops n l counts m (trap_edge done l (suc t + h.number) h.guard))) (omega arith)
              ∙ ap (λ (m : ℕ). Some (way_of loops n l counts (e + suc h.number) (trap_edge done l m h.guard))) (omega arith)));
        }
