-- Runs keep the types of variables.
use Rattle.std.proofs.Common.{◌≡◌, ℕ, zero, suc, ℤ, Bool as Truth, true, false, cond, List, [], ◌∷◌, length, Option, Some, None, sym, subst, ◌==◌, nat_lt, nat_le}
use Rattle.std.specs.List.{All, AllByRecursion, list_all}
use Rattle.std.proofs.lemmas.List.Elements.{recursion_from_All}
use Rattle.std.proofs.lemmas.Bool.{eqb-true, cond_both, and_parts}
use Rattle.pv_word.specs.Types.{InRange}
use Rattle.pv_flow.specs.Terms.{Valuation, value_of, holds_in, Types, type_of, AreTyped, names_below}
use Rattle.pv_flow.specs.Automata.{Set, Edge, CallEdge, Loop, Parts, types_of, HasValues}
use Rattle.pv_flow.specs.Faults.{set_below, edge_below, has_variables}
use Rattle.pv_flow.specs.WellMade.{IsSet, IsEdge}
use Rattle.pv_flow.specs.Runs.{put, set_over, assigned, End, done, trap, over, Outcome, done_with, trapped, gone_over, outcome_of, Way, Control, taken, ended, ended_or, run, Spot, at, past, Counts, way_of, ways_by, ways_of, control_of, first_spot}
use Rattle.pv_flow.proofs.Typing.{typed_value, fits_in}

pub put_typed : (k : ℕ) (types : Types) (w : Valuation) (n : ℕ) (v : ℤ) → AreTyped k types w → InRange (types n) v → AreTyped k types (put w n v)
put_typed k types w n v are h x lt =
    cond_both (x == n) v (w x) (λ (z : ℤ). InRange (types x) z)
    (λ e. subst (λ (m : ℕ). InRange (types m) v) (sym (eqb-true x n e)) h) (λ e. are x lt)

-- a typed set whose term names the first k variables alone
abbrev pub IsSetWithin : ℕ → Types → Set → Type 0
IsSetWithin k types set = IsSet types set × (names_below k set.value ≡ true)

pub sets_within : (k : ℕ) (types : Types) (sets : List Set) → AllByRecursion (IsSet types) sets → list_all (set_below k) sets ≡ true
    → AllByRecursion (IsSetWithin k types) sets
sets_within k types [] all below = tt
sets_within k types (set ∷ sets) all below =
    let both = and_parts (set_below k set) (list_all (set_below k) sets) below in
    ((all.0, (and_parts (nat_lt set.variable k) (names_below k set.value) both.0).1), sets_within k types sets all.1 both.1)

abbrev pub IsEdgeWithin : ℕ → Types → Edge → Type 0
IsEdgeWithin k types edge = AllByRecursion (IsSetWithin k types) edge.sets

pub edges_within : (k : ℕ) (types : Types) (edges : List Edge) → AllByRecursion (IsEdge types) edges → list_all (edge_below k) edges ≡ true
    → AllByRecursion (IsEdgeWithin k types) edges
edges_within k types [] all below = tt
edges_within k types (edge ∷ edges) all below =
    let both = and_parts (edge_below k edge) (list_all (edge_below k) edges) below in (
      sets_within k types edge.sets (recursion_from_All (IsSet types) edge.sets (all.0).sets)
          (and_parts (names_below k edge.guard) (list_all (set_below k) edge.sets) both.0).1,
      edges_within k types edges all.1 both.1,
    )

pub edges_are_within : (p : Parts) → has_variables p ≡ true → All (IsEdge (types_of p)) p.edges
    → AllByRecursion (IsEdgeWithin (length p.vars) (types_of p)) p.edges
edges_are_within p variables all =
    edges_within (length p.vars) (types_of p) p.edges (recursion_from_All (IsEdge (types_of p)) p.edges all)
    (and_parts (list_all (edge_below (length p.vars)) p.edges) (list_all (λ (call : CallEdge). nat_le call.instance (length p.vars)) p.calls) variables).0

pub set_over_typed : (k : ℕ) (types : Types) (old : Valuation) (sets : List Set) (w : Valuation) → AllByRecursion (IsSetWithin k types) sets
    → AreTyped k types old → AreTyped k types w → AreTyped k types (set_over old sets w)
set_over_typed k types old [] w all before are = are
set_over_typed k types old (set ∷ sets) w all before are =
    set_over_typed k types old sets (put w set.variable (value_of old set.value)) all.1 before
    (put_typed k types w set.variable (value_of old set.value) are
    (fits_in (type_of types set.value) (types set.variable) (value_of old set.value) ((all.0).0).fits
    (typed_value k types old before set.value (all.0).1 ((all.0).0).typed)))

pub assigned_typed : (k : ℕ) (types : Types) (sets : List Set) (w : Valuation) → AllByRecursion (IsSetWithin k types) sets → AreTyped k types w
    → AreTyped k types (assigned sets w)
assigned_typed k types sets w all are = set_over_typed k types w sets w all are are

-- ---- controls whose ways have typed sets

abbrev pub IsTypedWay : {X : Type 0} → ℕ → Types → Way X → Type 0
IsTypedWay k types way = AllByRecursion (IsSetWithin k types) way.sets

abbrev pub IsTypedIf : {X : Type 0} → ℕ → Types → Option (Way X) → Type 0
IsTypedIf k types None = Unit {0}
IsTypedIf k types (Some way) = IsTypedWay k types way

-- how a run ends leaves typed variables
abbrev pub IsTypedEnd : ℕ → Types → Option Outcome → Type 0
IsTypedEnd k types None = Unit {0}
IsTypedEnd k types (Some (done_with w)) = AreTyped k types w
IsTypedEnd k types (Some (trapped kind place)) = Unit {0}
IsTypedEnd k types (Some (gone_over place)) = Unit {0}

taken_typed : {X : Type 0} (k : ℕ) (types : Types) (w : Valuation) (ways : List (Way X)) → AllByRecursion (IsTypedWay k types) ways
    → IsTypedIf k types (taken w ways)
taken_typed k types w [] all = tt
taken_typed {X} k types w (way ∷ more) all = by (holds_in w way.guard) (taken_typed k types w more all.1)
  where
    by : (b : Truth) → IsTypedIf k types (taken w more) → IsTypedIf {X = X} k types (elim b [ true ↦ Some way | false ↦ taken w more ])
    by true h = all.0
    by false h = h

outcome_typed : (k : ℕ) (types : Types) (end : End) (w : Valuation) → AreTyped k types w → IsTypedEnd k types (Some (outcome_of end w))
outcome_typed k types done w are = are
outcome_typed k types (trap kind place) w are = tt
outcome_typed k types (over place) w are = tt

ended_typed : (k : ℕ) (types : Types) (end : Option End) (w : Valuation) → AreTyped k types w → IsTypedEnd k types (ended end w)
ended_typed k types None w are = tt
ended_typed k types (Some end) w are = outcome_typed k types end w are

ended_or_typed : {X : Type 0} (k : ℕ) (types : Types) (end : Option End) (way : Option (Way X)) (w : Valuation) (next : Way X → Option Outcome)
    → AreTyped k types w → IsTypedIf k types way → ((t : Way X) → IsTypedWay k types t → IsTypedEnd k types (next t))
    → IsTypedEnd k types (ended_or end way w next)
ended_or_typed k types (Some end) way w next are h go = outcome_typed k types end w are
ended_or_typed k types None None w next are h go = tt
ended_or_typed k types None (Some way) w next are h go = go way h

pub run_typed : {X : Type 0} (k : ℕ) (types : Types) (c : Control X) → ((x : X) → AllByRecursion (IsTypedWay k types) (c.ways x))
    → (n : ℕ) (x : X) (w : Valuation) → AreTyped k types w → IsTypedEnd k types (run c n x w)
run_typed k types c all zero x w are = ended_typed k types (c.exit x) w are
run_typed k types c all (suc n) x w are =
    ended_or_typed k types (c.exit x) (taken w (c.ways x)) w (λ way. run c n way.to (assigned way.sets w)) are
    (taken_typed k types w (c.ways x) (all x))
    (λ way h. run_typed k types c all n way.to (assigned way.sets w) (assigned_typed k types way.sets w h are))

-- ---- automata

ways_typed : (k : ℕ) (types : Types) (loops : List Loop) (n l : ℕ) (counts : Counts) (e : ℕ) (edges : List Edge)
    → AllByRecursion (IsEdgeWithin k types) edges → AllByRecursion (IsTypedWay {X = Spot} k types) (ways_by loops n l counts e edges)
ways_typed k types loops n l counts e [] all = tt
ways_typed k types loops n l counts e (edge ∷ more) all =
    by (edge.from == l) (ways_typed k types loops n l counts (suc e) more all.1)
  where
    by : (b : Truth) → AllByRecursion (IsTypedWay {X = Spot} k types) (ways_by loops n l counts (suc e) more)
        → AllByRecursion (IsTypedWay {X = Spot} k types) (cond b
        (way_of loops n l counts e edge ∷ ways_by loops n l counts (suc e) more)
        (ways_by loops n l counts (suc e) more))
    by true h = (all.0, h)
    by false h = h

spot_typed : (p : Parts) (n : ℕ) → has_variables p ≡ true → All (IsEdge (types_of p)) p.edges → (x : Spot)
    → AllByRecursion (IsTypedWay {X = Spot} (length p.vars) (types_of p)) (ways_of p n x)
spot_typed p n variables all (at l counts) =
    ways_typed (length p.vars) (types_of p) p.loops n l counts 0 p.edges (edges_are_within p variables all)
spot_typed p n variables all (past place) = tt

pub automaton_typed : (p : Parts) (n steps : ℕ) (w : Valuation) → has_variables p ≡ true → All (IsEdge (types_of p)) p.edges → HasValues p w
    → IsTypedEnd (length p.vars) (types_of p) (run (control_of p n) steps (first_spot p) w)
automaton_typed p n steps w variables all are =
    run_typed (length p.vars) (types_of p) (control_of p n) (spot_typed p n variables all) steps (first_spot p) w are
