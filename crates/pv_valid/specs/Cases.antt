-- A case by which certificates are judged: what is known of it, the machine of its sources, and the formulas of its queries.
use Rattle.std.specs.Prelude.{◌≡◌, ◌↔◌, ℕ, ◌≤◌, ℤ, Bool, true, List, map, Option, Some, None}
use Rattle.pv_place.specs.Ranges.{Range, AreWithin}
use Rattle.pv_cnf.specs.Clause.{Cnf, Holds}
use Rattle.pv_machine.specs.Machines.{Machine, Values, Step, done, trap, over, IsState, IsInput, IsLawful}
use Rattle.pv_cert.specs.declared.proof.Query.{Query}
use Rattle.pv_kind.specs.declared.told.TheConstants.{LAST_QUERY}
use Rattle.pv_kind.specs.Oracles.{IsAsked, Meets}
use Rattle.pv_valid.specs.declared.facts.Facts.{Facts}

-- the least and the greatest value of a range
abbrev pub Bounds : Type 0
Bounds = ℤ × ℤ

abbrev pub range_between : Bounds → Range
range_between bounds = record { least = bounds.0; greatest = bounds.1 }

-- one value in each of these
abbrev pub AreBetween : List Bounds → List ℤ → Type 0
AreBetween bounds values = AreWithin (map range_between bounds) values

-- A case. Its state at an image after a scan is what the machine goes on from; `prev` is the mark that the scan left, or none where no
-- scan was before. A query has one formula, and the circuit of which it is made may pass the limit on gates.
pub record Case : Type 0 where
  pub facts : Facts
  pub machine : Machine
  pub state_at : List ℤ → Option Bool → Values
  pub formula : Query → Cnf
  pub passes : Bool

-- the mark is one that a case of this kind has
abbrev pub MayFollow : Facts → Option Bool → Type 0
MayFollow facts None = Unit {0}
MayFollow facts (Some mark) = facts.looks_back ≡ true

-- the step ends with a trap
abbrev pub IsTrapped : Step → Type 0
IsTrapped (done t) = ⊥
IsTrapped (trap kind place) = Unit {0}
IsTrapped (over place) = ⊥

-- what is known of every case
pub record IsSound (case : Case) : Type 0 where
  pub lawful : IsLawful case.machine
  -- the ranges are the machine's
  pub params : map range_between case.facts.params ≡ case.machine.params
  pub input : map range_between case.facts.input ≡ case.machine.input
  -- an image of values in range is a state with each mark that the case has
  pub states : (image : List ℤ) (prev : Option Bool) → AreBetween case.facts.image image → MayFollow case.facts prev
      → IsState case.machine (case.state_at image prev)
  -- a trap is no failing where a goal is asked for
  pub traps : case.facts.goal ≡ true → (s i : Values) → IsState case.machine s → IsInput case.machine i
      → case.machine.fails s i ≡ true → IsTrapped (case.machine.step s i) → ⊥
  -- no query past the last is asked
  pub depth : case.facts.depth ≤ LAST_QUERY
  -- values make a query's clauses hold exactly where the machine meets it
  pub met : (q : Query) → IsAsked q → Meets case.machine q ↔ ((values : ℕ → Bool) × Holds values (case.formula q).clauses)
