-- A list of lists kept as one list of their elements and a list of the places where they end.
use Rattle.std.specs.Prelude.{◌≡◌, ℕ, Bool, true, false, ◌+◌, ◌^◌, ◌<◌, ◌≤◌, List, [], ◌∷◌, length, All, slice_index_or}
use Rattle.std.specs.List.{between}
use Rattle.pv_cnf.specs.Clause.{Cnf, AreClauses}

-- the parts of a list that end at these places, the first of which begins at `start`
abbrev pub parts_from : ℕ → List ℕ → List ℕ → List (List ℕ)
parts_from start [] xs = []
parts_from start (end ∷ ends) xs = between start end xs ∷ parts_from end ends xs

-- the places don't fall, from `start` on, and the last is `last`
abbrev pub LeadTo : ℕ → List ℕ → ℕ → Type 0
LeadTo start [] last = start ≡ last
LeadTo start (end ∷ ends) last = (start ≤ end) × LeadTo end ends last

-- the formula that these literals and ends of clauses stand for
abbrev pub formula_of : ℕ → List ℕ → List ℕ → Cnf
formula_of variables lits ends = record { variables = variables; clauses = parts_from 0 ends lits }

-- what the fields of a formula keep
pub record IsLaidOut (variables : ℕ) (lits ends : List ℕ) (marks : List Bool) : Type 0 where
  -- the clauses cover all literals
  pub covered : LeadTo 0 ends (length lits)
  pub valid : AreClauses variables (parts_from 0 ends lits)
  pub few : length ends < 2 ^ 32
  -- a mark for each variable and 0, none of which is set
  pub one_each : length marks ≡ variables + 1
  pub clear : All (λ mark. mark ≡ false) marks

-- the mark of each variable is the answer of the test
abbrev pub MarksAre : (ℕ → Bool) → List Bool → Type 0
MarksAre test marks = (v : ℕ) (d : Bool) → v < length marks → slice_index_or marks v d ≡ test v

-- where a mark is set, the test passes
abbrev pub MarksWithin : (ℕ → Bool) → List Bool → Type 0
MarksWithin test marks = (v : ℕ) (d : Bool) → v < length marks → slice_index_or marks v d ≡ true → test v ≡ true
