-- Clauses as lists of literals, and formulas in conjunctive normal form as lists of clauses.
use Rattle.std.specs.Prelude.{◌≡◌, ℕ, Bool, false, ◌==◌, ◌||◌, ◌<◌, List, [], ◌∷◌, length, IsTrue}
use Rattle.std.specs.List.{list_any, list_all, AllByRecursion}
use Rattle.pv_cnf.specs.Literal.{variable_of, literal_value, is_outside}

-- whether a literal has a variable that is 0 or past the last of n
abbrev pub has_outside : ℕ → List ℕ → Bool
has_outside n lits = list_any (is_outside n) lits

-- whether a literal is of variable v
abbrev pub has_variable : ℕ → List ℕ → Bool
has_variable v lits = list_any (λ lit. v == variable_of lit) lits

-- whether a variable stands twice
abbrev pub has_double : List ℕ → Bool
has_double [] = false
has_double (lit ∷ lits) = has_variable (variable_of lit) lits || has_double lits

-- a clause over the variables 1 to n: at least one literal, and no variable twice
pub record IsClause (n : ℕ) (lits : List ℕ) : Type 0 where
  pub inside : has_outside n lits ≡ false
  pub distinct : has_double lits ≡ false
  pub nonempty : 0 < length lits

-- each is a clause over the variables 1 to n
abbrev pub AreClauses : ℕ → List (List ℕ) → Type 0
AreClauses n clauses = AllByRecursion (IsClause n) clauses

-- whether a literal of the clause is true
abbrev pub clause_value : (ℕ → Bool) → List ℕ → Bool
clause_value values lits = list_any (literal_value values) lits

-- values make a formula hold where each clause has a literal that is true under them
abbrev pub Holds : (ℕ → Bool) → List (List ℕ) → Type 0
Holds values clauses = IsTrue (list_all (clause_value values) clauses)

-- a formula over the variables 1 to `variables`
pub record Cnf : Type 0 where
  pub variables : ℕ
  pub clauses : List (List ℕ)
