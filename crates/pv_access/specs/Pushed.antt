-- What the code puts behind sets and checks, by a table of terms that grows.
use Rattle.std.specs.Prelude.{◌≡◌, ℕ, List, [], ◌∷◌, ◌++◌}
use Rattle.pv_flow.specs.Terms.{Term}
use Rattle.pv_flow.specs.Automata.{Set}
use Rattle.pv_flow.specs.declared.term.Node.{Node}
use Rattle.pv_flow.specs.declared.parts.Set.{Set as CodeSet}
use Rattle.pv_terms.specs.Pushed.{IsAt, Grows}
use Rattle.pv_access.specs.declared.check.Check.{Check as CodeCheck}
use Rattle.pv_access.specs.Accesses.{Check}

-- each number is that of its term
abbrev pub AreAt : List Node → List ℕ → List Term → Type 0
AreAt nodes [] [] = Unit {0}
AreAt nodes [] (t ∷ ts) = ⊥
AreAt nodes (n ∷ ns) [] = ⊥
AreAt nodes (n ∷ ns) (t ∷ ts) = IsAt nodes n t × AreAt nodes ns ts

-- these are the sets
abbrev pub AreSets : List Node → List CodeSet → List Set → Type 0
AreSets nodes [] [] = Unit {0}
AreSets nodes [] (s ∷ sets) = ⊥
AreSets nodes (c ∷ codes) [] = ⊥
AreSets nodes (c ∷ codes) (s ∷ sets) = (c.variable ≡ s.variable) × IsAt nodes c.value s.value × AreSets nodes codes sets

-- these are the checks
abbrev pub AreChecks : List Node → List CodeCheck → List Check → Type 0
AreChecks nodes [] [] = Unit {0}
AreChecks nodes [] (s ∷ checks) = ⊥
AreChecks nodes (c ∷ codes) [] = ⊥
AreChecks nodes (c ∷ codes) (s ∷ checks) =
    (c.kind ≡ s.kind) × (c.place ≡ s.place) × IsAt nodes c.term s.term × AreChecks nodes codes checks

-- nodes are put behind the nodes, and these sets behind the sets
pub record Sets (old new : List Node) (before after : List CodeSet) (added : List Set) : Type 0 where
  pub more : List CodeSet
  pub grows : Grows old new
  pub extends : after ≡ before ++ more
  pub sets : AreSets new more added

-- and these checks behind the checks
pub record Checks (old new : List Node) (before after : List CodeCheck) (added : List Check) : Type 0 where
  pub more : List CodeCheck
  pub grows : Grows old new
  pub extends : after ≡ before ++ more
  pub checks : AreChecks new more added
