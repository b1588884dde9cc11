-- Clauses of at most three literals, as the code makes them. No public clause cites this.
use Rattle.std.specs.Prelude.{ℕ, List, [], ◌∷◌}
use Rattle.pv_frames.specs.declared.short.Short.{Short}
use Rattle.pv_frames.specs.declared.short.Short.TheVariants.{Omitted, One, Two, Three}

-- one clause, or none where it is left out
abbrev pub clauses_of : Short → List (List ℕ)
clauses_of Omitted = []
clauses_of (One a) = (a ∷ []) ∷ []
clauses_of (Two a b) = (a ∷ b ∷ []) ∷ []
clauses_of (Three a b c) = (a ∷ b ∷ c ∷ []) ∷ []
