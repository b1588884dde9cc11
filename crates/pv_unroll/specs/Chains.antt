-- The edges of each location as chains through a table, in which each number is one more and 0 ends a chain.
use Rattle.std.specs.Prelude.{ℕ, zero, suc, List, [], ◌∷◌, length, replicate, slice_index_or, slice_set, Option, Some, None}
use Rattle.pv_flow.specs.declared.parts.Edge.{Edge}
use Rattle.pv_unroll.specs.Counts.{raised}

pub record Chains : Type 0 where
  pub heads : List ℕ
  pub nexts : List ℕ

-- the edge of this number stands before those of its location
abbrev pub chained : ℕ → ℕ → Chains → Chains
chained number from c = record {
  heads = slice_set c.heads from (suc number);
  nexts = slice_set c.nexts number (slice_index_or c.heads from 0);
}

abbrev pub chained_by : ℕ → Option Edge → Chains → Chains
chained_by number None c = c
chained_by number (Some edge) c = chained number edge.from c

-- the edges are numbered from e on; the last comes first
abbrev pub all_chained : ℕ → List Edge → Chains → Chains
all_chained e [] c = c
all_chained e (edge ∷ edges) c = chained e edge.from (all_chained (suc e) edges c)

abbrev pub chains_of : ℕ → List Edge → Chains
chains_of locations edges = all_chained 0 edges (record { heads = replicate locations 0; nexts = replicate (length edges) 0 })

-- the numbers of a chain from this one on, at most so many
abbrev pub along : List ℕ → ℕ → ℕ → List ℕ
along nexts zero number = []
along nexts (suc most) zero = []
along nexts (suc most) (suc number) = number ∷ along nexts most (slice_index_or nexts number 0)

-- how many edges begin at each location, besides those that were counted
abbrev pub counted : List ℕ → List Edge → List ℕ
counted counts [] = counts
counted counts (edge ∷ edges) = counted (raised counts edge.from) edges
