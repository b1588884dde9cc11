-- What begins at each location as chains through a table, in which each number is one more and 0 ends a chain.
use Rattle.std.specs.Prelude.{ℕ, zero, suc, List, [], ◌∷◌, length, replicate, ◌==◌, cond, slice_index_or, slice_set}
use Rattle.pv_flow.specs.declared.parts.Edge.{Edge}
use Rattle.pv_flow.specs.declared.parts.Loop.{Loop}

pub record Chains : Type 0 where
  pub heads : List ℕ
  pub nexts : List ℕ

abbrev pub from_of : Edge → ℕ
from_of edge = edge.from

abbrev pub first_of : Loop → ℕ
first_of loop = loop.first

-- the one of this number stands before those of its location
abbrev pub chained : ℕ → ℕ → Chains → Chains
chained number from c = record {
  heads = slice_set c.heads from (suc number);
  nexts = slice_set c.nexts number (slice_index_or c.heads from 0);
}

-- they are numbered from e on; the last comes first
abbrev pub all_chained : ℕ → List ℕ → Chains → Chains
all_chained e [] c = c
all_chained e (from ∷ froms) c = chained e from (all_chained (suc e) froms c)

abbrev pub chains_of : ℕ → List ℕ → Chains
chains_of locations froms = all_chained 0 froms (record { heads = replicate locations 0; nexts = replicate (length froms) 0 })

-- the numbers of a chain from this one on, at most so many
abbrev pub along : List ℕ → ℕ → ℕ → List ℕ
along nexts zero number = []
along nexts (suc most) zero = []
along nexts (suc most) (suc number) = number ∷ along nexts most (slice_index_or nexts number 0)

-- the numbers of those that begin at the location, numbered from e on
abbrev pub numbers_from : ℕ → ℕ → List ℕ → List ℕ
numbers_from l e [] = []
numbers_from l e (from ∷ froms) = cond (from == l) (e ∷ numbers_from l (suc e) froms) (numbers_from l (suc e) froms)
