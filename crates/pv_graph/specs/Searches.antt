-- A search from nodes, step by step: which nodes were seen, and which of them are still to be left.
use Rattle.std.specs.Prelude.{ℕ, List, [], ◌∷◌, ◌++◌, Bool as Truth, true, not, if◌then◌else◌, slice_index_or, slice_set, nat_eq}
use Rattle.pv_graph.specs.declared.search.Search.{Search}

pub record Marks : Type 0 where
  pub seen : List Truth
  pub work : List ℕ

abbrev pub is_new : List Truth → ℕ → Truth
is_new seen a = not (slice_index_or seen a true)

abbrev pub marked : Marks → ℕ → Marks
marked m a = if is_new m.seen a then record { seen = slice_set m.seen a true; work = m.work ++ a ∷ [] } else m

abbrev pub all_marked : Marks → List ℕ → Marks
all_marked m [] = m
all_marked m (a ∷ more) = all_marked (marked m a) more

-- only nodes with this root
abbrev pub alike_marked : List ℕ → ℕ → Marks → List ℕ → Marks
alike_marked roots root m [] = m
alike_marked roots root m (a ∷ more) =
    alike_marked roots root (if nat_eq (slice_index_or roots a 0) root then marked m a else m) more

-- a search of the code, as plain data
abbrev pub marks_of : Search → Marks
marks_of s = record { seen = s.seen.items; work = s.work.items }
