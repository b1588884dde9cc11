-- How much of the text a location takes, and how many edges are drawn there.
use Rattle.std.specs.Prelude.{ℕ, zero, suc, ◌+◌, List, [], ◌∷◌, ◌++◌, slice_index_or, Option, Some, None}
use Rattle.pv_call_tables.specs.declared.marks.Standing.{Standing}
use Rattle.pv_call_tables.specs.declared.marks.Standing.TheVariants as standing

abbrev pub of_call : List ℕ → Option ℕ → ℕ
of_call numbers None = 0
of_call numbers (Some j) = slice_index_or numbers j 0

-- with so many locations of a called block after it
abbrev pub text_by : Standing → ℕ → ℕ
text_by standing.Nothing called = called + 1
text_by standing.Done called = 1
text_by (standing.Trap kind place) called = 0
text_by (standing.Over place) called = 0

abbrev pub text_at : List Standing → List (Option ℕ) → List ℕ → ℕ → ℕ
text_at ends calls texts l = text_by (slice_index_or ends l standing.Nothing) (of_call texts (slice_index_or calls l None))

abbrev pub drawn_here : List ℕ → List ℕ → Option ℕ → ℕ → ℕ
drawn_here sizes counts None l = slice_index_or counts l 0
drawn_here sizes counts (Some j) l = slice_index_or sizes j 0 + 1

abbrev pub drawn_by : List ℕ → List ℕ → ℕ → Standing → Option ℕ → ℕ → ℕ
drawn_by sizes counts outs standing.Nothing call l = drawn_here sizes counts call l
drawn_by sizes counts outs standing.Done call l = outs
drawn_by sizes counts outs (standing.Trap kind place) call l = 0
drawn_by sizes counts outs (standing.Over place) call l = 0

abbrev pub drawn_at : List Standing → List (Option ℕ) → List ℕ → List ℕ → ℕ → ℕ → ℕ
drawn_at ends calls sizes counts outs l =
    drawn_by sizes counts outs (slice_index_or ends l standing.Nothing) (slice_index_or calls l None) l

-- ---- sums

abbrev pub summed : (ℕ → ℕ) → ℕ → ℕ
summed f zero = 0
summed f (suc n) = summed f n + f n

-- the sums of those before each number, up to this one
abbrev pub sums_below : (ℕ → ℕ) → ℕ → List ℕ
sums_below f zero = 0 ∷ []
sums_below f (suc n) = sums_below f n ++ (summed f n + f n) ∷ []
