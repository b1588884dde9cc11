-- How a region lies in its words: the first links of the literals' lists; the literals of the clauses; for each lemma the number of
-- its literals, these and its hints; words that aren't in use; and from the back three words for each clause and lemma, the place at
-- which it begins and the links of its two slots.
use Rattle.std.specs.Prelude.{◌≡◌, ℕ, zero, suc, ◌+◌, ◌*◌, ◌≤◌, List, [], ◌∷◌, ◌++◌, length, map, slice_index, ◌==◌, if◌then◌else◌}
use Rattle.std.specs.List.{between, range_with_len}
use Rattle.pv_region.specs.declared.watch.Watch.{Watch}
use Rattle.pv_region.specs.Stored.{Stored, Hinted, used_of}
use Rattle.pv_region.specs.Links.{record_at, walk, AreLists}

-- the parts that begin at these places, counted from 1; each ends where the next begins, and the last at `end`
abbrev pub parts_to : {A : Type 0} → (ℕ → ℕ) → (ℕ → ℕ → A) → ℕ → ℕ → List A
parts_to place read end zero = []
parts_to place read end (suc k) = parts_to place read (place (suc k)) k ++ read (place (suc k)) end ∷ []

-- each part fits where it lies, and the first begins at `start`
abbrev pub AreParts : (ℕ → ℕ) → (ℕ → ℕ → Type 0) → ℕ → ℕ → ℕ → Type 0
AreParts place Fits start end zero = start ≡ end
AreParts place Fits start end (suc k) = Fits (place (suc k)) end × AreParts place Fits start (place (suc k)) k

-- where a clause or lemma begins
abbrev pub start_in : List ℕ → ℕ → ℕ
start_in words id = slice_index words (record_at words id)

-- where one ends, of which the last ends at `end`
abbrev pub end_at : List ℕ → ℕ → ℕ → ℕ → ℕ
end_at words end last id = if id == last then end else start_in words (id + 1)

-- where the one so many after the first ones begins
abbrev pub start_after : List ℕ → ℕ → ℕ → ℕ
start_after words first k = start_in words (first + k)

-- the lemma in this part
abbrev pub lemma_in : List ℕ → ℕ → ℕ → Hinted
lemma_in words start end = record {
  lits = between (start + 1) (start + 1 + slice_index words start) words;
  hints = between (start + 1 + slice_index words start) end words;
}

abbrev pub FitsLemma : List ℕ → ℕ → ℕ → Type 0
FitsLemma words start end = start + 1 + slice_index words start ≤ end

abbrev pub clauses_in : List ℕ → ℕ → ℕ → List (List ℕ)
clauses_in words end count = parts_to (start_after words 0) (λ a b. between a b words) end count

abbrev pub lemmas_in : List ℕ → ℕ → ℕ → ℕ → List Hinted
lemmas_in words first end count = parts_to (start_after words first) (lemma_in words) end count

-- the list of a literal, by its place: no list is longer than there are codes
abbrev pub list_at : List ℕ → ℕ → ℕ → List Watch
list_at words count i = walk words (2 * count + 2) (slice_index words i)

abbrev pub lists_in : List ℕ → ℕ → ℕ → List (List Watch)
lists_in words literals count = map (list_at words count) (range_with_len 0 literals)

-- how many variables, clauses and lemmas, where the clauses and the lemmas end, and the words
pub record Block : Type 0 where
  pub variables : ℕ
  pub clauses : ℕ
  pub lemmas : ℕ
  pub clauses_end : ℕ
  pub end : ℕ
  pub words : List ℕ

abbrev pub stored_of : Block → Stored
stored_of b = record {
  variables = b.variables;
  capacity = length b.words;
  clauses = clauses_in b.words b.clauses_end b.clauses;
  lemmas = lemmas_in b.words b.clauses b.end b.lemmas;
  lists = lists_in b.words (2 * b.variables) (b.clauses + b.lemmas);
}

-- what a region keeps
pub record IsLaidOut (b : Block) : Type 0 where
  pub small : length b.words ≤ 250000000
  pub clauses : AreParts (start_after b.words 0) (λ start end. start ≤ end) (2 * b.variables) b.clauses_end b.clauses
  pub lemmas : AreParts (start_after b.words b.clauses) (FitsLemma b.words) b.clauses_end b.end b.lemmas
  pub used : b.end + 3 * (b.clauses + b.lemmas) ≡ used_of (stored_of b)
  pub room : b.end + 3 * (b.clauses + b.lemmas) ≤ length b.words
  pub lists : AreLists b.words (2 * b.variables) (b.clauses + b.lemmas) (list_at b.words (b.clauses + b.lemmas))
