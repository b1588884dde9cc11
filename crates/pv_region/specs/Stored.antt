-- What a region holds, and what its calls make of that.
use Rattle.std.specs.Prelude.{◌≡◌, ℕ, ◌+◌, ◌-◌, ◌*◌, ◌<◌, List, [], ◌∷◌, ◌++◌, length, map, sum_by, Contains, Option, None, Some, slice_index_or, slice_set}
use Rattle.pv_region.specs.declared.watch.Watch.{Watch}

-- a lemma and its hints
pub record Hinted : Type 0 where
  pub lits : List ℕ
  pub hints : List ℕ

pub record Stored : Type 0 where
  pub variables : ℕ
  -- the words that there are
  pub capacity : ℕ
  -- in the order in which they came: their numbers are from 1, those of the lemmas go on from the clauses'
  pub clauses : List (List ℕ)
  pub lemmas : List Hinted
  -- the list of each literal, from literal 2 on
  pub lists : List (List Watch)

-- ---- words: two for a variable (one for each of its literals), three beside its literals for a clause, and four beside its
-- ---- literals and hints for a lemma

abbrev pub clause_cost : List ℕ → ℕ
clause_cost lits = 3 + length lits

abbrev pub lemma_cost : Hinted → ℕ
lemma_cost lemma = 4 + length lemma.lits + length lemma.hints

-- the words in use
abbrev pub used_of : Stored → ℕ
used_of s = 2 * s.variables + sum_by clause_cost s.clauses + sum_by lemma_cost s.lemmas

-- with so many more words `need` would be in use, more than there are
pub record Passes (s : Stored) (cost need : ℕ) : Type 0 where
  pub sum : need ≡ used_of s + cost
  pub past : s.capacity < need

-- ---- clauses and lemmas by their numbers

-- how many there are
abbrev pub count_of : Stored → ℕ
count_of s = length s.clauses + length s.lemmas

-- the literals of each
abbrev pub all_lits : Stored → List (List ℕ)
all_lits s = s.clauses ++ map (λ lemma. lemma.lits) s.lemmas

-- the hints of each: a clause has none
abbrev pub all_hints : Stored → List (List ℕ)
all_hints s = map (λ _. []) s.clauses ++ map (λ lemma. lemma.hints) s.lemmas

abbrev pub with_clause : Stored → List ℕ → Stored
with_clause s lits = record s { clauses = s.clauses ++ lits ∷ [] }

abbrev pub with_lemma : Stored → Hinted → Stored
with_lemma s lemma = record s { lemmas = s.lemmas ++ lemma ∷ [] }

-- ---- lists of watches

-- the list of a literal
abbrev pub list_of : Stored → ℕ → List Watch
list_of s lit = slice_index_or s.lists (lit - 2) []

abbrev pub with_list : Stored → ℕ → List Watch → Stored
with_list s lit watches = record s { lists = slice_set s.lists (lit - 2) watches }

-- it stands in the list of some literal
pub record IsLinked (s : Stored) (watch : Watch) : Type 0 where
  pub lit : ℕ
  pub there : Contains (list_of s lit) watch

-- a list without its first entry
pub record WithoutFirst (gone : Watch) (watches left : List Watch) : Type 0 where
  pub was : watches ≡ gone ∷ left

-- a list without the entry that follows this one
pub record WithoutNext (before gone : Watch) (watches left : List Watch) : Type 0 where
  pub front : List Watch
  pub rest : List Watch
  pub was : watches ≡ front ++ before ∷ gone ∷ rest
  pub is : left ≡ front ++ before ∷ rest

-- a list without the entry that follows this one, or without its first
abbrev pub Without : Option Watch → Watch → List Watch → List Watch → Type 0
Without None gone watches left = WithoutFirst gone watches left
Without (Some before) gone watches left = WithoutNext before gone watches left

-- an entry follows this one, or there is a first
pub record HasNext (before : Option Watch) (watches : List Watch) : Type 0 where
  pub gone : Watch
  pub left : List Watch
  pub without : Without before gone watches left
