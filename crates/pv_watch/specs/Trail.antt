-- The trail of a search: which literals are false, in the order in which they became so.
use Rattle.std.specs.Prelude.{◌≡◌, ℕ, ◌+◌, ◌*◌, ◌<◌, ◌⊎◌, false, nat_eq, List, [], ◌∷◌, length, take, Contains, Some, slice_index_or, ◌++◌, if◌then◌else◌}
use Rattle.std.specs.List.{AllByRecursion}
use Rattle.pv_cnf.specs.Literal.{complement}
use Rattle.pv_cnf.specs.Clause.{has_outside, has_double}
use Rattle.pv_log.specs.Propagation.{named, unit_of}
use Rattle.pv_watch.specs.Quiet.{AreQuiet}

-- the literals made false, the clause that each of these had as its reason, and the places at which a literal
-- was decided
pub record Path : Type 0 where
  pub variables : ℕ
  pub falses : List ℕ
  pub reasons : List ℕ
  pub starts : List ℕ

-- the place of a literal in a list whose first place is `from`, or `none`
abbrev pub place_from : ℕ → ℕ → List ℕ → ℕ → ℕ
place_from none from [] lit = none
place_from none from (x ∷ xs) lit = if nat_eq lit x then from else place_from none (from + 1) xs lit

-- the place that stands for none: no trail is so long
abbrev pub no_place : ℕ
no_place = 4294967295

-- each place is below the later ones, and all are below `last`
abbrev pub Rise : List ℕ → ℕ → Type 0
Rise [] last = Unit {0}
Rise (s ∷ starts) last = AllByRecursion (λ t. s < t) starts × (s < last) × Rise starts last

-- what the fields of a trail keep
pub record Agree (variables : ℕ) (places falses reasons starts : List ℕ) : Type 0 where
  pub size : length places ≡ 2 * variables + 2
  pub small : variables < 2147483648
  pub placed : (lit : ℕ) → slice_index_or places lit no_place ≡ place_from no_place 0 falses lit
  pub inside : has_outside variables falses ≡ false
  pub distinct : has_double falses ≡ false
  pub reasons_size : length reasons ≡ variables
  pub rise : Rise starts (length falses)

-- the literal at a place became false by its reason, all of whose literals but its complement were false
pub record IsImplied (clauses : List (List ℕ)) (falses reasons : List ℕ) (i : ℕ) : Type 0 where
  pub clause : List ℕ
  pub lit : ℕ
  pub at : named clauses (slice_index_or reasons i 0) ≡ Some clause
  pub unit : unit_of (take i falses) clause ≡ Some lit
  pub false_is : complement lit ≡ slice_index_or falses i 0

-- a trail that unit propagation over the clauses and decisions made: propagation had ended at each decision
pub record IsSound (clauses : List (List ℕ)) (path : Path) : Type 0 where
  pub reasons : (i : ℕ) → i < length path.falses → Contains path.starts i ⊎ IsImplied clauses path.falses path.reasons i
  pub quiet : AllByRecursion (λ s. AreQuiet (take s path.falses) clauses) path.starts

-- the last of some places
abbrev pub LastIs : List ℕ → ℕ → Type 0
LastIs starts s = (front : List ℕ) × (starts ≡ front ++ s ∷ [])

-- more literals may have become false, by reasons
pub record Extends (old new : Path) : Type 0 where
  pub variables : new.variables ≡ old.variables
  pub starts : new.starts ≡ old.starts
  pub more : List ℕ
  pub falses : new.falses ≡ old.falses ++ more
