-- Which claims belong to a case, what their traces show, and which queries their proofs refute.
use Rattle.std.specs.Prelude.{◌≡◌, ℕ, ◌-◌, ◌≤◌, ◌==◌, nat_le, Bool, true, false, not, ◌&&◌, List, [], ◌∷◌, ◌++◌}
use Rattle.pv_claims.specs.declared.claim.Claim.{Claim}
use Rattle.pv_claims.specs.declared.claim.Claim.TheVariants.{Satisfied, Unreachable, Violated, Trapped, Reached, Depth, Loop, Lemmas, Region}
use Rattle.pv_claims.specs.declared.trace.Ending.{Ending}
use Rattle.pv_claims.specs.declared.trace.Ending.TheVariants as ending
use Rattle.pv_cert.specs.declared.proof.Query.{Query}
use Rattle.pv_cert.specs.declared.proof.Query.TheVariants.{Base, Step}
use Rattle.pv_kind.specs.Decisions.{bases}
use Rattle.pv_valid.specs.declared.facts.Facts.{Facts}

-- ---- which belong

-- a scan's number, up to the depth
abbrev pub IsScan : ℕ → ℕ → Type 0
IsScan depth n = (1 ≤ n) × (n ≤ depth)

-- A goal is reached or can't be, and what isn't one holds or is violated, where traps count too. A depth and a number of lemmas are the
-- case's. What words a region needs is said at the lemma that comes next.
abbrev pub Belongs : Facts → Claim → Type 0
Belongs facts (Satisfied k) = (facts.goal ≡ false) × (k ≤ facts.depth)
Belongs facts (Unreachable k) = (facts.goal ≡ true) × (k ≤ facts.depth)
Belongs facts (Violated n) = (facts.goal ≡ false) × IsScan facts.depth n
Belongs facts (Trapped n) = (facts.goal ≡ false) × IsScan facts.depth n
Belongs facts (Reached n) = (facts.goal ≡ true) × IsScan facts.depth n
Belongs facts (Depth k) = k ≡ facts.depth
Belongs facts (Loop n) = IsScan facts.depth n
Belongs facts (Lemmas b) = b ≡ facts.lemmas
Belongs facts (Region x) = Unit {0}

-- the same as a value
abbrev pub is_scan : ℕ → ℕ → Bool
is_scan depth n = nat_le 1 n && nat_le n depth

abbrev pub belongs : Facts → Claim → Bool
belongs facts (Satisfied k) = not facts.goal && nat_le k facts.depth
belongs facts (Unreachable k) = facts.goal && nat_le k facts.depth
belongs facts (Violated n) = not facts.goal && is_scan facts.depth n
belongs facts (Trapped n) = not facts.goal && is_scan facts.depth n
belongs facts (Reached n) = facts.goal && is_scan facts.depth n
belongs facts (Depth k) = k == facts.depth
belongs facts (Loop n) = is_scan facts.depth n
belongs facts (Lemmas b) = b == facts.lemmas
belongs facts (Region x) = true

-- ---- how the last scan of their traces ends

abbrev pub is_pattern : Ending → Bool
is_pattern ending.Pattern = true
is_pattern (ending.Trap kind place) = false
is_pattern (ending.Over place) = false

abbrev pub is_trap : Ending → Bool
is_trap ending.Pattern = false
is_trap (ending.Trap kind place) = true
is_trap (ending.Over place) = false

abbrev pub is_over : Ending → Bool
is_over ending.Pattern = false
is_over (ending.Trap kind place) = false
is_over (ending.Over place) = true

-- beyond a depth it may fail in any way; a claim of all runs has no trace
abbrev pub ends_as : Claim → Ending → Bool
ends_as (Satisfied k) told = true
ends_as (Unreachable k) told = true
ends_as (Violated n) told = is_pattern told
ends_as (Trapped n) told = is_trap told
ends_as (Reached n) told = is_pattern told
ends_as (Depth k) told = true
ends_as (Loop n) told = is_over told
ends_as (Lemmas b) told = true
ends_as (Region x) told = true

-- ---- which queries are refuted

-- Base queries show that no earlier scan of a run fails, and a step query that none fails later. Where a limit was spent the proofs say
-- themselves how far they came.
abbrev pub expected : Claim → List Query
expected (Satisfied k) = bases k ++ Step k ∷ []
expected (Unreachable k) = bases k ++ Step k ∷ []
expected (Violated n) = bases (n - 1)
expected (Trapped n) = bases (n - 1)
expected (Reached n) = bases (n - 1)
expected (Depth k) = bases k
expected (Loop n) = bases (n - 1)
expected (Lemmas b) = []
expected (Region x) = []

abbrev pub is_query : Query → Query → Bool
is_query (Base n) (Base m) = n == m
is_query (Base n) (Step k) = false
is_query (Step j) (Base m) = false
is_query (Step j) (Step k) = j == k
