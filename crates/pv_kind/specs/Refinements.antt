-- What an oracle makes smaller, and how it goes back on that: cells that are put back, round by round.
use Rattle.std.specs.Prelude.{◌≡◌, ℕ, ◌<◌, ◌≤◌, Bool, not, List, [], ◌∷◌, length, filter, IsTrue, nat_eq}
use Rattle.std.specs.List.{list_any, AllByRecursion}
use Rattle.pv_cert.specs.declared.proof.Query.{Query}
use Rattle.pv_cert.specs.declared.proof.Chain.{Chain}
use Rattle.pv_cert.specs.declared.proof.Proof.{Proof}

-- where an oracle stands: how the machine is made smaller, and the cells that are abstracted
pub record Stage : Type 0 where
  pub chain : Chain
  pub abstracted : List ℕ

-- whether a cell is among these
abbrev pub is_among : List ℕ → ℕ → Bool
is_among cells cell = list_any (nat_eq cell) cells

-- the list without these cells
abbrev pub without : List ℕ → List ℕ → List ℕ
without cells list = filter (λ cell. not (is_among cells cell)) list

-- these cells are put back: they leave the chain and the list, and nothing else changes
abbrev pub put_back : List ℕ → Stage → Stage
put_back cells s = record {
  chain = record s.chain { havoc = without cells s.chain.havoc };
  abstracted = without cells s.abstracted;
}

-- a round: a query was asked, at this scan a trace that met it differed from the machine, and these are the cells in which it did
pub record Round : Type 0 where
  pub query : Query
  pub scan : ℕ
  pub cells : List ℕ

-- which cells differ at which scan of a trace for the query, under the chain
abbrev pub Tells : Type 1
Tells = Chain → Query → ℕ → List ℕ → Type 0

-- the cells are told, some are, and all are abstracted
pub record IsRound (tells : Tells) (s : Stage) (round : Round) : Type 0 where
  pub told : tells s.chain round.query round.scan round.cells
  pub some : 0 < length round.cells
  pub abstracted : AllByRecursion (λ cell. IsTrue (is_among s.abstracted cell)) round.cells

-- from the first stage these rounds lead to the last: each puts back the cells that differed, and no others
abbrev pub Refines : Tells → Stage → List Round → Stage → Type 0
Refines tells s [] t = s ≡ t
Refines tells s (round ∷ rounds) t = IsRound tells s round × Refines tells (put_back round.cells s) rounds t

-- some rounds lead from one stage to the other
abbrev pub IsRefined : Tells → Stage → Stage → Type 0
IsRefined tells s t = (rounds : List Round) × Refines tells s rounds t

-- some rounds do in which only such queries were asked
abbrev pub IsRefinedBy : Tells → (Query → Type 0) → Stage → Stage → Type 0
IsRefinedBy tells asked s t = (rounds : List Round) × Refines tells s rounds t × AllByRecursion (λ round. asked round.query) rounds

-- on the way from the first stage to the last there were, in this order, the chains of the proofs, each when its query was asked for the
-- last time
abbrev pub AreOnWay : Tells → Stage → List Proof → Stage → Type 0
AreOnWay tells s [] t = IsRefined tells s t
AreOnWay tells s (proof ∷ proofs) t =
    (u : Stage) × IsRefined tells s u × (u.chain ≡ proof.chain) × IsRefinedBy tells (λ query. query ≡ proof.query → ⊥) u t
    × AreOnWay tells u proofs t

-- rounds lead from the first stage to the last, no more than there were abstracted cells
pub record IsRefinedInFew (tells : Tells) (first last : Stage) : Type 0 where
  pub rounds : List Round
  pub lead : Refines tells first rounds last
  pub few : length rounds ≤ length first.abstracted
