-- What one proof, and proofs one after another, tell of what is wrong first.
use Rattle.std.proofs.Common.{◌≡◌, ℕ, zero, suc, ◌+◌, ◌<◌, ◌≤◌, Bool, true, false, eqb, List, [], ◌∷◌, length, drop, get_or, refl, ap, sym, subst, ◌∙◌, Option, Some, None, Result, Err, arith}
use Rattle.std.specs.Prelude.{◌&&◌, nat_le, slice_get}
use Rattle.std.specs.List.{AllByRecursion}
use Rattle.std.proofs.lemmas.Bool.{and_parts, eqb-true, leb-true}
use Rattle.std.proofs.lemmas.List.{drop_more, drop_all, length-drop}
use Rattle.std.proofs.lemmas.Option.{slice_get_within, get_or_from_slice_get}
use Rattle.pv_cnf.specs.Clause.{Cnf}
use Rattle.pv_log.specs.declared.line.Line as line
use Rattle.pv_cert.specs.declared.proof.Query.{Query}
use Rattle.pv_cert.specs.declared.proof.Query.TheVariants.{Base, Step}
use Rattle.pv_cert.specs.declared.proof.Proof.{Proof}
use Rattle.pv_kind.specs.declared.told.TheConstants.{LAST_QUERY}
use Rattle.pv_kind.specs.Oracles.{IsAsked}
use Rattle.pv_valid.specs.declared.fault.Kind.{Kind}
use Rattle.pv_valid.specs.declared.fault.Kind.TheVariants as kind
use Rattle.pv_valid.specs.declared.fault.Fault.{Fault}
use Rattle.pv_valid.specs.declared.fault.Fault.TheVariants.{TooManyGates, Line, NoMemory}
use Rattle.pv_valid.specs.Cases.{Case}
use Rattle.pv_valid.specs.Claims.{is_query}
use Rattle.pv_valid.specs.Walk.{or_else, unless, is_plain, gates_fault, refuting_fault, proof_fault, behind_proof, proofs_fault, is_named, spent_fault}
use Rattle.pv_judge.specs.Steps.{Finds, nth_fault}

-- ---- answers

pub finds-at : (found : Option Fault) (fault : Fault) (at : ℕ) (why : Kind) → fault ≡ Line at why → found ≡ Some (Line at why)
    → Finds found (Err fault)
finds-at found fault at why e f = subst (λ (x : Fault). Finds found (Err x)) (sym e) f

pub finds-gates : (found : Option Fault) (fault : Fault) → fault ≡ TooManyGates → found ≡ Some TooManyGates → Finds found (Err fault)
finds-gates found fault e f = subst (λ (x : Fault). Finds found (Err x)) (sym e) f

pub finds-memory : (found : Option Fault) (fault : Fault) → fault ≡ NoMemory → Finds found (Err fault)
finds-memory found fault e = subst (λ (x : Fault). Finds found (Err x)) (sym e) tt

pub finds-as : (found other : Option Fault) (r : Result (Unit {0}) Fault) → found ≡ other → Finds other r → Finds found r
finds-as found other r e f = subst (λ (x : Option Fault). Finds x r) (sym e) f

-- what is wrong first is so with what comes after it
pub finds-first : (x y : Option Fault) (fault : Fault) → Finds x (Err fault) → Finds (or_else x y) (Err fault)
finds-first x y TooManyGates f = ap (λ (o : Option Fault). or_else o y) f
finds-first x y (Line at why) f = ap (λ (o : Option Fault). or_else o y) f
finds-first x y NoMemory f = tt

pub behind-none : (x y : Option Fault) → x ≡ None → or_else x y ≡ y
behind-none x y e = ap (λ (o : Option Fault). or_else o y) e

-- ---- one proof

module _ (case : Case) (log_fault : Cnf → ℕ → List line.Line → Option Fault) (at : ℕ) (p : Proof) where
  abbrev log_part : ℕ → Option Fault
  log_part place = log_fault (case.formula p.query) place p.log

  abbrev chain_part : Bool → Bool → Option Fault
  chain_part plain passes = or_else (unless plain (suc at) kind.WrongQuery) (or_else (gates_fault passes) (log_part (suc (suc at))))

  by-query : (b c : Bool) → b ≡ c → proof_fault case b log_fault at p
      ≡ or_else (unless c at kind.WrongQuery) (chain_part (is_plain p.chain) case.passes)
  by-query b c e = ap (λ (x : Bool). or_else (unless x at kind.WrongQuery) (chain_part (is_plain p.chain) case.passes)) e

  pub wrong-query : (b : Bool) → b ≡ false → proof_fault case b log_fault at p ≡ Some (Line at kind.WrongQuery)
  wrong-query b e = by-query b false e

  pub wrong-chain : (b : Bool) → b ≡ true → is_plain p.chain ≡ false → proof_fault case b log_fault at p ≡ Some (Line (at + 1) kind.WrongQuery)
  wrong-chain b e plain =
      let is : suc at ≡ at + 1 = omega arith in
      by-query b true e ∙ (ap (λ (x : Bool). chain_part x case.passes) plain ∙ ap (λ (n : ℕ). Some (Line n kind.WrongQuery)) is)

  pub many-gates : (b : Bool) → b ≡ true → is_plain p.chain ≡ true → case.passes ≡ true → proof_fault case b log_fault at p ≡ Some TooManyGates
  many-gates b e plain passes =
      by-query b true e ∙ (ap (λ (x : Bool). chain_part x case.passes) plain ∙ ap (λ (x : Bool). chain_part true x) passes)

  pub log-judged : (b : Bool) → b ≡ true → is_plain p.chain ≡ true → case.passes ≡ false → proof_fault case b log_fault at p ≡ log_part (at + 2)
  log-judged b e plain passes =
      let is : suc (suc at) ≡ at + 2 = omega arith in
      by-query b true e ∙ (ap (λ (x : Bool). chain_part x case.passes) plain ∙ (ap (λ (x : Bool). chain_part true x) passes ∙ ap log_part is))

-- ---- queries

pub same-query : (q p : Query) → is_query q p ≡ true → q ≡ p
same-query (Base n) (Base m) e = ap (λ (k : ℕ). Base k) (eqb-true n m e)
same-query (Base n) (Step k) e = absurd cc
same-query (Step j) (Base m) e = absurd cc
same-query (Step j) (Step k) e = ap (λ (i : ℕ). Step i) (eqb-true j k e)

pub all-at : (P : Query → Type 0) (qs : List Query) (n : ℕ) (q : Query) → AllByRecursion P qs → slice_get qs n ≡ Some q → P q
all-at P [] n q all is = absurd cc
all-at P (x ∷ qs) zero q all is = (let same : x ≡ q = cc in subst P same all.0)
all-at P (x ∷ qs) (suc n) q all is = all-at P qs n q all.1 is

-- what is expected is asked
pub expected-asked : (qs : List Query) (n : ℕ) (q p : Query) → AllByRecursion IsAsked qs → slice_get qs n ≡ Some q → is_query q p ≡ true → IsAsked p
expected-asked qs n q p all is same = subst IsAsked (same-query q p same) (all-at IsAsked qs n q all is)

pub named-within : (depth n : ℕ) (q : Query) → is_named depth n q ≡ true → n ≤ depth + 1
named-within depth n (Base m) e = (let le = leb-true n depth (and_parts (eqb m n) (nat_le n depth) e).1 in omega (arith, le))
named-within depth n (Step k) e =
    let parts = and_parts (eqb (suc k) n) (nat_le k depth) e in
    let is = eqb-true (suc k) n parts.0 in
    let le = leb-true k depth parts.1 in
    omega (arith, is, le)

pub named-asked : (depth n : ℕ) (q : Query) → 1 ≤ n → depth ≤ LAST_QUERY → is_named depth n q ≡ true → IsAsked q
named-asked depth n (Base m) from most e =
    let parts = and_parts (eqb m n) (nat_le n depth) e in
    let is = eqb-true m n parts.0 in
    let le = leb-true n depth parts.1 in
    (omega (arith, is, from), omega (arith, is, le, most))
named-asked depth n (Step k) from most e =
    (let le = leb-true k depth (and_parts (eqb (suc k) n) (nat_le k depth) e).1 in omega (arith, le, most))

pub earlier-within : (depth n : ℕ) (q : Query) → (is_query (Base n) q && nat_le n depth) ≡ true → n ≤ depth
earlier-within depth n q e = leb-true n depth (and_parts (is_query (Base n) q) (nat_le n depth) e).1

pub earlier-asked : (depth n : ℕ) (q : Query) → 1 ≤ n → depth ≤ LAST_QUERY → (is_query (Base n) q && nat_le n depth) ≡ true → IsAsked q
earlier-asked depth n q from most e =
    let parts = and_parts (is_query (Base n) q) (nat_le n depth) e in
    let le = leb-true n depth parts.1 in
    let asked : IsAsked (Base n) = (from, omega (arith, le, most)) in
    subst IsAsked (same-query (Base n) q parts.0) asked

-- a proof that isn't the expected one is told at its line, so one of which nothing is told is
pub expected-of : (case : Case) (b : Bool) (log_fault : Cnf → ℕ → List line.Line → Option Fault) (at : ℕ) (p : Proof)
    → proof_fault case b log_fault at p ≡ None → b ≡ true
expected-of case true log_fault at p e = refl
expected-of case false log_fault at p e = absurd cc

-- ---- proofs against queries

-- the element at a place, with what follows it
pub drop-here : {X : Type 0} (xs : List X) (n : ℕ) (x : X) → n < length xs → x ≡ get_or xs n x → drop n xs ≡ x ∷ drop (n + 1) xs
drop-here xs n x lt is = drop_more xs n x lt ∙ ap (λ y. y ∷ drop (n + 1) xs) (sym is)

pub drop-got : {X : Type 0} (xs : List X) (n : ℕ) (x : X) → slice_get xs n ≡ Some x → drop n xs ≡ x ∷ drop (n + 1) xs
drop-got xs n x is = drop-here xs n x (slice_get_within xs n x is) (sym (get_or_from_slice_get xs n x x is))

pub drop-none : {X : Type 0} (xs : List X) (n : ℕ) → slice_get xs n ≡ None → drop n xs ≡ []
drop-none [] zero e = refl
drop-none [] (suc n) e = refl
drop-none (x ∷ xs) zero e = absurd cc
drop-none (x ∷ xs) (suc n) e = drop-none xs n e

module _ (case : Case) (queries : List Query) (proofs : List Proof) (n at : ℕ) where
  Left : ℕ → ℕ → Option Fault
  Left place k = proofs_fault case (drop k queries) place (drop k proofs)

  -- no query is left for this proof
  pub one-more : (p : Proof) → n < length proofs → p ≡ get_or proofs n p → slice_get queries n ≡ None
      → proofs_fault case (drop n queries) at (drop n proofs) ≡ Some (Line at kind.WrongQuery)
  one-more p lt is none =
      ap (λ (qs : List Query). proofs_fault case qs at (drop n proofs)) (drop-none queries n none)
      ∙ ap (λ (ps : List Proof). proofs_fault case [] at ps) (drop-here proofs n p lt is)

  -- this proof, and what is left after it
  pub one-step : (p : Proof) (q : Query) → n < length proofs → p ≡ get_or proofs n p → slice_get queries n ≡ Some q
      → proofs_fault case (drop n queries) at (drop n proofs)
      ≡ or_else (proof_fault case (is_query q p.query) refuting_fault at p)
      (proofs_fault case (drop (n + 1) queries) (behind_proof at p) (drop (n + 1) proofs))
  one-step p q lt is some =
      ap (λ (qs : List Query). proofs_fault case qs at (drop n proofs)) (drop-got queries n q some)
      ∙ ap (λ (ps : List Proof). proofs_fault case (q ∷ drop (n + 1) queries) at ps) (drop-here proofs n p lt is)

  -- no proof is left
  pub one-missing : (q : Query) → length proofs ≤ n → slice_get queries n ≡ Some q
      → proofs_fault case (drop n queries) at (drop n proofs) ≡ Some (Line at kind.WrongQuery)
  one-missing q le some =
      ap (λ (qs : List Query). proofs_fault case qs at (drop n proofs)) (drop-got queries n q some)
      ∙ ap (λ (ps : List Proof). proofs_fault case (q ∷ drop (n + 1) queries) at ps) (drop_all n proofs le)

  pub none-left : length proofs ≤ n → slice_get queries n ≡ None → proofs_fault case (drop n queries) at (drop n proofs) ≡ None
  none-left le none =
      ap (λ (qs : List Query). proofs_fault case qs at (drop n proofs)) (drop-none queries n none)
      ∙ ap (λ (ps : List Proof). proofs_fault case [] at ps) (drop_all n proofs le)

-- ---- proofs for which a limit was spent

module _ (case : Case) (log_fault : Cnf → ℕ → List line.Line → Option Fault) where
  -- what is left is told of, or nothing is where all are judged
  abbrev pub SpentLeft : List Proof → ℕ → ℕ → ℕ → Option Fault → Type 0
  SpentLeft proofs i n at whole =
      (i < length proofs → spent_fault case log_fault n at (drop i proofs) ≡ whole) × (length proofs ≤ i → 0 < length proofs → whole ≡ None)

  spent-two : (n at : ℕ) (p : Proof) (rest : List Proof) → 0 < length rest
      → spent_fault case log_fault n at (p ∷ rest)
      ≡ or_else (nth_fault case log_fault n false at p) (spent_fault case log_fault (suc n) (behind_proof at p) rest)
  spent-two n at p [] some = absurd (omega arith)
  spent-two n at p (next ∷ rest) some = refl

  pub spent-last : (proofs : List Proof) (i n at : ℕ) (p : Proof) → i < length proofs → p ≡ get_or proofs i p → i + 1 ≡ length proofs
      → spent_fault case log_fault n at (drop i proofs) ≡ nth_fault case log_fault n true at p
  spent-last proofs i n at p lt is last =
      ap (spent_fault case log_fault n at) (drop-here proofs i p lt is)
      ∙ ap (λ (ps : List Proof). spent_fault case log_fault n at (p ∷ ps)) (drop_all (i + 1) proofs (omega (arith, last)))

  pub spent-earlier : (proofs : List Proof) (i n at : ℕ) (p : Proof) → i < length proofs → p ≡ get_or proofs i p → i + 1 < length proofs
      → spent_fault case log_fault n at (drop i proofs)
      ≡ or_else (nth_fault case log_fault n false at p) (spent_fault case log_fault (suc n) (behind_proof at p) (drop (i + 1) proofs))
  spent-earlier proofs i n at p lt is more =
      ap (spent_fault case log_fault n at) (drop-here proofs i p lt is)
      ∙ spent-two n at p (drop (i + 1) proofs) (omega (arith, length-drop (i + 1) proofs, more))
