-- The first of some cells is told to differ.
use Rattle.std.proofs.Common.{◌≡◌, ℕ, ◌≤◌, Bool, true, ◌||◌, List, [], ◌∷◌, length, take, refl, ap, sym, subst, arith}
use Rattle.std.specs.Prelude.{IsTrue}
use Rattle.std.specs.List.{AllByRecursion}
use Rattle.std.proofs.lemmas.Bool.{eq-eqb}
use Rattle.pv_cert.specs.declared.proof.Query.{Query}
use Rattle.pv_cert.specs.declared.proof.Chain.{Chain}
use Rattle.pv_kind.specs.Refinements.{IsRound, is_among}
use Rattle.pv_rows_kind.specs.Toys.{Setting, encoding_of, stage_of}

first_among : (cells : List ℕ) → 1 ≤ length cells → AllByRecursion (λ (cell : ℕ). IsTrue (is_among cells cell)) (take 1 cells)
first_among [] some = absurd (omega arith)
first_among (cell ∷ cells) some = (ap (λ (b : Bool). b || is_among cells cell) (eq-eqb cell cell refl), tt)

first_length : (cells : List ℕ) → 1 ≤ length cells → length (take 1 cells) ≡ 1
first_length [] some = absurd (omega arith)
first_length (cell ∷ cells) some = refl

pub first_differs : (s : Setting) (q : Query) (chain : Chain) (cells : List ℕ) → cells ≡ take 1 chain.havoc → 2 ≤ length chain.havoc
    → IsRound (encoding_of s).tells (stage_of chain) (record { query = q; scan = 1; cells = cells })
first_differs s q chain cells is two =
    let one : length cells ≡ 1 = subst (λ (l : List ℕ). length l ≡ 1) (sym is) (first_length chain.havoc (omega arith)) in
    record {
      told = omega arith;
      some = omega arith;
      abstracted = subst (λ (l : List ℕ). AllByRecursion (λ (cell : ℕ). IsTrue (is_among chain.havoc cell)) l) (sym is) (first_among chain.havoc (omega arith));
    }
