-- The code of blocks, as it is made along the calls of the program.
use Rattle.std.proofs.Common.{◌≡◌, ℕ, zero, suc, true, ◌+◌, ◌-◌, ◌<◌, ◌≤◌, List, [], ◌∷◌, ◌++◌, length, length-append, get_or, set, replicate, Option, Some, None, refl, sym, ap, subst, ◌∙◌, arith, inl, inr}
use Rattle.std.specs.Prelude.{slice_get, slice_set, slice_index_or, is_some, if◌then◌else◌}
use Rattle.std.proofs.lemmas.Bool.{cases_eq}
use Rattle.std.proofs.lemmas.List.{length-set, get_or-set_same, get_or-set_other}
use Rattle.std.proofs.lemmas.List.Sums.{sum_by-set}
use Rattle.std.proofs.lemmas.Option.{slice_get-get_or}
use Rattle.pv_tree.specs.Tree.{BlockTree}
use Rattle.pv_mean.specs.Sources.{Source}
use Rattle.pv_run.specs.declared.program.Called.{Called}
use Rattle.pv_run.specs.declared.program.Code.{Code}
use Rattle.pv_run.specs.declared.program.Program.{Program}
use Rattle.pv_run.specs.Code.{IsCode}
use Rattle.pv_program.specs.Growth.{Keeps, Coded, Extends}
use Rattle.pv_program.specs.Reached.{AreCodes, IsMade, AreMade, count_without, Adds}
use Rattle.pv_program.proofs.Keeping.{code-kept}

-- what stands at a number stands there alone
the-one : {A : Type 0} (o : Option A) (a b : A) → o ≡ Some a → o ≡ Some b → a ≡ b
the-one o a b p q = ap (λ x. elim x [
  | None ↦ a
  | Some y ↦ y
]) (sym p ∙ q)

-- ---- whether there is code

pub has-one : (o : Option Code) → is_some o ≡ true → (c : Code) × (o ≡ Some c)
has-one None e = cc
has-one (Some c) e = (c, refl)

-- ---- the code of one block more

abbrev weight : Option Code → ℕ
weight o = if is_some o then 0 else 1

pub adds-put : (old new : List (Option Code)) (n : ℕ) (c : Code) → new ≡ slice_set old n (Some c) → n < length old → Adds old new n
adds-put old new n c is inside = subst (λ l. Adds old l n) (sym is) (record {
  long = length-set old n (Some c);
  now = (c, get_or-set_same old n (Some c) None inside);
  kept = λ m has. elim (cases_eq m n) [
    | inl same ↦ (c, ap (λ k. get_or (set old n (Some c)) k None) same ∙ get_or-set_same old n (Some c) None inside)
    | inr other ↦ (has.0, get_or-set_other old n m (Some c) None other ∙ has.1)
  ];
  fewer = λ none.
      let sums : count_without (set old n (Some c)) + weight (get_or old n None) ≡ count_without old + 0
      = sum_by-set weight old n (Some c) None inside in
      let one : weight (get_or old n None) ≡ 1 = ap weight none in
      omega (arith, sums, one);
})

-- codes with one more behind them
still-there : (xs ys : List (Option Code)) (n : ℕ) (c : Code) → get_or xs n None ≡ Some c → get_or (xs ++ ys) n None ≡ Some c
still-there [] ys n c e = cc
still-there (x ∷ xs) ys zero c e = e
still-there (x ∷ xs) ys (suc n) c e = still-there xs ys n c e

pub coded-pushed : (old new : List (Option Code)) (x : Option Code) (n : ℕ) → new ≡ old ++ x ∷ [] → Coded old n → Coded new n
coded-pushed old new x n is has = subst (λ l. Coded l n) (sym is) (has.0, still-there old (x ∷ []) n has.0 has.1)

pub pushed-falls : (old new : List (Option Code)) (x : Option Code) (b : ℕ) → new ≡ old ++ x ∷ [] → length old ≤ b
    → b + 1 - length new < b + 1 - length old
pushed-falls old new x b is le = omega (arith, ap length is, length-append old (x ∷ []), le)

-- the code of blocks, with that of a block more
pub codes-more : {source : Source} {p q : Program} (old new : List (Option Code)) (n : ℕ) (c : Code) → new ≡ slice_set old n (Some c)
    → n < length old → Extends p q → ((b : BlockTree) → slice_get source.project.blocks n ≡ Some b → IsCode source q b c)
    → AreCodes source p old → AreCodes source q new
codes-more {source} {p} {q} old new n c is inside x made are = subst (AreCodes source q) (sym is) (λ m b d at has.
    elim (cases_eq m n) [
      | inl same ↦
          let d-is = the-one (Some c) c d refl (sym (get_or-set_same old n (Some c) None inside)
          ∙ ap (λ k. get_or (set old n (Some c)) k None) (sym same) ∙ has) in
          subst (IsCode source q b) d-is (made b (ap (slice_get source.project.blocks) (sym same) ∙ at))
      | inr other ↦ code-kept x (are m b d at (sym (get_or-set_other old n m (Some c) None other) ∙ has))
    ])

-- where none has code, none is another's
pub no-codes : {source : Source} {p : Program} (codes : List (Option Code)) → ((n : ℕ) → get_or codes n None ≡ None) → AreCodes source p codes
no-codes {source} {p} codes none = λ n b c at has. absurd (nothing-else (get_or codes n None) c (none n) has)
  where
    nothing-else : (o : Option Code) (c : Code) → o ≡ None → o ≡ Some c → ⊥
    nothing-else o c e f = cc

pub none-at-first : (k n : ℕ) → get_or (replicate k (let o : Option Code = None in o)) n None ≡ None
none-at-first zero n = refl
none-at-first (suc k) zero = refl
none-at-first (suc k) (suc n) = none-at-first k n

-- ---- calls before a number

pub made-none : (codes : List (Option Code)) (calls : List Called) → AreMade codes calls 0
made-none codes calls = λ i call before at. absurd (omega (arith, before))

-- one call more
pub made-next : (codes : List (Option Code)) (calls : List Called) (k j : ℕ) (d : Called) → j ≡ k + 1 → k < length calls
    → IsMade codes (get_or calls k d) → AreMade codes calls k → AreMade codes calls j
made-next codes calls k j d e inside made are = λ i call before at. elim (cases_eq i k) [
  | inl same ↦
      subst (IsMade codes) (the-one (slice_get calls i) (get_or calls k d) call
      (ap (slice_get calls) same ∙ slice_get-get_or calls k d inside) at) made
  | inr other ↦ are i call (omega (arith, before, e, other)) at
]

pub made-all : (codes : List (Option Code)) (calls : List Called) (k : ℕ) → length calls ≤ k → AreMade codes calls k
    → AreMade codes calls (length calls)
made-all codes calls k end are = λ i call before at. are i call (omega (arith, before, end)) at

-- with more calls, and more code
pub made-kept : (old new : List (Option Code)) (calls more : List Called) (k n : ℕ) → k < length calls → Keeps calls more → Adds old new n
    → AreMade old calls k → AreMade new more k
made-kept old new calls more k n inside keeps adds are = λ i call before at.
    let there = slice_get-get_or calls i call (omega (arith, before, inside)) in
    let same = the-one (slice_get more i) (get_or calls i call) call (keeps.at i (get_or calls i call) there) at in
    λ m runs. adds.kept m (are i call before (there ∙ ap (λ x. Some x) same) m runs)

pub made-runs : (codes : List (Option Code)) (call : Called) (n : ℕ) → call.block ≡ Some n → is_some (slice_index_or codes n None) ≡ true
    → IsMade codes call
made-runs codes call n is has = λ m runs.
    subst (Coded codes) (the-one call.block n m is runs) (has-one (slice_index_or codes n None) has)

-- a turn of the loop over calls, where slices hold what there is, and its end
pub made-stepped : (old new seen : List (Option Code)) (calls slice more : List Called) (from k n : ℕ) → seen ≡ old → slice ≡ calls
    → k < length slice → Keeps calls more → Adds old new n → (AreMade seen slice from → AreMade seen slice k) → AreMade old calls from
    → AreMade new more k
made-stepped old new seen calls slice more from k n same is inside keeps adds step before =
    made-kept seen new slice more k n inside (subst (λ l. Keeps l more) (sym is) keeps) (subst (λ l. Adds l new n) (sym same) adds)
    (step (subst (λ l. AreMade l slice from) (sym same) (subst (λ l. AreMade old l from) (sym is) before)))

pub made-ended : (seen codes : List (Option Code)) (slice calls : List Called) (from : ℕ) → seen ≡ codes → slice ≡ calls
    → (AreMade seen slice from → AreMade seen slice (length slice)) → AreMade codes calls from → AreMade codes calls (length calls)
made-ended seen codes slice calls from same is step before =
    subst (λ l. AreMade l calls (length calls)) same (subst (λ l. AreMade seen l (length l)) is
    (step (subst (λ l. AreMade l slice from) (sym same) (subst (λ l. AreMade codes l from) (sym is) before))))
