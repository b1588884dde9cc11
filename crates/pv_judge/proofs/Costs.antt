-- Running sums over clauses and lines, cost by cost; values in ranges, one by one.
use Rattle.std.proofs.Common.{◌≡◌, ℕ, zero, suc, ◌+◌, ◌<◌, ◌≤◌, Bool, true, false, List, [], ◌∷◌, ◌++◌, map, length, drop, get_or, refl, ap, sym, ◌∙◌, Some, ℤ, arith}
use Rattle.std.specs.Prelude.{◌&&◌, int_le, slice_get}
use Rattle.std.proofs.lemmas.List.{drop_all}
use Rattle.pv_log.specs.declared.line.Line.{Line}
use Rattle.pv_solver.specs.Costs.{clause_cost, line_cost}
use Rattle.pv_valid.specs.Cases.{Bounds}
use Rattle.pv_valid.specs.Validity.{first_past}
use Rattle.pv_valid.specs.Walk.{are_between}
use Rattle.pv_valid.proofs.ForCallers.{within-sum}
use Rattle.pv_judge.proofs.Finds.{drop-here, drop-got}

-- ---- sums

module _ (words sum : ℕ) where
  -- the next clause
  pub clause-more : (clauses : List (List ℕ)) (n : ℕ) (lits : List ℕ) (rest : List ℕ) → slice_get clauses n ≡ Some lits → sum ≤ words
      → first_past words sum (map clause_cost (drop n clauses) ++ rest)
      ≡ first_past words (sum + clause_cost lits) (map clause_cost (drop (n + 1) clauses) ++ rest)
  clause-more clauses n lits rest is le =
      ap (λ (cs : List (List ℕ)). first_past words sum (map clause_cost cs ++ rest)) (drop-got clauses n lits is)
      ∙ within-sum words sum (clause_cost lits) (map clause_cost (drop (n + 1) clauses) ++ rest) le

  -- no clause is left
  pub clauses-done : (clauses : List (List ℕ)) (n : ℕ) (rest : List ℕ) → length clauses ≤ n
      → first_past words sum (map clause_cost (drop n clauses) ++ rest) ≡ first_past words sum rest
  clauses-done clauses n rest le = ap (λ (cs : List (List ℕ)). first_past words sum (map clause_cost cs ++ rest)) (drop_all n clauses le)

  -- the next line
  pub line-more : (lines : List Line) (n : ℕ) (lits hints : List ℕ) → slice_get (map (λ (l : Line). l.lits) lines) n ≡ Some lits
      → slice_get (map (λ (l : Line). l.hints) lines) n ≡ Some hints → sum ≤ words
      → first_past words sum (map line_cost (drop n lines))
      ≡ first_past words (sum + (4 + length lits + length hints)) (map line_cost (drop (n + 1) lines))
  line-more [] n lits hints a b le = absurd cc
  line-more (l ∷ lines) zero lits hints a b le =
      let same : lits ≡ l.lits = cc in
      let alike : hints ≡ l.hints = cc in
      let cost : line_cost l ≡ 4 + length lits + length hints =
      ap (λ (xs : List ℕ). 4 + length xs + length l.hints) (sym same) ∙ ap (λ (xs : List ℕ). 4 + length lits + length xs) (sym alike) in
      within-sum words sum (line_cost l) (map line_cost lines) le ∙ ap (λ (n : ℕ). first_past words (sum + n) (map line_cost lines)) cost
  line-more (l ∷ lines) (suc n) lits hints a b le =
      let is : suc (n + 1) ≡ suc n + 1 = omega arith in
      line-more lines n lits hints a b le
      ∙ ap (λ (k : ℕ). first_past words (sum + (4 + length lits + length hints)) (map line_cost (drop k (l ∷ lines)))) is

  pub lines-done : (lines : List Line) (n : ℕ) → length lines ≤ n
      → first_past words sum (map line_cost (drop n lines)) ≡ first_past words sum []
  lines-done lines n le = ap (λ (ls : List Line). first_past words sum (map line_cost ls)) (drop_all n lines le)

-- ---- values

-- lists of different lengths
pub uneven : (bounds : List Bounds) (values : List ℤ) → (length bounds ≡ length values → ⊥) → are_between bounds values ≡ false
uneven [] [] differ = absurd (differ refl)
uneven [] (v ∷ values) differ = refl
uneven (b ∷ bounds) [] differ = refl
uneven (b ∷ bounds) (v ∷ values) differ =
    ap (λ (x : Bool). (int_le b.0 v && int_le v b.1) && x) (uneven bounds values (λ e. differ (ap suc e)))
    ∙ no-matter (int_le b.0 v && int_le v b.1)
  where
    no-matter : (x : Bool) → (x && false) ≡ false
    no-matter true = refl
    no-matter false = refl

module _ (bounds : List Bounds) (values : List ℤ) (n : ℕ) (b : Bounds) (v : ℤ) where
  pub value-more : (in_range : Bool) → n < length bounds → n < length values → b ≡ get_or bounds n b → v ≡ get_or values n v
      → in_range ≡ (int_le b.0 v && int_le v b.1)
      → are_between (drop n bounds) (drop n values) ≡ (in_range && are_between (drop (n + 1) bounds) (drop (n + 1) values))
  value-more in_range few less is at e =
      ap (λ (bs : List Bounds). are_between bs (drop n values)) (drop-here bounds n b few is)
      ∙ (ap (λ (vs : List ℤ). are_between (b ∷ drop (n + 1) bounds) vs) (drop-here values n v less at)
      ∙ ap (λ (x : Bool). x && are_between (drop (n + 1) bounds) (drop (n + 1) values)) (sym e))

pub values-done : (bounds : List Bounds) (values : List ℤ) (n : ℕ) → length bounds ≤ n → length values ≤ n
    → are_between (drop n bounds) (drop n values) ≡ true
values-done bounds values n few less =
    ap (λ (bs : List Bounds). are_between bs (drop n values)) (drop_all n bounds few) ∙ ap (are_between []) (drop_all n values less)
