-- Lines of values, by what is still to be written.
use Rattle.std.proofs.Common.{◌≡◌, ℕ, zero, suc, ◌+◌, ◌<◌, ◌≤◌, ℤ, List, [], ◌∷◌, ◌++◌, length, drop, get_or, filter, append_assoc, append-nil, Bool, true, false, cond, refl, sym, ap, ◌∙◌, arith}
use Rattle.std.specs.Prelude.{codes, decimal}
use Rattle.std.proofs.lemmas.List.{drop_more}
use Rattle.pv_mean.specs.declared.cell.Cell.{Cell}
use Rattle.pv_mean.specs.Frames.{input_cells}
use Rattle.pv_report.specs.Reports.{value_line, value_lines, scan_lines}

-- ---- the end of a list

pub none_dropped : {A : Type 0} (xs : List A) → drop 0 xs ≡ xs
none_dropped [] = refl
none_dropped (x ∷ xs) = refl

pub all_dropped : {A : Type 0} (xs : List A) (n : ℕ) → length xs ≤ n → drop n xs ≡ []
all_dropped [] zero le = refl
all_dropped [] (suc n) le = refl
all_dropped (x ∷ xs) zero le = absurd (omega (arith, le))
all_dropped (x ∷ xs) (suc n) le = all_dropped xs n (omega (arith, le))

no_values : (front : List ℕ) (cells : List Cell) → value_lines front cells [] ≡ []
no_values front [] = refl
no_values front (c ∷ cells) = refl

-- ---- a group's lines: what is written, and what is still to be

module _ (front : List ℕ) (p : Cell → Bool) where
  -- the lines of the cells from the i-th on, with the values from the n-th on
  abbrev pub still : List Cell → ℕ → List ℤ → ℕ → List ℕ
  still cells i values n = value_lines front (filter p (drop i cells)) (drop n values)

  abbrev chosen : Bool → Cell → List Cell → List ℤ → List ℕ
  chosen b c rest values = value_lines front (cond b (c ∷ filter p rest) (filter p rest)) values

  pub at_first : (cells : List Cell) (values : List ℤ) → value_lines front (filter p cells) values ≡ still cells 0 values 0
  at_first cells values =
      ap (λ cs. value_lines front (filter p cs) values) (sym (none_dropped cells))
      ∙ ap (λ vs. value_lines front (filter p (drop 0 cells)) vs) (sym (none_dropped values))

  pub skipped : (cells : List Cell) (i : ℕ) (values : List ℤ) (n : ℕ) (c : Cell) → i < length cells → p (get_or cells i c) ≡ false
      → still cells i values n ≡ still cells (i + 1) values n
  skipped cells i values n c lt not_one =
      ap (λ cs. value_lines front (filter p cs) (drop n values)) (drop_more cells i c lt)
      ∙ ap (λ b. chosen b (get_or cells i c) (drop (i + 1) cells) (drop n values)) not_one

  pub written : (cells : List Cell) (i : ℕ) (values : List ℤ) (n : ℕ) (c : Cell) (v : ℤ) → i < length cells
      → p (get_or cells i c) ≡ true → n < length values
      → still cells i values n ≡ value_line front (get_or cells i c) (get_or values n v) ++ still cells (i + 1) values (n + 1)
  written cells i values n c v lt is_one more =
      ap (λ cs. value_lines front (filter p cs) (drop n values)) (drop_more cells i c lt)
      ∙ ap (λ b. chosen b (get_or cells i c) (drop (i + 1) cells) (drop n values)) is_one
      ∙ ap (λ vs. value_lines front (get_or cells i c ∷ filter p (drop (i + 1) cells)) vs) (drop_more values n v more)

  pub ran_out : (cells : List Cell) (i : ℕ) (values : List ℤ) (n : ℕ) → length values ≤ n → still cells i values n ≡ []
  ran_out cells i values n le =
      ap (λ vs. value_lines front (filter p (drop i cells)) vs) (all_dropped values n le) ∙ no_values front (filter p (drop i cells))

  pub no_cell : (cells : List Cell) (i : ℕ) (values : List ℤ) (n : ℕ) → length cells ≤ i → still cells i values n ≡ []
  no_cell cells i values n le = ap (λ cs. value_lines front (filter p cs) (drop n values)) (all_dropped cells i le)

-- one step of the loop
module _ (front : List ℕ) (p : Cell → Bool) (cells : List Cell) (i : ℕ) (values : List ℤ) (n : ℕ) (c : Cell) (old new all : List ℕ) (next : ℕ) where
  -- the cell's line is written
  pub pushed : (v : ℤ) → i < length cells → c ≡ get_or cells i c → p c ≡ true → n < length values → v ≡ get_or values n v
      → new ≡ old ++ value_line front c v → next ≡ n + 1 → old ++ still front p cells i values n ≡ all
      → new ++ still front p cells (i + 1) values next ≡ all
  pushed v lt is one more value line count so_far =
      let step = written front p cells i values n c v lt (ap p (sym is) ∙ one) more
      ∙ ap (λ x. value_line front x (get_or values n v) ++ still front p cells (i + 1) values (n + 1)) (sym is)
      ∙ ap (λ x. value_line front c x ++ still front p cells (i + 1) values (n + 1)) (sym value) in
      ap (λ t. t ++ still front p cells (i + 1) values next) line
      ∙ ap (λ k. (old ++ value_line front c v) ++ still front p cells (i + 1) values k) count
      ∙ append_assoc old (value_line front c v) (still front p cells (i + 1) values (n + 1))
      ∙ ap (λ r. old ++ r) (sym step) ∙ so_far

  -- the cell has none
  pub passed : i < length cells → c ≡ get_or cells i c → p c ≡ false → new ≡ old → next ≡ n → old ++ still front p cells i values n ≡ all
      → new ++ still front p cells (i + 1) values next ≡ all
  passed lt is none same count so_far =
      ap (λ t. t ++ still front p cells (i + 1) values next) same
      ∙ ap (λ k. old ++ still front p cells (i + 1) values k) count
      ∙ ap (λ r. old ++ r) (sym (skipped front p cells i values n c lt (ap p (sym is) ∙ none))) ∙ so_far

-- what is written, where nothing is left to be
pub whole : (text all rest : List ℕ) → text ++ rest ≡ all → rest ≡ [] → text ≡ all
whole text all rest e none = sym (append-nil text) ∙ ap (λ r. text ++ r) (sym none) ∙ e

-- what one step writes stands in front of what is left
pub stepped : (text line rest next all : List ℕ) → text ++ rest ≡ all → rest ≡ line ++ next → (text ++ line) ++ next ≡ all
stepped text line rest next all e step = append_assoc text line next ∙ ap (λ r. text ++ r) (sym step) ∙ e

-- ---- scans

pub scan_more : (cells : List Cell) (inputs : List (List ℤ)) (i : ℕ) (d : List ℤ) → i < length inputs
    → scan_lines cells (i + 1) (drop i inputs)
    ≡ value_lines (codes "in " ++ (decimal (i + 1) ++ codes " ")) (input_cells cells) (get_or inputs i d)
    ++ scan_lines cells (i + 1 + 1) (drop (i + 1) inputs)
scan_more cells inputs i d lt = ap (λ l. scan_lines cells (i + 1) l) (drop_more inputs i d lt)

pub scans_first : (cells : List Cell) (inputs : List (List ℤ)) → scan_lines cells 1 inputs ≡ scan_lines cells (0 + 1) (drop 0 inputs)
scans_first cells inputs = ap (λ l. scan_lines cells 1 l) (sym (none_dropped inputs))

pub scans_last : (cells : List Cell) (inputs : List (List ℤ)) (i : ℕ) → length inputs ≤ i → scan_lines cells (i + 1) (drop i inputs) ≡ []
scans_last cells inputs i le = ap (λ l. scan_lines cells (i + 1) l) (all_dropped inputs i le)
