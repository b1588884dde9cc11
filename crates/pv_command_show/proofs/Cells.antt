-- Lines of cells, by what is still to be written.
use Rattle.std.proofs.Common.{◌≡◌, ℕ, ◌+◌, ◌<◌, ◌≤◌, ℤ, pos, List, [], ◌∷◌, ◌++◌, length, drop, get_or, append_assoc, append-nil, Bool, true, false, not, cond, refl, sym, ap, ◌∙◌}
use Rattle.std.specs.Prelude.{slice_index_or}
use Rattle.std.proofs.lemmas.List.{drop_more, drop_all}
use Rattle.pv_mean.specs.declared.cell.Cell.{Cell}
use Rattle.pv_mean.specs.Frames.{is_brief, visible_cells}
use Rattle.pv_mean.specs.Scans.{Visible}
use Rattle.pv_command_show.specs.Texts.{cell_line, cell_lines}

pub none_dropped : {A : Type 0} (xs : List A) → drop 0 xs ≡ xs
none_dropped [] = refl
none_dropped (x ∷ xs) = refl

module _ (inputs each : Bool) (old new : Visible) where
  -- the lines of the cells from the i-th on, of which the first visible one has the number n
  abbrev pub still : List Cell → ℕ → ℕ → List ℕ
  still cells i n = cell_lines inputs each (visible_cells (drop i cells)) n old new

  abbrev chosen : Bool → Cell → List Cell → ℕ → List ℕ
  chosen b c rest n = cell_lines inputs each (cond b (c ∷ visible_cells rest) (visible_cells rest)) n old new

  skipped : (cells : List Cell) (i n : ℕ) (c : Cell) → i < length cells → not (is_brief (get_or cells i c).role) ≡ false
      → still cells i n ≡ still cells (i + 1) n
  skipped cells i n c lt not_one =
      ap (λ cs. cell_lines inputs each (visible_cells cs) n old new) (drop_more cells i c lt)
      ∙ ap (λ b. chosen b (get_or cells i c) (drop (i + 1) cells) n) not_one

  abbrev line_at : Cell → ℕ → List ℕ
  line_at c n = cell_line inputs each c (slice_index_or old n (pos 0)) (slice_index_or new n (pos 0))

  written : (cells : List Cell) (i n : ℕ) (c : Cell) → i < length cells → not (is_brief (get_or cells i c).role) ≡ true
      → still cells i n ≡ line_at (get_or cells i c) n ++ still cells (i + 1) (n + 1)
  written cells i n c lt is_one =
      ap (λ cs. cell_lines inputs each (visible_cells cs) n old new) (drop_more cells i c lt)
      ∙ ap (λ b. chosen b (get_or cells i c) (drop (i + 1) cells) n) is_one

  pub at_first : (text : List ℕ) (cells : List Cell)
      → text ++ still cells 0 0 ≡ text ++ cell_lines inputs each (visible_cells cells) 0 old new
  at_first text cells = ap (λ cs. text ++ cell_lines inputs each (visible_cells cs) 0 old new) (none_dropped cells)

  -- nothing is left
  pub at_last : (text all : List ℕ) (cells : List Cell) (i n : ℕ) → length cells ≤ i → text ++ still cells i n ≡ all → text ≡ all
  at_last text all cells i n le so_far =
      sym (append-nil text)
      ∙ ap (λ cs. text ++ cell_lines inputs each (visible_cells cs) n old new) (sym (drop_all i cells le))
      ∙ so_far

  module _ (cells : List Cell) (i n : ℕ) (c : Cell) (before after all : List ℕ) (next : ℕ) where
    -- the cell's line is written
    pub pushed : (v w : ℤ) → i < length cells → c ≡ get_or cells i c → not (is_brief c.role) ≡ true
        → v ≡ slice_index_or old n (pos 0) → w ≡ slice_index_or new n (pos 0) → after ≡ before ++ cell_line inputs each c v w
        → next ≡ n + 1 → before ++ still cells i n ≡ all → after ++ still cells (i + 1) next ≡ all
    pushed v w lt is one was now line count so_far =
        let step = written cells i n c lt (ap (λ (x : Cell). not (is_brief x.role)) (sym is) ∙ one)
        ∙ ap (λ x. line_at x n ++ still cells (i + 1) (n + 1)) (sym is) in
        ap (λ t. t ++ still cells (i + 1) next) line
        ∙ ap (λ k. (before ++ cell_line inputs each c v w) ++ still cells (i + 1) k) count
        ∙ append_assoc before (cell_line inputs each c v w) (still cells (i + 1) (n + 1))
        ∙ ap (λ x. before ++ (cell_line inputs each c x w ++ still cells (i + 1) (n + 1))) was
        ∙ ap (λ x. before ++ (cell_line inputs each c (slice_index_or old n (pos 0)) x ++ still cells (i + 1) (n + 1))) now
        ∙ ap (λ r. before ++ r) (sym step) ∙ so_far

    -- it has none
    pub passed : i < length cells → c ≡ get_or cells i c → not (is_brief c.role) ≡ false → after ≡ before → next ≡ n
        → before ++ still cells i n ≡ all → after ++ still cells (i + 1) next ≡ all
    passed lt is none same count so_far =
        ap (λ t. t ++ still cells (i + 1) next) same
        ∙ ap (λ k. before ++ still cells (i + 1) k) count
        ∙ ap (λ r. before ++ r) (sym (skipped cells i n c lt (ap (λ (x : Cell). not (is_brief x.role)) (sym is) ∙ none)))
        ∙ so_far
