-- The numbers of brief cells, as they are found variable by variable, are those of the definition.
use Rattle.std.proofs.Common.{◌≡◌, ◌<◌, ℕ, zero, suc, ◌+◌, ◌-◌, ◌*◌, List, [], ◌∷◌, ◌++◌, length, Some, refl, sym, ap, subst, ◌∙◌, arith}
use Rattle.std.specs.Prelude.{nat_lt, slice_get, Bool as Truth, true, false, ◌&&◌, not, if◌then◌else◌}
use Rattle.std.proofs.lemmas.Bool.{ltb-true, ltb-false}
use Rattle.std.proofs.lemmas.List.{length-append, length-drop}
use Rattle.pv_types.specs.Tree.{VarTree, var}
use Rattle.pv_tree.specs.Tree.{BlockTree}
use Rattle.pv_tree.specs.Scopes.{ProjectTree}
use Rattle.pv_mean.specs.declared.cell.Cell.{Cell}
use Rattle.pv_mean.specs.Layout.{size_in, size_among, is_brief_in, entry_size}
use Rattle.pv_mean.specs.Sources.{Source}
use Rattle.pv_mean.specs.Frames.{visible_cells, visible_len}
use Rattle.pv_mean.specs.Activations.{value_number}
use Rattle.pv_variables.specs.Variables.{is_bound_in, value_count, shared_count, own_first, brief_among, brief_variable, registers_first}
use Rattle.pv_variables.specs.declared.numbers.Next.{Next}
use Rattle.pv_variables.specs.Numbered.{two_apart, found_so_far, Found, with_cells, with_variable, with_variables}

-- ---- lists

get-front : (xs ys : List ℕ) (j n : ℕ) → slice_get xs j ≡ Some n → slice_get (xs ++ ys) j ≡ Some n
get-front [] ys j n e = cc
get-front (x ∷ xs) ys zero n e = e
get-front (x ∷ xs) ys (suc j) n e = get-front xs ys j n e

get-behind : (xs ys : List ℕ) (j n : ℕ) → slice_get ys j ≡ Some n → slice_get (xs ++ ys) (length xs + j) ≡ Some n
get-behind [] ys j n e = ap (slice_get ys) (none j) ∙ e
  where
    none : (k : ℕ) → 0 + k ≡ k
    none k = omega arith
get-behind (x ∷ xs) ys j n e = ap (slice_get (x ∷ (xs ++ ys))) (next (length xs) j) ∙ get-behind xs ys j n e
  where
    next : (a b : ℕ) → suc a + b ≡ suc (a + b)
    next a b = omega arith

number-at : (n m : ℕ) → n ≡ m → Some n ≡ Some m
number-at n m e = ap (λ (k : ℕ). Some k) e

get-two : (count n k : ℕ) → k < count → slice_get (two_apart count n) k ≡ Some (n + 2 * k)
get-two zero n k lt = absurd (omega (arith, lt))
get-two (suc count) n zero lt = number-at n (n + 2 * 0) (omega arith)
get-two (suc count) n (suc k) lt =
    get-two count (n + 2) k (omega (arith, lt)) ∙ number-at (n + 2 + 2 * k) (n + 2 * suc k) (omega arith)

length-two : (count n : ℕ) → length (two_apart count n) ≡ count
length-two zero n = refl
length-two (suc count) n = ap suc (length-two count (n + 2))

-- ---- variable by variable

module _ (project : ProjectTree) (block : BlockTree) where
  kept : (vars : List VarTree) (f : Found) (j n : ℕ) → slice_get f.cells j ≡ Some n
      → slice_get (with_variables project block vars f).cells j ≡ Some n
  kept [] f j n e = e
  kept (var name section ty start place ∷ more) f j n e =
      kept more (with_variable project block (var name section ty start place) f) j n (lead (is_brief_in block section))
    where
      lead : (b : Truth)
          → slice_get (if b then with_cells (is_bound_in block section) (size_in project ty) f else f).cells j ≡ Some n
      lead true = get-front f.cells (two_apart (size_in project ty) (if is_bound_in block section then f.bound else f.own)) j n e
      lead false = e

  counted : (vars : List VarTree) (f : Found)
      → length (with_variables project block vars f).cells ≡ length f.cells + size_among project (is_brief_in block) vars
  counted [] f = omega arith
  counted (var name section ty start place ∷ more) f =
      lead (is_brief_in block section) (λ g. counted more g)
    where
      lead : (b : Truth) → ((g : Found) → length (with_variables project block more g).cells
          ≡ length g.cells + size_among project (is_brief_in block) more)
          → length (with_variables project block more
          (if b then with_cells (is_bound_in block section) (size_in project ty) f else f)).cells
          ≡ length f.cells + (if b then size_in project ty + size_among project (is_brief_in block) more
          else size_among project (is_brief_in block) more)
      lead true rest =
          let c = if is_bound_in block section then f.bound else f.own in
          let e = rest (with_cells (is_bound_in block section) (size_in project ty) f) in
          let a = length-append f.cells (two_apart (size_in project ty) c) in
          let t = length-two (size_in project ty) c in
          omega (arith, e, a, t)
      lead false rest = rest f

  found : (vars : List VarTree) (f : Found) (j : ℕ) → j < size_among project (is_brief_in block) vars
      → slice_get (with_variables project block vars f).cells (length f.cells + j)
      ≡ Some (brief_among project block vars j f.bound f.own)
  found [] f j lt = absurd (omega (arith, lt))
  found (var name section ty start place ∷ more) f j lt =
      lead (is_brief_in block section) (nat_lt j s) refl lt (λ g k h. found more g k h) (λ g k n e. kept more g k n e)
    where
      s : ℕ
      s = size_in project ty

      among : ℕ
      among = size_among project (is_brief_in block) more

      c : ℕ
      c = if is_bound_in block section then f.bound else f.own

      g : Found
      g = with_cells (is_bound_in block section) s f

      lead : (b here : Truth) → nat_lt j s ≡ here → j < (if b then s + among else among)
          → ((x : Found) (k : ℕ) → k < among → slice_get (with_variables project block more x).cells (length x.cells + k)
          ≡ Some (brief_among project block more k x.bound x.own))
          → ((x : Found) (k n : ℕ) → slice_get x.cells k ≡ Some n
          → slice_get (with_variables project block more x).cells k ≡ Some n)
          → slice_get (with_variables project block more (if b then g else f)).cells (length f.cells + j)
          ≡ Some (if b then (if here then c + 2 * j else brief_among project block more (j - s) g.bound g.own)
          else brief_among project block more j f.bound f.own)
      lead true true e lt rest keeps =
          keeps g (length f.cells + j) (c + 2 * j)
          (get-behind f.cells (two_apart s c) j (c + 2 * j) (get-two s c j (ltb-true j s e)))
      lead true false e lt rest keeps =
          let a = length-append f.cells (two_apart s c) in
          let t = length-two s c in
          let k : length f.cells + j ≡ length g.cells + (j - s) = omega (arith, ltb-false j s e, a, t) in
          ap (slice_get (with_variables project block more g).cells) k ∙ rest g (j - s) (omega (arith, ltb-false j s e, lt))
      lead false here e lt rest keeps = rest f j lt

  behind_all : (vars : List VarTree) (f : Found) (j k : ℕ) → j ≡ size_among project (is_brief_in block) vars + k
      → brief_among project block vars j f.bound f.own ≡ (with_variables project block vars f).bound + 2 * k
  behind_all [] f j k e = omega (arith, e)
  behind_all (var name section ty start place ∷ more) f j k e =
      lead (is_brief_in block section) (nat_lt j s) refl e (λ x i h. behind_all more x i k h)
    where
      s : ℕ
      s = size_in project ty

      among : ℕ
      among = size_among project (is_brief_in block) more

      c : ℕ
      c = if is_bound_in block section then f.bound else f.own

      g : Found
      g = with_cells (is_bound_in block section) s f

      lead : (b here : Truth) → nat_lt j s ≡ here → j ≡ (if b then s + among else among) + k
          → ((x : Found) (i : ℕ) → i ≡ among + k
          → brief_among project block more i x.bound x.own ≡ (with_variables project block more x).bound + 2 * k)
          → (if b then (if here then c + 2 * j else brief_among project block more (j - s) g.bound g.own)
          else brief_among project block more j f.bound f.own)
          ≡ (with_variables project block more (if b then g else f)).bound + 2 * k
      lead true true h e rest = absurd (omega (arith, ltb-true j s h, e))
      lead true false h e rest = rest g (j - s) (omega (arith, e))
      lead false here h e rest = rest f j e

  -- the next of the block's own lies behind those that were found
  own_behind : (vars : List VarTree) (f : Found) → (with_variables project block vars f).own
      ≡ f.own + 2 * size_among project (λ x. is_brief_in block x && not (is_bound_in block x)) vars
  own_behind [] f = omega arith
  own_behind (var name section ty start place ∷ more) f =
      lead (is_brief_in block section) (is_bound_in block section) (λ g. own_behind more g)
    where
      s : ℕ
      s = size_in project ty

      owns : ℕ
      owns = size_among project (λ x. is_brief_in block x && not (is_bound_in block x)) more

      lead : (br bd : Truth) → ((g : Found) → (with_variables project block more g).own ≡ g.own + 2 * owns)
          → (with_variables project block more (if br then with_cells bd s f else f)).own
          ≡ f.own + 2 * (if br && not bd then s + owns else owns)
      lead true true rest = rest (with_cells true s f)
      lead true false rest =
          let e : (with_variables project block more (with_cells false s f)).own ≡ (f.own + 2 * s) + 2 * owns = rest (with_cells false s f) in
          omega (arith, e)
      lead false bd rest = rest f

-- of each brief cell, and of a function's value behind them
pub numbered : (source : Source) (block : BlockTree) (j : ℕ) → j < value_number source block + value_count block
    → slice_get ((with_variables source.project block block.vars (record { cells = []; bound = 0; own = own_first source block })).cells
    ++ two_apart (value_count block)
    (with_variables source.project block block.vars (record { cells = []; bound = 0; own = own_first source block })).bound) j
    ≡ Some (brief_variable source block j)
numbered source block j lt = lead (nat_lt j among) refl
  where
    start : Found
    start = record { cells = []; bound = 0; own = own_first source block }

    among : ℕ
    among = size_among source.project (is_brief_in block) block.vars

    end : Found
    end = with_variables source.project block block.vars start

    from_none : (k : ℕ) → k ≡ 0 + k
    from_none k = omega arith

    lead : (here : Truth) → nat_lt j among ≡ here
        → slice_get (end.cells ++ two_apart (value_count block) end.bound) j ≡ Some (brief_variable source block j)
    lead true e =
        get-front end.cells (two_apart (value_count block) end.bound) j (brief_variable source block j)
        (ap (slice_get end.cells) (from_none j) ∙ found source.project block block.vars start j (ltb-true j among e))
    lead false e =
        let n = counted source.project block block.vars start in
        let k : j ≡ length end.cells + (j - among) = omega (arith, ltb-false j among e, n) in
        let last = behind_all source.project block block.vars start j (j - among) (omega (arith, ltb-false j among e)) in
        ap (slice_get (end.cells ++ two_apart (value_count block) end.bound)) k
        ∙ get-behind end.cells (two_apart (value_count block) end.bound) (j - among) (end.bound + 2 * (j - among))
        (get-two (value_count block) end.bound (j - among) (omega (arith, ltb-false j among e, lt)))
        ∙ number-at (end.bound + 2 * (j - among)) (brief_variable source block j) (sym last)

-- ---- what is found

pub numbers_are : (source : Source) (block b : BlockTree) (own : ℕ) (start next : Next) (mid final : List ℕ) → b ≡ block
    → start.bound ≡ 0 → start.own ≡ own_first source block
    → found_so_far mid next ≡ with_variables source.project b b.vars (found_so_far [] start)
    → final ≡ mid ++ two_apart (value_count b) next.bound
    → (j : ℕ) → j < value_number source block + value_count block → slice_get final j ≡ Some (brief_variable source block j)
numbers_are source block b own start next mid final same none is_own found last j lt =
    ap (λ (l : List ℕ). slice_get l j)
    (last
    ∙ ap (λ (x : BlockTree). mid ++ two_apart (value_count x) next.bound) same
    ∙ ap (λ (f : Found). f.cells ++ two_apart (value_count block) f.bound) whole)
    ∙ numbered source block j lt
  where
    whole : found_so_far mid next ≡ with_variables source.project block block.vars (record { cells = []; bound = 0; own = own_first source block })
    whole =
        found
        ∙ ap (λ (x : BlockTree). with_variables source.project x x.vars (found_so_far [] start)) same
        ∙ ap (λ (n : ℕ). with_variables source.project block block.vars (record { cells = []; bound = n; own = start.own })) none
        ∙ ap (λ (n : ℕ). with_variables source.project block block.vars (record { cells = []; bound = 0; own = n })) is_own

-- and no others
pub counts_are : (source : Source) (block b : BlockTree) (start next : Next) (mid final : List ℕ) → b ≡ block
    → found_so_far mid next ≡ with_variables source.project b b.vars (found_so_far [] start)
    → final ≡ mid ++ two_apart (value_count b) next.bound
    → length final ≡ value_number source block + value_count block
counts_are source block b start next mid final same found last =
    subst (λ (x : BlockTree). length final ≡ value_number source x + value_count x) same (omega (arith, l, a, m, c, t))
  where
    l : length final ≡ length (mid ++ two_apart (value_count b) next.bound)
    l = ap length last

    a : length (mid ++ two_apart (value_count b) next.bound) ≡ length mid + length (two_apart (value_count b) next.bound)
    a = length-append mid (two_apart (value_count b) next.bound)

    m : length mid ≡ length (with_variables source.project b b.vars (found_so_far [] start)).cells
    m = ap (λ (f : Found). length f.cells) found

    c : length (with_variables source.project b b.vars (found_so_far [] start)).cells ≡ 0 + value_number source b
    c = counted source.project b b.vars (found_so_far [] start)

    t : length (two_apart (value_count b) next.bound) ≡ value_count b
    t = length-two (value_count b) next.bound

pub shared_is : (source : Source) (cells : List Cell) (v first s : ℕ) → source.cells ≡ cells → v ≡ visible_len cells
    → first ≡ entry_size source.project source.entry → s ≡ v - first → s ≡ shared_count source
shared_is source cells v first s same count entry is =
    let d = length-drop (entry_size source.project source.entry) (visible_cells source.cells) in
    let e = ap visible_len same in
    omega (arith, d, e, count, entry, is)

-- the registers are behind the block's own
pub registers_are : (source : Source) (block b : BlockTree) (start next : Next) (mid : List ℕ) → b ≡ block → start.own ≡ own_first source block
    → found_so_far mid next ≡ with_variables source.project b b.vars (found_so_far [] start) → next.own ≡ registers_first source block
registers_are source block b start next mid same is_own found =
    ap (λ (f : Found). f.own) found
    ∙ ap (λ (x : BlockTree). (with_variables source.project x x.vars (found_so_far [] start)).own) same
    ∙ own_behind source.project block block.vars (found_so_far [] start)
    ∙ ap (λ (n : ℕ). n + 2 * size_among source.project (λ x. is_brief_in block x && not (is_bound_in block x)) block.vars) is_own
