-- Where start values go, each number of a cell counted up to the bound, and the cells that they change.
use Rattle.std.proofs.Common.{◌≡◌, inl, inr, ℕ, zero, suc, ◌+◌, ◌*◌, ◌<◌, ◌≤◌, ℤ, List, [], ◌∷◌, length, get_or, Bool, true, false, cond, Option, Some, None, option_map, refl, sym, ap, ◌∙◌, arith}
use Rattle.std.specs.Prelude.{◌-ℤ◌, ◌&&◌, int_le, unsigned_abs, bytes_eq, min, option_and_then, slice_set}
use Rattle.std.proofs.lemmas.Bool.{cases_lt}
use Rattle.std.proofs.lemmas.Option.{same_Some}
use Rattle.pv_types.specs.declared.layout.TheConstants.{MAX_LEAVES}
use Rattle.pv_types.specs.declared.declaration.Section.{Section}
use Rattle.pv_types.specs.Tree.{TypeTree, plain, array, structure, named, unread, VarTree, var}
use Rattle.pv_types.specs.View.{fields_of}
use Rattle.pv_tree.specs.Tree.{StepTree, field, index, StepTrees, no_steps, steps, BlockTree, StartTree}
use Rattle.pv_tree.specs.Scopes.{ProjectTree, is_of_instance, type_named}
use Rattle.pv_tree.specs.Types.{Written, literal_of}
use Rattle.pv_mean.specs.declared.count.TheConstants.{BEYOND}
use Rattle.pv_mean.specs.declared.cell.Cell.{Cell}
use Rattle.pv_mean.specs.Counts.{capped}
use Rattle.pv_mean.specs.LaidOut.{capped_laid}
use Rattle.pv_mean.specs.Layout.{Laid, size_in, laid_among, field_among, field_from, element_from, element_laid, laid_at_step, laid_behind}
use Rattle.pv_mean.specs.Cells.{with_start_at, with_start, with_starts, started}
use Rattle.pv_cells.specs.Starts.{same_laid}
use Rattle.pv_cells.proofs.Sums.{beyond-next}

-- ---- numbers

capped_more : (m n x : ℕ) → capped m ≡ capped n → capped (m + x) ≡ capped (n + x)
capped_more m n x e = by BEYOND m n x e
  where
    by : (b m n x : ℕ) → min m b ≡ min n b → min (m + x) b ≡ min (n + x) b
    by b m n x e = omega (arith, e)

capped_twice : (n : ℕ) → capped (capped n) ≡ capped n
capped_twice n = by BEYOND n
  where
    by : (b n : ℕ) → min (min n b) b ≡ min n b
    by b n = omega arith

abbrev C : Option Laid → Option Laid
C = option_map capped_laid

laid-same : (ty : TypeTree) (m n : ℕ) → capped m ≡ capped n → C (Some (record { ty = ty; first = m })) ≡ C (Some (record { ty = ty; first = n }))
laid-same ty m n e = ap (λ k. Some (record { ty = ty; first = k })) e

module _ (project : ProjectTree) where
  among-same : (test : Section → Bool) (vars : List VarTree) (key : List ℕ) (m n : ℕ) → capped m ≡ capped n
      → C (laid_among project test vars key m) ≡ C (laid_among project test vars key n)
  among-same test [] key m n e = refl
  among-same test (var name section ty start place ∷ more) key m n e =
      by (test section) (bytes_eq key name.key) (among-same test more key m n e)
      (among-same test more key (m + size_in project ty) (n + size_in project ty) (capped_more m n (size_in project ty) e))
    where
      by : (t same : Bool) → C (laid_among project test more key m) ≡ C (laid_among project test more key n)
          → C (laid_among project test more key (m + size_in project ty)) ≡ C (laid_among project test more key (n + size_in project ty))
          → C (cond t (cond same (Some (record { ty = ty; first = m })) (laid_among project test more key (m + size_in project ty)))
          (laid_among project test more key m))
          ≡ C (cond t (cond same (Some (record { ty = ty; first = n })) (laid_among project test more key (n + size_in project ty)))
          (laid_among project test more key n))
      by true true here there = laid-same ty m n e
      by true false here there = there
      by false same here there = here

  field-same : (ty : TypeTree) (key : List ℕ) (m n : ℕ) → capped m ≡ capped n
      → C (field_from project ty m key) ≡ C (field_from project ty n key)
  field-same (plain ty) key m n e = refl
  field-same (array low high of place) key m n e = refl
  field-same (structure vars) key m n e = among-same (λ s. true) (fields_of vars) key m n e
  field-same (named name place) key m n e = by (type_named project name.key)
    where
      by : (o : Option BlockTree) → C (field_among project is_of_instance o key m) ≡ C (field_among project is_of_instance o key n)
      by None = refl
      by (Some b) = among-same is_of_instance b.vars key m n e
  field-same unread key m n e = refl

  element-same : (ty : TypeTree) (i : ℤ) (m n : ℕ) → capped m ≡ capped n → C (element_from project ty m i) ≡ C (element_from project ty n i)
  element-same (plain ty) i m n e = refl
  element-same (array low high of place) i m n e = by (int_le low i && int_le i high)
    where
      by : (b : Bool)
          → C (cond b (Some (record { ty = of; first = m + unsigned_abs (i -ℤ low) * size_in project of })) None)
          ≡ C (cond b (Some (record { ty = of; first = n + unsigned_abs (i -ℤ low) * size_in project of })) None)
      by true = laid-same of _ _ (capped_more m n (unsigned_abs (i -ℤ low) * size_in project of) e)
      by false = refl
  element-same (structure vars) i m n e = refl
  element-same (named name place) i m n e = refl
  element-same unread i m n e = refl

  step-same : (a b : Laid) (s : StepTree) → capped_laid a ≡ capped_laid b → C (laid_at_step project a s) ≡ C (laid_at_step project b s)
  step-same a b (field name place) e =
      ap (λ t. C (field_from project t a.first name.key)) (ap (λ l. l.ty) e)
      ∙ field-same b.ty name.key a.first b.first (ap (λ l. l.first) e)
  step-same a b (index x place) e = by (literal_of x)
    where
      by : (o : Option Written) → C (option_and_then (λ w. element_laid project a w.value) o) ≡ C (option_and_then (λ w. element_laid project b w.value) o)
      by None = refl
      by (Some w) =
          ap (λ t. C (element_from project t a.first w.value)) (ap (λ l. l.ty) e)
          ∙ element-same b.ty w.value a.first b.first (ap (λ l. l.first) e)

  and-then-same : (s : StepTree) (a b : Option Laid) → same_laid a b
      → same_laid (option_and_then (λ l. laid_at_step project l s) a) (option_and_then (λ l. laid_at_step project l s) b)
  and-then-same s None None e = refl
  and-then-same s None (Some b) e = absurd (cc)
  and-then-same s (Some a) None e = absurd (cc)
  and-then-same s (Some a) (Some b) e = step-same a b s (cc)

  -- what is the same up to the bound leads to the same
  pub behind-same : (ss : StepTrees) (a b : Option Laid) → same_laid a b → same_laid (laid_behind project a ss) (laid_behind project b ss)
  behind-same no_steps a b e = e
  behind-same (steps s more) a b e = behind-same more _ _ (and-then-same s a b e)

  pub behind-none : (ss : StepTrees) → laid_behind project None ss ≡ None
  behind-none no_steps = refl
  behind-none (steps s more) = behind-none more

-- a number that is counted up to the bound is the same
pub counted-same : (a b : Option Laid) → a ≡ C b → same_laid a b
counted-same None None e = refl
counted-same None (Some b) e = absurd (cc)
counted-same (Some a) None e = absurd (cc)
counted-same (Some a) (Some b) e =
    ap C e ∙ ap (λ k. Some (record { ty = b.ty; first = k })) (capped_twice b.first)

-- ---- the cells with another start value

pub start-past : (cells : List Cell) (n : ℕ) (v : ℤ) → length cells ≤ n → with_start_at cells n v ≡ cells
start-past [] n v le = refl
start-past (c ∷ cs) zero v le = absurd (omega (arith, le))
start-past (c ∷ cs) (suc n) v le = ap (λ l. c ∷ l) (start-past cs n v (omega (arith, le)))

pub start-set : (cells : List Cell) (n : ℕ) (v : ℤ) (c : Cell) → n < length cells → c ≡ get_or cells n c
    → with_start_at cells n v ≡ slice_set cells n (record c { start = v })
start-set [] n v c lt is = absurd (omega (arith, lt))
start-set (d ∷ ds) zero v c lt is = let f : Cell → List Cell = λ x. record x { start = v } ∷ ds in ap f (sym is)
start-set (d ∷ ds) (suc n) v c lt is = ap (λ l. d ∷ l) (start-set ds n v c (omega (arith, lt)) is)

-- up to the bound a number is one cell's, or none's
start-same : (cells : List Cell) (m n : ℕ) (v : ℤ) → length cells < BEYOND → capped m ≡ capped n → with_start_at cells m v ≡ with_start_at cells n v
start-same cells m n v few e = by BEYOND few e
  where
    by : (b : ℕ) → length cells < b → min m b ≡ min n b → with_start_at cells m v ≡ with_start_at cells n v
    by b few e = elim (cases_lt m b) [
      | inl less ↦ let same : m ≡ n = omega (arith, e, less) in ap (λ k. with_start_at cells k v) same
      | inr more ↦ start-past cells m v (omega (arith, few, more)) ∙ sym (start-past cells n v (omega (arith, few, more, e)))
    ]

pub with-same : (cells : List Cell) (a b : Option Laid) (v : ℤ) → length cells < BEYOND → same_laid a b → with_start cells a v ≡ with_start cells b v
with-same cells None None v few e = refl
with-same cells None (Some b) v few e = absurd (cc)
with-same cells (Some a) None v few e = absurd (cc)
with-same cells (Some a) (Some b) v few e =
    start-same cells a.first b.first v few (ap (λ l. l.first) (same_Some (capped_laid a) (capped_laid b) e))

-- they stay as many
start-keeps : (cells : List Cell) (n : ℕ) (v : ℤ) → length (with_start_at cells n v) ≡ length cells
start-keeps [] n v = refl
start-keeps (c ∷ cs) zero v = refl
start-keeps (c ∷ cs) (suc n) v = ap suc (start-keeps cs n v)

option-keeps : (cells : List Cell) (o : Option Laid) (v : ℤ) → length (with_start cells o v) ≡ length cells
option-keeps cells None v = refl
option-keeps cells (Some laid) v = start-keeps cells laid.first v

pub starts-keep : (project : ProjectTree) (ty : TypeTree) (ss : List StartTree) (cells : List Cell)
    → length (with_starts project ty ss cells) ≡ length cells
starts-keep project ty [] cells = refl
starts-keep project ty (s ∷ more) cells =
    starts-keep project ty more _ ∙ option-keeps cells (started project ty s.0) s.1.value

-- where the code has set a cell, or none
pub cells-started : (cells new : List Cell) (a b : Option Laid) (v : ℤ) → length cells ≤ MAX_LEAVES → same_laid a b
    → new ≡ with_start cells a v → new ≡ with_start cells b v
cells-started cells new a b v few same is = is ∙ with-same cells a b v (by MAX_LEAVES BEYOND (length cells) beyond-next few) same
  where
    by : (m c n : ℕ) → c ≡ suc m → n ≤ m → n < c
    by m c n next few = omega (arith, next, few)

pub start-fewer : (cells : List Cell) (o : Option Laid) (v : ℤ) (m : ℕ) → length cells ≤ m → length (with_start cells o v) ≤ m
start-fewer cells o v m few = let e = option-keeps cells o v in omega (arith, few, e)
