-- What the code finds of a cell or a spot is what is named there.
use Rattle.std.proofs.Common.{◌≡◌, ◌<◌, ℕ, zero, suc, List, [], ◌∷◌, length, Some, sym, ap, ◌∙◌, arith}
use Rattle.std.specs.Prelude.{slice_get, nat_lt, get_or, true}
use Rattle.std.proofs.lemmas.Bool.{ltb-true}
use Rattle.std.proofs.lemmas.Option.{same_Some}
use Rattle.pv_word.specs.declared.types.Ty.{Ty}
use Rattle.pv_types.specs.Tree.{plain}
use Rattle.pv_tree.specs.Tree.{BlockTree}
use Rattle.pv_mean.specs.Layout.{Laid}
use Rattle.pv_mean.specs.Sources.{Source}
use Rattle.pv_resolve.specs.declared.begin.Where.TheVariants.{Own, Visible, Brief as InActivation}
use Rattle.pv_variables.specs.declared.numbers.Numbers.{Numbers}
use Rattle.pv_variables.specs.Begun.{origin_in}
use Rattle.pv_variables.specs.Numbered.{AreNumbers}
use Rattle.pv_variables.specs.Variables.{table_variable, brief_variable}
use Rattle.pv_access.specs.declared.access.Storage.TheVariants.{Cell, Brief}
use Rattle.pv_lower.specs.Storages.{cell_where, storage_at}

-- ---- the number of a brief cell

looked_up : (xs : List ℕ) (n x : ℕ) → n < length xs → x ≡ get_or xs n x → Some x ≡ slice_get xs n
looked_up [] n x lt e = absurd (omega (arith, lt))
looked_up (y ∷ xs) zero x lt e = ap (λ (k : ℕ). Some k) e
looked_up (y ∷ xs) (suc n) x lt e = looked_up xs n x (omega (arith, lt)) e

pub number_is : (n : Numbers) (source : Source) (block : BlockTree) (xs : List ℕ) (j x : ℕ) → xs ≡ n.briefs.items
    → AreNumbers n source block → true ≡ nat_lt j (length xs) → x ≡ get_or xs j x → x ≡ brief_variable source block j
number_is n source block xs j x same are there is =
    let within = ltb-true j (length xs) (sym there) in
    let long = ap length same in
    same_Some x (brief_variable source block j)
    (looked_up xs j x within is
    ∙ ap (λ (l : List ℕ). slice_get l j) same
    ∙ are.cells j (omega (arith, within, long, are.count)))

-- ---- cells of a simple type

module _ (source : Source) (block : BlockTree) (l : Laid) (ty : Ty) (first : ℕ) (t : l.ty ≡ plain ty) (f : l.first ≡ first) where
  pub own_is : Cell ty first ≡ storage_at source block (origin_in Own l)
  own_is = sym (ap (λ x. cell_where Cell x l.first) t ∙ ap (λ (n : ℕ). Cell ty n) f)

  pub table_is : (n : ℕ) → n ≡ table_variable source block first → Cell ty n ≡ storage_at source block (origin_in Visible l)
  table_is n e =
      ap (λ (k : ℕ). Cell ty k) e
      ∙ sym (ap (λ x. cell_where Cell x (table_variable source block l.first)) t
      ∙ ap (λ (n : ℕ). Cell ty (table_variable source block n)) f)

  pub brief_is : (n : ℕ) → n ≡ brief_variable source block first → Brief ty n ≡ storage_at source block (origin_in InActivation l)
  brief_is n e =
      ap (λ (k : ℕ). Brief ty k) e
      ∙ sym (ap (λ x. cell_where Brief x (brief_variable source block l.first)) t
      ∙ ap (λ (n : ℕ). Brief ty (brief_variable source block n)) f)
