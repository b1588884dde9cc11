-- The cells of leaves, by their parts.
use Rattle.std.proofs.Common.{◌≡◌, List, ℕ, ℤ, None, ap, ◌∙◌}
use Rattle.pv_place.specs.declared.role.Role.{Role}
use Rattle.pv_types.specs.declared.leaf.Leaf.{Leaf}
use Rattle.pv_mean.specs.declared.cell.Cell.{Cell}
use Rattle.pv_cells.specs.declared.variables.Form.{Form}
use Rattle.pv_cells.specs.declared.variables.Form.TheVariants.{Visible, Brief, Nameless}
use Rattle.pv_cells.specs.Forms.{formed}

abbrev with_parts : Leaf → List ℕ → Role → ℤ → Cell
with_parts l p r s = record { path = p; ty = l.ty; start = s; role = r; bound = None }

pub formed_from : (form : Form) (l : Leaf) (p : List ℕ) (r : Role) (s : ℤ) → p ≡ (formed form l).path → r ≡ (formed form l).role → s ≡ l.start
    → with_parts l p r s ≡ formed form l
formed_from form l p r s e f g = ap (λ q. with_parts l q r s) e ∙ ap (λ x. with_parts l (formed form l).path x s) f ∙ last form
  where
    last : (form : Form) → with_parts l (formed form l).path (formed form l).role s ≡ formed form l
    last Visible = ap (with_parts l (formed Visible l).path (formed Visible l).role) g
    last Brief = ap (with_parts l (formed Brief l).path (formed Brief l).role) g
    last Nameless = ap (with_parts l (formed Nameless l).path (formed Nameless l).role) g
