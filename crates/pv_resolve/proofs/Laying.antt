-- Variables among which one is found, from one on; and what is laid out so many cells further.
use Rattle.std.proofs.Common.{◌≡◌, ℕ, ◌+◌, List, [], ◌∷◌, Some, option_map, refl, ap, ◌∙◌, add_assoc, Bool as Truth, true, false, bytes_eq}
use Rattle.std.specs.Prelude.{if◌then◌else◌}
use Rattle.pv_types.specs.declared.declaration.Section.{Section}
use Rattle.pv_types.specs.Tree.{VarTree, var}
use Rattle.pv_tree.specs.Scopes.{ProjectTree}
use Rattle.pv_mean.specs.Layout.{laid_among, size_in}
use Rattle.pv_resolve.specs.Begins.{further}

pub laid-shifted : (project : ProjectTree) (test : Section → Truth) (vars : List VarTree) (key : List ℕ) (k first : ℕ) → laid_among project test vars key (k + first) ≡ option_map (further k) (laid_among project test vars key first)
laid-shifted project test [] key k first = refl
laid-shifted project test (var name section ty start place ∷ more) key k first =
    lead (test section) (bytes_eq key name.key) (laid-shifted project test more key k (first + size_in project ty)) (laid-shifted project test more key k first)
  where
    lead : (b c : Truth) → laid_among project test more key (k + (first + size_in project ty)) ≡ option_map (further k) (laid_among project test more key (first + size_in project ty))
        → laid_among project test more key (k + first) ≡ option_map (further k) (laid_among project test more key first)
        → (if b then (if c then Some (record { ty = ty; first = k + first }) else laid_among project test more key (k + first + size_in project ty)) else laid_among project test more key (k + first))
        ≡ option_map (further k) (if b then (if c then Some (record { ty = ty; first = first }) else laid_among project test more key (first + size_in project ty)) else laid_among project test more key first)
    lead true true behind here = refl
    lead true false behind here = ap (laid_among project test more key) (add_assoc k first (size_in project ty)) ∙ behind
    lead false c behind here = here
