-- Where names begin, by what the code finds.
use Rattle.std.proofs.Common.{◌≡◌, ℕ, ◌+◌, ◌<◌, List, Option, Some, None, option_map, refl, ap, ◌∙◌, arith}
use Rattle.std.proofs.lemmas.Option.{same_Some}
use Rattle.std.specs.Prelude.{Bool as Truth}
use Rattle.pv_types.specs.declared.declaration.Section.{Section}
use Rattle.pv_types.specs.Tree.{TypeTree, VarTree}
use Rattle.pv_tree.specs.Scopes.{ProjectTree}
use Rattle.pv_mean.specs.declared.count.TheConstants.{BEYOND}
use Rattle.pv_mean.specs.Counts.{capped}
use Rattle.pv_mean.specs.LaidOut.{capped_laid}
use Rattle.pv_mean.specs.Layout as layout
use Rattle.pv_resolve.specs.Begins.{further}
use Rattle.pv_resolve.proofs.Laying.{laid-shifted}

-- ---- a number below the bound is exact

pub exact_none : (o : Option layout.Laid) → None ≡ option_map capped_laid o → None ≡ o
exact_none None e = refl
exact_none (Some l) e = cc

pub exact_number : (n m : ℕ) → n ≡ capped m → n < BEYOND → n ≡ m
exact_number n m e below = omega (arith, e)

pub exact_laid : (found l : layout.Laid) (ty : TypeTree) → ty ≡ found.ty → found ≡ capped_laid l → found.first < BEYOND
    → (let x : layout.Laid = record { ty = ty; first = found.first } in x) ≡ l
exact_laid found l ty same_ty e below =
    ap (λ (t : TypeTree). let x : layout.Laid = record { ty = t; first = found.first } in x)
    (same_ty ∙ ap (λ (x : layout.Laid). x.ty) e)
    ∙ ap (λ (n : ℕ). let x : layout.Laid = record { ty = l.ty; first = n } in x)
    (exact_number found.first l.first (ap (λ (x : layout.Laid). x.first) e) below)

pub found_exact : (o : Option layout.Laid) (seen x : layout.Laid) → Some seen ≡ option_map capped_laid o
    → ((l : layout.Laid) → seen ≡ capped_laid l → x ≡ l) → Some x ≡ o
found_exact None seen x e h = cc
found_exact (Some l) seen x e h = ap (λ y. let o : Option layout.Laid = Some y in o) (h l (same_Some seen (capped_laid l) e))

-- from the first cell on, as from 0 on
pub laid_from : (project : ProjectTree) (test : Section → Truth) (vars : List VarTree) (key : List ℕ) (first : ℕ) → layout.laid_among project test vars key first ≡ option_map (further first) (layout.laid_among project test vars key 0)
laid_from project test vars key first =
    let e : first ≡ first + 0 = omega arith in
    ap (layout.laid_among project test vars key) e ∙ laid-shifted project test vars key first 0
