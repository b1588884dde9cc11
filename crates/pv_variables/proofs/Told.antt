-- What begins alike in each activation is one.
use Rattle.std.proofs.Common.{◌≡◌, ℕ, sym, ap, ◌∙◌, arith}
use Rattle.pv_types.specs.Tree.{TypeTree}
use Rattle.pv_mean.specs.Layout.{Laid}
use Rattle.pv_mean.specs.Spots.{Spot, nowhere}
use Rattle.pv_mean.specs.Activations.{Begins, in_visible, in_brief, at}
use Rattle.pv_resolve.specs.Begins.{further}
use Rattle.pv_variables.specs.Origins.{Origin, in_instance, in_table, in_activation, at_spot, origin_at}

-- what a part of the visible cells or of the brief ones has, and a spot; of anything else it doesn't matter
abbrev laid_in : Laid → Begins → Laid
laid_in other (in_visible l) = l
laid_in other (in_brief l) = l
laid_in other (at spot) = other

abbrev spot_in : Begins → Spot
spot_in (in_visible l) = nowhere
spot_in (in_brief l) = nowhere
spot_in (at spot) = spot

same_laid : (a b : Laid) → a.ty ≡ b.ty → a.first ≡ b.first → a ≡ b
same_laid a b p q =
    ap (λ (t : TypeTree). let x : Laid = record { ty = t; first = a.first } in x) p
    ∙ ap (λ (n : ℕ). let x : Laid = record { ty = b.ty; first = n } in x) q

-- so many cells further from one is another for one number of cells at most
unmoved : (a b : Laid) → further 0 a ≡ further 0 b → a ≡ b
unmoved a b e = same_laid a b (ap (λ (x : Laid). x.ty) e) (omega (arith, ap (λ (x : Laid). x.first) e))

moves : (a b : Laid) → further 0 a ≡ b → further 1 a ≡ b → ⊥
moves a b e f = omega (arith, ap (λ (x : Laid). x.first) e, ap (λ (x : Laid). x.first) f)

pub origins_are_told : (a b : Origin) → ((first : ℕ) → origin_at first a ≡ origin_at first b) → a ≡ b
origins_are_told (in_instance l) (in_instance m) h = ap in_instance (unmoved l m (ap (laid_in l) (h 0)))
origins_are_told (in_instance l) (in_table m) h = absurd (moves l m (ap (laid_in l) (h 0)) (ap (laid_in l) (h 1)))
origins_are_told (in_instance l) (in_activation m) h = let e = h 0 in cc
origins_are_told (in_instance l) (at_spot s) h = let e = h 0 in cc
origins_are_told (in_table l) (in_instance m) h =
    absurd (moves m l (sym (ap (laid_in l) (h 0))) (sym (ap (laid_in l) (h 1))))
origins_are_told (in_table l) (in_table m) h = ap in_table (ap (laid_in l) (h 0))
origins_are_told (in_table l) (in_activation m) h = let e = h 0 in cc
origins_are_told (in_table l) (at_spot s) h = let e = h 0 in cc
origins_are_told (in_activation l) (in_instance m) h = let e = h 0 in cc
origins_are_told (in_activation l) (in_table m) h = let e = h 0 in cc
origins_are_told (in_activation l) (in_activation m) h = ap in_activation (ap (laid_in l) (h 0))
origins_are_told (in_activation l) (at_spot s) h = let e = h 0 in cc
origins_are_told (at_spot s) (in_instance m) h = let e = h 0 in cc
origins_are_told (at_spot s) (in_table m) h = let e = h 0 in cc
origins_are_told (at_spot s) (in_activation m) h = let e = h 0 in cc
origins_are_told (at_spot s) (at_spot t) h = ap at_spot (ap spot_in (h 0))
