-- Where elements begin, in each activation and however far their array was moved.
use Rattle.std.proofs.Common.{◌≡◌, ℕ, ◌+◌, ◌*◌, ℤ, ◌-ℤ◌, int_le, unsigned_abs, Some, None, refl, ap, subst, ◌∙◌, arith}
use Rattle.std.specs.Prelude.{Bool as Truth, true, false, ◌&&◌, if◌then◌else◌}
use Rattle.std.proofs.lemmas.Option.{same_Some}
use Rattle.pv_place.specs.declared.place.Place.{Place}
use Rattle.pv_types.specs.Tree.{TypeTree, plain, array, structure, named, unread}
use Rattle.pv_tree.specs.Scopes.{ProjectTree}
use Rattle.pv_mean.specs.Layout.{Laid, size_in, element_from}
use Rattle.pv_mean.specs.Sources.{Source}
use Rattle.pv_mean.specs.Endings.{got}
use Rattle.pv_mean.specs.Activations.{Begins, in_visible, in_brief}
use Rattle.pv_mean.specs.Values.{element_where, element_begins}
use Rattle.pv_resolve.specs.Begins.{begins_further}
use Rattle.pv_variables.specs.Origins.{Origin, in_instance, in_table, in_activation, at_spot, origin_at, Elements, elements_laid, elements_placed}

yes : (make : Laid → Begins) (a b : Truth) (l : Laid) (place : Place) → a ≡ true → b ≡ true
    → element_where make (if a && b then Some l else None) place ≡ got (make l)
yes make true true l place p q = refl
yes make true false l place p q = cc
yes make false b l place p q = cc

-- the element among cells that begin anywhere
abbrev IsElementAt : ProjectTree → (Laid → Begins) → Place → TypeTree → ℕ → ℤ → Elements → Type 0
IsElementAt project make place ty at i e =
    int_le e.low i ≡ true → int_le i e.high ≡ true
    → element_where make (element_from project ty at i) place
    ≡ got (make (record { ty = e.of; first = at + unsigned_abs (i -ℤ e.low) * size_in project e.of }))

found : (project : ProjectTree) (into : Laid → Origin) (make : Laid → Begins) (place : Place) (ty : TypeTree) (from at : ℕ)
    (e : Elements) (i : ℤ) → elements_laid into ty from ≡ Some e → IsElementAt project make place ty at i e
found project into make place (array low high of p) from at e i is =
    subst (IsElementAt project make place (array low high of p) at i)
    (same_Some (let x : Elements = record { low = low; high = high; of = of; head = into (record { ty = of; first = from }) } in x) e is)
    (λ l h. yes make (int_le low i) (int_le i high)
    (record { ty = of; first = at + unsigned_abs (i -ℤ low) * size_in project of }) place l h)
found project into make place (plain ty) from at e i is = λ l h. cc
found project into make place (structure vars) from at e i is = λ l h. cc
found project into make place (named name p) from at e i is = λ l h. cc
found project into make place unread from at e i is = λ l h. cc

head-is : (into : Laid → Origin) (ty : TypeTree) (from : ℕ) (e : Elements) → elements_laid into ty from ≡ Some e
    → into (record { ty = e.of; first = from }) ≡ e.head
head-is into (array low high of p) from e is =
    subst (λ (x : Elements). into (record { ty = x.of; first = from }) ≡ x.head)
    (same_Some (let x : Elements = record { low = low; high = high; of = of; head = into (record { ty = of; first = from }) } in x) e is) refl
head-is into (plain ty) from e is = cc
head-is into (structure vars) from e is = cc
head-is into (named name p) from e is = cc
head-is into unread from e is = cc

-- as far behind the first element as its own number of cells and what the array was moved by
behind : (make : Laid → Begins) (ty : TypeTree) (n m : ℕ) → n ≡ m
    → make (record { ty = ty; first = n }) ≡ make (record { ty = ty; first = m })
behind make ty n m p = ap (λ (k : ℕ). make (record { ty = ty; first = k })) p

pub elements_are_placed : (source : Source) (first moved : ℕ) (o : Origin) (e : Elements) (i : ℤ) (place : Place)
    → elements_placed o ≡ Some e → int_le e.low i ≡ true → int_le i e.high ≡ true
    → element_begins source (begins_further moved (origin_at first o)) i place
    ≡ got (begins_further (unsigned_abs (i -ℤ e.low) * size_in source.project e.of + moved) (origin_at first e.head))
elements_are_placed source first moved (in_instance l) e i place is a b =
    found source.project in_instance in_visible place l.ty l.first (moved + (first + l.first)) e i is a b
    ∙ ap (λ (x : Begins). got x) (behind in_visible e.of (moved + (first + l.first) + k) (k + moved + (first + l.first)) (omega arith)
    ∙ ap (λ o. begins_further (k + moved) (origin_at first o)) (head-is in_instance l.ty l.first e is))
  where
    k : ℕ
    k = unsigned_abs (i -ℤ e.low) * size_in source.project e.of
elements_are_placed source first moved (in_table l) e i place is a b =
    found source.project in_table in_visible place l.ty l.first (moved + l.first) e i is a b
    ∙ ap (λ (x : Begins). got x) (behind in_visible e.of (moved + l.first + k) (k + moved + l.first) (omega arith)
    ∙ ap (λ o. begins_further (k + moved) (origin_at first o)) (head-is in_table l.ty l.first e is))
  where
    k : ℕ
    k = unsigned_abs (i -ℤ e.low) * size_in source.project e.of
elements_are_placed source first moved (in_activation l) e i place is a b =
    found source.project in_activation in_brief place l.ty l.first (moved + l.first) e i is a b
    ∙ ap (λ (x : Begins). got x) (behind in_brief e.of (moved + l.first + k) (k + moved + l.first) (omega arith)
    ∙ ap (λ o. begins_further (k + moved) (origin_at first o)) (head-is in_activation l.ty l.first e is))
  where
    k : ℕ
    k = unsigned_abs (i -ℤ e.low) * size_in source.project e.of
elements_are_placed source first moved (at_spot spot) e i place is a b = cc
