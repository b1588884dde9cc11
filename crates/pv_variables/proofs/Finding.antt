-- What the code finds, as the definitions have it apart from the activation.
use Rattle.std.proofs.Common.{◌≡◌, ℕ, ◌+◌, ◌*◌, ℤ, ◌-ℤ◌, int_le, unsigned_abs, Option, Some, None, Result, Ok, Err, refl, sym, ap, subst, ◌∙◌}
use Rattle.std.specs.Prelude.{Bool as Truth, true, false, ◌&&◌, if◌then◌else◌, IfOk}
use Rattle.std.proofs.lemmas.Option.{same_Some}
use Rattle.pv_types.specs.Tree.{TypeTree, plain, array, structure, named, unread}
use Rattle.pv_tree.specs.Scopes.{ProjectTree}
use Rattle.pv_names.specs.declared.thing.Held.{Held}
use Rattle.pv_mean.specs.Layout.{Laid, size_in, element_from}
use Rattle.pv_mean.specs.Spots.{nowhere}
use Rattle.pv_resolve.specs.declared.begin.Begin.{Begin}
use Rattle.pv_resolve.specs.declared.begin.Begin.TheVariants.{In, At}
use Rattle.pv_resolve.specs.declared.begin.Where.{Where}
use Rattle.pv_resolve.specs.declared.begin.Where.TheVariants.{Own, Visible, Brief}
use Rattle.pv_resolve.specs.declared.fault.ResolveFault.{ResolveFault}
use Rattle.pv_resolve.specs.Begins.{begin_at}
use Rattle.pv_variables.specs.declared.begun.Elements.{Elements as CodeElements}
use Rattle.pv_variables.specs.Origins.{Origin, in_instance, in_table, in_activation, at_spot, origin_at, laid_where, Elements, elements_laid, elements_placed, element_placed}
use Rattle.pv_variables.specs.Begun.{origin_of, origin_moved, code_element, AreElements, IsElements}
use Rattle.pv_variables.proofs.Told.{origins_are_told}

-- ---- in each activation, and apart from it

origin-is : (b : Begin) (first : ℕ) → origin_at first (origin_of b) ≡ begin_at b first
origin-is (In Own laid) first = refl
origin-is (In Visible laid) first = refl
origin-is (In Brief laid) first = refl
origin-is (At spot) first = refl

pub told : (b : Begin) (o : Origin) → ((first : ℕ) → begin_at b first ≡ origin_at first o) → origin_of b ≡ o
told b o h = origins_are_told (origin_of b) o (λ first. origin-is b first ∙ h first)

pub begin-is : (b : Begin) (first : ℕ) → begin_at b first ≡ origin_at first (origin_of b)
begin-is b first = sym (origin-is b first)

pub begins_told : (r : Result Begin ResolveFault) (o : Origin) → ((first : ℕ) → IfOk r (λ b. begin_at b first ≡ origin_at first o))
    → IfOk r (λ b. origin_of b ≡ o)
begins_told (Ok b) o h = told b o h
begins_told (Err e) o h = tt

-- ---- elements

pub moved_in : (part : Where) (ty : Held) (first n k : ℕ) → n ≡ first + k
    → origin_of (In part (record { ty = ty; first = n })) ≡ origin_moved k (origin_of (In part (record { ty = ty; first = first })))
moved_in Own ty first n k e =
    ap (λ (m : ℕ). origin_of (In Own (record { ty = ty; first = m }))) e
moved_in Visible ty first n k e =
    ap (λ (m : ℕ). origin_of (In Visible (record { ty = ty; first = m }))) e
moved_in Brief ty first n k e =
    ap (λ (m : ℕ). origin_of (In Brief (record { ty = ty; first = m }))) e

-- what is asked of an element by its array
abbrev pub element_in_bounds : ProjectTree → Elements → ℤ → Origin
element_in_bounds project e i =
    if int_le e.low i && int_le i e.high then origin_moved (unsigned_abs (i -ℤ e.low) * size_in project e.of) e.head else at_spot nowhere

where-is : (into : Laid → Origin) (b : Truth) (l : Laid)
    → laid_where into (if b then Some l else None) ≡ (if b then into l else at_spot nowhere)
where-is into true l = refl
where-is into false l = refl

module _ (project : ProjectTree) (i : ℤ) (into : Laid → Origin)
    (moves : (k : ℕ) (l : Laid) → into (record { ty = l.ty; first = l.first + k }) ≡ origin_moved k (into l)) where
  laid-some : (ty : TypeTree) (first : ℕ) (e : Elements) → elements_laid into ty first ≡ Some e
      → laid_where into (element_from project ty first i) ≡ element_in_bounds project e i
  laid-some (array low high of p) first e is =
      subst (λ (x : Elements). laid_where into (element_from project (array low high of p) first i) ≡ element_in_bounds project x i)
      (same_Some (let x : Elements = record { low = low; high = high; of = of; head = into (record { ty = of; first = first }) } in x) e is)
      (where-is into (int_le low i && int_le i high) (record { ty = of; first = first + unsigned_abs (i -ℤ low) * size_in project of })
      ∙ ap (λ (x : Origin). if int_le low i && int_le i high then x else at_spot nowhere)
      (moves (unsigned_abs (i -ℤ low) * size_in project of) (record { ty = of; first = first })))
  laid-some (plain ty) first e is = cc
  laid-some (structure vars) first e is = cc
  laid-some (named name p) first e is = cc
  laid-some unread first e is = cc

  laid-none : (ty : TypeTree) (first : ℕ) → elements_laid into ty first ≡ None
      → laid_where into (element_from project ty first i) ≡ at_spot nowhere
  laid-none (array low high of p) first is = cc
  laid-none (plain ty) first is = refl
  laid-none (structure vars) first is = refl
  laid-none (named name p) first is = refl
  laid-none unread first is = refl

element-some : (project : ProjectTree) (o : Origin) (e : Elements) (i : ℤ) → elements_placed o ≡ Some e
    → element_placed project o i ≡ element_in_bounds project e i
element-some project (in_instance l) e i is = laid-some project i in_instance (λ k m. refl) l.ty l.first e is
element-some project (in_table l) e i is = laid-some project i in_table (λ k m. refl) l.ty l.first e is
element-some project (in_activation l) e i is = laid-some project i in_activation (λ k m. refl) l.ty l.first e is
element-some project (at_spot spot) e i is = cc

element-none : (project : ProjectTree) (o : Origin) (i : ℤ) → elements_placed o ≡ None → element_placed project o i ≡ at_spot nowhere
element-none project (in_instance l) i is = laid-none project i in_instance (λ k m. refl) l.ty l.first is
element-none project (in_table l) i is = laid-none project i in_table (λ k m. refl) l.ty l.first is
element-none project (in_activation l) i is = laid-none project i in_activation (λ k m. refl) l.ty l.first is
element-none project (at_spot spot) i is = refl

same-element : (project : ProjectTree) (e : Elements) (code : CodeElements) (i : ℤ) → AreElements project e code
    → code_element code i ≡ element_in_bounds project e i
same-element project e code i are =
    ap (λ (l : ℤ). if int_le l i && int_le i code.high then origin_moved (unsigned_abs (i -ℤ l) * code.stride) (origin_of code.head) else at_spot nowhere) are.low
    ∙ ap (λ (h : ℤ). if int_le e.low i && int_le i h then origin_moved (unsigned_abs (i -ℤ e.low) * code.stride) (origin_of code.head) else at_spot nowhere) are.high
    ∙ ap (λ (s : ℕ). if int_le e.low i && int_le i e.high then origin_moved (unsigned_abs (i -ℤ e.low) * s) (origin_of code.head) else at_spot nowhere) are.stride
    ∙ ap (λ (o : Origin). if int_le e.low i && int_le i e.high then origin_moved (unsigned_abs (i -ℤ e.low) * size_in project e.of) o else at_spot nowhere) are.head

pub element_found : (project : ProjectTree) (o : Origin) (code : CodeElements) (i : ℤ) → IsElements project (elements_placed o) (Some code)
    → code_element code i ≡ element_placed project o i
element_found project o code i is = lead (elements_placed o) refl is
  where
    lead : (s : Option Elements) → elements_placed o ≡ s → IsElements project s (Some code) → code_element code i ≡ element_placed project o i
    lead None e h = absurd h
    lead (Some x) e h = same-element project x code i h ∙ sym (element-some project o x i e)

pub element_missing : (project : ProjectTree) (o : Origin) (i : ℤ) → IsElements project (elements_placed o) None
    → at_spot nowhere ≡ element_placed project o i
element_missing project o i is = lead (elements_placed o) refl is
  where
    lead : (s : Option Elements) → elements_placed o ≡ s → IsElements project s None → at_spot nowhere ≡ element_placed project o i
    lead None e h = sym (element-none project o i e)
    lead (Some x) e h = absurd h
