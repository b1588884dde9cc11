-- Among which cells lies what is laid out there, and what indexes move it to: fields and elements lie in what they are parts of.
use Rattle.std.proofs.Common.{◌≡◌, ◌≤◌, ◌≤ℤ◌, ℕ, zero, suc, ◌+◌, ◌*◌, ℤ, pos, negsuc, ◌+ℤ◌, ◌-ℤ◌, int_le, unsigned_abs, List, [], ◌∷◌, ◌++◌, length, Bool as Truth, true, false, ◌&&◌, Option, Some, None, option_map, refl, sym, ap, subst, ◌∙◌, append-nil, suc-mul, arith}
use Rattle.std.specs.Prelude.{⊤, bytes_eq, if◌then◌else◌}
use Rattle.std.proofs.lemmas.Int.{ints}
use Rattle.std.proofs.lemmas.List.{length-append}
use Rattle.std.proofs.lemmas.Option.{none-some, same_Some}
use Rattle.pv_place.specs.declared.place.Place.{Place}
use Rattle.pv_types.specs.declared.declaration.Section.{Section}
use Rattle.pv_types.specs.Tree.{TypeTree, array, VarTree, var}
use Rattle.pv_types.specs.Leaves.{count_of, count_between}
use Rattle.pv_tree.specs.Scopes.{ProjectTree, Scope}
use Rattle.pv_tree.specs.Things.{field_of_type}
use Rattle.pv_tree.specs.Rules.{KeepsRules}
use Rattle.pv_mean.specs.Layout.{Laid, size_in, size_among, laid_among, field_laid, field_from}
use Rattle.pv_flow.specs.Terms.{Valuation, value_of}
use Rattle.pv_resolve.specs.Begins.{further}
use Rattle.pv_resolve.proofs.ForCallers.{field-shifted}
use Rattle.pv_access.specs.Accesses.{Move, steps_of}
use Rattle.pv_access.specs.Correct.{AreInside, moved_by}
use Rattle.pv_laws_types.specs.Typed.{StandAt}
use Rattle.pv_laws_types.proofs.ForCallers.{types_in, types_counted, AreKnown, IsKnown, Both, field_both}

-- ---- variables among those that are declared with them

pub laid_bounds : (project : ProjectTree) (test : Section → Truth) (vars : List VarTree) (key : List ℕ) (first : ℕ) (l : Laid)
    → AreKnown project vars → laid_among project test vars key first ≡ Some l
    → (first ≤ l.first) × (l.first + size_in project l.ty ≤ first + size_among project test vars) × IsKnown project l.ty
laid_bounds project test [] key first l known e = absurd (none-some l e)
laid_bounds project test (var name section ty start place ∷ more) key first l known e =
    lead (test section) (bytes_eq key name.key) e (λ n f. laid_bounds project test more key n l known.1 f)
  where
    s : ℕ
    s = size_in project ty

    r : ℕ
    r = size_among project test more

    here : (x : Laid) → record { ty = ty; first = first } ≡ x
        → (first ≤ x.first) × (x.first + size_in project x.ty ≤ first + (s + r)) × IsKnown project x.ty
    here x same = subst (λ (y : Laid). (first ≤ y.first) × (y.first + size_in project y.ty ≤ first + (s + r)) × IsKnown project y.ty) same
        (omega arith, omega arith, known.0)

    lead : (b c : Truth)
        → (if b then (if c then Some (record { ty = ty; first = first }) else laid_among project test more key (first + s))
        else laid_among project test more key first) ≡ Some l
        → ((n : ℕ) → laid_among project test more key n ≡ Some l
        → (n ≤ l.first) × (l.first + size_in project l.ty ≤ n + r) × IsKnown project l.ty)
        → (first ≤ l.first) × (l.first + size_in project l.ty ≤ first + (if b then s + r else r)) × IsKnown project l.ty
    lead true true f rest = here l (same_Some (record { ty = ty; first = first }) l f)
    lead true false f rest =
        let x = rest (first + s) f in
        let low = x.0 in
        let high = x.1 in (omega (arith, low), omega (arith, high), x.2)
    lead false c f rest = rest first f

-- ---- fields

stand_bound : (project : ProjectTree) (inner outer : TypeTree) (n : ℕ) → StandAt (types_in project inner) (types_in project outer) n
    → n + size_in project inner ≤ size_in project outer
stand_bound project inner outer n s =
    let a = types_counted project inner in
    let b = types_counted project outer in
    let c = ap length s.is in
    let d = length-append s.front (types_in project inner ++ s.back) in
    let e = length-append (types_in project inner) s.back in
    let f = s.at in omega (arith, a, b, c, d, e, f)

whole_stands : (project : ProjectTree) (ty : TypeTree) → StandAt (types_in project ty) (types_in project ty) 0
whole_stands project ty = record { front = []; back = []; is = sym (append-nil (types_in project ty)); at = refl }

no_place : Place
no_place = record { file = 0; offset = 0 }

-- a field lies in what it is a field of
pub field_bounds : (scope : Scope) → KeepsRules scope.project → (l field : Laid) (key : List ℕ) → IsKnown scope.project l.ty
    → field_laid scope.project l key ≡ Some field
    → (l.first ≤ field.first) × (field.first + size_in scope.project field.ty ≤ l.first + size_in scope.project l.ty)
    × IsKnown scope.project field.ty
field_bounds scope keeps l field key known is =
    lead (field_from scope.project l.ty 0 key) (field_both scope keeps (types_in scope.project l.ty) l.ty key 0 no_place known
    (whole_stands scope.project l.ty))
    (sym (field-shifted scope.project (record { ty = l.ty; first = 0 }) key l.first)
    ∙ ap (λ (n : ℕ). field_from scope.project l.ty n key) (plus_none l.first) ∙ is)
  where
    plus_none : (n : ℕ) → n + 0 ≡ n
    plus_none n = omega arith

    lead : (o : Option Laid) → Both scope.project (types_in scope.project l.ty) o (field_of_type scope l.ty key no_place)
        → option_map (further l.first) o ≡ Some field
        → (l.first ≤ field.first) × (field.first + size_in scope.project field.ty ≤ l.first + size_in scope.project l.ty)
        × IsKnown scope.project field.ty
    lead None both e = absurd (none-some field e)
    lead (Some f) both e =
        let up = stand_bound scope.project f.ty l.ty f.first both.1.stands in
        subst (λ (x : Laid). (l.first ≤ x.first) × (x.first + size_in scope.project x.ty ≤ l.first + size_in scope.project l.ty)
        × IsKnown scope.project x.ty)
        (same_Some (further l.first f) field e) (omega arith, omega (arith, up), both.1.known)

-- ---- elements

-- there are as many elements as steps from the lowest to the highest, and one
counted_steps : (z : ℤ) → pos 0 ≤ℤ z → count_of (z +ℤ pos 1) ≡ suc (unsigned_abs z)
counted_steps (pos n) le = ap count_of (plus_one n)
  where
    plus_one : (n : ℕ) → pos n +ℤ pos 1 ≡ pos (suc n)
    plus_one n = omega (arith, ints)
counted_steps (negsuc n) le = absurd (omega (arith, ints, le))

pub count_is : (low high i : ℤ) → int_le low i && int_le i high ≡ true → count_between low high ≡ suc (unsigned_abs (high -ℤ low))
count_is low high i e = ap count_of (moved low high) ∙ counted_steps (high -ℤ low) (grind (arith, ints))
  where
    moved : (a b : ℤ) → (b +ℤ pos 1) -ℤ a ≡ (b -ℤ a) +ℤ pos 1
    moved a b = omega (arith, ints)

pub step_within : (low high i : ℤ) → int_le low i && int_le i high ≡ true → unsigned_abs (i -ℤ low) ≤ unsigned_abs (high -ℤ low)
step_within low high i e = grind (arith, ints)

pub mul_within : (a b s : ℕ) → a ≤ b → a * s ≤ b * s
mul_within zero b s le = omega arith
mul_within (suc a) zero s le = absurd (omega (arith, le))
mul_within (suc a) (suc b) s le =
    let p = mul_within a b s (omega (arith, le)) in
    let x = suc-mul a s in
    let y = suc-mul b s in omega (arith, p, x, y)

-- ---- what indexes reach

-- as far as the indexes can move
abbrev pub reach : List Move → ℕ
reach [] = 0
reach (m ∷ more) = steps_of m * m.stride + reach more

pub reach_more : (ms : List Move) (m : Move) → reach (ms ++ m ∷ []) ≡ reach ms + steps_of m * m.stride
reach_more [] m = omega arith
reach_more (x ∷ ms) m =
    let e = reach_more ms m in
    let a = steps_of x * x.stride in
    let b = steps_of m * m.stride in plus a (reach (ms ++ m ∷ [])) (reach ms) b e
  where
    plus : (a r s b : ℕ) → r ≡ s + b → a + r ≡ a + s + b
    plus a r s b e = omega (arith, e)

pub inside_reach : (w : Valuation) (ms : List Move) → AreInside w ms → moved_by w ms ≤ reach ms
inside_reach w [] h = omega arith
inside_reach w (m ∷ ms) h =
    let a = step_within m.low m.high (value_of w m.index) (and_is (int_le m.low (value_of w m.index)) (int_le (value_of w m.index) m.high) h.0 h.1) in
    let p = mul_within (unsigned_abs (value_of w m.index -ℤ m.low)) (steps_of m) m.stride a in
    let q = inside_reach w ms h.2 in sums _ _ _ _ p q
  where
    and_is : (a b : Truth) → a ≡ true → b ≡ true → a && b ≡ true
    and_is true b p q = q
    and_is false b p q = p

    sums : (a b c d : ℕ) → a ≤ b → c ≤ d → a + c ≤ b + d
    sums a b c d p q = omega (arith, p, q)

pub inside_more : (w : Valuation) (ms : List Move) (m : Move) → AreInside w ms → int_le m.low (value_of w m.index) ≡ true
    → int_le (value_of w m.index) m.high ≡ true → AreInside w (ms ++ m ∷ [])
inside_more w [] m h a b = (a, b, tt)
inside_more w (x ∷ ms) m h a b = (h.0, h.1, inside_more w ms m h.2 a b)

-- what is laid out lies, wherever indexes move it, among so many cells from one on; and each stride is as long as what it strides over
abbrev pub StrideOver : ℕ → List Move → Type 0
StrideOver size [] = ⊤
StrideOver size (m ∷ more) = (reach more + size ≤ m.stride) × StrideOver size more

pub record IsRoom (project : ProjectTree) (l : Laid) (ms : List Move) (from count : ℕ) : Type 0 where
  pub low : from ≤ l.first
  pub high : l.first + reach ms + size_in project l.ty ≤ from + count
  pub strides : StrideOver (size_in project l.ty) ms

strides_less : (s t : ℕ) (ms : List Move) → t ≤ s → StrideOver s ms → StrideOver t ms
strides_less s t [] le h = tt
strides_less s t (m ∷ ms) le h = (let a = h.0 in omega (arith, a, le), strides_less s t ms le h.1)

strides_more : (s t : ℕ) (ms : List Move) (m : Move) → steps_of m * m.stride + t ≤ s → t ≤ m.stride → StrideOver s ms
    → StrideOver t (ms ++ m ∷ [])
strides_more s t [] m le fits h = (omega (arith, fits), tt)
strides_more s t (x ∷ ms) m le fits h =
    let a = h.0 in
    let e = reach_more ms m in (
      more_room (reach (ms ++ m ∷ [])) (reach ms) (steps_of m * m.stride) x.stride e a le,
      strides_more s t ms m le fits h.1,
    )
  where
    more_room : (r q d k : ℕ) → r ≡ q + d → q + s ≤ k → d + t ≤ s → r + t ≤ k
    more_room r q d k e a b = omega (arith, e, a, b)

-- at the beginning no index moves anything
pub room_begins : (project : ProjectTree) (l : Laid) (from count : ℕ) → from ≤ l.first → l.first + size_in project l.ty ≤ from + count
    → IsRoom project l [] from count
room_begins project l from count low high = record { low = low; high = omega (arith, high); strides = tt }

-- a part of it lies in its room
pub room_within : (project : ProjectTree) (l p : Laid) (ms : List Move) (from count : ℕ) → l.first ≤ p.first
    → p.first + size_in project p.ty ≤ l.first + size_in project l.ty → IsRoom project l ms from count → IsRoom project p ms from count
room_within project l p ms from count low high r = record {
  low = (let a = r.low in omega (arith, a, low));
  high = (let a = r.high in omega (arith, a, high));
  strides = strides_less (size_in project l.ty) (size_in project p.ty) ms (omega (arith, low, high)) r.strides;
}

pub element_bounds : (project : ProjectTree) (low high : ℤ) (of : TypeTree) (place : Place) (first : ℕ) (i : ℤ)
    → int_le low i && int_le i high ≡ true
    → first + unsigned_abs (i -ℤ low) * size_in project of + size_in project of
    ≤ first + size_in project (array low high of place)
element_bounds project low high of place first i inside =
    let c = ap (λ (n : ℕ). n * size_in project of) (count_is low high i inside) in
    let m = mul_within (unsigned_abs (i -ℤ low)) (unsigned_abs (high -ℤ low)) (size_in project of) (step_within low high i inside) in
    let s = suc-mul (unsigned_abs (high -ℤ low)) (size_in project of) in
    plus (unsigned_abs (i -ℤ low) * size_in project of) (unsigned_abs (high -ℤ low) * size_in project of) (size_in project of)
    (size_in project (array low high of place)) (suc (unsigned_abs (high -ℤ low)) * size_in project of) c m s
  where
    plus : (d e f g h : ℕ) → g ≡ h → d ≤ e → h ≡ e + f → first + d + f ≤ first + g
    plus d e f g h c m s = omega (arith, c, m, s)

-- all elements together have the array's room
pub room_moved : (project : ProjectTree) (low high : ℤ) (of : TypeTree) (place : Place) (first : ℕ) (ms : List Move) (m : Move) (from count : ℕ)
    → m.low ≡ low → m.high ≡ high → m.stride ≡ size_in project of → (i : ℤ) → int_le low i && int_le i high ≡ true
    → IsRoom project (record { ty = array low high of place; first = first }) ms from count
    → IsRoom project (record { ty = of; first = first }) (ms ++ m ∷ []) from count
room_moved project low high of place first ms m from count is_low is_high is_stride i inside r = record {
  low = r.low;
  high = (let a = r.high in let b = size_of_all in let c = reach_more ms m in up first (reach ms) (reach (ms ++ m ∷ [])) (size_in project (array low high of place)) (steps_of m * m.stride) (size_in project of) (from + count) a b c);
  strides = strides_more (size_in project (array low high of place)) (size_in project of) ms m (let b = size_of_all in omega (arith, b))
      (subst (λ (n : ℕ). size_in project of ≤ n) (sym is_stride) (omega arith)) r.strides;
}
  where
    size_of_all : steps_of m * m.stride + size_in project of ≡ size_in project (array low high of place)
    size_of_all =
        ap (λ (n : ℕ). steps_of m * n + size_in project of) is_stride
        ∙ ap (λ (z : ℤ). unsigned_abs (z -ℤ m.low) * size_in project of + size_in project of) is_high
        ∙ ap (λ (z : ℤ). unsigned_abs (high -ℤ z) * size_in project of + size_in project of) is_low
        ∙ sym (suc-mul (unsigned_abs (high -ℤ low)) (size_in project of))
        ∙ ap (λ (n : ℕ). n * size_in project of) (sym (count_is low high i inside))

    up : (f q r t d s k : ℕ) → f + q + t ≤ k → d + s ≡ t → r ≡ q + d → f + r + s ≤ k
    up f q r t d s k a b c = omega (arith, a, b, c)
