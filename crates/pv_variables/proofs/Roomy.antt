-- The elements of what begins within what a table may have lie within it, and so does the one at an index.
use Rattle.std.proofs.Common.{◌≡◌, ℕ, ◌+◌, ◌*◌, ◌<◌, ◌≤◌, ℤ, pos, ◌+ℤ◌, ◌≤ℤ◌, Bool, true, false, not, ◌&&◌, ◌||◌, refl, sym, ap, subst, ◌∙◌, arith}
use Rattle.std.specs.Prelude.{◌^◌, ◌-ℤ◌, unsigned_abs, int_le, int_lt, IsFalse, Result, Ok, Err, IsOk, IfOk, IsOkAnd}
use Rattle.std.proofs.lemmas.Bool.{true≢false, false≢true}
use Rattle.std.proofs.lemmas.Int.{ints}
use Rattle.std.proofs.Math.Nat.{mul-le-mul_right}
use Rattle.pv_word.specs.declared.types.Ty.TheVariants.{Dint}
use Rattle.pv_place.specs.declared.place.Place.{Place}
use Rattle.pv_types.specs.Tree.{TypeTree, array}
use Rattle.pv_tree.specs.LiteralTypes.{holds}
use Rattle.pv_tree.specs.Scopes.{ProjectTree}
use Rattle.pv_tree.specs.Rules.Arrays.{is_wrong_array, is_array}
use Rattle.pv_names.specs.Views.{held_tree}
use Rattle.pv_mean.specs.declared.count.TheConstants.{BEYOND}
use Rattle.pv_mean.specs.Layout.{size_in}
use Rattle.pv_eval.specs.Operands.{span}
use Rattle.pv_resolve.specs.declared.fault.ResolveFault.{ResolveFault}
use Rattle.pv_resolve.specs.declared.begin.Begin.TheVariants.{In}
use Rattle.pv_resolve.specs.declared.begin.Where.{Where}
use Rattle.pv_resolve.specs.declared.laid.LaidLevel.{LaidLevel}
use Rattle.pv_resolve.specs.Laying.{laid_tree}
use Rattle.pv_resolve.specs.Begins.{begins_in, begin_at}
use Rattle.pv_resolve.specs.Rooms.{IsRoomy, BeginsRoomy}
use Rattle.pv_resolve.proofs.ForCallers.{element_roomy, part_roomy, part_begins}
use Rattle.pv_variables.specs.declared.begun.Elements.{Elements as CodeElements}
use Rattle.pv_variables.specs.Begun.{ElementsLie}

pub ok_and : {T : Type 0} (r : Result T ResolveFault) (Q : T → Type 0) → IsOk r → IfOk r Q → IsOkAnd r Q
ok_and (Ok x) Q ok h = h
ok_and (Err e) Q ok h = absurd (false≢true ok)

-- ---- arrays that break no rule

bounded : (a b c d e : Bool) → a || not b || not c || d || e ≡ false → (a ≡ false) × (d ≡ false)
bounded false true true false e h = (refl, refl)
bounded false true true true e h = absurd (true≢false h)
bounded true b c d e h = absurd (true≢false h)
bounded false false c d e h = absurd (true≢false h)
bounded false true false d e h = absurd (true≢false h)

few_apart : (low high : ℤ) → int_lt high low ≡ false → int_lt (pos 10000) ((high -ℤ low) +ℤ pos 1) ≡ false → unsigned_abs (high -ℤ low) < 2 ^ 32
few_apart low high rising few = grind (arith, ints)

few_elements : (low high : ℤ) (of : TypeTree) → IsFalse (is_wrong_array low high of) → unsigned_abs (high -ℤ low) < 2 ^ 32
few_elements low high of h =
    let b = bounded (int_lt high low) (holds Dint low) (holds Dint high) (int_lt (pos 10000) ((high -ℤ low) +ℤ pos 1)) (is_array of) h in
    few_apart low high b.0 b.1

-- an array that begins there
array_begins : (project : ProjectTree) (more : ℕ) (part : Where) (laid : LaidLevel) (low high : ℤ) (of : TypeTree) (p : Place)
    → held_tree laid.ty ≡ array low high of p → BeginsRoomy project more (begins_in part 0 (laid_tree laid))
    → IsRoomy project more (record { ty = array low high of p; first = laid.first })
array_begins project more part laid low high of p is h =
    subst (λ t. IsRoomy project more (record { ty = t; first = laid.first })) is (part_roomy project more part (laid_tree laid) h)

pub stride_near : (project : ProjectTree) (more : ℕ) (part : Where) (laid : LaidLevel) (low high : ℤ) (of : TypeTree) (p : Place)
    → held_tree laid.ty ≡ array low high of p → BeginsRoomy project more (begins_in part 0 (laid_tree laid)) → size_in project of < BEYOND
stride_near project more part laid low high of p is h =
    (element_roomy project more low high of p laid.first (array_begins project more part laid low high of p is h)).stride

pub elements_lie : (project : ProjectTree) (more : ℕ) (part : Where) (laid inner : LaidLevel) (low high : ℤ) (of : TypeTree) (p : Place) (stride : ℕ)
    → held_tree laid.ty ≡ array low high of p → held_tree inner.ty ≡ of → inner.first ≡ laid.first → stride ≡ size_in project of
    → BeginsRoomy project more (begins_in part 0 (laid_tree laid))
    → ElementsLie project more (record { low = low; high = high; stride = stride; head = In part inner })
elements_lie project more part laid inner low high of p stride is inner_ty same size h =
    let whole = array_begins project more part laid low high of p is h in
    let there = element_roomy project more low high of p laid.first whole in
    record {
      few = few_elements low high of (whole.sound.arrays (array low high of p) (0, omega arith, refl));
      head = part_begins project (more + span low high stride) part (laid_tree inner)
          (subst (λ s. IsRoomy project (more + span low high s) (laid_tree inner)) (sym size)
          (subst (λ t. IsRoomy project (more + span low high (size_in project of)) (record { ty = t; first = inner.first })) (sym inner_ty)
          (subst (λ f. IsRoomy project (more + span low high (size_in project of)) (record { ty = of; first = f })) (sym same) there.roomy)));
    }

-- ---- the element at an index

inside_order : (low high i : ℤ) → int_le low i && int_le i high ≡ true → (low ≤ℤ i) × (i ≤ℤ high)
inside_order low high i e = (grind (arith, ints), grind (arith, ints))

less_far : (low high i : ℤ) → low ≤ℤ i → i ≤ℤ high → unsigned_abs (i -ℤ low) ≤ unsigned_abs (high -ℤ low)
less_far low high i l r = grind (arith, ints)

pub as_far : (low high i : ℤ) → int_le low i && int_le i high ≡ true → unsigned_abs (i -ℤ low) ≤ unsigned_abs (high -ℤ low)
as_far low high i inside = let o = inside_order low high i inside in less_far low high i o.0 o.1

head_roomy : (project : ProjectTree) (more : ℕ) (e : CodeElements) (part : Where) (laid : LaidLevel) → e.head ≡ In part laid → ElementsLie project more e
    → IsRoomy project (more + span e.low e.high e.stride) (laid_tree laid)
head_roomy project more e part laid is h =
    part_roomy project (more + span e.low e.high e.stride) part (laid_tree laid)
    (subst (λ b. BeginsRoomy project (more + span e.low e.high e.stride) (begin_at b 0)) is h.head)

pub few_steps : (project : ProjectTree) (more : ℕ) (e : CodeElements) (i : ℤ) → int_le e.low i && int_le i e.high ≡ true → ElementsLie project more e
    → unsigned_abs (i -ℤ e.low) < 2 ^ 32
few_steps project more e i inside h =
    let far = as_far e.low e.high i inside in
    let few = h.few in omega (arith, far, few)

pub near_element : (project : ProjectTree) (more : ℕ) (e : CodeElements) (part : Where) (laid : LaidLevel) (i : ℤ) → e.head ≡ In part laid
    → int_le e.low i && int_le i e.high ≡ true → ElementsLie project more e → laid.first + unsigned_abs (i -ℤ e.low) * e.stride < 2 ^ 32
near_element project more e part laid i is inside h =
    let few = mul-le-mul_right e.stride (as_far e.low e.high i inside) in
    let w = (head_roomy project more e part laid is h).within in omega (arith, w, few)

pub element_lies : (project : ProjectTree) (more : ℕ) (e : CodeElements) (part : Where) (laid : LaidLevel) (i : ℤ) (first : ℕ) → e.head ≡ In part laid
    → int_le e.low i && int_le i e.high ≡ true → first ≡ laid.first + unsigned_abs (i -ℤ e.low) * e.stride → ElementsLie project more e
    → BeginsRoomy project more (begins_in part 0 (laid_tree (record { ty = laid.ty; first = first })))
element_lies project more e part laid i first is inside at h =
    let few = mul-le-mul_right e.stride (as_far e.low e.high i inside) in
    let r = head_roomy project more e part laid is h in
    part_begins project more part (record { ty = held_tree laid.ty; first = first })
    (record { sound = r.sound; within = (let w = r.within in omega (arith, w, few, at)) })

-- ---- numbers as the code reads them

pub far_is : (n : ℕ) (i l a b : ℤ) → n ≡ unsigned_abs (a -ℤ b) → a ≡ i → b ≡ l → n ≡ unsigned_abs (i -ℤ l)
far_is n i l a b e f g = e ∙ ap (λ x. unsigned_abs (x -ℤ b)) f ∙ ap (λ x. unsigned_abs (i -ℤ x)) g

pub lies_as : (project : ProjectTree) (more : ℕ) (e : CodeElements) (low high : ℤ) → e.low ≡ low → e.high ≡ high → ElementsLie project more e
    → ElementsLie project more (record { low = low; high = high; stride = e.stride; head = e.head })
lies_as project more e low high f g h =
    subst (λ l. ElementsLie project more (record { low = l; high = high; stride = e.stride; head = e.head })) f
    (subst (λ x. ElementsLie project more (record { low = e.low; high = x; stride = e.stride; head = e.head })) g h)
