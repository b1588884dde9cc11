-- What the rules say of a block's parts: literals lie in their types, addresses are right, and the value of an assignment is of a type
-- that widens to that of its target, which is a spot of it.
use Rattle.std.proofs.Common.{◌≡◌, inl, inr, zero, suc, List, [], ◌∷◌, ◌++◌, map, Bool, true, false, cond, not, ◌&&◌, ◌||◌, Option, Some, None, IsTrue, Contains, refl, sym, ap, subst, ◌∙◌, arith}
use Rattle.std.specs.Prelude.{⊤, is_some, flat_map, option_to_list}
use Rattle.std.specs.List.{AllByRecursion}
use Rattle.std.proofs.lemmas.Bool.{true≢false, false≢true}
use Rattle.pv_word.specs.declared.types.Ty.{Ty}
use Rattle.pv_place.specs.declared.place.Place.{Place}
use Rattle.pv_types.specs.Tree.{TypeTree, plain, array, structure, named, unread}
use Rattle.pv_tree.specs.Tree.{ExprTree, lit, read, unary, binary, std, paren, OperandTree, operand, field, index, StepTrees, no_steps, steps, assign, BlockTree}
use Rattle.pv_tree.specs.LiteralTypes.{Want, nothing, is_whole_number, holds, type_of_literal}
use Rattle.pv_tree.specs.Sorts.{Sort, untyped, typed, one, whole, broken, is_whole, own_type, taken, widens}
use Rattle.pv_tree.specs.Scopes.{ProjectTree, Scope, type_named}
use Rattle.pv_tree.specs.Things.{Thing, part, constant, a_block, no_name, no_array, a_date, untold, first_place, is_date, dated, thing_of, thing_of_root, root_place, thing_at, last_behind, thing_behind, place_of_operand}
use Rattle.pv_tree.specs.Types.{Written, literal_of, sort_of, sort_of_type, sort_of_thing, sort_of_operand, are_indexed, is_index, is_index_type, type_of}
use Rattle.pv_tree.specs.Fits.{widens_from, doesnt_fit, sort_of_taken, sort_of_target, is_of_other_type}
use Rattle.pv_tree.specs.Parts.{Part, Spot as StmtSpot, parts_of, parts_of_operand, parts_of_steps, parts_of_stmt, parts_of_block, parts_of_instruction, want_of_target, spots_of_body, instructions_of, starts_of, target_of, assigned_operands, instruction_operands, operands_of, reads_of_parts, Path, path_of, path_of_start, paths_of, IndexAt, indexes_of, indexes_behind, thing_of_path}
use Rattle.pv_tree.specs.Rules.{KeepsRules, missing_name, misfit, out_of_range, fixed_target, wrong_address}
use Rattle.pv_tree.specs.InstructionGroups.{written_operand}
use Rattle.pv_tree.specs.declared.expr.Root.{Root}
use Rattle.pv_tree.specs.Rules.Misfits.{MisfitsStmt}
use Rattle.pv_tree.specs.Rules.Targets.{is_fixed}
use Rattle.pv_tree.specs.Rules.OutOfRange.{IsWrittenOutside}
use Rattle.pv_tree.specs.Rules.Addresses.{is_wrong_operand}
use Rattle.pv_tree.specs.RuleLaws.{HasType, EachHasType, IndexesLie}
use Rattle.pv_laws_types.proofs.Rooted.{in_range}
use Rattle.pv_laws_types.proofs.Valued.{WrittenLies, PartLies}

same_some : {X : Type 0} (x y : X) → Some x ≡ Some y → x ≡ y
same_some x y e = cc

-- ---- lists

contains_here : {X : Type 0} (x : X) (xs : List X) → Contains (x ∷ xs) x
contains_here x xs = (0, omega arith, refl)

contains_more : {X : Type 0} (x y : X) (xs : List X) → Contains xs y → Contains (x ∷ xs) y
contains_more x y xs (k, lt, e) = (suc k, omega (arith, lt), e)

contains_front : {X : Type 0} (y : X) (xs ys : List X) → Contains xs y → Contains (xs ++ ys) y
contains_front y [] ys (k, lt, e) = absurd (omega (arith, lt))
contains_front y (x ∷ xs) ys (zero, lt, e) = (0, omega arith, e)
contains_front y (x ∷ xs) ys (suc k, lt, e) = contains_more x y (xs ++ ys) (contains_front y xs ys (k, omega (arith, lt), e))

contains_behind : {X : Type 0} (y : X) (xs ys : List X) → Contains ys y → Contains (xs ++ ys) y
contains_behind y [] ys c = c
contains_behind y (x ∷ xs) ys c = contains_more x y (xs ++ ys) (contains_behind y xs ys c)

contains_map : {X Y : Type 0} (f : X → Y) (xs : List X) (x : X) → Contains xs x → Contains (map f xs) (f x)
contains_map f [] x (k, lt, e) = absurd (omega (arith, lt))
contains_map f (y ∷ ys) x (zero, lt, e) = (0, omega arith, ap f e)
contains_map f (y ∷ ys) x (suc k, lt, e) = contains_more (f y) (f x) (map f ys) (contains_map f ys x (k, omega (arith, lt), e))

contains_flat : {X Y : Type 0} (f : X → List Y) (xs : List X) (x : X) (y : Y) → Contains xs x → Contains (f x) y → Contains (flat_map f xs) y
contains_flat f [] x y (k, lt, e) d = absurd (omega (arith, lt))
contains_flat f (z ∷ zs) x y (zero, lt, e) d = contains_front y (f z) (flat_map f zs) (subst (λ w. Contains (f w) y) (sym e) d)
contains_flat f (z ∷ zs) x y (suc k, lt, e) d =
    contains_behind y (f z) (flat_map f zs) (contains_flat f zs x y (k, omega (arith, lt), e) d)

pub all_of : {X : Type 0} (P : X → Type 0) (xs : List X) → ((x : X) → Contains xs x → P x) → AllByRecursion P xs
all_of P [] f = tt
all_of P (x ∷ xs) f = (f x (contains_here x xs), all_of P xs (λ y c. f y (contains_more x y xs c)))

isnt : (b : Bool) → (IsTrue b → ⊥) → b ≡ false
isnt true f = absurd (f refl)
isnt false f = refl

pub is_not : (b : Bool) → (IsTrue (not b) → ⊥) → b ≡ true
is_not true f = refl
is_not false f = absurd (f refl)

or_left : (a b : Bool) → a || b ≡ false → a ≡ false
or_left true b e = e
or_left false b e = refl

or_right : (a b : Bool) → a || b ≡ false → b ≡ false
or_right true b e = absurd (true≢false e)
or_right false b e = e

and_both : (a b : Bool) → a ≡ true → b ≡ true → a && b ≡ true
and_both true b p q = q
and_both false b p q = p

not_false : (b : Bool) → not b ≡ false → b ≡ true
not_false true e = refl
not_false false e = absurd (true≢false e)

-- ---- indexes

own_told : (s : Sort) → IsTrue (is_some (own_type (taken nothing s))) → is_of_other_type is_whole_number (taken nothing s) ≡ false
    → is_index_type (own_type (taken nothing s)) ≡ true
own_told (untyped v) has fits = not_false _ fits
own_told (typed ty v) has fits = not_false _ fits
own_told (one ty) has fits = not_false _ fits
own_told whole has fits = absurd (false≢true has)
own_told broken has fits = absurd (false≢true has)

-- each expression is the first of its parts
part_head : (scope : Scope) (want : Want) (e : ExprTree) → Contains (parts_of scope want e) (record { want = want; expr = e })
part_head scope want (lit ty v place) = (0, omega arith, refl)
part_head scope want (read o) = (0, omega arith, refl)
part_head scope want (unary op place arg) = (0, omega arith, refl)
part_head scope want (binary op place l r) = (0, omega arith, refl)
part_head scope want (std function place args) = (0, omega arith, refl)
part_head scope want (paren place inner) = (0, omega arith, refl)

index_part : (scope : Scope) (more : StepTrees) (last : Place) (t : Thing) (i : IndexAt) → Contains (indexes_behind scope last t more) i
    → Contains (parts_of_steps scope more) (record { want = nothing; expr = i.index })
index_part scope no_steps last t i (k, lt, e) = absurd (omega (arith, lt))
index_part scope (steps (field name place) more) last t i d = index_part scope more place _ i d
index_part scope (steps (index e place) more) last t i (zero, lt, f) =
    contains_front _ (parts_of scope nothing e) (parts_of_steps scope more)
    (subst (λ x. Contains (parts_of scope nothing e) (record { want = nothing; expr = x })) (ap (λ (j : IndexAt). j.index) f) (part_head scope nothing e))
index_part scope (steps (index e place) more) last t i (suc k, lt, f) =
    contains_behind _ (parts_of scope nothing e) (parts_of_steps scope more) (index_part scope more last _ i (k, omega (arith, lt), f))

indexes_good : (scope : Scope) (more : StepTrees) (last : Place) (t : Thing)
    → ((i : IndexAt) → Contains (indexes_behind scope last t more) i → is_index i.within (sort_of scope i.index) ≡ true)
    → are_indexed scope last t more ≡ true
indexes_good scope no_steps last t f = refl
indexes_good scope (steps (field name place) more) last t f = indexes_good scope more place _ f
indexes_good scope (steps (index e place) more) last t f =
    and_both (is_index (dated last t) (sort_of scope e)) _ (f (record { within = dated last t; index = e }) ((0, omega arith, refl)))
    (indexes_good scope more last _ (λ i d. f i (contains_more (record { within = dated last t; index = e }) i _ d)))

-- ---- what names come to is no variable of a date

abbrev is_unread : Thing → Bool
is_unread (part (plain ty)) = false
is_unread (part (array low high of at)) = false
is_unread (part (structure vars)) = false
is_unread (part (named name at)) = false
is_unread (part unread) = true
is_unread (constant ty) = false
is_unread (a_block x) = false
is_unread (no_name at) = false
is_unread (no_array at) = false
is_unread (a_date at) = false
is_unread untold = false

dated_read : (last : Place) (t : Thing) → is_unread (dated last t) ≡ false
dated_read last (part (plain ty)) = refl
dated_read last (part (array low high of at)) = lead (is_date of)
  where
    lead : (d : Bool) → is_unread (cond d (a_date last) (part (array low high of at))) ≡ false
    lead true = refl
    lead false = refl
dated_read last (part (structure vars)) = refl
dated_read last (part (named name at)) = refl
dated_read last (part unread) = refl
dated_read last (constant ty) = refl
dated_read last (a_block x) = refl
dated_read last (no_name at) = refl
dated_read last (no_array at) = refl
dated_read last (a_date at) = refl
dated_read last untold = refl

behind_read : (scope : Scope) (more : StepTrees) (last : Place) (t : Thing) → is_unread (thing_behind scope last t more) ≡ false
behind_read scope no_steps last t = dated_read last t
behind_read scope (steps step more) last t = behind_read scope more (last_behind last step) (thing_at scope (dated last t) step)

thing_read : (scope : Scope) (o : OperandTree) → is_unread (thing_of scope o) ≡ false
thing_read scope (operand root more place) = behind_read scope more (root_place root place) (thing_of_root scope root place)

-- ---- targets

-- what it means is told, and the type that it names is there
abbrev pub IsThere : ProjectTree → Thing → Type 0
IsThere project (part (plain ty)) = ⊤
IsThere project (part (array low high of at)) = ⊤
IsThere project (part (structure vars)) = ⊤
IsThere project (part (named name at)) = is_some (type_named project name.key) ≡ true
IsThere project (part unread) = ⊤
IsThere project (constant ty) = ⊤
IsThere project (a_block x) = ⊤
IsThere project (no_name at) = ⊤
IsThere project (no_array at) = ⊤
IsThere project (a_date at) = ⊤
IsThere project untold = ⊥

-- the target is a part of a type to which this one widens
pub record Fitting (scope : Scope) (target : OperandTree) (own : Ty) : Type 0 where
  pub ty : Ty
  pub thing : thing_of scope target ≡ part (plain ty)
  pub widened : widens own ty ≡ true

widened_to : (own : Ty) (v : Sort) (ty : Ty) → own_type v ≡ Some own → doesnt_fit (one ty) v ≡ false → widens own ty ≡ true
widened_to own v ty is_own f =
    not_false (widens own ty)
    (sym (ap (λ o. not (widens_from o (Some ty))) is_own) ∙ or_right (is_whole v) (not (widens_from (own_type v) (Some ty))) f)

not_whole : (v : Sort) → doesnt_fit whole v ≡ false → ⊥
not_whole v f = true≢false f

-- ---- in a block of a project that keeps the rules

module _ (project : ProjectTree) (keeps : KeepsRules project) (typed : EachHasType project) (lie : IndexesLie project)
    (b : BlockTree) (c : Contains project.blocks b) where
  abbrev scope : Scope
  scope = record { project = project; block = b }

  -- ---- literals

  written_lies : (want : Want) (o : Option Written) → (IsWrittenOutside want o → ⊥) → WrittenLies want o
  written_lies want None f = tt
  written_lies want (Some w) f = in_range (type_of_literal want w.ty w.value) w.value
      (is_not (holds (type_of_literal want w.ty w.value) w.value) f)

  pub part_lies : (p : Part) → Contains (parts_of_block project b) p → PartLies p
  part_lies p d = written_lies p.want (literal_of p.expr)
      (λ out. keeps out_of_range (first_place p.expr) (c.0, b, c.1, c.2, inl (d.0, p, d.1, d.2, (refl, out))))

  -- ---- operands

  pub right_address : (o : OperandTree) → Contains (operands_of project b) o → is_wrong_operand o ≡ false
  right_address o d = isnt (is_wrong_operand o)
      (λ w. keeps wrong_address (place_of_operand o) (c.0, b, c.1, c.2, (d.0, o, d.1, d.2, (refl, w))))

  path_there : (o : OperandTree) → Contains (operands_of project b) o → Contains (paths_of project b) (path_of scope o)
  path_there o d = contains_front (path_of scope o) (map (path_of scope) (operands_of project b))
      (map (λ v. path_of_start scope v.0) (starts_of b.body)) (contains_map (path_of scope) (operands_of project b) o d)

  index_is : (p : Path) → Contains (paths_of project b) p → (i : IndexAt) → Contains (indexes_of scope p) i
      → HasType scope (record { want = nothing; expr = i.index }) → is_index i.within (sort_of scope i.index) ≡ true
  index_is p d i e has =
      let whole_number = own_told (sort_of scope i.index) has (isnt (is_of_other_type is_whole_number (taken nothing (sort_of scope i.index)))
      (λ m. keeps misfit (first_place i.index)
      (c.0, b, c.1, c.2, inl (inr (d.0, p, d.1, d.2, inr (inr (e.0, i, e.1, e.2, (refl, m)))))))) in
      and_both _ _ whole_number (lie b p i c d e whole_number)

  operand_indexed : (root : Root) (more : StepTrees) (place : Place) → Contains (operands_of project b) (operand root more place)
      → ((p : Part) → Contains (parts_of_steps scope more) p → Contains (parts_of_block project b) p)
      → are_indexed scope (root_place root place) (thing_of_root scope root place) more ≡ true
  operand_indexed root more place d inner =
      indexes_good scope more (root_place root place) (thing_of_root scope root place)
      (λ i e. index_is (path_of scope (operand root more place)) (path_there (operand root more place) d) i e
      (typed b (record { want = nothing; expr = i.index }) c
      (inner (record { want = nothing; expr = i.index })
      (index_part scope more (root_place root place) (thing_of_root scope root place) i e))))

  -- ---- assignments

  module _ (target : OperandTree) (place : Place) (e : ExprTree) (s : StmtSpot) (in_body : Contains (spots_of_body b.body) s)
      (is : s.stmt ≡ assign target place e) where
    stmt_part : (p : Part) → Contains (parts_of_stmt scope (assign target place e)) p → Contains (parts_of_block project b) p
    stmt_part p d =
        contains_front p _ (flat_map (λ v. parts_of_operand scope v.0) (starts_of b.body))
        (contains_front p (flat_map (λ x. parts_of_stmt scope x.stmt) (spots_of_body b.body))
        (flat_map (parts_of_instruction scope) (instructions_of b.body))
        (contains_flat (λ (x : StmtSpot). parts_of_stmt scope x.stmt) (spots_of_body b.body) s p in_body
        (subst (λ x. Contains (parts_of_stmt scope x) p) (sym is) d)))

    pub value_part : Contains (parts_of_block project b) (record { want = want_of_target scope target; expr = e })
    value_part = stmt_part _ (contains_behind _ (parts_of_operand scope target) (parts_of scope (want_of_target scope target) e)
        (part_head scope (want_of_target scope target) e))

    assigned : Contains (assigned_operands b) target
    assigned = contains_flat (λ (x : StmtSpot). option_to_list (target_of x.stmt)) (spots_of_body b.body) s target in_body
        (subst (λ x. Contains (option_to_list (target_of x)) target) (sym is) (contains_here target []))

    pub target_there : Contains (operands_of project b) target
    target_there =
        contains_front target _ (instruction_operands b)
        (contains_behind target (reads_of_parts (parts_of_block project b)) (assigned_operands b) assigned)

    target_indexed : (o : OperandTree) → o ≡ target → sort_of_operand scope o ≡ sort_of_thing scope (thing_of scope o)
    target_indexed (operand root more at) same =
        ap (λ w. cond w (sort_of_thing scope (thing_of scope (operand root more at))) broken)
        (operand_indexed root more at (subst (Contains (operands_of project b)) (sym same) target_there)
        (λ p d. stmt_part p (contains_front p (parts_of_operand scope target) (parts_of scope (want_of_target scope target) e)
        (subst (λ o. Contains (parts_of_operand scope o) p) same d))))

    fits : doesnt_fit (sort_of_target scope target) (taken (want_of_target scope target) (sort_of scope e)) ≡ false
    fits = isnt _ (λ m. keeps misfit place (
      c.0,
      b,
      c.1,
      c.2,
      inr (inr (inr (inr (inl (in_body.0, s, in_body.1, in_body.2, inl (subst (MisfitsStmt scope place) (sym is) (refl, m))))))),
    ))

    fixed_not : IsTrue (is_fixed (thing_of scope target)) → ⊥
    fixed_not h =
        let d = contains_front target (assigned_operands b) (flat_map (λ i. option_to_list (written_operand i)) (instructions_of b.body)) assigned in
        keeps fixed_target (place_of_operand target) (c.0, b, c.1, c.2, (d.0, target, d.1, d.2, (refl, h)))

    pub target_fits : (own : Ty) → type_of scope (want_of_target scope target) e ≡ Some own → IsThere project (thing_of scope target)
        → Fitting scope target own
    target_fits own is_own there = lead (thing_of scope target) refl there
      where
        value : Sort
        value = taken (want_of_target scope target) (sort_of scope e)

        sorted : (t : TypeTree) → thing_of scope target ≡ part t → doesnt_fit (sort_of_type scope t) value ≡ false
        sorted t is_t = subst (λ x. doesnt_fit x value ≡ false)
            (ap (sort_of_taken scope target) is_t ∙ (target_indexed target refl ∙ ap (sort_of_thing scope) is_t)) fits

        path : Contains (paths_of project b) (path_of scope target)
        path = path_there target target_there

        through : (o : OperandTree) → thing_of_path scope (path_of scope o) ≡ thing_of scope o
        through (operand root more at) = refl

        lead : (t : Thing) → thing_of scope target ≡ t → IsThere project t → Fitting scope target own
        lead (part (plain ty)) i w =
            record { ty = ty; thing = i; widened = widened_to own value ty is_own (sorted (plain ty) i) }
        lead (part (array low high of at)) i w = absurd (not_whole value (sorted (array low high of at) i))
        lead (part (structure vars)) i w = absurd (not_whole value (sorted (structure vars) i))
        lead (part (named name at)) i w = absurd (not_whole value
            (subst (λ x. doesnt_fit (cond x whole broken) value ≡ false) w (sorted (named name at) i)))
        lead (part unread) i w = absurd (true≢false (sym (ap is_unread i) ∙ thing_read scope target))
        lead (constant ty) i w = absurd (fixed_not (subst (λ t. IsTrue (is_fixed t)) (sym i) refl))
        lead (a_block x) i w = absurd (fixed_not (subst (λ t. IsTrue (is_fixed t)) (sym i) refl))
        lead (no_name at) i w = absurd (keeps missing_name at
            (c.0, b, c.1, c.2, inl (path.0, path_of scope target, path.1, path.2, through target ∙ i)))
        lead (no_array at) i w = absurd (keeps misfit at
            (c.0, b, c.1, c.2, inl (inr (path.0, path_of scope target, path.1, path.2, inl (through target ∙ i)))))
        lead (a_date at) i w = absurd (keeps misfit at
            (c.0, b, c.1, c.2, inl (inr (path.0, path_of scope target, path.1, path.2, inr (inl (through target ∙ i))))))
        lead untold i w = absurd w
