-- The leaves of the variables whose section passes a test, variable by variable, and how many there are.
use Rattle.std.proofs.Common.{◌≡◌, ℕ, ◌+◌, List, [], ◌∷◌, ◌++◌, length, Bool, true, false, not, cond, Option, Some, None, refl, sym, ap, ◌∙◌, arith}
use Rattle.std.specs.Prelude.{filter, if◌then◌else◌}
use Rattle.std.proofs.lemmas.Bool.{true≢false}
use Rattle.std.proofs.lemmas.Option.{none-some}
use Rattle.std.proofs.lemmas.List.{length-append, append-nil}
use Rattle.std.proofs.lemmas.List.Elements.{filter-append}
use Rattle.pv_place.specs.declared.place.Place.{Place}
use Rattle.pv_types.specs.declared.name.Name.{Name}
use Rattle.pv_types.specs.declared.declaration.Literal.{Literal}
use Rattle.pv_types.specs.declared.declaration.Section.{Section}
use Rattle.pv_types.specs.declared.declaration.Section.TheVariants.{Input, Output, InOut, Static, Temp, Const}
use Rattle.pv_types.specs.declared.leaf.Leaf.{Leaf}
use Rattle.pv_types.specs.Tree.{TypeTree, VarTree, var}
use Rattle.pv_types.specs.View.{section_of}
use Rattle.pv_types.specs.Leaves.{block, section_within, field_path, start_value, leaves_where, leaves_of_type, leaves_of_named, leaves_of}
use Rattle.pv_types.proofs.ForCallers.{counted_leaves}
use Rattle.pv_tree.specs.Tree.{BlockTree}
use Rattle.pv_tree.specs.Scopes.{ProjectTree, is_fb, is_const, is_of_instance}
use Rattle.pv_tree.specs.NamedTypes.{types_of_project}
use Rattle.pv_mean.specs.Layout.{size_in, size_among, is_temp, is_brief_in}
use Rattle.pv_mean.proofs.ForCallers.{AreOf, of-type, of-named}
use Rattle.pv_cells.specs.Forms.{leaves_if, leaves_among}

-- ---- filters by section

kept-all : (p : Section → Bool) (s : Section) (xs : List Leaf) → AreOf s xs → p s ≡ true → filter (λ l. p l.section) xs ≡ xs
kept-all p s [] are is = refl
kept-all p s (x ∷ xs) are is =
    ap (λ b. cond b (x ∷ filter (λ l. p l.section) xs) (filter (λ l. p l.section) xs)) (ap p are.0 ∙ is)
    ∙ ap (λ l. x ∷ l) (kept-all p s xs are.1 is)

kept-none : (p : Section → Bool) (s : Section) (xs : List Leaf) → AreOf s xs → p s ≡ false → filter (λ l. p l.section) xs ≡ []
kept-none p s [] are is = refl
kept-none p s (x ∷ xs) are is =
    ap (λ b. cond b (x ∷ filter (λ l. p l.section) xs) (filter (λ l. p l.section) xs)) (ap p are.0 ∙ is)
    ∙ kept-none p s xs are.1 is

-- ---- variables

module _ (project : ProjectTree) where
  abbrev expand : List ℕ → List ℕ → Section → List Leaf
  expand = leaves_of_named (types_of_project project) (length (types_of_project project))

  abbrev its : Name → TypeTree → Option Literal → Section → List Leaf
  its name ty start s = leaves_of_type expand (field_path [] name) (start_value start) s ty

  its-section : (name : Name) (ty : TypeTree) (start : Option Literal) (s : Section) → AreOf s (its name ty start s)
  its-section name ty start s =
      of-type expand (of-named (types_of_project project) (length (types_of_project project))) (field_path [] name) (start_value start) s ty

  filtered : (p t : Section → Bool) (s : Section) (xs : List Leaf) → AreOf s xs → p s ≡ t s
      → filter (λ l. p l.section) xs ≡ (if t s then xs ++ [] else [])
  filtered p t s xs are same = lead (t s) refl
    where
      lead : (b : Bool) → t s ≡ b → filter (λ l. p l.section) xs ≡ (if b then xs ++ [] else [])
      lead true e = kept-all p s xs are (same ∙ e) ∙ sym (append-nil xs)
      lead false e = kept-none p s xs are (same ∙ e)

  -- two tests that agree but on constants, which have no leaves
  module _ (p t : Section → Bool) (same : (s : Section) → section_within block s ≡ Some s → p s ≡ t s) where
    one : (name : Name) (s : Section) (ty : TypeTree) (start : Option Literal)
        → filter (λ l. p l.section) (leaves_where (section_within block s) (its name ty start))
        ≡ (if t s then leaves_where (section_within block s) (its name ty start) ++ [] else [])
    one name Input ty start = filtered p t Input (its name ty start Input) (its-section name ty start Input) (same Input refl)
    one name Output ty start = filtered p t Output (its name ty start Output) (its-section name ty start Output) (same Output refl)
    one name InOut ty start = filtered p t InOut (its name ty start InOut) (its-section name ty start InOut) (same InOut refl)
    one name Static ty start = filtered p t Static (its name ty start Static) (its-section name ty start Static) (same Static refl)
    one name Temp ty start = filtered p t Temp (its name ty start Temp) (its-section name ty start Temp) (same Temp refl)
    one name Const ty start = lead (t Const)
      where
        lead : (b : Bool) → leaves_where None (its name ty start) ≡ (if b then leaves_where None (its name ty start) else [])
        lead true = refl
        lead false = refl

    pub filter-among : (vars : List VarTree) → filter (λ l. p l.section) (leaves_of (types_of_project project) vars) ≡ leaves_among project t vars
    filter-among [] = refl
    filter-among (var name section ty start place ∷ more) =
        filter-append (λ l. p l.section) (leaves_where (section_within block section) (its name ty start)) (leaves_of (types_of_project project) more)
        ∙ ap (λ l. l ++ filter (λ l. p l.section) (leaves_of (types_of_project project) more)) (one name section ty start)
        ∙ ap (λ l. (if t section then leaves_where (section_within block section) (its name ty start) ++ [] else []) ++ l) (filter-among more)

  -- how many there are, where constants don't pass
  one-counted : (name : Name) (s : Section) (ty : TypeTree) (start : Option Literal) (place : Place) → (t : Bool) → (is_const s ≡ true → t ≡ false)
      → length (if t then leaves_of (types_of_project project) (var name s ty start place ∷ []) else []) ≡ (if t then size_in project ty else 0)
  one-counted name s ty start place false never = refl
  one-counted name Input ty start place true never = let e = counted_leaves (types_of_project project) (var name Input ty start place ∷ []) in omega (arith, e)
  one-counted name Output ty start place true never = let e = counted_leaves (types_of_project project) (var name Output ty start place ∷ []) in omega (arith, e)
  one-counted name InOut ty start place true never = let e = counted_leaves (types_of_project project) (var name InOut ty start place ∷ []) in omega (arith, e)
  one-counted name Static ty start place true never = let e = counted_leaves (types_of_project project) (var name Static ty start place ∷ []) in omega (arith, e)
  one-counted name Temp ty start place true never = let e = counted_leaves (types_of_project project) (var name Temp ty start place ∷ []) in omega (arith, e)
  one-counted name Const ty start place true never = absurd (true≢false (never refl))

  pub among-counted : (t : Section → Bool) → t Const ≡ false → (vars : List VarTree)
      → length (leaves_among project t vars) ≡ size_among project t vars
  among-counted t never [] = refl
  among-counted t never (var name section ty start place ∷ more) =
      length-append (if t section then leaves_of (types_of_project project) (var name section ty start place ∷ []) else []) (leaves_among project t more)
      ∙ ap (λ n. n + length (leaves_among project t more)) (one-counted name section ty start place (t section) (const_not section))
      ∙ ap (λ n. (if t section then size_in project ty else 0) + n) (among-counted t never more)
      ∙ lead (t section)
    where
      const_not : (s : Section) → is_const s ≡ true → t s ≡ false
      const_not Input e = absurd (true≢false (sym e))
      const_not Output e = absurd (true≢false (sym e))
      const_not InOut e = absurd (true≢false (sym e))
      const_not Static e = absurd (true≢false (sym e))
      const_not Temp e = absurd (true≢false (sym e))
      const_not Const e = never

      lead : (b : Bool) → (if b then size_in project ty else 0) + size_among project t more
          ≡ (if b then size_in project ty + size_among project t more else size_among project t more)
      lead true = refl
      lead false = omega arith

-- ---- tests that say the same

pub among-same : (project : ProjectTree) (t u : Section → Bool) → ((s : Section) → t s ≡ u s) → (vars : List VarTree)
    → leaves_among project t vars ≡ leaves_among project u vars
among-same project t u same [] = refl
among-same project t u same (v ∷ more) =
    ap (λ b. (if b then leaves_of (types_of_project project) (v ∷ []) else []) ++ leaves_among project t more) (same (section_of v))
    ∙ ap (λ l. leaves_if project u v ++ l) (among-same project t u same more)

-- a variable that passes has all its leaves, another none
pub leaves-if : (project : ProjectTree) (t : Section → Bool) (v : VarTree) (b : Bool) → t (section_of v) ≡ b
    → leaves_if project t v ≡ (if b then leaves_of (types_of_project project) (v ∷ []) else [])
leaves-if project t v b is = ap (λ c. if c then leaves_of (types_of_project project) (v ∷ []) else []) is

pub stays_is_instance : (s : Section) → section_within block s ≡ Some s → not (is_temp s) ≡ is_of_instance s
stays_is_instance Input e = refl
stays_is_instance Output e = refl
stays_is_instance InOut e = refl
stays_is_instance Static e = refl
stays_is_instance Temp e = refl
stays_is_instance Const e = absurd (none-some Const e)

pub brief_no_const : (b : BlockTree) → is_brief_in b Const ≡ false
brief_no_const b = lead (is_fb b.kind)
  where
    lead : (t : Bool) → (if t then is_temp Const else not (is_const Const)) ≡ false
    lead true = refl
    lead false = refl
