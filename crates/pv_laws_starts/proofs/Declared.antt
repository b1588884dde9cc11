-- What the rules say of declarations: each start value that is written lies in its type, and each type that is named is there and
-- nests.
use Rattle.std.proofs.Common.{◌≡◌, ◌≢◌, inl, inr, ℕ, suc, ℤ, ◌≤ℤ◌, List, [], ◌∷◌, ◌++◌, map, length, Bool, true, false, cond, not, ◌&&◌, ◌||◌, Option, Some, None, IsTrue, Contains, refl, arith}
use Rattle.std.specs.Prelude.{⊤, int_le, filter}
use Rattle.std.proofs.lemmas.Int.{ints}
use Rattle.std.proofs.lemmas.List.Elements.{Contains-append_left, Contains-append_right}
use Rattle.pv_word.specs.declared.types.Ty.{Ty}
use Rattle.pv_word.specs.Types.{InRange, least_of, greatest_of}
use Rattle.pv_place.specs.declared.place.Place.{Place}
use Rattle.pv_types.specs.declared.name.Name.{Name}
use Rattle.pv_types.specs.declared.declaration.Section.{Section}
use Rattle.pv_types.specs.declared.declaration.Literal.{Literal}
use Rattle.pv_types.specs.Tree.{TypeTree, plain, array, structure, named, unread, VarTree, var, VarTrees, no_vars, _then_}
use Rattle.pv_types.specs.View.{listed}
use Rattle.pv_types.specs.Named.{AllNamed, AllNamedIn, NestsWithin}
use Rattle.pv_types.specs.Starts.{LiesIn, StartsLie, StartsLieIn, StartsLieInTypes}
use Rattle.pv_tree.specs.Tree.{PlacedName, BlockTree}
use Rattle.pv_tree.specs.LiteralTypes.{holds, this}
use Rattle.pv_tree.specs.Scopes.{ProjectTree, is_type, type_named}
use Rattle.pv_tree.specs.NamedTypes.{named_type, types_of_project}
use Rattle.pv_tree.specs.Interfaces.{fields_in, vars_in}
use Rattle.pv_tree.specs.Rules.{KeepsRules, missing_type, out_of_range}
use Rattle.pv_tree.specs.Rules.MissingTypes.{names_in, names_in_vars, name_of_kind, named_types}
use Rattle.pv_tree.specs.Rules.OutOfRange.{is_outside, start_is_outside, IsStartOutside}
use Rattle.pv_tree.proofs.ForCallers.{types_nest}

-- ---- lists

pub contains_first : {X : Type 0} (x : X) (xs : List X) → Contains (x ∷ xs) x
contains_first x xs = (0, omega arith, refl)

pub contains_more : {X : Type 0} (x y : X) (xs : List X) → Contains xs y → Contains (x ∷ xs) y
contains_more x y xs (k, lt, e) = (suc k, omega (arith, lt), e)

-- ---- a value within its type

from_holds : (a b v : ℤ) → int_le a v && int_le v b ≡ true → (a ≤ℤ v) × (v ≤ℤ b)
from_holds a b v e = (grind (arith, ints), grind (arith, ints))

pub in_range : (ty : Ty) (v : ℤ) → holds ty v ≡ true → InRange ty v
in_range ty v e =
    let w = from_holds (least_of ty) (greatest_of ty) v e in
    record { from = w.0; to = w.1 }

not_outside : (a b : Bool) → (a || not b ≡ true → ⊥) → b ≡ true
not_outside a true f = refl
not_outside true false f = absurd (f refl)
not_outside false false f = absurd (f refl)

-- a start value that isn't outside its type is one of it
pub inside_plain : (ty : Ty) (literal : Literal) → (IsTrue (start_is_outside (plain ty) literal) → ⊥) → InRange ty literal.value
inside_plain ty literal f =
    in_range ty literal.value (not_outside (is_outside (this ty) literal.ty literal.value) (holds ty literal.value) f)

-- ---- start values of declarations

-- no start value, or none outside
abbrev Lies : Option Literal → TypeTree → Type 0
Lies None ty = ⊤
Lies (Some literal) ty = IsTrue (start_is_outside ty literal) → ⊥

abbrev Inside : VarTree → Type 0
Inside v = (at : Place) → IsStartOutside at v → ⊥

own_lies : (name : Name) (section : Section) (ty : TypeTree) (start : Option Literal) (place : Place)
    → Inside (var name section ty start place)
    → Lies start ty
own_lies name section ty None place f = tt
own_lies name section ty (Some literal) place f = λ h. f literal.place (refl, h)

plain_lies : (ty : Ty) (start : Option Literal) → Lies start (plain ty) → LiesIn ty start
plain_lies ty None f = tt
plain_lies ty (Some literal) f = inside_plain ty literal f

mutual
  type_lies : (start : Option Literal) (ty : TypeTree) → Lies start ty → ((v : VarTree) → Contains (fields_in ty) v → Inside v)
      → StartsLie start ty
  type_lies start (plain ty) own f = plain_lies ty start own
  type_lies start (array low high of place) own f = type_lies None of tt f
  type_lies start (structure vars) own f = vars_lie vars f
  type_lies start (named name place) own f = tt
  type_lies start unread own f = tt

  vars_lie : (vars : VarTrees) → ((v : VarTree) → Contains (vars_in vars) v → Inside v) → StartsLieIn vars
  vars_lie no_vars f = tt
  vars_lie (_then_ (var name section ty start place) more) f =
      let it = var name section ty start place in
      let rest = fields_in ty ++ vars_in more in (
        type_lies start ty (own_lies name section ty start place (f it (contains_first it rest)))
            (λ v c. f v (contains_more it v rest (Contains-append_left (fields_in ty) (vars_in more) v c))),
        vars_lie more (λ v c. f v (contains_more it v rest (Contains-append_right (fields_in ty) (vars_in more) v c))),
      )

pub block_lies : (project : ProjectTree) → KeepsRules project → (b : BlockTree) → Contains project.blocks b → StartsLieIn (listed b.vars)
block_lies project keeps b in_project =
    vars_lie (listed b.vars) (λ v c at outside. keeps out_of_range at
    (in_project.0, b, in_project.1, in_project.2, inr (inl (c.0, v, c.1, c.2, outside))))

types_lie_among : (blocks : List BlockTree) → ((b : BlockTree) → Contains blocks b → StartsLieIn (listed b.vars))
    → StartsLieInTypes (map named_type (filter (λ b. is_type b.kind) blocks))
types_lie_among [] f = tt
types_lie_among (b ∷ more) f =
    lead (is_type b.kind) (f b (contains_first b more)) (types_lie_among more (λ c is. f c (contains_more b c more is)))
  where
    lead : (t : Bool) → StartsLieIn (listed b.vars) → StartsLieInTypes (map named_type (filter (λ c. is_type c.kind) more))
        → StartsLieInTypes (map named_type (cond t (b ∷ filter (λ c. is_type c.kind) more) (filter (λ c. is_type c.kind) more)))
    lead true here rest = (here, rest)
    lead false here rest = rest

pub types_lie : (project : ProjectTree) → KeepsRules project → StartsLieInTypes (types_of_project project)
types_lie project keeps = types_lie_among project.blocks (block_lies project keeps)

-- ---- named types

-- a type of this key is there, and nests
pub record IsLaidOut (project : ProjectTree) (key : List ℕ) : Type 0 where
  pub there : type_named project key ≢ None
  pub nests : NestsWithin (types_of_project project) (length (types_of_project project)) key

mutual
  all_named : (P : List ℕ → Type 0) (ty : TypeTree) → ((n : PlacedName) → Contains (names_in ty) n → P n.0.key) → AllNamed P ty
  all_named P (plain ty) f = tt
  all_named P (array low high of place) f = all_named P of f
  all_named P (structure vars) f = all_named_in P vars f
  all_named P (named name place) f = f (name, place) (contains_first (name, place) [])
  all_named P unread f = tt

  all_named_in : (P : List ℕ → Type 0) (vars : VarTrees) → ((n : PlacedName) → Contains (names_in_vars vars) n → P n.0.key)
      → AllNamedIn P vars
  all_named_in P no_vars f = tt
  all_named_in P (_then_ (var name section ty start place) more) f = (
    all_named P ty (λ n c. f n (Contains-append_left (names_in ty) (names_in_vars more) n c)),
    all_named_in P more (λ n c. f n (Contains-append_right (names_in ty) (names_in_vars more) n c)),
  )

pub name_laid_out : (project : ProjectTree) → KeepsRules project → (b : BlockTree) → Contains project.blocks b → (n : PlacedName)
    → Contains (named_types b) n → IsLaidOut project n.0.key
name_laid_out project keeps b c n d = record {
  there = λ none. keeps missing_type n.1 (c.0, b, c.1, c.2, (d.0, n, d.1, d.2, (refl, inl none)));
  nests = (types_nest project keeps).named b n c d;
}

pub vars_laid_out : (project : ProjectTree) → KeepsRules project → (b : BlockTree) → Contains project.blocks b
    → AllNamedIn (IsLaidOut project) (listed b.vars)
vars_laid_out project keeps b c =
    all_named_in (IsLaidOut project) (listed b.vars)
    (λ n d. name_laid_out project keeps b c n (Contains-append_left (names_in_vars (listed b.vars)) (name_of_kind b.kind) n d))
