-- What is nearest at the CASEs of a project is the least place at which their rule is broken.
use Rattle.std.proofs.Common.{◌≡◌, ℕ, inl, inr, refl, sym, ap, ◌∙◌, Option, Bool, true, false, not, true≢false, IsTrue}
use Rattle.std.specs.Prelude.{◌⊎◌, Any, nat_eq}
use Rattle.std.proofs.lemmas.Bool.Decides.{Decides-eqb}
use Rattle.pv_word.specs.declared.types.Ty.{Ty}
use Rattle.pv_word.specs.declared.types.Ty.TheVariants as ty
use Rattle.pv_place.specs.declared.place.Place.{Place}
use Rattle.pv_types.specs.Tree.{plain, array, structure, named, unread}
use Rattle.pv_tree.specs.declared.stmt.Choice.{Choice}
use Rattle.pv_tree.specs.declared.stmt.Choice.TheVariants.{Lit, Const}
use Rattle.pv_tree.specs.Tree.{StmtTree, assign, assign_call, if_, case_, for_, while_, repeat_, exit_, continue_, return_, call_, empty_}
use Rattle.pv_tree.specs.LiteralTypes.{Want, nothing, this, unsure, is_whole_number, type_of_literal}
use Rattle.pv_tree.specs.Sorts.{taken}
use Rattle.pv_tree.specs.Scopes.{ProjectTree, Scope}
use Rattle.pv_tree.specs.Things.{Thing, part, constant, a_block, no_name, no_array, a_date, untold, thing_of_word, first_place}
use Rattle.pv_tree.specs.Types.{sort_of}
use Rattle.pv_tree.specs.Fits.{is_of_other_type}
use Rattle.pv_tree.specs.Rules.MissingNames.{values_of_case}
use Rattle.pv_tree.specs.Rules.OutOfRange.{want_of_selector}
use Rattle.pv_tree.specs.Rules.Cases.{IsOtherType, IsNoConstant, IsWrongValue, IsWrongSelector, ChoosesWrong, IsWrongCase}
use Rattle.pv_rules_expr.specs.Nearest.{IsNearest}
use Rattle.pv_rules_expr.specs.Looks.{nearer_of}
use Rattle.pv_rules_code.specs.AtCases.{rank, same_type, is_other_type, is_no_constant, selector_place, value_at, values_place}
use Rattle.pv_rules_code.specs.Sites.{project_place}
use Rattle.pv_rules_code.specs.Sought.Site as site
use Rattle.pv_rules_code.specs.Sought.Pick as pick
use Rattle.pv_rules_expr.proofs.ForCallers.{nearest_same, nearest_where}
use Rattle.pv_rules_expr.proofs.ForCallers.{in_any, nearest_is}
use Rattle.pv_rules_code.proofs.SiteLaws.{OnSpots, over_project, on_spots, never_at, join_spots, same_spots}

-- ---- types

abbrev unrank : ℕ → Ty
unrank n = elim (nat_eq n 0) [
  | true ↦ ty.Bool
  | false ↦ elim (nat_eq n 1) [
    | true ↦ ty.Byte
    | false ↦ elim (nat_eq n 2) [
      | true ↦ ty.Word
      | false ↦ elim (nat_eq n 3) [
        | true ↦ ty.Dword
        | false ↦ elim (nat_eq n 4) [ true ↦ ty.Int | false ↦ elim (nat_eq n 5) [ true ↦ ty.Dint | false ↦ ty.Time ] ]
      ]
    ]
  ]
]

ranked : (t : Ty) → unrank (rank t) ≡ t
ranked ty.Bool = refl
ranked ty.Byte = refl
ranked ty.Word = refl
ranked ty.Dword = refl
ranked ty.Int = refl
ranked ty.Dint = refl
ranked ty.Time = refl

same_is : (a b : Ty) → same_type a b ≡ true → a ≡ b
same_is a b h = sym (ranked a) ∙ ap unrank ((Decides-eqb (rank a) (rank b)).0 h) ∙ ranked b

is_same : (a b : Ty) → a ≡ b → same_type a b ≡ true
is_same a b e = (Decides-eqb (rank a) (rank b)).1 (ap rank e)

not_true : (b : Bool) → (IsTrue b → ⊥) → IsTrue (not b)
not_true true h = absurd (h refl)
not_true false h = refl

of_not_true : (b : Bool) → IsTrue (not b) → IsTrue b → ⊥
of_not_true true h g = true≢false (sym h)
of_not_true false h g = true≢false (sym g)

other_to : (want : Want) (t : Ty) → IsTrue (is_other_type want t) → IsOtherType want t
other_to (this u) t h = λ e. of_not_true (same_type t u) h (is_same t u e)
other_to nothing t h = true≢false (sym h)
other_to unsure t h = true≢false (sym h)

other_from : (want : Want) (t : Ty) → IsOtherType want t → IsTrue (is_other_type want t)
other_from (this u) t h = not_true (same_type t u) (λ g. h (same_is t u g))
other_from nothing t h = absurd h
other_from unsure t h = absurd h

constant_to : (want : Want) (t : Thing) → IsTrue (is_no_constant want t) → IsNoConstant want t
constant_to want (constant (plain u)) h = other_to want u h
constant_to want (constant (array low high of at)) h = tt
constant_to want (constant (structure vars)) h = tt
constant_to want (constant (named name at)) h = tt
constant_to want (constant unread) h = tt
constant_to want (part u) h = tt
constant_to want (a_block b) h = tt
constant_to want (no_name at) h = true≢false (sym h)
constant_to want (no_array at) h = tt
constant_to want (a_date at) h = tt
constant_to want untold h = tt

constant_from : (want : Want) (t : Thing) → IsNoConstant want t → IsTrue (is_no_constant want t)
constant_from want (constant (plain u)) h = other_from want u h
constant_from want (constant (array low high of at)) h = refl
constant_from want (constant (structure vars)) h = refl
constant_from want (constant (named name at)) h = refl
constant_from want (constant unread) h = refl
constant_from want (part u) h = refl
constant_from want (a_block b) h = refl
constant_from want (no_name at) h = absurd h
constant_from want (no_array at) h = refl
constant_from want (a_date at) h = refl
constant_from want untold h = refl

-- ---- the values and the selector

value_nearest : (scope : Scope) (want : Want) (c : Choice) → IsNearest (λ at. IsWrongValue scope want at c) (value_at pick.Other scope want c)
value_nearest scope want (Lit l) =
    nearest_same (λ at. (l.place ≡ at) × IsTrue (is_other_type want (type_of_literal want l.ty l.value))) (λ at. IsWrongValue scope want at (Lit l))
    (value_at pick.Other scope want (Lit l))
    (λ at h. (h.0, other_to want (type_of_literal want l.ty l.value) h.1)) (λ at h. (h.0, other_from want (type_of_literal want l.ty l.value) h.1))
    (nearest_where (is_other_type want (type_of_literal want l.ty l.value)) l.place)
value_nearest scope want (Const name place) =
    nearest_same (λ at. (place ≡ at) × IsTrue (is_no_constant want (thing_of_word scope name.key false place)))
    (λ at. IsWrongValue scope want at (Const name place)) (value_at pick.Other scope want (Const name place))
    (λ at h. (h.0, constant_to want (thing_of_word scope name.key false place) h.1))
    (λ at h. (h.0, constant_from want (thing_of_word scope name.key false place) h.1))
    (nearest_where (is_no_constant want (thing_of_word scope name.key false place)) place)

abbrev SelectsWrong : Scope → Place → StmtTree → Type 0
SelectsWrong scope at (case_ selector choices other place) = IsWrongSelector scope at selector
SelectsWrong scope at s = ⊥

abbrev ValuesWrong : Scope → Place → StmtTree → Type 0
ValuesWrong scope at (case_ selector choices other place) =
    Any (IsWrongValue scope (want_of_selector scope selector) at) (values_of_case (case_ selector choices other place))
ValuesWrong scope at s = ⊥

selects_nearest : (scope : Scope) (t : StmtTree) → IsNearest (λ at. SelectsWrong scope at t) (selector_place scope t)
selects_nearest scope (case_ selector choices other place) =
    nearest_where (is_of_other_type is_whole_number (taken nothing (sort_of scope selector))) (first_place selector)
selects_nearest scope (assign target place value) = λ at h. h
selects_nearest scope (assign_call target place call) = λ at h. h
selects_nearest scope (if_ conditions other place) = λ at h. h
selects_nearest scope (for_ name name_place first last by body place) = λ at h. h
selects_nearest scope (while_ condition body place) = λ at h. h
selects_nearest scope (repeat_ body condition place) = λ at h. h
selects_nearest scope (exit_ place) = λ at h. h
selects_nearest scope (continue_ place) = λ at h. h
selects_nearest scope (return_ place) = λ at h. h
selects_nearest scope (call_ call) = λ at h. h
selects_nearest scope (empty_ place) = λ at h. h

values_nearest : (scope : Scope) (t : StmtTree) → IsNearest (λ at. ValuesWrong scope at t) (values_place pick.Other scope t)
values_nearest scope (case_ selector choices other place) =
    in_any (λ c at. IsWrongValue scope (want_of_selector scope selector) at c) (value_at pick.Other scope (want_of_selector scope selector))
    (value_nearest scope (want_of_selector scope selector)) (values_of_case (case_ selector choices other place))
values_nearest scope (assign target place value) = λ at h. h
values_nearest scope (assign_call target place call) = λ at h. h
values_nearest scope (if_ conditions other place) = λ at h. h
values_nearest scope (for_ name name_place first last by body place) = λ at h. h
values_nearest scope (while_ condition body place) = λ at h. h
values_nearest scope (repeat_ body condition place) = λ at h. h
values_nearest scope (exit_ place) = λ at h. h
values_nearest scope (continue_ place) = λ at h. h
values_nearest scope (return_ place) = λ at h. h
values_nearest scope (call_ call) = λ at h. h
values_nearest scope (empty_ place) = λ at h. h

chooses_to : (scope : Scope) (at : Place) (t : StmtTree) → SelectsWrong scope at t ⊎ ValuesWrong scope at t → ChoosesWrong scope at t
chooses_to scope at (case_ selector choices other place) h = h
chooses_to scope at (assign target place value) h = elim h [ inl n ↦ n | inr n ↦ n ]
chooses_to scope at (assign_call target place call) h = elim h [ inl n ↦ n | inr n ↦ n ]
chooses_to scope at (if_ conditions other place) h = elim h [ inl n ↦ n | inr n ↦ n ]
chooses_to scope at (for_ name name_place first last by body place) h = elim h [ inl n ↦ n | inr n ↦ n ]
chooses_to scope at (while_ condition body place) h = elim h [ inl n ↦ n | inr n ↦ n ]
chooses_to scope at (repeat_ body condition place) h = elim h [ inl n ↦ n | inr n ↦ n ]
chooses_to scope at (exit_ place) h = elim h [ inl n ↦ n | inr n ↦ n ]
chooses_to scope at (continue_ place) h = elim h [ inl n ↦ n | inr n ↦ n ]
chooses_to scope at (return_ place) h = elim h [ inl n ↦ n | inr n ↦ n ]
chooses_to scope at (call_ call) h = elim h [ inl n ↦ n | inr n ↦ n ]
chooses_to scope at (empty_ place) h = elim h [ inl n ↦ n | inr n ↦ n ]

chooses_from : (scope : Scope) (at : Place) (t : StmtTree) → ChoosesWrong scope at t → SelectsWrong scope at t ⊎ ValuesWrong scope at t
chooses_from scope at (case_ selector choices other place) h = h
chooses_from scope at (assign target place value) h = inl h
chooses_from scope at (assign_call target place call) h = inl h
chooses_from scope at (if_ conditions other place) h = inl h
chooses_from scope at (for_ name name_place first last by body place) h = inl h
chooses_from scope at (while_ condition body place) h = inl h
chooses_from scope at (repeat_ body condition place) h = inl h
chooses_from scope at (exit_ place) h = inl h
chooses_from scope at (continue_ place) h = inl h
chooses_from scope at (return_ place) h = inl h
chooses_from scope at (call_ call) h = inl h
chooses_from scope at (empty_ place) h = inl h

pub wrong_case : (project : ProjectTree) (x y : Option Place) → x ≡ project_place site.Selector project
    → y ≡ project_place (site.Value pick.Other) project → IsNearest (IsWrongCase project) (nearer_of x y)
wrong_case project x y is_x is_y =
    same_spots (λ scope at s. SelectsWrong scope at s.stmt ⊎ ValuesWrong scope at s.stmt) (λ scope at s. ChoosesWrong scope at s.stmt) project
    (nearer_of x y) (λ scope at s. chooses_to scope at s.stmt) (λ scope at s. chooses_from scope at s.stmt)
    (join_spots (λ scope at s. SelectsWrong scope at s.stmt) (λ scope at s. ValuesWrong scope at s.stmt) project x y
    (nearest_is (OnSpots (λ scope at s. SelectsWrong scope at s.stmt) project) x (project_place site.Selector project) is_x
    (on_spots (λ scope at s. SelectsWrong scope at s.stmt) project (project_place site.Selector project)
    (over_project site.Selector (λ scope at s. SelectsWrong scope at s.stmt) (λ scope at i. ⊥) (λ scope s. selects_nearest scope s.stmt)
    never_at project)))
    (nearest_is (OnSpots (λ scope at s. ValuesWrong scope at s.stmt) project) y (project_place (site.Value pick.Other) project) is_y
    (on_spots (λ scope at s. ValuesWrong scope at s.stmt) project (project_place (site.Value pick.Other) project)
    (over_project (site.Value pick.Other) (λ scope at s. ValuesWrong scope at s.stmt) (λ scope at i. ⊥) (λ scope s. values_nearest scope s.stmt)
    never_at project))))
