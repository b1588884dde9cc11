-- The nearest place over the operands that parts read.
use Rattle.std.proofs.Common.{◌≡◌, inl, inr, refl, sym, ap, subst, ◌∙◌, List, [], ◌∷◌, ◌++◌, map, Option, Some, None, Bool, false, true≢false, IsTrue, is_some}
use Rattle.std.specs.Prelude.{◌⊎◌, Any, option_and_then, option_to_list, unwrap_or}
use Rattle.pv_place.specs.declared.place.Place.{Place}
use Rattle.pv_tree.specs.Tree.{OperandTree, operand}
use Rattle.pv_tree.specs.Scopes.{Scope}
use Rattle.pv_tree.specs.Things.{Thing, part, constant, a_block, no_name, no_array, a_date, untold, thing_of, root_place, place_of_operand}
use Rattle.pv_tree.specs.Parts.{Part, operand_of, operands_read, reads_of_parts, path_of, thing_of_path}
use Rattle.pv_tree.specs.Rules.{BreaksInParts, missing_name, not_callable, wrong_address}
use Rattle.pv_tree.specs.Rules.Callable.{ReadsVoid, is_void_thing}
use Rattle.pv_tree.specs.Rules.Addresses.{is_wrong_operand}
use Rattle.pv_rules_expr.specs.Members.{HasSome}
use Rattle.pv_rules_expr.specs.Nearest.{is_before, IsNearest}
use Rattle.pv_rules_expr.specs.Operands.{name_at, void_at, address_at}
use Rattle.pv_rules_expr.specs.Looks.{part_place, near_parts}
use Rattle.pv_rules_expr.specs.declared.search.Look.{Look}
use Rattle.pv_rules_expr.specs.declared.search.Look.TheVariants as look
use Rattle.pv_rules_expr.proofs.Nearing.{itself, any_has, has_any}
use Rattle.pv_rules_expr.proofs.NearParts.{nearest_same, nearest_where, near_any}

-- ---- lists

pub appended_to : {X : Type 0} (Q : X → Type 0) (xs ys : List X) → HasSome Q xs ⊎ HasSome Q ys → HasSome Q (xs ++ ys)
appended_to Q [] ys (inl h) = absurd h
appended_to Q [] ys (inr h) = h
appended_to Q (x ∷ xs) ys (inl (inl q)) = inl q
appended_to Q (x ∷ xs) ys (inl (inr h)) = inr (appended_to Q xs ys (inl h))
appended_to Q (x ∷ xs) ys (inr h) = inr (appended_to Q xs ys (inr h))

pub appended_from : {X : Type 0} (Q : X → Type 0) (xs ys : List X) → HasSome Q (xs ++ ys) → HasSome Q xs ⊎ HasSome Q ys
appended_from Q [] ys h = inr h
appended_from Q (x ∷ xs) ys (inl q) = inl (inl q)
appended_from Q (x ∷ xs) ys (inr h) = elim (appended_from Q xs ys h) [ inl g ↦ inl (inr g) | inr g ↦ inr g ]

pub reads_to : (Q : OperandTree → Type 0) (ps : List Part) → HasSome (λ p. HasSome Q (operands_read p.expr)) ps → HasSome Q (reads_of_parts ps)
reads_to Q [] h = h
reads_to Q (p ∷ ps) (inl h) = appended_to Q (operands_read p.expr) (reads_of_parts ps) (inl h)
reads_to Q (p ∷ ps) (inr h) = appended_to Q (operands_read p.expr) (reads_of_parts ps) (inr (reads_to Q ps h))

pub reads_from : (Q : OperandTree → Type 0) (ps : List Part) → HasSome Q (reads_of_parts ps) → HasSome (λ p. HasSome Q (operands_read p.expr)) ps
reads_from Q [] h = h
reads_from Q (p ∷ ps) h = elim (appended_from Q (operands_read p.expr) (reads_of_parts ps) h) [ inl g ↦ inl g | inr g ↦ inr (reads_from Q ps g) ]

pub mapped_to : {X Y : Type 0} (Q : Y → Type 0) (f : X → Y) (xs : List X) → HasSome (λ x. Q (f x)) xs → HasSome Q (map f xs)
mapped_to Q f [] h = h
mapped_to Q f (x ∷ xs) (inl q) = inl q
mapped_to Q f (x ∷ xs) (inr h) = inr (mapped_to Q f xs h)

pub mapped_from : {X Y : Type 0} (Q : Y → Type 0) (f : X → Y) (xs : List X) → HasSome Q (map f xs) → HasSome (λ x. Q (f x)) xs
mapped_from Q f [] h = h
mapped_from Q f (x ∷ xs) (inl q) = inl q
mapped_from Q f (x ∷ xs) (inr h) = inr (mapped_from Q f xs h)

-- ---- operands

pub of_option : (Q : Place → OperandTree → Type 0) (f : OperandTree → Option Place) → ((o : OperandTree) → IsNearest (λ at. Q at o) (f o))
    → (x : Option OperandTree) → IsNearest (λ at. HasSome (Q at) (option_to_list x)) (option_and_then f x)
of_option Q f one None = λ at h. h
of_option Q f one (Some o) =
    nearest_same (λ at. Q at o) (λ at. Q at o ⊎ ⊥) (f o) (λ at q. inl q) (λ at e. elim e [ inl q ↦ q | inr b ↦ absurd b ]) (one o)

-- what is nearest over parts is nearest over the operands that they read
pub over_reads : (what : Look) (scope : Scope) (Q : Place → OperandTree → Type 0)
    → ((p : Part) → IsNearest (λ at. HasSome (Q at) (operands_read p.expr)) (part_place what scope p.want p.expr))
    → (ps : List Part) → IsNearest (λ at. HasSome (Q at) (reads_of_parts ps)) (near_parts what scope ps None)
over_reads what scope Q one ps =
    nearest_same (λ at. Any (λ p. HasSome (Q at) (operands_read p.expr)) ps) (λ at. HasSome (Q at) (reads_of_parts ps))
    (near_parts what scope ps None)
    (λ at a. reads_to (Q at) ps (any_has (λ p. HasSome (Q at) (operands_read p.expr)) ps a))
    (λ at h. has_any (λ p. HasSome (Q at) (operands_read p.expr)) ps (reads_from (Q at) ps h))
    (near_any what scope (λ p at. HasSome (Q at) (operands_read p.expr)) one ps)

-- ---- names that are missing

abbrev has_name : Thing → Bool
has_name t = is_some (name_at t)

no_other : (t : Thing) (at : Place) → has_name t ≡ false → t ≡ no_name at → ⊥
no_other t at isnt is = true≢false (sym (ap has_name is) ∙ isnt)

pub name_nearest : (t : Thing) → IsNearest (λ at. t ≡ no_name at) (name_at t)
name_nearest (part ty) = λ at. no_other (part ty) at refl
name_nearest (constant ty) = λ at. no_other (constant ty) at refl
name_nearest (a_block b) = λ at. no_other (a_block b) at refl
name_nearest (no_name a) = (refl, λ at h. subst (λ x. IsTrue (is_before a x)) (ap (λ t. unwrap_or (name_at t) a) h) (itself a))
name_nearest (no_array a) = λ at. no_other (no_array a) at refl
name_nearest (a_date a) = λ at. no_other (a_date a) at refl
name_nearest untold = λ at. no_other untold at refl

pub missing_nearest : (scope : Scope) (o : OperandTree)
    → IsNearest (λ at. thing_of_path scope (path_of scope o) ≡ no_name at) (name_at (thing_of scope o))
missing_nearest scope (operand root more place) = name_nearest (thing_of scope (operand root more place))

pub missing_name_parts : (scope : Scope) (ps : List Part) (o : Option Place) → o ≡ near_parts look.Missing scope ps None
    → IsNearest (BreaksInParts missing_name scope ps) o
missing_name_parts scope ps o is =
    subst (IsNearest (BreaksInParts missing_name scope ps)) (sym is)
    (nearest_same (λ at. HasSome (λ o. thing_of_path scope (path_of scope o) ≡ no_name at) (reads_of_parts ps))
    (BreaksInParts missing_name scope ps) (near_parts look.Missing scope ps None)
    (λ at h. has_any (λ p. thing_of_path scope p ≡ no_name at) (map (path_of scope) (reads_of_parts ps))
    (mapped_to (λ p. thing_of_path scope p ≡ no_name at) (path_of scope) (reads_of_parts ps) h))
    (λ at a. mapped_from (λ p. thing_of_path scope p ≡ no_name at) (path_of scope) (reads_of_parts ps)
    (any_has (λ p. thing_of_path scope p ≡ no_name at) (map (path_of scope) (reads_of_parts ps)) a))
    (over_reads look.Missing scope (λ at o. thing_of_path scope (path_of scope o) ≡ no_name at)
    (λ p. of_option (λ at o. thing_of_path scope (path_of scope o) ≡ no_name at) (λ o. name_at (thing_of scope o)) (missing_nearest scope)
    (operand_of p.expr)) ps))

-- ---- values that aren't there, and addresses

pub void_nearest : (scope : Scope) (o : OperandTree) → IsNearest (λ at. ReadsVoid scope at o) (void_at scope o)
void_nearest scope (operand root more place) =
    nearest_where (is_void_thing (thing_of scope (operand root more place))) (root_place root place)

pub not_callable_parts : (scope : Scope) (ps : List Part) (o : Option Place) → o ≡ near_parts look.Void scope ps None
    → IsNearest (BreaksInParts not_callable scope ps) o
not_callable_parts scope ps o is =
    subst (IsNearest (BreaksInParts not_callable scope ps)) (sym is)
    (nearest_same (λ at. HasSome (ReadsVoid scope at) (reads_of_parts ps)) (BreaksInParts not_callable scope ps)
    (near_parts look.Void scope ps None)
    (λ at h. has_any (ReadsVoid scope at) (reads_of_parts ps) h)
    (λ at a. any_has (ReadsVoid scope at) (reads_of_parts ps) a)
    (over_reads look.Void scope (λ at o. ReadsVoid scope at o)
    (λ p. of_option (λ at o. ReadsVoid scope at o) (void_at scope) (void_nearest scope) (operand_of p.expr)) ps))

abbrev pub IsWrongAt : Place → OperandTree → Type 0
IsWrongAt at o = (place_of_operand o ≡ at) × IsTrue (is_wrong_operand o)

pub address_nearest : (o : OperandTree) → IsNearest (λ at. IsWrongAt at o) (address_at o)
address_nearest o = nearest_where (is_wrong_operand o) (place_of_operand o)

pub wrong_address_parts : (scope : Scope) (ps : List Part) (o : Option Place) → o ≡ near_parts look.Address scope ps None
    → IsNearest (BreaksInParts wrong_address scope ps) o
wrong_address_parts scope ps o is =
    subst (IsNearest (BreaksInParts wrong_address scope ps)) (sym is)
    (nearest_same (λ at. HasSome (IsWrongAt at) (reads_of_parts ps)) (BreaksInParts wrong_address scope ps)
    (near_parts look.Address scope ps None)
    (λ at h. has_any (IsWrongAt at) (reads_of_parts ps) h)
    (λ at a. any_has (IsWrongAt at) (reads_of_parts ps) a)
    (over_reads look.Address scope IsWrongAt
    (λ p. of_option IsWrongAt address_at address_nearest (operand_of p.expr)) ps))
