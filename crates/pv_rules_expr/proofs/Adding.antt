-- What one part adds to the nearest places, thing by thing.
use Rattle.std.proofs.Common.{◌≡◌, ℕ, suc, ◌+◌, ◌<◌, sym, ap, ◌∙◌, List, [], ◌∷◌, map, drop, length, get_or, arith, Option, None, Bool, true, false, not, ◌&&◌, if◌then◌else◌, is_some}
use Rattle.std.proofs.Math.Seq.{drop-cons}
use Rattle.pv_word.specs.declared.types.Ty.{Ty}
use Rattle.pv_place.specs.declared.place.Place.{Place}
use Rattle.pv_tree.specs.declared.expr.Expr.{Expr}
use Rattle.pv_tree.specs.declared.expr.UnaryOp.{UnaryOp}
use Rattle.pv_tree.specs.declared.expr.StdFunction.{StdFunction}
use Rattle.pv_tree.specs.Tree.{ExprTree, ExprTrees, unary, std}
use Rattle.pv_tree.specs.View.{expr_tree}
use Rattle.pv_tree.specs.LiteralTypes.{Want, nothing, is_whole_number}
use Rattle.pv_tree.specs.Fits.{is_of_other_type}
use Rattle.pv_tree.specs.Sorts.{Sort, own_type, taken, wants_of, arguments_of, result_of_function, misfits}
use Rattle.pv_tree.specs.Scopes.{Scope}
use Rattle.pv_tree.specs.Things.{Thing, first_place}
use Rattle.pv_tree.specs.Types.{Written, literal_of, signed, sort_of, sorts_of, is_index_type, lies_in}
use Rattle.pv_names.specs.Literals.{written_of}
use Rattle.pv_names.specs.Sorts.{sort_tree}
use Rattle.pv_names.specs.declared.sort.Sort as code
use Rattle.pv_names.proofs.ForCallers.{literal_told, misfits_taken}
use Rattle.pv_rules_expr.specs.Nearest.{nearer_of}
use Rattle.pv_rules_expr.specs.Near.{near_at}
use Rattle.pv_rules_expr.specs.Places.{place_where}
use Rattle.pv_rules_expr.specs.Walks.{IsAdded, AreWritten, own_place, outside_place, unary_place, args_outside, fault_place}
use Rattle.pv_rules_expr.specs.declared.near.Near.{Near}
use Rattle.pv_rules_expr.specs.declared.search.Look.{Look}
use Rattle.pv_rules_expr.specs.declared.search.Look.TheVariants.{Misapplied, Outside, Missing, Void, Address, Misused, Beyond, Moving, Divides}
use Rattle.pv_rules_expr.proofs.NearerLaws.{nearer_none, nearer_joins}
use Rattle.pv_rules_expr.proofs.Within.{unfit, unary_misapplied}

abbrev pub with_misapplied : Near → Option Place → Near
with_misapplied n p = record {
  misapplied = p;
  outside = n.outside;
  missing = n.missing;
  void = n.void;
  address = n.address;
  misused = n.misused;
  beyond = n.beyond;
  moving = n.moving;
  divides = n.divides;
}

-- ---- functions

pub function_added : (n : Near) (scope : Scope) (f : StdFunction) (place : Place) (args : ExprTrees) (ss : List Sort) (ty : Option Ty) (t : Bool)
    (p : Option Place) (what : Look) → ss ≡ sorts_of scope args → ty ≡ result_of_function f (arguments_of f ss) → t ≡ misfits ty ss
    → p ≡ nearer_of n.misapplied (place_where t place)
    → near_at what (with_misapplied n p) ≡ nearer_of (near_at what n) (own_place scope (std f place args) what)
function_added n scope f place args ss ty t p Misapplied same is test added =
    added
    ∙ ap (λ t. nearer_of n.misapplied (place_where t place))
    (test ∙ ap (λ o. misfits o ss) is ∙ misfits_taken (result_of_function f (arguments_of f ss)) (wants_of f ss) ss)
    ∙ ap (λ l. nearer_of n.misapplied (place_where (misfits (result_of_function f (arguments_of f l)) (arguments_of f l)) place)) same
function_added n scope f place args ss ty t p Outside same is test added = sym (nearer_none n.outside)
function_added n scope f place args ss ty t p Missing same is test added = sym (nearer_none n.missing)
function_added n scope f place args ss ty t p Void same is test added = sym (nearer_none n.void)
function_added n scope f place args ss ty t p Address same is test added = sym (nearer_none n.address)
function_added n scope f place args ss ty t p Misused same is test added = sym (nearer_none n.misused)
function_added n scope f place args ss ty t p Beyond same is test added = sym (nearer_none n.beyond)
function_added n scope f place args ss ty t p Moving same is test added = sym (nearer_none n.moving)
function_added n scope f place args ss ty t p Divides same is test added = sym (nearer_none n.divides)

-- ---- indexes

pub faults_added : (n : Near) (scope : Scope) (thing : Thing) (e : ExprTree) (s : Sort) (place : Place) (a b c : Bool) (x y z : Option Place)
    (what : Look) → s ≡ sort_of scope e → place ≡ first_place e
    → a ≡ is_of_other_type is_whole_number (taken nothing s)
    → b ≡ (is_index_type (own_type (taken nothing s)) && not (lies_in thing s))
    → c ≡ is_some (written_of s)
    → x ≡ nearer_of n.misused (place_where a place) → y ≡ nearer_of n.beyond (place_where b place) → z ≡ nearer_of n.moving (place_where (not c) place)
    → near_at what (record {
      misapplied = n.misapplied;
      outside = n.outside;
      missing = n.missing;
      void = n.void;
      address = n.address;
      misused = x;
      beyond = y;
      moving = z;
      divides = n.divides;
    }) ≡ nearer_of (near_at what n) (fault_place scope (record { within = thing; index = e }) what)
faults_added n scope thing e s place a b c x y z Misused same here is_a is_b is_c at_x at_y at_z =
    at_x ∙ ap (λ t. nearer_of n.misused (place_where t place)) (is_a ∙ ap (λ s. is_of_other_type is_whole_number (taken nothing s)) same)
    ∙ ap (λ q. nearer_of n.misused (place_where (is_of_other_type is_whole_number (taken nothing (sort_of scope e))) q)) here
faults_added n scope thing e s place a b c x y z Beyond same here is_a is_b is_c at_x at_y at_z =
    at_y
    ∙ ap (λ t. nearer_of n.beyond (place_where t place)) (is_b ∙ ap (λ s. is_index_type (own_type (taken nothing s)) && not (lies_in thing s)) same)
    ∙ ap (λ q. nearer_of n.beyond (place_where (is_index_type (own_type (taken nothing (sort_of scope e))) && not (lies_in thing (sort_of scope e))) q)) here
faults_added n scope thing e s place a b c x y z Moving same here is_a is_b is_c at_x at_y at_z =
    at_z
    ∙ ap (λ t. nearer_of n.moving (place_where (not t) place)) (is_c ∙ ap (λ s. is_some (written_of s)) same ∙ ap is_some (sym (literal_told scope e)))
    ∙ ap (λ q. nearer_of n.moving (place_where (not (is_some (literal_of e))) q)) here
faults_added n scope thing e s place a b c x y z Misapplied same here is_a is_b is_c at_x at_y at_z = sym (nearer_none n.misapplied)
faults_added n scope thing e s place a b c x y z Outside same here is_a is_b is_c at_x at_y at_z = sym (nearer_none n.outside)
faults_added n scope thing e s place a b c x y z Missing same here is_a is_b is_c at_x at_y at_z = sym (nearer_none n.missing)
faults_added n scope thing e s place a b c x y z Void same here is_a is_b is_c at_x at_y at_z = sym (nearer_none n.void)
faults_added n scope thing e s place a b c x y z Address same here is_a is_b is_c at_x at_y at_z = sym (nearer_none n.address)
faults_added n scope thing e s place a b c x y z Divides same here is_a is_b is_c at_x at_y at_z = sym (nearer_none n.divides)

-- ---- operators before their operands

pub told : (scope : Scope) (e : ExprTree) (s : Sort) → s ≡ sort_of scope e → written_of s ≡ literal_of e
told scope e s is = ap written_of is ∙ sym (literal_told scope e)

-- whether the operator makes a literal
pub is_signed : (scope : Scope) (op : UnaryOp) (place : Place) (arg : ExprTree) (own : Sort) (t : Bool) → own ≡ sort_of scope (unary op place arg)
    → t ≡ is_some (written_of own) → is_some (signed op (literal_of arg)) ≡ t
is_signed scope op place arg own t is test = ap is_some (sym (told scope (unary op place arg) own is)) ∙ sym test

unfit_added : (n : Near) (scope : Scope) (op : UnaryOp) (place : Place) (arg : ExprTree) (s : Sort) (t : Bool) (p : Option Place) (what : Look)
    → is_some (signed op (literal_of arg)) ≡ false → s ≡ sort_of scope arg → t ≡ unfit op s → p ≡ nearer_of n.misapplied (place_where t place)
    → near_at what (with_misapplied n p) ≡ nearer_of (near_at what n) (own_place scope (unary op place arg) what)
unfit_added n scope op place arg s t p Misapplied plain same test added =
    added ∙ ap (nearer_of n.misapplied) (unary_misapplied scope op place arg s t plain same test)
unfit_added n scope op place arg s t p Outside plain same test added = sym (nearer_none n.outside)
unfit_added n scope op place arg s t p Missing plain same test added = sym (nearer_none n.missing)
unfit_added n scope op place arg s t p Void plain same test added = sym (nearer_none n.void)
unfit_added n scope op place arg s t p Address plain same test added = sym (nearer_none n.address)
unfit_added n scope op place arg s t p Misused plain same test added = sym (nearer_none n.misused)
unfit_added n scope op place arg s t p Beyond plain same test added = sym (nearer_none n.beyond)
unfit_added n scope op place arg s t p Moving plain same test added = sym (nearer_none n.moving)
unfit_added n scope op place arg s t p Divides plain same test added = sym (nearer_none n.divides)

pub unary_added : (n m : Near) (scope : Scope) (op : UnaryOp) (place : Place) (arg : ExprTree) (s : Sort) (t : Bool) (p : Option Place) (what : Look)
    → is_some (signed op (literal_of arg)) ≡ false → s ≡ sort_of scope arg → t ≡ unfit op s
    → IsAdded (outside_place nothing arg) n m → p ≡ nearer_of m.misapplied (place_where t place)
    → near_at what (with_misapplied m p) ≡ nearer_of (near_at what n) (unary_place scope op place arg what)
unary_added n m scope op place arg s t p what plain same test outs added =
    let out = outside_place nothing arg what in
    let own = own_place scope (unary op place arg) what in
    unfit_added m scope op place arg s t p what plain same test added
    ∙ ap (λ x. nearer_of x own) (outs what) ∙ nearer_joins (near_at what n) out own
    ∙ ap (λ b. nearer_of (near_at what n) (if b then None else nearer_of out own)) (sym plain)

pub literal_added : (n : Near) (scope : Scope) (op : UnaryOp) (place : Place) (arg : ExprTree) (what : Look)
    → is_some (signed op (literal_of arg)) ≡ true → near_at what n ≡ nearer_of (near_at what n) (unary_place scope op place arg what)
literal_added n scope op place arg what is =
    sym (ap (λ b. nearer_of (near_at what n) (if b then None else nearer_of (outside_place nothing arg what) (own_place scope (unary op place arg) what))) is
    ∙ nearer_none (near_at what n))

-- ---- arguments

-- those that are left, with their sorts
pub record OutsideSoFar (first others next : Want) (args : List Expr) (i : ℕ) (rest : List code.Sort) (old now : Near) : Type 0 where
  pub written : AreWritten rest (drop i args)
  pub found : (what : Look) → nearer_of (near_at what now) (args_outside next others (map expr_tree (drop i args)) what)
      ≡ nearer_of (near_at what old) (args_outside first others (map expr_tree args) what)

abbrev head : List (Option Written) → Option Written
head [] = None
head (x ∷ xs) = x

abbrev tail : List (Option Written) → List (Option Written)
tail [] = []
tail (x ∷ xs) = xs

one_less : (args : List Expr) (i j : ℕ) (e : Expr) → i < length args → e ≡ get_or args i e → j ≡ i + 1 → drop i args ≡ e ∷ drop j args
one_less args i j e inside is next =
    let k : suc i ≡ j = omega (arith, next) in
    drop-cons args i e inside ∙ ap (λ y. y ∷ drop (suc i) args) (sym is) ∙ ap (λ k. e ∷ drop k args) k

pub outside_next : (first others next : Want) (args : List Expr) (i j : ℕ) (e : Expr) (rest more : List code.Sort) (part : code.Sort) (old now new : Near)
    → i < length args → e ≡ get_or args i e → j ≡ i + 1 → rest ≡ part ∷ more
    → (written_of (sort_tree part) ≡ literal_of (expr_tree e) → IsAdded (outside_place next (expr_tree e)) now new)
    → OutsideSoFar first others next args i rest old now → OutsideSoFar first others others args j more old new
outside_next first others next args i j e rest more part old now new inside is nexts split added h =
    let less = one_less args i j e inside is nexts in
    let all : AreWritten (part ∷ more) (e ∷ drop j args) =
    ap (map (λ s. written_of (sort_tree s))) (sym split) ∙ h.written ∙ ap (map (λ e. literal_of (expr_tree e))) less in
    record {
      written = ap tail all;
      found = λ what.
          let out = outside_place next (expr_tree e) what in
          let left = args_outside others others (map expr_tree (drop j args)) what in
          ap (λ x. nearer_of x left) (added (ap head all) what) ∙ nearer_joins (near_at what now) out left
          ∙ ap (λ l. nearer_of (near_at what now) (args_outside next others (map expr_tree l) what)) (sym less)
          ∙ h.found what;
    }
