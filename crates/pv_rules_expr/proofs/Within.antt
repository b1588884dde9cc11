-- What is found in one expression, form by form, by what is found in its parts.
use Rattle.std.proofs.Common.{◌≡◌, refl, sym, ap, ◌∙◌, [], ◌∷◌, ◌++◌, Option, Some, None, Bool, true, false, not, ◌&&◌, if◌then◌else◌, true≢false, is_some}
use Rattle.std.specs.Prelude.{option_and_then}
use Rattle.pv_place.specs.declared.place.Place.{Place}
use Rattle.pv_tree.specs.declared.expr.UnaryOp.{UnaryOp}
use Rattle.pv_tree.specs.declared.expr.BinaryOp.{BinaryOp}
use Rattle.pv_tree.specs.Tree.{ExprTree, lit, read, unary, binary, std, paren}
use Rattle.pv_tree.specs.LiteralTypes.{Want, nothing}
use Rattle.pv_tree.specs.Sorts.{Sort, taken, common_type, result_of_unary, misfits, wanted_beside}
use Rattle.pv_tree.specs.Scopes.{Scope}
use Rattle.pv_tree.specs.Things.{first_place}
use Rattle.pv_tree.specs.Types.{Written, literal_of, signed, sort_of}
use Rattle.pv_tree.specs.Parts.{parts_of}
use Rattle.pv_rules_expr.specs.Nearest.{nearer_of}
use Rattle.pv_rules_expr.specs.Looks.{part_place, near_parts}
use Rattle.pv_rules_expr.specs.Places.{place_where, is_written_outside}
use Rattle.pv_rules_expr.specs.Walks.{own_place, outside_place, others, within_place, unary_place}
use Rattle.pv_rules_expr.specs.declared.search.Look.{Look}
use Rattle.pv_rules_expr.specs.declared.search.Look.TheVariants.{Misapplied, Outside, Missing, Void, Address, Misused, Beyond, Moving, Divides}
use Rattle.pv_rules_expr.proofs.NearerLaws.{nearer_none, nearer_commutes, nearer_joins, nearer_swapped, nearer_pairs, parts_from}
use Rattle.pv_rules_expr.proofs.Looking.{near_append}

-- ---- one part

part_split : (what : Look) (scope : Scope) (want : Want) (e : ExprTree)
    → part_place what scope want e ≡ nearer_of (own_place scope e what) (outside_place want e what)
part_split Outside scope want e = refl
part_split Misapplied scope want e = sym (nearer_none (part_place Misapplied scope nothing e))
part_split Missing scope want e = sym (nearer_none (part_place Missing scope nothing e))
part_split Void scope want e = sym (nearer_none (part_place Void scope nothing e))
part_split Address scope want e = sym (nearer_none (part_place Address scope nothing e))
part_split Misused scope want e = sym (nearer_none (part_place Misused scope nothing e))
part_split Beyond scope want e = sym (nearer_none (part_place Beyond scope nothing e))
part_split Moving scope want e = sym (nearer_none (part_place Moving scope nothing e))
part_split Divides scope want e = sym (nearer_none (part_place Divides scope nothing e))

inside : (want : Want) (o : Option Written) (place : Place) → is_some o ≡ false → place_where (is_written_outside want o) place ≡ None
inside want None place is = refl
inside want (Some w) place is = absurd (true≢false is)

-- what is no literal isn't outside its type
no_literal : (want : Want) (e : ExprTree) (what : Look) → is_some (literal_of e) ≡ false → outside_place want e what ≡ None
no_literal want e Outside is = inside want (literal_of e) (first_place e) is
no_literal want e Misapplied is = refl
no_literal want e Missing is = refl
no_literal want e Void is = refl
no_literal want e Address is = refl
no_literal want e Misused is = refl
no_literal want e Beyond is = refl
no_literal want e Moving is = refl
no_literal want e Divides is = refl

own_lit : (scope : Scope) (ty : _) (value : _) (place : Place) (what : Look) → own_place scope (lit ty value place) what ≡ None
own_lit scope ty value place Misapplied = refl
own_lit scope ty value place Outside = refl
own_lit scope ty value place Missing = refl
own_lit scope ty value place Void = refl
own_lit scope ty value place Address = refl
own_lit scope ty value place Misused = refl
own_lit scope ty value place Beyond = refl
own_lit scope ty value place Moving = refl
own_lit scope ty value place Divides = refl

own_paren : (scope : Scope) (place : Place) (inner : ExprTree) (what : Look) → own_place scope (paren place inner) what ≡ None
own_paren scope place inner Misapplied = refl
own_paren scope place inner Outside = refl
own_paren scope place inner Missing = refl
own_paren scope place inner Void = refl
own_paren scope place inner Address = refl
own_paren scope place inner Misused = refl
own_paren scope place inner Beyond = refl
own_paren scope place inner Moving = refl
own_paren scope place inner Divides = refl

-- an operator that makes a literal, and one that makes none
abbrev pub unfit : UnaryOp → Sort → Bool
unfit op s = misfits (option_and_then (result_of_unary op) (common_type (taken nothing s ∷ []))) (taken nothing s ∷ [])

pub unary_misapplied : (scope : Scope) (op : UnaryOp) (place : Place) (arg : ExprTree) (s : Sort) (t : Bool)
    → is_some (signed op (literal_of arg)) ≡ false → s ≡ sort_of scope arg → t ≡ unfit op s
    → place_where t place ≡ own_place scope (unary op place arg) Misapplied
unary_misapplied scope op place arg s t plain same test =
    ap (λ t. place_where t place) (test ∙ ap (unfit op) same)
    ∙ sym (ap (λ b. place_where (not b && unfit op (sort_of scope arg)) place) plain)

own_signed : (scope : Scope) (op : UnaryOp) (place : Place) (arg : ExprTree) (what : Look) → is_some (signed op (literal_of arg)) ≡ true
    → own_place scope (unary op place arg) what ≡ None
own_signed scope op place arg Misapplied is = ap (λ b. place_where (not b && unfit op (sort_of scope arg)) place) is
own_signed scope op place arg Outside is = refl
own_signed scope op place arg Missing is = refl
own_signed scope op place arg Void is = refl
own_signed scope op place arg Address is = refl
own_signed scope op place arg Misused is = refl
own_signed scope op place arg Beyond is = refl
own_signed scope op place arg Moving is = refl
own_signed scope op place arg Divides is = refl

-- ---- an expression and what is wanted of it

front : (scope : Scope) (want : Want) (e : ExprTree) → parts_of scope want e ≡ record { want = want; expr = e } ∷ others (parts_of scope want e)
front scope want (lit ty value place) = refl
front scope want (read o) = refl
front scope want (unary op place arg) = refl
front scope want (binary op place left right) = refl
front scope want (std function place args) = refl
front scope want (paren place inner) = refl

-- literals have nothing in them
signed_from : (op : UnaryOp) (o : Option Written) → is_some (signed op o) ≡ true → is_some o ≡ true
signed_from op None is = absurd (true≢false (sym is))
signed_from op (Some w) is = refl

pub literal_within : (scope : Scope) (e : ExprTree) (what : Look) → is_some (literal_of e) ≡ true → within_place scope e what ≡ None
literal_within scope (lit ty value place) what is = ap (λ x. nearer_of x None) (own_lit scope ty value place what)
literal_within scope (read o) what is = absurd (true≢false (sym is))
literal_within scope (unary op place arg) what is =
    ap (λ x. nearer_of x (near_parts what scope (others (parts_of scope nothing (unary op place arg))) None)) (own_signed scope op place arg what is)
    ∙ ap (λ b. near_parts what scope (if b then [] else parts_of scope nothing arg) None) is
literal_within scope (binary op place left right) what is = absurd (true≢false (sym is))
literal_within scope (std function place args) what is = absurd (true≢false (sym is))
literal_within scope (paren place inner) what is =
    ap (λ x. nearer_of x (near_parts what scope (others (parts_of scope nothing (paren place inner))) None)) (own_paren scope place inner what)
    ∙ ap (λ b. near_parts what scope (if b then [] else parts_of scope nothing inner) None) is

-- what lies in an expression is the same whatever is wanted of it
abbrev behind : Look → Scope → Want → ExprTree → Option Place
behind what scope want e = near_parts what scope (others (parts_of scope want e)) None

whole_by : (what : Look) (scope : Scope) (want : Want) (e : ExprTree) → behind what scope want e ≡ behind what scope nothing e
    → near_parts what scope (parts_of scope want e) None ≡ nearer_of (within_place scope e what) (outside_place want e what)
whole_by what scope want e same =
    let own = own_place scope e what in
    let out = outside_place want e what in
    ap (λ l. near_parts what scope l None) (front scope want e)
    ∙ parts_from what scope (others (parts_of scope want e)) (part_place what scope want e)
    ∙ ap (nearer_of (part_place what scope want e)) same
    ∙ ap (λ x. nearer_of x (behind what scope nothing e)) (part_split what scope want e)
    ∙ nearer_swapped own out (behind what scope nothing e)

behind_same : (what : Look) (scope : Scope) (want : Want) (e : ExprTree) → behind what scope want e ≡ behind what scope nothing e
behind_same what scope want (lit ty value place) = refl
behind_same what scope want (read o) = refl
behind_same what scope want (unary op place arg) = refl
behind_same what scope want (binary op place left right) = refl
behind_same what scope want (std function place args) = refl
behind_same what scope want (paren place inner) =
    by (is_some (literal_of inner)) refl (whole_by what scope want inner (behind_same what scope want inner))
  where
    by : (b : Bool) → is_some (literal_of inner) ≡ b
        → near_parts what scope (parts_of scope want inner) None ≡ nearer_of (within_place scope inner what) (outside_place want inner what)
        → near_parts what scope (if b then [] else parts_of scope want inner) None
        ≡ near_parts what scope (if b then [] else parts_of scope nothing inner) None
    by true is h = refl
    by false is h =
        h ∙ ap (nearer_of (within_place scope inner what)) (no_literal want inner what is ∙ sym (no_literal nothing inner what is))
        ∙ sym (whole_by what scope nothing inner refl)

pub whole_parts : (what : Look) (scope : Scope) (want : Want) (e : ExprTree)
    → near_parts what scope (parts_of scope want e) None ≡ nearer_of (within_place scope e what) (outside_place want e what)
whole_parts what scope want e = whole_by what scope want e (behind_same what scope want e)

-- the whole, behind what was found before
pub whole_added : (what : Look) (scope : Scope) (want : Want) (e : ExprTree) (a b c : Option Place)
    → b ≡ nearer_of a (within_place scope e what) → c ≡ nearer_of b (outside_place want e what)
    → c ≡ near_parts what scope (parts_of scope want e) a
whole_added what scope want e a b c first second =
    let own = within_place scope e what in
    let out = outside_place want e what in
    second ∙ ap (λ n. nearer_of n out) first ∙ nearer_joins a own out
    ∙ sym (parts_from what scope (parts_of scope want e) a ∙ ap (nearer_of a) (whole_parts what scope want e))

-- ---- form by form

pub paren_within : (scope : Scope) (place : Place) (inner : ExprTree) (what : Look)
    → within_place scope inner what ≡ within_place scope (paren place inner) what
paren_within scope place inner what =
    by (is_some (literal_of inner)) refl ∙ sym (ap (λ x. nearer_of x (behind what scope nothing (paren place inner))) (own_paren scope place inner what))
  where
    by : (b : Bool) → is_some (literal_of inner) ≡ b
        → within_place scope inner what ≡ near_parts what scope (if b then [] else parts_of scope nothing inner) None
    by true is = literal_within scope inner what is
    by false is =
        sym (nearer_none (within_place scope inner what)) ∙ sym (ap (nearer_of (within_place scope inner what)) (no_literal nothing inner what is))
        ∙ sym (whole_parts what scope nothing inner)

pub unary_within : (scope : Scope) (op : UnaryOp) (place : Place) (arg : ExprTree) (what : Look)
    → nearer_of (within_place scope arg what) (unary_place scope op place arg what) ≡ within_place scope (unary op place arg) what
unary_within scope op place arg what = by (is_some (signed op (literal_of arg))) refl
  where
    by : (b : Bool) → is_some (signed op (literal_of arg)) ≡ b
        → nearer_of (within_place scope arg what) (unary_place scope op place arg what) ≡ within_place scope (unary op place arg) what
    by true is =
        ap (λ b. nearer_of (within_place scope arg what) (if b then None else nearer_of (outside_place nothing arg what) (own_place scope (unary op place arg) what))) is
        ∙ nearer_none (within_place scope arg what) ∙ literal_within scope arg what (signed_from op (literal_of arg) is)
        ∙ sym (literal_within scope (unary op place arg) what is)
    by false is =
        ap (λ b. nearer_of (within_place scope arg what) (if b then None else nearer_of (outside_place nothing arg what) (own_place scope (unary op place arg) what))) is
        ∙ sym (nearer_joins (within_place scope arg what) (outside_place nothing arg what) (own_place scope (unary op place arg) what))
        ∙ nearer_commutes (nearer_of (within_place scope arg what) (outside_place nothing arg what)) (own_place scope (unary op place arg) what)
        ∙ ap (nearer_of (own_place scope (unary op place arg) what))
        (sym (whole_parts what scope nothing arg) ∙ sym (ap (λ b. near_parts what scope (if b then [] else parts_of scope nothing arg) None) is))

-- what is found one after the other between two operands
around : (n a b c d o : Option Place)
    → nearer_of (nearer_of (nearer_of (nearer_of (nearer_of n a) b) c) d) o
    ≡ nearer_of n (nearer_of o (nearer_of (nearer_of a c) (nearer_of b d)))
around n a b c d o =
    let both = nearer_of (nearer_of a c) (nearer_of b d) in
    ap (λ x. nearer_of x o)
    (nearer_joins (nearer_of (nearer_of n a) b) c d
    ∙ ap (λ x. nearer_of x (nearer_of c d)) (nearer_joins n a b)
    ∙ nearer_joins n (nearer_of a b) (nearer_of c d)
    ∙ ap (nearer_of n) (nearer_pairs a b c d))
    ∙ nearer_joins n both o ∙ ap (nearer_of n) (nearer_commutes both o)

pub binary_within : (scope : Scope) (op : BinaryOp) (place : Place) (l r : ExprTree) (want : Want) (what : Look) (n1 n2 n3 n4 n5 n6 : Option Place)
    → want ≡ wanted_beside (sort_of scope l ∷ sort_of scope r ∷ [])
    → n2 ≡ nearer_of n1 (within_place scope l what) → n3 ≡ nearer_of n2 (within_place scope r what)
    → n4 ≡ nearer_of n3 (outside_place want l what) → n5 ≡ nearer_of n4 (outside_place want r what)
    → n6 ≡ nearer_of n5 (own_place scope (binary op place l r) what)
    → n6 ≡ nearer_of n1 (within_place scope (binary op place l r) what)
binary_within scope op place l r want what n1 n2 n3 n4 n5 n6 wanted f g h i j =
    let a = within_place scope l what in
    let b = within_place scope r what in
    let c = outside_place want l what in
    let d = outside_place want r what in
    let o = own_place scope (binary op place l r) what in
    j ∙ ap (λ x. nearer_of x o) (i ∙ ap (λ x. nearer_of x d) (h ∙ ap (λ x. nearer_of x c) (g ∙ ap (λ x. nearer_of x b) f)))
    ∙ around n1 a b c d o
    ∙ ap (λ x. nearer_of n1 (nearer_of o x))
    (ap (λ x. nearer_of x (nearer_of b d)) (sym (whole_parts what scope want l))
    ∙ ap (nearer_of (near_parts what scope (parts_of scope want l) None)) (sym (whole_parts what scope want r))
    ∙ sym (parts_from what scope (parts_of scope want r) (near_parts what scope (parts_of scope want l) None))
    ∙ sym (near_append what scope (parts_of scope want l) (parts_of scope want r) None)
    ∙ ap (λ w. near_parts what scope (parts_of scope w l ++ parts_of scope w r) None) wanted)
