-- The walk at each form of expression: what was found in its parts, one after the other, and what it adds itself.
use Rattle.std.proofs.Common.{◌≡◌, ℕ, ◌≤◌, Bool, true, sym, ap, subst, ◌∙◌, List, [], ◌∷◌, map, length, Option}
use Rattle.std.proofs.lemmas.List.{take_all}
use Rattle.pv_place.specs.declared.place.Place.{Place}
use Rattle.pv_tree.specs.declared.expr.Expr.{Expr}
use Rattle.pv_tree.specs.declared.expr.UnaryOp.{UnaryOp}
use Rattle.pv_tree.specs.declared.expr.BinaryOp.{BinaryOp}
use Rattle.pv_tree.specs.declared.expr.StdFunction.{StdFunction}
use Rattle.pv_tree.specs.Tree.{ExprTree, ExprTrees, unary, binary, std, paren, read, OperandTree, StepTree, index}
use Rattle.pv_tree.specs.View.{expr_tree, exprs_of}
use Rattle.pv_tree.specs.LiteralTypes.{Want, nothing}
use Rattle.pv_tree.specs.Sorts.{wanted_beside, wants_of}
use Rattle.pv_tree.specs.Scopes.{Scope}
use Rattle.pv_tree.specs.Things.{Thing}
use Rattle.pv_tree.specs.Types.{literal_of, sort_of, sorts_of}
use Rattle.pv_names.specs.Literals.{written_of}
use Rattle.pv_names.specs.Sorts.{sort_tree}
use Rattle.pv_names.specs.declared.sort.Sort as code
use Rattle.pv_rules_expr.specs.Nearest.{nearer_of}
use Rattle.pv_rules_expr.specs.Looks.{first_then}
use Rattle.pv_rules_expr.specs.Near.{near_at}
use Rattle.pv_rules_expr.specs.Walks.{IsAdded, AreWritten, own_place, outside_place, within_place, unary_place, args_outside, fault_place, place_if, step_place, operand_place}
use Rattle.pv_rules_expr.specs.declared.near.Near.{Near}
use Rattle.pv_rules_expr.specs.declared.search.Look.{Look}
use Rattle.pv_rules_expr.proofs.NearerLaws.{nearer_joins}
use Rattle.pv_rules_expr.proofs.Within.{unary_within, binary_within, paren_within}
use Rattle.pv_rules_expr.proofs.Adding.{told}
use Rattle.pv_rules_expr.proofs.Along.{ArgsSoFar, args_end, args_all, are_written, index_found, std_within, read_within}

pub read_done : (scope : Scope) (e : ExprTree) (o : OperandTree) (what : Look) (a b : Option Place) → e ≡ read o
    → b ≡ nearer_of a (operand_place true scope o what) → b ≡ nearer_of a (within_place scope e what)
read_done scope e o what a b is added =
    added ∙ ap (nearer_of a) (read_within scope o what ∙ ap (λ e. within_place scope e what) (sym is))

pub paren_done : (scope : Scope) (e : ExprTree) (place : Place) (inner : ExprTree) (what : Look) (a b : Option Place) → e ≡ paren place inner
    → b ≡ nearer_of a (within_place scope inner what) → b ≡ nearer_of a (within_place scope e what)
paren_done scope e place inner what a b is added =
    added ∙ ap (nearer_of a) (paren_within scope place inner what ∙ ap (λ e. within_place scope e what) (sym is))

pub unary_done : (scope : Scope) (e : ExprTree) (op : UnaryOp) (place : Place) (arg again : ExprTree) (what : Look) (a b c : Option Place)
    → e ≡ unary op place arg → again ≡ arg
    → b ≡ nearer_of a (within_place scope again what) → c ≡ nearer_of b (unary_place scope op place arg what)
    → c ≡ nearer_of a (within_place scope e what)
unary_done scope e op place arg again what a b c is same first second =
    let own = unary_place scope op place arg what in
    second ∙ ap (λ x. nearer_of x own) (first ∙ ap (λ e. nearer_of a (within_place scope e what)) same)
    ∙ nearer_joins a (within_place scope arg what) own
    ∙ ap (nearer_of a) (unary_within scope op place arg what ∙ ap (λ e. within_place scope e what) (sym is))

pub binary_done : (scope : Scope) (e : ExprTree) (op : BinaryOp) (place : Place) (l r left right : ExprTree) (s t : code.Sort)
    (pair again : List code.Sort) (want : Want) (what : Look) (n1 n2 n3 n4 n5 n6 : Near)
    → e ≡ binary op place l r → left ≡ l → right ≡ r
    → sort_tree s ≡ sort_of scope left → sort_tree t ≡ sort_of scope right
    → map sort_tree pair ≡ sort_tree s ∷ sort_tree t ∷ [] → map sort_tree again ≡ sort_tree s ∷ sort_tree t ∷ []
    → want ≡ wanted_beside (map sort_tree pair)
    → IsAdded (within_place scope left) n1 n2 → IsAdded (within_place scope right) n2 n3
    → (written_of (sort_tree s) ≡ literal_of l → IsAdded (outside_place want l) n3 n4)
    → (written_of (sort_tree t) ≡ literal_of r → IsAdded (outside_place want r) n4 n5)
    → ((scope : Scope) (l r : ExprTree) → map sort_tree again ≡ sort_of scope l ∷ sort_of scope r ∷ [] → IsAdded (own_place scope (binary op place l r)) n5 n6)
    → near_at what n6 ≡ nearer_of (near_at what n1) (within_place scope e what)
binary_done scope e op place l r left right s t pair again want what n1 n2 n3 n4 n5 n6 is same there one other both ones wanted f g h i j =
    let ls : sort_tree s ≡ sort_of scope l = one ∙ ap (sort_of scope) same in
    let rs : sort_tree t ≡ sort_of scope r = other ∙ ap (sort_of scope) there in
    let sorts : sort_tree s ∷ sort_tree t ∷ [] ≡ sort_of scope l ∷ sort_of scope r ∷ [] =
    ap (λ x. x ∷ sort_tree t ∷ []) ls ∙ ap (λ x. sort_of scope l ∷ x ∷ []) rs in
    binary_within scope op place l r want what (near_at what n1) (near_at what n2) (near_at what n3) (near_at what n4) (near_at what n5) (near_at what n6)
    (wanted ∙ ap wanted_beside (both ∙ sorts))
    (f what ∙ ap (λ e. nearer_of (near_at what n1) (within_place scope e what)) same)
    (g what ∙ ap (λ e. nearer_of (near_at what n2) (within_place scope e what)) there)
    (h (told scope l (sort_tree s) ls) what) (i (told scope r (sort_tree t) rs) what) (j scope l r (ones ∙ sorts) what)
    ∙ ap (λ e. nearer_of (near_at what n1) (within_place scope e what)) (sym is)

pub std_done : (scope : Scope) (e : ExprTree) (f : StdFunction) (place : Place) (items args : List Expr) (parts p q r : List code.Sort) (a b : Want)
    (i : ℕ) (what : Look) (old now n m : Near)
    → e ≡ std f place (exprs_of (map expr_tree items)) → length items ≤ i → args ≡ items → p ≡ parts → q ≡ parts → r ≡ parts
    → ArgsSoFar scope items i parts old now
    → wants_of f (map sort_tree p) ≡ first_then a b (map sort_tree p)
    → (AreWritten q args → IsAdded (args_outside a b (map expr_tree args)) now n)
    → ((scope : Scope) (es : ExprTrees) → map sort_tree r ≡ sorts_of scope es → IsAdded (own_place scope (std f place es)) n m)
    → near_at what m ≡ nearer_of (near_at what old) (within_place scope e what)
std_done scope e f place items args parts p q r a b i what old now n m is all same is_p is_q is_r h wants outs owns =
    let es = exprs_of (map expr_tree items) in
    let sorts : map sort_tree parts ≡ sorts_of scope es = args_end scope items i parts old now all h in
    let written : AreWritten q args =
    subst (λ x. AreWritten x args) (sym is_q)
    (subst (λ x. AreWritten parts x) (sym same)
    (are_written scope items parts (h.sorts_are ∙ ap (map (λ e. sort_of scope (expr_tree e))) (take_all i items all)))) in
    std_within scope e f place items a b what (near_at what old) (near_at what now) (near_at what n) (near_at what m) is
    (subst (λ ss. wants_of f ss ≡ first_then a b ss) (ap (map sort_tree) is_p ∙ sorts) wants)
    (args_all scope items i parts old now what all h)
    (outs written what ∙ ap (λ l. nearer_of (near_at what now) (args_outside a b (map expr_tree l) what)) same)
    (owns scope es (ap (map sort_tree) is_r ∙ sorts) what)

pub index_done : (reads : Bool) (scope : Scope) (thing : Thing) (step : StepTree) (e one other : ExprTree) (place : Place) (s : code.Sort)
    (what : Look) (n1 n2 n3 n4 : Near) → step ≡ index e place → one ≡ e → other ≡ e
    → sort_tree s ≡ sort_of scope one → IsAdded (within_place scope one) n1 n2
    → (written_of (sort_tree s) ≡ literal_of other → IsAdded (outside_place nothing other) n2 n3)
    → ((scope : Scope) → sort_tree s ≡ sort_of scope e → IsAdded (place_if reads (fault_place scope (record { within = thing; index = e }))) n3 n4)
    → near_at what n4 ≡ nearer_of (near_at what n1) (step_place reads scope thing step what)
index_done reads scope thing step e one other place s what n1 n2 n3 n4 is same there sort first second third =
    index_found reads scope thing step e place what (near_at what n1) (near_at what n2) (near_at what n3) (near_at what n4) is
    (first what ∙ ap (λ e. nearer_of (near_at what n1) (within_place scope e what)) same)
    (second (told scope other (sort_tree s) (sort ∙ ap (sort_of scope) (same ∙ sym there))) what
    ∙ ap (λ e. nearer_of (near_at what n2) (outside_place nothing e what)) there)
    (third scope (sort ∙ ap (sort_of scope) same) what)
