-- The place of the first of the tokens that spell a tree is the one that the tree says.
use Rattle.std.proofs.Common.{◌≡◌, inl, inr, List, [], ◌∷◌, ◌++◌, Some, sym, ap, ◌∙◌, true, false}
use Rattle.pv_place.specs.declared.place.Place.{Place}
use Rattle.pv_types.specs.declared.name.Name.{Name}
use Rattle.pv_tree.specs.declared.expr.Root.{Root}
use Rattle.pv_tree.specs.declared.expr.Root.TheVariants.{Local, Named, Area}
use Rattle.pv_tree.specs.Tree.{ExprTree, lit, read, unary, binary, std, paren, OperandTree, operand, CallPlain, StmtTree, assign, assign_call, if_, case_, for_, while_, repeat_, exit_, continue_, return_, call_, empty_, no_arms, arms}
use Rattle.pv_tree.specs.Lexemes.{Lexeme, first_place, IsOne, IsJoined, IsAt}
use Rattle.pv_tree.specs.Words.{SpellsFirm, SpellsName}
use Rattle.pv_tree.specs.Expressions.{SpellsExpr, SpellsOperand, SpellsRoot}
use Rattle.pv_tree.specs.Calls.{SpellsCall, SpellsCalled}
use Rattle.pv_tree.specs.Statements.{SpellsStmt, SpellsEnd}
use Rattle.pv_tree.specs.Nesting.{first_of, first_of_operand, first_of_stmt}

pub first-append : (xs ys : List Lexeme) (p : Place) → first_place xs ≡ Some p → first_place (xs ++ ys) ≡ Some p
first-append [] ys p e = cc
first-append (x ∷ xs) ys p e = e

pub first-one : {P : Lexeme → Type 0} (p : Place) (ts : List Lexeme) → IsOne (IsAt P p) ts → first_place ts ≡ Some p
first-one p ts d = ap first_place d.alone ∙ ap Some d.is.at

pub first-joined : {A B : List Lexeme → Type 0} (p : Place) (ts : List Lexeme) (d : IsJoined A B ts)
    → first_place d.front ≡ Some p → first_place ts ≡ Some p
first-joined p ts d e = ap first_place d.parts ∙ first-append d.front d.back p e

pub first-firm : (name : Name) (p : Place) (ts : List Lexeme) → SpellsFirm name p ts → first_place ts ≡ Some p
first-firm name p ts (inl d) = first-one p ts d
first-firm name p ts (inr (inl d)) = first-one p ts d
first-firm name p ts (inr (inr d)) = ap first_place d.parts ∙ ap Some d.at

pub first-name : (name : Name) (p : Place) (ts : List Lexeme) → SpellsName name p ts → first_place ts ≡ Some p
first-name name p ts (inl d) = first-one p ts d
first-name name p ts (inr d) = first-firm name p ts d

pub first-root : (root : Root) (p : Place) (ts : List Lexeme) → SpellsRoot root p ts → first_place ts ≡ Some p
first-root (Local name true at) p ts d = first-joined p ts d (first-one p d.front d.in_front)
first-root (Local name false at) p ts d = first-one p ts d
first-root (Named name) p ts d = first-firm name p ts d
first-root (Area area bits byte bit) p ts d = first-one p ts d

pub first-operand : (o : OperandTree) (ts : List Lexeme) → SpellsOperand o ts → first_place ts ≡ Some (first_of_operand o)
first-operand (operand root path place) ts d = first-joined place ts d (first-root root place d.front d.in_front)

pub first-expr : (e : ExprTree) (ts : List Lexeme) → SpellsExpr e ts → first_place ts ≡ Some (first_of e)
first-expr (lit own value place) ts (inl d) = first-one place ts d
first-expr (lit own value place) ts (inr d) = first-one place ts d
first-expr (read variable) ts d = first-operand variable ts d
first-expr (unary op place arg) ts d = first-joined place ts d (first-one place d.front d.in_front)
first-expr (binary op place left right) ts d = first-joined (first_of left) ts d (first-expr left d.front d.in_front)
first-expr (std function place args) ts d = first-joined place ts d (first-one place d.front d.in_front)
first-expr (paren place inner) ts d = first-joined place ts d (first-one place d.front d.in_front)

pub first-called : (hash : _) (name : Name) (at p : Place) (ts : List Lexeme) → SpellsCalled hash name at p ts → first_place ts ≡ Some p
first-called true name at p ts d = first-joined p ts d (first-one p d.front d.in_front)
first-called false name at p ts d = first-name name at ts d.1 ∙ ap Some (sym d.0)

pub first-call : (call : CallPlain) (ts : List Lexeme) → SpellsCall call ts → first_place ts ≡ Some call.place
first-call call ts d = first-joined call.place ts d (first-called call.hash call.name call.name_place call.place d.front d.in_front)

-- a statement with its `;`
pub first-item : (s : StmtTree) (ts : List Lexeme) → IsJoined (SpellsStmt s) (SpellsEnd s) ts → first_place ts ≡ Some (first_of_stmt s)
first-item (assign target place value) ts d =
    first-joined (first_of_operand target) ts d (first-joined (first_of_operand target) d.front d.in_front
    (first-operand target d.in_front.front d.in_front.in_front))
first-item (assign_call target place call) ts d =
    first-joined (first_of_operand target) ts d (first-joined (first_of_operand target) d.front d.in_front
    (first-operand target d.in_front.front d.in_front.in_front))
first-item (if_ no_arms other place) ts d = absurd d.in_front.in_front
first-item (if_ (arms cond body others) other place) ts d =
    first-joined place ts d (first-joined place d.front d.in_front (first-joined place d.in_front.front d.in_front.in_front
    (first-one place d.in_front.in_front.front d.in_front.in_front.in_front)))
first-item (case_ selector all other place) ts d = first-joined place ts d
    (first-joined place d.front d.in_front (first-one place d.in_front.front d.in_front.in_front))
first-item (for_ var var_place first last by body place) ts d =
    first-joined place ts d (first-joined place d.front d.in_front (first-one place d.in_front.front d.in_front.in_front))
first-item (while_ cond body place) ts d = first-joined place ts d
    (first-joined place d.front d.in_front (first-one place d.in_front.front d.in_front.in_front))
first-item (repeat_ body cond place) ts d = first-joined place ts d
    (first-joined place d.front d.in_front (first-one place d.in_front.front d.in_front.in_front))
first-item (exit_ place) ts d = first-joined place ts d (first-one place d.front d.in_front)
first-item (continue_ place) ts d = first-joined place ts d (first-one place d.front d.in_front)
first-item (return_ place) ts d = first-joined place ts d (first-one place d.front d.in_front)
first-item (call_ call) ts d = first-joined call.place ts d (first-call call d.front d.in_front)
first-item (empty_ place) ts d =
    ap first_place (d.parts ∙ ap (λ f. f ++ d.back) d.in_front) ∙ first-one place d.back d.behind
