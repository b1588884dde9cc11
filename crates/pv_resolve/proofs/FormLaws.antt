-- What a node more means behind those of an expression's parts.
use Rattle.std.proofs.Common.{◌≡◌, ℕ, ◌<◌, ℤ, List, [], ◌∷◌, ◌++◌, length, map, refl, sym, subst, ◌∙◌, ap, arith, length-append}
use Rattle.std.specs.Prelude.{Option, Some, None}
use Rattle.std.proofs.Math.Path.{fun_ext}
use Rattle.pv_word.specs.declared.types.Ty.{Ty}
use Rattle.pv_place.specs.declared.place.Place.{Place}
use Rattle.pv_tree.specs.declared.expr.UnaryOp.{UnaryOp}
use Rattle.pv_tree.specs.declared.expr.UnaryOp.TheVariants.{Plus}
use Rattle.pv_tree.specs.declared.expr.BinaryOp.{BinaryOp}
use Rattle.pv_tree.specs.declared.expr.BinaryOp.TheVariants as tree
use Rattle.pv_tree.specs.declared.expr.StdFunction.{StdFunction}
use Rattle.pv_tree.specs.Tree.{ExprTree, lit, read, unary, binary, std, paren, ExprTrees, OperandTree, BlockTree}
use Rattle.pv_tree.specs.Things.{place_of_operand}
use Rattle.pv_tree.specs.Types.{Written, signed, literal_of}
use Rattle.pv_mean.specs.Sources.{Source}
use Rattle.pv_mean.specs.Frames.{Frame}
use Rattle.pv_mean.specs.Endings.{Tried, Value, got, trap, and_then}
use Rattle.pv_mean.specs.Spots.{read_spot}
use Rattle.pv_mean.specs.Activations.{Activation}
use Rattle.pv_mean.specs.Values.{value, values, locate, result_type, literal_or, unary_result, binary_result, argument, arguments_behind}
use Rattle.pv_eval.specs.declared.node.Operand.{Operand}
use Rattle.pv_eval.specs.declared.node.TwoOp.{TwoOp}
use Rattle.pv_eval.specs.declared.node.Node.{Node}
use Rattle.pv_eval.specs.declared.node.Node.TheVariants.{Constant, Read, Two}
use Rattle.pv_eval.specs.Operators.{two_result}
use Rattle.pv_eval.specs.Operands.{at, spot_at}
use Rattle.pv_eval.specs.Nodes.{node_value}
use Rattle.pv_eval.specs.Order.{most_at}
use Rattle.pv_eval.specs.Means.{Makes, Means, Names, activation}
use Rattle.pv_eval.proofs.ForCallers.{and_then-assoc, and_then-same, makes-none, makes-along, makes-then, makes-push}
use Rattle.pv_resolve.specs.Growing.{Adds, Grows}
use Rattle.pv_resolve.specs.Kinds.{two_of}
use Rattle.pv_resolve.specs.Functions.{function_value, AppliesTo, AreArguments}
use Rattle.pv_resolve.proofs.Ordered.{most_push}

-- ---- a node more, as the code adds it

pub pushed : {A : Type 0} (base old new : List Node) (f : ℕ → List ℤ → A) (l : ℕ → Frame → Tried A) (x : Node) (n : ℕ)
    (g : ℕ → Frame → A → Value) → Adds old new x n
    → ((first : ℕ) (frame : Frame) (ws : List ℤ) → length ws ≡ length old → node_value first frame ws x ≡ g first frame (f first ws))
    → Makes base old f l → Makes base new (λ first ws. at ws n) (λ first frame. and_then (l first frame) (λ a. g first frame a))
pushed base old new f l x n g adds is m =
    subst (λ ns. Makes base ns (λ first ws. at ws n) (λ first frame. and_then (l first frame) (λ a. g first frame a))) (sym adds.nodes)
    (subst (λ k. Makes base (old ++ x ∷ []) (λ first ws. at ws k) (λ first frame. and_then (l first frame) (λ a. g first frame a))) (sym adds.number)
    (makes-push base old f l x g is m))

pub added_within : (old new : List Node) (x : Node) (n : ℕ) → Adds old new x n → n < length new
added_within old new x n adds = omega (arith, adds.number, ap length adds.nodes, length-append old (x ∷ []))

pub added_grows : (old new : List Node) (x : Node) (n : ℕ) → Adds old new x n → Grows old new
added_grows old new x n adds = record {
  ordered = adds.ordered;
  longer = omega (arith, ap length adds.nodes, length-append old (x ∷ []));
  same_most = λ k m is. subst (λ ns. most_at ns k ≡ Some m) (sym adds.nodes) (most_push old x k m is);
}

pub grows_twice : (old mid new : List Node) → Grows old mid → Grows mid new → Grows old new
grows_twice old mid new g h = record {
  ordered = h.ordered;
  longer = omega (arith, g.longer, h.longer);
  same_most = λ k m is. h.same_most k m (g.same_most k m is);
}

-- something else that is the same is read off
pub makes-read : {A : Type 0} (old new : List Node) (out other : ℕ → List ℤ → A) (meaning : ℕ → Frame → Tried A)
    → ((first : ℕ) (ws : List ℤ) → out first ws ≡ other first ws) → Makes old new out meaning → Makes old new other meaning
makes-read old new out other meaning e m =
    subst (λ f. Makes old new f meaning) (fun_ext (λ first. fun_ext (λ ws. e first ws))) m

-- ---- literals

literal_where : (other : Value) (o : Option Written) (w : Written) → o ≡ Some w → literal_or o other ≡ got w.value
literal_where other None w e = cc
literal_where other (Some v) w e = let same : v ≡ w = cc in ap (λ (x : Written). let t : Value = got x.value in t) same

literal_value : (source : Source) (act : Activation) (frame : Frame) (e : ExprTree) (w : Written) → literal_of e ≡ Some w
    → value source act frame e ≡ got w.value
literal_value source act frame (lit ty v place) w h =
    let same : (record { ty = ty; value = v }) ≡ w = cc in ap (λ (x : Written). let t : Value = got x.value in t) same
literal_value source act frame (read o) w h = cc
literal_value source act frame (unary op place arg) w h = literal_where _ (signed op (literal_of arg)) w h
literal_value source act frame (binary op place left right) w h = cc
literal_value source act frame (std function place args) w h = cc
literal_value source act frame (paren place inner) w h = literal_value source act frame inner w h

-- a constant has its value, whatever stands before it
pub constant_makes : (old new : List Node) (v : ℤ) (n : ℕ) → Adds old new (Constant v) n
    → Makes old new (λ first ws. at ws n) (λ first frame. got v)
constant_makes old new v n adds =
    pushed old old new (λ first ws. v) (λ first frame. got v) (Constant v) n (λ first frame a. got a) adds (λ first frame ws h. refl)
    (makes-none old (λ first. v))

pub literal_means : (source : Source) (block : BlockTree) (old new : List Node) (n : ℕ) (e : ExprTree) (w : Written) (v : ℤ)
    → literal_of e ≡ Some w → v ≡ w.value → Adds old new (Constant v) n → Means source block old new n e
literal_means source block old new n e w v is same adds = record {
  within = added_within old new (Constant v) n adds;
  makes = makes-along old new (λ first ws. at ws n) (λ first frame. got v) (λ first frame. value source (activation block first) frame e)
      (λ first frame. ap (λ z. let t : Value = got z in t) same ∙ sym (literal_value source (activation block first) frame e w is))
      (constant_makes old new v n adds);
}

-- ---- operands

pub read_means : (source : Source) (block : BlockTree) (base old new : List Node) (o : Operand) (named : OperandTree) (place : Place) (n : ℕ)
    → place ≡ place_of_operand named → Names source block base old o named → Adds old new (Read o place) n
    → Means source block base new n (read named)
read_means source block base old new o named place n at_place names adds =
    record {
      within = added_within old new (Read o place) n adds;
      makes = makes-along base new (λ first ws. at ws n)
          (λ first frame. and_then (locate source (activation block first) frame named) (λ s. read_spot frame place s))
          (λ first frame. value source (activation block first) frame (read named))
          (λ first frame. ap (λ p. and_then (locate source (activation block first) frame named) (λ s. read_spot frame p s)) at_place)
          (pushed base old new (λ first ws. spot_at first ws o) (λ first frame. locate source (activation block first) frame named) (Read o place) n
          (λ first frame s. read_spot frame place s) adds (λ first frame ws h. refl) names.makes);
    }

pub read_means_of : (source : Source) (block : BlockTree) (base old new : List Node) (o : Operand) (e : ExprTree) (named : OperandTree)
    (place : Place) (n : ℕ) → e ≡ read named → place ≡ place_of_operand named → Names source block base old o named
    → Adds old new (Read o place) n → Means source block base new n e
read_means_of source block base old new o e named place n is at_place names adds =
    subst (Means source block base new n) (sym is) (read_means source block base old new o named place n at_place names adds)

pub paren_means : (source : Source) (block : BlockTree) (old new : List Node) (n : ℕ) (place : Place) (e inner : ExprTree)
    → e ≡ paren place inner → Means source block old new n inner → Means source block old new n e
paren_means source block old new n place e inner is m =
    subst (Means source block old new n) (sym is) (record { within = m.within; makes = m.makes })

-- ---- operators

itself : (t : Value) → and_then t (λ v. got v) ≡ t
itself (got v) = refl
itself (trap kind place) = refl

no_literal : (o : Option Written) (other : Value) → o ≡ None → literal_or o other ≡ other
no_literal None other e = refl
no_literal (Some w) other e = cc

unary_value : (source : Source) (block : BlockTree) (first : ℕ) (frame : Frame) (op : UnaryOp) (place : Place) (arg : ExprTree)
    → literal_of (unary op place arg) ≡ None → value source (activation block first) frame (unary op place arg)
    ≡ and_then (value source (activation block first) frame arg)
    (λ a. got (unary_result op (result_type (record { project = source.project; block = block }) (unary op place arg)) a))
unary_value source block first frame op place arg none = no_literal (signed op (literal_of arg)) _ none

pub plus_means : (source : Source) (block : BlockTree) (base old : List Node) (n : ℕ) (e : ExprTree) (place : Place) (arg : ExprTree)
    → e ≡ unary Plus place arg → literal_of e ≡ None → Means source block base old n arg → Means source block base old n e
plus_means source block base old n e place arg is none m =
    subst (Means source block base old n) (sym is) (record {
      within = m.within;
      makes = makes-along base old (λ first ws. at ws n) (λ first frame. value source (activation block first) frame arg)
          (λ first frame. value source (activation block first) frame (unary Plus place arg))
          (λ first frame. sym (itself (value source (activation block first) frame arg))
          ∙ sym (unary_value source block first frame Plus place arg (ap literal_of (sym is) ∙ none)))
          m.makes;
    })

one_at : (source : Source) (block : BlockTree) (base old new : List Node) (n k : ℕ) (op : UnaryOp) (x : Node) (ty : Ty) (place : Place)
    (arg : ExprTree) → literal_of (unary op place arg) ≡ None
    → ty ≡ result_type (record { project = source.project; block = block }) (unary op place arg)
    → ((first : ℕ) (frame : Frame) (ws : List ℤ) → node_value first frame ws x ≡ got (unary_result op ty (at ws n)))
    → Means source block base old n arg → Adds old new x k → Means source block base new k (unary op place arg)
one_at source block base old new n k op x ty place arg none type_is x_is m adds =
    record {
      within = added_within old new x k adds;
      makes = makes-along base new (λ first ws. at ws k)
          (λ first frame. and_then (value source (activation block first) frame arg) (λ a. got (unary_result op ty a)))
          (λ first frame. value source (activation block first) frame (unary op place arg))
          (λ first frame.
          ap (λ t. and_then (value source (activation block first) frame arg) (λ a. let v : Value = got (unary_result op t a) in v)) type_is
          ∙ sym (unary_value source block first frame op place arg none))
          (pushed base old new (λ first ws. at ws n) (λ first frame. value source (activation block first) frame arg) x k
          (λ first frame a. got (unary_result op ty a)) adds (λ first frame ws h. x_is first frame ws) m.makes);
    }

pub one_means : (source : Source) (block : BlockTree) (base old new : List Node) (n k : ℕ) (op : UnaryOp) (x : Node) (ty : Ty) (e : ExprTree)
    (place : Place) (arg : ExprTree) → ((first : ℕ) (frame : Frame) (ws : List ℤ) → node_value first frame ws x ≡ got (unary_result op ty (at ws n)))
    → e ≡ unary op place arg → literal_of e ≡ None → ty ≡ result_type (record { project = source.project; block = block }) e
    → Means source block base old n arg → Adds old new x k → Means source block base new k e
one_means source block base old new n k op x ty e place arg x_is is none type_is m adds =
    subst (Means source block base new k) (sym is)
    (one_at source block base old new n k op x ty place arg (ap literal_of (sym is) ∙ none)
    (type_is ∙ ap (result_type (record { project = source.project; block = block })) is) x_is m adds)

two_is : (op : BinaryOp) (ty : Ty) (place : Place) (a b : ℤ) → two_result (two_of op) ty place a b ≡ binary_result op ty place a b
two_is tree.Mul ty place a b = refl
two_is tree.Div ty place a b = refl
two_is tree.Mod ty place a b = refl
two_is tree.Add ty place a b = refl
two_is tree.Sub ty place a b = refl
two_is tree.Less ty place a b = refl
two_is tree.Greater ty place a b = refl
two_is tree.LessEqual ty place a b = refl
two_is tree.GreaterEqual ty place a b = refl
two_is tree.Equal ty place a b = refl
two_is tree.NotEqual ty place a b = refl
two_is tree.And ty place a b = refl
two_is tree.Xor ty place a b = refl
two_is tree.Or ty place a b = refl

-- the values of two parts, as a list
abbrev pub both : ℤ → ℤ → List ℤ
both a b = a ∷ b ∷ []

-- what is made of two parts, one behind the other
pub both_parts_then : {B : Type 0} (l r : Value) (g : ℤ → ℤ → Tried B)
    → and_then (and_then l (λ a. and_then r (λ b. got (both a b)))) (λ vs. g (argument vs) (argument (arguments_behind vs)))
    ≡ and_then l (λ a. and_then r (λ b. g a b))
both_parts_then l r g =
    and_then-assoc l (λ a. and_then r (λ b. got (both a b))) (λ vs. g (argument vs) (argument (arguments_behind vs)))
    ∙ and_then-same l (λ a. and_then (and_then r (λ b. got (both a b))) (λ vs. g (argument vs) (argument (arguments_behind vs))))
    (λ a. and_then r (λ b. g a b))
    (λ a _. and_then-assoc r (λ b. got (both a b)) (λ vs. g (argument vs) (argument (arguments_behind vs))))

-- the values of two expressions, one behind the other
abbrev pub both_values : Source → BlockTree → ExprTree → ExprTree → ℕ → Frame → Tried (List ℤ)
both_values source block left right first frame =
    and_then (value source (activation block first) frame left) (λ a. and_then (value source (activation block first) frame right)
    (λ b. got (both a b)))

two_value_is : (source : Source) (block : BlockTree) (op : BinaryOp) (ty : Ty) (place : Place) (left right : ExprTree) (first : ℕ) (frame : Frame)
    → ty ≡ result_type (record { project = source.project; block = block }) (binary op place left right)
    → and_then (both_values source block left right first frame)
    (λ vs. two_result (two_of op) ty place (argument vs) (argument (arguments_behind vs)))
    ≡ value source (activation block first) frame (binary op place left right)
two_value_is source block op ty place left right first frame type_is =
    both_parts_then (value source (activation block first) frame left) (value source (activation block first) frame right)
    (two_result (two_of op) ty place)
    ∙ and_then-same (value source (activation block first) frame left) _ _ (λ a _.
    and_then-same (value source (activation block first) frame right) _ _ (λ b _.
    two_is op ty place a b ∙ ap (λ t. binary_result op t place a b) type_is))

two_at : (source : Source) (block : BlockTree) (base mid old new : List Node) (l r k : ℕ) (op : BinaryOp) (ty : Ty) (place : Place)
    (left right : ExprTree) → ty ≡ result_type (record { project = source.project; block = block }) (binary op place left right)
    → Means source block base mid l left → Means source block mid old r right → Adds old new (Two (two_of op) ty place l r) k
    → Means source block base new k (binary op place left right)
two_at source block base mid old new l r k op ty place left right type_is m n adds = record {
  within = added_within old new (Two (two_of op) ty place l r) k adds;
  makes = makes-along base new (λ first ws. at ws k)
      (λ first frame. and_then (both_values source block left right first frame)
      (λ vs. two_result (two_of op) ty place (argument vs) (argument (arguments_behind vs))))
      (λ first frame. value source (activation block first) frame (binary op place left right))
      (λ first frame. two_value_is source block op ty place left right first frame type_is)
      (pushed base old new (λ first ws. both (at ws l) (at ws r)) (both_values source block left right) (Two (two_of op) ty place l r) k
      (λ first frame vs. two_result (two_of op) ty place (argument vs) (argument (arguments_behind vs))) adds (λ first frame ws h. refl)
      (makes-then base mid old (λ first ws. at ws l) (λ first ws. at ws r) (λ first frame. value source (activation block first) frame left)
      (λ first frame. value source (activation block first) frame right) both m.makes n.makes));
}

pub two_means : (source : Source) (block : BlockTree) (base mid old new : List Node) (l r k : ℕ) (op : BinaryOp) (code : TwoOp) (ty : Ty)
    (place : Place) (e left right : ExprTree) → code ≡ two_of op → e ≡ binary op place left right
    → ty ≡ result_type (record { project = source.project; block = block }) e → Means source block base mid l left
    → Means source block mid old r right → Adds old new (Two code ty place l r) k → Means source block base new k e
two_means source block base mid old new l r k op code ty place e left right code_is is type_is m n adds =
    subst (Means source block base new k) (sym is)
    (two_at source block base mid old new l r k op ty place left right
    (type_is ∙ ap (result_type (record { project = source.project; block = block })) is) m n
    (subst (λ c. Adds old new (Two c ty place l r) k) code_is adds))

-- ---- functions

function_at : (source : Source) (block : BlockTree) (base old new : List Node) (numbers : List ℕ) (x : Node) (k : ℕ) (function : StdFunction)
    (ty : Ty) (place : Place) (args : ExprTrees) → AppliesTo numbers x (function_value function ty)
    → ty ≡ result_type (record { project = source.project; block = block }) (std function place args)
    → AreArguments source block base old numbers args → Adds old new x k → Means source block base new k (std function place args)
function_at source block base old new numbers x k function ty place args applies type_is a adds = record {
  within = added_within old new x k adds;
  makes = makes-along base new (λ first ws. at ws k) (λ first frame. and_then (a.meaning first frame) (function_value function ty))
      (λ first frame. value source (activation block first) frame (std function place args))
      (λ first frame. a.same function ty first frame
      ∙ ap (λ t. and_then (values source (activation block first) frame args) (function_value function t)) type_is)
      (pushed base old new (λ first ws. map (at ws) numbers) a.meaning x k (λ first frame vs. function_value function ty vs) adds
      (λ first frame ws h. applies.value first frame ws) a.makes);
}

pub function_means : (source : Source) (block : BlockTree) (base old new : List Node) (numbers : List ℕ) (x : Node) (k : ℕ)
    (function : StdFunction) (ty : Ty) (place : Place) (e : ExprTree) (args : ExprTrees) → AppliesTo numbers x (function_value function ty)
    → e ≡ std function place args → ty ≡ result_type (record { project = source.project; block = block }) e
    → AreArguments source block base old numbers args → Adds old new x k → Means source block base new k e
function_means source block base old new numbers x k function ty place e args applies is type_is a adds =
    subst (Means source block base new k) (sym is)
    (function_at source block base old new numbers x k function ty place args applies
    (type_is ∙ ap (result_type (record { project = source.project; block = block })) is) a adds)
