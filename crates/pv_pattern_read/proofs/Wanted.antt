-- What is asked of the parts of an expression, by what is asked of it; and that an expression which says something of a scan of a
-- source that is run has a term.
use Rattle.std.proofs.Common.{◌≡◌, ℕ, zero, suc, ◌+◌, ◌<◌, ◌≤◌, List, [], ◌∷◌, length, map, get_or, Option, Some, None, IsTrue, Contains, refl, sym, ap, subst, ◌∙◌, arith}
use Rattle.std.specs.Prelude.{FitsSigned, Err, is_some}
use Rattle.std.specs.Int.{w64}
use Rattle.std.proofs.lemmas.Option.{none-some}
use Rattle.pv_place.specs.declared.place.Place.{Place}
use Rattle.pv_tree.specs.declared.expr.Expr.{Expr}
use Rattle.pv_tree.specs.declared.expr.Expr.TheViews as form
use Rattle.pv_tree.specs.declared.expr.UnaryOp.{UnaryOp}
use Rattle.pv_tree.specs.declared.expr.BinaryOp.{BinaryOp}
use Rattle.pv_tree.specs.declared.expr.StdFunction.{StdFunction}
use Rattle.pv_tree.specs.Tree.{ExprTree, lit, read, unary, binary, std, paren, ExprTrees, no_exprs, exprs, OperandTree, BlockTree}
use Rattle.pv_tree.specs.View.{expr_tree, exprs_of}
use Rattle.pv_tree.specs.LiteralTypes.{nothing}
use Rattle.pv_tree.specs.Scopes.{ProjectTree, Scope}
use Rattle.pv_tree.specs.Types.{Written, signed, literal_of}
use Rattle.pv_tree.specs.RuleLaws.{PatternsHaveTypes, PartsHaveTypes}
use Rattle.pv_tree.specs.Rules.{KeepsRules}
use Rattle.pv_tree.specs.Rules.Chains.{LeadsTo, here}
use Rattle.pv_tree.proofs.ForCallers.{binary_seen}
use Rattle.pv_names.specs.InScope.{scope_of}
use Rattle.pv_mean.specs.declared.count.TheConstants.{BEYOND}
use Rattle.pv_mean.specs.Layout.{entry_size, data_size}
use Rattle.pv_mean.specs.Sources.{Source}
use Rattle.pv_mean.specs.Scans.{entry_activation}
use Rattle.pv_mean.specs.Endings.{Tried, got}
use Rattle.pv_mean.specs.Values.{locate}
use Rattle.pv_mean.specs.Spots.{Spot}
use Rattle.pv_mean.specs.Activations.{scope_in}
use Rattle.pv_eval.specs.declared.trap.Trap.{Trap}
use Rattle.pv_eval.specs.Traps.{located}
use Rattle.pv_eval.specs.Means.{activation}
use Rattle.pv_resolve.specs.declared.context.Context.{Context}
use Rattle.pv_resolve.specs.Functions.{arity}
use Rattle.pv_resolve.specs.Rooms.{FitsWhere, HasRoom}
use Rattle.pv_laws_types.specs.Typed.{HasTable, IsAtWork}
use Rattle.pv_laws_types.proofs.ForCallers.{Shows}
use Rattle.pv_laws_room.specs.Reached.{IsRun}
use Rattle.pv_pattern.specs.declared.term.Term.{Term}
use Rattle.pv_pattern.specs.Reads.{bare}
use Rattle.pv_pattern.specs.Texts.{Says}
use Rattle.pv_pattern_read.specs.Making.{kept_two, AreTermsOf}
use Rattle.pv_pattern_read.specs.InContext.{AreTermsIn}
use Rattle.pv_pattern_read.specs.Readable.{IsReadable, args_count, HasTerm, HaveTerms, HasTermIn, HasEntered}
use Rattle.pv_pattern_read.proofs.Termed.{scope_same}
use Rattle.pv_pattern_read.proofs.Terms.{pattern_has_term}

-- ---- parts

pub at_read : (c : Context) (e : ExprTree) (o : OperandTree) → e ≡ read o → HasTermIn c e → HasTermIn c (read o)
at_read c e o is h = subst (HasTermIn c) is h

unary_part : (source : Source) (arg : ExprTree) (o : Option Written) → o ≡ None → FitsWhere o (HasTerm source arg) → HasTerm source arg
unary_part source arg None is h = h
unary_part source arg (Some w) is h = absurd (none-some w (sym is))

pub at_unary : (c : Context) (e arg : ExprTree) (op : UnaryOp) (place : Place) → e ≡ unary op place arg → None ≡ literal_of e → HasTermIn c e
    → HasTermIn c arg
at_unary c e arg op place is none h = record {
  source = h.source;
  context = h.context;
  at = h.at;
  room = h.room;
  has = unary_part h.source arg (signed op (literal_of arg)) (sym (none ∙ ap literal_of is)) (subst (HasTerm h.source) is h.has);
}

pub at_kept : (c : Context) (e left right : ExprTree) (op : BinaryOp) (place : Place) → e ≡ binary op place left right → HasTermIn c e
    → IsTrue (is_some (kept_two op))
at_kept c e left right op place is h = (subst (HasTerm h.source) is h.has).0

pub at_left : (c : Context) (e left right : ExprTree) (op : BinaryOp) (place : Place) → e ≡ binary op place left right → HasTermIn c e
    → HasTermIn c left
at_left c e left right op place is h = record {
  source = h.source;
  context = h.context;
  at = h.at;
  room = h.room;
  has = (subst (HasTerm h.source) is h.has).1.0;
}

pub at_right : (c : Context) (e left right : ExprTree) (op : BinaryOp) (place : Place) → e ≡ binary op place left right → HasTermIn c e
    → HasTermIn c right
at_right c e left right op place is h = record {
  source = h.source;
  context = h.context;
  at = h.at;
  room = h.room;
  has = (subst (HasTerm h.source) is h.has).1.1;
}

-- before the right operand is looked at
pub binary_left : (e : Expr) (op : BinaryOp) (place : Place) (left right : _) (l : Expr) → e ≡ form.Binary op place left right → l ≡ left.value
    → expr_tree e ≡ binary op place (expr_tree l) (expr_tree right.value)
binary_left e op place left right l is boxed = binary_seen e op place left right l right.value is boxed refl

arg_of : (source : Source) (items : List Expr) (i : ℕ) (x : Expr) → i < length items → x ≡ get_or items i x
    → HaveTerms source (exprs_of (map expr_tree items)) → HasTerm source (expr_tree x)
arg_of source [] i x lt is h = absurd (omega (arith, lt))
arg_of source (y ∷ ys) zero x lt is h = subst (λ z. HasTerm source (expr_tree z)) (sym is) h.0
arg_of source (y ∷ ys) (suc i) x lt is h = arg_of source ys i x (omega (arith, lt)) is h.1

pub at_arg : (c : Context) (e : ExprTree) (function : StdFunction) (place : Place) (items : List Expr) (i : ℕ) (x : Expr)
    → e ≡ std function place (exprs_of (map expr_tree items)) → i < length items → x ≡ get_or items i x → HasTermIn c e → HasTermIn c (expr_tree x)
at_arg c e function place items i x is lt item h = record {
  source = h.source;
  context = h.context;
  at = h.at;
  room = h.room;
  has = arg_of h.source items i x lt item (subst (HasTerm h.source) is h.has).1;
}

pub at_paren : (c : Context) (e inner : ExprTree) (place : Place) → e ≡ paren place inner → HasTermIn c e → HasTermIn c inner
at_paren c e inner place is h = record {
  source = h.source;
  context = h.context;
  at = h.at;
  room = h.room;
  has = subst (HasTerm h.source) is h.has;
}

-- ---- literals

where_fits : (o : Option Written) (w : Written) (rest : Type 0) → o ≡ Some w → FitsWhere o rest → FitsSigned w64 w.value
where_fits None w rest is h = absurd (none-some w is)
where_fits (Some x) w rest is h = let same : x ≡ w = cc in subst (λ (y : Written). FitsSigned w64 y.value) same h

term_fits : (source : Source) (e : ExprTree) (w : Written) → literal_of e ≡ Some w → HasTerm source e → FitsSigned w64 w.value
term_fits source (lit ty value place) w is h =
    let same : (record { ty = ty; value = value }) ≡ w = cc in subst (λ (x : Written). FitsSigned w64 x.value) same h
term_fits source (read o) w is h = absurd (none-some w is)
term_fits source (unary op place arg) w is h = where_fits (signed op (literal_of arg)) w (HasTerm source arg) is h
term_fits source (binary op place left right) w is h = absurd (none-some w is)
term_fits source (std function place args) w is h = absurd (none-some w is)
term_fits source (paren place inner) w is h = term_fits source inner w is h

pub at_literal : (c : Context) (e : ExprTree) (w : Written) → literal_of e ≡ Some w → HasTermIn c e → FitsSigned w64 w.value
at_literal c e w is h = term_fits h.source e w is h.has

-- ---- how many terms there are

same_count : (source : Source) (ts : List Term) (es : ExprTrees) → AreTermsOf source ts es → length ts ≡ args_count es
same_count source [] no_exprs h = refl
same_count source [] (exprs e es) h = absurd h
same_count source (t ∷ ts) no_exprs h = absurd h
same_count source (t ∷ ts) (exprs e es) h = ap suc (same_count source ts es h.1)

pub as_many_terms : (c : Context) (e : ExprTree) (function : StdFunction) (place : Place) (items : List Expr) (ts : List Term)
    → e ≡ std function place (exprs_of (map expr_tree items)) → (h : HasTermIn c e)
    → AreTermsOf h.source ts (exprs_of (map expr_tree items)) → length ts ≡ arity function
as_many_terms c e function place items ts is h are =
    same_count h.source ts (exprs_of (map expr_tree items)) are ∙ (subst (HasTerm h.source) is h.has).0

pub as_many_texts : (c : Context) (ts : List Term) (all : List (List ℕ)) → AreTermsIn c ts all → length ts ≡ length all
as_many_texts c [] [] h = refl
as_many_texts c [] (x ∷ all) h = absurd h
as_many_texts c (t ∷ ts) [] h = absurd h
as_many_texts c (t ∷ ts) (x ∷ all) h = ap suc (as_many_texts c ts all h.1)

-- ---- spots

same_got : {X : Type 0} (x y : X) → got x ≡ got y → x ≡ y
same_got x y e = cc

pub trap_not_got : (t : Trap) (spot : Spot) → located (Err t) ≡ got spot → ⊥
trap_not_got t spot e = cc

pub same_readable : (found spot : Spot) (at : Tried Spot) → at ≡ got spot → at ≡ got found → IsReadable spot → IsReadable found
same_readable found spot at is also h = subst IsReadable (same_got spot found (sym is ∙ also)) h

pub in_block : (c : Context) (h_source : Source) (block : BlockTree) (o : OperandTree) (spot : Spot) → block ≡ h_source.entry
    → locate h_source (entry_activation h_source) bare o ≡ got spot → locate h_source (activation block 0) bare o ≡ got spot
in_block c source block o spot is at = subst (λ (b : BlockTree). locate source (activation b 0) bare o ≡ got spot) (sym is) at

-- ---- the table

pub few_cells : (source : Source) → HasRoom source source.entry
    → BEYOND ≤ entry_size source.project source.entry + data_size source.project source.project.blocks → ⊥
few_cells source h many = let v = h.visible in omega (arith, v, many)

pub too_many : (sized project : ProjectTree) (seen entry : BlockTree) → sized ≡ project → seen ≡ entry
    → BEYOND ≤ entry_size sized seen + data_size sized sized.blocks → BEYOND ≤ entry_size project entry + data_size project project.blocks
too_many sized project seen entry same is many =
    subst (λ (b : BlockTree). BEYOND ≤ entry_size project b + data_size project project.blocks) is
    (subst (λ (p : ProjectTree). BEYOND ≤ entry_size p seen + data_size p p.blocks) same many)

-- ---- an expression that says something of a scan

pub says_term : Shows → ((project : ProjectTree) → KeepsRules project → PatternsHaveTypes project) → PartsHaveTypes
    → ((source : Source) → HasTable source → Contains source.project.blocks source.entry → IsAtWork source (entry_activation source))
    → ((source : Source) (block : BlockTree) → IsRun source → LeadsTo source.project source.entry block → HasRoom source block)
    → (c : Context) (text : List ℕ) (e : ExprTree) → HasEntered c → Says (scope_of c.scope) text e → HasTermIn c e
says_term shows typed parts entered roomy c text e h says =
    let source = h.source in
    let run = h.is.run in
    let scope : Scope = scope_in source (entry_activation source) in
    let here_says : Says scope text e = subst (λ s. Says s text e) (scope_same c source h.context h.at) says in
    let room = roomy source source.entry run here in
    record {
      source = source;
      context = h.context;
      at = h.at;
      room = room;
      has = pattern_has_term shows source room run.table run.suits (entered source run.table run.entry) h.is.valueless e here_says.keeps
          (parts scope nothing e (typed source.project run.rules source.entry e run.entry here_says.keeps))
          here_says.reads.reads.inner here_says.reads.reads.read.spelled here_says.visible;
    }
