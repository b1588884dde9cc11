-- What the code puts for each form of expression, by what it has put for its parts.
use Rattle.std.proofs.Common.{◌≡◌, ℕ, List, [], ◌++◌, append_assoc, sym, ap, subst, ◌∙◌}
use Rattle.std.specs.Prelude.{Some, None}
use Rattle.pv_word.specs.declared.types.Ty.{Ty}
use Rattle.pv_place.specs.declared.place.Place.{Place}
use Rattle.pv_tree.specs.declared.expr.BinaryOp.{BinaryOp}
use Rattle.pv_tree.specs.declared.expr.UnaryOp.{UnaryOp}
use Rattle.pv_tree.specs.declared.expr.StdFunction.{StdFunction}
use Rattle.pv_tree.specs.Tree.{ExprTree, read, unary, binary, std, paren, ExprTrees, OperandTree, BlockTree}
use Rattle.pv_tree.specs.LiteralTypes.{Want, nothing, type_of_literal}
use Rattle.pv_tree.specs.Sorts.{wants_of}
use Rattle.pv_tree.specs.Things.{place_of_operand}
use Rattle.pv_tree.specs.Types.{Written, literal_of, sorts_of}
use Rattle.pv_names.specs.Sorts.{want_tree}
use Rattle.pv_mean.specs.Sources.{Source}
use Rattle.pv_flow.specs.declared.term.Node.{Node}
use Rattle.pv_flow.specs.Terms.{Term, constant}
use Rattle.pv_terms.specs.declared.function.Given.{Given}
use Rattle.pv_terms.specs.Forms.{converted, unary_term, function_term}
use Rattle.pv_terms.specs.Pushed.{Puts}
use Rattle.pv_access.specs.declared.check.Check.{Check as CodeCheck}
use Rattle.pv_access.specs.Accesses.{Check}
use Rattle.pv_lower.specs.declared.access.Access.{Access as CodeAccess}
use Rattle.pv_lower.specs.declared.types.Meeting.{Meeting}
use Rattle.pv_lower.specs.Lowered.{Lowered, scope_of, part_type, want_beside, met_type, as_type, literal_or, around, joined, between, count_in, read_at, lowered, arguments, accessed}
use Rattle.pv_lower.specs.Lowering.{IsMeeting, Lowers, Accesses}
use Rattle.pv_lower.proofs.Behind.{lowers_say, lowers_alone, lowers_on, lowers_behind, Gives}
use Rattle.pv_lower.proofs.Literals.{literal_term, literal_lowered}

module _ (source : Source) (block : BlockTree) where
  pub of_literal : (want : Want) (e : ExprTree) (w : Written) (old new : List Node) (before : List CodeCheck) (n : ℕ) → Some w ≡ literal_of e
      → Puts old new n (constant (type_of_literal want w.ty w.value) w.value) → Lowers old new before before n (lowered source block want e)
  of_literal want e w old new before n is p =
      lowers_say old new before before n (literal_term want w) (lowered source block want e) (sym (literal_lowered source block want e w (sym is)))
      (lowers_alone old new before n (constant (type_of_literal want w.ty w.value) w.value) p)

  pub of_read : (want : Want) (e : ExprTree) (o : OperandTree) (place : Place) (code : CodeAccess) (old mid new : List Node)
      (before between after : List CodeCheck) (n : ℕ) → e ≡ read o → place ≡ place_of_operand o
      → Accesses old mid before between code (accessed source block o)
      → Lowers mid new between after n
      (read_at source block (part_type (scope_of source block) want e) (accessed source block o).access place)
      → Lowers old new before after n (lowered source block want e)
  of_read want e o place code old mid new before between after n seen at x y =
      subst (λ (t : ExprTree). Lowers old new before after n (lowered source block want t)) (sym seen)
      (lowers_behind old mid new before between after n (accessed source block o).checks
      (read_at source block (part_type (scope_of source block) want (read o)) (accessed source block o).access (place_of_operand o)) x.checks
      (lowers_say mid new between after n
      (read_at source block (part_type (scope_of source block) want e) (accessed source block o).access place) _
      (ap (λ (t : ExprTree). read_at source block (part_type (scope_of source block) want t) (accessed source block o).access place) seen
      ∙ ap (read_at source block (part_type (scope_of source block) want (read o)) (accessed source block o).access) at)
      y))

  pub of_unary : (want : Want) (e : ExprTree) (op : UnaryOp) (place : Place) (arg : ExprTree) (own : Ty) (old mid new : List Node)
      (before after : List CodeCheck) (a n : ℕ) → e ≡ unary op place arg → None ≡ literal_of e → own ≡ part_type (scope_of source block) nothing arg
      → Lowers old mid before after a (lowered source block nothing arg) → Puts mid new n (unary_term op own (lowered source block nothing arg).term)
      → Lowers old new before after n (lowered source block want e)
  of_unary want e op place arg own old mid new before after a n seen none of x p =
      subst (λ (t : ExprTree). Lowers old new before after n (lowered source block want t)) (sym seen)
      (lowers_say old new before after n (around op own (lowered source block nothing arg)) (lowered source block want (unary op place arg))
      (ap (λ (t : Ty). around op t (lowered source block nothing arg)) of
      ∙ ap (λ o. literal_or want o (around op (part_type (scope_of source block) nothing arg) (lowered source block nothing arg)))
      (none ∙ ap literal_of seen))
      (lowers_on old mid new before after n (unary_term op own (lowered source block nothing arg).term) (lowered source block nothing arg).checks
      x.checks p))

  pub of_paren : (want : Want) (e : ExprTree) (place : Place) (inner : ExprTree) (old new : List Node) (before after : List CodeCheck) (n : ℕ)
      → e ≡ paren place inner → Lowers old new before after n (lowered source block want inner)
      → Lowers old new before after n (lowered source block want e)
  of_paren want e place inner old new before after n seen x =
      subst (λ (t : ExprTree). Lowers old new before after n (lowered source block want t)) (sym seen) x

  -- two operands of which this is wanted, at the type at which they meet
  abbrev met_so : BinaryOp → Place → ExprTree → ExprTree → Want → Ty → Ty → Ty → Lowered
  met_so op place l r want ty left right =
      joined op place ty ((lowered source block want l).checks ++ (lowered source block want r).checks)
      (converted left ty (lowered source block want l).term) (converted right ty (lowered source block want r).term)

  met_is : (op : BinaryOp) (place : Place) (l r : ExprTree) (m : Meeting) → IsMeeting m (scope_of source block) l r
      → met_so op place l r (want_tree m.want) m.ty m.left m.right ≡ lowered source block nothing (binary op place l r)
  met_is op place l r m is =
      let scope = scope_of source block in
      ap (λ (w : Want). met_so op place l r w m.ty m.left m.right) is.wanted
      ∙ ap (λ (t : Ty). met_so op place l r (want_beside scope l r) t m.left m.right) is.met
      ∙ ap (λ (t : Ty). met_so op place l r (want_beside scope l r) (met_type scope l r) t m.right) is.of_left
      ∙ ap (met_so op place l r (want_beside scope l r) (met_type scope l r) (part_type scope (want_beside scope l r) l)) is.of_right

  abbrev joined_of : BinaryOp → Place → Meeting → Term → Term → Lowered
  joined_of op place m s t = joined op place m.ty [] (converted m.left m.ty s) (converted m.right m.ty t)

  pub of_binary : (want : Want) (e : ExprTree) (op : BinaryOp) (place : Place) (l r : ExprTree) (m : Meeting) (old one two new : List Node)
      (before first second after : List CodeCheck) (a b n : ℕ) → e ≡ binary op place l r → IsMeeting m (scope_of source block) l r
      → Lowers old one before first a (lowered source block (want_tree m.want) l)
      → Lowers one two first second b (lowered source block (want_tree m.want) r)
      → Lowers two new second after n
      (joined op place m.ty [] (converted m.left m.ty (lowered source block (want_tree m.want) l).term)
      (converted m.right m.ty (lowered source block (want_tree m.want) r).term))
      → Lowers old new before after n (lowered source block want e)
  of_binary want e op place l r m old one two new before first second after a b n seen is x y z =
      let lw = lowered source block (want_tree m.want) l in
      let rw = lowered source block (want_tree m.want) r in
      let j = joined_of op place m lw.term rw.term in
      subst (λ (t : ExprTree). Lowers old new before after n (lowered source block want t)) (sym seen)
      (lowers_say old new before after n (record { checks = lw.checks ++ (rw.checks ++ j.checks); term = j.term }) (lowered source block want (binary op place l r))
      (ap (λ (c : List Check). let q : Lowered = record { checks = c; term = j.term } in q) (sym (append_assoc lw.checks rw.checks j.checks))
      ∙ met_is op place l r m is)
      (lowers_behind old one new before first after n lw.checks _ x.checks
      (lowers_behind one two new first second after n rw.checks j y.checks z)))

  pub of_function : (want : Want) (e : ExprTree) (function : StdFunction) (place : Place) (args asked : ExprTrees) (ty : Ty) (given : List Given)
      (old mid new : List Node) (before after : List CodeCheck) (n : ℕ) → e ≡ std function place args
      → ty ≡ part_type (scope_of source block) want e
      → Gives old mid before after given (arguments source block (wants_of function (sorts_of (scope_of source block) args)) args)
      → asked ≡ args
      → Puts mid new n (function_term function ty (count_in asked)
      (arguments source block (wants_of function (sorts_of (scope_of source block) args)) args).terms)
      → Lowers old new before after n (lowered source block want e)
  of_function want e function place args asked ty given old mid new before after n seen of x same p =
      let all = arguments source block (wants_of function (sorts_of (scope_of source block) args)) args in
      subst (λ (t : ExprTree). Lowers old new before after n (lowered source block want t)) (sym seen)
      (lowers_say old new before after n (record { checks = all.checks; term = function_term function ty (count_in args) all.terms })
      (lowered source block want (std function place args))
      (ap (λ (t : Ty). let q : Lowered = record { checks = all.checks; term = function_term function t (count_in args) all.terms } in q)
      (of ∙ ap (part_type (scope_of source block) want) seen))
      (lowers_on old mid new before after n (function_term function ty (count_in args) all.terms) all.checks x.checks
      (subst (λ (l : ExprTrees). Puts mid new n (function_term function ty (count_in l) all.terms)) same p)))

  -- as one of another type
  pub of_type : (want : Want) (e : ExprTree) (own ty : Ty) (old mid new : List Node) (before after : List CodeCheck) (a n : ℕ)
      → own ≡ part_type (scope_of source block) want e → Lowers old mid before after a (lowered source block want e)
      → Puts mid new n (converted own ty (lowered source block want e).term)
      → Lowers old new before after n (as_type ty (scope_of source block) want e (lowered source block want e))
  of_type want e own ty old mid new before after a n of x p =
      let l = lowered source block want e in
      lowers_say old new before after n (record { checks = l.checks; term = converted own ty l.term })
      (as_type ty (scope_of source block) want e l)
      (ap (λ (t : Ty). let q : Lowered = record { checks = l.checks; term = converted t ty l.term } in q) of)
      (lowers_on old mid new before after n (converted own ty l.term) l.checks x.checks p)
