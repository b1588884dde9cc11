-- What holds of the places of tokens holds of each place that the tree keeps which they spell: expressions, calls and statements.
use Prim.Native.String.{String}
use Rattle.std.proofs.Common.{◌≡◌, inl, inr, ℕ, List, [], ◌∷◌, Option, Some, None, true, false, refl, sym, ap, subst}
use Rattle.std.specs.Prelude.{unwrap_or, drop, if◌then◌else◌, Bool as Truth}
use Rattle.std.specs.List.{AllByRecursion}
use Rattle.std.proofs.lemmas.Option.{none-some}
use Rattle.pv_place.specs.declared.place.Place.{Place}
use Rattle.pv_lex.specs.declared.class.Class.TheVariants.{Either}
use Rattle.pv_lex.specs.Shapes.{begins}
use Rattle.pv_types.specs.declared.name.Name.{Name}
use Rattle.pv_types.specs.declared.declaration.Literal.{Literal}
use Rattle.pv_tree.specs.declared.expr.Root.{Root}
use Rattle.pv_tree.specs.declared.expr.Root.TheVariants.{Local, Named, Area}
use Rattle.pv_tree.specs.declared.stmt.Choice.{Choice}
use Rattle.pv_tree.specs.declared.stmt.Choice.TheVariants.{Lit, Const}
use Rattle.pv_tree.specs.Tree.{PlacedName, ExprTree, lit, read, unary, binary, std, paren, ExprTrees, no_exprs, exprs, OperandTree, operand, StepTree, field, index, StepTrees, no_steps, steps, ArgTree, CallPlain, Choices, StmtTree, assign, assign_call, if_, case_, for_, while_, repeat_, exit_, continue_, return_, call_, empty_, StmtTrees, no_stmts, stmts, ArmTrees, no_arms, arms, BranchTrees, no_branches, branches, ElseTree, no_else, else_}
use Rattle.pv_tree.specs.Lexemes.{Lexeme, Form, first_place, IsAt, IsOne, IsJoined, each_behind, listed}
use Rattle.pv_tree.specs.Words.{SpellsFirm, SpellsName}
use Rattle.pv_tree.specs.Literals.{SpellsNumber, SpellsLiteral, bare_address, address_bits}
use Rattle.pv_tree.specs.Expressions.{SpellsRoot, SpellsExpr, SpellsArguments, SpellsOperand, SpellsSteps, SpellsStep}
use Rattle.pv_tree.specs.Calls.{SpellsArrow, SpellsNamed, SpellsArg, SpellsArgs, SpellsCalled, SpellsBase, SpellsCall}
use Rattle.pv_tree.specs.Statements.{SpellsChoice, SpellsUpTo, SpellsRange, SpellsBy, SpellsStmt, SpellsEnd, SpellsStmts, SpellsArmWord, SpellsArms, SpellsBranches, SpellsElse}
use Rattle.pv_laws_places.specs.Kept.{IsWidth, EachOfName, EachOfLiteral, EachOfRoot, EachOfExpr, EachOfExprs, EachOfOperand, EachOfSteps, EachOfStep, EachOfArg, EachOfCall, EachOfChoice, EachOfUpper, EachOfRange, EachOfChoices, EachOfStmt, EachOfStmts, EachOfArms, EachOfBranches, EachOfElse}
use Rattle.pv_laws_places.proofs.Lists.{each-front, each-behind}

-- the place of each token is so
abbrev pub Stand : (Place → Type 0) → List Lexeme → Type 0
Stand P ts = AllByRecursion (λ t. P t.place) ts

-- ---- forms

pub front : {A B : List Lexeme → Type 0} (P : Place → Type 0) (ts : List Lexeme) (d : IsJoined A B ts) → Stand P ts → Stand P d.front
front P ts d s = each-front (λ t. P t.place) d.front d.back (subst (Stand P) d.parts s)

pub back : {A B : List Lexeme → Type 0} (P : Place → Type 0) (ts : List Lexeme) (d : IsJoined A B ts) → Stand P ts → Stand P d.back
back P ts d s = each-behind (λ t. P t.place) d.front d.back (subst (Stand P) d.parts s)

pub at-one : {Q : Lexeme → Type 0} (P : Place → Type 0) (place : Place) (ts : List Lexeme) (d : IsOne (IsAt Q place) ts) → Stand P ts → P place
at-one P place ts d s = subst P d.is.at (subst (Stand P) d.alone s).0

pub at-first : (P : Place → Type 0) (place : Place) (ts : List Lexeme) → first_place ts ≡ Some place → Stand P ts → P place
at-first P place [] e s = absurd (none-some place e)
at-first P place (t ∷ ts) e s = subst P (ap (λ o. unwrap_or o place) e) s.0

-- ---- names and literals

pub at-firm : (P : Place → Type 0) (name : Name) (place : Place) (ts : List Lexeme) → SpellsFirm name place ts → Stand P ts → P place
at-firm P name place ts (inl d) s = at-one P place ts d s
at-firm P name place ts (inr (inl d)) s = at-one P place ts d s
at-firm P name place ts (inr (inr d)) s = subst P d.at (subst (Stand P) d.parts s).0

pub at-name : (P : Place → Type 0) (name : Name) (place : Place) (ts : List Lexeme) → SpellsName name place ts → Stand P ts → P place
at-name P name place ts (inl d) s = at-one P place ts d s
at-name P name place ts (inr d) s = at-firm P name place ts d s

pub at-number : (type_of : _) (P : Place → Type 0) (l : Literal) (ts : List Lexeme) → SpellsNumber type_of l ts → Stand P ts → P l.place
at-number type_of P l ts (inl d) s = at-one P l.place ts d s
at-number type_of P l ts (inr d) s = at-one P l.place d.front d.in_front (front P ts d s)

pub at-literal : (P : Place → Type 0) (l : Literal) (ts : List Lexeme) → SpellsLiteral l ts → Stand P ts → P l.place
at-literal P l ts (inl d) s = at-number _ P l ts d s
at-literal P l ts (inr d) s = at-one P l.place ts d s

-- ---- expressions

-- the letter behind an area's says how wide an address is
address-width : (text : List ℕ) → IsWidth (address_bits text)
address-width text = lead (begins (Either 66 98) (drop 1 text)) (begins (Either 87 119) (drop 1 text)) (begins (Either 68 100) (drop 1 text))
  where
    lead : (b w d : Truth) → IsWidth (if b then 8 else (if w then 16 else (if d then 32 else 1)))
    lead true w d = inr (inl refl)
    lead false true d = inr (inr (inl refl))
    lead false false true = inr (inr (inr refl))
    lead false false false = inl refl

root-first : (P : Place → Type 0) (root : Root) (place : Place) (ts : List Lexeme) → SpellsRoot root place ts → Stand P ts
    → P place × EachOfRoot P root
root-first P (Local name true at) place ts d s =
    (at-one P place d.front d.in_front (front P ts d s), at-one P at d.back d.behind (back P ts d s))
root-first P (Local name false at) place ts d s =
    (at-one P place ts d s, subst P d.is.is.at (subst (Stand P) d.alone s).0)
root-first P (Named name) place ts d s = (at-firm P name place ts d s, tt)
root-first P (Area area bits byte bit) place ts d s =
    (at-one P place ts d s, subst IsWidth (sym d.is.is.of_bits) (address-width (bare_address d.token.bytes)))

mutual
  pub each-expr : (P : Place → Type 0) (e : ExprTree) (ts : List Lexeme) → SpellsExpr e ts → Stand P ts → EachOfExpr P e
  each-expr P (lit own value place) ts (inl d) s = at-one P place ts d s
  each-expr P (lit own value place) ts (inr d) s = at-one P place ts d s
  each-expr P (read variable) ts d s = each-operand P variable ts d s
  each-expr P (unary op place arg) ts d s =
      (at-one P place d.front d.in_front (front P ts d s), each-expr P arg d.back d.behind (back P ts d s))
  each-expr P (binary op place left right) ts d s =
      let b = back P ts d s in (
        at-one P place d.behind.front d.behind.in_front (front P d.back d.behind b),
        (
          each-expr P left d.front d.in_front (front P ts d s),
          each-expr P right d.behind.back d.behind.behind (back P d.back d.behind b),
        ),
      )
  each-expr P (std function place args) ts d s =
      let b = back P d.back d.behind (back P ts d s) in (
        at-one P place d.front d.in_front (front P ts d s),
        each-exprs P true _ args d.behind.behind.front d.behind.behind.in_front (front P d.behind.back d.behind.behind b),
      )
  each-expr P (paren place inner) ts d s = (
    at-one P place d.front d.in_front (front P ts d s),
    each-expr P inner d.behind.front d.behind.in_front (front P d.back d.behind (back P ts d s)),
  )

  pub each-exprs : (P : Place → Type 0) (first : Truth) (parameters : List (Option String)) (args : ExprTrees) (ts : List Lexeme)
      → SpellsArguments first parameters args ts → Stand P ts → EachOfExprs P args
  each-exprs P first [] no_exprs ts d s = tt
  each-exprs P first [] (exprs arg args) ts d s = absurd d
  each-exprs P first (parameter ∷ parameters) no_exprs ts d s = absurd d
  each-exprs P first (parameter ∷ parameters) (exprs arg args) ts d s =
      let b = back P d.back d.behind (back P ts d s) in (
        each-expr P arg d.behind.behind.front d.behind.behind.in_front (front P d.behind.back d.behind.behind b),
        each-exprs P false parameters args d.behind.behind.back d.behind.behind.behind (back P d.behind.back d.behind.behind b),
      )

  pub each-operand : (P : Place → Type 0) (o : OperandTree) (ts : List Lexeme) → SpellsOperand o ts → Stand P ts → EachOfOperand P o
  each-operand P (operand root path place) ts d s =
      let r = root-first P root place d.front d.in_front (front P ts d s) in
      (r.0, (r.1, each-steps P path d.back d.behind (back P ts d s)))

  pub each-steps : (P : Place → Type 0) (path : StepTrees) (ts : List Lexeme) → SpellsSteps path ts → Stand P ts → EachOfSteps P path
  each-steps P no_steps ts d s = tt
  each-steps P (steps step others) ts d s =
      (each-step P step d.front d.in_front (front P ts d s), each-steps P others d.back d.behind (back P ts d s))

  each-step : (P : Place → Type 0) (step : StepTree) (ts : List Lexeme) → SpellsStep step ts → Stand P ts → EachOfStep P step
  each-step P (field name place) ts d s = at-one P place d.back d.behind (back P ts d s)
  each-step P (index at place) ts d s = (
    at-one P place d.front d.in_front (front P ts d s),
    each-expr P at d.behind.front d.behind.in_front (front P d.back d.behind (back P ts d s)),
  )

-- ---- calls

at-arrow : (P : Place → Type 0) (place : Place) (ts : List Lexeme) → SpellsArrow place ts → Stand P ts → P place
at-arrow P place ts (inl d) s = at-one P place ts d s
at-arrow P place ts (inr d) s = at-one P place ts d s

named-arg : (P : Place → Type 0) (arg : ArgTree) (name : Option PlacedName) (ts : List Lexeme) → SpellsNamed arg name ts → Stand P ts
    → EachOfName P name × (EachOfExpr P arg.value × P arg.place)
named-arg P arg None ts d s = absurd d
named-arg P arg (Some word) ts d s =
    let b = back P ts d s in (
      at-one P word.1 d.front d.in_front (front P ts d s),
      (
        each-expr P arg.value d.behind.back d.behind.behind (back P d.back d.behind b),
        at-arrow P arg.place d.behind.front d.behind.in_front (front P d.back d.behind b),
      ),
    )

pub each-arg : (P : Place → Type 0) (arg : ArgTree) (ts : List Lexeme) → SpellsArg arg ts → Stand P ts → EachOfArg P arg
each-arg P arg ts d s =
    let n = named-arg P arg arg.name ts d s in
    record { its_word = n.0; its_value = n.1.0; its_own = n.1.1 }

arg-list : (P : Place → Type 0) (args : List ArgTree) (ts : List Lexeme) → each_behind SpellsArg args ts → Stand P ts
    → AllByRecursion (EachOfArg P) args
arg-list P [] ts d s = tt
arg-list P (arg ∷ args) ts d s =
    let b = back P ts d s in (
      each-arg P arg d.behind.front d.behind.in_front (front P d.back d.behind b),
      arg-list P args d.behind.back d.behind.behind (back P d.back d.behind b),
    )

pub listed-args : (P : Place → Type 0) (arg : ArgTree) (args : List ArgTree) (ts : List Lexeme) → listed SpellsArg (arg ∷ args) ts → Stand P ts
    → AllByRecursion (EachOfArg P) (arg ∷ args)
listed-args P arg args ts d s =
    (each-arg P arg d.front d.in_front (front P ts d s), arg-list P args d.back d.behind (back P ts d s))

pub call-args : (P : Place → Type 0) (args : List ArgTree) (ts : List Lexeme) → SpellsArgs args ts → Stand P ts
    → AllByRecursion (EachOfArg P) args
call-args P [] ts d s = tt
call-args P (arg ∷ []) ts (inl d) s = (
  record {
    its_word = subst (EachOfName P) (sym d.unnamed) tt;
    its_value = each-expr P arg.value ts d.value s;
    its_own = at-first P arg.place ts d.at s;
  },
  tt,
)
call-args P (arg ∷ []) ts (inr d) s = (each-arg P arg ts d s, tt)
call-args P (arg ∷ next ∷ args) ts d s = listed-args P arg (next ∷ args) ts d s

pub at-base : (before : Form) (P : Place → Type 0) (base : Option PlacedName) (ts : List Lexeme) → SpellsBase before base ts → Stand P ts
    → EachOfName P base
at-base before P None ts d s = tt
at-base before P (Some base) ts d s = at-name P base.0 base.1 d.back d.behind (back P ts d s)

at-called : (P : Place → Type 0) (hash : Truth) (name : Name) (at place : Place) (ts : List Lexeme) → SpellsCalled hash name at place ts
    → Stand P ts → P at × P place
at-called P true name at place ts d s =
    (at-name P name at d.back d.behind (back P ts d s), at-one P place d.front d.in_front (front P ts d s))
at-called P false name at place ts d s =
    let p = at-name P name at ts d.1 s in
    (p, subst P (sym d.0) p)

pub each-call : (P : Place → Type 0) (call : CallPlain) (ts : List Lexeme) → SpellsCall call ts → Stand P ts → EachOfCall P call
each-call P call ts d s =
    let c = at-called P call.hash call.name call.name_place call.place d.front d.in_front (front P ts d s) in
    let b = back P ts d s in
    let a = back P d.behind.back d.behind.behind (back P d.back d.behind b) in
    record {
      its_name = c.0;
      its_base = at-base _ P call.base d.behind.front d.behind.in_front (front P d.back d.behind b);
      its_args = call-args P call.args d.behind.behind.behind.front d.behind.behind.behind.in_front
          (front P d.behind.behind.back d.behind.behind.behind a);
      its_own = c.1;
    }

-- ---- statements

each-choice : (P : Place → Type 0) (c : Choice) (ts : List Lexeme) → SpellsChoice c ts → Stand P ts → EachOfChoice P c
each-choice P (Lit literal) ts d s = at-literal P literal ts d s
each-choice P (Const name place) ts d s = at-one P place ts d s

each-upper : (P : Place → Type 0) (c : Option Choice) (ts : List Lexeme) → SpellsUpTo c ts → Stand P ts → EachOfUpper P c
each-upper P None ts d s = tt
each-upper P (Some upper) ts d s = each-choice P upper d.back d.behind (back P ts d s)

each-range : (P : Place → Type 0) (r : Choice × Option Choice) (ts : List Lexeme) → SpellsRange r ts → Stand P ts → EachOfRange P r
each-range P r ts d s =
    (each-choice P r.0 d.front d.in_front (front P ts d s), each-upper P r.1 d.back d.behind (back P ts d s))

ranges-behind : (P : Place → Type 0) (rs : Choices) (ts : List Lexeme) → each_behind SpellsRange rs ts → Stand P ts → EachOfChoices P rs
ranges-behind P [] ts d s = tt
ranges-behind P (r ∷ rs) ts d s =
    let b = back P ts d s in (
      each-range P r d.behind.front d.behind.in_front (front P d.back d.behind b),
      ranges-behind P rs d.behind.back d.behind.behind (back P d.back d.behind b),
    )

each-choices : (P : Place → Type 0) (rs : Choices) (ts : List Lexeme) → listed SpellsRange rs ts → Stand P ts → EachOfChoices P rs
each-choices P [] ts d s = absurd d
each-choices P (r ∷ rs) ts d s =
    (each-range P r d.front d.in_front (front P ts d s), ranges-behind P rs d.back d.behind (back P ts d s))

at-by : (P : Place → Type 0) (by : Option Literal) (ts : List Lexeme) → SpellsBy by ts → Stand P ts → EachOfLiteral P by
at-by P None ts d s = tt
at-by P (Some step) ts d s = at-literal P step d.back d.behind (back P ts d s)

-- the place of IF before the first condition
abbrev IfPlace : (Place → Type 0) → Option Place → Type 0
IfPlace P None = Unit {0}
IfPlace P (Some place) = P place

at-arm : (P : Place → Type 0) (at : Option Place) (ts : List Lexeme) → SpellsArmWord at ts → Stand P ts → IfPlace P at
at-arm P None ts d s = tt
at-arm P (Some place) ts d s = at-one P place ts d s

mutual
  -- a statement with its `;`, which is all that an empty one has
  each-stmt : (P : Place → Type 0) (stmt : StmtTree) (ts ends : List Lexeme) → SpellsStmt stmt ts → SpellsEnd stmt ends → Stand P ts
      → Stand P ends → EachOfStmt P stmt
  each-stmt P (assign target place value) ts ends d e s t =
      let b = back P ts d s in (
        at-one P place d.behind.front d.behind.in_front (front P d.back d.behind b),
        (
          each-operand P target d.front d.in_front (front P ts d s),
          each-expr P value d.behind.back d.behind.behind (back P d.back d.behind b),
        ),
      )
  each-stmt P (assign_call target place call) ts ends d e s t =
      let b = back P ts d s in (
        at-one P place d.behind.front d.behind.in_front (front P d.back d.behind b),
        (
          each-operand P target d.front d.in_front (front P ts d s),
          each-call P call d.behind.back d.behind.behind (back P d.back d.behind b),
        ),
      )
  each-stmt P (if_ first other place) ts ends d e s t =
      let a = each-arms P (Some place) first d.front d.in_front (front P ts d s) in
      (a.0, (a.1, each-else P false other d.behind.front d.behind.in_front (front P d.back d.behind (back P ts d s))))
  each-stmt P (case_ selector all other place) ts ends d e s t =
      let b = back P ts d s in
      let f = d.behind.behind.behind in
      let c = back P d.behind.back d.behind.behind (back P d.back d.behind b) in (
        at-one P place d.front d.in_front (front P ts d s),
        (
          each-expr P selector d.behind.front d.behind.in_front (front P d.back d.behind b),
          (
            each-branches P all f.front f.in_front (front P d.behind.behind.back f c),
            each-else P true other f.behind.front f.behind.in_front (front P f.back f.behind (back P d.behind.behind.back f c)),
          ),
        ),
      )
  each-stmt P (for_ var var_place first last by body place) ts ends d e s t =
      let b = back P ts d s in
      let f = d.behind.behind.behind in
      let l = f.behind.behind in
      let y = l.behind in
      let c = back P d.behind.back d.behind.behind (back P d.back d.behind b) in
      let g = back P f.back f.behind (back P d.behind.behind.back f c) in
      let h = back P f.behind.back l g in
      let i = back P y.back y.behind (back P l.back y h) in (
        at-one P place d.front d.in_front (front P ts d s),
        (
          at-one P var_place d.behind.front d.behind.in_front (front P d.back d.behind b),
          (
            each-expr P first f.front f.in_front (front P d.behind.behind.back f c),
            (
              each-expr P last l.front l.in_front (front P f.behind.back l g),
              (
                at-by P by y.front y.in_front (front P l.back y h),
                each-stmts P body y.behind.behind.front y.behind.behind.in_front (front P y.behind.back y.behind.behind i),
              ),
            ),
          ),
        ),
      )
  each-stmt P (while_ cond body place) ts ends d e s t =
      let b = back P ts d s in
      let f = d.behind.behind.behind in
      let c = back P d.behind.back d.behind.behind (back P d.back d.behind b) in (
        at-one P place d.front d.in_front (front P ts d s),
        (
          each-expr P cond d.behind.front d.behind.in_front (front P d.back d.behind b),
          each-stmts P body f.front f.in_front (front P d.behind.behind.back f c),
        ),
      )
  each-stmt P (repeat_ body cond place) ts ends d e s t =
      let b = back P ts d s in
      let f = d.behind.behind.behind in
      let c = back P d.behind.back d.behind.behind (back P d.back d.behind b) in (
        at-one P place d.front d.in_front (front P ts d s),
        (
          each-stmts P body d.behind.front d.behind.in_front (front P d.back d.behind b),
          each-expr P cond f.front f.in_front (front P d.behind.behind.back f c),
        ),
      )
  each-stmt P (exit_ place) ts ends d e s t = at-one P place ts d s
  each-stmt P (continue_ place) ts ends d e s t = at-one P place ts d s
  each-stmt P (return_ place) ts ends d e s t = at-one P place ts d s
  each-stmt P (call_ call) ts ends d e s t = each-call P call ts d s
  each-stmt P (empty_ place) ts ends d e s t = at-one P place ends e t

  pub each-stmts : (P : Place → Type 0) (list : StmtTrees) (ts : List Lexeme) → SpellsStmts list ts → Stand P ts → EachOfStmts P list
  each-stmts P no_stmts ts d s = tt
  each-stmts P (stmts stmt others) ts d s =
      let b = back P ts d s in (
        each-stmt P stmt d.front d.behind.front d.in_front d.behind.in_front (front P ts d s) (front P d.back d.behind b),
        each-stmts P others d.behind.back d.behind.behind (back P d.back d.behind b),
      )

  each-arms : (P : Place → Type 0) (at : Option Place) (list : ArmTrees) (ts : List Lexeme) → SpellsArms at list ts → Stand P ts
      → IfPlace P at × EachOfArms P list
  each-arms P None no_arms ts d s = (tt, tt)
  each-arms P (Some place) no_arms ts d s = absurd d
  each-arms P at (arms cond body others) ts d s =
      let b = back P ts d s in
      let f = d.behind.behind.behind in
      let c = back P d.behind.back d.behind.behind (back P d.back d.behind b) in (
        at-arm P at d.front d.in_front (front P ts d s),
        (
          each-expr P cond d.behind.front d.behind.in_front (front P d.back d.behind b),
          (
            each-stmts P body f.front f.in_front (front P d.behind.behind.back f c),
            (each-arms P None others f.back f.behind (back P d.behind.behind.back f c)).1,
          ),
        ),
      )

  each-branches : (P : Place → Type 0) (list : BranchTrees) (ts : List Lexeme) → SpellsBranches list ts → Stand P ts → EachOfBranches P list
  each-branches P no_branches ts d s = tt
  each-branches P (branches choices body others) ts d s =
      let f = d.behind.behind in
      let c = back P d.back d.behind (back P ts d s) in (
        each-choices P choices d.front d.in_front (front P ts d s),
        (
          each-stmts P body f.front f.in_front (front P d.behind.back f c),
          each-branches P others f.back f.behind (back P d.behind.back f c),
        ),
      )

  each-else : (P : Place → Type 0) (colon : Truth) (other : ElseTree) (ts : List Lexeme) → SpellsElse colon other ts → Stand P ts
      → EachOfElse P other
  each-else P colon no_else ts d s = tt
  each-else P colon (else_ body) ts d s = each-stmts P body d.back d.behind (back P ts d s)
