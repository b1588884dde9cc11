-- The parts of a tree begin at its tokens, in their order.
use Rattle.std.proofs.Common.{◌≡◌, inl, inr, ℕ, suc, List, [], ◌∷◌, ◌++◌, Option, Some, None, refl, sym, ap, ◌∙◌, subst, true, false, append-nil, append_assoc}
use Rattle.std.specs.Prelude.{unwrap_or}
use Rattle.std.proofs.lemmas.Option.{none-some}
use Rattle.pv_place.specs.declared.place.Place.{Place}
use Rattle.pv_tree.specs.Tree.{PlacedName, ExprTree, lit, read, unary, binary, std, paren, ExprTrees, no_exprs, exprs, OperandTree, operand, StepTree, field, index, StepTrees, no_steps, steps, ArgTree, CallPlain, StmtTree, assign, assign_call, if_, case_, for_, while_, repeat_, exit_, continue_, return_, call_, empty_, StmtTrees, no_stmts, stmts, ArmTrees, no_arms, arms, BranchTrees, no_branches, branches, ElseTree, no_else, else_}
use Rattle.pv_tree.specs.Lexemes.{Lexeme, first_place, IsJoined}
use Rattle.pv_tree.specs.Expressions.{SpellsExpr, SpellsArguments, SpellsOperand, SpellsSteps, SpellsStep}
use Rattle.pv_tree.specs.Lexemes.{each_behind, listed}
use Rattle.pv_tree.specs.Calls.{SpellsNamed, SpellsArg, SpellsArgs, SpellsCall}
use Rattle.pv_tree.specs.Statements.{SpellsStmt, SpellsEnd, SpellsStmts, SpellsArms, SpellsBranches, SpellsElse}
use Rattle.pv_tree.specs.Nesting.{Part, part, first_of, first_of_operand, first_of_stmt, parts, parts_of_exprs, parts_of_operand, parts_of_steps, parts_of_step, parts_of_args, parts_of_stmts, parts_of_arms, parts_of_branches, parts_of_else, parts_within}
use Rattle.pv_tree.specs.Order.{Along, done, here, onward}
use Rattle.pv_tree.proofs.Firsts.{first-expr, first-operand, first-item}

-- tokens before those along which parts begin, and behind them
pub along_behind : (xs ys : List Lexeme) (ps : List Part) → Along ys ps → Along (xs ++ ys) ps
along_behind [] ys ps a = a
along_behind (x ∷ xs) ys ps a = onward x (xs ++ ys) ps (along_behind xs ys ps a)

pub along_both : (xs ys : List Lexeme) (ps qs : List Part) → Along xs ps → Along ys qs → Along (xs ++ ys) (ps ++ qs)
along_both xs ys ps qs (done _) b = along_behind xs ys qs b
along_both xs ys ps qs (here t ts p more e a) b = here t (ts ++ ys) p (more ++ qs) e (along_both (t ∷ ts) ys more qs a b)
along_both xs ys ps qs (onward t ts all a) b = onward t (ts ++ ys) (all ++ qs) (along_both ts ys all qs a b)

-- the same for tokens that are split so
pub along_joined : {A B : List Lexeme → Type 0} (ts : List Lexeme) (d : IsJoined A B ts) (ps qs : List Part) → Along d.front ps
    → Along d.back qs → Along ts (ps ++ qs)
along_joined ts d ps qs a b = subst (λ t. Along t (ps ++ qs)) (sym d.parts) (along_both d.front d.back ps qs a b)

pub along_second : {A B : List Lexeme → Type 0} (ts : List Lexeme) (d : IsJoined A B ts) (qs : List Part) → Along d.back qs → Along ts qs
along_second ts d qs b = along_joined ts d [] qs (done d.front) b

pub along_first : {A B : List Lexeme → Type 0} (ts : List Lexeme) (d : IsJoined A B ts) (ps : List Part) → Along d.front ps → Along ts ps
along_first ts d ps a = subst (λ l. Along ts l) (append-nil ps) (along_joined ts d ps [] a (done d.back))

-- a part that begins at the first token comes before all others
pub along_from : (n : ℕ) (p : Place) (ts : List Lexeme) (ps : List Part) → first_place ts ≡ Some p → Along ts ps → Along ts (part n p ∷ ps)
along_from n p [] ps e a = absurd (none-some p e)
along_from n p (t ∷ ts) ps e a = here t ts (part n p) ps (ap (λ o. unwrap_or o p) e) a

-- ---- expressions

mutual
  pub along-expr : (n : ℕ) (e : ExprTree) (ts : List Lexeme) → SpellsExpr e ts → Along ts (parts n e)
  along-expr n (lit own value place) ts d = along_from n place ts [] (first-expr (lit own value place) ts d) (done ts)
  along-expr n (read variable) ts d = along_from n (first_of_operand variable) ts (parts_of_operand (suc n) variable)
      (first-operand variable ts d)
      (along-operand (suc n) variable ts d)
  along-expr n (unary op place arg) ts d = along_from n place ts (parts (suc n) arg) (first-expr (unary op place arg) ts d)
      (along_second ts d (parts (suc n) arg) (along-expr (suc n) arg d.back d.behind))
  along-expr n (binary op place left right) ts d =
      along_from n (first_of left) ts (parts (suc n) left ++ parts (suc n) right) (first-expr (binary op place left right) ts d)
      (along_joined ts d (parts (suc n) left) (parts (suc n) right) (along-expr (suc n) left d.front d.in_front)
      (along_second d.back d.behind (parts (suc n) right) (along-expr (suc n) right d.behind.back d.behind.behind)))
  along-expr n (std function place args) ts d =
      along_from n place ts (parts_of_exprs (suc n) args) (first-expr (std function place args) ts d)
      (along_second ts d (parts_of_exprs (suc n) args) (along_second d.back d.behind (parts_of_exprs (suc n) args)
      (along_first d.behind.back d.behind.behind (parts_of_exprs (suc n) args)
      (along-args (suc n) true _ args d.behind.behind.front d.behind.behind.in_front))))
  along-expr n (paren place inner) ts d =
      along_from n place ts (parts (suc n) inner) (first-expr (paren place inner) ts d)
      (along_second ts d (parts (suc n) inner) (along_first d.back d.behind (parts (suc n) inner)
      (along-expr (suc n) inner d.behind.front d.behind.in_front)))

  along-args : (n : ℕ) (first : _) (parameters : _) (args : ExprTrees) (ts : List Lexeme) → SpellsArguments first parameters args ts
      → Along ts (parts_of_exprs n args)
  along-args n first [] no_exprs ts d = done ts
  along-args n first [] (exprs arg args) ts d = absurd d
  along-args n first (parameter ∷ parameters) no_exprs ts d = absurd d
  along-args n first (parameter ∷ parameters) (exprs arg args) ts d =
      along_second ts d (parts n arg ++ parts_of_exprs n args) (along_second d.back d.behind (parts n arg ++ parts_of_exprs n args)
      (along_joined d.behind.back d.behind.behind (parts n arg) (parts_of_exprs n args)
      (along-expr n arg d.behind.behind.front d.behind.behind.in_front)
      (along-args n false parameters args d.behind.behind.back d.behind.behind.behind)))

  pub along-operand : (n : ℕ) (o : OperandTree) (ts : List Lexeme) → SpellsOperand o ts → Along ts (parts_of_operand n o)
  along-operand n (operand root path place) ts d = along_second ts d (parts_of_steps n path) (along-steps n path d.back d.behind)

  along-steps : (n : ℕ) (path : StepTrees) (ts : List Lexeme) → SpellsSteps path ts → Along ts (parts_of_steps n path)
  along-steps n no_steps ts d = done ts
  along-steps n (steps step others) ts d =
      along_joined ts d (parts_of_step n step) (parts_of_steps n others) (along-step n step d.front d.in_front)
      (along-steps n others d.back d.behind)

  along-step : (n : ℕ) (step : StepTree) (ts : List Lexeme) → SpellsStep step ts → Along ts (parts_of_step n step)
  along-step n (field name place) ts d = done ts
  along-step n (index at place) ts d =
      along_second ts d (parts n at) (along_first d.back d.behind (parts n at) (along-expr n at d.behind.front d.behind.in_front))

-- ---- calls

along-named : (n : ℕ) (arg : ArgTree) (name : Option PlacedName) (ts : List Lexeme) → SpellsNamed arg name ts → Along ts (parts n arg.value)
along-named n arg None ts d = absurd d
along-named n arg (Some name) ts d =
    along_second ts d (parts n arg.value) (along_second d.back d.behind (parts n arg.value)
    (along-expr n arg.value d.behind.back d.behind.behind))

along-arg : (n : ℕ) (arg : ArgTree) (ts : List Lexeme) → SpellsArg arg ts → Along ts (parts n arg.value)
along-arg n arg ts d = along-named n arg arg.name ts d

along-arg-list : (n : ℕ) (args : List ArgTree) (ts : List Lexeme) → each_behind SpellsArg args ts → Along ts (parts_of_args n args)
along-arg-list n [] ts d = done ts
along-arg-list n (arg ∷ args) ts d =
    along_second ts d (parts n arg.value ++ parts_of_args n args)
    (along_joined d.back d.behind (parts n arg.value) (parts_of_args n args) (along-arg n arg d.behind.front d.behind.in_front)
    (along-arg-list n args d.behind.back d.behind.behind))

pub along-listed : (n : ℕ) (arg : ArgTree) (args : List ArgTree) (ts : List Lexeme) → listed SpellsArg (arg ∷ args) ts
    → Along ts (parts n arg.value ++ parts_of_args n args)
along-listed n arg args ts d =
    along_joined ts d (parts n arg.value) (parts_of_args n args) (along-arg n arg d.front d.in_front)
    (along-arg-list n args d.back d.behind)

pub along-call-args : (n : ℕ) (args : List ArgTree) (ts : List Lexeme) → SpellsArgs args ts → Along ts (parts_of_args n args)
along-call-args n [] ts d = done ts
along-call-args n (arg ∷ []) ts (inl d) = subst (λ l. Along ts l) (sym (append-nil (parts n arg.value))) (along-expr n arg.value ts d.value)
along-call-args n (arg ∷ []) ts (inr d) = subst (λ l. Along ts l) (sym (append-nil (parts n arg.value))) (along-arg n arg ts d)
along-call-args n (arg ∷ next ∷ args) ts d = along-listed n arg (next ∷ args) ts d

pub along-call : (n : ℕ) (call : CallPlain) (ts : List Lexeme) → SpellsCall call ts → Along ts (parts_of_args n call.args)
along-call n call ts d =
    let all : List Part = parts_of_args n call.args in
    along_second ts d all (along_second d.back d.behind all (along_second d.behind.back d.behind.behind all
    (along_first d.behind.behind.back d.behind.behind.behind all
    (along-call-args n call.args d.behind.behind.behind.front d.behind.behind.behind.in_front))))

-- ---- statements

-- a part that begins at the first token of a statement with its `;`
along_item : (n : ℕ) (s : StmtTree) (ts : List Lexeme) (d : IsJoined (SpellsStmt s) (SpellsEnd s) ts) (ps : List Part) → Along d.front ps
    → Along ts (part n (first_of_stmt s) ∷ ps)
along_item n s ts d ps a = along_from n (first_of_stmt s) ts ps (first-item s ts d) (along_first ts d ps a)

-- the same in a list of statements
abbrev item_of : (s : StmtTree) (others : StmtTrees) (ts : List Lexeme) (d : SpellsStmts (stmts s others) ts)
    → IsJoined (SpellsStmt s) (SpellsEnd s) (d.front ++ d.behind.front)
item_of s others ts d = record { front = d.front; back = d.behind.front; parts = refl; in_front = d.in_front; behind = d.behind.in_front }

split_item : (s : StmtTree) (others : StmtTrees) (ts : List Lexeme) (d : SpellsStmts (stmts s others) ts) → ts ≡ (d.front ++ d.behind.front)
    ++ d.behind.back
split_item s others ts d = d.parts ∙ ap (λ l. d.front ++ l) d.behind.parts ∙ sym (append_assoc d.front d.behind.front d.behind.back)

mutual
  -- the parts within a statement, without the statement itself
  along-stmt : (n : ℕ) (s : StmtTree) (ts : List Lexeme) → SpellsStmt s ts → Along ts (parts_within n s)
  along-stmt n (assign target place value) ts d =
      along_joined ts d (parts_of_operand n target) (parts n value) (along-operand n target d.front d.in_front)
      (along_second d.back d.behind (parts n value) (along-expr n value d.behind.back d.behind.behind))
  along-stmt n (assign_call target place call) ts d =
      along_joined ts d (parts_of_operand n target) (parts_of_args n call.args) (along-operand n target d.front d.in_front)
      (along_second d.back d.behind (parts_of_args n call.args) (along-call n call d.behind.back d.behind.behind))
  along-stmt n (if_ first other place) ts d =
      along_joined ts d (parts_of_arms n first) (parts_of_else n other) (along-arms n (Some place) first d.front d.in_front)
      (along_first d.back d.behind (parts_of_else n other) (along-else n false other d.behind.front d.behind.in_front))
  along-stmt n (case_ selector all other place) ts d =
      let rest : List Part = parts_of_branches n all ++ parts_of_else n other in
      along_second ts d (parts n selector ++ rest) (along_joined d.back d.behind (parts n selector) rest
      (along-expr n selector d.behind.front d.behind.in_front)
      (along_second d.behind.back d.behind.behind rest (along_joined d.behind.behind.back d.behind.behind.behind (parts_of_branches n all)
      (parts_of_else n other)
      (along-branches n all d.behind.behind.behind.front d.behind.behind.behind.in_front)
      (along_first d.behind.behind.behind.back d.behind.behind.behind.behind (parts_of_else n other)
      (along-else n true other d.behind.behind.behind.behind.front d.behind.behind.behind.behind.in_front)))))
  along-stmt n (for_ var var_place first last by body place) ts d =
      let f = d.behind.behind.behind in
      let l = f.behind.behind in
      let b = l.behind.behind.behind in
      let rest : List Part = parts n last ++ parts_of_stmts n body in
      along_second ts d (parts n first ++ rest) (along_second d.back d.behind (parts n first ++ rest)
      (along_second d.behind.back d.behind.behind (parts n first ++ rest)
      (along_joined d.behind.behind.back f (parts n first) rest (along-expr n first f.front f.in_front)
      (along_second f.back f.behind rest (along_joined f.behind.back l (parts n last) (parts_of_stmts n body)
      (along-expr n last l.front l.in_front)
      (along_second l.back l.behind (parts_of_stmts n body) (along_second l.behind.back l.behind.behind (parts_of_stmts n body)
      (along_first l.behind.behind.back b (parts_of_stmts n body) (along-stmts n body b.front b.in_front)))))))))
  along-stmt n (while_ cond body place) ts d =
      let all : List Part = parts n cond ++ parts_of_stmts n body in
      along_second ts d all (along_joined d.back d.behind (parts n cond) (parts_of_stmts n body)
      (along-expr n cond d.behind.front d.behind.in_front)
      (along_second d.behind.back d.behind.behind (parts_of_stmts n body)
      (along_first d.behind.behind.back d.behind.behind.behind (parts_of_stmts n body)
      (along-stmts n body d.behind.behind.behind.front d.behind.behind.behind.in_front))))
  along-stmt n (repeat_ body cond place) ts d =
      let all : List Part = parts_of_stmts n body ++ parts n cond in
      along_second ts d all (along_joined d.back d.behind (parts_of_stmts n body) (parts n cond)
      (along-stmts n body d.behind.front d.behind.in_front)
      (along_second d.behind.back d.behind.behind (parts n cond)
      (along_first d.behind.behind.back d.behind.behind.behind (parts n cond)
      (along-expr n cond d.behind.behind.behind.front d.behind.behind.behind.in_front))))
  along-stmt n (exit_ place) ts d = done ts
  along-stmt n (continue_ place) ts d = done ts
  along-stmt n (return_ place) ts d = done ts
  along-stmt n (call_ call) ts d = along-call n call ts d
  along-stmt n (empty_ place) ts d = done ts

  pub along-stmts : (n : ℕ) (list : StmtTrees) (ts : List Lexeme) → SpellsStmts list ts → Along ts (parts_of_stmts n list)
  along-stmts n no_stmts ts d = done ts
  along-stmts n (stmts s others) ts d =
      subst (λ t. Along t (parts_of_stmts n (stmts s others))) (sym (split_item s others ts d))
      (along_both (d.front ++ d.behind.front) d.behind.back (part n (first_of_stmt s) ∷ parts_within (suc n) s) (parts_of_stmts n others)
      (along_item n s (d.front ++ d.behind.front) (item_of s others ts d) (parts_within (suc n) s)
      (along-stmt (suc n) s d.front d.in_front))
      (along-stmts n others d.behind.back d.behind.behind))

  along-arms : (n : ℕ) (at : Option Place) (list : ArmTrees) (ts : List Lexeme) → SpellsArms at list ts → Along ts (parts_of_arms n list)
  along-arms n at no_arms ts d = done ts
  along-arms n at (arms cond body others) ts d =
      let rest : List Part = parts_of_stmts n body ++ parts_of_arms n others in
      along_second ts d (parts n cond ++ rest) (along_joined d.back d.behind (parts n cond) rest
      (along-expr n cond d.behind.front d.behind.in_front)
      (along_second d.behind.back d.behind.behind rest (along_joined d.behind.behind.back d.behind.behind.behind (parts_of_stmts n body)
      (parts_of_arms n others)
      (along-stmts n body d.behind.behind.behind.front d.behind.behind.behind.in_front)
      (along-arms n None others d.behind.behind.behind.back d.behind.behind.behind.behind))))

  along-branches : (n : ℕ) (list : BranchTrees) (ts : List Lexeme) → SpellsBranches list ts → Along ts (parts_of_branches n list)
  along-branches n no_branches ts d = done ts
  along-branches n (branches choices body others) ts d =
      let all : List Part = parts_of_stmts n body ++ parts_of_branches n others in
      along_second ts d all (along_second d.back d.behind all (along_joined d.behind.back d.behind.behind (parts_of_stmts n body)
      (parts_of_branches n others)
      (along-stmts n body d.behind.behind.front d.behind.behind.in_front)
      (along-branches n others d.behind.behind.back d.behind.behind.behind)))

  along-else : (n : ℕ) (colon : _) (other : ElseTree) (ts : List Lexeme) → SpellsElse colon other ts → Along ts (parts_of_else n other)
  along-else n colon no_else ts d = done ts
  along-else n colon (else_ body) ts d = along_second ts d (parts_of_stmts n body) (along-stmts n body d.back d.behind)
