-- What the names of statements and calls mean, by sort.
--
-- What goes on behind a name that was read says what it makes of whatever tokens spelled that name: the path that lies on the stack is
-- the front of an operand, or the called name of a call, or both, and which of them is decided behind it.
use Rattle.std.proofs.Common.{◌≡◌, Bool, true, List, [], ◌∷◌, ◌++◌, All, Option, Some, None}
use Rattle.pv_place.specs.declared.place.Place.{Place}
use Rattle.pv_types.specs.declared.name.Name.{Name}
use Rattle.pv_types.specs.declared.declaration.Literal.{Literal}
use Rattle.pv_lex.specs.declared.token.Kind.TheVariants as k
use Rattle.pv_tree.specs.declared.expr.Root.TheVariants.{Local}
use Rattle.pv_tree.specs.declared.stmt.Choice.{Choice}
use Rattle.pv_tree.specs.declared.stmt.Choice.TheVariants as of
use Rattle.pv_tree.specs.Tree.{PlacedName, ExprTree, StepTree, field, ArgTree, CallPlain, Choices, StmtTree, StmtTrees}
use Rattle.pv_tree.specs.View.{stmts_of, arms_of, branches_of, else_of}
use Rattle.pv_tree.specs.Lexemes.{Lexeme, ◌⨾◌, IsSign, sign, word, maybe, listed, each_behind}
use Rattle.pv_tree.specs.Words.{IsFree, plain_name, pair_name, quoted_name, SpellsWord, SpellsName}
use Rattle.pv_tree.specs.Expressions.{SpellsExpr, IsFormedExpr, SpellsOperand, IsFormedOperand}
use Rattle.pv_tree.specs.Calls.{SpellsArrow, SpellsArg, SpellsArgs, SpellsCalled, SpellsBase, SpellsCall, IsFreeBehind, IsFormedArg, IsFormedCall}
use Rattle.pv_tree.specs.Statements.{SpellsChoice, SpellsUpTo, SpellsRange, SpellsBy, SpellsEnd, SpellsStmt, SpellsStmts, SpellsArms, SpellsBranches, SpellsElse, IsFormedChoice, IsFormedUpTo, IsFormedRange, IsFormedStmt, AreFormedStmts, AreFormedArms, AreFormedBranches, IsFormedElse}
use Rattle.pv_parse.specs.CodeItems.{ValueTree, of_expr, of_call, ArmTree, BranchTree, arguments, called, value, statement, statements, conditions, otherwise, stepping, choice, choices, cases}
use Rattle.pv_parse.specs.Items.{ItemTree, Stack, PathTree, token, path, expr, code}
use Rattle.pv_parse.specs.ExprDeeds.{rooted, stepped, operand_of}
use Rattle.pv_parse.specs.CallDeeds.{named_of, is_hashed}
use Rattle.pv_parse.proofs.Sure.{Sure, lexemes, Holds, IsPrefix}
use Rattle.pv_parse.proofs.Stacks.{Shape, a_token, a_path, an_expr, some_args, a_call, a_value, a_stmt, some_stmts, some_arms, an_else, a_by, a_choice, some_choices, some_branches}

-- ---- what paths are

-- the front of an operand
pub record IsTarget (p : PathTree) (ts : List Lexeme) : Type 0 where
  pub spelled : SpellsOperand (operand_of p) ts
  pub formed : IsFormedOperand (operand_of p)

-- the steps that a second name makes
abbrev pub base_steps : Option PlacedName → List StepTree
base_steps None = []
base_steps (Some second) = field second.0 second.1 ∷ []

-- the called name of a call, with its second name
pub record IsCallee (p : PathTree) (base : Option PlacedName) (ts : List Lexeme) : Type 0 where
  pub steps_are : p.steps ≡ base_steps base
  pub spelled : (SpellsCalled (is_hashed p.root) (named_of p).0 (named_of p).1 p.place ⨾ SpellsBase (sign ".") base) ts
  pub formed : IsFreeBehind (is_hashed p.root) (named_of p).0

-- a word by itself
pub record IsWordPath (p : PathTree) (ts : List Lexeme) : Type 0 where
  pub word : SpellsWord (named_of p).0 (named_of p).1 ts
  pub free : IsFree (named_of p).0

-- ---- what tokens spell

pub record Called (c : CallPlain) (ts : List Lexeme) : Type 0 where
  pub spelled : SpellsCall c ts
  pub formed : IsFormedCall c

abbrev pub Valued : ValueTree → List Lexeme → Type 0
Valued (of_expr e) ts = Holds 0 e ts
Valued (of_call c) ts = Called c ts

-- a statement without its `;`, which is none that is `;` alone
pub record Unended (x : StmtTree) (ts : List Lexeme) : Type 0 where
  pub spelled : SpellsStmt x ts
  pub formed : IsFormedStmt x
  pub ends : (t : Lexeme) → IsSign ";" t → SpellsEnd x (t ∷ [])

-- one with it
pub record Ended (x : StmtTree) (ts : List Lexeme) : Type 0 where
  pub spelled : (SpellsStmt x ⨾ SpellsEnd x) ts
  pub formed : IsFormedStmt x

pub record Listed (l : List StmtTree) (ts : List Lexeme) : Type 0 where
  pub spelled : SpellsStmts (stmts_of l) ts
  pub formed : AreFormedStmts (stmts_of l)

-- a label with its colon
pub record Labelled (l : Choices) (ts : List Lexeme) : Type 0 where
  pub spelled : (listed SpellsRange l ⨾ sign ":") ts
  pub formed : All IsFormedRange l

-- branches with their labels
pub record Cased (l : List BranchTree) (ts : List Lexeme) : Type 0 where
  pub spelled : SpellsBranches (branches_of l) ts
  pub formed : AreFormedBranches (branches_of l)

-- the branch that is read behind those before it
abbrev pub closed : List BranchTree → Choices → List StmtTree → List BranchTree
closed before label body = before ++ (label, stmts_of body) ∷ []

-- ---- what is made

-- of the names that begin a statement and of those that begin the right side of an assignment, the same is read behind
pub data Goal : Type 0 where
  for_value : Goal
  for_stmt : Goal

abbrev pub Made : Goal → Type 0
Made for_value = ValueTree
Made for_stmt = StmtTree

abbrev pub made_item : (g : Goal) → Made g → ItemTree
made_item for_value v = code (value v)
made_item for_stmt x = code (statement x)

abbrev pub Means : (g : Goal) → Made g → List Lexeme → Type 0
Means for_value v ts = Valued v ts
Means for_stmt x ts = Unended x ts

-- ---- sorts

pub data CodeSort : Type 0 where
  args : CodeSort  -- the arguments of a call
  given : CodeSort  -- the value of an argument, with the sign before it
  first_arg : CodeSort  -- that of the first argument, whose word was read
  more_args : CodeSort  -- further arguments, each behind a comma
  after_arg : CodeSort  -- what goes on behind a word with which an argument begins
  calls : CodeSort  -- the arguments of what a path leads to
  bare_call : CodeSort  -- these, or a second name and these
  reading : CodeSort  -- the steps of an operand that is read
  a_side : CodeSort  -- the right side of an assignment
  after_word : Goal → CodeSort  -- what goes on behind a name
  after_second : Goal → CodeSort  -- behind a name and a second one or a field
  after_dot : Goal → CodeSort  -- behind a name and `.`
  after_prefix : Goal → CodeSort  -- behind OB, FB, FC, DB or UDT as second name, or as part of it
  after_hash : Goal → CodeSort  -- behind `#`
  after_hash_prefix : Goal → CodeSort  -- behind `#` and OB, FB, FC, DB or UDT
  plain_hash : CodeSort  -- which name the tokens behind `#` are
  quoted_hash : CodeSort
  numbered_hash : CodeSort
  plain_second : CodeSort  -- and which those behind `.`
  quoted_second : CodeSort
  numbered_second : CodeSort
  second : CodeSort  -- a second name
  second_number : CodeSort  -- one that begins with OB, FB, FC, DB or UDT
  assignment : CodeSort  -- `:=` and the right side
  unended : CodeSort  -- a statement without its `;`
  ended : CodeSort  -- one with it
  word_item : CodeSort  -- one whose first word was read
  list : CodeSort  -- statements
  adds : CodeSort  -- further ones
  arm : CodeSort  -- a condition of an IF with its statements
  more_arms : CodeSort  -- further ones, behind ELSIF
  other_of : Bool → CodeSort  -- what stands behind ELSE, which a colon may follow or not
  by_of : CodeSort  -- what stands behind BY
  colon_of : CodeSort  -- a colon, or none
  choosing : CodeSort  -- a value of a label
  word_choice : CodeSort  -- the word that was read is one
  first_range : CodeSort  -- the upper end of the first one's range, or none
  next_range : CodeSort  -- that of a further one
  more_choices : CodeSort  -- further values, each behind a comma
  label_rest : CodeSort  -- what stands behind the first value of a label
  labelled : CodeSort  -- a label
  branching : CodeSort  -- all branches
  case_items : CodeSort  -- statements and labels behind the first label
  after_case_word : CodeSort  -- what goes on behind a word that begins one

-- ---- what a name means

pub data DoesCode : CodeSort → Stack → List Sure → Stack → Type 0 where
  an_args : {s : Stack} {ts : List Sure} (l : List ArgTree) → SpellsArgs l (lexemes ts) → All IsFormedArg l → DoesCode args s ts (code (arguments l) ∷ s)
  a_given : {s : Stack} {ts : List Sure} (e : ExprTree) (t : Lexeme) → (SpellsArrow t.place ⨾ SpellsExpr e) (lexemes ts) → IsFormedExpr e
      → DoesCode given s ts (expr e ∷ token t ∷ s)
  a_first_arg : {s : Stack} {ts : List Sure} (p : PathTree) (e : ExprTree) (at : Place) → (SpellsArrow at ⨾ SpellsExpr e) (lexemes ts) → IsFormedExpr e
      → DoesCode first_arg (path p ∷ s) ts (code (arguments (record { name = Some (named_of p); value = e; place = at } ∷ [])) ∷ s)
  adds_args : {s : Stack} {ts : List Sure} (before new after : List ArgTree) → each_behind SpellsArg new (lexemes ts) → All IsFormedArg new
      → after ≡ before ++ new → DoesCode more_args (code (arguments before) ∷ s) ts (code (arguments after) ∷ s)
  goes_arg : {s : Stack} {ts : List Sure} (p : PathTree) (l : List ArgTree)
      → ((us : List Lexeme) → IsWordPath p us → IsTarget p us → SpellsArgs l (us ++ lexemes ts) × All IsFormedArg l)
      → DoesCode after_arg (path p ∷ s) ts (code (arguments l) ∷ s)
  a_call_of : {s : Stack} {ts : List Sure} (p : PathTree) (c : CallPlain)
      → ((base : Option PlacedName) (us : List Lexeme) → IsCallee p base us → Called c (us ++ lexemes ts))
      → DoesCode calls (path p ∷ s) ts (code (called c) ∷ s)
  a_bare_call : {s : Stack} {ts : List Sure} (p : PathTree) (c : CallPlain) → ((us : List Lexeme) → IsCallee p None us → Called c (us ++ lexemes ts))
      → DoesCode bare_call (path p ∷ s) ts (code (called c) ∷ s)
  reads : {s : Stack} {ts : List Sure} (p : PathTree) (e : ExprTree) → ((us : List Lexeme) → IsTarget p us → Holds 7 e (us ++ lexemes ts))
      → DoesCode reading (path p ∷ s) ts (expr e ∷ s)
  a_right_side : {s : Stack} {ts : List Sure} (v : ValueTree) → Valued v (lexemes ts) → DoesCode a_side s ts (code (value v) ∷ s)
  goes_word : {g : Goal} {s : Stack} {ts : List Sure} (p : PathTree) (m : Made g)
      → ((us : List Lexeme) → IsTarget p us → IsCallee p None us → Means g m (us ++ lexemes ts))
      → DoesCode (after_word g) (path p ∷ s) ts (made_item g m ∷ s)
  goes_second : {g : Goal} {s : Stack} {ts : List Sure} (p : PathTree) (m : Made g)
      → ((base : Option PlacedName) (us : List Lexeme) → IsTarget p us → IsCallee p base us → Means g m (us ++ lexemes ts))
      → DoesCode (after_second g) (path p ∷ s) ts (made_item g m ∷ s)
  goes_dot : {g : Goal} {s : Stack} {ts : List Sure} (d : Lexeme) (p : PathTree) (m : Made g)
      → ((us : List Lexeme) → IsTarget p us → IsCallee p None us → IsSign "." d → Means g m (us ++ d ∷ lexemes ts))
      → DoesCode (after_dot g) (token d ∷ path p ∷ s) ts (made_item g m ∷ s)
  goes_prefix : {g : Goal} {s : Stack} {ts : List Sure} (w d : Lexeme) (p : PathTree) (m : Made g)
      → ((us : List Lexeme) → IsTarget p us → IsCallee p None us → IsSign "." d → IsPrefix w → Means g m (us ++ d ∷ w ∷ lexemes ts))
      → DoesCode (after_prefix g) (token w ∷ token d ∷ path p ∷ s) ts (made_item g m ∷ s)
  goes_hash : {g : Goal} {s : Stack} {ts : List Sure} (h : Lexeme) (m : Made g) → (IsSign "#" h → Means g m (h ∷ lexemes ts))
      → DoesCode (after_hash g) (token h ∷ s) ts (made_item g m ∷ s)
  goes_hash_prefix : {g : Goal} {s : Stack} {ts : List Sure} (w h : Lexeme) (m : Made g) → (IsSign "#" h → IsPrefix w → Means g m (h ∷ w ∷ lexemes ts))
      → DoesCode (after_hash_prefix g) (token w ∷ token h ∷ s) ts (made_item g m ∷ s)
  marks_plain_hash : {s : Stack} (w h : Lexeme)
      → DoesCode plain_hash (token w ∷ token h ∷ s) [] (path (rooted (Local (plain_name w.bytes) true w.place) h.place) ∷ s)
  marks_quoted_hash : {s : Stack} (w h : Lexeme)
      → DoesCode quoted_hash (token w ∷ token h ∷ s) [] (path (rooted (Local (quoted_name w.bytes) true w.place) h.place) ∷ s)
  marks_numbered_hash : {s : Stack} (n : Sure) (w h : Lexeme) → n.lexeme.kind ≡ k.Number → DoesCode numbered_hash (token w ∷ token h ∷ s) (n ∷ [])
      (path (rooted (Local (pair_name (w.bytes ++ n.lexeme.bytes)) true w.place) h.place) ∷ s)
  marks_plain_second : {s : Stack} (w d : Lexeme) (p : PathTree)
      → DoesCode plain_second (token w ∷ token d ∷ path p ∷ s) [] (path (stepped p (field (plain_name w.bytes) w.place)) ∷ s)
  marks_quoted_second : {s : Stack} (w d : Lexeme) (p : PathTree)
      → DoesCode quoted_second (token w ∷ token d ∷ path p ∷ s) [] (path (stepped p (field (quoted_name w.bytes) w.place)) ∷ s)
  marks_numbered_second : {s : Stack} (n : Sure) (w d : Lexeme) (p : PathTree) → n.lexeme.kind ≡ k.Number
      → DoesCode numbered_second (token w ∷ token d ∷ path p ∷ s) (n ∷ [])
      (path (stepped p (field (pair_name (w.bytes ++ n.lexeme.bytes)) w.place)) ∷ s)
  a_second : {s : Stack} {ts : List Sure} (d : Lexeme) (p : PathTree) (n : Name) (at : Place) → SpellsName n at (lexemes ts)
      → DoesCode second (token d ∷ path p ∷ s) ts (path (stepped p (field n at)) ∷ s)
  a_second_number : {s : Stack} {ts : List Sure} (w d : Lexeme) (p : PathTree) (n : Name) (at : Place) → (IsPrefix w → SpellsName n at (w ∷ lexemes ts))
      → DoesCode second_number (token w ∷ token d ∷ path p ∷ s) ts (path (stepped p (field n at)) ∷ s)
  assigns : {s : Stack} {ts : List Sure} (p : PathTree) (x : StmtTree) → ((us : List Lexeme) → IsTarget p us → Unended x (us ++ lexemes ts))
      → DoesCode assignment (path p ∷ s) ts (code (statement x) ∷ s)
  an_unended : {s : Stack} {ts : List Sure} (x : StmtTree) → Unended x (lexemes ts) → DoesCode unended s ts (code (statement x) ∷ s)
  an_ended : {s : Stack} {ts : List Sure} (x : StmtTree) → Ended x (lexemes ts) → DoesCode ended s ts (code (statement x) ∷ s)
  goes_item : {s : Stack} {ts : List Sure} (p : PathTree) (x : StmtTree)
      → ((us : List Lexeme) → IsTarget p us → IsCallee p None us → Ended x (us ++ lexemes ts))
      → DoesCode word_item (path p ∷ s) ts (code (statement x) ∷ s)
  a_list : {s : Stack} {ts : List Sure} (l : List StmtTree) → Listed l (lexemes ts) → DoesCode list s ts (code (statements l) ∷ s)
  adds_stmts : {s : Stack} {ts : List Sure} (before new after : List StmtTree) → Listed new (lexemes ts) → after ≡ before ++ new
      → DoesCode adds (code (statements before) ∷ s) ts (code (statements after) ∷ s)
  an_arm : {s : Stack} {ts : List Sure} (e : ExprTree) (l : StmtTrees) → (SpellsExpr e ⨾ word "THEN" ⨾ SpellsStmts l) (lexemes ts) → IsFormedExpr e
      → AreFormedStmts l → DoesCode arm s ts (code (conditions ((e, l) ∷ [])) ∷ s)
  adds_arms : {s : Stack} {ts : List Sure} (before new after : List ArmTree) → SpellsArms None (arms_of new) (lexemes ts) → AreFormedArms (arms_of new)
      → after ≡ before ++ new → DoesCode more_arms (code (conditions before) ∷ s) ts (code (conditions after) ∷ s)
  an_else_of : {colon : Bool} {s : Stack} {ts : List Sure} (o : Option StmtTrees) → SpellsElse colon (else_of o) (lexemes ts) → IsFormedElse (else_of o)
      → DoesCode (other_of colon) s ts (code (otherwise o) ∷ s)
  a_by_of : {s : Stack} {ts : List Sure} (o : Option Literal) → SpellsBy o (lexemes ts) → DoesCode by_of s ts (code (stepping o) ∷ s)
  a_colon : {s : Stack} {ts : List Sure} → maybe (sign ":") (lexemes ts) → DoesCode colon_of s ts s
  a_choice_of : {s : Stack} {ts : List Sure} (x : Choice) → SpellsChoice x (lexemes ts) → IsFormedChoice x → DoesCode choosing s ts (code (choice x) ∷ s)
  marks_choice : {s : Stack} (p : PathTree) → DoesCode word_choice (path p ∷ s) [] (code (choice (of.Const (named_of p).0 (named_of p).1)) ∷ s)
  a_first_range : {s : Stack} {ts : List Sure} (x : Choice) (upper : Option Choice) → SpellsUpTo upper (lexemes ts) → IsFormedUpTo upper
      → DoesCode first_range (code (choice x) ∷ s) ts (code (choices ((x, upper) ∷ [])) ∷ s)
  a_next_range : {s : Stack} {ts : List Sure} (x : Choice) (t : Lexeme) (before : Choices) (upper : Option Choice) → SpellsUpTo upper (lexemes ts)
      → IsFormedUpTo upper → DoesCode next_range (code (choice x) ∷ token t ∷ code (choices before) ∷ s) ts (code (choices (before ++ (x, upper) ∷ [])) ∷ s)
  adds_choices : {s : Stack} {ts : List Sure} (before new after : Choices) → each_behind SpellsRange new (lexemes ts) → All IsFormedRange new
      → after ≡ before ++ new → DoesCode more_choices (code (choices before) ∷ s) ts (code (choices after) ∷ s)
  goes_label : {s : Stack} {ts : List Sure} (x : Choice) (l : Choices)
      → ((us : List Lexeme) → SpellsChoice x us → IsFormedChoice x → Labelled l (us ++ lexemes ts))
      → DoesCode label_rest (code (choice x) ∷ s) ts (code (choices l) ∷ s)
  a_label_of : {s : Stack} {ts : List Sure} (l : Choices) (before : List BranchTree) → Labelled l (lexemes ts)
      → DoesCode labelled (code (cases before) ∷ s) ts (code (statements []) ∷ code (choices l) ∷ code (cases before) ∷ s)
  a_branching : {s : Stack} {ts : List Sure} (l : List BranchTree) → Cased l (lexemes ts) → DoesCode branching s ts (code (cases l) ∷ s)
  goes_case : {s : Stack} {ts : List Sure} (l m : List StmtTree) (c d : Choices) (a b : List BranchTree)
      → ((us : List Lexeme) → Cased (closed a c l) us → Cased (closed b d m) (us ++ lexemes ts))
      → DoesCode case_items (code (statements l) ∷ code (choices c) ∷ code (cases a) ∷ s) ts
      (code (statements m) ∷ code (choices d) ∷ code (cases b) ∷ s)
  goes_case_word : {s : Stack} {ts : List Sure} (p : PathTree) (l m : List StmtTree) (c d : Choices) (a b : List BranchTree)
      → ((us vs : List Lexeme) → Cased (closed a c l) us → IsWordPath p vs → IsTarget p vs → IsCallee p None vs
      → Cased (closed b d m) (us ++ (vs ++ lexemes ts)))
      → DoesCode after_case_word (path p ∷ code (statements l) ∷ code (choices c) ∷ code (cases a) ∷ s) ts
      (code (statements m) ∷ code (choices d) ∷ code (cases b) ∷ s)

-- ---- what a name takes off the stack, and what it puts there

abbrev pub goal_shape : Goal → Shape
goal_shape for_value = a_value
goal_shape for_stmt = a_stmt

abbrev pub code_takes : CodeSort → List Shape
code_takes first_arg = a_path ∷ []
code_takes more_args = some_args ∷ []
code_takes after_arg = a_path ∷ []
code_takes calls = a_path ∷ []
code_takes bare_call = a_path ∷ []
code_takes reading = a_path ∷ []
code_takes (after_word g) = a_path ∷ []
code_takes (after_second g) = a_path ∷ []
code_takes (after_dot g) = a_token ∷ a_path ∷ []
code_takes (after_prefix g) = a_token ∷ a_token ∷ a_path ∷ []
code_takes (after_hash g) = a_token ∷ []
code_takes (after_hash_prefix g) = a_token ∷ a_token ∷ []
code_takes plain_hash = a_token ∷ a_token ∷ []
code_takes quoted_hash = a_token ∷ a_token ∷ []
code_takes numbered_hash = a_token ∷ a_token ∷ []
code_takes plain_second = a_token ∷ a_token ∷ a_path ∷ []
code_takes quoted_second = a_token ∷ a_token ∷ a_path ∷ []
code_takes numbered_second = a_token ∷ a_token ∷ a_path ∷ []
code_takes second = a_token ∷ a_path ∷ []
code_takes second_number = a_token ∷ a_token ∷ a_path ∷ []
code_takes assignment = a_path ∷ []
code_takes word_item = a_path ∷ []
code_takes adds = some_stmts ∷ []
code_takes more_arms = some_arms ∷ []
code_takes word_choice = a_path ∷ []
code_takes first_range = a_choice ∷ []
code_takes next_range = a_choice ∷ a_token ∷ some_choices ∷ []
code_takes more_choices = some_choices ∷ []
code_takes label_rest = a_choice ∷ []
code_takes labelled = some_branches ∷ []
code_takes case_items = some_stmts ∷ some_choices ∷ some_branches ∷ []
code_takes after_case_word = a_path ∷ some_stmts ∷ some_choices ∷ some_branches ∷ []
code_takes _ = []

abbrev pub code_puts : CodeSort → List Shape
code_puts args = some_args ∷ []
code_puts given = an_expr ∷ a_token ∷ []
code_puts first_arg = some_args ∷ []
code_puts more_args = some_args ∷ []
code_puts after_arg = some_args ∷ []
code_puts calls = a_call ∷ []
code_puts bare_call = a_call ∷ []
code_puts reading = an_expr ∷ []
code_puts a_side = a_value ∷ []
code_puts (after_word g) = goal_shape g ∷ []
code_puts (after_second g) = goal_shape g ∷ []
code_puts (after_dot g) = goal_shape g ∷ []
code_puts (after_prefix g) = goal_shape g ∷ []
code_puts (after_hash g) = goal_shape g ∷ []
code_puts (after_hash_prefix g) = goal_shape g ∷ []
code_puts plain_hash = a_path ∷ []
code_puts quoted_hash = a_path ∷ []
code_puts numbered_hash = a_path ∷ []
code_puts plain_second = a_path ∷ []
code_puts quoted_second = a_path ∷ []
code_puts numbered_second = a_path ∷ []
code_puts second = a_path ∷ []
code_puts second_number = a_path ∷ []
code_puts assignment = a_stmt ∷ []
code_puts unended = a_stmt ∷ []
code_puts ended = a_stmt ∷ []
code_puts word_item = a_stmt ∷ []
code_puts list = some_stmts ∷ []
code_puts adds = some_stmts ∷ []
code_puts arm = some_arms ∷ []
code_puts more_arms = some_arms ∷ []
code_puts (other_of colon) = an_else ∷ []
code_puts by_of = a_by ∷ []
code_puts colon_of = []
code_puts choosing = a_choice ∷ []
code_puts word_choice = a_choice ∷ []
code_puts first_range = some_choices ∷ []
code_puts next_range = some_choices ∷ []
code_puts more_choices = some_choices ∷ []
code_puts label_rest = some_choices ∷ []
code_puts labelled = some_stmts ∷ some_choices ∷ some_branches ∷ []
code_puts branching = some_branches ∷ []
code_puts case_items = some_stmts ∷ some_choices ∷ some_branches ∷ []
code_puts after_case_word = some_stmts ∷ some_choices ∷ some_branches ∷ []
