-- What parts of statements and calls lie on top of a stack where they are found there.
use Rattle.std.proofs.Common.{◌≡◌, List, [], ◌∷◌, Option, Some, ap}
use Rattle.std.proofs.lemmas.Option.{same_Some}
use Rattle.pv_types.specs.declared.declaration.Literal.{Literal}
use Rattle.pv_tree.specs.declared.stmt.Choice.{Choice}
use Rattle.pv_tree.specs.Tree.{ArgTree, CallPlain, Choices, StmtTree, StmtTrees}
use Rattle.pv_parse.specs.CodeItems.{ValueTree, ArmTree, BranchTree, arguments, called, value, statement, statements, conditions, otherwise, stepping, choice, choices, cases}
use Rattle.pv_parse.specs.CodeStack.{args_on, call_on, value_on, stmt_on, stmts_on, arms_on, else_on, by_on, choice_on, choices_on, branches_on}
use Rattle.pv_parse.specs.Items.{Stack, literal, code, literal_on}

pub literal_popped : (s : Stack) (x : Literal × Stack) → literal_on s ≡ Some x → s ≡ literal x.0 ∷ x.1
literal_popped (literal t ∷ s) x e = let p : ◌≡◌ {A = Literal × Stack} (t, s) x = same_Some (t, s) x e in ap (λ (y : Literal × Stack). literal y.0 ∷ y.1) p
literal_popped [] x e = absurd (cc (e))
literal_popped _ x e = absurd (cc (e))

pub args_popped : (s : Stack) (x : (List ArgTree) × Stack) → args_on s ≡ Some x → s ≡ code (arguments x.0) ∷ x.1
args_popped (code (arguments t) ∷ s) x e =
    let p : ◌≡◌ {A = (List ArgTree) × Stack} (t, s) x = same_Some (t, s) x e in ap (λ (y : (List ArgTree) × Stack). code (arguments y.0) ∷ y.1) p
args_popped [] x e = absurd (cc (e))
args_popped _ x e = absurd (cc (e))

pub call_popped : (s : Stack) (x : CallPlain × Stack) → call_on s ≡ Some x → s ≡ code (called x.0) ∷ x.1
call_popped (code (called t) ∷ s) x e =
    let p : ◌≡◌ {A = (CallPlain) × Stack} (t, s) x = same_Some (t, s) x e in ap (λ (y : (CallPlain) × Stack). code (called y.0) ∷ y.1) p
call_popped [] x e = absurd (cc (e))
call_popped _ x e = absurd (cc (e))

pub value_popped : (s : Stack) (x : ValueTree × Stack) → value_on s ≡ Some x → s ≡ code (value x.0) ∷ x.1
value_popped (code (value t) ∷ s) x e =
    let p : ◌≡◌ {A = (ValueTree) × Stack} (t, s) x = same_Some (t, s) x e in ap (λ (y : (ValueTree) × Stack). code (value y.0) ∷ y.1) p
value_popped [] x e = absurd (cc (e))
value_popped _ x e = absurd (cc (e))

pub stmt_popped : (s : Stack) (x : StmtTree × Stack) → stmt_on s ≡ Some x → s ≡ code (statement x.0) ∷ x.1
stmt_popped (code (statement t) ∷ s) x e =
    let p : ◌≡◌ {A = (StmtTree) × Stack} (t, s) x = same_Some (t, s) x e in ap (λ (y : (StmtTree) × Stack). code (statement y.0) ∷ y.1) p
stmt_popped [] x e = absurd (cc (e))
stmt_popped _ x e = absurd (cc (e))

pub stmts_popped : (s : Stack) (x : (List StmtTree) × Stack) → stmts_on s ≡ Some x → s ≡ code (statements x.0) ∷ x.1
stmts_popped (code (statements t) ∷ s) x e =
    let p : ◌≡◌ {A = (List StmtTree) × Stack} (t, s) x = same_Some (t, s) x e in ap (λ (y : (List StmtTree) × Stack). code (statements y.0) ∷ y.1) p
stmts_popped [] x e = absurd (cc (e))
stmts_popped _ x e = absurd (cc (e))

pub arms_popped : (s : Stack) (x : (List ArmTree) × Stack) → arms_on s ≡ Some x → s ≡ code (conditions x.0) ∷ x.1
arms_popped (code (conditions t) ∷ s) x e =
    let p : ◌≡◌ {A = (List ArmTree) × Stack} (t, s) x = same_Some (t, s) x e in ap (λ (y : (List ArmTree) × Stack). code (conditions y.0) ∷ y.1) p
arms_popped [] x e = absurd (cc (e))
arms_popped _ x e = absurd (cc (e))

pub else_popped : (s : Stack) (x : (Option StmtTrees) × Stack) → else_on s ≡ Some x → s ≡ code (otherwise x.0) ∷ x.1
else_popped (code (otherwise t) ∷ s) x e =
    let p : ◌≡◌ {A = (Option StmtTrees) × Stack} (t, s) x = same_Some (t, s) x e in ap (λ (y : (Option StmtTrees) × Stack). code (otherwise y.0) ∷ y.1) p
else_popped [] x e = absurd (cc (e))
else_popped _ x e = absurd (cc (e))

pub by_popped : (s : Stack) (x : (Option Literal) × Stack) → by_on s ≡ Some x → s ≡ code (stepping x.0) ∷ x.1
by_popped (code (stepping t) ∷ s) x e =
    let p : ◌≡◌ {A = (Option Literal) × Stack} (t, s) x = same_Some (t, s) x e in ap (λ (y : (Option Literal) × Stack). code (stepping y.0) ∷ y.1) p
by_popped [] x e = absurd (cc (e))
by_popped _ x e = absurd (cc (e))

pub choice_popped : (s : Stack) (x : Choice × Stack) → choice_on s ≡ Some x → s ≡ code (choice x.0) ∷ x.1
choice_popped (code (choice t) ∷ s) x e =
    let p : ◌≡◌ {A = (Choice) × Stack} (t, s) x = same_Some (t, s) x e in ap (λ (y : (Choice) × Stack). code (choice y.0) ∷ y.1) p
choice_popped [] x e = absurd (cc (e))
choice_popped _ x e = absurd (cc (e))

pub choices_popped : (s : Stack) (x : Choices × Stack) → choices_on s ≡ Some x → s ≡ code (choices x.0) ∷ x.1
choices_popped (code (choices t) ∷ s) x e =
    let p : ◌≡◌ {A = (Choices) × Stack} (t, s) x = same_Some (t, s) x e in ap (λ (y : (Choices) × Stack). code (choices y.0) ∷ y.1) p
choices_popped [] x e = absurd (cc (e))
choices_popped _ x e = absurd (cc (e))

pub branches_popped : (s : Stack) (x : (List BranchTree) × Stack) → branches_on s ≡ Some x → s ≡ code (cases x.0) ∷ x.1
branches_popped (code (cases t) ∷ s) x e =
    let p : ◌≡◌ {A = (List BranchTree) × Stack} (t, s) x = same_Some (t, s) x e in ap (λ (y : (List BranchTree) × Stack). code (cases y.0) ∷ y.1) p
branches_popped [] x e = absurd (cc (e))
branches_popped _ x e = absurd (cc (e))
