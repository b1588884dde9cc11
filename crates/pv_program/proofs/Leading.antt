-- Calls that are pushed run blocks to which calls lead; and what is said of all statements is said of each.
use Rattle.std.proofs.Common.{◌≡◌, ℕ, zero, suc, ◌<◌, List, [], ◌∷◌, ◌++◌, length, map, get_or, Option, Some, sym, ap, subst, ◌∙◌, arith}
use Rattle.std.specs.Prelude.{slice_get, option_map, Vec, Box}
use Rattle.std.specs.declared.alloc.Global.{Global}
use Rattle.std.proofs.lemmas.Option.{same_Some}
use Rattle.pv_tree.specs.declared.stmt.Stmt.{Stmt}
use Rattle.pv_tree.specs.Tree.{ExprTree, Choices, StmtTree, StmtTrees, ElseTree, else_, BlockTree}
use Rattle.pv_tree.specs.View.{stmts_of, stmt_trees, arms_of, branches_of, else_of}
use Rattle.pv_tree.specs.Callees.{CallSite, runs, callee_of}
use Rattle.pv_mean.specs.Sources.{Source}
use Rattle.pv_run.specs.declared.program.Called.{Called}
use Rattle.pv_resolve.specs.Rooms.{FitsExpr}
use Rattle.pv_laws_room.specs.Bodies.{FitsChoices, FitsStmt, FitsStmts, FitsArms, FitsBranches}
use Rattle.pv_program.specs.Led.{IsLed, AreLed, RunsLed, CallsLed, AllLed, ArmsLed, BranchesLed}

-- ---- calls

pub none_led : (source : Source) (calls : List Called) → calls ≡ [] → AreLed source calls
none_led source calls e = subst (AreLed source) (sym e) (λ i n call at number. absurd (nothing i call at))
  where
    nothing : (i : ℕ) (call : Called) → slice_get (let l : List Called = [] in l) i ≡ Some call → ⊥
    nothing i call at = cc

pub led_same : {source : Source} {old new : Vec Called Global} → new ≡ old → AreLed source old.items → AreLed source new.items
led_same {source} e are = subst (λ (v : Vec Called Global). AreLed source v.items) (sym e) are

last_or : (P : Called → Type 0) (old : List Called) (call : Called) → ((i : ℕ) (c : Called) → slice_get old i ≡ Some c → P c) → P call
    → (i : ℕ) (c : Called) → slice_get (old ++ call ∷ []) i ≡ Some c → P c
last_or P [] call all one zero c e = subst P (same_Some call c e) one
last_or P [] call all one (suc i) c e = cc
last_or P (x ∷ xs) call all one zero c e = all 0 c e
last_or P (x ∷ xs) call all one (suc i) c e = last_or P xs call (λ j d f. all (suc j) d f) one i c e

pub led_more : (source : Source) (old new : List Called) (call : Called) → new ≡ old ++ call ∷ []
    → ((n : ℕ) → call.block ≡ Some n → IsLed source n) → AreLed source old → AreLed source new
led_more source old new call e one are = subst (AreLed source) (sym e) (λ i n c at number.
    last_or (λ d. (m : ℕ) → d.block ≡ Some m → IsLed source m) old call (λ j d f m g. are j m d f g) one i c at n number)

-- the block of the number that a call runs
pub runs_led : {source : Source} (caller callee : BlockTree) (s : CallSite) (n k : ℕ) → slice_get source.project.blocks n ≡ Some callee
    → callee_of (record { project = source.project; block = caller }) s ≡ runs callee → RunsLed source caller s
    → Some n ≡ Some k → IsLed source k
runs_led {source} caller callee s n k at called led same = record {
  block = callee;
  at = ap (slice_get source.project.blocks) (sym (same_Some n k same)) ∙ at;
  leads = led callee called;
}

-- the block that a call among them runs
pub called_led : {source : Source} (calls slice : List Called) (i n : ℕ) → slice ≡ calls
    → (call : Called) × (slice_get slice i ≡ Some call) × (call.block ≡ Some n) → AreLed source calls → IsLed source n
called_led calls slice i n same called are = are i n called.0 (ap (λ l. slice_get l i) (sym same) ∙ called.1) called.2

-- ---- statements

pub stmt_fits : {X : Type 0} (f : X → StmtTree) (xs : List X) (i : ℕ) (x : X) → i < length xs → x ≡ get_or xs i x
    → FitsStmts (stmts_of (map f xs)) → FitsStmt (f x)
stmt_fits f [] i x lt is h = absurd (omega (arith, lt))
stmt_fits f (y ∷ ys) zero x lt is h = subst (λ z. FitsStmt (f z)) (sym is) h.0
stmt_fits f (y ∷ ys) (suc i) x lt is h = stmt_fits f ys i x (omega (arith, lt)) is h.1

pub stmt_led : {X : Type 0} (source : Source) (block : BlockTree) (f : X → StmtTree) (xs : List X) (i : ℕ) (x : X) → i < length xs
    → x ≡ get_or xs i x → AllLed source block (stmts_of (map f xs)) → CallsLed source block (f x)
stmt_led source block f [] i x lt is h = absurd (omega (arith, lt))
stmt_led source block f (y ∷ ys) zero x lt is h = subst (λ z. CallsLed source block (f z)) (sym is) h.0
stmt_led source block f (y ∷ ys) (suc i) x lt is h = stmt_led source block f ys i x (omega (arith, lt)) is h.1

pub arm_fits : {X : Type 0} (f : X → ExprTree × StmtTrees) (xs : List X) (i : ℕ) (x : X) → i < length xs → x ≡ get_or xs i x
    → FitsArms (arms_of (map f xs)) → FitsExpr (f x).0 × FitsStmts (f x).1
arm_fits f [] i x lt is h = absurd (omega (arith, lt))
arm_fits f (y ∷ ys) zero x lt is h = subst (λ z. FitsExpr (f z).0 × FitsStmts (f z).1) (sym is) (h.0, h.1.0)
arm_fits f (y ∷ ys) (suc i) x lt is h = arm_fits f ys i x (omega (arith, lt)) is h.1.1

pub arm_led : {X : Type 0} (source : Source) (block : BlockTree) (f : X → ExprTree × StmtTrees) (xs : List X) (i : ℕ) (x : X) → i < length xs
    → x ≡ get_or xs i x → ArmsLed source block (arms_of (map f xs)) → AllLed source block (f x).1
arm_led source block f [] i x lt is h = absurd (omega (arith, lt))
arm_led source block f (y ∷ ys) zero x lt is h = subst (λ z. AllLed source block (f z).1) (sym is) h.0
arm_led source block f (y ∷ ys) (suc i) x lt is h = arm_led source block f ys i x (omega (arith, lt)) is h.1

pub branch_fits : {X : Type 0} (f : X → Choices × StmtTrees) (xs : List X) (i : ℕ) (x : X) → i < length xs → x ≡ get_or xs i x
    → FitsBranches (branches_of (map f xs)) → FitsChoices (f x).0 × FitsStmts (f x).1
branch_fits f [] i x lt is h = absurd (omega (arith, lt))
branch_fits f (y ∷ ys) zero x lt is h = subst (λ z. FitsChoices (f z).0 × FitsStmts (f z).1) (sym is) (h.0, h.1.0)
branch_fits f (y ∷ ys) (suc i) x lt is h = branch_fits f ys i x (omega (arith, lt)) is h.1.1

pub branch_led : {X : Type 0} (source : Source) (block : BlockTree) (f : X → Choices × StmtTrees) (xs : List X) (i : ℕ) (x : X)
    → i < length xs → x ≡ get_or xs i x → BranchesLed source block (branches_of (map f xs)) → AllLed source block (f x).1
branch_led source block f [] i x lt is h = absurd (omega (arith, lt))
branch_led source block f (y ∷ ys) zero x lt is h = subst (λ z. AllLed source block (f z).1) (sym is) h.0
branch_led source block f (y ∷ ys) (suc i) x lt is h = branch_led source block f ys i x (omega (arith, lt)) is h.1

-- what is said of what stands behind ELSE
pub other-part : (P : ElseTree → Type 0) (Q : StmtTrees → Type 0) → ((l : StmtTrees) → P (else_ l) → Q l)
    → (o : Option (Box (Vec Stmt Global) Global)) (l : Box (Vec Stmt Global) Global) → o ≡ Some l
    → P (else_of (option_map (λ x. stmt_trees x.value.items) o)) → Q (stmt_trees l.value.items)
other-part P Q f o l e h = f (stmt_trees l.value.items) (subst (λ x. P (else_of (option_map (λ y. stmt_trees y.value.items) x))) e h)
