-- What the loops over arguments and over steps keep.
use Rattle.std.proofs.Common.{◌≡◌, ℕ, zero, suc, ◌+◌, ◌<◌, ◌≤◌, List, [], ◌∷◌, ◌++◌, length, append-nil, map, take, get_or, refl, sym, subst, ◌∙◌, ap, arith}
use Rattle.std.proofs.lemmas.List.{take_more, take_all, map-append}
use Rattle.pv_tree.specs.declared.expr.Expr.{Expr}
use Rattle.pv_tree.specs.declared.expr.Step.{Step}
use Rattle.pv_tree.specs.declared.expr.Root.{Root}
use Rattle.pv_tree.specs.declared.expr.Operand.{Operand}
use Rattle.pv_tree.specs.Tree.{ExprTree, StepTree, OperandTree, BlockTree}
use Rattle.pv_tree.specs.LiteralTypes.{Want}
use Rattle.pv_tree.specs.Sorts.{Sort}
use Rattle.pv_tree.specs.Scopes.{Scope}
use Rattle.pv_tree.specs.Types.{sorts_of}
use Rattle.pv_tree.specs.View.{exprs_of, steps_of, expr_tree, step_tree, operand_tree}
use Rattle.pv_tree.proofs.ForCallers.{operand_seen}
use Rattle.pv_names.specs.declared.sort.Want.{Want as CodeWant}
use Rattle.pv_names.specs.Sorts.{want_tree}
use Rattle.pv_mean.specs.Sources.{Source}
use Rattle.pv_resolve.specs.Contexts.{block_in}
use Rattle.pv_flow.specs.declared.term.Node.{Node}
use Rattle.pv_terms.specs.declared.function.Given.{Given}
use Rattle.pv_terms.specs.Given.{AreGiven}
use Rattle.pv_terms.specs.Pushed.{IsTable}
use Rattle.pv_variables.specs.Begun.{origin_of}
use Rattle.pv_variables.specs.Origins.{placed}
use Rattle.pv_access.specs.Given.{AreMoves}
use Rattle.pv_access.specs.declared.access.Move.{Move as CodeMove}
use Rattle.pv_access.specs.declared.check.Check.{Check as CodeCheck}
use Rattle.pv_lower.specs.declared.access.Access.{Access as CodeAccess}
use Rattle.pv_lower.specs.declared.lowering.Lowering.{Lowering}
use Rattle.pv_lower.specs.declared.types.Wants.{Wants}
use Rattle.pv_lower.specs.Storages.{Access}
use Rattle.pv_lower.specs.Lowered.{Arguments, Accessed, scope_of, part_type, lowered, arguments, reached, stepped, accessed}
use Rattle.pv_lower.specs.Lowering.{IsLowering, first_then, Lowers, IsAccess, Accesses}
use Rattle.pv_lower.proofs.Behind.{itself, no_checks, checks_say, Gives, arguments_then, gives_then, accesses_behind}
use Rattle.pv_lower.proofs.Walking.{wanted_at, one_argument, arguments_more, reached_more}

-- one element more of what was gone through
pub mapped_more : {A B : Type 0} (f : A → B) (xs : List A) (i : ℕ) (x : A) → i < length xs → x ≡ get_or xs i x
    → map f (take (i + 1) xs) ≡ map f (take i xs) ++ f x ∷ []
mapped_more f xs i x inside is =
    ap (map f) (take_more xs i x inside) ∙ map-append f (take i xs) (get_or xs i x ∷ [])
    ∙ ap (λ y. map f (take i xs) ++ f y ∷ []) (sym is)

-- ---- what is wanted of each argument

abbrev pub want_number : Wants → ℕ → Want
want_number w zero = want_tree w.first
want_number w (suc i) = want_tree w.others

others_at : (source : Source) (block : BlockTree) (w : Want) (ss : List Sort) (i : ℕ) → i < length ss → wanted_at source block (map (λ (s : Sort). w) ss) i ≡ w
others_at source block w [] i inside = absurd (omega (arith, inside))
others_at source block w (s ∷ ss) zero inside = refl
others_at source block w (s ∷ ss) (suc i) inside = others_at source block w ss i (omega (arith, inside))

wanted_is : (source : Source) (block : BlockTree) (w : Wants) (ss : List Sort) (i : ℕ) → i < length ss → wanted_at source block (first_then w ss) i ≡ want_number w i
wanted_is source block w [] i inside = absurd (omega (arith, inside))
wanted_is source block w (s ∷ ss) zero inside = refl
wanted_is source block w (s ∷ ss) (suc i) inside = others_at source block (want_tree w.others) ss i (omega (arith, inside))

as_many : (scope : Scope) (es : List ExprTree) → length (sorts_of scope (exprs_of es)) ≡ length es
as_many scope [] = refl
as_many scope (e ∷ es) = ap suc (as_many scope es)

so_far : {A B : Type 0} (f : A → B) (xs : List A) (i : ℕ) → i < length xs → length (map f (take i xs)) ≡ i
so_far f [] i inside = absurd (omega (arith, inside))
so_far f (x ∷ xs) zero inside = refl
so_far f (x ∷ xs) (suc i) inside = ap suc (so_far f xs i (omega (arith, inside)))

many : {A B : Type 0} (f : A → B) (xs : List A) → length (map f xs) ≡ length xs
many f [] = refl
many f (x ∷ xs) = ap suc (many f xs)

-- ---- arguments so far

abbrev pub all_wants : Lowering → Source → Wants → List Expr → List Want
all_wants l source w items = first_then w (sorts_of (scope_of source (block_in l.context)) (exprs_of (map expr_tree items)))

pub record HasGiven (l : Lowering) (w : Wants) (old now : List Node) (before after : List CodeCheck) (given : List Given) (wanted : CodeWant)
    (i : ℕ) (items : List Expr) : Type 0 where
  pub next : want_tree wanted ≡ want_number w i
  pub gives : (source : Source) → IsLowering l source → IsTable old
      → Gives old now before after given
      (arguments source (block_in l.context) (all_wants l source w items) (exprs_of (map expr_tree (take i items))))

given_alone : (nodes : List Node) (given : List Given) → given ≡ [] → AreGiven nodes given []
given_alone nodes given none = subst (λ (g : List Given). AreGiven nodes g []) (sym none) tt

pub given_none : (l : Lowering) (w : Wants) (old : List Node) (before : List CodeCheck) (given : List Given) (items : List Expr) → given ≡ []
    → HasGiven l w old old before before given w.first 0 items
given_none l w old before given items none = record {
  next = refl;
  gives = λ source is table. record { checks = no_checks old old before (itself old table); terms = given_alone old given none };
}

one_gives : (source : Source) (block : BlockTree) (want : Want) (e : ExprTree) (old new : List Node) (before after : List CodeCheck) (g : Given)
    → g.ty ≡ part_type (scope_of source block) want e → Lowers old new before after g.term (lowered source block want e)
    → Gives old new before after (g ∷ []) (one_argument source block want e)
one_gives source block want e old new before after g of x = record {
  checks = checks_say old new before after (lowered source block want e).checks ((lowered source block want e).checks ++ [])
      (sym (append-nil (lowered source block want e).checks)) x.checks;
  terms = (of, x.at, tt);
}

pub given_next : (l : Lowering) (w : Wants) (old mid new : List Node) (before between after : List CodeCheck) (given more : List Given) (g : Given)
    (wanted : CodeWant) (i : ℕ) (items : List Expr) (x : Expr) → i < length items → x ≡ get_or items i x → more ≡ given ++ g ∷ []
    → HasGiven l w old mid before between given wanted i items
    → ((source : Source) → IsLowering l source → g.ty ≡ part_type (scope_of source (block_in l.context)) (want_tree wanted) (expr_tree x))
    → ((source : Source) → IsLowering l source → IsTable mid
    → Lowers mid new between after g.term (lowered source (block_in l.context) (want_tree wanted) (expr_tree x)))
    → HasGiven l w old new before after more w.others (i + 1) items
given_next l w old mid new before between after given more g wanted i items x inside is grown h of lowers = record {
  next = subst (λ (j : ℕ). want_tree w.others ≡ want_number w j) one refl;
  gives = λ source here table. given_more source here table;
}
  where
    one : suc i ≡ i + 1
    one = omega arith

    given_more : (source : Source) → IsLowering l source → IsTable old
        → Gives old new before after more
        (arguments source (block_in l.context) (all_wants l source w items) (exprs_of (map expr_tree (take (i + 1) items))))
    given_more source here table =
        let block = block_in l.context in
        let x0 = h.gives source here table in
        let y0 = one_gives source block (want_tree wanted) (expr_tree x) mid new between after g (of source here) (lowers source here x0.checks.grows.table) in
        let ws = all_wants l source w items in
        let so = map expr_tree (take i items) in
        let long : length (sorts_of (scope_of source block) (exprs_of (map expr_tree items))) ≡ length items =
        as_many (scope_of source block) (map expr_tree items) ∙ many expr_tree items in
        let at : want_tree wanted ≡ wanted_at source block ws (length so) =
        h.next ∙ sym (wanted_is source block w (sorts_of (scope_of source block) (exprs_of (map expr_tree items))) i (omega (arith, inside, long)))
        ∙ ap (wanted_at source block ws) (sym (so_far expr_tree items i inside)) in
        subst (λ (m : List Given). Gives old new before after m (arguments source block ws (exprs_of (map expr_tree (take (i + 1) items))))) (sym grown)
        (subst (λ (es : List ExprTree). Gives old new before after (given ++ g ∷ []) (arguments source block ws (exprs_of es)))
        (sym (mapped_more expr_tree items i x inside is))
        (subst (λ (a : Arguments). Gives old new before after (given ++ g ∷ []) a)
        (ap (λ (want : Want). arguments_then (arguments source block ws (exprs_of so)) (one_argument source block want (expr_tree x))) at
        ∙ sym (arguments_more source block ws so (expr_tree x)))
        (gives_then old mid new before between after given (g ∷ []) (arguments source block ws (exprs_of so))
        (one_argument source block (want_tree wanted) (expr_tree x)) x0 y0)))

-- those of all
pub given_all : (l : Lowering) (w : Wants) (old new : List Node) (before after : List CodeCheck) (given : List Given) (wanted : CodeWant) (i : ℕ)
    (items : List Expr) → length items ≤ i → HasGiven l w old new before after given wanted i items → (source : Source) → IsLowering l source
    → IsTable old → (wants : List Want) → wants ≡ all_wants l source w items
    → Gives old new before after given (arguments source (block_in l.context) wants (exprs_of (map expr_tree items)))
given_all l w old new before after given wanted i items past h source is table wants same =
    subst (λ (ws : List Want). Gives old new before after given (arguments source (block_in l.context) ws (exprs_of (map expr_tree items)))) (sym same)
    (subst (λ (es : List Expr). Gives old new before after given
    (arguments source (block_in l.context) (all_wants l source w items) (exprs_of (map expr_tree es)))) (take_all i items past)
    (h.gives source is table))

-- ---- steps so far

abbrev pub begun : Source → BlockTree → Root → Access
begun source block root = record { origin = placed source block root; moves = [] }

pub record HasReached (l : Lowering) (old now : List Node) (before after : List CodeCheck) (code : CodeAccess) (root : Root) (ss : List StepTree)
    : Type 0 where
  pub reaches : (source : Source) → IsLowering l source → IsTable old
      → Accesses old now before after code
      (reached source (block_in l.context) (begun source (block_in l.context) root) (steps_of ss))

pub reached_none : (l : Lowering) (old : List Node) (before : List CodeCheck) (code : CodeAccess) (root : Root)
    → ((source : Source) → IsLowering l source → origin_of code.begin ≡ placed source (block_in l.context) root) → code.moves.items ≡ []
    → HasReached l old old before before code root []
reached_none l old before code root begins none = record {
  reaches = λ source is table. record {
    checks = no_checks old old before (itself old table);
    access = record { origin = begins source is; moves = subst (λ (ms : List CodeMove). AreMoves old ms []) (sym none) tt };
  };
}

pub reached_next : (l : Lowering) (old mid new : List Node) (before between after : List CodeCheck) (code next : CodeAccess) (root : Root)
    (items : List Step) (i : ℕ) (x : Step) → i < length items → x ≡ get_or items i x
    → HasReached l old mid before between code root (map step_tree (take i items))
    → ((source : Source) (a : Access) → IsLowering l source → IsTable mid → IsAccess mid code a
    → Accesses mid new between after next (stepped source (block_in l.context) a (step_tree x)))
    → HasReached l old new before after next root (map step_tree (take (i + 1) items))
reached_next l old mid new before between after code next root items i x inside is h steps = record {
  reaches = λ source here table.
      let block = block_in l.context in
      let so = map step_tree (take i items) in
      let acc = reached source block (begun source block root) (steps_of so) in
      let x0 = h.reaches source here table in
      subst (λ (ss : List StepTree). Accesses old new before after next (reached source block (begun source block root) (steps_of ss)))
      (sym (mapped_more step_tree items i x inside is))
      (subst (λ (a : Accessed). Accesses old new before after next a)
      (sym (reached_more source block (begun source block root) so (step_tree x)))
      (accesses_behind old mid new before between after next acc.checks (stepped source block acc.access (step_tree x)) x0.checks
      (steps source acc.access here x0.checks.grows.table x0.access)));
}

pub reached_all : (l : Lowering) (old new : List Node) (before after : List CodeCheck) (code : CodeAccess) (named : Operand) (items : List Step) (i : ℕ)
    → items ≡ named.steps.items → length items ≤ i → HasReached l old new before after code named.root.value (map step_tree (take i items))
    → (source : Source) → IsLowering l source → IsTable old
    → Accesses old new before after code (accessed source (block_in l.context) (operand_tree named))
reached_all l old new before after code named items i same past h source is table =
    let block = block_in l.context in
    subst (λ (o : OperandTree). Accesses old new before after code (accessed source block o)) (sym (operand_seen named))
    (subst (λ (ss : List Step). Accesses old new before after code
    (reached source block (begun source block named.root.value) (steps_of (map step_tree ss)))) (take_all i items past ∙ same)
    (h.reaches source is table))
