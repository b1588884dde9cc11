-- What the loops over arguments and over steps keep.
use Rattle.std.proofs.Common.{◌≡◌, ℕ, zero, suc, ◌+◌, ◌<◌, ◌≤◌, ℤ, pos, List, [], ◌∷◌, ◌++◌, length, map, take, get_or, sym, subst, ◌∙◌, ap, arith}
use Rattle.std.specs.Prelude.{Option, None, All}
use Rattle.std.proofs.lemmas.List.{take_more, take_all, map-append}
use Rattle.std.proofs.lemmas.List.Elements.{All-append}
use Rattle.pv_tree.specs.declared.expr.Root.{Root}
use Rattle.pv_tree.specs.declared.expr.Expr.{Expr}
use Rattle.pv_tree.specs.declared.expr.Step.{Step}
use Rattle.pv_tree.specs.declared.expr.Operand.{Operand}
use Rattle.pv_tree.specs.Tree.{ExprTree, ExprTrees, StepTree, OperandTree, BlockTree}
use Rattle.pv_tree.specs.View.{exprs_of, steps_of, expr_tree, step_tree, operand_tree}
use Rattle.pv_mean.specs.Sources.{Source}
use Rattle.pv_mean.specs.Activations.{root_begins, spot_of}
use Rattle.pv_eval.specs.declared.node.Operand as operand
use Rattle.pv_eval.specs.declared.node.Node.{Node}
use Rattle.pv_eval.specs.declared.node.Node.TheVariants.{Constant}
use Rattle.pv_eval.specs.Order.{AreNodes}
use Rattle.pv_eval.specs.Operands.{spot_at}
use Rattle.pv_eval.specs.Means.{Means, Names, activation}
use Rattle.pv_resolve.specs.declared.context.Context.{Context}
use Rattle.pv_resolve.specs.declared.begin.Begin.{Begin}
use Rattle.pv_resolve.specs.declared.walk.Walk.{Walk}
use Rattle.pv_resolve.specs.Contexts.{IsContext, block_in}
use Rattle.pv_resolve.specs.Begins.{HasSpot, HoldsBlock, begin_at, walk_at, address_value}
use Rattle.pv_resolve.specs.Functions.{HaveValues, AreArguments}
use Rattle.pv_resolve.specs.Growing.{Adds, Grows}
use Rattle.pv_resolve.specs.Walks.{IsWalk, HasAddress}
use Rattle.pv_resolve.proofs.FormLaws.{added_grows, added_within, grows_twice}
use Rattle.pv_tree.proofs.ForCallers.{operand_seen}
use Rattle.pv_resolve.proofs.Arguments.{no_values, one_more, as_arguments, padded}
use Rattle.pv_resolve.proofs.Walking.{walk_begins, walk_ends}

pub grows_none : (old : List Node) → AreNodes old → Grows old old
grows_none old h = record { ordered = h; longer = omega arith; same_most = λ k m is. is }

-- one element more of what was gone through
pub mapped_more : {A B : Type 0} (f : A → B) (xs : List A) (i : ℕ) (x : A) → i < length xs → x ≡ get_or xs i x
    → map f (take (i + 1) xs) ≡ map f (take i xs) ++ f x ∷ []
mapped_more f xs i x inside is =
    ap (map f) (take_more xs i x inside) ∙ map-append f (take i xs) (get_or xs i x ∷ [])
    ∙ ap (λ y. map f (take i xs) ++ f y ∷ []) (sym is)

-- ---- numbers that lie within the nodes

one_within : (n m : ℕ) → n < m → All (λ k. k < m) (n ∷ [])
one_within n m h zero d inside = h
one_within n m h (suc k) d inside = absurd (omega (arith, inside))

pub within_more : (old new : List Node) (numbers : List ℕ) (n : ℕ) → Grows old new → n < length new
    → All (λ k. k < length old) numbers → All (λ k. k < length new) (numbers ++ n ∷ [])
within_more old new numbers n g there all =
    All-append (λ k. k < length new) numbers (n ∷ []) (λ k d inside. omega (arith, g.longer, all k d inside))
    (one_within n (length new) there)

-- ---- arguments so far

pub record HasArguments (c : Context) (old new : List Node) (numbers : List ℕ) (es : List ExprTree) : Type 0 where
  pub grows : Grows old new
  pub within : All (λ k. k < length new) numbers
  pub values : (source : Source) → IsContext c source → HaveValues source (block_in c) old new numbers (exprs_of es)

pub arguments_none : (c : Context) (old : List Node) → AreNodes old → HasArguments c old old [] []
arguments_none c old h = record {
  grows = grows_none old h;
  within = λ k d inside. absurd (omega (arith, inside));
  values = λ source is. no_values source (block_in c) old;
}

pub arguments_more : (c : Context) (old mid new : List Node) (numbers : List ℕ) (n : ℕ) (es : List ExprTree) (e : ExprTree)
    → HasArguments c old mid numbers es → Grows mid new → n < length new
    → ((source : Source) → IsContext c source → Means source (block_in c) mid new n e)
    → HasArguments c old new (numbers ++ n ∷ []) (es ++ e ∷ [])
arguments_more c old mid new numbers n es e h g there means = record {
  grows = grows_twice old mid new h.grows g;
  within = within_more mid new numbers n g there h.within;
  values = λ source is. one_more source (block_in c) old mid new numbers n es e (h.values source is) (means source is);
}

-- ---- zeros behind arguments

pub record IsPadded (old new : List Node) (before numbers : List ℕ) : Type 0 where
  pub grows : Grows old new
  pub within : All (λ k. k < length new) numbers
  pub args : (source : Source) (block : BlockTree) (base : List Node) (es : ExprTrees) → AreArguments source block base old before es
      → AreArguments source block base new numbers es

pub padded_none : (old : List Node) (numbers : List ℕ) → AreNodes old → All (λ k. k < length old) numbers → IsPadded old old numbers numbers
padded_none old numbers h all = record { grows = grows_none old h; within = all; args = λ source block base es a. a }

pub padded_more : (old mid new : List Node) (before numbers : List ℕ) (n : ℕ) → IsPadded old mid before numbers → Adds mid new (Constant (pos 0)) n
    → IsPadded old new before (numbers ++ n ∷ [])
padded_more old mid new before numbers n h adds = record {
  grows = grows_twice old mid new h.grows (added_grows mid new (Constant (pos 0)) n adds);
  within = within_more mid new numbers n (added_grows mid new (Constant (pos 0)) n adds) (added_within mid new (Constant (pos 0)) n adds) h.within;
  args = λ source block base es a. padded source block base mid new numbers n es adds (h.args source block base es a);
}

-- ---- steps so far

pub record HasWalked (c : Context) (old new : List Node) (w : Walk) (root : Root) (ss : List StepTree) : Type 0 where
  pub grows : Grows old new
  pub spot : HasSpot w.begin
  pub address : HasAddress new w
  pub leads : (source : Source) → IsContext c source → IsWalk source (block_in c) old new w root (steps_of ss)

pub walked_none : (c : Context) (old : List Node) (b : Begin) (o : Option ℕ) (root : Root) → AreNodes old → HasSpot b
    → ((source : Source) → IsContext c source → HoldsBlock source.project b o)
    → ((source : Source) (first : ℕ) → IsContext c source → begin_at b first ≡ root_begins source (activation (block_in c) first) root)
    → HasWalked c old old (record { begin = b; address = None; block = o }) root []
walked_none c old b o root h spot holds begins = record {
  grows = grows_none old h;
  spot = spot;
  address = tt;
  leads = λ source is. walk_begins source (block_in c) old b o root (holds source is) (λ first. begins source first is);
}

pub walked_more : (c : Context) (old mid new : List Node) (w next : Walk) (root : Root) (ss : List StepTree) (s : StepTree)
    → HasWalked c old mid w root ss → Grows mid new → HasSpot next.begin → HasAddress new next
    → ((source : Source) → IsContext c source → IsWalk source (block_in c) old mid w root (steps_of ss)
    → IsWalk source (block_in c) old new next root (steps_of (ss ++ s ∷ [])))
    → HasWalked c old new next root (ss ++ s ∷ [])
walked_more c old mid new w next root ss s h g spot address leads = record {
  grows = grows_twice old mid new h.grows g;
  spot = spot;
  address = address;
  leads = λ source is. leads source is (h.leads source is);
}

-- ---- by the lists that are gone through

pub arguments_next : (c : Context) (old mid new : List Node) (numbers more : List ℕ) (n : ℕ) (items : List Expr) (i : ℕ) (x : Expr)
    → i < length items → x ≡ get_or items i x → more ≡ numbers ++ n ∷ []
    → HasArguments c old mid numbers (map expr_tree (take i items)) → Grows mid new → n < length new
    → ((source : Source) → IsContext c source → Means source (block_in c) mid new n (expr_tree x))
    → HasArguments c old new more (map expr_tree (take (i + 1) items))
arguments_next c old mid new numbers more n items i x inside is grown h g there means =
    subst (λ ns. HasArguments c old new ns (map expr_tree (take (i + 1) items))) (sym grown)
    (subst (HasArguments c old new (numbers ++ n ∷ [])) (sym (mapped_more expr_tree items i x inside is))
    (arguments_more c old mid new numbers n (map expr_tree (take i items)) (expr_tree x) h g there means))

pub arguments_all : (c : Context) (old new : List Node) (numbers : List ℕ) (items : List Expr) (i : ℕ) → length items ≤ i
    → HasArguments c old new numbers (map expr_tree (take i items)) → (source : Source) → IsContext c source
    → AreArguments source (block_in c) old new numbers (exprs_of (map expr_tree items))
arguments_all c old new numbers items i past h source is =
    subst (λ l. AreArguments source (block_in c) old new numbers (exprs_of (map expr_tree l))) (take_all i items past)
    (as_arguments source (block_in c) old new numbers (exprs_of (map expr_tree (take i items))) (h.values source is))

pub walked_next : (c : Context) (old mid new : List Node) (w next : Walk) (root : Root) (items : List Step) (i : ℕ) (x : Step)
    → i < length items → x ≡ get_or items i x → HasWalked c old mid w root (map step_tree (take i items)) → Grows mid new
    → HasSpot next.begin → HasAddress new next
    → ((source : Source) → IsContext c source → IsWalk source (block_in c) old mid w root (steps_of (map step_tree (take i items)))
    → IsWalk source (block_in c) old new next root (steps_of (map step_tree (take i items) ++ step_tree x ∷ [])))
    → HasWalked c old new next root (map step_tree (take (i + 1) items))
walked_next c old mid new w next root items i x inside is h g spot address leads =
    subst (HasWalked c old new next root) (sym (mapped_more step_tree items i x inside is))
    (walked_more c old mid new w next root (map step_tree (take i items)) (step_tree x) h g spot address leads)

-- behind the last step the operand is what it names
pub walked_all : (c : Context) (old new : List Node) (w : Walk) (named : Operand) (o : operand.Operand) (items : List Step) (i : ℕ)
    → items ≡ named.steps.items → length items ≤ i → HasWalked c old new w named.root.value (map step_tree (take i items))
    → ((first : ℕ) (values : List ℤ) → spot_at first values o ≡ spot_of (walk_at w first (address_value w.address values)))
    → (source : Source) → IsContext c source → Names source (block_in c) old new o (operand_tree named)
walked_all c old new w named o items i same past h spot source is =
    walk_ends source (block_in c) old new w o named.root.value (steps_of (map step_tree named.steps.items)) named.place (operand_tree named)
    (operand_seen named) spot
    (subst (λ l. IsWalk source (block_in c) old new w named.root.value (steps_of (map step_tree l))) (take_all i items past ∙ same) (h.leads source is))

-- ---- alone

pub expression_alone : (source : Source) (block : BlockTree) (old new made : List Node) (n : ℕ) (e : ExprTree) → old ≡ [] → made ≡ new → Means source block old new n e → Means source block [] made n e
expression_alone source block old new made n e none same means =
    subst (λ o. Means source block o made n e) none (subst (λ ns. Means source block old ns n e) (sym same) means)

pub target_alone : (source : Source) (block : BlockTree) (old new made : List Node) (o : operand.Operand) (named : OperandTree) → old ≡ [] → made ≡ new → Names source block old new o named → Names source block [] made o named
target_alone source block old new made o named none same names =
    subst (λ x. Names source block x made o named) none (subst (λ ns. Names source block old ns o named) (sym same) names)
