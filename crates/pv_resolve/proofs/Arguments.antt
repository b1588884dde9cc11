-- Arguments of functions, one by one; a missing one is 0.
use Rattle.std.proofs.Common.{◌≡◌, ℕ, ℤ, pos, List, [], ◌∷◌, ◌++◌, map, refl, sym, ◌∙◌, ap}
use Rattle.std.specs.Prelude.{unsigned_abs, if◌then◌else◌}
use Rattle.std.proofs.lemmas.List.{map-append}
use Rattle.pv_word.specs.declared.types.Ty.{Ty}
use Rattle.pv_word.specs.Types.{wrap_of, shl_of, shr_of}
use Rattle.pv_tree.specs.declared.expr.StdFunction.{StdFunction}
use Rattle.pv_tree.specs.declared.expr.StdFunction.TheVariants.{Convert, Abs, Min, Max, Limit, Sel, Shl, Shr}
use Rattle.pv_tree.specs.Tree.{ExprTree, ExprTrees, no_exprs, BlockTree}
use Rattle.pv_tree.specs.View.{exprs_of}
use Rattle.pv_mean.specs.Sources.{Source}
use Rattle.pv_mean.specs.Frames.{Frame}
use Rattle.pv_mean.specs.Endings.{Tried, Value, got, and_then}
use Rattle.pv_mean.specs.Activations.{Activation}
use Rattle.pv_mean.specs.Values.{value, values, is_true, lesser, greater, argument, arguments_behind, function_result}
use Rattle.pv_eval.specs.declared.node.Node.{Node}
use Rattle.pv_eval.specs.declared.node.Node.TheVariants.{Constant}
use Rattle.pv_eval.specs.Operands.{at}
use Rattle.pv_eval.specs.Means.{Means, activation}
use Rattle.pv_eval.proofs.ForCallers.{and_then-assoc, and_then-same, makes-none, makes-along, makes-then}
use Rattle.pv_resolve.specs.Growing.{Adds}
use Rattle.pv_resolve.specs.Functions.{function_value, HaveValues, AreArguments}
use Rattle.pv_resolve.proofs.FormLaws.{constant_makes, makes-read}

-- ---- one by one

pub no_values : (source : Source) (block : BlockTree) (base : List Node) → HaveValues source block base base [] no_exprs
no_values source block base = record { makes = makes-none base (λ first. []) }

values_more : (source : Source) (act : Activation) (frame : Frame) (es : List ExprTree) (e : ExprTree)
    → values source act frame (exprs_of (es ++ e ∷ []))
    ≡ and_then (values source act frame (exprs_of es)) (λ vs. and_then (value source act frame e) (λ v. got (vs ++ v ∷ [])))
values_more source act frame [] e = refl
values_more source act frame (x ∷ xs) e =
    and_then-same (value source act frame x) _ _ (λ v _.
    ap (λ t. and_then t (λ vs. let u : Tried (List ℤ) = got (v ∷ vs) in u)) (values_more source act frame xs e)
    ∙ and_then-assoc (values source act frame (exprs_of xs)) (λ vs. and_then (value source act frame e) (λ w. got (vs ++ w ∷ [])))
    (λ vs. got (v ∷ vs))
    ∙ and_then-same (values source act frame (exprs_of xs)) _ _ (λ vs _.
    and_then-assoc (value source act frame e) (λ w. got (vs ++ w ∷ [])) (λ ws. got (v ∷ ws)))
    ∙ sym (and_then-assoc (values source act frame (exprs_of xs)) (λ vs. got (v ∷ vs))
    (λ vs. and_then (value source act frame e) (λ w. got (vs ++ w ∷ [])))))
    ∙ sym (and_then-assoc (value source act frame x) (λ v. and_then (values source act frame (exprs_of xs)) (λ vs. got (v ∷ vs)))
    (λ vs. and_then (value source act frame e) (λ w. got (vs ++ w ∷ []))))

pub one_more : (source : Source) (block : BlockTree) (base old new : List Node) (numbers : List ℕ) (n : ℕ) (es : List ExprTree) (e : ExprTree)
    → HaveValues source block base old numbers (exprs_of es) → Means source block old new n e
    → HaveValues source block base new (numbers ++ n ∷ []) (exprs_of (es ++ e ∷ []))
one_more source block base old new numbers n es e h m =
    let before = λ (first : ℕ) (frame : Frame). values source (activation block first) frame (exprs_of es) in
    let last = λ (first : ℕ) (frame : Frame). value source (activation block first) frame e in
    record {
      makes = makes-along base new (λ first ws. map (at ws) (numbers ++ n ∷ []))
          (λ first frame. and_then (before first frame) (λ vs. and_then (last first frame) (λ v. got (vs ++ v ∷ []))))
          (λ first frame. values source (activation block first) frame (exprs_of (es ++ e ∷ [])))
          (λ first frame. sym (values_more source (activation block first) frame es e))
          (makes-read base new (λ first ws. map (at ws) numbers ++ at ws n ∷ []) (λ first ws. map (at ws) (numbers ++ n ∷ []))
          (λ first frame. and_then (before first frame) (λ vs. and_then (last first frame) (λ v. got (vs ++ v ∷ []))))
          (λ first ws. sym (map-append (at ws) numbers (n ∷ [])))
          (makes-then base old new (λ first ws. map (at ws) numbers) (λ first ws. at ws n) before last (λ vs v. vs ++ v ∷ []) h.makes m.makes));
    }

pub as_arguments : (source : Source) (block : BlockTree) (base new : List Node) (numbers : List ℕ) (es : ExprTrees)
    → HaveValues source block base new numbers es → AreArguments source block base new numbers es
as_arguments source block base new numbers es h = record {
  meaning = λ first frame. values source (activation block first) frame es;
  makes = h.makes;
  same = λ function ty first frame. refl;
}

-- ---- a 0 more

first_same : (vs : List ℤ) → argument (vs ++ pos 0 ∷ []) ≡ argument vs
first_same [] = refl
first_same (v ∷ vs) = refl

second_same : (vs : List ℤ) → argument (arguments_behind (vs ++ pos 0 ∷ [])) ≡ argument (arguments_behind vs)
second_same [] = refl
second_same (v ∷ vs) = first_same vs

third_same : (vs : List ℤ) → argument (arguments_behind (arguments_behind (vs ++ pos 0 ∷ []))) ≡ argument (arguments_behind (arguments_behind vs))
third_same [] = refl
third_same (v ∷ vs) = second_same vs

-- what is made of the first three of them
three_same : (f : ℤ → ℤ → ℤ → ℤ) (vs : List ℤ)
    → f (argument (vs ++ pos 0 ∷ [])) (argument (arguments_behind (vs ++ pos 0 ∷ []))) (argument (arguments_behind (arguments_behind (vs ++ pos 0 ∷ []))))
    ≡ f (argument vs) (argument (arguments_behind vs)) (argument (arguments_behind (arguments_behind vs)))
three_same f vs =
    ap (λ a. f a (argument (arguments_behind (vs ++ pos 0 ∷ []))) (argument (arguments_behind (arguments_behind (vs ++ pos 0 ∷ []))))) (first_same vs)
    ∙ ap (λ b. f (argument vs) b (argument (arguments_behind (arguments_behind (vs ++ pos 0 ∷ []))))) (second_same vs)
    ∙ ap (λ c. f (argument vs) (argument (arguments_behind vs)) c) (third_same vs)

pad_result : (function : StdFunction) (ty : Ty) (vs : List ℤ) → function_result function ty (vs ++ pos 0 ∷ []) ≡ function_result function ty vs
pad_result (Convert from to) ty vs = three_same (λ a b c. wrap_of to a) vs
pad_result Abs ty vs = three_same (λ a b c. wrap_of ty (pos (unsigned_abs a))) vs
pad_result Min ty vs = three_same (λ a b c. lesser a b) vs
pad_result Max ty vs = three_same (λ a b c. greater a b) vs
pad_result Limit ty vs = three_same (λ a b c. lesser c (greater a b)) vs
pad_result Sel ty vs = three_same (λ a b c. if is_true a then c else b) vs
pad_result Shl ty vs = three_same (λ a b c. shl_of ty a (unsigned_abs b)) vs
pad_result Shr ty vs = three_same (λ a b c. shr_of ty a (unsigned_abs b)) vs

pub padded : (source : Source) (block : BlockTree) (base old new : List Node) (numbers : List ℕ) (n : ℕ) (es : ExprTrees)
    → Adds old new (Constant (pos 0)) n → AreArguments source block base old numbers es
    → AreArguments source block base new (numbers ++ n ∷ []) es
padded source block base old new numbers n es adds a =
    let zero_more = λ (first : ℕ) (frame : Frame). and_then (a.meaning first frame) (λ vs. let t : Tried (List ℤ) = got (vs ++ pos 0 ∷ []) in t) in
    record {
      meaning = zero_more;
      makes = makes-read base new (λ first ws. map (at ws) numbers ++ at ws n ∷ []) (λ first ws. map (at ws) (numbers ++ n ∷ [])) zero_more
          (λ first ws. sym (map-append (at ws) numbers (n ∷ [])))
          (makes-then base old new (λ first ws. map (at ws) numbers) (λ first ws. at ws n) a.meaning (λ first frame. got (pos 0))
          (λ vs v. vs ++ v ∷ []) a.makes (constant_makes old new (pos 0) n adds));
      same = λ function ty first frame.
          and_then-assoc (a.meaning first frame) (λ vs. got (vs ++ pos 0 ∷ [])) (function_value function ty)
          ∙ and_then-same (a.meaning first frame) (λ vs. function_value function ty (vs ++ pos 0 ∷ [])) (function_value function ty)
          (λ vs _. ap (λ v. let t : Value = got v in t) (pad_result function ty vs))
          ∙ a.same function ty first frame;
    }
