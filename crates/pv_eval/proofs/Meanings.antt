-- What a run of an expression's operations gives, and one of an operand's.
use Rattle.std.proofs.Common.{◌≡◌, ℕ, ◌+◌, ◌<◌, ◌≤◌, ℤ, List, [], ◌∷◌, length, Some, refl, sym, ap, arith, ◌∙◌}
use Rattle.std.proofs.lemmas.Bool.{eqb-true}
use Rattle.std.proofs.lemmas.List.{length-replicate}
use Rattle.std.specs.Prelude.{unsigned_abs, pos, replicate, Option, None, IfSome, ◌==◌, true}
use Rattle.pv_tree.specs.Tree.{ExprTree, OperandTree, BlockTree}
use Rattle.pv_mean.specs.Sources.{Source}
use Rattle.pv_mean.specs.Frames.{Frame}
use Rattle.pv_mean.specs.Endings.{Tried, got, and_then}
use Rattle.pv_mean.specs.Spots.{Spot, visible}
use Rattle.pv_mean.specs.Values.{value, locate}
use Rattle.pv_eval.specs.declared.node.Node.{Node}
use Rattle.pv_eval.specs.declared.node.Operand.{Operand}
use Rattle.pv_eval.specs.declared.node.Operand.TheVariants as operand
use Rattle.pv_eval.specs.Operands.{at, spot_in, spot_at, IsOperand}
use Rattle.pv_eval.specs.Nodes.{run}
use Rattle.pv_eval.specs.Order.{AreNodes, AreWithin}
use Rattle.pv_eval.specs.Means.{Means, Names, activation}
use Rattle.pv_eval.specs.declared.target.Target.{Target}
use Rattle.pv_eval.specs.Ready.{Locates}
use Rattle.pv_eval.specs.Ops.{fetched, accessed, run_ops}
use Rattle.pv_eval.specs.Lowered.{arg_of, access_of, ops_of}
use Rattle.pv_eval.specs.declared.op.Arg.{Arg}
use Rattle.pv_eval.specs.declared.op.Access.{Access}
use Rattle.pv_eval.specs.declared.op.Op.{Op}
use Rattle.pv_eval.proofs.Lowering.{Agrees, lowered}

module _ (source : Source) (block : BlockTree) (nodes : List Node) (order : AreNodes nodes) (first : ℕ) (frame : Frame) where
  none_yet : (us : List ℤ) → Agrees first frame nodes 0 [] us
  none_yet us = record { each = λ n lt. absurd (omega arith) }

  none_within : AreWithin nodes []
  none_within = record { each = λ k m lt e. absurd (omega arith) }

  pub evaluated : (n : ℕ) (e : ExprTree) (values : List ℤ) → n < length nodes → length nodes ≤ length values → Means source block [] nodes n e → and_then (run_ops first frame (ops_of nodes 0 nodes) values) (λ us. got (fetched first frame us (arg_of nodes n))) ≡ value source (activation block first) frame e
  evaluated n e values lt enough m =
      sym (lowered first frame nodes order (λ ws. at ws n) (λ us. fetched first frame us (arg_of nodes n)) (λ ws us h. sym (h.each n lt)) nodes 0 [] values refl (omega arith) refl enough (none_yet values) none_within)
      ∙ ap (λ ns. and_then (run first frame ns []) (λ ws. got (at ws n))) m.makes.extends
      ∙ m.makes.same first frame [] refl

  same_spot : (o : Operand) → IsOperand (length nodes) o → (ws us : List ℤ) → Agrees first frame nodes (length nodes) ws us → spot_at first ws o ≡ accessed first frame us (access_of nodes o)
  same_spot (operand.At spot) is ws us h = refl
  same_spot (operand.Own n) is ws us h = refl
  same_spot (operand.Element part offset address) is ws us h = ap (λ z. spot_in part first (offset + unsigned_abs z)) (sym (h.each address is))

  pub located : (o : Operand) (named : OperandTree) (values : List ℤ) → IsOperand (length nodes) o → length nodes ≤ length values → Names source block [] nodes o named → and_then (run_ops first frame (ops_of nodes 0 nodes) values) (λ us. got (accessed first frame us (access_of nodes o))) ≡ locate source (activation block first) frame named
  located o named values is enough m =
      sym (lowered first frame nodes order (λ ws. spot_at first ws o) (λ us. accessed first frame us (access_of nodes o)) (same_spot o is) nodes 0 [] values refl (omega arith) refl enough (none_yet values) none_within)
      ∙ ap (λ ns. and_then (run first frame ns []) (λ ws. got (spot_at first ws o))) m.makes.extends
      ∙ m.makes.same first frame [] refl

pub evaluates : (source : Source) (block : BlockTree) (nodes : List Node) (n : ℕ) (e : ExprTree) (ops : List Op) (a : Arg) → AreNodes nodes → n < length nodes → ops ≡ ops_of nodes 0 nodes → a ≡ arg_of nodes n → Means source block [] nodes n e → (first : ℕ) (frame : Frame) (values : List ℤ) → length nodes ≤ length values → and_then (run_ops first frame ops values) (λ us. got (fetched first frame us a)) ≡ value source (activation block first) frame e
evaluates source block nodes n e ops a order lt are is m first frame values enough =
    ap (λ os. and_then (run_ops first frame os values) (λ us. got (fetched first frame us a))) are
    ∙ ap (λ b. and_then (run_ops first frame (ops_of nodes 0 nodes) values) (λ us. got (fetched first frame us b))) is
    ∙ evaluated source block nodes order first frame n e values lt enough m

pub locates : (source : Source) (block : BlockTree) (nodes : List Node) (o : Operand) (named : OperandTree) (ops : List Op) (a : Access) → AreNodes nodes → IsOperand (length nodes) o → ops ≡ ops_of nodes 0 nodes → a ≡ access_of nodes o → Names source block [] nodes o named → (first : ℕ) (frame : Frame) (values : List ℤ) → length nodes ≤ length values → and_then (run_ops first frame ops values) (λ us. got (accessed first frame us a)) ≡ locate source (activation block first) frame named
locates source block nodes o named ops a order within are is m first frame values enough =
    ap (λ os. and_then (run_ops first frame os values) (λ us. got (accessed first frame us a))) are
    ∙ ap (λ b. and_then (run_ops first frame (ops_of nodes 0 nodes) values) (λ us. got (accessed first frame us b))) is
    ∙ located source block nodes order first frame o named values within enough m

-- what no index has a say in
pub at_cell : (source : Source) (block : BlockTree) (t : Target) (o : OperandTree) (first n : ℕ) → t.ops.items ≡ [] → ((frame : Frame) (values : List ℤ) → accessed first frame values t.access ≡ visible n) → Locates source block t o → (frame : Frame) → locate source (activation block first) frame o ≡ got (visible n)
at_cell source block t o first n none is h frame =
    let values = replicate t.count (pos 0) in
    sym (h.same first frame values (omega (arith, length-replicate t.count (pos 0))))
    ∙ ap (λ ops. and_then (run_ops first frame ops values) (λ us. got (accessed first frame us t.access))) none
    ∙ ap (λ s. let u : Tried Spot = got s in u) (is frame values)

pub if_cell : (source : Source) (block : BlockTree) (t : Target) (o : OperandTree) (first : ℕ) (r : Option ℕ) → t.ops.items ≡ [] → IfSome r (λ n. (frame : Frame) (values : List ℤ) → accessed first frame values t.access ≡ visible n) → Locates source block t o → IfSome r (λ n. (frame : Frame) → locate source (activation block first) frame o ≡ got (visible n))
if_cell source block t o first None none h l = tt
if_cell source block t o first (Some n) none h l = at_cell source block t o first n none h l

pub no_ops : (ops items : List Op) → ops ≡ items → (length ops == 0) ≡ true → items ≡ []
no_ops ops [] e h = refl
no_ops ops (x ∷ xs) e h = absurd (omega (arith, ap length e, eqb-true (length ops) 0 h))
