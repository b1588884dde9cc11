-- Actions of instructions from the rows of their words.
use Rattle.std.proofs.Common.{◌≡◌, ℕ, List, Some, None, Bool, sym, ap, ◌∙◌, subst}
use Rattle.std.proofs.lemmas.Option.{same_Some}
use Rattle.pv_word.specs.declared.types.Ty.{Ty}
use Rattle.pv_tree.specs.declared.instr.Op.TheVariants as op
use Rattle.pv_tree.specs.Tree.{OperandTree, CallPlain, InstrTree, BlockTree}
use Rattle.pv_tree.specs.Parts.{how_of}
use Rattle.pv_tree.specs.Callees.{How}
use Rattle.pv_mean.specs.Sources.{Source}
use Rattle.pv_mean.specs.Placed.{call_placed}
use Rattle.pv_mean.specs.Instructions.{effect}
use Rattle.pv_eval.specs.Means.{activation}
use Rattle.pv_eval.specs.declared.target.Target.{Target}
use Rattle.pv_stl_run.specs.declared.registers.Junction.{Junction}
use Rattle.pv_stl_run.specs.declared.instr.Written.{Written}
use Rattle.pv_stl_run.specs.declared.instr.When.{When}
use Rattle.pv_stl_run.specs.declared.instr.Goal.{Goal}
use Rattle.pv_stl_run.specs.declared.instr.Action.{Action}
use Rattle.pv_stl_run.specs.declared.instr.Action.TheVariants as action
use Rattle.pv_stl_run.specs.Code as stl
use Rattle.pv_stl_run.specs.Code.{HasType, IsAction, changes, joins, writes, finds_edge, loads, transfers, jumps, ends, ends_where}
use Rattle.pv_stl_run.specs.Going.{Does}
use Rattle.pv_run.specs.declared.program.Program.{Program}
use Rattle.pv_run.specs.Code.{IsTarget, IsCall}
use Rattle.pv_program.specs.Rows.{WordJumps, WordJoins, WordWrites, WordFindsEdge}
use Rattle.pv_program.specs.Bodies.{LeadsSo, CallsSo, IsMadeAction}

-- ---- operands

pub taken-of : {source : Source} {block : BlockTree} {p : Program} {n : ℕ} {o : OperandTree} → IsTarget source block p n o
    → stl.IsTarget source block p.targets.items p.scratch n o
taken-of t = record { target = t.target; at = t.at; fits = t.fits; locates = t.locates }

pub joins-by : {source : Source} {block : BlockTree} {targets : List Target} {room n : ℕ} (i : InstrTree) (o : OperandTree) (j : Junction)
    → WordJoins i.op j → i.operand ≡ Some o → stl.IsTarget source block targets room n o → IsAction source block targets room (action.Join j n) i
joins-by {source = source} {block = block} i o j h e t = joins o e t (λ first w. h source (activation block first) i o w e)

pub writes-by : {source : Source} {block : BlockTree} {targets : List Target} {room n : ℕ} (i : InstrTree) (o : OperandTree) (w : Written)
    → WordWrites i.op w → i.operand ≡ Some o → stl.IsTarget source block targets room n o → IsAction source block targets room (action.Write w n) i
writes-by {source = source} {block = block} i o w h e t = writes o e t (λ first x. h source (activation block first) i x)

pub edges-by : {source : Source} {block : BlockTree} {targets : List Target} {room n : ℕ} (i : InstrTree) (o : OperandTree) (rising : Bool)
    → WordFindsEdge i.op rising → i.operand ≡ Some o → stl.IsTarget source block targets room n o
    → IsAction source block targets room (action.Edge rising n) i
edges-by {source = source} {block = block} i o rising h e t = finds_edge o e t (λ first x. h source (activation block first) i x)

pub loads-by : {source : Source} {block : BlockTree} {targets : List Target} {room n : ℕ} (i : InstrTree) (o : OperandTree) (ty : Ty)
    → i.op ≡ op.L → i.operand ≡ Some o → i.literal ≡ None → stl.IsTarget source block targets room n o → HasType source block i ty
    → IsAction source block targets room (action.Load ty n) i
loads-by {source = source} {block = block} i o ty is e none t typed =
    loads o e none t typed (λ first w. ap (λ x. effect source (activation block first) i x w) is)

pub transfers-by : {source : Source} {block : BlockTree} {targets : List Target} {room n : ℕ} (i : InstrTree) (o : OperandTree) (ty : Ty)
    → i.op ≡ op.T → i.operand ≡ Some o → stl.IsTarget source block targets room n o → HasType source block i ty
    → IsAction source block targets room (action.Transfer ty n) i
transfers-by {source = source} {block = block} i o ty is e t typed =
    transfers o e t typed (λ first w. ap (λ x. effect source (activation block first) i x w) is)

-- ---- jumps

pub jumps-by : (source : Source) (block : BlockTree) (targets : List Target) (room : ℕ) (i : InstrTree) (test : When) (goal : Goal)
    → WordJumps i.op test → IsAction source block targets room (action.Jump test goal) i
jumps-by source block targets room i test goal h = jumps (λ first w. h source (activation block first) i w)

-- ---- all of an action

does-alone : {source : Source} {block : BlockTree} {targets : List Target} {room : ℕ} {d : Action} {i : InstrTree} → i.call ≡ None
    → IsAction source block targets room d i → Does source block targets room d i
does-alone none (changes row) = (none, changes row)
does-alone none (joins o e t row) = (none, joins o e t row)
does-alone none (writes o e t row) = (none, writes o e t row)
does-alone none (finds_edge o e t row) = (none, finds_edge o e t row)
does-alone none (loads o e l t ty row) = (none, loads o e l t ty row)
does-alone none (transfers o e t ty row) = (none, transfers o e t ty row)
does-alone none (jumps row) = (none, jumps row)
does-alone none (ends row) = (none, ends row)
does-alone none (ends_where row) = (none, ends_where row)

no-calls : {source : Source} {block : BlockTree} {targets : List Target} {room : ℕ} {d : Action} {i : InstrTree} (p : Program)
    → IsAction source block targets room d i → CallsSo source block p i d
no-calls p (changes row) = tt
no-calls p (joins o e t row) = tt
no-calls p (writes o e t row) = tt
no-calls p (finds_edge o e t row) = tt
no-calls p (loads o e l t ty row) = tt
no-calls p (transfers o e t ty row) = tt
no-calls p (jumps row) = tt
no-calls p (ends row) = tt
no-calls p (ends_where row) = tt

pub made-alone : {source : Source} {block : BlockTree} {p : Program} {all : List InstrTree} {k : ℕ} {i : InstrTree} {d : Action} → i.call ≡ None
    → IsAction source block p.targets.items p.scratch d i → LeadsSo all k i d → IsMadeAction source block p all k i d
made-alone {p = p} none is leads = record { does = does-alone none is; leads = leads; calls = no-calls p is }

pub made-call : {source : Source} {block : BlockTree} {p : Program} {all : List InstrTree} {k n : ℕ} (i : InstrTree) (call : CallPlain) (how : How)
    → i.call ≡ Some call → how ≡ how_of i.op → IsCall source block p n (record { how = how; call = call_placed call })
    → IsMadeAction source block p all k i (action.Call n)
made-call {source = source} {block = block} {p = p} {n = n} i call how has same is = record {
  does = (call, has);
  leads = tt;
  calls = λ other e. subst (λ (c : CallPlain). IsCall source block p n (record { how = how_of i.op; call = call_placed c }))
      (same_Some call other (sym has ∙ e))
      (subst (λ h. IsCall source block p n (record { how = h; call = call_placed call })) same is);
}
