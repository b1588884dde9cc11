-- What instructions do, kind by kind: what the code makes is the row that its code means.
use Rattle.std.proofs.Common.{◌≡◌, ℕ, List, Bool, Some, None, Ok, Err, ap, sym, refl, ◌∙◌}
use Rattle.std.specs.Prelude.{Result, IfOk}
use Rattle.pv_word.specs.declared.types.Ty.{Ty}
use Rattle.pv_place.specs.declared.place.Place.{Place}
use Rattle.pv_tree.specs.Tree.{OperandTree, InstrTree, BlockTree}
use Rattle.pv_mean.specs.Sources.{Source}
use Rattle.pv_mean.specs.Frames.{Frame}
use Rattle.pv_mean.specs.Endings.{got, and_then, Ended, ended, trapped}
use Rattle.pv_mean.specs.Registers as m
use Rattle.pv_mean.specs.Registers.{Working}
use Rattle.pv_mean.specs.Instructions as rows
use Rattle.pv_mean.specs.Instructions.{Next, left, goes_on, at_word, effect, by_result, ends_where}
use Rattle.pv_eval.specs.declared.target.Target.{Target}
use Rattle.pv_eval.specs.declared.trap.Trap.{Trap}
use Rattle.pv_eval.specs.Means.{activation}
use Rattle.pv_stl_run.specs.declared.instr.Goal.{Goal}
use Rattle.pv_stl_run.specs.declared.instr.When.{When}
use Rattle.pv_stl_run.specs.declared.instr.Written.{Written}
use Rattle.pv_stl_run.specs.declared.instr.Change.{Change}
use Rattle.pv_stl_run.specs.declared.instr.Action.{Action}
use Rattle.pv_stl_run.specs.declared.instr.Action.TheVariants as action
use Rattle.pv_stl_run.specs.declared.registers.Junction.{Junction}
use Rattle.pv_stl_run.specs.declared.registers.Registers.{Registers}
use Rattle.pv_stl_run.specs.declared.steps.Next as steps
use Rattle.pv_stl_run.specs.declared.steps.Next.TheVariants as next
use Rattle.pv_stl_run.specs.Views.{junction_of}
use Rattle.pv_stl_run.specs.Rows.{row_of, left_in}
use Rattle.pv_stl_run.specs.Code as code
use Rattle.pv_stl_run.specs.Code.{IsTarget, HasType, IsAction, written_of, jump_row, next_of, onward_in, IsNoJump, IsGoal, GoesBy}

-- ---- rows, by what the code makes

pub no_call : (source : Source) (block : BlockTree) (targets : List Target) (room n : ℕ) (i : InstrTree)
    → IsAction source block targets room (action.Call n) i → ⊥
no_call source block targets room n i d = elim d [ ]

changed : (done : Result Unit Trap) (r : Registers) (frame : Frame)
    → onward_in done r frame ≡ goes_on (and_then (left_in done r) (λ x. got (record { registers = x; frame = frame })))
changed (Ok u) r frame = refl
changed (Err t) r frame = refl

pub change_effect : (source : Source) (block : BlockTree) (targets : List Target) (room : ℕ) (c : Change) (i : InstrTree) (first : ℕ)
    (place : Place) (old : m.Registers) (frame : Frame) (done : Result Unit Trap) (r : Registers)
    → IsAction source block targets room (action.Change c) i → i.place ≡ place → left_in done r ≡ row_of c place old
    → onward_in done r frame ≡ effect source (activation block first) i i.op (record { registers = old; frame = frame })
change_effect source block targets room c i first place old frame done r (code.changes row) p e =
    changed done r frame
    ∙ ap (λ t. goes_on (and_then t (λ x. got (record { registers = x; frame = frame })))) (e ∙ ap (λ at. row_of c at old) (sym p))
    ∙ sym (row first (record { registers = old; frame = frame }))

pub join_effect : (source : Source) (block : BlockTree) (targets : List Target) (room n : ℕ) (j : Junction) (i : InstrTree) (first : ℕ)
    (w : Working) (e : Ended Next) → IsAction source block targets room (action.Join j n) i
    → ((o : OperandTree) → i.operand ≡ Some o → IsTarget source block targets room n o
    → e ≡ rows.joins source (activation block first) i (junction_of j) w)
    → e ≡ effect source (activation block first) i i.op w
join_effect source block targets room n j i first w e (code.joins o is target row) h = h o is target ∙ sym (row first w)

pub write_effect : (source : Source) (block : BlockTree) (targets : List Target) (room n : ℕ) (t : Written) (i : InstrTree) (first : ℕ)
    (w : Working) (e : Ended Next) → IsAction source block targets room (action.Write t n) i
    → ((o : OperandTree) → i.operand ≡ Some o → IsTarget source block targets room n o
    → e ≡ rows.writes source (activation block first) i (λ b. written_of t b) w)
    → e ≡ effect source (activation block first) i i.op w
write_effect source block targets room n t i first w e (code.writes o is target row) h = h o is target ∙ sym (row first w)

pub edge_effect : (source : Source) (block : BlockTree) (targets : List Target) (room n : ℕ) (rising : Bool) (i : InstrTree) (first : ℕ)
    (w : Working) (e : Ended Next) → IsAction source block targets room (action.Edge rising n) i
    → ((o : OperandTree) → i.operand ≡ Some o → IsTarget source block targets room n o
    → e ≡ rows.finds_edge source (activation block first) i rising w)
    → e ≡ effect source (activation block first) i i.op w
edge_effect source block targets room n rising i first w e (code.finds_edge o is target row) h = h o is target ∙ sym (row first w)

pub load_effect : (source : Source) (block : BlockTree) (targets : List Target) (room n : ℕ) (ty : Ty) (i : InstrTree) (first : ℕ)
    (w : Working) (e : Ended Next) → IsAction source block targets room (action.Load ty n) i
    → ((o : OperandTree) → i.operand ≡ Some o → IsTarget source block targets room n o → i.literal ≡ None → HasType source block i ty
    → e ≡ rows.loads source (activation block first) i w)
    → e ≡ effect source (activation block first) i i.op w
load_effect source block targets room n ty i first w e (code.loads o is none target its_type row) h = h o is target none its_type ∙ sym (row first w)

pub transfer_effect : (source : Source) (block : BlockTree) (targets : List Target) (room n : ℕ) (ty : Ty) (i : InstrTree) (first : ℕ)
    (w : Working) (e : Ended Next) → IsAction source block targets room (action.Transfer ty n) i
    → ((o : OperandTree) → i.operand ≡ Some o → IsTarget source block targets room n o → HasType source block i ty
    → e ≡ rows.transfers source (activation block first) i w)
    → e ≡ effect source (activation block first) i i.op w
transfer_effect source block targets room n ty i first w e (code.transfers o is target its_type row) h = h o is target its_type ∙ sym (row first w)

pub jump_effect : (source : Source) (block : BlockTree) (targets : List Target) (room : ℕ) (when : When) (goal : Goal) (i : InstrTree)
    (first : ℕ) (w : Working) → IsAction source block targets room (action.Jump when goal) i
    → jump_row when i w ≡ effect source (activation block first) i i.op w
jump_effect source block targets room when goal i first w (code.jumps row) = sym (row first w)

pub end_effect : (source : Source) (block : BlockTree) (targets : List Target) (room : ℕ) (i : InstrTree)
    (first : ℕ) (w : Working) → IsAction source block targets room action.End i
    → ended (left w.frame) ≡ effect source (activation block first) i i.op w
end_effect source block targets room i first w (code.ends row) = sym (row first w)

pub where_effect : (source : Source) (block : BlockTree) (targets : List Target) (room : ℕ) (i : InstrTree)
    (first : ℕ) (w : Working) → IsAction source block targets room action.EndWhere i
    → by_result i w ends_where ≡ effect source (activation block first) i i.op w
where_effect source block targets room i first w (code.ends_where row) = sym (row first w)

-- ---- where it goes on

pub goes_plainly : (d : Action) (r : Result steps.Next Trap) → IfOk r IsNoJump → GoesBy d r
goes_plainly d (Ok next.Onward) h = tt
goes_plainly d (Ok (next.To goal)) h = absurd h
goes_plainly d (Ok next.Left) h = tt
goes_plainly d (Err t) h = tt

pub goes_jumping : (d : Action) (w : When) (goal : Goal) (r : Result steps.Next Trap) → d ≡ action.Jump w goal → IfOk r (IsGoal goal)
    → GoesBy d r
goes_jumping d w goal (Ok next.Onward) e h = tt
goes_jumping d w goal (Ok (next.To g)) e h = (w, e ∙ ap (action.Jump w) (sym h))
goes_jumping d w goal (Ok next.Left) e h = tt
goes_jumping d w goal (Err t) e h = tt

-- ---- at the instruction's word

pub at_word_on : (i : InstrTree) (n : steps.Next) (r : Registers) (frame : Frame) (e : Ended Next)
    → next_of i (Ok n) r frame ≡ e → next_of i (Ok n) r frame ≡ at_word i.place e
at_word_on i n r frame e h = sym (kept n) ∙ ap (at_word i.place) h where
  kept : (n : steps.Next) → at_word i.place (next_of i (Ok n) r frame) ≡ next_of i (Ok n) r frame
  kept next.Onward = refl
  kept (next.To goal) = refl
  kept next.Left = refl

pub at_word_stop : (i : InstrTree) (t : Trap) (place : Place) (r : Registers) (frame : Frame) (e : Ended Next) → i.place ≡ place
    → next_of i (Err t) r frame ≡ e → trapped t.kind place ≡ at_word i.place e
at_word_stop i t place r frame e p h = ap (trapped t.kind) (sym p) ∙ ap (at_word i.place) h
