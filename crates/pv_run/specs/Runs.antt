-- What the code that runs promises, for any source and block that its arrays mean.
use Rattle.std.specs.Prelude.{◌≡◌, ℕ, ◌+◌, ◌*◌, ◌<◌, ◌≤◌, ◌^◌, ℤ, List, map, Option, Some, None, Result, Ok, Err, Bool as Truth}
use Rattle.pv_place.specs.declared.place.Place.{Place}
use Rattle.pv_tree.specs.Tree.{StmtTree, StmtTrees, ExprTree, InstrTree, BodyTree, BlockTree}
use Rattle.pv_tree.specs.Callees.{CallSite, runs, callee_of}
use Rattle.pv_mean.specs.Sources.{Source}
use Rattle.pv_mean.specs.Frames.{Frame}
use Rattle.pv_mean.specs.Endings.{Tried, got, Ended, ended, end_of, and_end, Ending}
use Rattle.pv_mean.specs.Values.{value, is_true}
use Rattle.pv_mean.specs.Statements as m
use Rattle.pv_mean.specs.Statements.{Returned, run_stmt, run_stmts, while_turns, repeat_turns, for_turns}
use Rattle.pv_mean.specs.InstructionRuns.{run_stl}
use Rattle.pv_mean.specs.Calls.{run_code, calls_within, not_made, instance_first, Linked, copy_all_in, copy_all_out}
use Rattle.pv_eval.specs.Operands.{spot_of}
use Rattle.pv_eval.specs.Means.{activation}
use Rattle.pv_run.specs.declared.program.List as code
use Rattle.pv_run.specs.declared.program.Stmt.{Stmt}
use Rattle.pv_run.specs.declared.program.Program.{Program}
use Rattle.pv_run.specs.declared.program.At.{At}
use Rattle.pv_run.specs.declared.program.Body.{Body}
use Rattle.pv_run.specs.declared.stop.Stop.{Stop}
use Rattle.pv_run.specs.declared.stop.Flow.{Flow}
use Rattle.pv_eval.specs.Writes.{TypesOf}
use Rattle.pv_run.specs.declared.program.Span.{Span}
use Rattle.pv_run.specs.declared.counting.Begun.{Begun}
use Rattle.pv_run.specs.declared.callee.Started.{Started}
use Rattle.pv_run.specs.Handing.{Handed, passed_from}
use Rattle.pv_run.specs.Code.{IsProgram, IsValue, IsStmt, AreStmts, IsBody, IsCall, AreInward, AreOutward, RunsBlock, IsCode, RunsBody, HasInstrs}
use Rattle.pv_run.specs.Ends.{stop_end, ending_of, end_in}

abbrev pub frame_in : List ℤ → List (Option ℤ) → Frame
frame_in visible brief = record { visible = visible; brief = brief }

-- a block at work has so many brief cells and turns for the blocks that it calls, and so many values to evaluate with
pub record HasRoom (p : Program) (at : At) (under turns room : ℕ) : Type 0 where
  pub below : at.calls * p.widest ≤ under
  pub ranges : at.calls * p.ranges ≤ turns
  pub scratch : p.scratch ≤ room
  pub first : at.first + at.calls * 2 ^ 16 < 2 ^ 32

-- a condition that is tested in a frame
abbrev pub Tests : Program → ℕ → ℕ → Frame → Result Truth Stop → Type 0
Tests p n first frame (Ok b) = (source : Source) (block : BlockTree) (e : ExprTree)
    → IsValue source block p n e
    → and_end (end_of (value source (activation block first) frame e)) (λ v. ended
    (is_true v)) ≡ ended b
Tests p n first frame (Err s) = (source : Source) (block : BlockTree) (e : ExprTree)
    → IsValue source block p n e
    → and_end (end_of (value source (activation block first) frame e)) (λ v. ended
    (is_true v)) ≡ stop_end s

-- the list that is chosen of some, if one is
abbrev pub Chooses : Source → BlockTree → Program → ℕ → Result (Option code.List) Stop
    → Tried (Option StmtTrees) → Type 0
Chooses source block p k (Ok None) chosen = chosen ≡ got None
Chooses source block p k (Ok (Some l)) chosen =
    (body : StmtTrees) × (chosen ≡ got (Some body)) × IsBody source block p k l body
Chooses source block p k (Err s) chosen = end_of chosen ≡ stop_end s

abbrev pub RunsList : Program → code.List → At → Frame → Result Flow Stop → Frame → Type 0
RunsList p l at before result after = (source : Source) (block : BlockTree) (trees : StmtTrees)
    → IsProgram source p
    → AreStmts source block p l.first l.end trees
    → ending_of result after ≡ run_stmts source (calls_within source at.calls)
    (activation block at.first) trees before

abbrev pub RunsStmt : Program → ℕ → Stmt → At → Frame → Result Flow Stop → Frame → Type 0
RunsStmt p k c at before result after = (source : Source) (block : BlockTree) (tree : StmtTree)
    → IsProgram source p
    → IsStmt source block p k c tree
    → ending_of result after ≡ run_stmt source (calls_within source at.calls)
    (activation block at.first) tree before

-- a body, in the frame of its block
abbrev pub RunsCode : Program → Body → At → Frame → Result Unit Stop → Frame → Type 0
RunsCode p b at before result after = (source : Source) (block : BlockTree) (body : BodyTree)
    → IsProgram source p
    → RunsBody source block p b body
    → end_in (λ done. after) result ≡ run_code source (calls_within source at.calls)
    (activation block at.first) body before

abbrev pub RunsInstrs : Program → Span → At → Frame → Result Unit Stop → Frame → Type 0
RunsInstrs p s at before result after = (source : Source) (block : BlockTree)
    (all : List InstrTree)
    → IsProgram source p
    → HasInstrs source block p s all
    → end_in (λ done. after) result ≡ run_stl source (calls_within source at.calls)
    (activation block at.first) all before

-- a call, and the value that it leaves
abbrev pub returned_of : Result (Option ℤ) Stop → Frame → Ended Returned
returned_of (Ok v) frame = ended (record { frame = frame; value = v })
returned_of (Err s) frame = stop_end s

abbrev pub RunsCall : Program → ℕ → At → Frame → Result (Option ℤ) Stop → Frame → Type 0
RunsCall p c at before result after = (source : Source) (block : BlockTree) (site : CallSite)
    → IsProgram source p
    → IsCall source block p c site
    → returned_of result after ≡ calls_within source at.calls
    (activation block at.first) site before

abbrev pub ChoosesBranch : Source → BlockTree → Program → ℕ → Option code.List → Option StmtTrees
    → Type 0
ChoosesBranch source block p k None chosen = chosen ≡ None
ChoosesBranch source block p k (Some l) chosen =
    (body : StmtTrees) × (chosen ≡ Some body) × IsBody source block p k l body

-- what is handed in or out, in frames that are linked
abbrev pub linked_end : Result Unit Stop → Linked → Ended Linked
linked_end (Ok done) l = ended l
linked_end (Err s) l = stop_end s

abbrev pub linked_in : List ℤ → List (Option ℤ) → List (Option ℤ) → Linked
linked_in visible outer inner = record { visible = visible; outer = outer; inner = inner }

abbrev pub HandsIn : Program → Span → ℕ → ℕ → Linked → Result Unit Stop → Linked → Type 0
HandsIn p span caller_first first before result after =
    (source : Source) (block : BlockTree) (site : CallSite) (callee : BlockTree)
    (handed : List Handed)
    → TypesOf source p.types.items
    → AreInward source block p site callee span.first span.end handed
    → linked_end result after ≡ end_of (copy_all_in source (activation block caller_first) site
    (activation callee first) (map (passed_from first) handed) before)

abbrev pub HandsOut : Program → Span → Place → ℕ → ℕ → Linked → Result Unit Stop → Linked → Type 0
HandsOut p span place caller_first first before result after =
    (source : Source) (block : BlockTree) (site : CallSite) (callee : BlockTree)
    (handed : List Handed)
    → TypesOf source p.types.items → place ≡ site.call.place
    → AreOutward source block p site callee span.first span.end handed
    → linked_end result after ≡ end_of (copy_all_out source (activation block caller_first) site
    (activation callee first) (map (passed_from first) handed) before)

-- ---- loops

-- what a list does, as the body of a loop
abbrev pub body_of : Source → At → BlockTree → StmtTrees → Frame → Ending
body_of source at block trees frame =
    run_stmts source (calls_within source at.calls) (activation block at.first) trees frame

abbrev pub RunsWhile : Program → code.List → ℕ → Place → At → Frame → Result Flow Stop → Frame
    → Type 0
RunsWhile p l condition place at before result after = (source : Source) (block : BlockTree)
    (e : ExprTree) (trees : StmtTrees)
    → IsProgram source p → IsValue source block p condition e
    → AreStmts source block p l.first l.end trees
    → ending_of result after ≡ while_turns (λ f. value source (activation block at.first) f e)
    (body_of source at block trees) place source.bound before

abbrev pub RunsRepeat : Program → code.List → ℕ → Place → At → Frame → Result Flow Stop → Frame
    → Type 0
RunsRepeat p l condition place at before result after = (source : Source) (block : BlockTree)
    (e : ExprTree) (trees : StmtTrees)
    → IsProgram source p → IsValue source block p condition e
    → AreStmts source block p l.first l.end trees
    → ending_of result after ≡ repeat_turns (λ f. value source (activation block at.first) f e)
    (body_of source at block trees) place source.bound before

-- a FOR that has begun, with the place of its variable, its step and its own place
abbrev pub counting_of : Begun → Place → ℤ → Place → m.Counting
counting_of begun variable_place by place = record {
  variable = spot_of begun.spot;
  variable_place = variable_place;
  by = by;
  last = begun.last;
  place = place;
}

abbrev pub RunsFor : Program → code.List → Begun → Place → ℤ → Place → At → Frame → Result Flow Stop
    → Frame → Type 0
RunsFor p l begun variable_place by place at before result after = (source : Source)
    (block : BlockTree) (trees : StmtTrees)
    → IsProgram source p → AreStmts source block p l.first l.end trees
    → ending_of result after ≡ for_turns source (counting_of begun variable_place by place)
    (body_of source at block trees) source.bound begun.count before

-- ---- the block that a call runs

-- what is known of the block that a call begins
pub record Begins (source : Source) (block : BlockTree) (p : Program) (at : At) (site : CallSite)
    (s : Started) : Type 0 where
  pub callee : BlockTree
  pub number : ℕ
  pub is : callee_of (record { project = source.project; block = block }) site ≡ runs callee
  pub runs_block : RunsBlock source block p s.call site number callee
  pub code : IsCode source p callee s.code
  pub first : s.at.first ≡ instance_first source (activation block at.first) site.call

abbrev pub Starts : Program → ℕ → At → Option Started → Type 0
Starts p c at None = (source : Source) (block : BlockTree) (site : CallSite) (frame : Frame)
    → IsProgram source p
    → IsCall source block p c site
    → calls_within source at.calls (activation block at.first) site frame ≡ not_made frame
Starts p c at (Some s) = (source : Source) (block : BlockTree) (site : CallSite)
    → IsProgram source p
    → IsCall source block p c site → Begins source block p at site s

-- a called block that is run
abbrev pub RunsBegun : Program → Started → At → Frame → Result (Option ℤ) Stop → Frame → Type 0
RunsBegun p s at before result after = (source : Source) (block : BlockTree) (site : CallSite)
    → IsProgram source p
    → Begins source block p at site s
    → returned_of result after ≡ calls_within source (s.at.calls + 1)
    (activation block at.first) site before
