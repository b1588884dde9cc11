-- A body of instructions at work: up to a call, the call, and on behind it.
use Rattle.std.proofs.Common.{◌≡◌, ℕ, zero, suc, ◌+◌, ◌*◌, ◌<◌, ◌≤◌, ℤ, List, [], ◌∷◌, length, drop, Bool, true, false, Option, Some, None, Ok, arith, ap, sym, subst, refl, ◌∙◌}
use Rattle.std.specs.Prelude.{slice_get}
use Rattle.std.proofs.lemmas.Option.{slice_get_within}
use Rattle.pv_word.specs.declared.types.Ty.{Ty}
use Rattle.pv_tree.specs.Tree.{CallPlain, InstrTree, BlockTree}
use Rattle.pv_mean.specs.Sources.{Source}
use Rattle.pv_mean.specs.Frames.{Frame}
use Rattle.pv_mean.specs.Endings.{Ended, ended, and_end}
use Rattle.pv_mean.specs.Activations.{Activation}
use Rattle.pv_mean.specs.Statements.{Calls, Returned}
use Rattle.pv_mean.specs.Registers.{Working, fresh}
use Rattle.pv_mean.specs.Registers as m
use Rattle.pv_mean.specs.Instructions.{Next, onward, at_word, effect, site_of, makes_call}
use Rattle.pv_mean.specs.InstructionRuns.{here, follow, run_instructions}
use Rattle.pv_eval.specs.Writes.{TypesOf}
use Rattle.pv_eval.specs.declared.target.Target.{Target}
use Rattle.pv_stl_run.specs.declared.instr.Instr.{Instr}
use Rattle.pv_stl_run.specs.declared.instr.Action.{Action}
use Rattle.pv_stl_run.specs.declared.instr.Action.TheVariants as action
use Rattle.pv_stl_run.specs.declared.registers.Registers.{Registers}
use Rattle.pv_stl_run.specs.declared.registers.Nesting.{Nesting}
use Rattle.pv_stl_run.specs.declared.stop.Stop as stl
use Rattle.pv_stl_run.specs.declared.stop.Stop.TheVariants as stl_stop
use Rattle.pv_stl_run.specs.declared.turns.Turn.{Turn}
use Rattle.pv_stl_run.specs.Views.{open_of, registers_of}
use Rattle.pv_stl_run.specs.Code.{working}
use Rattle.pv_stl_run.specs.Going.{entered_of, rest_of, resumed, HasRanges, stop_of, Does, AreInstrs, ranges_in, Nested, nested_at, left_of, frame_end, Went, Fell, WhereOn, Gone, UpToMost}
use Rattle.pv_run.specs.declared.program.Program.{Program}
use Rattle.pv_run.specs.declared.program.Span.{Span}
use Rattle.pv_run.specs.declared.stop.Stop.{Stop}
use Rattle.pv_run.specs.declared.stop.Stop.TheVariants as stop
use Rattle.pv_run.specs.Ends.{stop_end, stop_from}
use Rattle.pv_run.specs.Code.{IsCall, instrs_in, HasInstrs, IsProgram}

-- ---- lists

beside : {A B : Type 0} (xs : List A) (ys : List B) (k : ℕ) (a : A) → length xs ≡ length ys → slice_get xs k ≡ Some a
    → (b : B) × (slice_get ys k ≡ Some b)
beside {A} {B} xs ys k a same e = found ys k (let lt : k < length xs = slice_get_within xs k a e in omega arith) where
  found : (zs : List B) (n : ℕ) → n < length zs → (z : B) × (slice_get zs n ≡ Some z)
  found [] n lt = absurd (omega arith)
  found (z ∷ zs) zero lt = (z, refl)
  found (z ∷ zs) (suc n) lt = found zs n (omega arith)

dropped_at : {A : Type 0} (xs : List A) (k : ℕ) (x : A) → slice_get xs k ≡ Some x → drop k xs ≡ x ∷ drop (suc k) xs
dropped_at [] k x e = absurd (cc)
dropped_at (y ∷ ys) zero x e = ap (λ z. z ∷ ys) (first_is y x e) where
  first_is : {A : Type 0} (a b : A) → Some a ≡ Some b → a ≡ b
  first_is a b h = cc
dropped_at (y ∷ ys) (suc k) x e = dropped_at ys k x e

-- ---- the body

-- what is known of a body's code, where so many turns are at hand
pub record Coded (source : Source) (block : BlockTree) (p : Program) (all : List InstrTree) (code : List Instr) (room : ℕ) : Type 0 where
  pub are : AreInstrs source block p.targets.items p.scratch code all
  pub ranges : ranges_in code ≤ room
  pub calls : (k n : ℕ) (c : Instr) (i : InstrTree) (call : CallPlain) → slice_get code k ≡ Some c → slice_get all k ≡ Some i
      → c.action ≡ action.Call n → i.call ≡ Some call → IsCall source block p n (site_of i call)

pub coded : {source : Source} {block : BlockTree} {p : Program} {s : Span} {all : List InstrTree} → HasInstrs source block p s all
    → (code : List Instr) → code ≡ instrs_in p s → (room : ℕ) → p.ranges ≤ room → Coded source block p all code room
coded {source} {block} {p} {s} {all} h code e room le =
    let its : Coded source block p all (instrs_in p s) room = record {
      are = h.are;
      ranges = omega (arith, h.ranges, le);
      calls = h.calls;
    } in subst (λ x. Coded source block p all x room) (sym e) its

-- as they are lent
pub are_at : {source : Source} {block : BlockTree} {p : Program} {all : List InstrTree} {code : List Instr} {room : ℕ}
    → Coded source block p all code room → (targets : List Target) → targets ≡ p.targets.items
    → AreInstrs source block targets p.scratch code all
are_at {source} {block} {p} {all} {code} h targets e = subst (λ x. AreInstrs source block x p.scratch code all) (sym e) h.are

pub typed : {source : Source} {p : Program} → IsProgram source p → (types : List Ty) → types ≡ p.types.items → TypesOf source types
typed {source} h types e = subst (λ x. TypesOf source x) (sym e) h.types

-- a body's ranges are those of its text
pub has_ranges : {source : Source} {block : BlockTree} {p : Program} {all : List InstrTree} {code : List Instr} {room : ℕ}
    → Coded source block p all code room → HasRanges code all
has_ranges {all = all} {code = code} h = record {
  same = h.are.same;
  each = λ k c e.
      let found = beside code all k c h.are.same e in
      (h.are.each k c found.0 e found.1).range;
}

-- a body that has come to an instruction, with what is left of its run as it was at its start
pub record AtWork (source : Source) (calls : Calls) (act : Activation) (all : List InstrTree) (code : List Instr) (turns : List Turn)
    (entered at : ℕ) (r : Registers) (frame : Frame) (whole : Ended Next) : Type 0 where
  pub same : left_of source calls act all turns entered at (working r frame) ≡ whole
  pub nested : Nested code turns entered (suc at)
  pub depth_is : r.depth ≤ nested_at code at

-- the run of a body, from registers as they are at a block's start
abbrev pub whole_of : Source → Calls → Activation → List InstrTree → Frame → Ended Next
whole_of source calls act all frame =
    run_instructions source calls act all here (record { registers = fresh; frame = frame })

none_open : (all : List Nesting) (n : ℕ) → open_of all n ≡ [] → n ≡ 0
none_open all zero e = refl
none_open all (suc n) e = absurd (cc)

-- registers of a block's start have no open nesting
pub fresh_depth : (r : Registers) → registers_of r ≡ fresh → r.depth ≡ 0
fresh_depth r e = none_open r.nestings r.depth (ap (λ (x : m.Registers). x.nestings) e)

fresh_working : (r : Registers) (frame : Frame) → registers_of r ≡ fresh → working r frame ≡ record { registers = fresh; frame = frame }
fresh_working r frame e = ap (λ (x : m.Registers). let w : Working = record { registers = x; frame = frame } in w) e

-- ---- stops

stop_ends : (s : stl.Stop) → stop_end (stop_from s) ≡ frame_end (stop_of s)
stop_ends (stl_stop.Trap t) = refl
stop_ends (stl_stop.Over place) = refl

-- where instructions stop the block stops
stops_body : (s : stl.Stop) (whole : Ended Next) → stop_of s ≡ whole → stop_end (stop_from s) ≡ frame_end whole
stops_body s whole e = stop_ends s ∙ ap frame_end e

pub stops_so : (x : Stop) (s : stl.Stop) (whole : Ended Next) → x ≡ stop_from s → stop_of s ≡ whole → stop_end x ≡ frame_end whole
stops_so x s whole is e = subst (λ y. stop_end y ≡ frame_end whole) (sym is) (stops_body s whole e)

call_stop_ends : (s : Stop) → stop_end s ≡ frame_end (stop_end s)
call_stop_ends (stop.Trap t) = refl
call_stop_ends (stop.Over place) = refl

pub stops_call : (s : Stop) (whole : Ended Next) → stop_end s ≡ whole → stop_end s ≡ frame_end whole
stops_call s whole e = call_stop_ends s ∙ ap frame_end e

-- ---- the beginning

pub at_start : (source : Source) (calls : Calls) (act : Activation) (all : List InstrTree) (code : List Instr) (turns : List Turn)
    (entered at : ℕ) (r : Registers) (frame : Frame)
    → left_of source calls act all turns entered at (working r frame) ≡ run_instructions source calls act all here (working r frame)
    → registers_of r ≡ fresh → Nested code turns entered (suc at)
    → AtWork source calls act all code turns entered at r frame (whole_of source calls act all frame)
at_start source calls act all code turns entered at r frame same e nested = record {
  same = same ∙ ap (λ (w : Working). run_instructions source calls act all here w) (fresh_working r frame e);
  nested = nested;
  depth_is = (let none : r.depth ≡ 0 = fresh_depth r e in omega arith);
}

-- ---- the end

pub at_end : (source : Source) (calls : Calls) (act : Activation) (all : List InstrTree) (code : List Instr) (turns : List Turn)
    (entered at : ℕ) (r : Registers) (frame after : Frame) (whole : Ended Next)
    → AtWork source calls act all code turns entered at r frame whole
    → frame_end (left_of source calls act all turns entered at (working r frame)) ≡ ended after → ended after ≡ frame_end whole
at_end source calls act all code turns entered at r frame after whole w e = sym e ∙ ap frame_end w.same

pub at_stop : (source : Source) (calls : Calls) (act : Activation) (all : List InstrTree) (code : List Instr) (turns : List Turn)
    (entered at : ℕ) (r : Registers) (frame : Frame) (x : Stop) (s : stl.Stop) (whole : Ended Next)
    → AtWork source calls act all code turns entered at r frame whole → x ≡ stop_from s
    → stop_of s ≡ left_of source calls act all turns entered at (working r frame) → stop_end x ≡ frame_end whole
at_stop source calls act all code turns entered at r frame x s whole w is e = stops_so x s whole is (e ∙ w.same)

-- ---- a call

-- a body that has come to a call of this number, which is that of the call of an instruction
pub record AtCall (source : Source) (block : BlockTree) (p : Program) (all : List InstrTree) (at n : ℕ) : Type 0 where
  pub tree : InstrTree
  pub is : slice_get all at ≡ Some tree
  pub call : CallPlain
  pub its : tree.call ≡ Some call
  pub means : IsCall source block p n (site_of tree call)

does_call : (source : Source) (block : BlockTree) (p : Program) (d : Action) (n : ℕ) (i : InstrTree)
    → Does source block p.targets.items p.scratch d i → d ≡ action.Call n → (call : CallPlain) × (i.call ≡ Some call)
does_call source block p d n i does e = subst (λ x. Does source block p.targets.items p.scratch x i) e does

pub at_call : {source : Source} {block : BlockTree} {p : Program} {all : List InstrTree} {code : List Instr} {room : ℕ}
    → Coded source block p all code room
    → (at n : ℕ) (c : Instr) → slice_get code at ≡ Some c → c.action ≡ action.Call n → AtCall source block p all at n
at_call {source} {block} {p} {all} {code} h at n c e d =
    let found = beside code all at c h.are.same e in
    let its = does_call source block p c.action n found.0 (h.are.each at c found.0 e found.1).does d in
    record {
      tree = found.0;
      is = found.1;
      call = its.0;
      its = its.1;
      means = h.calls at n c found.0 its.0 e found.1 d its.1;
    }

rest_call : (source : Source) (calls : Calls) (act : Activation) (all : List InstrTree) (at : ℕ) (i : InstrTree) (call : CallPlain) (w : Working)
    → slice_get all at ≡ Some i → i.call ≡ Some call
    → rest_of source calls act (drop at all) w
    ≡ and_end (makes_call calls act i call w) (λ next. follow (λ k x. run_instructions source calls act (drop (suc at) all) k x) next)
rest_call source calls act all at i call w e c =
    ap (λ (xs : List InstrTree). rest_of source calls act xs w) (dropped_at all at i e)
    ∙ ap (λ (o : Option CallPlain). and_end (elim o [
      | None ↦ at_word i.place (effect source act i i.op w)
      | Some x ↦ makes_call calls act i x w
    ]) (λ next. follow (λ k x. run_instructions source calls act (drop (suc at) all) k x) next)) c

resumed_stop : (source : Source) (calls : Calls) (act : Activation) (all : List InstrTree) (ts : List Turn) (s : Stop)
    → resumed source calls act all ts (stop_end s) ≡ stop_end s
resumed_stop source calls act all [] s = refl
resumed_stop source calls act all (t ∷ ts) (stop.Trap x) = resumed_stop source calls act all ts (stop.Trap x)
resumed_stop source calls act all (t ∷ ts) (stop.Over place) = resumed_stop source calls act all ts (stop.Over place)

made_stop : (s : Stop) (back : Returned → Ended Next) (next : Next → Ended Next)
    → and_end (and_end (stop_end s) back) next ≡ stop_end s
made_stop (stop.Trap t) back next = refl
made_stop (stop.Over place) back next = refl

-- what stops the call stops the body
pub stops_at_call : (source : Source) (calls : Calls) (act : Activation) (all : List InstrTree) (code : List Instr) (turns : List Turn)
    (entered at : ℕ) (r : Registers) (frame : Frame) (whole : Ended Next) (i : InstrTree) (call : CallPlain) (s : Stop)
    → left_of source calls act all turns entered at (working r frame) ≡ whole
    → slice_get all at ≡ Some i → i.call ≡ Some call → stop_end s ≡ calls act (site_of i call) frame
    → stop_end s ≡ frame_end whole
stops_at_call source calls act all code turns entered at r frame whole i call s same e c stops =
    let back : Returned → Ended Next = λ b. ended (onward (record { registers = fresh; frame = b.frame })) in
    let next : Next → Ended Next = λ n. follow (λ k x. run_instructions source calls act (drop (suc at) all) k x) n in
    stops_call s whole (sym (ap (resumed source calls act all (entered_of turns entered))
    (rest_call source calls act all at i call (working r frame) e c
    ∙ ap (λ (x : Ended Returned). and_end (and_end x back) next) (sym stops)
    ∙ made_stop s back next)
    ∙ resumed_stop source calls act all (entered_of turns entered) s) ∙ same)

-- behind a call the body goes on with registers as at its start
pub call_made : (source : Source) (calls : Calls) (act : Activation) (all : List InstrTree) (turns : List Turn)
    (entered at : ℕ) (r : Registers) (frame after : Frame) (v : Option ℤ) (i : InstrTree) (call : CallPlain)
    → slice_get all at ≡ Some i → i.call ≡ Some call
    → ended (record { frame = after; value = v }) ≡ calls act (site_of i call) frame
    → left_of source calls act all turns entered at (working r frame)
    ≡ resumed source calls act all (entered_of turns entered)
    (run_instructions source calls act (drop (suc at) all) here (record { registers = fresh; frame = after }))
call_made source calls act all turns entered at r frame after v i call e c made =
    let back : Returned → Ended Next = λ b. ended (onward (record { registers = fresh; frame = b.frame })) in
    let next : Next → Ended Next = λ n. follow (λ k x. run_instructions source calls act (drop (suc at) all) k x) n in
    ap (resumed source calls act all (entered_of turns entered))
    (rest_call source calls act all at i call (working r frame) e c
    ∙ ap (λ (x : Ended Returned). and_end (and_end x back) next) (sym made))

-- ---- behind a call

pub behind_on : (source : Source) (calls : Calls) (act : Activation) (all : List InstrTree) (code : List Instr) (old new : List Turn)
    (old_entered old_at entered at : ℕ) (r : Registers) (frame : Frame) (whole : Ended Next) (b : Bool) → b ≡ true
    → registers_of r ≡ fresh
    → resumed source calls act all (entered_of old old_entered)
    (run_instructions source calls act (drop (suc old_at) all) here (record { registers = fresh; frame = frame })) ≡ whole
    → Went (Ok b) (left_of source calls act all new entered at (working r frame)) frame
    (resumed source calls act all (entered_of old old_entered) (run_instructions source calls act (drop (suc old_at) all) here (working r frame)))
    → WhereOn (Ok b) (Nested code new entered (suc at))
    → AtWork source calls act all code new entered at r frame whole
behind_on source calls act all code old new old_entered old_at entered at r frame whole true b e left went nested = record {
  same = went ∙ ap (λ (w : Working). resumed source calls act all (entered_of old old_entered)
      (run_instructions source calls act (drop (suc old_at) all) here w)) (fresh_working r frame e) ∙ left;
  nested = nested;
  depth_is = (let none : r.depth ≡ 0 = fresh_depth r e in omega arith);
}
behind_on source calls act all code old new old_entered old_at entered at r frame whole false b e left went nested = absurd (cc)

pub behind_off : (source : Source) (calls : Calls) (act : Activation) (all : List InstrTree) (old new : List Turn)
    (old_entered old_at entered at : ℕ) (r : Registers) (frame : Frame) (whole : Ended Next) (b : Bool) → b ≡ false
    → registers_of r ≡ fresh
    → resumed source calls act all (entered_of old old_entered)
    (run_instructions source calls act (drop (suc old_at) all) here (record { registers = fresh; frame = frame })) ≡ whole
    → Went (Ok b) (left_of source calls act all new entered at (working r frame)) frame
    (resumed source calls act all (entered_of old old_entered) (run_instructions source calls act (drop (suc old_at) all) here (working r frame)))
    → ended frame ≡ frame_end whole
behind_off source calls act all old new old_entered old_at entered at r frame whole true b e left went = absurd (cc)
behind_off source calls act all old new old_entered old_at entered at r frame whole false b e left went =
    sym went ∙ ap frame_end (ap (λ (w : Working). resumed source calls act all (entered_of old old_entered)
    (run_instructions source calls act (drop (suc old_at) all) here w)) (fresh_working r frame e) ∙ left)

pub behind_stop : (source : Source) (calls : Calls) (act : Activation) (all : List InstrTree) (old : List Turn)
    (old_entered old_at : ℕ) (r : Registers) (frame : Frame) (whole : Ended Next) (x : Stop) (s : stl.Stop) → x ≡ stop_from s
    → registers_of r ≡ fresh
    → resumed source calls act all (entered_of old old_entered)
    (run_instructions source calls act (drop (suc old_at) all) here (record { registers = fresh; frame = frame })) ≡ whole
    → stop_of s
    ≡ resumed source calls act all (entered_of old old_entered) (run_instructions source calls act (drop (suc old_at) all) here (working r frame))
    → stop_end x ≡ frame_end whole
behind_stop source calls act all old old_entered old_at r frame whole x s is e left stops =
    stops_so x s whole is (stops ∙ ap (λ (w : Working). resumed source calls act all (entered_of old old_entered)
    (run_instructions source calls act (drop (suc old_at) all) here w)) (fresh_working r frame e) ∙ left)

-- ---- where `go` has come

pub up_to : (o : Option ℕ) (n : ℕ) (to : ℕ → Type 0) (frame : Frame) (before : Ended Next) → o ≡ Some n → Gone (Ok o) to frame before → to n
up_to o n to frame before e h = subst (λ x. Gone (Ok x) to frame before) e h

pub gone_end : (o : Option ℕ) (to : ℕ → Type 0) (frame : Frame) (before : Ended Next) → o ≡ None → Gone (Ok o) to frame before
    → frame_end before ≡ ended frame
gone_end o to frame before e h = subst (λ x. Gone (Ok x) to frame before) e h

-- ---- how much is left

pub up_most : (o : Option ℕ) (n now before : ℕ) → o ≡ Some n → UpToMost (Ok o) now before → now ≤ before
up_most o n now before e h = subst (λ x. UpToMost (Ok x) now before) e h

pub fewer : (b : Bool) (now behind before : ℕ) → b ≡ true → Fell (Ok b) now behind → behind ≤ before → now < before
fewer true now behind before e fell le = omega arith
fewer false now behind before e fell le = absurd (cc)

-- ---- room

pub room_own : (n w room : ℕ) → (n + 1) * w ≤ room → w ≤ room
room_own n w room h = let grown : (n + 1) * w ≡ n * w + w = omega arith in omega (arith, grown, h)

pub room_under : (n w room : ℕ) → (n + 1) * w ≤ room → n * w ≤ room
room_under n w room h = let grown : (n + 1) * w ≡ n * w + w = omega arith in omega (arith, grown, h)

pub room_next : (n k w room : ℕ) → k ≡ n + 1 → k * w ≤ room → (n + 1) * w ≤ room
room_next n k w room e h = subst (λ x. x * w ≤ room) e h

-- so many turns as a body may need are its own
pub turns_own : (w most n front : ℕ) → (w ≤ most → n ≡ w) → w ≤ most → front ≡ n → w ≤ front
turns_own w most n front same le e = let is : n ≡ w = same le in omega (arith, is, e)
