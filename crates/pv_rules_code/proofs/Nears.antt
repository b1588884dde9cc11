-- The nearest places so far after one more statement, instruction or block.
use Rattle.std.proofs.Common.{◌≡◌, refl, sym, ap, subst, ◌∙◌, List, [], ◌∷◌, ◌++◌, Option, Some, None, true, false, Result, Ok, Err}
use Rattle.std.specs.Prelude.{option_and_then, flat_map, if◌then◌else◌, OnOk}
use Rattle.pv_place.specs.declared.place.Place.{Place}
use Rattle.pv_tree.specs.declared.stmt.Choice.{Choice}
use Rattle.pv_tree.specs.Tree.{ExprTree, OperandTree, ArgTree, StmtTree, StmtTrees, ArmTrees, ElseTree, if_, while_, repeat_, InstrTree, scl, stl}
use Rattle.pv_tree.specs.Callees.{CallSite, Callee, callee_of, block_of_callee}
use Rattle.pv_tree.specs.LiteralTypes.{Want, nothing}
use Rattle.pv_tree.specs.Scopes.{Scope}
use Rattle.pv_tree.specs.Parts.{Loop, Part, parts_of, parts_of_call, conditions_of, spots_of_body, spots_of_stmts, instructions_of}
use Rattle.pv_tree.specs.InstructionGroups.{Group, group_of, operand_of_instruction, bit_read, bit_written, load, transfer, word_logic, double_logic, word_shift, double_shift, no_operation, display, jump, opening, closing, block_end, calling, alone, is_jump, is_written}
use Rattle.pv_rules_expr.specs.Near.{near_at}
use Rattle.pv_rules_expr.specs.Nearest.{nearer_of}
use Rattle.pv_rules_expr.specs.NearestIn.{nearest_in}
use Rattle.pv_rules_expr.specs.Looks.{near_parts}
use Rattle.pv_rules_expr.specs.declared.near.Near.{Near}
use Rattle.pv_rules_expr.specs.declared.search.Look.{Look}
use Rattle.pv_rules_expr.proofs.ForCallers.{near_two, nearer_none, nearer_joins, in_from, parts_from}
use Rattle.pv_rules_code.specs.AtAssignments.{bound_at}
use Rattle.pv_rules_code.specs.AtCalls.{arg_parts, arg_place, call_place, date_at, not_declared_at}
use Rattle.pv_rules_code.specs.AtCases.{value_at}
use Rattle.pv_rules_code.specs.AtGiven.{lacking_at, later_at}
use Rattle.pv_rules_code.specs.AtStatements.{condition_at, leave_of, leave_place}
use Rattle.pv_rules_code.specs.AtTargets.{target_place, named_place}
use Rattle.pv_rules_code.specs.Nears.{near_site, HasAims, HasAsks, HasCounts, HasStrides, HasParts, HasPicks, HasPassesIn, HasSites, HasSitesIn, near_aim, near_ask, near_count, near_pass, near_pick, near_stride}
use Rattle.pv_rules_code.specs.Sites.{site_place, instr_place, instr_target, body_place}
use Rattle.pv_rules_code.specs.Spots.{spot}
use Rattle.pv_rules_code.specs.declared.near.SiteNear.{SiteNear}
use Rattle.pv_rules_code.specs.declared.near.AimNear.{AimNear}
use Rattle.pv_rules_code.specs.declared.near.AskNear.{AskNear}
use Rattle.pv_rules_code.specs.Sought.Aim.{Aim}
use Rattle.pv_rules_code.specs.Sought.Aim as aim
use Rattle.pv_rules_code.specs.Sought.Ask as ask
use Rattle.pv_rules_code.specs.Sought.Pick.{Pick}
use Rattle.pv_rules_code.specs.Sought.Site.{Site}
use Rattle.pv_rules_code.specs.Sought.Site.{Parts, Misfit, Target, CountedTarget, Call, Counter, By, Selector, Value, Condition, Leave}

-- ---- expressions

pub one_list : (what : Look) (scope : Scope) (xs : List Part) (old new : Option Place) → new ≡ near_parts what scope xs old
    → new ≡ nearer_of old (near_parts what scope xs None)
one_list what scope xs old new is = is ∙ parts_from what scope xs old

pub two_lists : (what : Look) (scope : Scope) (xs ys : List Part) (old mid new : Option Place) → mid ≡ near_parts what scope xs old
    → new ≡ near_parts what scope ys mid → new ≡ nearer_of old (near_parts what scope (xs ++ ys) None)
two_lists what scope xs ys old mid new first second =
    near_two what scope xs ys old mid new first second ∙ parts_from what scope (xs ++ ys) old

-- a target and the value that it takes
pub then_value : (what : Look) (scope : Scope) (xs : List Part) (v w : Want) (e : ExprTree) (old mid new : Option Place) → v ≡ w
    → mid ≡ near_parts what scope xs old → new ≡ near_parts what scope (parts_of scope v e) mid
    → new ≡ nearer_of old (near_parts what scope (xs ++ parts_of scope w e) None)
then_value what scope xs v w e old mid new is first second =
    two_lists what scope xs (parts_of scope w e) old mid new first (second ∙ ap (λ w. near_parts what scope (parts_of scope w e) mid) is)

-- the start and the end of a FOR
pub both_bounds : (what : Look) (scope : Scope) (v w : Want) (a b : ExprTree) (old mid new : Option Place) → v ≡ w
    → mid ≡ near_parts what scope (parts_of scope v a) old → new ≡ near_parts what scope (parts_of scope v b) mid
    → new ≡ nearer_of old (near_parts what scope (parts_of scope w a ++ parts_of scope w b) None)
both_bounds what scope v w a b old mid new is first second =
    then_value what scope (parts_of scope w a) v w b old mid new is (first ∙ ap (λ w. near_parts what scope (parts_of scope w a) old) is) second

pub both_misfits : (scope : Scope) (v w : Want) (a b : ExprTree) (old mid new : Option Place) → v ≡ w
    → mid ≡ nearer_of old (bound_at scope v a) → new ≡ nearer_of mid (bound_at scope v b)
    → new ≡ nearer_of old (nearer_of (bound_at scope w a) (bound_at scope w b))
both_misfits scope v w a b old mid new is first second =
    second ∙ ap (λ m. nearer_of m (bound_at scope v b)) first ∙ nearer_joins old (bound_at scope v a) (bound_at scope v b)
    ∙ ap (λ w. nearer_of old (nearer_of (bound_at scope w a) (bound_at scope w b))) is

-- ---- group by group

-- what a group has where nothing is found
pub kept : (n : Option Place) → n ≡ nearer_of n None
kept n = sym (nearer_none n)

pub all_sites : (f : Site → Option Place) (old new : SiteNear)
    → ((what : Look) → near_at what new.parts ≡ nearer_of (near_at what old.parts) (f (Parts what)))
    → HasAims (λ what. f (Target what)) old.aims new.aims
    → new.counted ≡ nearer_of old.counted (f CountedTarget)
    → HasAsks (λ what. f (Call what)) old.asks new.asks
    → HasCounts (λ what. f (Counter what)) old.counts new.counts
    → HasStrides (λ what. f (By what)) old.strides new.strides
    → HasPicks (λ what. f (Value what)) old.picks new.picks
    → new.misfit ≡ nearer_of old.misfit (f Misfit)
    → new.selector ≡ nearer_of old.selector (f Selector)
    → new.condition ≡ nearer_of old.condition (f Condition)
    → new.leave ≡ nearer_of old.leave (f Leave)
    → HasSites f old new
all_sites f old new parts aims counted asks counts strides picks misfit selector condition leave (Parts what) = parts what
all_sites f old new parts aims counted asks counts strides picks misfit selector condition leave Misfit = misfit
all_sites f old new parts aims counted asks counts strides picks misfit selector condition leave (Target what) = aims what
all_sites f old new parts aims counted asks counts strides picks misfit selector condition leave CountedTarget = counted
all_sites f old new parts aims counted asks counts strides picks misfit selector condition leave (Call what) = asks what
all_sites f old new parts aims counted asks counts strides picks misfit selector condition leave (Counter what) = counts what
all_sites f old new parts aims counted asks counts strides picks misfit selector condition leave (By what) = strides what
all_sites f old new parts aims counted asks counts strides picks misfit selector condition leave Selector = selector
all_sites f old new parts aims counted asks counts strides picks misfit selector condition leave (Value what) = picks what
all_sites f old new parts aims counted asks counts strides picks misfit selector condition leave Condition = condition
all_sites f old new parts aims counted asks counts strides picks misfit selector condition leave Leave = leave

-- a statement that is neither EXIT nor CONTINUE
pub not_left : (n : Option Place) (loops : List Loop) (s : StmtTree) → leave_of s ≡ None → n ≡ nearer_of n (leave_place loops s)
not_left n [] s none = kept n ∙ ap (nearer_of n) (sym none)
not_left n (l ∷ loops) s none = kept n

-- a condition of a loop
abbrev pub conditioned : SiteNear → Near → Option Place → SiteNear
conditioned n parts condition = record {
  parts = parts;
  aims = n.aims;
  counted = n.counted;
  asks = n.asks;
  counts = n.counts;
  strides = n.strides;
  picks = n.picks;
  misfit = n.misfit;
  selector = n.selector;
  condition = condition;
  leave = n.leave;
}

module _ (scope : Scope) (loops : List Loop) (e : ExprTree) (body : StmtTrees) (place : Place) (old : SiteNear) (p : Near) (k : Option Place) where
  pub at_while : HasParts scope (parts_of scope nothing e) old.parts p → k ≡ nearer_of old.condition (condition_at scope e)
      → HasSites (λ what. site_place what scope (spot loops (while_ e body place))) old (conditioned old p k)
  at_while parts condition =
      all_sites (λ what. site_place what scope (spot loops (while_ e body place))) old (conditioned old p k)
      (λ what. one_list what scope (parts_of scope nothing e) (near_at what old.parts) (near_at what p) (parts what))
      (λ what. kept (near_aim what old.aims)) (kept old.counted) (λ what. kept (near_ask what old.asks)) (λ what. kept (near_count what old.counts))
      (λ what. kept (near_stride what old.strides)) (λ what. kept (near_pick what old.picks)) (kept old.misfit) (kept old.selector) condition
      (not_left old.leave loops (while_ e body place) refl)

  pub at_repeat : HasParts scope (parts_of scope nothing e) old.parts p → k ≡ nearer_of old.condition (condition_at scope e)
      → HasSites (λ what. site_place what scope (spot loops (repeat_ body e place))) old (conditioned old p k)
  at_repeat parts condition =
      all_sites (λ what. site_place what scope (spot loops (repeat_ body e place))) old (conditioned old p k)
      (λ what. one_list what scope (parts_of scope nothing e) (near_at what old.parts) (near_at what p) (parts what))
      (λ what. kept (near_aim what old.aims)) (kept old.counted) (λ what. kept (near_ask what old.asks)) (λ what. kept (near_count what old.counts))
      (λ what. kept (near_stride what old.strides)) (λ what. kept (near_pick what old.picks)) (kept old.misfit) (kept old.selector) condition
      (not_left old.leave loops (repeat_ body e place) refl)

-- the conditions of an IF
pub at_arms : (scope : Scope) (loops : List Loop) (es : List ExprTree) (all : ArmTrees) (other : ElseTree) (place : Place) (old : SiteNear) (p : Near)
    (k : Option Place) → conditions_of all ≡ es → HasParts scope (flat_map (parts_of scope nothing) es) old.parts p
    → k ≡ nearest_in (condition_at scope) es old.condition
    → HasSites (λ what. site_place what scope (spot loops (if_ all other place))) old (conditioned old p k)
at_arms scope loops es all other place old p k seen parts condition =
    all_sites (λ what. site_place what scope (spot loops (if_ all other place))) old (conditioned old p k)
    (λ what. one_list what scope (flat_map (parts_of scope nothing) es) (near_at what old.parts) (near_at what p) (parts what)
    ∙ ap (λ es. nearer_of (near_at what old.parts) (near_parts what scope (flat_map (parts_of scope nothing) es) None)) (sym seen))
    (λ what. kept (near_aim what old.aims)) (kept old.counted) (λ what. kept (near_ask what old.asks)) (λ what. kept (near_count what old.counts))
    (λ what. kept (near_stride what old.strides)) (λ what. kept (near_pick what old.picks)) (kept old.misfit) (kept old.selector)
    (condition ∙ in_from (condition_at scope) es old.condition
    ∙ ap (λ es. nearer_of old.condition (nearest_in (condition_at scope) es None)) (sym seen))
    (not_left old.leave loops (if_ all other place) refl)

-- a statement by its form
pub by_form : {T E : Type 0} (r : Result T E) (scope : Scope) (loops : List Loop) (s t : StmtTree) (old new : SiteNear) → s ≡ t
    → OnOk r (HasSites (λ what. site_place what scope (spot loops t)) old new) → OnOk r (HasSites (λ what. site_place what scope (spot loops s)) old new)
by_form r scope loops s t old new is has =
    subst (λ t. OnOk r (HasSites (λ what. site_place what scope (spot loops t)) old new)) (sym is) has

-- ---- calls

pub call_parts : (what : Look) (scope : Scope) (s : CallSite) (k : Callee) (args : List ArgTree) (old new : Option Place) → k ≡ callee_of scope s
    → args ≡ s.call.args → new ≡ near_parts what scope (flat_map (arg_parts scope k s.how) args) old
    → new ≡ near_parts what scope (parts_of_call scope s) old
call_parts what scope s k args old new is same has =
    has ∙ ap (λ k. near_parts what scope (flat_map (arg_parts scope k s.how) args) old) is
    ∙ ap (λ args. near_parts what scope (flat_map (arg_parts scope (callee_of scope s) s.how) args) old) same

module _ (scope : Scope) (loops : List Loop) (s : CallSite) (k : Callee) (args : List ArgTree) (old new : AskNear) where
  pub call_asks : k ≡ callee_of scope s → args ≡ s.call.args
      → new.missing ≡ nearer_of old.missing (not_declared_at k)
      → new.date ≡ nearer_of old.date (date_at scope s.call)
      → new.later ≡ nearer_of old.later (option_and_then (later_at s) (block_of_callee k))
      → new.lacking ≡ nearer_of old.lacking (option_and_then (lacking_at s) (block_of_callee k))
      → HasPassesIn (λ what. arg_place what scope loops k s.how) args old.args new.args
      → HasAsks (λ what. call_place what scope loops s) old new
  call_asks is same missing date later lacking passes ask.Missing = missing ∙ ap (λ k. nearer_of old.missing (not_declared_at k)) is
  call_asks is same missing date later lacking passes ask.Date = date
  call_asks is same missing date later lacking passes ask.Later =
      later ∙ ap (λ k. nearer_of old.later (option_and_then (later_at s) (block_of_callee k))) is
  call_asks is same missing date later lacking passes ask.Lacking =
      lacking ∙ ap (λ k. nearer_of old.lacking (option_and_then (lacking_at s) (block_of_callee k))) is
  call_asks is same missing date later lacking passes (ask.Args what) =
      passes what ∙ in_from (arg_place what scope loops k s.how) args (near_pass what old.args)
      ∙ ap (λ k. nearer_of (near_pass what old.args) (nearest_in (arg_place what scope loops k s.how) args None)) is
      ∙ ap (λ args. nearer_of (near_pass what old.args) (nearest_in (arg_place what scope loops (callee_of scope s) s.how) args None)) same

-- ---- values

pub picked : (what : Pick) (scope : Scope) (v w : Want) (xs : List Choice) (old new : Option Place) → v ≡ w
    → new ≡ nearest_in (value_at what scope v) xs old → new ≡ nearer_of old (nearest_in (value_at what scope w) xs None)
picked what scope v w xs old new is has =
    has ∙ ap (λ w. nearest_in (value_at what scope w) xs old) is ∙ in_from (value_at what scope w) xs old

-- ---- targets

-- an operand that is assigned
pub assigned : (scope : Scope) (o : OperandTree) (what : Aim) → named_place true what scope o ≡ target_place what scope o
assigned scope o aim.Fixed = refl
assigned scope o aim.Missing = refl
assigned scope o aim.Address = refl
assigned scope o aim.Misused = refl
assigned scope o aim.Beyond = refl

pub at_target : (scope : Scope) (o : OperandTree) (old new : AimNear) → HasAims (λ what. named_place true what scope o) old new
    → HasAims (λ what. target_place what scope o) old new
at_target scope o old new has = λ what. has what ∙ ap (nearer_of (near_aim what old)) (assigned scope o what)

-- an operand of an instruction
only_named : (scope : Scope) (o : Option OperandTree) → None ≡ option_and_then (named_place false aim.Fixed scope) o
only_named scope None = refl
only_named scope (Some o) = refl

pub written_named : (scope : Scope) (g : Group) (o : Option OperandTree)
    → option_and_then (target_place aim.Fixed scope) (if is_written g then o else None)
    ≡ option_and_then (named_place (is_written g) aim.Fixed scope) (if is_jump g then None else o)
written_named scope bit_written o = refl
written_named scope transfer o = refl
written_named scope jump o = refl
written_named scope bit_read o = only_named scope o
written_named scope load o = only_named scope o
written_named scope word_logic o = only_named scope o
written_named scope double_logic o = only_named scope o
written_named scope word_shift o = only_named scope o
written_named scope double_shift o = only_named scope o
written_named scope no_operation o = only_named scope o
written_named scope display o = only_named scope o
written_named scope opening o = only_named scope o
written_named scope closing o = only_named scope o
written_named scope block_end o = only_named scope o
written_named scope calling o = only_named scope o
written_named scope alone o = only_named scope o

pub at_named : (scope : Scope) (i : InstrTree) (old new : AimNear)
    → HasAims (λ what. option_and_then (named_place (is_written (group_of i.op)) what scope) (operand_of_instruction i)) old new
    → HasAims (λ what. instr_target what scope i) old new
at_named scope i old new has aim.Fixed = has aim.Fixed ∙ ap (nearer_of old.fixed) (sym (written_named scope (group_of i.op) i.operand))
at_named scope i old new has aim.Missing = has aim.Missing
at_named scope i old new has aim.Address = has aim.Address
at_named scope i old new has aim.Misused = has aim.Misused
at_named scope i old new has aim.Beyond = has aim.Beyond

-- ---- bodies

pub scl_body : (scope : Scope) (list : StmtTrees) (old new : SiteNear) → scope.block.body ≡ scl list
    → HasSitesIn (λ what. site_place what scope) (spots_of_stmts [] list) old new → HasSites (λ what. body_place what scope) old new
scl_body scope list old new is has = λ what.
    has what ∙ in_from (site_place what scope) (spots_of_stmts [] list) (near_site what old)
    ∙ ap (λ b. nearer_of (near_site what old) (nearest_in (instr_place what scope) (instructions_of b) (nearest_in (site_place what scope) (spots_of_body b) None)))
    (sym is)

pub stl_body : (scope : Scope) (list : List InstrTree) (old new : SiteNear) → scope.block.body ≡ stl list
    → HasSitesIn (λ what. instr_place what scope) list old new → HasSites (λ what. body_place what scope) old new
stl_body scope list old new is has = λ what.
    has what ∙ in_from (instr_place what scope) list (near_site what old)
    ∙ ap (λ b. nearer_of (near_site what old) (nearest_in (instr_place what scope) (instructions_of b) (nearest_in (site_place what scope) (spots_of_body b) None)))
    (sym is)

-- ---- clauses

-- what two clauses of a call say
pub both_ok : {T E P Q R : Type 0} (r : Result T E) → (P → Q → R) → OnOk r P → OnOk r Q → OnOk r R
both_ok (Ok t) f p q = f p q
both_ok (Err e) f p q = tt
