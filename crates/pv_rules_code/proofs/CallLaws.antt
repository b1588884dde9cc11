-- What is nearest at the calls of a project is the least place at which its rule is broken.
use Rattle.std.proofs.Common.{◌≡◌, inl, inr, refl, sym, ap, subst, List, [], Option, Some, None, Bool, true, false, ◌&&◌, true≢false, IsTrue, is_some}
use Rattle.std.specs.Prelude.{◌⊎◌, Any, option_to_list, option_and_then, unwrap_or}
use Rattle.pv_place.specs.declared.place.Place.{Place}
use Rattle.pv_tree.specs.Tree.{ExprTree, ArgTree}
use Rattle.pv_tree.specs.Scopes.{ProjectTree, Scope}
use Rattle.pv_tree.specs.Things.{first_place}
use Rattle.pv_tree.specs.Callees.{CallSite, Callee, runs, not_declared, not_callable, unknown, callee_of, called_name, Param, param_of_arg}
use Rattle.pv_tree.specs.Parts.{Loop, calls_of, calls_of_stmt, calls_of_instruction, operand_of}
use Rattle.pv_tree.specs.Rules.Targets.{IsFixedArgument, IsFixedOutput, goes_out_where, isnt_assignable}
use Rattle.pv_tree.specs.Rules.Misfits.{MisfitsArg, MisfitsParam, CallsDate, is_called_date}
use Rattle.pv_rules_expr.specs.Nearest.{is_before, IsNearest}
use Rattle.pv_rules_code.specs.AtCalls.{not_declared_at, first_date_at, second_date_at, date_at, misfits_param, misfit_at, output_at, arg_place, call_place}
use Rattle.pv_rules_code.specs.Sites.{in_block, project_place}
use Rattle.pv_rules_expr.specs.Looks.{nearer_of}
use Rattle.pv_rules_code.specs.Sought.Site as site
use Rattle.pv_rules_code.specs.Sought.Ask.{Ask}
use Rattle.pv_rules_code.specs.Sought.Ask as ask
use Rattle.pv_rules_code.specs.Sought.Pass as pass
use Rattle.pv_rules_expr.proofs.ForCallers.{itself}
use Rattle.pv_rules_expr.proofs.ForCallers.{nearest_same, nearest_both, nearest_where}
use Rattle.pv_rules_expr.proofs.ForCallers.{in_any, nearest_is}
use Rattle.pv_rules_code.proofs.AnyLaws.{any_map, any_either, of_option_any}
use Rattle.pv_rules_code.proofs.SiteLaws.{over_project, on_both}

-- ---- over the calls of a project

pub on_calls : (what : Ask) (R : Scope → Place → CallSite → Type 0)
    → ((scope : Scope) (loops : List Loop) (c : CallSite) → IsNearest (λ at. R scope at c) (call_place what scope loops c))
    → (project : ProjectTree)
    → IsNearest (λ at. Any (λ b. Any (R (in_block project b) at) (calls_of b)) project.blocks) (project_place (site.Call what) project)
on_calls what R one project =
    on_both (λ scope s. calls_of_stmt s.stmt) (λ scope i. calls_of_instruction i) R project (project_place (site.Call what) project)
    (over_project (site.Call what) (λ scope at s. Any (R scope at) (calls_of_stmt s.stmt)) (λ scope at i. Any (R scope at) (calls_of_instruction i))
    (λ scope s. in_any (λ c at. R scope at c) (call_place what scope s.loops) (one scope s.loops) (calls_of_stmt s.stmt))
    (λ scope i. in_any (λ c at. R scope at c) (call_place what scope []) (one scope []) (calls_of_instruction i)) project)

abbrev pub OnCalls : (Scope → Place → CallSite → Type 0) → ProjectTree → Place → Type 0
OnCalls R project at = Any (λ b. Any (R (in_block project b) at) (calls_of b)) project.blocks

-- two rules on calls as one
pub join_calls : (P Q : Scope → Place → CallSite → Type 0) (project : ProjectTree) (x y : Option Place) → IsNearest (OnCalls P project) x
    → IsNearest (OnCalls Q project) y → IsNearest (OnCalls (λ scope at s. P scope at s ⊎ Q scope at s) project) (nearer_of x y)
join_calls P Q project x y hx hy =
    nearest_same (λ at. OnCalls P project at ⊎ OnCalls Q project at) (OnCalls (λ scope at s. P scope at s ⊎ Q scope at s) project) (nearer_of x y)
    (λ at e. elim e [
      | inl a ↦ any_map (λ b. Any (P (in_block project b) at) (calls_of b))
          (λ b. Any (λ s. P (in_block project b) at s ⊎ Q (in_block project b) at s) (calls_of b))
          (λ b g. any_map (P (in_block project b) at) (λ s. P (in_block project b) at s ⊎ Q (in_block project b) at s) (λ s p. inl p)
          (calls_of b) g) project.blocks a
      | inr a ↦ any_map (λ b. Any (Q (in_block project b) at) (calls_of b))
          (λ b. Any (λ s. P (in_block project b) at s ⊎ Q (in_block project b) at s) (calls_of b))
          (λ b g. any_map (Q (in_block project b) at) (λ s. P (in_block project b) at s ⊎ Q (in_block project b) at s) (λ s q. inr q)
          (calls_of b) g) project.blocks a
    ])
    (λ at a. any_either (λ b. Any (P (in_block project b) at) (calls_of b)) (λ b. Any (Q (in_block project b) at) (calls_of b)) project.blocks
    (any_map (λ b. Any (λ s. P (in_block project b) at s ⊎ Q (in_block project b) at s) (calls_of b))
    (λ b. Any (P (in_block project b) at) (calls_of b) ⊎ Any (Q (in_block project b) at) (calls_of b))
    (λ b g. any_either (P (in_block project b) at) (Q (in_block project b) at) (calls_of b) g) project.blocks a))
    (nearest_both (OnCalls P project) (OnCalls Q project) x y hx hy)

-- the same at each call
pub same_calls : (P Q : Scope → Place → CallSite → Type 0) (project : ProjectTree) (o : Option Place)
    → ((scope : Scope) (at : Place) (s : CallSite) → P scope at s → Q scope at s)
    → ((scope : Scope) (at : Place) (s : CallSite) → Q scope at s → P scope at s) → IsNearest (OnCalls P project) o → IsNearest (OnCalls Q project) o
same_calls P Q project o to from h =
    nearest_same (OnCalls P project) (OnCalls Q project) o
    (λ at a. any_map (λ b. Any (P (in_block project b) at) (calls_of b)) (λ b. Any (Q (in_block project b) at) (calls_of b))
    (λ b g. any_map (P (in_block project b) at) (Q (in_block project b) at) (to (in_block project b) at) (calls_of b) g) project.blocks a)
    (λ at a. any_map (λ b. Any (Q (in_block project b) at) (calls_of b)) (λ b. Any (P (in_block project b) at) (calls_of b))
    (λ b g. any_map (Q (in_block project b) at) (P (in_block project b) at) (from (in_block project b) at) (calls_of b) g) project.blocks a)
    h

-- ---- callees

declared_nearest : (c : Callee) → IsNearest (λ at. c ≡ not_declared at) (not_declared_at c)
declared_nearest (runs b) = λ at e. true≢false (ap is_some (sym (ap not_declared_at e)))
declared_nearest (not_declared p) = (refl, λ at e. subst (λ x. IsTrue (is_before p x)) (ap (λ c. unwrap_or (not_declared_at c) p) e) (itself p))
declared_nearest (not_callable p) = λ at e. true≢false (ap is_some (sym (ap not_declared_at e)))
declared_nearest unknown = λ at e. true≢false (ap is_some (sym (ap not_declared_at e)))

pub missing_callee : (project : ProjectTree)
    → IsNearest (λ at. Any (λ b. Any (λ s. callee_of (in_block project b) s ≡ not_declared at) (calls_of b)) project.blocks)
    (project_place (site.Call ask.Missing) project)
missing_callee project = on_calls ask.Missing (λ scope at s. callee_of scope s ≡ not_declared at) (λ scope loops c. declared_nearest (callee_of scope c)) project

-- ---- dates

date_nearest : (scope : Scope) (c : CallSite) → IsNearest (λ at. CallsDate scope at c.call) (date_at scope c.call)
date_nearest scope c =
    nearest_both (λ at. (c.call.name_place ≡ at) × IsTrue (is_called_date (called_name scope c.call.name c.call.hash)))
    (λ at. Any (λ n. (n.1 ≡ at) × IsTrue (is_called_date (called_name scope n.0 false))) (option_to_list c.call.base))
    (first_date_at scope c.call) (option_and_then (second_date_at scope) c.call.base)
    (nearest_where (is_called_date (called_name scope c.call.name c.call.hash)) c.call.name_place)
    (of_option_any (λ n at. (n.1 ≡ at) × IsTrue (is_called_date (called_name scope n.0 false))) (second_date_at scope)
    (λ n. nearest_where (is_called_date (called_name scope n.0 false)) n.1) c.call.base)

pub called_date : (project : ProjectTree)
    → IsNearest (λ at. Any (λ b. Any (λ s. CallsDate (in_block project b) at s.call) (calls_of b)) project.blocks)
    (project_place (site.Call ask.Date) project)
called_date project = on_calls ask.Date (λ scope at s. CallsDate scope at s.call) (λ scope loops c. date_nearest scope c) project

-- ---- arguments

both_true : (a b : Bool) → IsTrue a → IsTrue b → IsTrue (a && b)
both_true true b h g = g
both_true false b h g = absurd (true≢false (sym h))

first_true : (a b : Bool) → IsTrue (a && b) → IsTrue a
first_true true b h = refl
first_true false b h = h

second_true : (a b : Bool) → IsTrue (a && b) → IsTrue b
second_true true b h = h
second_true false b h = absurd (true≢false (sym h))

pub nearest_where_both : (a b : Bool) (place : Place) (o : Option Place) → IsNearest (λ at. (place ≡ at) × IsTrue (a && b)) o
    → IsNearest (λ at. (place ≡ at) × IsTrue a × IsTrue b) o
nearest_where_both a b place o h =
    nearest_same (λ at. (place ≡ at) × IsTrue (a && b)) (λ at. (place ≡ at) × IsTrue a × IsTrue b) o
    (λ at g. (g.0, first_true a b g.1, second_true a b g.1)) (λ at g. (g.0, both_true a b g.1 g.2)) h

output_nearest : (scope : Scope) (c : CallSite) (a : ArgTree)
    → IsNearest (λ at. IsFixedArgument scope at c a) (output_at scope (param_of_arg scope c a) a)
output_nearest scope c a =
    nearest_where_both (goes_out_where (param_of_arg scope c a)) (isnt_assignable scope (operand_of a.value)) (first_place a.value)
    (output_at scope (param_of_arg scope c a) a)
    (nearest_where (goes_out_where (param_of_arg scope c a) && isnt_assignable scope (operand_of a.value)) (first_place a.value))

pub fixed_output : (project : ProjectTree) (o : Option Place) → o ≡ project_place (site.Call (ask.Args pass.Output)) project
    → IsNearest (IsFixedOutput project) o
fixed_output project o is =
    nearest_is (IsFixedOutput project) o (project_place (site.Call (ask.Args pass.Output)) project) is
    (on_calls (ask.Args pass.Output) (λ scope at c. Any (IsFixedArgument scope at c) c.call.args)
    (λ scope loops c. in_any (λ a at. IsFixedArgument scope at c a) (arg_place pass.Output scope loops (callee_of scope c) c.how)
    (λ a. output_nearest scope c a) c.call.args) project)

misfits_to : (scope : Scope) (e : ExprTree) (p : Option Param) → IsTrue (misfits_param scope e p) → MisfitsParam scope e p
misfits_to scope e None h = h
misfits_to scope e (Some p) h = h

misfits_from : (scope : Scope) (e : ExprTree) (p : Option Param) → MisfitsParam scope e p → IsTrue (misfits_param scope e p)
misfits_from scope e None h = h
misfits_from scope e (Some p) h = h

misfit_nearest : (scope : Scope) (c : CallSite) (a : ArgTree)
    → IsNearest (λ at. MisfitsArg scope at c a) (misfit_at scope (param_of_arg scope c a) a)
misfit_nearest scope c a =
    nearest_same (λ at. (a.place ≡ at) × IsTrue (misfits_param scope a.value (param_of_arg scope c a))) (λ at. MisfitsArg scope at c a)
    (misfit_at scope (param_of_arg scope c a) a)
    (λ at h. (h.0, misfits_to scope a.value (param_of_arg scope c a) h.1))
    (λ at h. (h.0, misfits_from scope a.value (param_of_arg scope c a) h.1))
    (nearest_where (misfits_param scope a.value (param_of_arg scope c a)) a.place)

pub misfit_argument : (project : ProjectTree)
    → IsNearest (λ at. Any (λ b. Any (λ s. Any (MisfitsArg (in_block project b) at s) s.call.args) (calls_of b)) project.blocks)
    (project_place (site.Call (ask.Args pass.Misfit)) project)
misfit_argument project =
    on_calls (ask.Args pass.Misfit) (λ scope at c. Any (MisfitsArg scope at c) c.call.args)
    (λ scope loops c. in_any (λ a at. MisfitsArg scope at c a) (arg_place pass.Misfit scope loops (callee_of scope c) c.how)
    (λ a. misfit_nearest scope c a) c.call.args) project
