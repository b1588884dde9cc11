-- What is counted parameter by parameter goes in and out as a call's copies do; and arguments that tokens spell are ordinary.
use Rattle.std.proofs.Common.{◌≡◌, ℕ, ◌+◌, List, [], ◌∷◌, map, filter, find, Bool, true, false, ◌&&◌, ◌||◌, cond, Option, Some, None, is_some, is_none, Contains, IsTrue, inl, inr, refl, sym, ap, subst, ◌∙◌, arith}
use Rattle.std.specs.Prelude.{if◌then◌else◌}
use Rattle.std.specs.List.{AllByRecursion}
use Rattle.pv_word.specs.declared.types.Ty.{Ty}
use Rattle.pv_types.specs.declared.declaration.Section.{Section}
use Rattle.pv_types.specs.declared.declaration.Section.TheVariants.{Input, Output, InOut, Static, Temp, Const}
use Rattle.pv_types.specs.Tree.{plain}
use Rattle.pv_tree.specs.Tree.{PlacedName, ArgTree, CallPlain, BlockTree}
use Rattle.pv_tree.specs.Lexemes.{Lexeme, each_behind}
use Rattle.pv_tree.specs.Scopes.{Scope, first_var, value_key, is_fc}
use Rattle.pv_tree.specs.Callees.{How, is_by_stl, is_input, is_output, is_in_out, CallSite, runs, callee_of, block_of_callee, Param, params_of_vars, value_param, params_of}
use Rattle.pv_tree.specs.Calls.{SpellsNamed, SpellsArg, SpellsArgs, SpellsArgsStl, SpellsCall, SpellsCallStl}
use Rattle.pv_tree.specs.Parts.{calls_of}
use Rattle.pv_tree.specs.Rules.{KeepsRules}
use Rattle.pv_tree.proofs.ForCallers.{run_block_in}
use Rattle.pv_mean.specs.Sources.{Source}
use Rattle.pv_mean.specs.Activations.{Activation, scope_in, word_begins, spot_of}
use Rattle.pv_mean.specs.Calls.{Passed, is_for, passed_in_sections, passed_in, passed_out, value_spot}
use Rattle.pv_sizes.specs.Checks.{checks_of, one_if}
use Rattle.pv_sizes.specs.Sizes.{checks_of_taker, size_of_copy, size_of_run, size_of_call}
use Rattle.pv_laws_sizes.specs.Copies.{AreOrdinary, sum_of, size_in, size_out, size_of_copies}
use Rattle.pv_laws_sizes.proofs.Sums.{sum_both, sum_each, sum_append, sum_map, sum_filter}
use Rattle.pv_laws_sizes.proofs.Apart.{vars_apart, words_apart, params_apart}
use Rattle.pv_laws_sizes.proofs.Pairs.{of_found, paired, param_known, given_once}

-- ---- what goes in and what goes out for one parameter

abbrev takes : Section → Bool
takes s = is_input s || is_in_out s

abbrev gives : Section → Bool
gives s = is_output s || is_in_out s

in_alone : (a : ℕ) → a ≡ a + 0
in_alone a = omega arith

out_alone : (a : ℕ) → a ≡ 0 + a
out_alone a = omega arith

both_ways : (a b : ℕ) → a + 1 + b + 1 ≡ (a + 1) + (b + 1 + 0)
both_ways a b = omega arith

module _ (scope : Scope) (callee : BlockTree) where
  abbrev its : Section → Option ArgTree → ℕ
  its s o = of_found (λ a. size_of_copy scope callee a.value s) o

  two_ways : (s : Section) (o : Option ArgTree)
      → its s o ≡ cond (takes s) (size_in scope o) 0 + cond (gives s) (size_out scope callee s o) 0
  two_ways Input None = refl
  two_ways Output None = refl
  two_ways InOut None = refl
  two_ways Static None = refl
  two_ways Temp None = refl
  two_ways Const None = refl
  two_ways Input (Some a) = in_alone (checks_of scope a.value + 1)
  two_ways Output (Some a) = out_alone (checks_of_taker scope a.value + 1 + one_if (is_fc callee.kind))
  two_ways InOut (Some a) = both_ways (checks_of scope a.value) (checks_of_taker scope a.value)
  two_ways Static (Some a) = refl
  two_ways Temp (Some a) = refl
  two_ways Const (Some a) = refl

  one_way : (s : Section) (o : Option ArgTree) → s ≡ Output → its s o ≡ size_out scope callee s o
  one_way s o is = subst (λ x. its x o ≡ size_out scope callee x o) (sym is) (out o)
    where
      out : (o : Option ArgTree) → its Output o ≡ size_out scope callee Output o
      out None = refl
      out (Some a) = refl

-- a function's value is an output
abbrev value_one : Ty → Param
value_one ty = record { key = value_key; section = Output; ty = plain ty }

value_each : (f g : Param → ℕ) (how : How) (block : BlockTree) → ((p : Param) → p.section ≡ Output → f p ≡ g p)
    → sum_of f (value_param how block) ≡ sum_of g (value_param how block)
value_each f g how block same = lead (is_by_stl how && is_none (first_var block.vars value_key)) block.value
  where
    lead : (t : Bool) (o : Option Ty) → sum_of f (if t then (elim o [ None ↦ [] | Some ty ↦ value_one ty ∷ [] ]) else [])
        ≡ sum_of g (if t then (elim o [ None ↦ [] | Some ty ↦ value_one ty ∷ [] ]) else [])
    lead true None = refl
    lead true (Some ty) = ap (λ n. n + 0) (same (value_one ty) refl)
    lead false o = refl

-- ---- over all parameters

put_together : (a b c d i o : ℕ) → a ≡ i + b → i ≡ c → b + d ≡ o → a + d ≡ c + o
put_together a b c d i o e f g = omega (arith, e, f, g)

module _ (source : Source) (scope : Scope) (site : CallSite) (callee : Activation) where
  abbrev found : Param → Option ArgTree
  found p = find (is_for site.how callee.block p.key) site.call.args

  abbrev all_ways : Param → ℕ
  all_ways p = of_found (λ a. size_of_copy scope callee.block a.value p.section) (found p)

  abbrev into : Param → ℕ
  into p = size_in scope (found p)

  abbrev out : Param → ℕ
  out p = size_out scope callee.block p.section (found p)

  passed : (f : Param → ℕ) (test : Section → Bool)
      → sum_of (λ p. f p.param) (passed_in_sections source callee test) ≡ sum_of (λ p. cond (test p.section) (f p) 0) (params_of_vars callee.block.vars)
  passed f test =
      sum_map (λ (p : Passed). f p.param) (λ p. record { param = p; spot = spot_of (word_begins source callee p.key true) })
      (filter (λ p. test p.section) (params_of_vars callee.block.vars))
      ∙ sum_filter f (λ p. test p.section) (params_of_vars callee.block.vars)

  declared : sum_of all_ways (params_of_vars callee.block.vars)
      ≡ sum_of (λ p. cond (takes p.section) (into p) 0) (params_of_vars callee.block.vars)
      + sum_of (λ p. cond (gives p.section) (out p) 0) (params_of_vars callee.block.vars)
  declared =
      sum_each all_ways (λ p. cond (takes p.section) (into p) 0 + cond (gives p.section) (out p) 0) (params_of_vars callee.block.vars)
      (λ p. two_ways scope callee.block p.section (found p))
      ∙ sum_both (λ p. cond (takes p.section) (into p) 0) (λ p. cond (gives p.section) (out p) 0) (params_of_vars callee.block.vars)

  given_out : sum_of (λ p. cond (gives p.section) (out p) 0) (params_of_vars callee.block.vars) + sum_of all_ways (value_param site.how callee.block)
      ≡ sum_of (λ p. out p.param) (passed_out source site.how callee)
  given_out =
      ap (λ n. n + sum_of all_ways (value_param site.how callee.block)) (sym (passed out gives))
      ∙ (ap (λ n. sum_of (λ p. out p.param) (passed_in_sections source callee gives) + n)
      (value_each all_ways out site.how callee.block (λ p is. one_way scope callee.block p.section (found p) is)
      ∙ sym (sum_map (λ (p : Passed). out p.param) (λ p. record { param = p; spot = value_spot source callee.block }) (value_param site.how callee.block)))
      ∙ sym (sum_append (λ (p : Passed). out p.param) (passed_in_sections source callee gives)
      (map (λ p. record { param = p; spot = value_spot source callee.block }) (value_param site.how callee.block))))

  copied : sum_of all_ways (params_of site.how callee.block) ≡ size_of_copies source scope site callee
  copied =
      sum_append all_ways (params_of_vars callee.block.vars) (value_param site.how callee.block)
      ∙ put_together (sum_of all_ways (params_of_vars callee.block.vars))
      (sum_of (λ p. cond (gives p.section) (out p) 0) (params_of_vars callee.block.vars))
      (sum_of (λ p. into p.param) (passed_in source callee))
      (sum_of all_ways (value_param site.how callee.block))
      (sum_of (λ p. cond (takes p.section) (into p) 0) (params_of_vars callee.block.vars))
      (sum_of (λ p. out p.param) (passed_out source site.how callee))
      declared (sym (passed into takes)) given_out

pub call_is_copied : (source : Source) (caller callee : Activation) (site : CallSite) → KeepsRules source.project
    → Contains source.project.blocks caller.block → Contains (calls_of caller.block) site → AreOrdinary site.call.args
    → callee_of (scope_in source caller) site ≡ runs callee.block
    → size_of_call (scope_in source caller) site ≡ size_of_copies source (scope_in source caller) site callee + 1
call_is_copied source caller callee site keeps inside at ordinary is =
    let scope = scope_in source caller in
    let there = run_block_in scope site callee.block is in
    ap (λ k. size_of_run scope site (block_of_callee k)) is
    ∙ ap (λ n. n + 1)
    (paired scope site.how callee.block site.call.args
    (params_apart site.how callee.block (vars_apart source.project callee.block keeps there))
    (param_known site.how callee.block)
    (given_once site.how callee.block site.call.args ordinary (words_apart source.project caller.block callee.block site keeps inside at is))
    ∙ copied source scope site callee)

-- ---- arguments that tokens spell

named_by : (a : ArgTree) (o : Option PlacedName) (tokens : List Lexeme) → SpellsNamed a o tokens → IsTrue (is_some o)
named_by a None tokens h = absurd h
named_by a (Some word) tokens h = refl

named : (a : ArgTree) (tokens : List Lexeme) → SpellsArg a tokens → IsTrue (is_some a.name)
named a tokens h = named_by a a.name tokens h

all_named : (args : List ArgTree) (tokens : List Lexeme) → each_behind SpellsArg args tokens → AllByRecursion (λ a. IsTrue (is_some a.name)) args
all_named [] tokens h = tt
all_named (a ∷ more) tokens h = (named a _ h.behind.in_front, all_named more _ h.behind.behind)

ordinary_args : (args : List ArgTree) (tokens : List Lexeme) → SpellsArgs args tokens → AreOrdinary args
ordinary_args [] tokens h = inr (omega arith)
ordinary_args (a ∷ []) tokens h = inr (omega arith)
ordinary_args (a ∷ b ∷ more) tokens h = inl (named a _ h.in_front, all_named (b ∷ more) _ h.behind)

pub ordinary_scl : (call : CallPlain) (tokens : List Lexeme) → SpellsCall call tokens → AreOrdinary call.args
ordinary_scl call tokens h = ordinary_args call.args _ h.behind.behind.behind.in_front

args_in_stl : (args : List ArgTree) (tokens : List Lexeme) → SpellsArgsStl args tokens → AreOrdinary args
args_in_stl [] tokens h = inr (omega arith)
args_in_stl (a ∷ more) tokens h =
    let list = h.behind.in_front in inl (named a _ list.in_front, all_named more _ list.behind)

pub ordinary_stl : (call : CallPlain) (tokens : List Lexeme) → SpellsCallStl call tokens → AreOrdinary call.args
ordinary_stl call tokens h = args_in_stl call.args _ h.behind.behind
