-- The rules that a project keeps, each a statement about names, types and places in the finished trees. The modules below have
-- one rule or a group of them.
pub mod DoubledNames
pub mod MissingNames
pub mod MissingTypes
pub mod Misfits
pub mod Conditions
pub mod OutOfRange
pub mod Arrays
pub mod Targets
pub mod Loops
pub mod Cases
pub mod Chains
pub mod Callable
pub mod Arguments
pub mod Jumps
pub mod OpenNestings
pub mod Behind
pub mod Addresses
pub mod PatternRule
use Rattle.std.specs.Prelude.{◌≡◌, ◌⊎◌, ℕ, List, map, Any, IsTrue}
use Rattle.pv_place.specs.declared.place.Place.{Place}
use Rattle.pv_tree.specs.Tree.{ExprTree}
use Rattle.pv_tree.specs.LiteralTypes.{nothing}
use Rattle.pv_tree.specs.Sorts.{is_whole}
use Rattle.pv_tree.specs.Scopes.{ProjectTree, Scope}
use Rattle.pv_tree.specs.Things.{first_place}
use Rattle.pv_tree.specs.Types.{sort_of}
use Rattle.pv_tree.specs.Parts.{Part, parts_of, reads_of_parts, path_of}
use Rattle.pv_tree.specs.Rules.DoubledNames.{IsDoubledName}
use Rattle.pv_tree.specs.Rules.MissingNames.{MissesName, IsMissingName}
use Rattle.pv_tree.specs.Rules.MissingTypes.{IsMissingType}
use Rattle.pv_tree.specs.Rules.Misfits.{MisfitsIn, IsMisfit}
use Rattle.pv_tree.specs.Rules.Conditions.{IsWrongCondition}
use Rattle.pv_tree.specs.Rules.OutOfRange.{IsPartOutside, IsOutOfRange}
use Rattle.pv_tree.specs.Rules.Arrays.{IsWrongArray, HasBeyond, IsBeyondBounds}
use Rattle.pv_tree.specs.Rules.Targets.{IsFixedTarget, IsFixedOutput}
use Rattle.pv_tree.specs.Rules.Loops.{IsWrongCounter, IsWrongStep, IsOutsideLoop}
use Rattle.pv_tree.specs.Rules.Cases.{IsWrongCase}
use Rattle.pv_tree.specs.Rules.Chains.{IsCycle, IsTooDeep}
use Rattle.pv_tree.specs.Rules.Callable.{ReadsVoid, IsNotCallable}
use Rattle.pv_tree.specs.Rules.Arguments.{IsWrongArgument}
use Rattle.pv_tree.specs.Rules.Jumps.{IsWrongLabel, IsWrongRange}
use Rattle.pv_tree.specs.Rules.OpenNestings.{IsWrongNesting}
use Rattle.pv_tree.specs.Rules.Behind.{IsRefused}
use Rattle.pv_tree.specs.Rules.Addresses.{HasWrongAddress, IsWrongAddress}
use Rattle.pv_tree.specs.Rules.PatternRule.{IsNoPattern}

-- the rules, each by what breaks it, in the order of their numbers from 1 on
pub data Rule : Type 0 where
  doubled_name : Rule
  missing_name : Rule
  missing_type : Rule
  misfit : Rule
  wrong_condition : Rule
  out_of_range : Rule
  wrong_array : Rule
  beyond_bounds : Rule
  fixed_target : Rule
  wrong_counter : Rule
  wrong_step : Rule
  outside_loop : Rule
  wrong_case : Rule
  cycle : Rule
  too_deep : Rule
  not_callable : Rule
  wrong_argument : Rule
  fixed_output : Rule
  wrong_label : Rule
  wrong_range : Rule
  wrong_nesting : Rule
  refused_operand : Rule
  wrong_address : Rule
  no_pattern : Rule

-- the number with which a rule is reported
abbrev pub number_of : Rule → ℕ
number_of doubled_name = 1
number_of missing_name = 2
number_of missing_type = 3
number_of misfit = 4
number_of wrong_condition = 5
number_of out_of_range = 6
number_of wrong_array = 7
number_of beyond_bounds = 8
number_of fixed_target = 9
number_of wrong_counter = 10
number_of wrong_step = 11
number_of outside_loop = 12
number_of wrong_case = 13
number_of cycle = 14
number_of too_deep = 15
number_of not_callable = 16
number_of wrong_argument = 17
number_of fixed_output = 18
number_of wrong_label = 19
number_of wrong_range = 20
number_of wrong_nesting = 21
number_of refused_operand = 22
number_of wrong_address = 23
number_of no_pattern = 24

-- a project breaks the rule at the place; the last rule is one of patterns alone
abbrev pub Breaks : Rule → ProjectTree → Place → Type 0
Breaks doubled_name project at = IsDoubledName project at
Breaks missing_name project at = IsMissingName project at
Breaks missing_type project at = IsMissingType project at
Breaks misfit project at = IsMisfit project at
Breaks wrong_condition project at = IsWrongCondition project at
Breaks out_of_range project at = IsOutOfRange project at
Breaks wrong_array project at = IsWrongArray project at
Breaks beyond_bounds project at = IsBeyondBounds project at
Breaks fixed_target project at = IsFixedTarget project at
Breaks wrong_counter project at = IsWrongCounter project at
Breaks wrong_step project at = IsWrongStep project at
Breaks outside_loop project at = IsOutsideLoop project at
Breaks wrong_case project at = IsWrongCase project at
Breaks cycle project at = IsCycle project at
Breaks too_deep project at = IsTooDeep project at
Breaks not_callable project at = IsNotCallable project at
Breaks wrong_argument project at = IsWrongArgument project at
Breaks fixed_output project at = IsFixedOutput project at
Breaks wrong_label project at = IsWrongLabel project at
Breaks wrong_range project at = IsWrongRange project at
Breaks wrong_nesting project at = IsWrongNesting project at
Breaks refused_operand project at = IsRefused project at
Breaks wrong_address project at = IsWrongAddress project at
Breaks no_pattern project at = ⊥

-- so by the rule's number
pub record BreaksNumber (n : ℕ) (project : ProjectTree) (at : Place) : Type 0 where
  pub rule : Rule
  pub is_number : number_of rule ≡ n
  pub broken : Breaks rule project at

-- a project keeps the rules
abbrev pub KeepsRules : ProjectTree → Type 0
KeepsRules project = (rule : Rule) (at : Place) → Breaks rule project at → ⊥

-- the rules that an expression in a block can break
abbrev pub BreaksInParts : Rule → Scope → List Part → Place → Type 0
BreaksInParts missing_name scope parts at =
    MissesName scope (map (path_of scope) (reads_of_parts parts)) at
BreaksInParts misfit scope parts at =
    MisfitsIn scope at parts (map (path_of scope) (reads_of_parts parts))
BreaksInParts out_of_range scope parts at = Any (IsPartOutside at) parts
BreaksInParts beyond_bounds scope parts at =
    HasBeyond scope at (map (path_of scope) (reads_of_parts parts))
BreaksInParts not_callable scope parts at = Any (ReadsVoid scope at) (reads_of_parts parts)
BreaksInParts wrong_address scope parts at = HasWrongAddress at (reads_of_parts parts)
BreaksInParts rule scope parts at = ⊥

-- a pattern's expression over the names of a block breaks the rule at the place; a whole array, structure, instance or block is no
-- pattern
abbrev pub BreaksInPattern : Rule → Scope → ExprTree → Place → Type 0
BreaksInPattern no_pattern scope e at = IsNoPattern scope e at
BreaksInPattern misfit scope e at =
    BreaksInParts misfit scope (parts_of scope nothing e) at
    ⊎ ((first_place e ≡ at) × IsTrue (is_whole (sort_of scope e)))
BreaksInPattern rule scope e at = BreaksInParts rule scope (parts_of scope nothing e) at
