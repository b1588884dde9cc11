-- The code's rules as those of the language.
use Rattle.pv_tree.specs.Rules as tree
use Rattle.pv_rules_decl.specs.declared.fault.Rule.{Rule}
use Rattle.pv_rules_decl.specs.declared.fault.Rule.TheVariants.{DoubledName, MissingName, MissingType, Misfit, WrongCondition, OutOfRange, WrongArray, BeyondBounds, FixedTarget, WrongCounter, WrongStep, OutsideLoop, WrongCase, Cycle, TooDeep, NotCallable, WrongArgument, FixedOutput, WrongLabel, WrongRange, WrongNesting, RefusedOperand, WrongAddress, NoPattern}

abbrev pub rule_of : Rule → tree.Rule
rule_of DoubledName = tree.doubled_name
rule_of MissingName = tree.missing_name
rule_of MissingType = tree.missing_type
rule_of Misfit = tree.misfit
rule_of WrongCondition = tree.wrong_condition
rule_of OutOfRange = tree.out_of_range
rule_of WrongArray = tree.wrong_array
rule_of BeyondBounds = tree.beyond_bounds
rule_of FixedTarget = tree.fixed_target
rule_of WrongCounter = tree.wrong_counter
rule_of WrongStep = tree.wrong_step
rule_of OutsideLoop = tree.outside_loop
rule_of WrongCase = tree.wrong_case
rule_of Cycle = tree.cycle
rule_of TooDeep = tree.too_deep
rule_of NotCallable = tree.not_callable
rule_of WrongArgument = tree.wrong_argument
rule_of FixedOutput = tree.fixed_output
rule_of WrongLabel = tree.wrong_label
rule_of WrongRange = tree.wrong_range
rule_of WrongNesting = tree.wrong_nesting
rule_of RefusedOperand = tree.refused_operand
rule_of WrongAddress = tree.wrong_address
rule_of NoPattern = tree.no_pattern
