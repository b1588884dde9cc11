-- What is looked for at a statement or an instruction.
use Rattle.pv_rules_expr.specs.declared.search.Look.{Look}
use Rattle.pv_rules_code.specs.Sought.Aim.{Aim}
use Rattle.pv_rules_code.specs.Sought.Ask.{Ask}
use Rattle.pv_rules_code.specs.Sought.Count.{Count}
use Rattle.pv_rules_code.specs.Sought.Stride.{Stride}
use Rattle.pv_rules_code.specs.Sought.Pick.{Pick}

pub data Site : Type 0 where
  -- in its expressions
  Parts : Look → Site
  -- at its target, or its operand
  Target : Aim → Site
  -- a target that a FOR around the statement counts
  CountedTarget : Site
  -- at its call
  Call : Ask → Site
  -- at the variable of a FOR
  Counter : Count → Site
  -- at its step
  By : Stride → Site
  -- a selector of CASE that isn't INT or DINT
  Selector : Site
  -- at the values of a CASE
  Value : Pick → Site
  -- a value that doesn't fit the target of an assignment, or the variable of a FOR
  Misfit : Site
  -- a condition that isn't BOOL
  Condition : Site
  -- EXIT or CONTINUE outside a loop
  Leave : Site
