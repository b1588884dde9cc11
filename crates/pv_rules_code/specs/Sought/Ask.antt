-- What is looked for at a call.
use Rattle.pv_rules_code.specs.Sought.Pass.{Pass}

pub data Ask : Type 0 where
  -- a called name that isn't declared
  Missing : Ask
  -- a called name that is a variable of DATE_AND_TIME
  Date : Ask
  -- at its arguments
  Args : Pass → Ask
  -- a word that is given twice
  Later : Ask
  -- an input of a function or a VAR_IN_OUT that isn't given
  Lacking : Ask
