-- What is looked for at an argument.
pub data Pass : Type 0 where
  -- a value that doesn't fit its parameter
  Misfit : Pass
  -- an argument for an output or a VAR_IN_OUT that can't be assigned
  Output : Pass
  -- an argument that is for no parameter
  Unknown : Pass
  -- an argument that the called block writes, and that a FOR around the call counts
  Counter : Pass
