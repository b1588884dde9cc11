-- What is looked for at the step of a FOR.
pub data Stride : Type 0 where
  -- zero, or outside the variable's type
  Wrong : Stride
  -- a literal outside its own type
  Outside : Stride
