-- What is looked for at the target of an assignment or the operand of an instruction.
pub data Aim : Type 0 where
  -- a constant or a block, to which nothing can be assigned
  Fixed : Aim
  -- a name that isn't declared, or a field that is missing
  Missing : Aim
  -- an address that there isn't
  Address : Aim
  -- an index at what is no array or of another type, or a variable of DATE_AND_TIME
  Misused : Aim
  -- a literal index beyond the bounds
  Beyond : Aim
