-- What is looked for in a value that a data block gives to one of its parts.

pub data StartLook : Type 0 where
  -- a name that isn't there
  Missing : StartLook
  -- an index at what is no array or of another type, or a variable of DATE_AND_TIME
  Misused : StartLook
  -- a value that doesn't fit
  Misfit : StartLook
  -- a value outside its type, or outside that of the part
  Outside : StartLook
  -- a literal index beyond the bounds
  Beyond : StartLook
