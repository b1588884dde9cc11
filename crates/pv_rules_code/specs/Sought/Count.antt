-- What is looked for at the variable of a FOR.
pub data Count : Type 0 where
  -- a word that isn't declared
  Missing : Count
  -- a variable of DATE_AND_TIME
  Date : Count
  -- no local INT or DINT
  Other : Count
  -- the variable of another FOR around this one
  Inner : Count
