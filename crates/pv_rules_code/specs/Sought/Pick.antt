-- What is looked for at a value of a CASE.
pub data Pick : Type 0 where
  -- a word that isn't declared
  Missing : Pick
  -- a variable of DATE_AND_TIME
  Date : Pick
  -- a literal outside its type
  Outside : Pick
  -- no literal or constant of the selector's type
  Other : Pick
