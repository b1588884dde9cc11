-- Boolean programs as plain data, and those whose terms name bits that there are.
use Rattle.std.specs.Prelude.{ℕ, ◌<◌, Bool, List, length, map, All}
use Rattle.std.specs.Coded.{×_prop}
use Rattle.std.proofs.Props.{props}
use Rattle.pv_bool.specs.declared.program.Bit.{Bit}
use Rattle.pv_bool.specs.declared.program.Term.{Term, Constant, Load, Not', And', Or'}
use Rattle.pv_bool.specs.declared.program.Assignment.{Assignment}

-- a term
pub data TermTree : Type 0 where
  constant : Bool → TermTree
  load : ℕ → TermTree
  negation : TermTree → TermTree
  conjunction : TermTree → TermTree → TermTree
  disjunction : TermTree → TermTree → TermTree

-- an assignment
pub record AssignmentTree : Type 0 where
  pub target : ℕ
  pub value : TermTree

-- a program
pub record ProgramTree : Type 0 where
  pub bits : List Bit
  pub body : List AssignmentTree
  pub holds : TermTree

abbrev pub term_tree : Term → TermTree
term_tree (Constant b) = constant b
term_tree (Load n) = load n
term_tree (Not' p t) = negation (term_tree t)
term_tree (And' p s q t) = conjunction (term_tree s) (term_tree t)
term_tree (Or' p s q t) = disjunction (term_tree s) (term_tree t)

abbrev pub assignment_tree : Assignment → AssignmentTree
assignment_tree a = record { target = a.target; value = term_tree a.value }

-- a program of these parts
abbrev pub tree_of : List Bit → List Assignment → Term → ProgramTree
tree_of bits body holds = record { bits = bits; body = map assignment_tree body; holds = term_tree holds }

-- the term names only the first n bits
abbrev pub IsTermOver : ℕ → TermTree → Type 0
IsTermOver n (constant b) = Unit {0}
IsTermOver n (load k) = k < n
IsTermOver n (negation t) = IsTermOver n t
IsTermOver n (conjunction s t) = IsTermOver n s × IsTermOver n t
IsTermOver n (disjunction s t) = IsTermOver n s × IsTermOver n t

-- the assignment names only the first n bits
pub record IsAssignmentOver (n : ℕ) (a : AssignmentTree) : Type 0 where
  pub target : a.target < n
  pub value : IsTermOver n a.value

-- the program names only its own bits
pub record IsProgram (program : ProgramTree) : Type 0 where
  pub body : All (IsAssignmentOver (length program.bits)) program.body
  pub holds : IsTermOver (length program.bits) program.holds

-- each of these facts has one proof at most, as a struct's invariant must
pub IsTermOver-prop : (n : ℕ) (t : TermTree) → IsProp (IsTermOver n t)
IsTermOver-prop n (constant b) = hlevel props
IsTermOver-prop n (load k) = hlevel props
IsTermOver-prop n (negation t) = IsTermOver-prop n t
IsTermOver-prop n (conjunction s t) = ×_prop (IsTermOver-prop n s) (IsTermOver-prop n t)
IsTermOver-prop n (disjunction s t) = ×_prop (IsTermOver-prop n s) (IsTermOver-prop n t)

pub IsProgram-prop : (program : ProgramTree) → IsProp (IsProgram program)
IsProgram-prop program = hlevel (props, IsTermOver-prop)
