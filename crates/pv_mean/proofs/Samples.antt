-- Small projects for the examples: short words for names, operands and blocks. A place is the number of a token, as it is counted
-- in the comment beside the block.
use Prim.Native.String.{String}
use Rattle.std.proofs.Common.{ℕ, ℤ, false, List, [], ◌∷◌, codes, Some, None}
use Rattle.pv_word.specs.declared.types.Ty.{Ty}
use Rattle.pv_place.specs.declared.place.Place.{Place}
use Rattle.pv_types.specs.declared.name.Name.{Name}
use Rattle.pv_types.specs.declared.declaration.Section.{Section}
use Rattle.pv_types.specs.declared.declaration.Literal.{Literal}
use Rattle.pv_types.specs.Tree.{plain, array, named, VarTree, var}
use Rattle.pv_tree.specs.declared.expr.Area.{Area}
use Rattle.pv_tree.specs.declared.expr.Root.TheVariants.{Local, Area as InArea}
use Rattle.pv_tree.specs.declared.expr.BinaryOp.{BinaryOp}
use Rattle.pv_tree.specs.declared.block.BlockKind.TheVariants.{Fb, Fc}
use Rattle.pv_tree.specs.Tree.{ExprTree, lit, read, binary, OperandTree, operand, field, index, no_steps, steps, ArgTree, CallPlain, StmtTree, assign, StmtTrees, no_stmts, stmts, scl, BlockTree}
use Rattle.pv_tree.specs.Words.{plain_name}
use Rattle.pv_mean.specs.Cells.{View}
use Rattle.pv_mean.specs.Sources.{Source, source_of}
use Rattle.pv_mean.specs.Scans.{ScanEnd, scan}

abbrev pub at : ℕ → Place
at n = record { file = 0; offset = n }

abbrev pub name : String → Name
name text = plain_name (codes text)

abbrev pub word : ℕ → String → OperandTree
word n text = operand (Local (name text) false (at n)) no_steps (at n)

-- text[e], the word at n and `[` at k
abbrev pub element : ℕ → String → ℕ → ExprTree → OperandTree
element n text k e = operand (Local (name text) false (at n)) (steps (index e (at k)) no_steps) (at n)

-- text.part
abbrev pub part : ℕ → String → String → OperandTree
part n text part_text = operand (Local (name text) false (at n)) (steps (field (name part_text) (at n)) no_steps) (at n)

abbrev pub address : ℕ → Area → ℕ → ℕ → ℕ → OperandTree
address n area bits byte bit = operand (InArea area bits byte bit) no_steps (at n)

abbrev pub r : ℕ → String → ExprTree
r n text = read (word n text)

abbrev pub number : ℕ → ℤ → ExprTree
number n v = lit None v (at n)

abbrev pub typed : ℕ → Ty → ℤ → ExprTree
typed n its_ty v = lit (Some its_ty) v (at n)

abbrev pub op : BinaryOp → ℕ → ExprTree → ExprTree → ExprTree
op o n left right = binary o (at n) left right

abbrev pub set : ℕ → String → ExprTree → StmtTree
set n text e = assign (word n text) (at n) e

abbrev pub literal : ℤ → Literal
literal v = record { ty = None; value = v; place = at 0 }

abbrev pub listed : List StmtTree → StmtTrees
listed [] = no_stmts
listed (s ∷ more) = stmts s (listed more)

abbrev pub declared : Section → Ty → String → VarTree
declared section its_ty text = var (name text) section (plain its_ty) None (at 0)

abbrev pub instance : Section → String → String → VarTree
instance section type_text text = var (name text) section (named (name type_text) (at 0)) None (at 0)

abbrev pub array_of : Section → ℤ → ℤ → Ty → String → VarTree
array_of section low high its_ty text = var (name text) section (array low high (plain its_ty) (at 0)) None (at 0)

abbrev pub function_block : String → List VarTree → List StmtTree → BlockTree
function_block text vars body = record {
  kind = Fb;
  name = name text;
  vars = vars;
  value = None;
  body = scl (listed body);
  place = at 0;
}

abbrev pub function : String → Ty → List VarTree → List StmtTree → BlockTree
function text its_ty vars body = record {
  kind = Fc;
  name = name text;
  vars = vars;
  value = Some its_ty;
  body = scl (listed body);
  place = at 0;
}

-- text := e, and an unnamed argument
abbrev pub arg : String → ExprTree → ArgTree
arg text e = record { name = Some (name text, at 0); value = e; place = at 0 }

-- text(args), its first token at n
abbrev pub call : ℕ → String → List ArgTree → CallPlain
call n text args = record {
  name = name text;
  name_place = at n;
  hash = false;
  base = None;
  args = args;
  place = at n;
}

abbrev pub no_view : View
no_view = record { params = []; bound = [] }

-- a project of blocks, entered at the first of these two, with the loop bound 16
abbrev pub source_with : BlockTree → List BlockTree → ℕ → Source
source_with entry more bound = source_of (record { blocks = entry ∷ more; symbols = [] }) entry [] no_view bound

-- the end of one scan of a block alone, from an image and an input
abbrev pub scan_of : BlockTree → List ℤ → List ℤ → ScanEnd
scan_of entry image input = (scan (source_with entry [] 16) image input).end
