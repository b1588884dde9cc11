-- What blocks in STL do, at examples whose answers were found by hand. Places are the numbers of tokens in the comments.
use Prim.Native.String.{String}
use Rattle.std.proofs.Common.{◌≡◌, ℕ, ℤ, pos, List, [], ◌∷◌, map, refl, Some, None}
use Rattle.pv_word.specs.declared.types.Ty.TheVariants as ty
use Rattle.pv_word.specs.Wrap.{wrap_at}
use Rattle.pv_word.specs.Bits.{pattern_at}
use Rattle.pv_place.specs.declared.trap.TrapKind.TheVariants.{DivideByZero, Index, Unset}
use Rattle.pv_types.specs.declared.declaration.Section.TheVariants.{Input, Output, Static, Temp}
use Rattle.pv_types.specs.Tree.{VarTree}
use Rattle.pv_tree.specs.declared.expr.Area.TheVariants.{M}
use Rattle.pv_tree.specs.declared.expr.BinaryOp.TheVariants as o
use Rattle.pv_tree.specs.declared.instr.Op.{Op}
use Rattle.pv_tree.specs.declared.instr.Op.TheVariants as i
use Rattle.pv_tree.specs.declared.block.BlockKind.TheVariants.{Fb, Fc}
use Rattle.pv_tree.specs.Tree.{OperandTree, CallPlain, InstrTree, stl, BlockTree}
use Rattle.pv_mean.specs.Endings.{ended, trapped, over}
use Rattle.pv_mean.specs.Scans.{ScanEnd, scan}
use Rattle.pv_mean.proofs.Samples.{at, name, word, element, address, r, op, set, literal, declared, array_of, function, arg, call, source_with, scan_of}

-- ---- words for instructions: the place of the word, and what stands behind it

abbrev alone : ℕ → Op → InstrTree
alone n o = record { label = None; op = o; operand = None; literal = None; call = None; place = at n }

abbrev on : ℕ → Op → OperandTree → InstrTree
on n o x = record { label = None; op = o; operand = Some x; literal = None; call = None; place = at n }

-- a variable, or a label that is jumped to
abbrev with : ℕ → Op → String → InstrTree
with n o text = on n o (word 99 text)

abbrev loads : ℕ → ℤ → InstrTree
loads n v = record { label = None; op = i.L; operand = None; literal = Some (literal v); call = None; place = at n }

abbrev labelled : ℕ → String → InstrTree → InstrTree
labelled n text x = record {
  label = Some (name text, at n);
  op = x.op;
  operand = x.operand;
  literal = x.literal;
  call = x.call;
  place = x.place;
}

abbrev calls : Op → CallPlain → InstrTree
calls o c = record { label = None; op = o; operand = None; literal = None; call = Some c; place = c.place }

abbrev block : List VarTree → List InstrTree → BlockTree
block vars instructions = record { kind = Fb; name = name "Demo"; vars = vars; value = None; body = stl instructions; place = at 0 }

-- the end of one scan with a loop bound, from an image without input cells
abbrev bounded : BlockTree → ℕ → List ℤ → ScanEnd
bounded entry bound image = (scan (source_with entry [] bound) image []).end

-- ---- nestings

-- inputs a, b, c, output q; A(; O #a; O #b; ); AN #c; = #q
abbrev either : BlockTree
either = block (declared Input ty.Bool "a" ∷ declared Input ty.Bool "b" ∷ declared Input ty.Bool "c" ∷ declared Output ty.Bool "q" ∷ [])
    (alone 1 i.AOpen ∷ with 2 i.O "a" ∷ with 3 i.O "b" ∷ alone 4 i.Close ∷ with 5 i.An "c" ∷ with 6 i.Assign "q" ∷ [])

either-of : map (scan_of either (pos 0 ∷ []))
    ((pos 1 ∷ pos 0 ∷ pos 0 ∷ []) ∷ (pos 0 ∷ pos 1 ∷ pos 1 ∷ []) ∷ (pos 0 ∷ pos 0 ∷ pos 0 ∷ []) ∷ [])
    ≡ ended (pos 1 ∷ pos 0 ∷ pos 0 ∷ pos 1 ∷ []) ∷ ended (pos 0 ∷ pos 1 ∷ pos 1 ∷ pos 0 ∷ []) ∷ ended (pos 0 ∷ pos 0 ∷ pos 0 ∷ pos 0 ∷ []) ∷ []
unfolding wrap_at
either-of = refl

-- a and b, or c: A #a; A #b; O; A #c; = #q
abbrev ands : BlockTree
ands = block (declared Input ty.Bool "a" ∷ declared Input ty.Bool "b" ∷ declared Input ty.Bool "c" ∷ declared Output ty.Bool "q" ∷ [])
    (with 1 i.A "a" ∷ with 2 i.A "b" ∷ alone 3 i.O ∷ with 4 i.A "c" ∷ with 5 i.Assign "q" ∷ [])

ands-or : map (scan_of ands (pos 0 ∷ [])) ((pos 1 ∷ pos 1 ∷ pos 0 ∷ []) ∷ (pos 1 ∷ pos 0 ∷ pos 0 ∷ []) ∷ (pos 0 ∷ pos 0 ∷ pos 1 ∷ []) ∷ [])
    ≡ ended (pos 1 ∷ pos 1 ∷ pos 0 ∷ pos 1 ∷ []) ∷ ended (pos 1 ∷ pos 0 ∷ pos 0 ∷ pos 0 ∷ []) ∷ ended (pos 0 ∷ pos 0 ∷ pos 1 ∷ pos 1 ∷ []) ∷ []
unfolding wrap_at
ands-or = refl

-- ---- jumps and ranges

-- outputs plain, ovf; L 32767; L 1; +I; JO m1; SET; = #plain; JU m2; m1: SET; = #ovf; m2: NOP 0
abbrev overflows : BlockTree
overflows = block (declared Output ty.Bool "plain" ∷ declared Output ty.Bool "ovf" ∷ [])
    (loads 1 (pos 32767) ∷ loads 2 (pos 1) ∷ alone 3 i.AddI ∷ with 4 i.Jo "m1" ∷ alone 5 i.Set ∷ with 6 i.Assign "plain" ∷ with 7 i.Ju "m2"
    ∷ labelled 8 "m1" (alone 9 i.Set) ∷ with 10 i.Assign "ovf" ∷ labelled 11 "m2" (alone 12 i.Nop) ∷ [])

overflowed : scan_of overflows (pos 0 ∷ pos 0 ∷ []) [] ≡ ended (pos 0 ∷ pos 1 ∷ [])
unfolding wrap_at pattern_at
overflowed = refl

-- statics i, s : INT; L 3; m: T #i; L #s; L 1; +I; T #s; L #i; LOOP m
abbrev counts : BlockTree
counts = block (declared Static ty.Int "i" ∷ declared Static ty.Int "s" ∷ [])
    (loads 1 (pos 3) ∷ labelled 2 "m" (with 3 i.T "i") ∷ with 4 i.L "s" ∷ loads 5 (pos 1) ∷ alone 6 i.AddI ∷ with 7 i.T "s" ∷ with 8 i.L "i"
    ∷ with 9 i.Loop "m" ∷ [])

-- three turns, and with the bound 2 it is over at the label
counted : map (λ bound. bounded counts bound (pos 0 ∷ pos 0 ∷ [])) (3 ∷ 2 ∷ []) ≡ ended (pos 1 ∷ pos 3 ∷ []) ∷ over (at 2) ∷ []
unfolding wrap_at pattern_at
counted = refl

-- the inner range is entered anew in each turn of the outer one, so the bound 2 is enough for four turns of it; statics i, k, s : INT;
-- L 2; a: T #i; L 2; b: T #k; L #s; L 1; +I; T #s; L #k; LOOP b; L #i; LOOP a
abbrev nests : BlockTree
nests = block (declared Static ty.Int "i" ∷ declared Static ty.Int "k" ∷ declared Static ty.Int "s" ∷ [])
    (loads 1 (pos 2) ∷ labelled 2 "a" (with 3 i.T "i") ∷ loads 4 (pos 2) ∷ labelled 5 "b" (with 6 i.T "k") ∷ with 7 i.L "s" ∷ loads 8 (pos 1)
    ∷ alone 9 i.AddI ∷ with 10 i.T "s" ∷ with 11 i.L "k" ∷ with 12 i.Loop "b" ∷ with 13 i.L "i" ∷ with 14 i.Loop "a" ∷ [])

nested : map (λ bound. bounded nests bound (pos 0 ∷ pos 0 ∷ pos 0 ∷ [])) (2 ∷ 1 ∷ []) ≡ ended (pos 1 ∷ pos 1 ∷ pos 4 ∷ []) ∷ over (at 5) ∷ []
unfolding wrap_at pattern_at
nested = refl

-- ---- areas, traps and calls

-- L 4660; T MW 10: the high byte first
abbrev stores : BlockTree
stores = block [] (loads 1 (pos 4660) ∷ on 2 i.T (address 3 M 16 10 0) ∷ [])

stored : scan_of stores (pos 0 ∷ pos 0 ∷ []) [] ≡ ended (pos 18 ∷ pos 52 ∷ [])
unfolding wrap_at pattern_at
stored = refl

-- output q; = #q at a block's start has no result
abbrev early : BlockTree
early = block (declared Output ty.Bool "q" ∷ []) (with 1 i.Assign "q" ∷ [])

too-early : scan_of early (pos 0 ∷ []) [] ≡ trapped Unset (at 1)
too-early = refl

-- static k : ARRAY[1..2] OF BOOL, n : INT; SET; = #k[#n]: an index traps at the instruction's word
abbrev indexed : BlockTree
indexed = block (array_of Static (pos 1) (pos 2) ty.Bool "k" ∷ declared Static ty.Int "n" ∷ [])
    (alone 1 i.Set ∷ on 2 i.Assign (element 4 "k" 5 (r 6 "n")) ∷ [])

beyond : map (λ n. scan_of indexed (pos 0 ∷ pos 0 ∷ n ∷ []) []) (pos 2 ∷ pos 3 ∷ []) ≡ ended (pos 0 ∷ pos 1 ∷ pos 2 ∷ []) ∷ trapped Index (at 2) ∷ []
unfolding wrap_at
beyond = refl

-- F : INT in SCL with the input x, F := x + x, and statics a, b : INT; CALL F (x := a DIV b, RET_VAL := a); L 1
abbrev double : BlockTree
double = function "F" ty.Int (declared Input ty.Int "x" ∷ []) (set 50 "F" (op o.Add 53 (r 52 "x") (r 54 "x")) ∷ [])

abbrev caller : BlockTree
caller = block (declared Static ty.Int "a" ∷ declared Static ty.Int "b" ∷ [])
    (calls i.Call (call 1 "F" (arg "x" (op o.Div 7 (r 6 "a") (r 8 "b")) ∷ arg "RET_VAL" (r 12 "a") ∷ [])) ∷ loads 14 (pos 1) ∷ [])

-- what traps in an argument traps at CALL
called : map (λ b. (scan (source_with caller (double ∷ []) 16) (pos 20 ∷ b ∷ []) []).end) (pos 4 ∷ pos 0 ∷ [])
    ≡ ended (pos 10 ∷ pos 4 ∷ []) ∷ trapped DivideByZero (at 1) ∷ []
unfolding wrap_at
called = refl

-- behind a call nothing is left in the accumulators: L 1; CALL V; T #q, with V a function without a value in STL
abbrev void : BlockTree
void = record { kind = Fc; name = name "V"; vars = declared Temp ty.Int "t" ∷ []; value = None; body = stl (loads 60 (pos 5) ∷ with 61 i.T "t" ∷ []); place = at 0 }

abbrev forgets : BlockTree
forgets = block (declared Output ty.Int "q" ∷ []) (loads 1 (pos 1) ∷ calls i.Uc (call 2 "V" []) ∷ with 4 i.T "q" ∷ [])

forgotten : (scan (source_with forgets (void ∷ []) 16) (pos 0 ∷ []) []).end ≡ trapped Unset (at 4)
unfolding wrap_at pattern_at
forgotten = refl
