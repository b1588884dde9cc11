-- The step circuit of a Boolean program: the gates of one scan. One literal stands beside each bit, as one value does in a frame.
use Rattle.std.specs.Prelude.{ℕ, ℤ, pos, neg_ℤ, Bool, true, false, List, [], ◌∷◌, length}
use Rattle.std.specs.Prelude.{slice_index_or, slice_set, if◌then◌else◌}
use Rattle.pv_gate.specs.declared.netlist.Node.{Node}
use Rattle.pv_gate.specs.Node.{true_literal, false_literal}
use Rattle.pv_gate.specs.Build.{Made, present, complemented, and_gate, or_gate}
use Rattle.pv_circuit.specs.Circuits.{Literals, Circuit, begin_nodes, input_literals}
use Rattle.pv_bool.specs.declared.program.BitRole.{BitRole}
use Rattle.pv_bool.specs.declared.program.Bit.{Bit}
use Rattle.pv_bool.specs.Roles.{is_input, is_kept}
use Rattle.pv_bool.specs.Tree.{TermTree, constant, load, negation, conjunction, disjunction, AssignmentTree, ProgramTree}

-- ---- the beginning

-- the literals with which the scan begins: each bit takes the next input
abbrev pub begin_literals : List Bit → Literals
begin_literals bits = input_literals 0 (length bits)

-- ---- the literals of some bits

abbrev pub first_literal : Literals → ℤ
first_literal [] = pos 0
first_literal (l ∷ ls) = l

abbrev pub other_literals : Literals → Literals
other_literals [] = []
other_literals (l ∷ ls) = ls

-- those of the bits whose role passes
abbrev pub picked : (BitRole → Bool) → List Bit → Literals → Literals
picked test [] ls = []
picked test (b ∷ bs) ls =
    if test b.role then first_literal ls ∷ picked test bs (other_literals ls) else picked test bs (other_literals ls)

-- those of the kept bits
abbrev pub kept_literals : List Bit → Literals → Literals
kept_literals bits ls = picked is_kept bits ls

-- those of the input bits
abbrev pub taken_literals : List Bit → Literals → Literals
taken_literals bits ls = picked is_input bits ls

-- ---- terms

-- goes on with what is made, over the nodes that there are then
abbrev pub with_made : Made → (List Node → ℤ → Made) → Made
with_made made next = next made.nodes made.literal

-- true is constant true, and false its complement
abbrev pub constant_literal : Bool → ℤ
constant_literal true = true_literal
constant_literal false = false_literal

-- the literal of a term, its parts made first and the left one before the right one
abbrev pub term_gate : Literals → List Node → TermTree → Made
term_gate literals nodes (constant b) = present nodes (constant_literal b)
term_gate literals nodes (load n) = present nodes (slice_index_or literals n (pos 0))
term_gate literals nodes (negation t) = complemented (term_gate literals nodes t)
term_gate literals nodes (conjunction s t) =
    with_made (term_gate literals nodes s) (λ ms a. with_made (term_gate literals ms t) (λ ns b. and_gate ns a b))
term_gate literals nodes (disjunction s t) =
    with_made (term_gate literals nodes s) (λ ms a. with_made (term_gate literals ms t) (λ ns b. or_gate ns a b))

-- ---- assignments

-- the nodes that there are, and the bits' literals
pub record Wires : Type 0 where
  pub nodes : List Node
  pub literals : Literals

-- what is made becomes the target's literal
abbrev pub assign_made : Literals → ℕ → Made → Wires
assign_made literals target made = record { nodes = made.nodes; literals = slice_set literals target made.literal }

abbrev pub assign_gate : Wires → AssignmentTree → Wires
assign_gate w a = assign_made w.literals a.target (term_gate w.literals w.nodes a.value)

-- the assignments in order
abbrev pub body_gates : List AssignmentTree → Wires → Wires
body_gates [] w = w
body_gates (a ∷ body) w = body_gates body (assign_gate w a)

-- the requirement's literal behind the assignments
abbrev pub scan_gate : List AssignmentTree → Wires → TermTree → Made
scan_gate body w holds = term_gate (body_gates body w).literals (body_gates body w).nodes holds

-- ---- the scan

-- whether the scan is done, ends in a trap or goes over a loop's bound. It takes one path, and is always done
abbrev pub done_literal : ℤ
done_literal = true_literal

abbrev pub trap_literal : ℤ
trap_literal = false_literal

abbrev pub over_literal : ℤ
over_literal = false_literal

-- the scan fails where it isn't done, or where it is and the requirement's literal p is false
abbrev pub fail_gate : List Node → ℤ → Made
fail_gate nodes p =
    with_made (or_gate nodes trap_literal over_literal)
    (λ ms stopped. with_made (and_gate ms done_literal (neg_ℤ p)) (λ ns broken. or_gate ns stopped broken))

-- it is done and doesn't fail
abbrev pub ok_gate : List Node → ℤ → Made
ok_gate nodes fail = and_gate nodes done_literal (neg_ℤ fail)

abbrev pub begin_wires : List Bit → Wires
begin_wires bits = record { nodes = begin_nodes (length bits); literals = begin_literals bits }

abbrev pub end_wires : ProgramTree → Wires
end_wires program = body_gates program.body (begin_wires program.bits)

-- the requirement's literal, on the bits' end values
abbrev pub holds_gate : ProgramTree → Made
holds_gate program = scan_gate program.body (begin_wires program.bits) program.holds

abbrev pub outcome : ProgramTree → Made → Made → Circuit
outcome program fail ok = record {
  nodes = ok.nodes;
  state_in = kept_literals program.bits (begin_wires program.bits).literals;
  input = taken_literals program.bits (begin_wires program.bits).literals;
  state_out = kept_literals program.bits (end_wires program).literals;
  ok = ok.literal;
  fail = fail.literal;
}

abbrev pub judged : ProgramTree → Made → Circuit
judged program fail = outcome program fail (ok_gate fail.nodes fail.literal)

unfoldable pub circuit_of : ProgramTree → Circuit
circuit_of program = judged program (with_made (holds_gate program) fail_gate)
