-- What nodes do: one after the other, each adds its value to those of the nodes before it, and the first trap decides.
use Rattle.std.specs.Prelude.{ℕ, ◌+◌, ℤ, pos, unsigned_abs, int_le, List, [], ◌∷◌, ◌++◌, ◌&&◌, if◌then◌else◌}
use Rattle.pv_place.specs.declared.place.Place.{Place}
use Rattle.pv_place.specs.declared.trap.TrapKind.TheVariants.{Index}
use Rattle.pv_mean.specs.Frames.{Frame}
use Rattle.pv_mean.specs.Endings.{Tried, Value, got, trap, and_then}
use Rattle.pv_mean.specs.Spots.{read_spot}
use Rattle.pv_eval.specs.declared.node.Node.{Node}
use Rattle.pv_eval.specs.declared.node.Node.TheVariants.{Constant, Read, One, Two, Three, Element}
use Rattle.pv_eval.specs.Operators.{one_result, two_result, three_result}
use Rattle.pv_eval.specs.Operands.{at, spot_at, span}

-- the number of an element's cell; an index outside the bounds traps
abbrev pub element_number : ℤ → ℤ → ℤ → ℤ → ℕ → Place → Value
element_number n i low high stride place =
    if int_le low i && int_le i high then got (pos (unsigned_abs n + span low i stride))
    else trap Index place

-- the value of a node, by those of the nodes before it
abbrev pub node_value : ℕ → Frame → List ℤ → Node → Value
node_value first frame values (Constant v) = got v
node_value first frame values (Read o place) = read_spot frame place (spot_at first values o)
node_value first frame values (One op ty arg) = got (one_result op ty (at values arg))
node_value first frame values (Two op ty place left right) =
    two_result op ty place (at values left) (at values right)
node_value first frame values (Three op a b c) =
    got (three_result op (at values a) (at values b) (at values c))
node_value first frame values (Element from index low high stride most place) =
    element_number (at values from) (at values index) low high stride place

-- in a frame of a block whose instance begins at the first cell
abbrev pub run : ℕ → Frame → List Node → List ℤ → Tried (List ℤ)
run first frame [] values = got values
run first frame (node ∷ more) values =
    and_then (node_value first frame values node)
    (λ v. run first frame more (values ++ v ∷ []))
