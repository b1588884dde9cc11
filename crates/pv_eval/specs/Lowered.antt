-- The operations of nodes.
use Rattle.std.specs.Prelude.{ℕ, suc, pos, List, [], ◌∷◌, Option, Some, None, slice_get, option_and_then, unwrap_or}
use Rattle.pv_place.specs.declared.place.Place.{Place}
use Rattle.pv_eval.specs.declared.node.Spot.{Spot}
use Rattle.pv_eval.specs.declared.node.Spot.TheVariants.{Visible, Brief, Bit, Bytes, Fixed, Nowhere}
use Rattle.pv_eval.specs.declared.node.Operand.{Operand}
use Rattle.pv_eval.specs.declared.node.Operand.TheVariants as operand
use Rattle.pv_eval.specs.declared.node.Node.{Node}
use Rattle.pv_eval.specs.declared.node.Node.TheVariants as node
use Rattle.pv_eval.specs.declared.op.Arg.{Arg}
use Rattle.pv_eval.specs.declared.op.Arg.TheVariants as arg
use Rattle.pv_eval.specs.declared.op.Access.{Access}
use Rattle.pv_eval.specs.declared.op.Access.TheVariants as access
use Rattle.pv_eval.specs.declared.op.Deed.{Deed}
use Rattle.pv_eval.specs.declared.op.Deed.TheVariants as deed
use Rattle.pv_eval.specs.declared.op.Op.{Op}

-- ---- what only copies

abbrev pub copied_spot : Spot → Option Arg
copied_spot (Visible n) = Some (arg.Visible n)
copied_spot (Brief ty n) = None
copied_spot (Bit n b) = None
copied_spot (Bytes ty n count) = None
copied_spot (Fixed v) = Some (arg.Constant v)
copied_spot Nowhere = Some (arg.Constant (pos 0))

abbrev pub copied_operand : Operand → Option Arg
copied_operand (operand.At spot) = copied_spot spot
copied_operand (operand.Own n) = Some (arg.Own n)
copied_operand (operand.Element part offset address) = None

abbrev pub copied : Node → Option Arg
copied (node.Constant v) = Some (arg.Constant v)
copied (node.Read o place) = copied_operand o
copied (node.One op ty n) = None
copied (node.Two op ty place left right) = None
copied (node.Three op a b c) = None
copied (node.Element from index low high stride most place) = None

-- the value of a node is fetched where it copies from, or under its number
abbrev pub arg_of : List Node → ℕ → Arg
arg_of nodes n = unwrap_or (option_and_then copied (slice_get nodes n)) (arg.Value n)

-- ---- the others

abbrev pub access_of : List Node → Operand → Access
access_of nodes (operand.At spot) = access.At spot
access_of nodes (operand.Own n) = access.Own n
access_of nodes (operand.Element part offset address) =
    access.Element part offset (arg_of nodes address)

abbrev pub read_of : List Node → Operand → Place → Option Arg → Option Deed
read_of nodes o place (Some a) = None
read_of nodes o place None = Some (deed.Read (access_of nodes o) place)

abbrev pub deed_of : List Node → Node → Option Deed
deed_of nodes (node.Constant v) = None
deed_of nodes (node.Read o place) = read_of nodes o place (copied_operand o)
deed_of nodes (node.One op ty n) = Some (deed.One op ty (arg_of nodes n))
deed_of nodes (node.Two op ty place left right) =
    Some (deed.Two op ty place (arg_of nodes left) (arg_of nodes right))
deed_of nodes (node.Three op a b c) =
    Some (deed.Three op (arg_of nodes a) (arg_of nodes b) (arg_of nodes c))
deed_of nodes (node.Element from index low high stride most place) =
    Some (deed.Element (arg_of nodes from) (arg_of nodes index) low high (pos stride) place)

abbrev pub with_op : ℕ → Option Deed → List Op → List Op
with_op k None ops = ops
with_op k (Some d) ops = record { to = k; deed = d } ∷ ops

-- those of the rest, from a number on
abbrev pub ops_of : List Node → ℕ → List Node → List Op
ops_of nodes k [] = []
ops_of nodes k (x ∷ xs) = with_op k (deed_of nodes x) (ops_of nodes (suc k) xs)
