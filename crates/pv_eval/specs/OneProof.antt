-- That operations read spots has one proof at most, as a struct's invariant must.
use Rattle.std.specs.Prelude.{List}
use Rattle.std.proofs.Props.{props}
use Rattle.pv_eval.specs.declared.node.Spot.{Spot}
use Rattle.pv_eval.specs.declared.node.Spot.TheVariants.{Visible, Brief, Bit, Bytes, Fixed, Nowhere}
use Rattle.pv_eval.specs.Operands.{IsSpot}
use Rattle.pv_eval.specs.declared.op.Access.{Access}
use Rattle.pv_eval.specs.declared.op.Access.TheVariants as access
use Rattle.pv_eval.specs.declared.op.Deed.{Deed}
use Rattle.pv_eval.specs.declared.op.Deed.TheVariants as deed
use Rattle.pv_eval.specs.declared.op.Op.{Op}
use Rattle.pv_eval.specs.Ops.{IsAccess, HasSpot, AreOps}

IsSpot-prop : (s : Spot) → IsProp (IsSpot s)
IsSpot-prop (Visible n) = hlevel props
IsSpot-prop (Brief ty n) = hlevel props
IsSpot-prop (Bit n b) = hlevel props
IsSpot-prop (Bytes ty n count) = hlevel props
IsSpot-prop (Fixed v) = hlevel props
IsSpot-prop Nowhere = hlevel props

pub IsAccess-prop : (a : Access) → IsProp (IsAccess a)
IsAccess-prop (access.At spot) = IsSpot-prop spot
IsAccess-prop (access.Own n) = hlevel props
IsAccess-prop (access.Element part offset address) = hlevel props

HasSpot-prop : (d : Deed) → IsProp (HasSpot d)
HasSpot-prop (deed.Read from place) = IsAccess-prop from
HasSpot-prop (deed.One op ty arg) = hlevel props
HasSpot-prop (deed.Two op ty place left right) = hlevel props
HasSpot-prop (deed.Three op a b c) = hlevel props
HasSpot-prop (deed.Element from index low high stride place) = hlevel props

pub AreOps-prop : (ops : List Op) → IsProp (AreOps ops)
AreOps-prop ops = hlevel (props, HasSpot-prop)
