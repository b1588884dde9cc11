-- What each instruction reads that may have no value, in the order in which it does; and when it has one.
use Rattle.std.specs.Prelude.{◌≡◌, ◌≢◌, List, [], ◌∷◌, true, Some, None, IsSome, ⊤}
use Rattle.pv_place.specs.declared.trap.TrapKind.TheVariants.{Unset}
use Rattle.pv_tree.specs.declared.instr.Op.{Op}
use Rattle.pv_tree.specs.declared.instr.Op.TheVariants as op
use Rattle.pv_tree.specs.Tree.{InstrTree}
use Rattle.pv_mean.specs.Sources.{Source}
use Rattle.pv_mean.specs.Endings.{Tried, got, trap, and_then}
use Rattle.pv_mean.specs.Spots.{read_spot}
use Rattle.pv_mean.specs.Activations.{Activation}
use Rattle.pv_mean.specs.Registers.{Nesting, Working}
use Rattle.pv_mean.specs.Instructions.{spot_behind}

-- the RLO; the RLO where a first check was made, and that which waits on the stack; an accumulator; a condition code; what an
-- operand's indexes read, and besides them the operand's own value
pub data Read : Type 0 where
  rlo : Read
  rlo_if_checked : Read
  outer_rlo : Read
  accu1 : Read
  accu2 : Read
  cc1 : Read
  cc0 : Read
  ov : Read
  found : Read
  value : Read

abbrev pub reads : InstrTree → Op → List Read
reads i op.A = value ∷ rlo_if_checked ∷ []
reads i op.An = value ∷ rlo_if_checked ∷ []
reads i op.O = elim i.operand [ None ↦ rlo_if_checked ∷ [] | Some o ↦ value ∷ rlo_if_checked ∷ [] ]
reads i op.On = value ∷ rlo_if_checked ∷ []
reads i op.X = value ∷ rlo_if_checked ∷ []
reads i op.Xn = value ∷ rlo_if_checked ∷ []
reads i op.AOpen = []
reads i op.AnOpen = []
reads i op.OOpen = []
reads i op.OnOpen = []
reads i op.XOpen = []
reads i op.XnOpen = []
reads i op.Close = rlo ∷ outer_rlo ∷ []
reads i op.Assign = rlo ∷ found ∷ []
reads i op.S = rlo ∷ found ∷ []
reads i op.R = rlo ∷ found ∷ []
reads i op.Not = rlo ∷ []
reads i op.Set = []
reads i op.Clr = []
reads i op.Fp = rlo ∷ value ∷ []
reads i op.Fn = rlo ∷ value ∷ []
reads i op.Save = []
reads i op.Nop = []
reads i op.Bld = []
reads i op.L = elim i.literal [ None ↦ value ∷ [] | Some l ↦ [] ]
reads i op.T = accu1 ∷ found ∷ []
reads i op.AddI = accu2 ∷ accu1 ∷ []
reads i op.SubI = accu2 ∷ accu1 ∷ []
reads i op.MulI = accu2 ∷ accu1 ∷ []
reads i op.DivI = accu2 ∷ accu1 ∷ []
reads i op.AddD = accu2 ∷ accu1 ∷ []
reads i op.SubD = accu2 ∷ accu1 ∷ []
reads i op.MulD = accu2 ∷ accu1 ∷ []
reads i op.DivD = accu2 ∷ accu1 ∷ []
reads i op.Mod = accu2 ∷ accu1 ∷ []
reads i op.EqI = accu2 ∷ accu1 ∷ []
reads i op.NeI = accu2 ∷ accu1 ∷ []
reads i op.GtI = accu2 ∷ accu1 ∷ []
reads i op.LtI = accu2 ∷ accu1 ∷ []
reads i op.GeI = accu2 ∷ accu1 ∷ []
reads i op.LeI = accu2 ∷ accu1 ∷ []
reads i op.EqD = accu2 ∷ accu1 ∷ []
reads i op.NeD = accu2 ∷ accu1 ∷ []
reads i op.GtD = accu2 ∷ accu1 ∷ []
reads i op.LtD = accu2 ∷ accu1 ∷ []
reads i op.GeD = accu2 ∷ accu1 ∷ []
reads i op.LeD = accu2 ∷ accu1 ∷ []
reads i op.Aw = elim i.literal [ None ↦ accu1 ∷ accu2 ∷ [] | Some l ↦ accu1 ∷ [] ]
reads i op.Ow = elim i.literal [ None ↦ accu1 ∷ accu2 ∷ [] | Some l ↦ accu1 ∷ [] ]
reads i op.Xow = elim i.literal [ None ↦ accu1 ∷ accu2 ∷ [] | Some l ↦ accu1 ∷ [] ]
reads i op.Ad = elim i.literal [ None ↦ accu1 ∷ accu2 ∷ [] | Some l ↦ accu1 ∷ [] ]
reads i op.Od = elim i.literal [ None ↦ accu1 ∷ accu2 ∷ [] | Some l ↦ accu1 ∷ [] ]
reads i op.Xod = elim i.literal [ None ↦ accu1 ∷ accu2 ∷ [] | Some l ↦ accu1 ∷ [] ]
reads i op.Slw = accu1 ∷ []
reads i op.Srw = accu1 ∷ []
reads i op.Sld = accu1 ∷ []
reads i op.Srd = accu1 ∷ []
reads i op.Itd = accu1 ∷ []
reads i op.Tak = []
reads i op.Push = []
reads i op.Pop = []
reads i op.Ju = []
reads i op.Jc = rlo ∷ []
reads i op.Jcb = rlo ∷ []
reads i op.Jcn = rlo ∷ []
reads i op.Jnb = rlo ∷ []
reads i op.Jz = cc1 ∷ cc0 ∷ []
reads i op.Jn = cc1 ∷ cc0 ∷ []
reads i op.Jp = cc1 ∷ cc0 ∷ []
reads i op.Jm = cc1 ∷ cc0 ∷ []
reads i op.Jpz = cc1 ∷ cc0 ∷ []
reads i op.Jmz = cc1 ∷ cc0 ∷ []
reads i op.Jo = ov ∷ []
reads i op.Loop = accu1 ∷ []
reads i op.Be = []
reads i op.Beu = []
reads i op.Bec = rlo ∷ []
reads i op.Call = []
reads i op.Uc = []

-- it doesn't trap for want of a value
abbrev pub IsNotUnset : {A : Type 0} → Tried A → Type 0
IsNotUnset (got a) = ⊤
IsNotUnset (trap kind place) = kind ≢ Unset

abbrev pub WaitsWithValue : List Nesting → Type 0
WaitsWithValue [] = ⊤
WaitsWithValue (n ∷ more) = n.outer.checked ≡ true → IsSome n.outer.rlo

abbrev pub HasValue : Source → Activation → InstrTree → Working → Read → Type 0
HasValue source act i w rlo = IsSome w.registers.logic.rlo
HasValue source act i w rlo_if_checked =
    w.registers.logic.checked ≡ true → IsSome w.registers.logic.rlo
HasValue source act i w outer_rlo = WaitsWithValue w.registers.nestings
HasValue source act i w accu1 = IsSome w.registers.accu1
HasValue source act i w accu2 = IsSome w.registers.accu2
HasValue source act i w cc1 = IsSome w.registers.codes.cc1
HasValue source act i w cc0 = IsSome w.registers.codes.cc0
HasValue source act i w ov = IsSome w.registers.codes.ov
HasValue source act i w found = IsNotUnset (spot_behind source act w.frame i)
HasValue source act i w value =
    IsNotUnset (and_then (spot_behind source act w.frame i)
    (λ spot. read_spot w.frame i.place spot))

abbrev pub HaveValues : Source → Activation → InstrTree → Working → List Read → Type 0
HaveValues source act i w [] = ⊤
HaveValues source act i w (r ∷ more) = HasValue source act i w r × HaveValues source act i w more
