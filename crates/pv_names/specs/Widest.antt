-- The widest of the types of several parts, from the last part on.
use Rattle.std.specs.Prelude.{List, [], ◌∷◌, Option, Some, None}
use Rattle.pv_word.specs.declared.types.Ty.{Ty}
use Rattle.pv_tree.specs.Sorts.{Sort, own_type, taken, wider}
use Rattle.pv_names.specs.Sorts.{want_tree}
use Rattle.pv_names.specs.declared.sort.Want.{Want}
use Rattle.pv_names.specs.declared.operator.Widest.{Widest}
use Rattle.pv_names.specs.declared.operator.Widest.TheVariants.{Empty, Clash, Of}

abbrev pub of_or_clash : Option Ty → Widest
of_or_clash None = Clash
of_or_clash (Some ty) = Of ty

abbrev pub widest_step : Ty → Widest → Widest
widest_step ty Empty = Of ty
widest_step ty Clash = Clash
widest_step ty (Of other) = of_or_clash (wider ty other)

abbrev pub step_where : Option Ty → Widest → Widest
step_where None widest = widest
step_where (Some ty) widest = widest_step ty widest

abbrev pub type_in : Option Want → Sort → Option Ty
type_in None s = own_type s
type_in (Some want) s = own_type (taken (want_tree want) s)

abbrev pub gathered : Option Want → List Sort → Widest
gathered want [] = Empty
gathered want (s ∷ more) = step_where (type_in want s) (gathered want more)

abbrev pub widest_type : Widest → Option Ty
widest_type Empty = None
widest_type Clash = None
widest_type (Of ty) = Some ty
