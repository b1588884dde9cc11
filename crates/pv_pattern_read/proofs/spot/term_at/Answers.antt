use Rattle.std.proofs.Common.{IfOk, ℤ, pos, sym, subst, rules}
use Rattle.std.specs.Prelude.{FitsSigned}
use Rattle.std.specs.Int.{w64}
use Rattle.std.proofs.lemmas.Int.{to_z-of_z}
use Rattle.pv_eval.specs.Operands.{spot_of}
use Rattle.pv_pattern.specs.declared.term.Term.{Constant, Bit}
use Rattle.pv_pattern_read.specs.Making.{IsSpotTerm}
use Rattle.pv_pattern_read.specs.Readable.{IsReadable}
use Rattle.pv_pattern_read.proofs.Spotted.{bit_spot, fixed_spot, no_spot}
use Rattle.pv_pattern_read.proofs.spot.term_at.Goals as goal

pub cell-requires : goal.cell-requires
cell-requires c = subst (λ s. IsReadable (spot_of s)) c.in-Visible.is c.requires

pub returns-in-Visible : goal.returns-in-Visible
returns-in-Visible c = subst (λ s. IsSpotTerm (spot_of s) c.cell.result) (sym c.in-Visible.is) c.cell.ensures

pub unreachable-requires : goal.unreachable-requires
unreachable-requires c = subst (λ s. IsReadable (spot_of s)) c.in-Brief.is c.requires

pub returns-in-Bit : goal.returns-in-Bit
returns-in-Bit c = subst (λ s. IsSpotTerm (spot_of s) (Bit c.in-Bit.n c.in-Bit.b)) (sym c.in-Bit.is) (bit_spot c.in-Bit.n c.in-Bit.b)

pub bytes-requires : goal.bytes-requires
bytes-requires c = subst (λ s. IsReadable (spot_of s)) c.in-Bytes.is c.requires

pub returns-in-Bytes : goal.returns-in-Bytes
returns-in-Bytes c = subst (λ s. IfOk c.bytes.result (IsSpotTerm (spot_of s))) (sym c.in-Bytes.is) c.bytes.ensures

pub returns-in-Fixed : goal.returns-in-Fixed
returns-in-Fixed c =
    let v = c.in-Fixed.v in
    let fits : FitsSigned w64 v = search rules in
    subst (λ (x : ℤ). IsSpotTerm (spot_of c.args.spot) (Constant x)) (sym (to_z-of_z w64 v fits))
    (subst (λ s. IsSpotTerm (spot_of s) (Constant v)) (sym c.in-Fixed.is) (fixed_spot v))

pub returns-in-Nowhere : goal.returns-in-Nowhere
returns-in-Nowhere c = subst (λ s. IsSpotTerm (spot_of s) (Constant (pos 0))) (sym c.in-Nowhere.is) no_spot
