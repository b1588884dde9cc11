use Rattle.std.proofs.Common.{refl, ◌∙◌, arith, rules}
use Rattle.std.specs.Prelude.{FitsSigned}
use Rattle.std.specs.Int.{w64}
use Rattle.std.proofs.lemmas.Int.{to_z-of_z}
use Rattle.pv_types.specs.View.{type_tree}
use Rattle.pv_resolve.proofs.Elements.{goes_array}
use Rattle.pv_resolve.proofs.FormLaws.{added_grows, added_within}
use Rattle.std.proofs.lemmas.Bool.{false≢true}
use Rattle.pv_resolve.proofs.Nears.{array_roomy, stride_beyond, span_small, walk_array}
use Rattle.pv_resolve.proofs.Fits.{failed_both}
use Rattle.pv_resolve.proofs.context.Context.array_element.Goals as goal

pub returns-clause-grows : goal.returns-clause-grows
returns-clause-grows c =
    added_grows _ _ _ c.in_ok-n.n c.in_ok-n.ensures.adds.1

pub returns-clause-address : goal.returns-clause-address
returns-clause-address c =
    added_within _ _ _ c.in_ok-n.n c.in_ok-n.ensures.adds.1

pub returns-clause-goes : goal.returns-clause-goes
returns-clause-goes c =
    let low : FitsSigned w64 c.in_ok-low.low = search rules in
    let high : FitsSigned w64 c.in_ok-high.high = search rules in
    λ source base p values is ty m. goes_array c.args.self.now source base _ _ c.args.part c.args.laid _ c.args.from c.args.index c.in_ok-n.n _ _
    c.args.bounds.low c.args.bounds.high c.of_type-stride.result c.in_ok-n.ensures.adds.0 (type_tree c.args.bounds.of.now) p c.args.place values is ty
    c.level_of-ty.ensures refl c.of_type-stride.ensures (omega arith) (to_z-of_z w64 c.in_ok-low.low low ∙ c.in_ok-low.ensures.value)
    (to_z-of_z w64 c.in_ok-high.high high ∙ c.in_ok-high.ensures.value) c.in_ok-n.ensures.adds.1 m

pub returns-then-stride-ge-BEYOND-clause-room : goal.returns-then-stride-ge-BEYOND-clause-room
returns-then-stride-ge-BEYOND-clause-room c =
    λ source more p is ty most h. absurd (stride_beyond c.args.self.now source (type_tree c.args.bounds.of.now) c.of_type-stride.result is
    c.of_type-stride.ensures (omega arith)
    (array_roomy source.project more c.args.part c.args.laid c.args.bounds.low c.args.bounds.high (type_tree c.args.bounds.of.now) p ty h).stride)

pub returns-in_err-low-clause-room : goal.returns-in_err-low-clause-room
returns-in_err-low-clause-room c =
    λ source more p is ty most h. absurd (false≢true (c.in_err-low.ensures.fits
    (array_roomy source.project more c.args.part c.args.laid c.args.bounds.low c.args.bounds.high (type_tree c.args.bounds.of.now) p ty h).low_fits))

pub returns-in_err-high-clause-room : goal.returns-in_err-high-clause-room
returns-in_err-high-clause-room c =
    λ source more p is ty most h. absurd (false≢true (c.in_err-high.ensures.fits
    (array_roomy source.project more c.args.part c.args.laid c.args.bounds.low c.args.bounds.high (type_tree c.args.bounds.of.now) p ty h).high_fits))

pub returns-in_err-n-clause-room : goal.returns-in_err-n-clause-room
returns-in_err-n-clause-room c =
    let low : FitsSigned w64 c.in_ok-low.low = search rules in
    let high : FitsSigned w64 c.in_ok-high.high = search rules in
    λ source more p is ty most h. failed_both _ _ _ c.from_residual-in_err-n.ensures.1 (c.in_err-n.ensures.memory more most
    (span_small c.args.self.now source is more c.args.part c.args.laid _ _ c.args.bounds.low c.args.bounds.high c.of_type-stride.result
    (type_tree c.args.bounds.of.now) p ty c.of_type-stride.ensures (omega arith) (to_z-of_z w64 c.in_ok-low.low low ∙ c.in_ok-low.ensures.value)
    (to_z-of_z w64 c.in_ok-high.high high ∙ c.in_ok-high.ensures.value) h))

pub returns-clause-room : goal.returns-clause-room
returns-clause-room c =
    let low : FitsSigned w64 c.in_ok-low.low = search rules in
    let high : FitsSigned w64 c.in_ok-high.high = search rules in
    λ source more p is ty most h. (
      tt,
      walk_array c.args.self.now source is more c.args.part c.args.laid _ _ c.args.bounds.low c.args.bounds.high c.of_type-stride.result
          (type_tree c.args.bounds.of.now) p ty c.of_type-stride.ensures (omega arith) (to_z-of_z w64 c.in_ok-low.low low ∙ c.in_ok-low.ensures.value)
          (to_z-of_z w64 c.in_ok-high.high high ∙ c.in_ok-high.ensures.value) h _ _ _ c.args.from c.args.index c.in_ok-n.n c.args.place
          c.level_of-ty.ensures refl (c.in_ok-n.ensures.most more most (span_small c.args.self.now source is more c.args.part c.args.laid _ _ c.args.bounds.low c.args.bounds.high c.of_type-stride.result
          (type_tree c.args.bounds.of.now) p ty c.of_type-stride.ensures (omega arith) (to_z-of_z w64 c.in_ok-low.low low ∙ c.in_ok-low.ensures.value)
          (to_z-of_z w64 c.in_ok-high.high high ∙ c.in_ok-high.ensures.value) h)),
    )
