use Rattle.std.proofs.Common.{◌≡◌, ◌*◌, ◌^◌, ◌∙◌, ap, arith, pos}
use Rattle.std.specs.Int.{w64}
use Rattle.std.proofs.lemmas.Int.{to_z-of_z}
use Rattle.pv_word.specs.Types.{pattern_of, wrap_of}
use Rattle.pv_eval.proofs.OperatorLaws.{shl_far, shl_small, shl_kept}
use Rattle.pv_eval.proofs.operator.shl.Goals as goal

pub packed-requires : goal.packed-requires
packed-requires c = omega (arith, shl_kept c.pattern.result c.args.n c.pattern.ensures.short (omega arith), shl_small c.pattern.result c.args.n c.pattern.ensures.short (omega arith))

pub returns-then-n-lt32 : goal.returns-then-n-lt32
returns-then-n-lt32 c =
    let p : c.pattern.result ≡ pattern_of c.args.ty c.args.a = c.pattern.ensures.value ∙ ap (pattern_of c.args.ty) (to_z-of_z w64 c.args.a c.ranges.a) in
    to_z-of_z w64 c.packed.result (record { sfits = c.packed.type_inv }) ∙ c.packed.ensures
    ∙ ap (λ m. wrap_of c.args.ty (pos m)) (shl_kept c.pattern.result c.args.n c.pattern.ensures.short (omega arith))
    ∙ ap (λ m. wrap_of c.args.ty (pos (m * 2 ^ c.args.n))) p

pub returns-else-n-lt32 : goal.returns-else-n-lt32
returns-else-n-lt32 c = shl_far c.args.ty c.args.a c.args.n (omega arith)
