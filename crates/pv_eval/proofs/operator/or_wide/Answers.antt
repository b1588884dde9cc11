use Rattle.std.proofs.Common.{◌≡◌, ◌∙◌, ap, arith, pos}
use Rattle.std.specs.Prelude.{bit_or}
use Rattle.std.specs.Int.{w64}
use Rattle.std.proofs.lemmas.Int.{to_z-of_z}
use Rattle.std.proofs.lemmas.Nat.{or_of_32}
use Rattle.pv_word.specs.Types.{pattern_of, wrap_of}
use Rattle.pv_eval.proofs.operator.or_wide.Goals as goal

pub packed-requires : goal.packed-requires
packed-requires c = omega (arith, or_of_32 c.pattern.result c.pattern-2.result c.pattern.ensures.short c.pattern-2.ensures.short)

pub returns : goal.returns
returns c =
    let p : c.pattern.result ≡ pattern_of c.args.ty c.args.a = c.pattern.ensures.value ∙ ap (pattern_of c.args.ty) (to_z-of_z w64 c.args.a c.ranges.a) in
    let q : c.pattern-2.result ≡ pattern_of c.args.ty c.args.b = c.pattern-2.ensures.value ∙ ap (pattern_of c.args.ty) (to_z-of_z w64 c.args.b c.ranges.b) in
    to_z-of_z w64 c.packed.result (record { sfits = c.packed.type_inv }) ∙ c.packed.ensures
    ∙ ap (λ m. wrap_of c.args.ty (pos (bit_or m c.pattern-2.result))) p
    ∙ ap (λ m. wrap_of c.args.ty (pos (bit_or (pattern_of c.args.ty c.args.a) m))) q
