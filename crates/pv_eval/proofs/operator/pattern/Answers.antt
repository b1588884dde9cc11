use Rattle.std.proofs.Common.{◌∙◌, sym, subst, ap, arith, rules}
use Rattle.std.specs.Prelude.{unsigned_abs}
use Rattle.std.proofs.Common.{to_z, of_z}
use Rattle.std.specs.Int.{w64}
use Rattle.std.proofs.lemmas.Int.{ints, to_z-of_z}
use Rattle.pv_word.specs.Types.{InRange, pattern_of, wrap_of}
use Rattle.pv_eval.proofs.OperatorLaws.{cut, own_pattern, pattern_short, wrap_in}
use Rattle.pv_eval.proofs.operator.pattern.Goals as goal

pub bits_of-requires : goal.bits_of-requires
bits_of-requires c =
    subst (InRange c.args.ty) (sym (to_z-of_z w64 c.kept.result (record { sfits = c.kept.type_inv }) ∙ c.kept.ensures))
    (wrap_in c.args.ty (to_z w64 (of_z w64 c.args.a)))

pub returns-then-fits-clause-value : goal.returns-then-fits-clause-value
returns-then-fits-clause-value c =
    let h : InRange c.args.ty c.args.a = search rules in
    ap unsigned_abs (to_z-of_z w64 c.args.a c.ranges.a) ∙ sym (own_pattern c.args.ty c.args.a (omega (arith, ints)) h)

pub returns-then-fits-clause-short : goal.returns-then-fits-clause-short
returns-then-fits-clause-short c = omega (arith, returns-then-fits-clause-value c, pattern_short c.args.ty c.args.a)

pub returns-else-a-ge0-clause-value : goal.returns-else-a-ge0-clause-value
returns-else-a-ge0-clause-value c =
    c.bits_of.ensures
    ∙ ap (pattern_of c.args.ty) (to_z-of_z w64 c.kept.result (record { sfits = c.kept.type_inv }) ∙ c.kept.ensures ∙ ap (wrap_of c.args.ty) (to_z-of_z w64 c.args.a c.ranges.a))
    ∙ cut c.args.ty c.args.a

pub returns-else-a-ge0-clause-short : goal.returns-else-a-ge0-clause-short
returns-else-a-ge0-clause-short c = omega (arith, returns-else-a-ge0-clause-value c, pattern_short c.args.ty c.args.a)
