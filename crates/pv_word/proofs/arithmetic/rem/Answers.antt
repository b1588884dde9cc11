use Rattle.std.specs.Int.{w128}
use Rattle.std.proofs.Common.{◌∙◌, sym, subst}
use Rattle.std.proofs.lemmas.Int.{rem_is}
use Rattle.pv_word.specs.Division.{IsDivision, quotient}
use Rattle.pv_word.specs.Types.{InRange, is_signed_of}
use Rattle.pv_word.proofs.DivisionLaws.{division-is, remainder-in_range}
use Rattle.pv_word.proofs.TypeLaws.{wide}
use Rattle.pv_word.proofs.WrapLaws.{wrap-own}
use Rattle.pv_word.proofs.arithmetic.rem.Goals as goal

pub returns : goal.returns
returns c =
    let d = division-is c.args.a c.args.b c.requires.nonzero in
    let is = rem_is w128 c.args.a c.args.b c.ranges.a c.ranges.b in
    let inside = remainder-in_range (is_signed_of c.args.ty) c.requires.a_in_range c.requires.b_in_range d in
    record {
      in_range = subst (InRange c.args.ty) (sym is) inside;
      divides = (quotient c.args.a c.args.b, subst (IsDivision c.args.a c.args.b (quotient c.args.a c.args.b)) (sym is) d);
      value = is ∙ sym (wrap-own (wide c.args.ty) inside);
    }
