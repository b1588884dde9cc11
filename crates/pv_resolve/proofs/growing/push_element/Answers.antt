use Rattle.std.proofs.Common.{subst, sym, arith, rules, to_z, of_z}
use Rattle.std.specs.Prelude.{FitsSigned}
use Rattle.std.specs.Int.{w64}
use Rattle.std.proofs.lemmas.Int.{to_z-of_z}
use Rattle.std.proofs.lemmas.Result.{IfOk-weaker}
use Rattle.pv_eval.specs.declared.node.Node.TheVariants.{Element}
use Rattle.pv_eval.specs.Operands.{span}
use Rattle.pv_eval.specs.Order.{most_at, IsMost}
use Rattle.pv_resolve.specs.Growing.{Adds}
use Rattle.std.specs.Prelude.{Some}
use Rattle.std.proofs.lemmas.Option.{none-some, same_Some}
use Rattle.std.proofs.Common.{◌≡◌, ◌+◌}
use Rattle.pv_resolve.proofs.growing.push_element.Goals as goal

pub push-requires-clause-follows : goal.push-requires-clause-follows
push-requires-clause-follows c =
    let e = c.args.elements.now in
    let low : FitsSigned w64 e.low = search rules in
    let high : FitsSigned w64 e.high = search rules in
    record {
      below = (c.requires.from, c.requires.index);
      most = (
        subst (λ z. IsMost (most_at c.args.nodes.now.items c.args.from) (span z (to_z w64 (of_z w64 e.high)) e.stride) c.in-Some.most) (sym (to_z-of_z w64 e.low low))
            (subst (λ z. IsMost (most_at c.args.nodes.now.items c.args.from) (span e.low z e.stride) c.in-Some.most) (sym (to_z-of_z w64 e.high high))
            (subst (λ xs. IsMost (most_at xs c.args.from) (span e.low e.high e.stride) c.in-Some.most) c.as_slice.ensures.value c.in-Some.ensures.most)),
        omega arith,
      );
    }

pub returns-in-Some-clause-adds : goal.returns-in-Some-clause-adds
returns-in-Some-clause-adds c =
    let e = c.args.elements.now in
    let low : FitsSigned w64 e.low = search rules in
    let high : FitsSigned w64 e.high = search rules in
    IfOk-weaker c.push.result _ _
    (λ n adds. (
      c.in-Some.most,
      subst (λ z. Adds c.args.nodes.now.items c.push.new.nodes.items (Element c.args.from c.args.index z e.high e.stride c.in-Some.most c.args.place) n)
          (to_z-of_z w64 e.low low)
          (subst (λ z. Adds c.args.nodes.now.items c.push.new.nodes.items (Element c.args.from c.args.index (to_z w64 (of_z w64 e.low)) z e.stride c.in-Some.most c.args.place) n)
          (to_z-of_z w64 e.high high) adds),
    ))
    c.push.ensures.adds

pub returns-in-Some-clause-most : goal.returns-in-Some-clause-most
returns-in-Some-clause-most c =
    let e = c.args.elements.now in
    let low : FitsSigned w64 e.low = search rules in
    let high : FitsSigned w64 e.high = search rules in
    λ before is lt.
    let same : c.in-Some.most ≡ before + span e.low e.high e.stride =
    same_Some c.in-Some.most _ (c.in-Some.ensures.is before (subst (λ xs. most_at xs c.args.from ≡ Some before) (sym c.as_slice.ensures.value) is) lt) in
    IfOk-weaker c.push.result _ _
    (λ n adds. subst (λ m. Adds c.args.nodes.now.items c.push.new.nodes.items (Element c.args.from c.args.index e.low e.high e.stride m c.args.place) n) same
    (subst (λ z. Adds c.args.nodes.now.items c.push.new.nodes.items (Element c.args.from c.args.index z e.high e.stride c.in-Some.most c.args.place) n)
    (to_z-of_z w64 e.low low)
    (subst (λ z. Adds c.args.nodes.now.items c.push.new.nodes.items (Element c.args.from c.args.index (to_z w64 (of_z w64 e.low)) z e.stride c.in-Some.most c.args.place) n)
    (to_z-of_z w64 e.high high) adds)))
    c.push.ensures.adds

pub returns-in-Some-clause-memory : goal.returns-in-Some-clause-memory
returns-in-Some-clause-memory c =
    λ before is lt. c.push.ensures.memory

pub returns-in-None-clause-memory : goal.returns-in-None-clause-memory
returns-in-None-clause-memory c =
    λ before is lt. absurd (none-some _ (c.in-None.ensures.is before
    (subst (λ xs. most_at xs c.args.from ≡ Some before) (sym c.as_slice.ensures.value) is) lt))
