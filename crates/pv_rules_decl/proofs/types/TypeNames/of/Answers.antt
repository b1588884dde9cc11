use Rattle.std.proofs.Common.{ap, sym, ◌∙◌, refl, bytes_eq, arith, length, ◌≤◌, ◌++◌, ◌∷◌, [], map, take}
use Rattle.pv_tree.specs.Scopes.{is_type}
use Rattle.pv_names.specs.Firsts.{or_number}
use Rattle.pv_names.proofs.ForCallers.{grown}
use Rattle.pv_rules_expr.proofs.ForCallers.{taken_one}
use Rattle.pv_rules_decl.proofs.TypeCycles.{numbered_all}
use Rattle.pv_rules_decl.proofs.types.TypeNames.of.Goals as goal

pub loop-i-preserved : goal.loop-i-preserved
loop-i-preserved c = record {
  numbers = λ key. c.in_ok-push.ensures key
      ∙ ap (λ o. or_number o (bytes_eq key c.index-blocks-i.result.name.key) c.loop-i.i) (c.loop-i.invariant.numbers key)
      ∙ sym (grown (λ b. b.name.key) key c.args.blocks.now c.loop-i.i _ c.index-blocks-i.result c.loop-i-test.true c.index-blocks-i.is refl);
  types = c.in_ok-push-2.ensures.items ∙ ap (λ l. l ++ c.is_type.result ∷ []) c.loop-i.invariant.types
      ∙ ap (λ t. map (λ b. is_type b.kind) (take c.loop-i.i c.args.blocks.now) ++ t ∷ []) c.is_type.ensures
      ∙ sym (taken_one (λ b. is_type b.kind) c.args.blocks.now c.loop-i.i c.index-blocks-i.result c.loop-i-test.true c.index-blocks-i.is);
}

pub returns : goal.returns
returns c =
    let le : length c.args.blocks.now ≤ c.loop-i.i = omega arith in
    numbered_all (record { names = c.loop-i.names; kinds = c.loop-i.kinds }) c.args.blocks.now c.loop-i.i le c.loop-i.invariant.numbers c.loop-i.invariant.types
