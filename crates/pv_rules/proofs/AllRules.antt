-- The rules that a project can break, each with its nearest place.
use Rattle.std.proofs.Common.{inl, inr, refl, List, [], ◌∷◌, Option}
use Rattle.pv_place.specs.declared.place.Place.{Place}
use Rattle.pv_tree.specs.Scopes.{ProjectTree}
use Rattle.pv_tree.specs.Rules as tree
use Rattle.pv_tree.specs.Rules.{Breaks}
use Rattle.pv_rules_decl.specs.Least.{AreNear, HasRule}
use Rattle.pv_rules_decl.specs.declared.least.Found.{Found}
use Rattle.pv_rules_decl.specs.declared.fault.Rule.{Rule}
use Rattle.pv_rules_decl.specs.declared.fault.Rule.TheVariants.{DoubledName, MissingName, MissingType, Misfit, WrongCondition, OutOfRange, WrongArray, BeyondBounds, FixedTarget, WrongCounter, WrongStep, OutsideLoop, WrongCase, Cycle, TooDeep, NotCallable, WrongArgument, FixedOutput, WrongLabel, WrongRange, WrongNesting, RefusedOperand, WrongAddress}
use Rattle.pv_rules.specs.Found.{AreAll}
use Rattle.pv_rules.specs.declared.found.Nearest.{Nearest}

abbrev found : Rule → Option Place → Found
found rule place = record { rule = rule; place = place }

abbrev pub all_found : Nearest → List Found
all_found n =
    found DoubledName n.declared.doubled ∷ found MissingName n.whole.missing ∷ found MissingType n.declared.untyped
    ∷ found Misfit n.whole.misfit ∷ found WrongCondition n.code.condition ∷ found OutOfRange n.whole.outside
    ∷ found WrongArray n.declared.array ∷ found BeyondBounds n.whole.beyond ∷ found FixedTarget n.code.target
    ∷ found WrongCounter n.code.counter ∷ found WrongStep n.code.step ∷ found OutsideLoop n.code.leave
    ∷ found WrongCase n.code.choice ∷ found Cycle n.chained.cycle ∷ found TooDeep n.chained.deep
    ∷ found NotCallable n.whole.uncallable ∷ found WrongArgument n.code.argument ∷ found FixedOutput n.code.output
    ∷ found WrongLabel n.instructed.label ∷ found WrongRange n.instructed.range ∷ found WrongNesting n.instructed.nesting
    ∷ found RefusedOperand n.instructed.operand ∷ found WrongAddress n.whole.address ∷ []

pub are_near : (project : ProjectTree) (n : Nearest) → AreAll project n → AreNear (λ rule at. Breaks rule project at) (all_found n)
are_near project n h = (
  h.declared.doubled,
  (
    h.whole.missing,
    (
      h.declared.untyped,
      (
        h.whole.misfit,
        (
          h.code.condition,
          (
            h.whole.outside,
            (
              h.declared.array,
              (
                h.whole.beyond,
                (
                  h.code.target,
                  (
                    h.code.counter,
                    (
                      h.code.step,
                      (
                        h.code.leave,
                        (
                          h.code.choice,
                          (
                            h.chained.cycle,
                            (
                              h.chained.deep,
                              (
                                h.whole.uncallable,
                                (
                                  h.code.argument,
                                  (
                                    h.code.output,
                                    (
                                      h.instructed.label,
                                      (
                                        h.instructed.range,
                                        (
                                          h.instructed.nesting,
                                          (
                                            h.instructed.operand,
                                            (h.whole.address, tt),
                                          ),
                                        ),
                                      ),
                                    ),
                                  ),
                                ),
                              ),
                            ),
                          ),
                        ),
                      ),
                    ),
                  ),
                ),
              ),
            ),
          ),
        ),
      ),
    ),
  ),
)

pub has_rule : (project : ProjectTree) (n : Nearest) (rule : tree.Rule) (at : Place) → Breaks rule project at → HasRule rule (all_found n)
has_rule project n tree.doubled_name at b = inl refl
has_rule project n tree.missing_name at b = inr (inl refl)
has_rule project n tree.missing_type at b = inr (inr (inl refl))
has_rule project n tree.misfit at b = inr (inr (inr (inl refl)))
has_rule project n tree.wrong_condition at b = inr (inr (inr (inr (inl refl))))
has_rule project n tree.out_of_range at b = inr (inr (inr (inr (inr (inl refl)))))
has_rule project n tree.wrong_array at b = inr (inr (inr (inr (inr (inr (inl refl))))))
has_rule project n tree.beyond_bounds at b = inr (inr (inr (inr (inr (inr (inr (inl refl)))))))
has_rule project n tree.fixed_target at b = inr (inr (inr (inr (inr (inr (inr (inr (inl refl))))))))
has_rule project n tree.wrong_counter at b = inr (inr (inr (inr (inr (inr (inr (inr (inr (inl refl)))))))))
has_rule project n tree.wrong_step at b = inr (inr (inr (inr (inr (inr (inr (inr (inr (inr (inl refl))))))))))
has_rule project n tree.outside_loop at b = inr (inr (inr (inr (inr (inr (inr (inr (inr (inr (inr (inl refl)))))))))))
has_rule project n tree.wrong_case at b = inr (inr (inr (inr (inr (inr (inr (inr (inr (inr (inr (inr (inl refl))))))))))))
has_rule project n tree.cycle at b = inr (inr (inr (inr (inr (inr (inr (inr (inr (inr (inr (inr (inr (inl refl)))))))))))))
has_rule project n tree.too_deep at b = inr (inr (inr (inr (inr (inr (inr (inr (inr (inr (inr (inr (inr (inr (inl refl))))))))))))))
has_rule project n tree.not_callable at b =
    inr (inr (inr (inr (inr (inr (inr (
    inr (inr (inr (inr (inr (inr (inr (inr (inl refl)))))))))))))))
has_rule project n tree.wrong_argument at b =
    inr (inr (inr (inr (inr (inr (inr (inr (
    inr (inr (inr (inr (inr (inr (inr (inr (inl refl))))))))))))))))
has_rule project n tree.fixed_output at b =
    inr (inr (inr (inr (inr (inr (inr (inr (
    inr (inr (inr (inr (inr (inr (inr (inr (inr (inl refl)))))))))))))))))
has_rule project n tree.wrong_label at b =
    inr (inr (inr (inr (inr (inr (inr (inr (inr (
    inr (inr (inr (inr (inr (inr (inr (inr (inr (inl refl))))))))))))))))))
has_rule project n tree.wrong_range at b =
    inr (inr (inr (inr (inr (inr (inr (inr (inr (
    inr (inr (inr (inr (inr (inr (inr (inr (inr (inr (inl refl)))))))))))))))))))
has_rule project n tree.wrong_nesting at b =
    inr (inr (inr (inr (inr (inr (inr (inr (inr (inr (
    inr (inr (inr (inr (inr (inr (inr (inr (inr (inr (inl refl))))))))))))))))))))
has_rule project n tree.refused_operand at b =
    inr (inr (inr (inr (inr (inr (inr (inr (inr (inr (
    inr (inr (inr (inr (inr (inr (inr (inr (inr (inr (inr (inl refl)))))))))))))))))))))
has_rule project n tree.wrong_address at b =
    inr (inr (inr (inr (inr (inr (inr (inr (inr (inr (inr (
    inr (inr (inr (inr (inr (inr (inr (inr (inr (inr (inr (inl refl))))))))))))))))))))))
has_rule project n tree.no_pattern at b = absurd b
