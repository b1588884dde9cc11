-- All laws of the productions of expressions and operands, in the grammar's order.
use Rattle.std.proofs.Common.{List, ◌++◌}
use Rattle.pv_ll.specs.Meaning.{Law, Each}
use Rattle.pv_parse.specs.declared.action.Action.{Action}
use Rattle.pv_parse.specs.Front.{expression_productions}
use Rattle.pv_parse.specs.Deeds.{expression_actions}
use Rattle.pv_parse.proofs.Sorts.{Sort, expression_sorts, sure_making, meaning}
use Rattle.pv_parse.proofs.ExprLaws as law

pub expression_laws : (acts : List Action) (sorts : List Sort)
    → Each (Law (sure_making (expression_actions ++ acts)) (meaning (expression_sorts ++ sorts))) 0 expression_productions
expression_laws acts sorts = (
  law.word_1 acts sorts,
  (
    law.word_2 acts sorts,
    (
      law.word_3 acts sorts,
      (
        law.word_4 acts sorts,
        (
          law.word_5 acts sorts,
          (
            law.label_word_1 acts sorts,
            (
              law.label_word_2 acts sorts,
              (
                law.label_word_3 acts sorts,
                (
                  law.label_word_4 acts sorts,
                  (
                    law.label_word_5 acts sorts,
                    (
                      law.label_word_6 acts sorts,
                      (
                        law.label_word_7 acts sorts,
                        (
                          law.label_word_8 acts sorts,
                          (
                            law.label_word_9 acts sorts,
                            (
                              law.firm_name_1 acts sorts,
                              (
                                law.firm_name_2 acts sorts,
                                (
                                  law.firm_name_3 acts sorts,
                                  (
                                    law.field_1 acts sorts,
                                    (
                                      law.field_2 acts sorts,
                                      (
                                        law.expression_1 acts sorts,
                                        (
                                          law.or_tail_1
                                              acts sorts,
                                          (
                                            law.or_tail_2 acts sorts,
                                            (
                                              law.or_link_1 acts sorts,
                                              (
                                                law.xor_chain_1 acts sorts,
                                                (
                                                  law.xor_tail_1 acts sorts,
                                                  (
                                                    law.xor_tail_2 acts sorts,
                                                    (
                                                      law.xor_link_1 acts sorts,
                                                      (
                                                        law.and_chain_1 acts sorts,
                                                        (
                                                          law.and_tail_1 acts sorts,
                                                          (
                                                            law.and_tail_2 acts sorts,
                                                            (
                                                              law.and_link_1 acts sorts,
                                                              (
                                                                law.equal_chain_1 acts sorts,
                                                                (
                                                                  law.equal_tail_1 acts sorts,
                                                                  (
                                                                    law.equal_tail_2 acts sorts,
                                                                    (
                                                                      law.equal_link_1 acts sorts,
                                                                      (
                                                                        law.equal_link_2 acts sorts,
                                                                        (
                                                                          law.compare_chain_1 acts sorts,
                                                                          (
                                                                            law.compare_tail_1 acts sorts,
                                                                            (
                                                                              law.compare_tail_2 acts sorts,
                                                                              (
                                                                                law.compare_link_1 acts sorts,
                                                                                (
                                                                                  law.sum_chain_1 acts sorts,
                                                                                  (
                                                                                    law.sum_tail_1 acts sorts,
                                                                                    (
                                                                                      law.sum_tail_2 acts sorts,
                                                                                      (
                                                                                        law.sum_link_1 acts sorts,
                                                                                        (
                                                                                          law.sum_link_2 acts sorts,
                                                                                          (
                                                                                            law.product_chain_1 acts sorts,
                                                                                            (
                                                                                              law.product_tail_1 acts sorts,
                                                                                              (
                                                                                                law.product_tail_2 acts sorts,
                                                                                                (
                                                                                                  law.product_link_1 acts
                                                                                                      sorts,
                                                                                                  (
                                                                                                    law.product_link_2 acts sorts,
                                                                                                    (
                                                                                                      law.factor_1 acts sorts,
                                                                                                      (
                                                                                                        law.factor_2 acts sorts,
                                                                                                        (
                                                                                                          law.word_read_1 acts sorts,
                                                                                                          (
                                                                                                            law.other_factor_1 acts sorts,
                                                                                                            (
                                                                                                              law.other_factor_2 acts sorts,
                                                                                                              (
                                                                                                                law.name_read_1 acts sorts,
                                                                                                                (
                                                                                                                  law.name_read_2 acts sorts,
                                                                                                                  (
                                                                                                                    law.firm_factor_1 acts sorts,
                                                                                                                    (
                                                                                                                      law.firm_factor_2 acts sorts,
                                                                                                                      (
                                                                                                                        law.firm_factor_3 acts sorts,
                                                                                                                        (
                                                                                                                          law.firm_factor_4 acts sorts,
                                                                                                                          (
                                                                                                                            law.firm_factor_5 acts sorts,
                                                                                                                            (
                                                                                                                              law.firm_factor_6 acts sorts,
                                                                                                                              (
                                                                                                                                law.firm_factor_7 acts sorts,
                                                                                                                                (
                                                                                                                                  law.firm_factor_8 acts sorts,
                                                                                                                                  (
                                                                                                                                    law.function_1 acts sorts,
                                                                                                                                    (
                                                                                                                                      law.function_2 acts sorts,
                                                                                                                                      (
                                                                                                                                        law.function_3 acts sorts,
                                                                                                                                        (
                                                                                                                                          law.function_4 acts sorts,
                                                                                                                                          (
                                                                                                                                            law.function_5
                                                                                                                                                acts sorts,
                                                                                                                                            (
                                                                                                                                              law.steps_1 acts sorts,
                                                                                                                                              (
                                                                                                                                                law.steps_2 acts sorts,
                                                                                                                                                (
                                                                                                                                                  law.step_1 acts sorts,
                                                                                                                                                  (
                                                                                                                                                    law.step_2 acts sorts,
                                                                                                                                                    (
                                                                                                                                                      law.area_1 acts
                                                                                                                                                          sorts,
                                                                                                                                                      tt,
                                                                                                                                                    ),
                                                                                                                                                  ),
                                                                                                                                                ),
                                                                                                                                              ),
                                                                                                                                            ),
                                                                                                                                          ),
                                                                                                                                        ),
                                                                                                                                      ),
                                                                                                                                    ),
                                                                                                                                  ),
                                                                                                                                ),
                                                                                                                              ),
                                                                                                                            ),
                                                                                                                          ),
                                                                                                                        ),
                                                                                                                      ),
                                                                                                                    ),
                                                                                                                  ),
                                                                                                                ),
                                                                                                              ),
                                                                                                            ),
                                                                                                          ),
                                                                                                        ),
                                                                                                      ),
                                                                                                    ),
                                                                                                  ),
                                                                                                ),
                                                                                              ),
                                                                                            ),
                                                                                          ),
                                                                                        ),
                                                                                      ),
                                                                                    ),
                                                                                  ),
                                                                                ),
                                                                              ),
                                                                            ),
                                                                          ),
                                                                        ),
                                                                      ),
                                                                    ),
                                                                  ),
                                                                ),
                                                              ),
                                                            ),
                                                          ),
                                                        ),
                                                      ),
                                                    ),
                                                  ),
                                                ),
                                              ),
                                            ),
                                          ),
                                        ),
                                      ),
                                    ),
                                  ),
                                ),
                              ),
                            ),
                          ),
                        ),
                      ),
                    ),
                  ),
                ),
              ),
            ),
          ),
        ),
      ),
    ),
  ),
)
