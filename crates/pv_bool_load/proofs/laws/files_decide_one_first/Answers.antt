use Rattle.pv_bool_load.proofs.OneFirst.{decide_one_first}
use Rattle.pv_bool_load.proofs.laws.files_decide_one_first.Goals as goal

pub returns : goal.returns
returns c =
    decide_one_first (record {
      case = record { one = c.bytes_say_one_case.ensures; one_breach = c.first_breach_is_one.ensures.one; apart = c.first_breach_is_one.ensures.apart };
      source = c.sources_are_judged_in_one_way.ensures;
      rules = record { one = c.least_fault_is_one.ensures.one; none = c.least_fault_is_one.ensures.none };
      texts = record { one_name = c.texts_are_one_name.ensures; one_text = c.texts_are_one_expression.ensures };
      patterns = record { one = c.texts_say_one_pattern.ensures; one_fault = c.first_fault_is_one.ensures.one; apart = c.first_fault_is_one.ensures.apart };
    })
