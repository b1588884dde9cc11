use Rattle.std.proofs.Common.{rules, sym, ap, ◌∙◌}
use Rattle.std.specs.Prelude.{FitsSigned}
use Rattle.std.specs.Int.{w128}
use Rattle.std.proofs.lemmas.Int.{to_z-of_z}
use Rattle.std.proofs.lemmas.Result.{IfOk-weaker}
use Rattle.pv_flow.specs.Terms.{constant}
use Rattle.pv_access.specs.Accesses.{read_term}
use Rattle.pv_access.proofs.Pushing.{says}
use Rattle.pv_access.proofs.reading.push_read.Goals as goal

pub returns-in-Cell : goal.returns-in-Cell
returns-in-Cell c = λ ms table are.
    IfOk-weaker c.push_element.result _ _ (λ r z. says _ _ r _ _ (sym (ap (λ s. read_term c.args.ty s ms) c.in-Cell.is)) z)
    (c.push_element.ensures ms table are)

pub returns-in-Brief : goal.returns-in-Brief
returns-in-Brief c = λ ms table are.
    IfOk-weaker c.push_element-in-Brief.result _ _ (λ r z. says _ _ r _ _ (sym (ap (λ s. read_term c.args.ty s ms) c.in-Brief.is)) z)
    (c.push_element-in-Brief.ensures ms table are)

pub returns-in-Bit : goal.returns-in-Bit
returns-in-Bit c = λ ms table are.
    IfOk-weaker c.push_bit.result _ _ (λ r z. says _ _ r _ _ (sym (ap (λ s. read_term c.args.ty s ms) c.in-Bit.is)) z)
    (c.push_bit.ensures table)

pub returns-in-Bytes : goal.returns-in-Bytes
returns-in-Bytes c = λ ms table are.
    IfOk-weaker c.push_bytes.result _ _ (λ r z. says _ _ r _ _ (sym (ap (λ s. read_term c.args.ty s ms) c.in-Bytes.is)) z)
    (c.push_bytes.ensures table)

pub returns-in-Fixed : goal.returns-in-Fixed
returns-in-Fixed c = λ ms table are.
    let fits : FitsSigned w128 c.in-Fixed.v = search rules in
    IfOk-weaker c.push_constant.result _ _
    (λ r z. says _ _ r _ _ (ap (constant c.args.ty) (to_z-of_z w128 c.in-Fixed.v fits)
    ∙ sym (ap (λ s. read_term c.args.ty s ms) c.in-Fixed.is)) z)
    (c.push_constant.ensures table)

pub returns-in-Nowhere : goal.returns-in-Nowhere
returns-in-Nowhere c = λ ms table are.
    IfOk-weaker c.push_constant-in-Nowhere.result _ _ (λ r z. says _ _ r _ _ (sym (ap (λ s. read_term c.args.ty s ms) c.in-Nowhere.is)) z)
    (c.push_constant-in-Nowhere.ensures table)
