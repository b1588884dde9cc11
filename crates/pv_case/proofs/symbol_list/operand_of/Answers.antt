use Rattle.pv_case.proofs.SymbolLaws.{none_read_as, unsuited}
use Rattle.pv_case.proofs.symbol_list.operand_of.Goals as goal

pub returns-in_default-clause-none : goal.returns-in_default-clause-none
returns-in_default-clause-none c = λ its of reads.
    none_read_as c.in_ok-address.field-0 c.args.at.now c.args.ty.now its of c.in_default.is c.in_ok-address.ensures.none reads

pub returns-in_default-type_of_width-clause-none : goal.returns-in_default-type_of_width-clause-none
returns-in_default-type_of_width-clause-none c = λ its of reads.
    unsuited c.in_ok-address.field-0 c.in-Some.address c.type_of_width.result c.args.at.now c.args.ty.now its of c.in_ok-address.ensures.found
    c.in-Some.is c.type_of_width.ensures c.in_default-type_of_width.is reads
