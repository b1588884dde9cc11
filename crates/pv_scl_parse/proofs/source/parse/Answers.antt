use Rattle.std.proofs.Common.{List, sym, subst}
use Rattle.pv_lex.specs.declared.token.Language.TheVariants.{Scl}
use Rattle.pv_parse.specs.declared.action.Action.{Action}
use Rattle.pv_parse_source.specs.SourceAnswers.{ReadsSources}
use Rattle.pv_scl_parse.proofs.SclReads.{scl_reads}
use Rattle.pv_scl_parse.proofs.source.parse.Goals as goal

pub parse_source-requires-clause-reads : goal.parse_source-requires-clause-reads
parse_source-requires-clause-reads c =
    let l = c.scl-language.result in
    subst (λ (z : List Action). ReadsSources Scl l z) (sym c.scl_actions.ensures)
    (scl_reads l c.scl-language.ensures.grammar c.scl-language.ensures.start)
