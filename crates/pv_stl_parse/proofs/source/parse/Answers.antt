use Rattle.std.proofs.Common.{List, sym, subst}
use Rattle.pv_lex.specs.declared.token.Language.TheVariants.{Stl}
use Rattle.pv_parse.specs.declared.action.Action.{Action}
use Rattle.pv_parse_source.specs.SourceAnswers.{ReadsSources}
use Rattle.pv_stl_parse.proofs.Whole.{stl_reads}
use Rattle.pv_stl_parse.proofs.source.parse.Goals as goal

pub parse_source-requires-clause-reads : goal.parse_source-requires-clause-reads
parse_source-requires-clause-reads c =
    let l = c.stl-language.result in
    subst (λ (z : List Action). ReadsSources Stl l z) (sym c.stl_actions.ensures)
    (stl_reads l c.stl-language.ensures.grammar c.stl-language.ensures.start)
