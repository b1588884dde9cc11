-- The table of SCL reads sources: its statements and calls mean and make what they should.
use Rattle.std.proofs.Common.{◌≡◌, List, drop, refl, ◌++◌}
use Rattle.pv_lex.specs.declared.token.Language.TheVariants.{Scl}
use Rattle.pv_ll.specs.declared.table.Language.{Language}
use Rattle.pv_ll.specs.Table.{grammar_of}
use Rattle.pv_ll.specs.Meaning.{Each}
use Rattle.pv_parse.specs.declared.action.Action.{Action}
use Rattle.pv_parse.specs.Front.{declaration_productions}
use Rattle.pv_parse.specs.Deeds.{call_actions}
use Rattle.pv_parse_source.specs.SourceAnswers.{ReadsSources}
use Rattle.pv_parse.proofs.ForCallers.{Sort, body_sorts}
use Rattle.pv_parse_stmt.proofs.ForCallers.{plain_hash_1, quoted_hash_1, numbered_hash_1, first_argument_1, argument_value_1, argument_value_2, more_arguments_1, more_arguments_2, next_argument_1}
use Rattle.pv_parse_source.proofs.ForCallers.{literal_runs}
use Rattle.pv_scl_parse.specs.SclActions.{body_actions, statement_actions, scl_actions}
use Rattle.pv_scl_parse.specs.SclGrammar.{statement_productions, scl_grammar}
use Rattle.pv_scl_parse.proofs.SclSorts.{statement_sorts}
use Rattle.pv_scl_parse.proofs.StmtSound.{statement_laws}
use Rattle.pv_scl_parse.proofs.StmtComplete.{stmts_made}
use Rattle.pv_scl_parse.proofs.BodyLaws.{BodyLawful}
use Rattle.pv_scl_parse.proofs.BodyRuns.{StatementsRun}
use Rattle.pv_scl_parse.proofs.SclCasts.{body_casts}
use Rattle.pv_scl_parse.proofs.Whole.{Statements, reads}

-- the sorts behind `list`
abbrev more_sorts : List Sort
more_sorts = drop 1 statement_sorts

-- what calls of both languages share
abbrev acts : List Action
acts = body_actions ++ statement_actions

abbrev sorts : List Sort
sorts = body_sorts Scl ++ statement_sorts

call_laws : Each (BodyLawful statement_actions more_sorts) 134 (drop 59 declaration_productions)
call_laws = (
  plain_hash_1 acts sorts Scl,
  (
    quoted_hash_1 acts sorts Scl,
    (
      numbered_hash_1 acts sorts Scl,
      (
        first_argument_1 acts sorts Scl,
        (
          argument_value_1 acts sorts Scl,
          (argument_value_2 acts sorts Scl, (more_arguments_1 acts sorts Scl, (more_arguments_2 acts sorts Scl, (next_argument_1 acts sorts Scl, tt)))),
        ),
      ),
    ),
  ),
)

made : StatementsRun statement_actions
made x ts s d f = stmts_made (λ l us h t. literal_runs statement_productions (call_actions ++ (body_actions ++ statement_actions)) l us t h) x ts d f s

scl_statements : Statements statement_actions more_sorts
scl_statements =
    record { actions_are = refl; call_laws = call_laws; statement_laws = statement_laws; typed = refl; made = made; shades = body_casts made }

pub scl_reads : (l : Language) → grammar_of l ≡ scl_grammar → l.start ≡ 34 → ReadsSources Scl l scl_actions
scl_reads l e f = reads statement_actions more_sorts scl_statements l e f
