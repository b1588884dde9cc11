-- What proofs of the crates above take from here.
pub use Rattle.pv_parse_source.proofs.BlockRuns.{Bodies, begun_values_run, source_run}
pub use Rattle.pv_parse_source.proofs.DeclFacts.{begin_word as begin_word_is}
pub use Rattle.pv_parse_source.proofs.DeclKinds.{begin_word as begin_word_serves}
pub use Rattle.pv_parse_source.proofs.DeclLaws.{beside, both, each_append, moved}
pub use Rattle.pv_parse_source.proofs.DeclRuns.{Makes, literal_runs, name_runs, numeral_runs, word_runs}
pub use Rattle.pv_parse_source.proofs.DeclSound.{declaration_laws}
-- nesting, found along the derivation of a source
pub use Rattle.pv_parse_source.proofs.Casts.{Casts, above, empty as no_cast, on as cast_on, to as cast_to, then as cast_then, by as cast_by, pass as cast_pass}
pub use Rattle.pv_parse_source.proofs.DeclCasts.{Dims, AreApart}
pub use Rattle.pv_parse_source.proofs.BlockCasts.{group, begun_values_cast, BodyCast, BodyCasts}
pub use Rattle.pv_parse_source.proofs.StmtMarks.{marks-stmts}
pub use Rattle.pv_parse_source.proofs.InstrMarks.{marks-instrs}
pub use Rattle.pv_parse_source.proofs.Followed.{are_followed, all_followed}
pub use Rattle.pv_parse_source.proofs.ShadedSources.{shaded_source}
-- the tokens before the end of a text
pub use Rattle.pv_parse_source.proofs.Endings.{Ends, ends, ended, stands, kinds_before, order_before}
