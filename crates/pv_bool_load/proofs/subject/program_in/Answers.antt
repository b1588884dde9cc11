use Rattle.std.proofs.Common.{[], inr, ap, ◌∙◌}
use Rattle.std.specs.Prelude.{All, List, ℕ, ◌≡◌}
use Rattle.std.proofs.lemmas.List.Elements.{All-nil}
use Rattle.pv_tree.specs.Tree.{OperandTree}
use Rattle.pv_tree.specs.Scopes.{ProjectTree}
use Rattle.pv_tree.specs.View.{block_tree}
use Rattle.pv_bool.specs.declared.program.Program.{Program}
use Rattle.pv_bool.specs.Programs.{program_tree}
use Rattle.pv_bool_form.specs.FirstForm.{IsFirstOperand}
use Rattle.pv_bool_form.specs.Programs.{first_source, pattern_program}
use Rattle.pv_bool_load.proofs.Working.{some_is, some_meets, none_meets, none_isnt}
use Rattle.pv_bool_load.proofs.Stages.{entered_there, pattern_there, other_requirement, program_made}
use Rattle.pv_bool_load.proofs.subject.program_in.Goals as goal

pub program_by-requires-clause-read : goal.program_by-requires-clause-read
program_by-requires-clause-read c =
    let of = c.requires.first in
    let s = of.subject in
    let project = c.args.project.now in record {
      entered = s.entered.block;
      there = entered_there s.given s.entered project c.args.entry of.is of.there;
      pattern = s.pattern;
      reads = pattern_there s.given s.entered c.args.case.now project s.pattern c.as_slice-texts.result.now of.of_case of.is c.as_slice-texts.ensures.value
          of.reads.fitted.pattern;
    }

pub unreachable-requires : goal.unreachable-requires
unreachable-requires c =
    let of = c.requires.first in
    none_meets c.only_block.result c.in_default.is c.only_block.ensures.none of.are.project.block (ap (λ (p : ProjectTree). p.blocks) of.is.same ∙ of.are.project.only)

pub returns-in-Some-2-clause-found : goal.returns-in-Some-2-clause-found
returns-in-Some-2-clause-found c = λ told s of_case are reads is there.
    let project = c.args.project.now in
    let block = block_tree c.in-Some.block.now in
    let program = c.in-Some-2.program in
    let made = c.in_ok-program.ensures s.entered.block s.pattern (entered_there s.given s.entered project c.args.entry is there)
    (pattern_there s.given s.entered c.args.case.now project s.pattern c.as_slice-texts.result.now of_case is c.as_slice-texts.ensures.value reads.fitted.pattern) in
    let P : Program → Type 0 = λ x. (patterns : List OperandTree) (bound : ℕ) → All (IsFirstOperand block.vars) patterns
    → program_tree x ≡ pattern_program (first_source block patterns bound) s.pattern in
    program_made told c.args.case_file.now s project c.args.entry block are reads is there c.in-Some.ensures.some program c.texts_are_one_expression.ensures
    (some_is c.in_ok-program.field-0 program c.in-Some-2.is made.is_first)
    (some_meets P c.in_ok-program.field-0 program c.in-Some-2.is made.program [] s.given.case.limits.loop_bound (All-nil (IsFirstOperand block.vars)))

pub returns-in_ok-file-in-None-clause-stopped : goal.returns-in_ok-file-in-None-clause-stopped
returns-in_ok-file-in-None-clause-stopped c = λ told s of_case are reads is there.
    let project = c.args.project.now in
    let block = block_tree c.in-Some.block.now in
    let made = c.in_ok-program.ensures s.entered.block s.pattern (entered_there s.given s.entered project c.args.entry is there)
    (pattern_there s.given s.entered c.args.case.now project s.pattern c.as_slice-texts.result.now of_case is c.as_slice-texts.ensures.value reads.fitted.pattern) in (
      c.in_ok-file-in-None.ensures.ok,
      inr (other_requirement told c.args.case_file.now s project c.args.entry block are reads is there c.in-Some.ensures.some
          (none_isnt c.in_ok-program.field-0 c.in-None.is made.is_first)),
    )
