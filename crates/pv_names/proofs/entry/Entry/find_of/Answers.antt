use Rattle.std.proofs.Common.{sym, ◌∙◌}
use Rattle.std.specs.Prelude.{option_map}
use Rattle.pv_types.specs.View.{var_tree, var_trees, section_of}
use Rattle.pv_names.specs.Doubled.{is_of}
use Rattle.pv_names.proofs.Sought.{none_sought, first_sought, behind_first}
use Rattle.pv_names.proofs.entry.Entry.find_of.Goals as goal

pub returns-then-is_of : goal.returns-then-is_of
returns-then-is_of c =
    sym (first_sought (λ v. is_of c.args.part (section_of v)) c.args.name.now.key (var_trees c.args.self.now.block.now.interface.vars.items)
    (var_tree c.in-Some.var) (sym c.in-Some.ensures) (sym c.is_of.ensures ∙ c.if-is_of.true))

pub returns-else-is_of : goal.returns-else-is_of
returns-else-is_of c =
    behind_first (λ v. is_of c.args.part (section_of v)) c.args.name.now.key (var_trees c.args.self.now.block.now.interface.vars.items)
    (var_tree c.in-Some.var) c.args.self.now.unique (option_map var_tree c.behind_first.result) c.args.self.now.apart.0
    (sym c.in-Some.ensures) (sym c.is_of.ensures ∙ c.if-is_of.false) c.behind_first.ensures

pub returns-in-None : goal.returns-in-None
returns-in-None c =
    sym (none_sought (λ v. is_of c.args.part (section_of v)) c.args.name.now.key (var_trees c.args.self.now.block.now.interface.vars.items)
    (sym c.in-None.ensures))
