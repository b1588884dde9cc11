use Rattle.std.proofs.Common.{ap, ◌∙◌, ◌||◌}
use Rattle.pv_tree.specs.View.{arg_tree}
use Rattle.pv_rules_code.specs.AtGiven.{is_in}
use Rattle.pv_names.specs.Entries.{block_of}
use Rattle.pv_names.specs.Callees.{how_tree, param_tree}
use Rattle.pv_rules_code.proofs.Meeting.{on_ok, gives_named, gives_unknown, gives_only, gives_none}
use Rattle.pv_rules_code.proofs.given.meet_param.Goals as goal

pub returns-in-Some-named_param : goal.returns-in-Some-named_param
returns-in-Some-named_param c =
    on_ok c.meet.result
    (λ step key. step key ∙ ap (λ b. is_in c.args.table.now key || b) (gives_named (how_tree c.args.how) (block_of c.args.entry.now)
    (arg_tree c.args.arg.now) (c.in-Some.name, c.in-Some.field-0-1) (param_tree c.in-Some-named_param.field-0) key c.in-Some.is
    c.in-Some-named_param.ensures)) c.meet.ensures

pub returns-in-None-named_param : goal.returns-in-None-named_param
returns-in-None-named_param c =
    λ key. gives_unknown (how_tree c.args.how) (block_of c.args.entry.now) (arg_tree c.args.arg.now) (c.in-Some.name, c.in-Some.field-0-1) key
    (is_in c.args.table.now key) c.in-Some.is c.in-None-named_param.ensures

pub returns-in-Some-only_var : goal.returns-in-Some-only_var
returns-in-Some-only_var c =
    on_ok c.meet-in-Some-only_var.result
    (λ step key. step key ∙ ap (λ b. is_in c.args.table.now key || b) (gives_only (how_tree c.args.how) (block_of c.args.entry.now)
    (arg_tree c.args.arg.now) c.in-Some-only_var.var key c.in-None.is c.in-Some-only_var.ensures)) c.meet-in-Some-only_var.ensures

pub returns-in-None-only_var : goal.returns-in-None-only_var
returns-in-None-only_var c =
    λ key. gives_none (how_tree c.args.how) (block_of c.args.entry.now) (arg_tree c.args.arg.now) key (is_in c.args.table.now key) c.in-None.is
    c.in-None-only_var.ensures
