use Rattle.std.proofs.Common.{◌-◌, refl, sym, ◌∙◌, arith}
use Rattle.pv_variables.proofs.Listing.{rest_hidden, rest_skipped, rest_shown}
use Rattle.pv_variables.proofs.list.push_behind.Goals as goal

pub returns-then-not-is_visible : goal.returns-then-not-is_visible
returns-then-not-is_visible c =
    rest_hidden c.args.vars.now.items c.args.left c.args.cell.now (sym c.is_visible.ensures ∙ c.if-not-is_visible.true)

pub returns-then-left-gt0 : goal.returns-then-left-gt0
returns-then-left-gt0 c =
    rest_skipped c.args.vars.now.items c.args.left (c.args.left - 1) c.args.cell.now
    (sym c.is_visible.ensures ∙ c.if-not-is_visible.false) c.if-left-gt0.true refl

pub returns : goal.returns
returns c =
    rest_shown c.args.vars.now.items c.push_cell.new.vars.items c.args.left c.args.cell.now
    (sym c.is_visible.ensures ∙ c.if-not-is_visible.false) (omega (arith, c.if-left-gt0.false)) c.in_ok-push_cell.ensures
