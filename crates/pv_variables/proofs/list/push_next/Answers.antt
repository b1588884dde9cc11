use Rattle.std.proofs.Common.{◌-◌, refl, sym, ◌∙◌, arith}
use Rattle.pv_variables.proofs.Listing.{front_hidden, front_shown, front_ended}
use Rattle.pv_variables.proofs.list.push_next.Goals as goal

pub returns-then-not-is_visible : goal.returns-then-not-is_visible
returns-then-not-is_visible c =
    front_hidden c.args.vars.now.items c.args.left c.args.cell.now (sym c.is_visible.ensures ∙ c.if-not-is_visible.true)

pub returns-then-left-gt0 : goal.returns-then-left-gt0
returns-then-left-gt0 c =
    front_shown c.args.vars.now.items c.push_cell.new.vars.items c.args.left (c.args.left - 1) c.args.cell.now
    (sym c.is_visible.ensures ∙ c.if-not-is_visible.false) c.if-left-gt0.true refl c.in_ok-push_cell.ensures

pub returns : goal.returns
returns c = front_ended c.args.vars.now.items c.args.left c.args.cell.now (omega (arith, c.if-left-gt0.false))
