-- What is known of each thing on the stack while a tree isn't built yet, and what each alternative does with it.
use Rattle.std.specs.Prelude.{ℕ, List, [], Option, slice_index_or}
use Rattle.pv_tree.specs.Nesting.{first_of}
use Rattle.pv_tree.specs.View.{steps_of}
use Rattle.pv_ll.specs.Making.{Making}
use Rattle.pv_parse.specs.declared.action.Action.{Action}
use Rattle.pv_parse.specs.declared.action.Action.TheVariants.{Keep, Expr, Decl, Block, Call, Stmt, Instr}
use Rattle.pv_parse.specs.declared.shade.Shading.{Shading}
use Rattle.pv_parse.specs.declared.shade.Shading.TheVariants.{Take}
use Rattle.pv_parse.specs.DeclItems.{DeclTree, the_name, the_body}
use Rattle.pv_parse.specs.Items.{ItemTree, token, path, expr, literal, code, decl}
use Rattle.pv_parse.specs.Deeds.{Kinded, kinded_making}
use Rattle.pv_parse.specs.Shades.{Shade, shade_of_token, sink}
use Rattle.pv_parse.specs.ExprShades.{places_of, places_of_steps, expr_shading}
use Rattle.pv_parse.specs.StmtShades.{anywhere, shade_of_code, call_shading, stmt_shading}
use Rattle.pv_parse.specs.DeclShades.{decl_shading, block_shading}
use Rattle.pv_parse.specs.InstrStack.{instrs_of}
use Rattle.pv_parse.specs.InstrShades.{places_of_instrs, instr_shading}

-- of a part of a declaration: the tree doesn't say where types begin, and so none is known of what has types in it; of a body
-- that of its instructions is
abbrev pub shade_of_decl : DeclTree → Shade
shade_of_decl (the_name n) = record { first = n.1; parts = [] }
shade_of_decl (the_body b) = anywhere (places_of_instrs (instrs_of b))
shade_of_decl _ = anywhere []

-- of a thing on the stack
abbrev pub shade_of : ItemTree → Shade
shade_of (token t) = shade_of_token t
shade_of (path p) = record { first = p.place; parts = places_of_steps (steps_of p.steps) }
shade_of (expr e) = record { first = first_of e; parts = places_of e }
shade_of (literal l) = record { first = l.place; parts = [] }
shade_of (code c) = shade_of_code c
shade_of (decl d) = shade_of_decl d

-- by the action
abbrev pub shading_of : Action → Shading
shading_of Keep = Take 0
shading_of (Expr action) = expr_shading action
shading_of (Decl action) = decl_shading action
shading_of (Block action) = block_shading action
shading_of (Call action) = call_shading action
shading_of (Stmt action) = stmt_shading action
shading_of (Instr action) = instr_shading action

-- by the alternative's number
abbrev pub shade_by : List Action → ℕ → List Shade → Option (List Shade)
shade_by actions k s = sink (shading_of (slice_index_or actions k Keep)) s

abbrev pub shade_making : List Action → Making Kinded Shade
shade_making actions = kinded_making shade_of_token (shade_by actions)
