-- Calls, what they come to, and parameters, of the code as plain data.
use Rattle.pv_types.specs.Tree.{plain}
use Rattle.pv_types.specs.View.{var_tree, type_tree}
use Rattle.pv_types.specs.declared.declaration.Section.TheVariants.{Output}
use Rattle.pv_tree.specs.Scopes.{value_key}
use Rattle.pv_tree.specs.Callees as tree
use Rattle.pv_names.specs.Entries.{block_of}
use Rattle.pv_names.specs.declared.callee.How.{How}
use Rattle.pv_names.specs.declared.callee.How.TheVariants as how
use Rattle.pv_names.specs.declared.callee.Called.{Called}
use Rattle.pv_names.specs.declared.callee.Called.TheVariants as called
use Rattle.pv_names.specs.declared.callee.Callee.{Callee}
use Rattle.pv_names.specs.declared.callee.Callee.TheVariants as callee
use Rattle.pv_names.specs.declared.param.Param.{Param}
use Rattle.pv_names.specs.declared.param.Param.TheVariants as param

abbrev pub how_tree : How → tree.How
how_tree how.Statement = tree.as_statement
how_tree how.Value = tree.as_value
how_tree how.Call = tree.by_call
how_tree how.Uc = tree.by_uc

abbrev pub called_tree : Called → tree.Called
called_tree (called.Variable v) = tree.a_variable (var_tree v)
called_tree (called.Block e) = tree.block_called (block_of e.now)
called_tree called.NoCallee = tree.no_callee
called_tree called.Undeclared = tree.undeclared

abbrev pub callee_tree : Callee → tree.Callee
callee_tree (callee.Runs e) = tree.runs (block_of e.now)
callee_tree (callee.NotDeclared place) = tree.not_declared place
callee_tree (callee.NotCallable place) = tree.not_callable place
callee_tree callee.Unknown = tree.unknown

abbrev pub param_tree : Param → tree.Param
param_tree (param.Var v) = record { key = v.name.now.key; section = v.of.now.section; ty = type_tree v.of.now.ty }
param_tree (param.Value ty) = record { key = value_key; section = Output; ty = plain ty }
