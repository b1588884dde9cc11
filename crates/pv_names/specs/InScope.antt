-- A block of the code's project in which names are looked up.
use Rattle.pv_tree.specs.Scopes as tree
use Rattle.pv_names.specs.Entries.{block_of}
use Rattle.pv_names.specs.Tables.{project_of}
use Rattle.pv_names.specs.declared.scope.Scope.{Scope}

abbrev pub scope_of : Scope → tree.Scope
scope_of s = record { project = project_of s.tables.now; block = block_of s.entry.now }
