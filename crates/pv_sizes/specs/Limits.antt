-- Which blocks the limit on edges asks about, and when all of them keep it.
use Rattle.std.specs.Prelude.{◌≤◌}
use Rattle.pv_tree.specs.Tree.{BlockTree}
use Rattle.pv_tree.specs.Scopes.{ProjectTree}
use Rattle.pv_tree.specs.Rules.Chains.{LeadsTo}
use Rattle.pv_sizes.specs.Sizes.{size_of_block}
use Rattle.pv_sizes.specs.declared.count.TheConstants.{MAX_EDGES}

-- the entry, and each block to which calls lead from it by the text, those behind a RETURN too
abbrev pub IsAsked : ProjectTree → BlockTree → BlockTree → Type 0
IsAsked project entry block = LeadsTo project entry block

-- none of them has more edges than a block may have
abbrev pub KeepsLimit : ProjectTree → BlockTree → Type 0
KeepsLimit project entry = (block : BlockTree) → IsAsked project entry block
    → size_of_block (record { project = project; block = block }) ≤ MAX_EDGES
