-- Blocks by their numbers, and those to which steps along the calls by number lead.
use Rattle.std.specs.Prelude.{◌≡◌, ℕ, ◌≤◌, List, Some, slice_get}
use Rattle.pv_tree.specs.Tree.{BlockTree}
use Rattle.pv_tree.specs.Scopes.{ProjectTree}
use Rattle.pv_graph.specs.Graphs.{Leads}
use Rattle.pv_rules_call.specs.Links.{number_of}
use Rattle.pv_rules_call.specs.ByNumber.{links_graph}
use Rattle.pv_rules_call.specs.declared.links.Links.{Links}
use Rattle.pv_sizes.specs.Sizes.{size_of_block}
use Rattle.pv_sizes.specs.declared.count.TheConstants.{MAX_EDGES}

-- the block stands at this number among the project's, counted from 0, and is the first of its name
pub record HasNumber (project : ProjectTree) (block : BlockTree) (n : ℕ) : Type 0 where
  pub there : slice_get project.blocks n ≡ Some block
  pub first : number_of project block ≡ Some n

-- steps along the calls lead from this number to that of the block
abbrev pub IsWalkedTo : ProjectTree → List Links → ℕ → BlockTree → Type 0
IsWalkedTo project all from block = (to : ℕ) × HasNumber project block to × Leads (links_graph all) from to

-- no block to whose number they lead has more edges than a block may have
abbrev pub KeepsLimitOnWalks : ProjectTree → List Links → ℕ → Type 0
KeepsLimitOnWalks project all from = (to : ℕ) (block : BlockTree) → Leads (links_graph all) from to
    → slice_get project.blocks to ≡ Some block
    → size_of_block (record { project = project; block = block }) ≤ MAX_EDGES
