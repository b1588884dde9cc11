-- The calls of a project by number: of each block the calls that run one, each with its place and the number of the block that it runs.
use Rattle.std.specs.Prelude.{◌≡◌, ℕ, List, map, Option, Some, option_map, option_and_then, option_to_list, flat_map, bytes_eq}
use Rattle.pv_place.specs.declared.place.Place.{Place}
use Rattle.pv_tree.specs.Tree.{BlockTree}
use Rattle.pv_tree.specs.Scopes.{ProjectTree, Scope, first_block}
use Rattle.pv_tree.specs.Callees.{CallSite, callee_of, block_of_callee}
use Rattle.pv_tree.specs.Parts.{calls_of}
use Rattle.pv_names.specs.Firsts.{first_number}
use Rattle.pv_rules_call.specs.declared.links.Link.{Link}
use Rattle.pv_rules_call.specs.declared.links.Links.{Links}

-- a block is the first of its name
abbrev pub IsFirstBlock : ProjectTree → BlockTree → Type 0
IsFirstBlock project b = first_block project.blocks b.name.key ≡ Some b

-- the number of the first block of its name
abbrev pub number_of : ProjectTree → BlockTree → Option ℕ
number_of project b = first_number (bytes_eq b.name.key) (map (λ c. c.name.key) project.blocks)

-- a call that runs a block: the place of its first token, and that block's number
abbrev pub link_of : Scope → CallSite → Option (Place × ℕ)
link_of scope s =
    option_map (λ n. (s.call.place, n)) (option_and_then (number_of scope.project)
    (block_of_callee (callee_of scope s)))

abbrev pub links_of_sites : Scope → List CallSite → List (Place × ℕ)
links_of_sites scope sites = flat_map (λ s. option_to_list (link_of scope s)) sites

abbrev pub links_of : ProjectTree → BlockTree → List (Place × ℕ)
links_of project block =
    links_of_sites (record { project = project; block = block }) (calls_of block)

-- links of the code, as plain data
abbrev pub link_tree : Link → Place × ℕ
link_tree k = (k.place, k.to)

abbrev pub links_tree : Links → List (Place × ℕ)
links_tree l = map link_tree l.list.items

-- these are the links of the blocks, in their order
abbrev pub AreLinks : ProjectTree → List Links → Type 0
AreLinks project all = map links_tree all ≡ map (links_of project) project.blocks
