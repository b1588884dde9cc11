-- The number of the block that a call runs.
use Rattle.std.proofs.Common.{◌≡◌, ℕ, ◌+◌, ◌<◌, ◌≤◌, List, [], ◌∷◌, ◌++◌, map, take, drop, length, get_or, Option, Some, None, refl, sym, ap, ◌∙◌, subst}
use Rattle.std.specs.Prelude.{flat_map, option_to_list}
use Rattle.std.specs.List.{AllByRecursion}
use Rattle.std.proofs.lemmas.List.{append-nil, map-append, take_all}
use Rattle.pv_tree.specs.Tree.{BlockTree}
use Rattle.pv_tree.specs.Scopes.{ProjectTree, first_block}
use Rattle.pv_tree.specs.Callees.{CallSite, Callee, callee_of, block_of_callee}
use Rattle.pv_mean.specs.Chains.{RunsSuch}
use Rattle.pv_names.specs.declared.entry.Entry.{Entry}
use Rattle.pv_names.specs.Entries.{block_of}
use Rattle.pv_cells.specs.declared.node.Node.{Node}
use Rattle.pv_cells.specs.declared.made.Made.{Made}
use Rattle.pv_cells.specs.Calls.{made_tree}
use Rattle.pv_cells.specs.Below.{at_numbers}
use Rattle.pv_cells.specs.Graphs.{at_number, node_tree, IsNode, NodesAre}
use Rattle.pv_tree.proofs.ForCallers.{run_block}
use Rattle.pv_mean.proofs.ForCallers.{runs_such}
use Rattle.pv_cells.proofs.Pushing.{taken, next_left, none_left}
use Rattle.pv_cells.proofs.Graphing.{numbers-push}

-- ---- one call

-- q is the project of the tables, p that of the plan
module _ (p q : ProjectTree) (same : q ≡ p) (b : BlockTree) (s : CallSite) (c : Callee) (o : Option ℕ)
    (is : c ≡ callee_of (record { project = q; block = b }) s)
    (found : RunsSuch (λ x. first_block q.blocks x.name.key ≡ Some x) c → at_number q.blocks o ≡ block_of_callee c) where
  found-there : at_number q.blocks o ≡ block_of_callee (callee_of (record { project = q; block = b }) s)
  found-there =
      found (runs_such (λ x. first_block q.blocks x.name.key ≡ Some x) c
      (λ x run. run_block (record { project = q; block = b }) s x (sym is ∙ run)))
      ∙ ap block_of_callee is

  pub callee-number : at_number p.blocks o ≡ block_of_callee (callee_of (record { project = p; block = b }) s)
  callee-number = subst (λ x. at_number x.blocks o ≡ block_of_callee (callee_of (record { project = x; block = b }) s)) same found-there

  pub number-pushed : (old new : List ℕ) (n : ℕ) → o ≡ Some n → new ≡ old ++ n ∷ []
      → at_numbers p.blocks new
      ≡ at_numbers p.blocks old ++ option_to_list (block_of_callee (callee_of (record { project = p; block = b }) s))
  number-pushed old new n at grown =
      ap (at_numbers p.blocks) grown ∙ numbers-push p.blocks old n
      ∙ ap (λ x. at_numbers p.blocks old ++ option_to_list x) (ap (at_number p.blocks) (sym at) ∙ callee-number)

  pub number-none : (old : List ℕ) → o ≡ None
      → at_numbers p.blocks old
      ≡ at_numbers p.blocks old ++ option_to_list (block_of_callee (callee_of (record { project = p; block = b }) s))
  number-none old at =
      sym (append-nil (at_numbers p.blocks old))
      ∙ ap (λ x. at_numbers p.blocks old ++ option_to_list x) (ap (at_number p.blocks) (sym at) ∙ callee-number)

-- ---- the calls of a block

abbrev pub runs_of : ProjectTree → BlockTree → List CallSite → List BlockTree
runs_of p b ss = flat_map (λ s. option_to_list (block_of_callee (callee_of (record { project = p; block = b }) s))) ss

pub made-left : (p : ProjectTree) (b : BlockTree) (calls : List Made) (i j : ℕ) (x : Made) → i < length calls → x ≡ get_or calls i x → j ≡ i + 1
    → (old new : List ℕ) (total : List BlockTree)
    → at_numbers p.blocks new
    ≡ at_numbers p.blocks old ++ option_to_list (block_of_callee (callee_of (record { project = p; block = b }) (made_tree x)))
    → at_numbers p.blocks old ++ runs_of p b (map made_tree (drop i calls)) ≡ total
    → at_numbers p.blocks new ++ runs_of p b (map made_tree (drop j calls)) ≡ total
made-left p b calls i j x inside is next old new total grown left =
    next_left calls i j x (λ l. runs_of p b (map made_tree l))
    (option_to_list (block_of_callee (callee_of (record { project = p; block = b }) (made_tree x)))) (λ rest. refl) inside is next
    (at_numbers p.blocks old) (at_numbers p.blocks new) total grown left

pub made-done : (p : ProjectTree) (b : BlockTree) (calls : List Made) (i : ℕ) (numbers : List ℕ) (total : List BlockTree) → length calls ≤ i
    → at_numbers p.blocks numbers ++ runs_of p b (map made_tree (drop i calls)) ≡ total → at_numbers p.blocks numbers ≡ total
made-done p b calls i numbers total past left =
    none_left calls i (λ l. runs_of p b (map made_tree l)) (at_numbers p.blocks numbers) total refl past left

-- ---- all blocks

all-more : {X : Type 0} (P : X → Type 0) (xs : List X) (x : X) → AllByRecursion P xs → P x → AllByRecursion P (xs ++ x ∷ [])
all-more P [] x all is = (is, tt)
all-more P (y ∷ ys) x all is = (all.0, all-more P ys x all.1 is)

pub each-more : (project : ProjectTree) (old new : List Node) (n : Node) → new ≡ old ++ n ∷ [] → AllByRecursion (IsNode project) old
    → IsNode project n
    → AllByRecursion (IsNode project) new
each-more project old new n grown all is =
    subst (AllByRecursion (IsNode project)) (sym grown) (all-more (IsNode project) old n all is)

pub blocks-more : (entries : List Entry) (i j : ℕ) (e : Entry) → i < length entries → e ≡ get_or entries i e → j ≡ i + 1
    → (old new : List Node) (n : Node) → new ≡ old ++ n ∷ [] → node_tree n ≡ block_of e → map node_tree old ≡ map block_of (take i entries)
    → map node_tree new ≡ map block_of (take j entries)
blocks-more entries i j e inside is next old new n grown its before =
    ap (map node_tree) grown ∙ map-append node_tree old (n ∷ []) ∙ ap (λ b. map node_tree old ++ b ∷ []) its
    ∙ ap (λ l. l ++ block_of e ∷ []) before
    ∙ sym (ap (map block_of) (taken entries i j e inside is next) ∙ map-append block_of (take i entries) (e ∷ []))

pub nodes-are : (project : ProjectTree) (entries : List Entry) (i : ℕ) (nodes : List Node) → length entries ≤ i
    → map block_of entries ≡ project.blocks → map node_tree nodes ≡ map block_of (take i entries) → AllByRecursion (IsNode project) nodes
    → NodesAre project nodes
nodes-are project entries i nodes past all blocks each =
    record { blocks = blocks ∙ ap (map block_of) (take_all i entries past) ∙ all; each = each }
