-- Circuits as a plain function makes them, gate by gate: what each gate leaves is what the next one begins with.
use Rattle.std.specs.Prelude.{◌≡◌, ◌<◌, ◌≤◌, ℕ, ℤ, Bool, List, [], ◌∷◌, Result, Err, IfOk, OnOk, length}
use Rattle.std.specs.List.{AllZip}
use Rattle.pv_gate.specs.declared.fault.GateFault.{GateFault}
use Rattle.pv_gate.specs.declared.fault.GateFault.TheVariants.{Limit}
use Rattle.pv_gate.specs.declared.netlist.Node.{Node}
use Rattle.pv_gate.specs.Node.{Names, gate_count}
use Rattle.pv_gate.specs.Value.{value_of}
use Rattle.pv_gate.specs.Netlist.{Netlist, IsNetlist, Extends}
use Rattle.pv_gate.specs.Build.{Made, and_gate, or_gate, xor_gate, mux_gate}

-- what was made, as one literal, a list of them or several, and the nodes that there are then
pub record Built (A : Type 0) : Type 0 where
  pub out : A
  pub nodes : List Node

-- what is made over the nodes that there are
abbrev pub Building : Type 0 → Type 0
Building A = List Node → Built A

-- no gate
unfoldable pub done : {A : Type 0} → A → Building A
done x nodes = record { out = x; nodes = nodes }

-- one building, and behind it another with what was made
unfoldable pub and_then : {A B : Type 0} → Building A → (A → Building B) → Building B
and_then first next nodes = next (first nodes).out (first nodes).nodes

-- ---- one gate

abbrev pub built : Made → Built ℤ
built made = record { out = made.literal; nodes = made.nodes }

unfoldable pub make_and : ℤ → ℤ → Building ℤ
make_and a b nodes = built (and_gate nodes a b)

unfoldable pub make_or : ℤ → ℤ → Building ℤ
make_or a b nodes = built (or_gate nodes a b)

unfoldable pub make_xor : ℤ → ℤ → Building ℤ
make_xor a b nodes = built (xor_gate nodes a b)

unfoldable pub make_mux : ℤ → ℤ → ℤ → Building ℤ
make_mux s a b nodes = built (mux_gate nodes s a b)

-- ---- one step after another

-- a step for each element of a list, from the first one on
unfoldable pub each : {S E : Type 0} → (S → E → Building S) → S → List E → Building S
each step s [] = done s
each step s (e ∷ es) = and_then (step s e) (λ t. each step t es)

-- the elements of two lists by pairs, as far as both go
abbrev pub pairs : {A B : Type 0} → List A → List B → List (A × B)
pairs [] ks = []
pairs (l ∷ ls) [] = []
pairs (l ∷ ls) (k ∷ ks) = (l, k) ∷ pairs ls ks

-- ---- what literals are

-- the literal names a node and has this value
pub record Has (inputs : ℕ → Bool) (nodes : List Node) (literal : ℤ) (bit : Bool) : Type 0 where
  pub names : Names (length nodes) literal
  pub value : value_of inputs nodes literal ≡ bit

-- the literals name nodes and have these values, one for each
pub record Have (inputs : ℕ → Bool) (nodes : List Node) (literals : List ℤ) (values : List Bool) : Type 0 where
  pub each : AllZip (Has inputs nodes) literals values

-- ---- what a building does

-- it adds nodes after those that are there, and over nodes that extend those that it left it gives the same again and adds none
pub record IsBuilding {A : Type 0} (f : Building A) : Type 0 where
  pub extends : (nodes : List Node) → Extends nodes (f nodes).nodes
  pub again : (nodes all : List Node) → Extends (f nodes).nodes all → f all ≡ record { out = (f nodes).out; nodes = all }

-- what it leaves is a netlist that extends the nodes, and what was made is as P says of it
pub record Makes {A : Type 0} (nodes : List Node) (P : List Node → A → Type 0) (f : Building A) : Type 0 where
  pub netlist : IsNetlist (f nodes).nodes
  pub extends : Extends nodes (f nodes).nodes
  pub out : P (f nodes).nodes (f nodes).out

-- a call has made this, or stopped with its older nodes and maybe more: by Limit only where there would be too many gates
pub record Gives {A : Type 0} (old new : Netlist) (f : Building A) (result : Result A GateFault) : Type 0 where
  pub made : IfOk result (λ out. f old.nodes ≡ record { out = out; nodes = new.nodes })
  pub within : OnOk result (gate_count (f old.nodes).nodes ≤ old.limit)
  pub limit : result ≡ Err Limit → old.limit < gate_count (f old.nodes).nodes
  pub older : Extends old.nodes new.nodes
  pub same_limit : new.limit ≡ old.limit
