-- What the oracle of the tests stands for.
use Rattle.std.specs.Prelude.{◌≡◌, ℕ, ◌<◌, Bool, true, ◌&&◌, cond, List, [], length, nat_lt}
use Rattle.pv_cnf.specs.Clause.{Cnf}
use Rattle.pv_cert.specs.declared.proof.Query.{Query}
use Rattle.pv_cert.specs.declared.proof.Query.TheVariants as query
use Rattle.pv_kind.specs.Oracles.{Encoding, IsAsked}
use Rattle.pv_cert.specs.declared.proof.Chain.{Chain}
use Rattle.pv_kind.specs.Refinements.{Stage}
use Rattle.pv_rows_kind.specs.declared.countdown.Countdown.{Countdown}
use Rattle.pv_rows_kind.specs.declared.toy.Toy.{Toy}
use Rattle.pv_rows_kind.specs.Countdowns.{is_met}

-- a countdown, two formulas for queries that it doesn't meet, from which number on it is the second, and whether the circuit passes the
-- limit once fewer than two cells are abstracted
pub record Setting : Type 0 where
  pub machine : Countdown
  pub easy : Cnf
  pub hard : Cnf
  pub hard_from : ℕ
  pub limited : Bool

abbrev pub setting_of : Toy → Setting
setting_of o = record { machine = o.machine; easy = o.easy; hard = o.hard; hard_from = o.hard_from; limited = o.limited }

-- its chain leaves out the cells that are abstracted
abbrev pub stage_of : Chain → Stage
stage_of chain = record { chain = chain; abstracted = chain.havoc }

abbrev pub number_in : Query → ℕ
number_in (query.Base k) = k
number_in (query.Step k) = k

-- a query that is met has no clauses
abbrev pub clauses_of : Setting → Query → List (List ℕ)
clauses_of s q = cond (is_met s.machine.start s.machine.most q) [] (cond (nat_lt (number_in q) s.hard_from) s.easy.clauses s.hard.clauses)

abbrev pub encoding_of : Setting → Encoding
encoding_of s = record {
  variables = λ chain q. s.easy.variables;
  clauses = λ chain q. clauses_of s q;
  passes = λ chain. s.limited && nat_lt (length chain.havoc) 2;
  shows = λ q trace. IsAsked q × (is_met s.machine.start s.machine.most q ≡ true);
  tells = λ chain q scan cells. 0 < length cells;
}
