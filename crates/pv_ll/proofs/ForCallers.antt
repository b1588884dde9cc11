-- What crates above cite of recognizers: how what is made of a text along its walk comes together.
--
-- A reader's proof in three steps. Sound: `outcome`, with a law for each production (`each`) and what its body wants (`may`,
-- or by hand), gives of a sentence a `Runs` and that each symbol did what it means. Let what a name wants be a family with a
-- constructor a sort, and say in `Keeps` that it is the shapes: a law then matches it, where on the shapes alone it has a
-- clause more for each item that isn't there. Complete: what is spelled gives a `Runs`
-- by recursion on it (`alone`, `beside`, `on_tokens`, and the constructors), and `forgotten` makes a sentence of that. The code: a
-- loop over the text's turns keeps what they `play` (`plays_to`, `play_passed`, `play_left`), so it ends in what any `Runs` of the
-- text makes, and `one_end` says that there is one. The fault: `fault_by_kinds`, by both directions, also
-- where a token's kind hangs on those before it (a making's tokens are then `Served`, by `side_by_side`); `fault_among` where it
-- has it by itself.
pub use Rattle.pv_ll.proofs.Tested.{ll1_from}
pub use Rattle.pv_ll.proofs.Words.{Expansion, inv_name, Shift, inv_token, inv_nothing, join, Cut, cut}
pub use Rattle.pv_ll.proofs.Traces.{derived, one_text, one_walk, Passing, inv_passed, inv_done, Putting, inv_put, Passage, inv_through, Onward, inv_on, Over, inv_over}
pub use Rattle.pv_ll.proofs.OneTrace.{one_trace, leftmost}
pub use Rattle.pv_ll.proofs.Makings.{on_tokens, beside, alone, forgotten, Ran, ran}
pub use Rattle.pv_ll.proofs.Runs.{same_steps, runs_to, one_end, played, plays_to, told_trace, play_passed, play_left, followed, play_followed}
pub use Rattle.pv_ll.proofs.Meanings.{each, ◌⋄◌, each_beside, Halves, halves, outcome}
pub use Rattle.pv_ll.proofs.Shaped.{may}
pub use Rattle.pv_ll.proofs.Witnesses.{kinds_below, witnesses, tokens_beside, kinds_beside, fault_by_kinds, fault_among}
