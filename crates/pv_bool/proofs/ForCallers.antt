-- What proofs of crates above cite.
pub use Rattle.pv_bool.proofs.Lengths.{length-start, length-begin, length-run_body, length-scan_end, length-next_state, length-state_of}
pub use Rattle.pv_bool.proofs.Lengths.{length-input_of, state_of-begin, input_of-begin}
pub use Rattle.pv_bool.proofs.Numbers.{length-within, numbers_within, bits_of-numbers_of, numbers_of-bits_of, lawful}
