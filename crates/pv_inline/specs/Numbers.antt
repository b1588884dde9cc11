-- Numbers of 32 bits.
pub use Rattle.pv_call_tables.specs.Wanted.{MOST}
