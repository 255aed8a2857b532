-- Two values with the same pairs are one.
pub use Rattle.gtm_base.specs.SameKeyed.{same_keyed}
