pub mod TextKindLaws
