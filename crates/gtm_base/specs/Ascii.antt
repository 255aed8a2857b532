-- Texts of ASCII characters alone.
use Rattle.std.specs.Prelude.{ℕ, List, Bool, nat_lt}
use Rattle.std.specs.List.{list_all}

-- each of them is ASCII: a test that computes on a text that is written out
abbrev pub is_all_ascii : List ℕ → Bool
is_all_ascii bytes = list_all (λ byte. nat_lt byte 128) bytes
