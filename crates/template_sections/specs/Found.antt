-- Bytes that were found.
use Rattle.std.specs.Prelude.{ℕ, List, Option, option_map}
use denote.Ref.{Bor}

abbrev pub found : Option (Bor (List ℕ)) → Option (List ℕ)
found o = option_map (λ bytes. bytes.now) o
