-- Where the characters of a text end.
use Rattle.std.specs.Prelude.{◌≡◌, ℕ, List, Option, None, option_map}
use Rattle.std.specs.Str.{chars}
use denote.Ref.{Bor}
use Rattle.sjs_lexer.specs.Reading.{Pieces, piece_at, behind_char}

-- from a place on, these characters are read and no more, and that is left behind a quote there
pub record EndsAt (quote : ℕ) (start value : List ℕ) (left : Option (Bor (List ℕ))) : Type 0 where
  pub here : List ℕ
  pub pieces : Pieces quote start value here
  pub last : piece_at quote here ≡ None
  pub closed : option_map (λ rest. chars rest.now) left ≡ behind_char quote here
