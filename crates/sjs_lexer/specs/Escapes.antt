-- The characters that are written in a text by a backslash and others.
use Rattle.std.specs.Prelude.{ℕ, ◌+◌, ◌-◌, ◌*◌, ◌==◌, ◌||◌, ◌&&◌, nat_lt, nat_le, Bool, Option}
use Rattle.std.specs.Prelude.{Some, None, if◌then◌else◌}
use Rattle.std.specs.Char.{is_ascii_digit}
use Rattle.sjs_lexer.specs.Characters.{is_line_end}

-- a character's code, and so no surrogate
unfoldable pub is_scalar : ℕ → Bool
is_scalar code = nat_lt code 0xD800 || (nat_le 0xE000 code && nat_le code 0x10FFFF)

-- the first of two surrogates
unfoldable pub is_high : ℕ → Bool
is_high code = nat_le 0xD800 code && nat_lt code 0xDC00

-- the second of two surrogates
unfoldable pub is_low : ℕ → Bool
is_low code = nat_le 0xDC00 code && nat_lt code 0xE000

-- the character that two surrogates make
unfoldable pub joined : ℕ → ℕ → ℕ
joined high low = 0x10000 + (high - 0xD800) * 0x400 + (low - 0xDC00)

-- a character for which a backslash before it means nothing
unfoldable pub itself : ℕ → Option ℕ
itself c = if ((is_ascii_digit c || c == 120) || c == 117) || is_line_end c then None else Some c

-- the character that a backslash and one other character write
unfoldable pub escaped : ℕ → Option ℕ
escaped c =
    if c == 110 then Some 10
    else (if c == 114 then Some 13
    else (if c == 116 then Some 9
    else (if c == 98 then Some 8
    else (if c == 102 then Some 12
    else (if c == 118 then Some 11
    else (if c == 48 then Some 0
    else itself c))))))
