-- Kinds of characters.
use Rattle.std.specs.Prelude.{ℕ, Bool, ◌==◌, ◌||◌, ◌&&◌, not}
use Rattle.std.specs.Char.{is_whitespace, is_ascii_alphabetic, is_ascii_alphanumeric}

-- LF, CR, U+2028 and U+2029 (ECMAScript 5.1, 7.3)
unfoldable pub is_line_end : ℕ → Bool
is_line_end c = ((c == 10 || c == 13) || c == 0x2028) || c == 0x2029

-- within a line
abbrev pub is_in_line : ℕ → Bool
is_in_line c = not (is_line_end c)

-- Unicode's white space but U+0085, and U+FEFF: the white space and the line ends of ECMAScript 5.1
-- (7.2 and 7.3)
unfoldable pub is_white : ℕ → Bool
is_white c = c == 0xFEFF || (is_whitespace c && not (c == 0x85))

-- an ASCII letter, `_` or `$`
unfoldable pub is_name_start : ℕ → Bool
is_name_start c = (is_ascii_alphabetic c || c == 95) || c == 36

-- an ASCII letter or digit, `_` or `$`
unfoldable pub is_name_char : ℕ → Bool
is_name_char c = (is_ascii_alphanumeric c || c == 95) || c == 36
