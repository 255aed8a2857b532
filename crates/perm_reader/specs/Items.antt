-- What the items of a permission's lists grant.
use Rattle.std.specs.Prelude.{ℕ, ◌&&◌, ◌||◌, if◌then◌else◌, List, Bool, true, false, Option, Some}
use Rattle.std.specs.Prelude.{None, codes}
use Rattle.std.specs.Str.{bytes_eq}
use Rattle.gtm_data.specs.JsonText.{json_text}
use Rattle.gtm_data.specs.Tree.{Tree}
use Rattle.perm_model.specs.declared.grants.AddressPattern.{AddressPattern}
use Rattle.perm_model.specs.declared.grants.Grant.{Grant}
use Rattle.perm_model.specs.declared.grants.Grant.TheVariants as grant
use Rattle.perm_reader.specs.Patterns.{address_pattern, key_pattern}
use Rattle.perm_reader.specs.Values.{Columns, column, text_of_value, flag_of_value, row_value}
use Rattle.perm_reader.specs.Values.{text_value, called}
use Rattle.perm_reader.specs.declared.items.Found.{Found}
use Rattle.perm_reader.specs.declared.items.Found.TheVariants as found
use Rattle.perm_reader.specs.declared.items.ItemKind.{ItemKind}
use Rattle.perm_reader.specs.declared.items.ItemKind.TheVariants as kind

-- what comes of a text, where there is one
abbrev pub by_text : (List ℕ → Found) → Option (List ℕ) → Found
by_text f None = found.Unknown
by_text f (Some text) = f text

-- what comes of a row, where the value is one
abbrev pub by_row : (Columns → Found) → Option Columns → Found
by_row f None = found.Unknown
by_row f (Some row) = f row

-- what comes of a pattern, where the text is one
abbrev pub by_pattern : (AddressPattern → Grant) → Option AddressPattern → Found
by_pattern f None = found.Unknown
by_pattern f (Some pattern) = found.Granted (f pattern)

-- a row that allows something
abbrev pub found_if : Bool → Grant → Found
found_if true g = found.Granted g
found_if false g = found.Nothing

abbrev pub text_column : List ℕ → Columns → Option (List ℕ)
text_column name row = text_of_value (column name row)

abbrev pub flag_column : List ℕ → Columns → Bool
flag_column name row = flag_of_value (column name row)

abbrev pub consent : Columns → Found
consent row =
    let read = flag_column (codes "read") row in
    let write = flag_column (codes "write") row in
    by_text (λ t. found_if (read || write) (grant.Consent t read write))
    (text_column (codes "consentType") row)

abbrev pub global : Columns → Found
global row =
    let read = flag_column (codes "read") row in
    let write = flag_column (codes "write") row in
    let execute = flag_column (codes "execute") row in
    by_text (λ t. found_if ((read || write) || execute) (grant.Global t read write execute))
    (text_column (codes "key") row)

abbrev pub local : Columns → Found
local row =
    let read = flag_column (codes "read") row in
    let write = flag_column (codes "write") row in
    by_text (λ t. found_if (read || write) (grant.Local t read write))
    (text_column (codes "key") row)

-- only cookies of any kind can be allowed
abbrev pub cookie_write : Columns → Found
cookie_write row =
    by_text
    (λ name. by_text
    (λ domain. by_text
    (λ path. by_text
    (λ secure. by_text
    (λ session. found_if (bytes_eq secure (codes "any") && bytes_eq session (codes "any"))
    (grant.CookieWrite name domain path))
    (text_column (codes "session") row))
    (text_column (codes "secure") row))
    (text_column (codes "path") row))
    (text_column (codes "domain") row))
    (text_column (codes "name") row)

-- what a row grants
abbrev pub row_found : ItemKind → Columns → Found
row_found kind.Consent row = consent row
row_found kind.Global row = global row
row_found kind.Local row = local row
row_found kind.CookieWrite row = cookie_write row
row_found _ row = found.Unknown

-- what a name or a pattern grants
abbrev pub text_found : ItemKind → List ℕ → Found
text_found kind.Cookie text = found.Granted (grant.Cookie text)
text_found kind.Pixel text = by_pattern (λ p. grant.SendPixel p) (address_pattern text)
text_found kind.Script text = by_pattern (λ p. grant.InjectScript p) (address_pattern text)
text_found kind.Frame text = by_pattern (λ p. grant.InjectHiddenIframe p) (address_pattern text)
text_found kind.LayerRead text = found.Granted (grant.LayerRead (key_pattern text))
text_found kind.LayerWrite text = found.Granted (grant.LayerWrite (key_pattern text))
text_found _ text = found.Unknown

-- what a list is made of: rows, or texts
abbrev pub has_rows : ItemKind → Bool
has_rows kind.Consent = true
has_rows kind.Global = true
has_rows kind.Local = true
has_rows kind.CookieWrite = true
has_rows _ = false

-- what an item of a list grants
abbrev pub found_in : ItemKind → Tree → Found
found_in k value =
    if has_rows k then by_row (row_found k) (row_value value)
    else by_text (text_found k) (text_value value)

-- what an item that grants nothing is called in its warning
abbrev pub item_called : ItemKind → Tree → List ℕ
item_called k value = if has_rows k then json_text value else called value
