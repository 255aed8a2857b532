-- What is read of a permission's parameters: grants, and the texts of warnings.
use Rattle.std.specs.Prelude.{ℕ, if◌then◌else◌, List, [], ◌∷◌, ◌++◌, Option, Some, None, codes}
use Rattle.gtm_data.specs.Tree.{Tree, Trees, end, item}
use Rattle.perm_model.specs.declared.grants.Grant.{Grant}
use Rattle.perm_reader.specs.Items.{found_in, item_called}
use Rattle.perm_reader.specs.Values.{called, text_value, list_value, is_text_found}
use Rattle.perm_reader.specs.declared.items.Found.{Found}
use Rattle.perm_reader.specs.declared.items.Found.TheVariants as found
use Rattle.perm_reader.specs.declared.items.ItemKind.{ItemKind}
use Rattle.perm_reader.specs.declared.reading.Reading.{Reading}
use Rattle.perm_reader.specs.declared.reading.Word.{Word}
use Rattle.perm_reader.specs.declared.reading.Word.TheVariants as word

abbrev pub nothing : Reading
nothing = record { grants = []; warnings = [] }

-- one behind the other
abbrev pub plus : Reading → Reading → Reading
plus some more = record {
  grants = some.grants ++ more.grants;
  warnings = some.warnings ++ more.warnings;
}

abbrev pub granting : Grant → Reading
granting g = record { grants = g ∷ []; warnings = [] }

abbrev pub warning : List ℕ → Reading
warning t = record { grants = []; warnings = t ∷ [] }

-- a warning of a value, where there is one
abbrev pub warned : Option Tree → Reading
warned None = nothing
warned (Some value) = warning (called value)

abbrev pub read_found : Found → List ℕ → Reading
read_found found.Unknown name = warning name
read_found found.Nothing name = nothing
read_found (found.Granted g) name = granting g

-- an item: its grant, or a warning where it is not of the list's form
abbrev pub by_found : ItemKind → Tree → Reading
by_found k value = read_found (found_in k value) (item_called k value)

-- each item in order
abbrev pub each : ItemKind → Trees → Reading
each k end = nothing
each k (item t ts) = plus (by_found k t) (each k ts)

abbrev pub list_read : ItemKind → Option Trees → Tree → Reading
list_read k (Some ts) value = each k ts
list_read k None value = warning (item_called k value)

-- the items of a list, where there is one
abbrev pub items_read : ItemKind → Option Tree → Reading
items_read k None = nothing
items_read k (Some value) = list_read k (list_value value) value

abbrev pub word_in : Option (List ℕ) → Word
word_in t =
    if is_text_found (codes "any") t then word.Any
    else (if is_text_found (codes "specific") t then word.Specific else word.Unknown)

-- the word of a parameter, where it is there, and else `specific`
abbrev pub word_of : Option Tree → Word
word_of None = word.Specific
word_of (Some value) = word_in (text_value value)

abbrev pub by_word : Word → Reading → Reading → Reading → Reading
by_word word.Any any specific unknown = any
by_word word.Specific any specific unknown = specific
by_word word.Unknown any specific unknown = unknown

-- `any` is one grant, `specific` has a list, and another word is warned of
abbrev pub worded : Grant → ItemKind → Option Tree → Option Tree → Reading
worded any k said listed = by_word (word_of said) (granting any) (items_read k listed) (warned said)
