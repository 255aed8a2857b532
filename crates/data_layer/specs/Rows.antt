-- The types of what a List or a Map lends of itself.
use denote.RattleType.{RattleType}
use Rattle.gtm_base.specs.contracts.keyed.Keyed as keyed
use Rattle.gtm_base.specs.contracts.list.ListOf as list_of
use Rattle.gtm_base.specs.contracts.text.Text as text
use Rattle.gtm_data.specs.contracts.data.Data as data_row
use Rattle.gtm_data.specs.Tree.{Tree, list, object}

-- the items of a List
abbrev pub items_row : RattleType
items_row = list_of.the_row data_row.the_row

-- the members of a Map
abbrev pub members_row : RattleType
members_row = keyed.the_row data_row.the_row

-- the characters of a text
abbrev pub text_row : RattleType
text_row = text.the_row

-- it is no List
abbrev pub IsNoList : Tree → Type 0
IsNoList (list ts) = ⊥
IsNoList _ = Unit {0}

-- it is no Map
abbrev pub IsNoMap : Tree → Type 0
IsNoMap (object es) = ⊥
IsNoMap _ = Unit {0}
