-- Messages that are events, and the two that initialise a page.
use Rattle.std.specs.Prelude.{ℕ, List, Bool, false, Option, Some, None, option_and_then, codes}
use Rattle.std.specs.Prelude.{if◌then◌else◌}
use Rattle.std.specs.Str.{bytes_eq}
use Rattle.data_layer.specs.Layer.{is_ignored}
use Rattle.gtm_data.specs.Paths.{member_of}
use Rattle.gtm_data.specs.Tree.{Tree, text, object, entry, none, text_in}

-- the text of the member `event`
abbrev pub event_name : Tree → Option (List ℕ)
event_name message = option_and_then text_in (member_of (codes "event") message)

-- a message is an event where it is not ignored and its member `event` is a text
abbrev pub event_of : Tree → Option (List ℕ)
event_of message = if is_ignored message then None else event_name message

-- whether there is a text and it is this one
abbrev pub is_text : Option (List ℕ) → List ℕ → Bool
is_text None other = false
is_text (Some found) other = bytes_eq found other

-- whether a value is a Map whose event is `gtm.js`, ignored or not
abbrev pub begins_page : Tree → Bool
begins_page value = is_text (event_name value) (codes "gtm.js")

-- the message of an event with this name alone
abbrev pub event_message : List ℕ → Tree
event_message name = object (entry (codes "event") (text name) none)

-- the first message that initialises a page
unfoldable pub consent_message : Tree
consent_message = event_message (codes "gtm.init_consent")

-- the second
unfoldable pub init_message : Tree
init_message = event_message (codes "gtm.init")
