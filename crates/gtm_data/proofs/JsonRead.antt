-- The tree of a JSON text, and that there is none.
use Rattle.std.proofs.Common.{◌≡◌, ℕ, List, Bool, true, false, Option, Some, None, refl}
use Rattle.std.specs.Prelude.{if◌then◌else◌}
use Rattle.std.specs.Str.{IsUtf8, is_utf8}
use Rattle.std.proofs.lemmas.Str.{is_utf8-from_IsUtf8, IsUtf8-from_is_utf8}
use Rattle.serde_json.specs.Data as json
use Rattle.serde_json.specs.Read.{read}
use Rattle.gtm_data.specs.Json.{json_of}

pub tree_read : (bytes : List ℕ) (tree : json.Data) → IsUtf8 bytes → read bytes ≡ Some tree
    → Some tree ≡ json_of bytes
tree_read bytes tree utf8 is = rw (is_utf8-from_IsUtf8 bytes utf8, is)

none_if : (test : Bool) (tree : Option json.Data) → (test ≡ true → tree ≡ None)
    → None ≡ (if test then tree else None)
none_if true tree none = rw (none refl)
none_if false tree none = refl

pub no_tree : (bytes : List ℕ) → (IsUtf8 bytes → read bytes ≡ None) → None ≡ json_of bytes
no_tree bytes none =
    none_if (is_utf8 bytes) (read bytes) (λ test. none (IsUtf8-from_is_utf8 bytes test))
