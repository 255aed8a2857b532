-- A JSON tree whose numbers are all whole and in range and which is not too deep is data.
use Rattle.std.proofs.Common.{◌≡◌, ℕ, ◌+◌, List, [], Option, Some, None, option_and_then, refl}
use Rattle.std.proofs.Common.{sym, ap, ◌∙◌}
use Rattle.std.specs.Option.{option_or}
use Rattle.std.specs.Str.{chars, IsUtf8}
use Rattle.std.proofs.lemmas.Str.{is_utf8-from_IsUtf8}
use Rattle.json.specs.Json as grammar
use Rattle.json.specs.Lex.{tokens}
use Rattle.serde_json.specs.Data.{Data, null, boolean, number, string, array, object, Items}
use Rattle.serde_json.specs.Data.{no_items, item, Members, no_members, member}
use Rattle.serde_json.specs.Read.{max_depth, read}
use Rattle.gtm_data.specs.declared.limits.TheConstants.{MAX_DEPTH}
use Rattle.gtm_data.specs.Json.{json_of}
use Rattle.gtm_data.specs.Parsing.{AllWhole, ItemsWhole, MembersWhole, ReadsValue}
use Rattle.gtm_data.specs.Plain.{index_step, key_step, nodes, item_nodes, member_nodes, first_path}
use Rattle.gtm_data.specs.Plain.{is_unfit_at, not_whole, plain}
use Rattle.gtm_data.specs.Tree.{Tree}
use Rattle.gtm_data.proofs.Nodes.{under, first_path-item, first_path-member}
use Rattle.gtm_data.proofs.Shallow.{plain-depth}
use Rattle.gtm_data.proofs.Turns.{last_read}

neither : (step : List ℕ) (some other : Option (List ℕ)) → some ≡ None → other ≡ None
    → option_or (under step some) other ≡ None
neither step None other e f = f
neither step (Some path) other e f = cc

mutual
  unfolding nodes item_nodes member_nodes

  fits : (d : Data) → AllWhole d → not_whole d ≡ None
  fits null h = refl
  fits (boolean b) h = refl
  fits (number x) h = rw h
  fits (string s) h = refl
  fits (array ds) h = items_fit ds 0 h
  fits (object ms) h = members_fit ms h

  items_fit : (ds : Items) (place : ℕ) → ItemsWhole ds
      → first_path is_unfit_at (item_nodes place ds) ≡ None
  items_fit no_items place h = refl
  items_fit (item d ds) place h =
      first_path-item is_unfit_at is_unfit_at (λ step n. refl) place d ds
      ∙ neither (index_step place) _ _ (fits d h.0) (items_fit ds (place + 1) h.1)

  members_fit : (ms : Members) → MembersWhole ms
      → first_path is_unfit_at (member_nodes ms) ≡ None
  members_fit no_members h = refl
  members_fit (member key d ms) h =
      first_path-member is_unfit_at is_unfit_at (λ step n. refl) key d ms
      ∙ neither (key_step (chars key)) _ _ (fits d h.0) (members_fit ms h.1)

in_utf8 : (bytes : List ℕ) → IsUtf8 bytes → json_of bytes ≡ read bytes
in_utf8 bytes utf8 = rw (is_utf8-from_IsUtf8 bytes utf8)

-- what a whole text stands for
pub whole_text_read : (bytes : List ℕ) (t : Tree) → IsUtf8 bytes
    → ReadsValue MAX_DEPTH (tokens bytes) t [] → option_and_then plain (json_of bytes) ≡ Some t
whole_text_read bytes t utf8 r =
    let is : read bytes ≡ Some r.found =
    last_read (grammar.value max_depth (tokens bytes)) r.found r.read in
    ap (option_and_then plain) (in_utf8 bytes utf8 ∙ is)
    ∙ (plain-depth r.found (fits r.found r.whole)).1 r.within ∙ ap Some (sym r.tree)
