use Rattle.std.proofs.Common.{rules, arith, ◌≡◌, ◌<◌, ◌+◌, ◌-◌, ◌∷◌, [], length, Some, None, IfSome}
use Rattle.std.proofs.Common.{IsSome, refl, sym, ap, ◌∙◌, subst, option_map}
use Rattle.std.specs.Prelude.{ℕ, List}
use Rattle.std.specs.Str.{chars}
use Rattle.std.proofs.lemmas.Str.{encodes-chars}
use Rattle.json.specs.Json.{read_key, value}
use Rattle.json.proofs.Grammar.{read_key-shorter}
use Rattle.serde_json.specs.Data as json
use Rattle.gtm_data.specs.declared.data.Data.{Data}
use Rattle.gtm_data.specs.Parsing.{ReadsValue, levels_more}
use Rattle.gtm_data.specs.Tree.{tree_of}
use Rattle.gtm_data.proofs.Placed.{Matches, matched_entries, matched_whole}
use Rattle.gtm_data.proofs.Placed.{matched_within}
use Rattle.gtm_data.proofs.Turns.{last_member, member_turn}
use Rattle.gtm_data.proofs.parsing.read_only_member.Goals as goal

pub returns : goal.returns
returns c =
    let levels = c.args.levels in
    let read = value (levels + levels_more) in
    let old = c.args.reader.now in
    let key = c.args.key.now in
    let behind = c.next_key.new.self in
    let after = c.read_value.new.reader in
    let end = c.next_key-2.new.self in
    let member = c.in-Some.member in
    let same : c.in-Ok-Some.name.now ≡ key = search rules in
    let told : read_key old ≡ Some (Some c.in-Ok-Some.name.now, behind) =
    c.in-Ok-Some.ensures.value
    ∙ ap (λ found. Some (option_map (λ name. name.now) found, behind)) c.in-Ok-Some.field-0-is in
    let named = told ∙ ap (λ name. Some (Some name, behind)) same in
    let over : read_key after ≡ Some (None, end) =
    c.in-Ok-None.ensures.value
    ∙ ap (λ found. Some (option_map (λ name. name.now) found, end)) c.in-Ok-None.field-0-is in
    let some : IsSome c.in_ok-member.field-0 = search rules in
    let lesser : length after < length behind = c.in_ok-member.ensures.shorter some in
    let less = read_key-shorter old (Some key) behind named in
    let r =
    subst (λ o. IfSome o (λ data_read. ReadsValue levels behind (tree_of data_read) after))
    c.in-Some.is c.in_ok-member.ensures.ok in
    let here : Matches levels key r.found (chars key, member) =
    (sym (encodes-chars key c.utf8.key), refl, r.tree, r.whole, r.within) in
    let ms = json.put key r.found json.no_members in
    let ps : List (List ℕ × Data) = (chars key, member) ∷ [] in
    record {
      found = ms;
      read =
          member_turn read (length old) old json.no_members key behind after r.found
          (omega arith) named r.read
          ∙ last_member read (length old - 1) after ms end (omega arith) over;
      entries = matched_entries levels ms ps (here, tt);
      whole = matched_whole levels ms ps (here, tt);
      within = matched_within levels ms ps (here, tt);
    }
