use Rattle.std.proofs.Common.{rules, arith, ◌≡◌, ◌<◌, ◌+◌, ◌-◌, ◌++◌, ◌∷◌, [], length, map}
use Rattle.std.proofs.Common.{IsTrue, IsSome, IfSome, option_map, is_some, refl, sym, ap, ◌∙◌}
use Rattle.std.proofs.Common.{subst, Some, None}
use Rattle.std.specs.Prelude.{insert}
use Rattle.std.specs.Str.{chars}
use Rattle.json.specs.Token.{Token}
use Rattle.json.specs.Json.{parse_map, after_end_array, read_key, value}
use Rattle.json.specs.Reads.{token_of}
use Rattle.json.proofs.Grammar.{value_is, read_key-shorter}
use Rattle.serde_json.specs.Data as json
use Rattle.serde_json.specs.Read.{of_json, converted, number_of}
use Rattle.gtm_data.specs.declared.data.Data.{the_lemmas}
use Rattle.gtm_data.specs.Parsing.{ReadsValue, ReadsItems, ReadsMembers, levels_more, place_for}
use Rattle.gtm_data.specs.Parsing.{Ascend}
use Rattle.gtm_data.specs.Tree as Tree
use Rattle.gtm_data.specs.Tree.{trees, tree_of, trees_of, entries_of}
use Rattle.gtm_data.proofs.Gathered.{before, each_fits-push, items_whole, items_within, one_more}
use Rattle.gtm_data.proofs.Gathered.{trees_in-before, maps-push}
use Rattle.gtm_data.proofs.Levels.{tree_of-List, tree_of-Map, tree_in-null, tree_in-boolean}
use Rattle.gtm_data.proofs.Levels.{tree_in-string, tree_in-number, tree_in-array, tree_in-object}
use Rattle.gtm_data.proofs.Placed.{Matches, AllMatch, matched_entries, matched_whole}
use Rattle.gtm_data.proofs.Placed.{matched_within, matched_put, place_there}
use Rattle.gtm_data.proofs.Turns.{opens_array, opens_object, item_turn, last_item, member_turn}
use Rattle.gtm_data.proofs.Turns.{last_member, number_read}
use Rattle.gtm_data.proofs.parsing.+read_value.Goals as goal

pub read_value-returns-in_ok-from_str-in-String-clause-ok :
    goal.read_value-returns-in_ok-from_str-in-String-clause-ok
read_value-returns-in_ok-from_str-in-String-clause-ok t c =
    let levels = c.args.levels + levels_more in
    let rest = c.next.new.self in
    let text = c.in-String.text.now in
    let first : c.args.reader.now ≡ token_of c.in-Some.token ∷ rest = grind arith in
    let is : c.args.reader.now ≡ Token.string text ∷ rest = grind (arith, first) in
    let told = tree_in-string text in
    record {
      found = json.string text;
      read = ap (converted of_json) (ap (value levels) is ∙ value_is levels _);
      tree = search (rules, the_lemmas, told);
      whole = tt;
      within = omega arith;
    }

pub read_value-returns-in-Some-whole_numeral-clause-ok :
    goal.read_value-returns-in-Some-whole_numeral-clause-ok
read_value-returns-in-Some-whole_numeral-clause-ok t c =
    let levels = c.args.levels + levels_more in
    let rest = c.next.new.self in
    let text = c.in-Number.text.now in
    let number = c.in-Some-whole_numeral.number in
    let first : c.args.reader.now ≡ token_of c.in-Some.token ∷ rest = grind arith in
    let is : c.args.reader.now ≡ Token.number text ∷ rest = grind (arith, first) in
    let x = number_read (number_of text) number c.in-Some-whole_numeral.ensures in
    let told = tree_in-number x.0 number x.2 in
    record {
      found = json.number x.0;
      read =
          ap (converted of_json) (ap (value levels) is ∙ value_is levels _)
          ∙ ap (λ o. option_map (λ b. (b, rest)) (option_map json.number o)) x.1;
      tree = search (rules, the_lemmas, told);
      whole = ap is_some x.2;
      within = omega arith;
    }

pub read_value-returns-in-Bool-clause-ok : goal.read_value-returns-in-Bool-clause-ok
read_value-returns-in-Bool-clause-ok t c =
    let levels = c.args.levels + levels_more in
    let rest = c.next.new.self in
    let first : c.args.reader.now ≡ token_of c.in-Some.token ∷ rest = grind arith in
    let is : c.args.reader.now ≡ Token.boolean c.in-Bool.truth ∷ rest = grind (arith, first) in
    let told = tree_in-boolean c.in-Bool.truth in
    record {
      found = json.boolean c.in-Bool.truth;
      read = ap (converted of_json) (ap (value levels) is ∙ value_is levels _);
      tree = search (rules, the_lemmas, told);
      whole = tt;
      within = omega arith;
    }

pub read_value-returns-in-Null-clause-ok : goal.read_value-returns-in-Null-clause-ok
read_value-returns-in-Null-clause-ok t c =
    let levels = c.args.levels + levels_more in
    let rest = c.next.new.self in
    let first : c.args.reader.now ≡ token_of c.in-Some.token ∷ rest = grind arith in
    let is : c.args.reader.now ≡ Token.null ∷ rest = grind (arith, first) in
    let told = tree_in-null in
    record {
      found = json.null;
      read = ap (converted of_json) (ap (value levels) is ∙ value_is levels _);
      tree = search (rules, the_lemmas, told);
      whole = tt;
      within = omega arith;
    }

pub read_value-returns-in-Some-2-clause-ok : goal.read_value-returns-in-Some-2-clause-ok
read_value-returns-in-Some-2-clause-ok t c =
    let levels = c.args.levels in
    let rest = c.next.new.self in
    let after = c.read_items.new.reader in
    let some : 0 < levels = omega arith in
    let first : c.args.reader.now ≡ token_of c.in-Some.token ∷ rest = grind arith in
    let is = first ∙ ap (λ k. token_of k ∷ rest) c.in-BeginArray.is in
    let r =
    subst (λ o. IfSome o (λ found. ReadsItems (levels - 1) rest (trees_of found) after))
    c.in-Some-2.is c.in_ok-items-in-BeginArray.ensures.ok in
    let deep = r.within in
    record {
      found = json.array r.found;
      read =
          ap (λ ts. converted of_json (value (levels + levels_more) ts)) is
          ∙ opens_array levels levels_more rest some ∙ ap (parse_map json.array) r.read;
      tree =
          tree_of-List c.in-Some-2.items ∙ ap Tree.list r.trees ∙ sym (tree_in-array r.found);
      whole = r.whole;
      within = omega arith;
    }

pub read_value-returns-in-Some-3-clause-ok : goal.read_value-returns-in-Some-3-clause-ok
read_value-returns-in-Some-3-clause-ok t c =
    let levels = c.args.levels in
    let rest = c.next.new.self in
    let after = c.read_members.new.reader in
    let some : 0 < levels = omega arith in
    let first : c.args.reader.now ≡ token_of c.in-Some.token ∷ rest = grind arith in
    let is = first ∙ ap (λ k. token_of k ∷ rest) c.in-BeginObject.is in
    let r =
    subst (λ o. IfSome o (λ found. ReadsMembers (levels - 1) rest (entries_of found.pairs) after))
    c.in-Some-3.is c.in_ok-members-in-BeginObject.ensures.ok in
    let deep = r.within in
    record {
      found = json.object r.found;
      read =
          ap (λ ts. converted of_json (value (levels + levels_more) ts)) is
          ∙ opens_object levels levels_more rest some ∙ ap (parse_map json.object) r.read;
      tree =
          tree_of-Map c.in-Some-3.members ∙ ap Tree.object r.entries
          ∙ sym (tree_in-object r.found);
      whole = r.whole;
      within = omega arith;
    }

pub read_items-items-preserved : goal.read_items-items-preserved
read_items-items-preserved t c =
    let levels = c.args.levels in
    let read = value (levels + levels_more) in
    let l = c.items in
    let turns = l.invariant.0 in
    let ds = l.invariant.1 in
    let enough = l.invariant.2 in
    let shrinks = l.invariant.6 in
    let going : (after_end_array l.reader ≡ None) × (c.take_end_array.new.self ≡ l.reader) =
    grind arith in
    let after = c.read_value.new.reader in
    let some : IsSome c.in_ok-item.field-0 = search rules in
    let less : length after < length l.reader =
    subst (λ ts. length after < length ts) going.1 (c.in_ok-item.ensures.shorter some) in
    let made =
    subst (λ o. IfSome o (λ data_read.
    ReadsValue levels c.take_end_array.new.self (tree_of data_read) after))
    c.in-Some.is c.in_ok-item.ensures.ok in
    let r = subst (λ ts. ReadsValue levels ts (tree_of c.in-Some.item) after) going.1 made in
    let turn = item_turn read turns l.reader after r.found (omega arith) going.0 r.read in (
      turns - 1,
      ds ++ r.found ∷ [],
      omega arith,
      l.invariant.3 ∙ ap (parse_map (before ds)) turn ∙ one_more ds r.found _,
      ap (map tree_of) c.in_ok-push.ensures.ok
          ∙ maps-push l.found c.in-Some.item ds r.found l.invariant.4 r.tree,
      each_fits-push levels ds r.found l.invariant.5 r.whole r.within,
      omega arith,
    )

pub read_items-returns-clause-ok : goal.read_items-returns-clause-ok
read_items-returns-clause-ok t c =
    let levels = c.args.levels in
    let read = value (levels + levels_more) in
    let l = c.items in
    let turns = l.invariant.0 in
    let ds = l.invariant.1 in
    let after = c.take_end_array.new.self in
    let over = last_item read turns l.reader after l.invariant.2 (grind arith) in
    record {
      found = before ds json.no_items;
      read = l.invariant.3 ∙ ap (parse_map (before ds)) over;
      trees = ap trees l.invariant.4 ∙ trees_in-before ds;
      whole = items_whole levels ds l.invariant.5;
      within = items_within levels ds l.invariant.5;
    }

pub read_members-members-init : goal.read_members-members-init
read_members-members-init t c = (
  length c.args.reader.now,
  json.no_members,
  omega arith,
  refl,
  subst (AllMatch c.args.levels json.no_members) (sym c.new-found.ensures) tt,
  subst Ascend (sym c.new-found.ensures) tt,
  omega arith,
)

pub read_members-returns-in_default-next-clause-ok :
    goal.read_members-returns-in_default-next-clause-ok
read_members-returns-in_default-next-clause-ok t c =
    let levels = c.args.levels in
    let read = value (levels + levels_more) in
    let l = c.members in
    let turns = l.invariant.0 in
    let ms = l.invariant.1 in
    let after = c.next_key.new.self in
    let over : read_key l.reader ≡ Some (None, after) = grind arith in
    record {
      found = ms;
      read = l.invariant.3 ∙ last_member read turns l.reader ms after l.invariant.2 over;
      entries = matched_entries levels ms l.found.pairs l.invariant.4;
      whole = matched_whole levels ms l.found.pairs l.invariant.4;
      within = matched_within levels ms l.found.pairs l.invariant.4;
    }

pub read_members-members-preserved : goal.read_members-members-preserved
read_members-members-preserved t c =
    let levels = c.args.levels in
    let read = value (levels + levels_more) in
    let l = c.members in
    let turns = l.invariant.0 in
    let ms = l.invariant.1 in
    let enough = l.invariant.2 in
    let shrinks = l.invariant.6 in
    let key = c.in-Some.key.now in
    let pairs = l.found.pairs in
    let member = c.in-Some-2.member in
    let behind = c.next_key.new.self in
    let named : read_key l.reader ≡ Some (Some key, behind) = grind arith in
    let after = c.read_value.new.reader in
    let some : IsSome c.in_ok-member.field-0 = search rules in
    let lesser : length after < length behind = c.in_ok-member.ensures.shorter some in
    let less = read_key-shorter l.reader (Some key) behind named in
    let r =
    subst (λ o. IfSome o (λ data_read. ReadsValue levels behind (tree_of data_read) after))
    c.in-Some-2.is c.in_ok-member.ensures.ok in
    let placing = c.in_ok-place_member.ensures in
    let done : IsTrue c.in_ok-place_member.field-0 = search rules in
    let at = place_there (place_for key pairs) (placing.there done) in
    let placed =
    subst (λ o. IfSome o (λ at.
    c.place_member.new.found.pairs ≡ insert pairs at (chars key, member)))
    at.1 (placing.placed done) in
    let here : Matches levels key r.found (chars key, member) =
    (sym (placing.bytes done), refl, r.tree, r.whole, r.within) in
    let matched =
    matched_put levels key (chars key) r.found member here ms pairs at.0 l.invariant.4 at.1 in
    let turn =
    member_turn read turns l.reader ms key behind after r.found (omega arith) named r.read in (
      turns - 1,
      json.put key r.found ms,
      omega arith,
      l.invariant.3 ∙ turn,
      subst (AllMatch levels (json.put key r.found ms)) (sym placed) matched,
      placing.ascend done,
      omega arith,
    )
