use Rattle.std.proofs.Common.{rules, arith, ◌≡◌, ◌∷◌, ◌+◌, ◌-◌, ◌<◌, [], IfSome, ap, sym, ◌∙◌}
use Rattle.std.proofs.Common.{subst}
use Rattle.std.specs.Str.{IsUtf8, chars}
use Rattle.json.specs.Json.{parse_map, value}
use Rattle.json.specs.Lex.{tokens}
use Rattle.json.specs.Reads.{token_of}
use Rattle.json.specs.Token.{Token}
use Rattle.serde_json.specs.Data as json
use Rattle.serde_json.specs.Read.{of_json, converted}
use Rattle.gtm_data.specs.declared.limits.TheConstants.{MAX_DEPTH}
use Rattle.gtm_data.specs.Parsing.{ReadsValue, ReadsMembers, levels_more}
use Rattle.gtm_data.specs.Tree.{tree_of, object, entry, none}
use Rattle.gtm_data.proofs.Fits.{whole_text_read}
use Rattle.gtm_data.proofs.Levels.{tree_in-object}
use Rattle.gtm_data.proofs.Turns.{opens_object}
use Rattle.gtm_data.proofs.parsing.parse_member.Goals as goal

pub returns-in-None : goal.returns-in-None
returns-in-None c =
    let bytes = c.args.bytes.now in
    let made = c.in-Some.made in
    let utf8 : IsUtf8 bytes = search rules in
    let same : c.in-Ok.text.now ≡ bytes = search rules in
    let start = c.in_ok-reader.ensures.ok ∙ ap tokens same in
    let first = c.in_ok-reader.reader in
    let rest = c.next.new.self in
    let after = c.read_only_member.new.reader in
    let end : after ≡ [] = search rules in
    let begun : first ≡ token_of c.in-Some-BeginObject.field-0 ∷ rest = grind arith in
    let is : first ≡ Token.begin_object ∷ rest =
    begun ∙ ap (λ k. token_of k ∷ rest) c.in-Some-BeginObject.field-0-is in
    let some : 0 < MAX_DEPTH = omega arith in
    let t = object (entry (chars c.args.key.now) (tree_of made) none) in
    let r =
    subst (λ o. IfSome o (λ value_read.
    ReadsMembers (MAX_DEPTH - 1) rest (entry (chars c.args.key.now) (tree_of value_read) none)
    after))
    c.in-Some.is c.in_ok-made.ensures in
    let within = r.within in
    let read : ReadsValue MAX_DEPTH first t after =
    record {
      found = json.object r.found;
      read =
          ap (λ ts. converted of_json (value (MAX_DEPTH + levels_more) ts)) is
          ∙ opens_object MAX_DEPTH levels_more rest some ∙ ap (parse_map json.object) r.read;
      tree = ap object r.entries ∙ sym (tree_in-object r.found);
      whole = r.whole;
      within = omega arith;
    } in
    let whole = subst (λ ts. ReadsValue MAX_DEPTH ts t after) start read in
    whole_text_read bytes t utf8
    (subst (λ ts. ReadsValue MAX_DEPTH (tokens bytes) t ts) end whole)
