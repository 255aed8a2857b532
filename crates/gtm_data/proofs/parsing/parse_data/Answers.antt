use Rattle.std.proofs.Common.{rules, ◌≡◌, [], IfSome, ap, ◌∙◌, subst}
use Rattle.std.specs.Str.{IsUtf8}
use Rattle.json.specs.Lex.{tokens}
use Rattle.gtm_data.specs.declared.limits.TheConstants.{MAX_DEPTH}
use Rattle.gtm_data.specs.Parsing.{ReadsValue}
use Rattle.gtm_data.specs.Tree.{tree_of}
use Rattle.gtm_data.proofs.Fits.{whole_text_read}
use Rattle.gtm_data.proofs.parsing.parse_data.Goals as goal

pub returns : goal.returns
returns c =
    let bytes = c.args.bytes.now in
    let made = c.in-Some.made in
    let utf8 : IsUtf8 bytes = search rules in
    let same : c.in-Ok.text.now ≡ bytes = search rules in
    let start = c.in_ok-reader.ensures.ok ∙ ap tokens same in
    let after = c.read_value.new.reader in
    let none : after ≡ [] = search rules in
    let first = c.in_ok-reader.reader in
    let read =
    subst (λ o. IfSome o (λ data_read. ReadsValue MAX_DEPTH first (tree_of data_read) after))
    c.in-Some.is c.in_ok-made.ensures.ok in
    let whole = subst (λ ts. ReadsValue MAX_DEPTH ts (tree_of made) after) start read in
    whole_text_read bytes (tree_of made) utf8
    (subst (λ ts. ReadsValue MAX_DEPTH (tokens bytes) (tree_of made) ts) none whole)
