use Rattle.std.proofs.Common.{◌≡◌, Some, sym, ap, ◌∙◌, subst, arith, rules}
use Rattle.std.specs.Prelude.{encode_utf8_all}
use Rattle.std.specs.Str.{chars}
use Rattle.std.proofs.lemmas.Str.{encodes-chars}
use Rattle.gtm_data.specs.Parsing.{Ascend, place_for}
use Rattle.gtm_data.proofs.Ascending.{absent, ascend_with}
use Rattle.gtm_data.proofs.parsing.place_member.Goals as goal

pub returns-clause-bytes : goal.returns-clause-bytes
returns-clause-bytes c done = encodes-chars c.args.key.now c.utf8.key

pub insert-requires-clause-new : goal.insert-requires-clause-new
insert-requires-clause-new c =
    let key = c.args.key.now in
    let pairs = c.args.found.now.pairs in
    let name = c.in_ok-name.name in
    let named : name ≡ chars key = search rules in
    let is : place_for key pairs ≡ Some c.in-Some.at = grind arith in
    let bytes = ap encode_utf8_all named ∙ encodes-chars key c.utf8.key in
    absent name pairs c.in-Some.at c.requires (ap (λ k. place_for k pairs) bytes ∙ is)

pub returns-clause-ascend : goal.returns-clause-ascend
returns-clause-ascend c done =
    let key = c.args.key.now in
    let pairs = c.args.found.now.pairs in
    let name = c.in_ok-name.name in
    let named : name ≡ chars key = search rules in
    let is : place_for key pairs ≡ Some c.in-Some.at = grind arith in
    let bytes = ap encode_utf8_all named ∙ encodes-chars key c.utf8.key in
    subst Ascend (sym c.in_ok-insert.ensures.ok)
    (ascend_with name c.args.member pairs c.in-Some.at c.requires
    (ap (λ k. place_for k pairs) bytes ∙ is))
