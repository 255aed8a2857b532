use Rattle.std.proofs.Common.{◌≡◌, ◌≢◌, ◌∷◌, [], length, get_or, arith, sym, ap, ◌∙◌}
use Rattle.std.proofs.lemmas.Fmt.{decimal_digit}
use Rattle.std.proofs.lemmas.Slice.Eq.{bytes_eq-Decides}
use Rattle.gtm_data.proofs.Indexes.{chars_of, parsed, not_parsed, some_of, none_of}
use Rattle.data_layer.proofs.Digits.{first_digit, not_the_word}
use Rattle.data_layer.proofs.indexes.number.Goals as goal

pub returns-then-eq-clause-written : goal.returns-then-eq-clause-written
returns-then-eq-clause-written c =
    let same : c.args.name.now ≡ 48 ∷ [] =
    (bytes_eq-Decides c.args.name.now (48 ∷ [])).0 (sym c.eq.ensures ∙ c.if-eq.true) in
    chars_of c.args.name.now 0 (omega arith) (decimal_digit 0 (omega arith) ∙ sym same)

pub returns-in-49-to-57-clause-written : goal.returns-in-49-to-57-clause-written
returns-in-49-to-57-clause-written c =
    let name = c.args.name.now in
    let same : get_or c.as_bytes.result.now 0 0 ≡ get_or name 0 0 =
    ap (λ bytes. get_or bytes 0 0) c.as_bytes.ensures.value in
    let plus : get_or name 0 0 ≢ 43 = λ e. omega arith in
    let zero : get_or name 0 0 ≢ 48 = λ e. omega arith in
    some_of c.parse.result c.ok.result c.ok.ensures.value
    (λ at is. parsed name at c.parse.result plus zero c.parse.ensures.value.0 is)

pub returns-in-49-to-57-clause-none : goal.returns-in-49-to-57-clause-none
returns-in-49-to-57-clause-none c =
    none_of c.parse.result c.ok.result c.ok.ensures.value
    (λ e is at.
    not_parsed c.args.name.now at c.parse.result e c.utf8.name c.parse.ensures.value.0 is)

pub returns-in_default-clause-none : goal.returns-in_default-clause-none
returns-in_default-clause-none c = λ at fits written.
    let begins =
    first_digit c.args.name.now at c.utf8.name
    (not_the_word 48 c.args.name.now (sym c.eq.ensures ∙ c.if-eq.false)) fits written in
    let lengths = ap length c.as_bytes.ensures.value in
    omega arith

pub returns-in_default-2-clause-none : goal.returns-in_default-2-clause-none
returns-in_default-2-clause-none c = λ at fits written.
    let begins =
    first_digit c.args.name.now at c.utf8.name
    (not_the_word 48 c.args.name.now (sym c.eq.ensures ∙ c.if-eq.false)) fits written in
    let firsts = ap (λ bytes. get_or bytes 0 0) c.as_bytes.ensures.value in
    omega arith

pub returns-in_default-3-clause-none : goal.returns-in_default-3-clause-none
returns-in_default-3-clause-none c = λ at fits written.
    let begins =
    first_digit c.args.name.now at c.utf8.name
    (not_the_word 48 c.args.name.now (sym c.eq.ensures ∙ c.if-eq.false)) fits written in
    let firsts = ap (λ bytes. get_or bytes 0 0) c.as_bytes.ensures.value in
    omega arith
