use Rattle.std.proofs.Common.{◌≡◌, ◌≢◌, ◌∷◌, [], get_or, true≢false, arith, sym, ◌∙◌}
use Rattle.std.proofs.lemmas.Fmt.{decimal_digit}
use Rattle.std.proofs.lemmas.Slice.Eq.{bytes_eq-Decides}
use Rattle.std.proofs.lemmas.Str.Pattern.{starts_char}
use Rattle.gtm_data.proofs.Indexes.{chars_of, parsed, not_parsed, not_signed, not_zero, some_of}
use Rattle.gtm_data.proofs.Indexes.{none_of}
use Rattle.gtm_data.proofs.walking.index.Goals as goal

pub returns-then-eq-clause-written : goal.returns-then-eq-clause-written
returns-then-eq-clause-written c =
    let same : c.args.name.now ≡ 48 ∷ [] =
    (bytes_eq-Decides c.args.name.now (48 ∷ [])).0 (sym c.eq.ensures ∙ c.if-eq.true) in
    chars_of c.args.name.now 0 (omega arith) (decimal_digit 0 (omega arith) ∙ sym same)

pub returns-then-starts_with-clause-none : goal.returns-then-starts_with-clause-none
returns-then-starts_with-clause-none c =
    let name = c.args.name.now in
    let zeroes =
    (starts_char 48 name c.starts_with.result c.starts_with.ensures.cases (omega arith)
    (omega arith)).0 c.if-starts_with.true in
    λ at. not_zero name at c.utf8.name zeroes
    (λ e. true≢false
    (sym ((bytes_eq-Decides name (48 ∷ [])).1 e) ∙ sym c.eq.ensures ∙ c.if-eq.false))

pub returns-then-starts_with-2-clause-none : goal.returns-then-starts_with-2-clause-none
returns-then-starts_with-2-clause-none c =
    let name = c.args.name.now in
    let plus =
    (starts_char 43 name c.starts_with-2.result c.starts_with-2.ensures.cases (omega arith)
    (omega arith)).0 c.if-starts_with-2.true in
    λ at. not_signed name at c.utf8.name plus

pub returns-clause-written : goal.returns-clause-written
returns-clause-written c =
    let name = c.args.name.now in
    let plus : get_or name 0 0 ≢ 43 =
    λ e. true≢false
    (sym ((starts_char 43 name c.starts_with-2.result c.starts_with-2.ensures.cases
    (omega arith) (omega arith)).1 e) ∙ c.if-starts_with-2.false) in
    let zero : get_or name 0 0 ≢ 48 =
    λ e. true≢false
    (sym ((starts_char 48 name c.starts_with.result c.starts_with.ensures.cases (omega arith)
    (omega arith)).1 e) ∙ c.if-starts_with.false) in
    some_of c.parse.result c.ok.result c.ok.ensures.value
    (λ at is. parsed name at c.parse.result plus zero c.parse.ensures.value.0 is)

pub returns-clause-none : goal.returns-clause-none
returns-clause-none c =
    none_of c.parse.result c.ok.result c.ok.ensures.value
    (λ e is at.
    not_parsed c.args.name.now at c.parse.result e c.utf8.name c.parse.ensures.value.0 is)
