use Rattle.std.proofs.Common.{◌∙◌, ap, sym}
use Rattle.std.specs.Prelude.{option_map}
use Rattle.std.specs.Str.{chars}
use Rattle.gtm_base.specs.Keys.{value_of}
use Rattle.gtm_base.proofs.Lookups.{found_at, value_of-absent}
use Rattle.gtm_base.proofs.mem_files.MemFilesFiles.open.Goals as goal

pub returns-in-None-clause-err : goal.returns-in-None-clause-err
returns-in-None-clause-err c =
    let name = chars c.args.name.now in
    let absent =
    ap (λ files. value_of name files.held) (sym c.self.view_is)
    ∙ value_of-absent name c.self.inside.files.pairs (sym c.in-None.ensures.place) in
    rw (c.fails_now-fails.ensures.calls, absent, ← c.self.view_is)

pub returns-in-None-clause-opens : goal.returns-in-None-clause-opens
returns-in-None-clause-opens c = λ held _.
    let name = chars c.args.name.now in
    let absent =
    ap (λ files. value_of name files.held) (sym c.self.view_is)
    ∙ value_of-absent name c.self.inside.files.pairs (sym c.in-None.ensures.place) in
    rw absent at held

pub returns-in-Some-clause-err : goal.returns-in-Some-clause-err
returns-in-Some-clause-err c =
    let name = chars c.args.name.now in
    let found = found_at name c.self.inside.files.pairs _ (sym c.in-Some.ensures.place) in
    let held = ap (λ files. value_of name files.held) (sym c.self.view_is) ∙ found.value_is in
    rw (
      c.fails_now-fails.ensures.calls,
      c.saturating_add-self-inside.ensures,
      held,
      ← c.self.view_is,
    )

pub returns-in-Some-2-clause-absent : goal.returns-in-Some-2-clause-absent
returns-in-Some-2-clause-absent c = λ absent.
    let name = chars c.args.name.now in
    let found = found_at name c.self.inside.files.pairs _ (sym c.in-Some.ensures.place) in
    let held = ap (λ files. value_of name files.held) (sym c.self.view_is) ∙ found.value_is in
    absurd (cc (held, absent))

pub returns-in-Some-2-clause-bytes : goal.returns-in-Some-2-clause-bytes
returns-in-Some-2-clause-bytes c =
    let name = chars c.args.name.now in
    let found = found_at name c.self.inside.files.pairs _ (sym c.in-Some.ensures.place) in
    let held = ap (λ files. value_of name files.held) (sym c.self.view_is) ∙ found.value_is in
    ap (λ pair. option_map (λ p. p.1) pair) found.pair ∙ sym held

pub returns-in-Some-2-clause-holds : goal.returns-in-Some-2-clause-holds
returns-in-Some-2-clause-holds c =
    let name = chars c.args.name.now in
    let found = found_at name c.self.inside.files.pairs _ (sym c.in-Some.ensures.place) in
    let held = ap (λ files. value_of name files.held) (sym c.self.view_is) ∙ found.value_is in
    rw held

pub returns-in-Some-2-clause-open_name : goal.returns-in-Some-2-clause-open_name
returns-in-Some-2-clause-open_name c =
    let name = chars c.args.name.now in
    let found = found_at name c.self.inside.files.pairs _ (sym c.in-Some.ensures.place) in
    ap (λ pair. option_map (λ p. p.0) pair) found.pair
