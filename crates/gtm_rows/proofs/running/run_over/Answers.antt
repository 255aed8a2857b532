use Rattle.gtm_rows.proofs.Held.{names_of_words, hold_both, is_untouched, took_nothing}
use Rattle.gtm_rows.proofs.Held.{handed_nothing}
use Rattle.gtm_rows.proofs.running.run_over.Goals as goal

pub returns-clause-model : goal.returns-clause-model
returns-clause-model c = λ still written.
    let named =
    names_of_words c.in_ok-from_str.field-0 c.in_ok-from_str-2.field-0
    c.in_ok-from_str-3.field-0
    c.in_ok-from_str.ensures.ok c.in_ok-from_str-2.ensures.ok c.in_ok-from_str-3.ensures.ok in
    let replays = rw named at c.replay-status.ensures.run in
    let both =
    hold_both c.in_ok-files.files c.fail_at.new.self _ c.args.export.now c.args.trace.now
    c.in_ok-files.ensures.held c.in_ok-fail_at.ensures.ok in
    let nothing =
    took_nothing c.new-out.result c.fail_at-2.new.self _ c.new-out.ensures
    c.in_ok-fail_at-2.ensures.ok in
    rw (← nothing) (replays.headline c.args.export.now c.args.trace.now both still written)

pub returns-clause-front : goal.returns-clause-front
returns-clause-front c =
    let named =
    names_of_words c.in_ok-from_str.field-0 c.in_ok-from_str-2.field-0
    c.in_ok-from_str-3.field-0
    c.in_ok-from_str.ensures.ok c.in_ok-from_str-2.ensures.ok c.in_ok-from_str-3.ensures.ok in
    let replays = rw named at c.replay-status.ensures.run in
    let both =
    hold_both c.in_ok-files.files c.fail_at.new.self _ c.args.export.now c.args.trace.now
    c.in_ok-files.ensures.held c.in_ok-fail_at.ensures.ok in
    let nothing =
    took_nothing c.new-out.result c.fail_at-2.new.self _ c.new-out.ensures
    c.in_ok-fail_at-2.ensures.ok in
    rw (← nothing) (replays.front c.args.export.now c.args.trace.now both)

pub returns-clause-command : goal.returns-clause-command
returns-clause-command c =
    let named =
    names_of_words c.in_ok-from_str.field-0 c.in_ok-from_str-2.field-0
    c.in_ok-from_str-3.field-0
    c.in_ok-from_str.ensures.ok c.in_ok-from_str-2.ensures.ok c.in_ok-from_str-3.ensures.ok in
    let replays = rw named at c.replay-status.ensures.run in
    replays.not_usage

pub returns-clause-unwritten : goal.returns-clause-unwritten
returns-clause-unwritten c =
    let named =
    names_of_words c.in_ok-from_str.field-0 c.in_ok-from_str-2.field-0
    c.in_ok-from_str-3.field-0
    c.in_ok-from_str.ensures.ok c.in_ok-from_str-2.ensures.ok c.in_ok-from_str-3.ensures.ok in
    let replays = rw named at c.replay-status.ensures.run in
    replays.sink_fault

pub returns-clause-refused : goal.returns-clause-refused
returns-clause-refused c =
    let named =
    names_of_words c.in_ok-from_str.field-0 c.in_ok-from_str-2.field-0
    c.in_ok-from_str-3.field-0
    c.in_ok-from_str.ensures.ok c.in_ok-from_str-2.ensures.ok c.in_ok-from_str-3.ensures.ok in
    let replays = rw named at c.replay-status.ensures.run in
    replays.engine_refused

pub returns-clause-names : goal.returns-clause-names
returns-clause-names c =
    let named =
    names_of_words c.in_ok-from_str.field-0 c.in_ok-from_str-2.field-0
    c.in_ok-from_str-3.field-0
    c.in_ok-from_str.ensures.ok c.in_ok-from_str-2.ensures.ok c.in_ok-from_str-3.ensures.ok in
    let replays = rw named at c.replay-status.ensures.run in
    let nothing =
    handed_nothing c.in_ok-files.files c.fail_at.new.self _ c.in_ok-files.ensures.names
    c.in_ok-fail_at.ensures.ok in
    rw (← nothing) replays.opened

pub returns-clause-err : goal.returns-clause-err
returns-clause-err c =
    rw (← is_untouched c.new-err.result c.fail_at-3.new.self _ c.new-err.ensures
    c.in_ok-fail_at-3.ensures.ok) c.replay-status.ensures.err
