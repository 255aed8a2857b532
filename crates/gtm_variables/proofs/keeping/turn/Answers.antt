use Rattle.std.proofs.Common.{◌≡◌, ◌<◌, inr, length, true, ap, arith}
use Rattle.std.specs.Prelude.{Contains}
use Rattle.export_model.specs.Graphs.{variable_graph}
use Rattle.reference_cycles.specs.Graph.{Refers}
use Rattle.variable_kinds.specs.Moment.{Moment}
use Rattle.gtm_variables.proofs.Turns.{pushed_within, pushed_pending, both_some, lower_next}
use Rattle.gtm_variables.proofs.Turns.{lower_put}
use Rattle.gtm_variables.proofs.keeping.turn.Goals as goal
use Rattle.gtm_variables.specs.Kept.{is_missing}

pub returns-in-Some-clause-waiting : goal.returns-in-Some-clause-waiting
returns-in-Some-clause-waiting g c =
    let container = c.args.values.now.container.now in
    pushed_within c.args.waiting.now.items c.push.new.waiting.items c.args.top
    c.in_ok-push.ensures (length container.variables) c.push_missing.new.waiting.items
    (Refers (variable_graph container) c.args.top) c.in_ok-next.ensures.only
    c.requires.waiting c.requires.within (c.args.values.now.sound.closed c.args.top)

pub returns-in-Some-clause-pending : goal.returns-in-Some-clause-pending
returns-in-Some-clause-pending g c =
    λ p was missing.
    inr (pushed_pending c.args.waiting.now.items c.push.new.waiting.items c.args.top
    c.in_ok-push.ensures c.push_missing.new.waiting.items c.in_ok-next.ensures.more p was)

pub returns-in-Some-clause-smaller : goal.returns-in-Some-clause-smaller
returns-in-Some-clause-smaller g c =
    let found = rw c.in-Some.is at c.in_ok-next.ensures.next in
    lower_next c.args.values.now.container.now c.args.values.now.kept.items
    c.args.values.now.sound.acyclic c.args.top c.in-Some.next found.1

pub returns-in_ok-keep-in-None-clause-waiting : goal.returns-in_ok-keep-in-None-clause-waiting
returns-in_ok-keep-in-None-clause-waiting g c =
    let container = c.args.values.now.container.now in
    λ p has.
    pushed_within c.args.waiting.now.items c.push.new.waiting.items c.args.top
    c.in_ok-push.ensures (length container.variables) c.push_missing.new.waiting.items
    (Refers (variable_graph container) c.args.top) c.in_ok-next.ensures.only
    c.requires.waiting c.requires.within (c.args.values.now.sound.closed c.args.top) p
    (c.pop_missing.ensures.fewer p has)

pub returns-in_ok-keep-in-None-clause-missing : goal.returns-in_ok-keep-in-None-clause-missing
returns-in_ok-keep-in-None-clause-missing g c =
    let container = c.args.values.now.container.now in
    both_some c.pop_missing.result (λ p. is_missing c.keep.new.values p ≡ true)
    (Contains c.push_missing.new.waiting.items) (λ p. p < length container.variables)
    c.pop_missing.ensures.missing c.pop_missing.ensures.among
    (pushed_within c.args.waiting.now.items c.push.new.waiting.items c.args.top
    c.in_ok-push.ensures (length container.variables) c.push_missing.new.waiting.items
    (Refers (variable_graph container) c.args.top) c.in_ok-next.ensures.only
    c.requires.waiting c.requires.within (c.args.values.now.sound.closed c.args.top))

pub returns-in_ok-keep-in-None-clause-pending : goal.returns-in_ok-keep-in-None-clause-pending
returns-in_ok-keep-in-None-clause-pending g c =
    λ p was missing.
    c.pop_missing.ensures.left p
    (pushed_pending c.args.waiting.now.items c.push.new.waiting.items c.args.top
    c.in_ok-push.ensures c.push_missing.new.waiting.items c.in_ok-next.ensures.more p was)
    missing

pub returns-in_ok-keep-in-None-clause-smaller : goal.returns-in_ok-keep-in-None-clause-smaller
returns-in_ok-keep-in-None-clause-smaller g c =
    let put = c.in_ok-keep-in-None.ensures.put in
    lower_put c.args.values.now.container.now c.keep.new.values.container.now
    c.args.values.now.kept.items c.keep.new.values.kept.items c.args.top put.kept
    c.pop_missing.result (ap (λ (m : Moment). m.container) c.keep.ensures.same.moment) put.after
    (omega (arith, c.requires.begun, c.requires.within)) c.requires.missing
