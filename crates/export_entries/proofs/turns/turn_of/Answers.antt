use Rattle.export_entries.specs.Turns.{turn_fault, written_turn}
use Rattle.export_entries.proofs.Later.{ends_as, fails_then}
use Rattle.export_entries.proofs.turns.turn_of.Goals as goal

pub returns-in_err-paused : goal.returns-in_err-paused
unfolding turn_fault written_turn
returns-in_err-paused c =
    ends_as _ _ _ _ c.from_residual-in_err-paused.ensures.1
    (rw (c.in_ok-option.ensures.0, c.in_ok-setup.ensures.0, c.in_ok-teardown.ensures.0)
    (fails_then _ _ _ c.in_err-paused.ensures))

pub returns-in_err-from_ms : goal.returns-in_err-from_ms
unfolding turn_fault written_turn
returns-in_err-from_ms c =
    ends_as _ _ _ _ c.from_residual-in_err-from_ms.ensures.1
    (rw (
      c.in_ok-option.ensures.0,
      c.in_ok-setup.ensures.0,
      c.in_ok-teardown.ensures.0,
      c.in_ok-paused.ensures.0,
    ) (fails_then _ _ _ c.in_err-from_ms.ensures))

pub returns-in_err-until_ms : goal.returns-in_err-until_ms
unfolding turn_fault written_turn
returns-in_err-until_ms c =
    ends_as _ _ _ _ c.from_residual-in_err-until_ms.ensures.1
    (rw (
      c.in_ok-option.ensures.0,
      c.in_ok-setup.ensures.0,
      c.in_ok-teardown.ensures.0,
      c.in_ok-paused.ensures.0,
      c.in_ok-from_ms.ensures.0,
    ) (fails_then _ _ _ c.in_err-until_ms.ensures))

pub returns-in_err-consent : goal.returns-in_err-consent
unfolding turn_fault written_turn
returns-in_err-consent c =
    ends_as _ _ _ _ c.from_residual-in_err-consent.ensures.1
    (rw (
      c.in_ok-option.ensures.0,
      c.in_ok-setup.ensures.0,
      c.in_ok-teardown.ensures.0,
      c.in_ok-paused.ensures.0,
      c.in_ok-from_ms.ensures.0,
      c.in_ok-until_ms.ensures.0,
    ) c.in_err-consent.ensures)

pub returns : goal.returns
unfolding turn_fault written_turn
returns c = (
  rw (
    c.in_ok-option.ensures.0,
    c.in_ok-setup.ensures.0,
    c.in_ok-teardown.ensures.0,
    c.in_ok-paused.ensures.0,
    c.in_ok-from_ms.ensures.0,
    c.in_ok-until_ms.ensures.0,
  ) c.in_ok-consent.ensures.0,
  λ i. record {
    option = c.in_ok-option.ensures.1 i;
    setup = c.in_ok-setup.ensures.1 i;
    teardown = c.in_ok-teardown.ensures.1 i;
    paused = c.in_ok-paused.ensures.1 i;
    from_ms = c.in_ok-from_ms.ensures.1 i;
    until_ms = c.in_ok-until_ms.ensures.1 i;
    consent = c.in_ok-consent.ensures.1 i;
  },
)
