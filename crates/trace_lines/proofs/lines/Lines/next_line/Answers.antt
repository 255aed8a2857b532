use Rattle.std.proofs.Common.{◌≡◌, ◌<◌, ◌+◌, ◌∙◌, Bool, length, ap, sym, subst, refl, rules, arith}
use Rattle.std.specs.Prelude.{Ok, Err, Result}
use Rattle.gtm_base.specs.Causes.{has_failed}
use Rattle.gtm_base.proofs.ReadPieces.{reads_then}
use Rattle.trace_lines.specs.Holding.{HasNoEnd, IsWithin}
use Rattle.trace_lines.specs.Reading.{is_read_fault}
use Rattle.trace_lines.specs.declared.lines.LineEnd.{LineEnd}
use Rattle.trace_lines.proofs.Answering.{Answer, ends, fails, handed_out, no_room, nothing_held}
use Rattle.trace_lines.proofs.FirstLine.{Begins, ended_line, last_begins}
use Rattle.trace_lines.proofs.Waiting.{IsWaiting, not_both, waits}
use Rattle.trace_lines.proofs.lines.Lines.next_line.Goals as goal

pub returns-in-Some-clause-told : goal.returns-in-Some-clause-told
returns-in-Some-clause-told g c =
    let back = sym c.find_end.ensures.same in
    let at = c.in-Some.at in
    let line =
    subst (λ p. Begins p at (at + 1)) back
    (ended_line at c.loop-at.self c.in-Some.ensures.first) in
    let waiting =
    subst (λ p.
    IsWaiting c.args.self.now p (g.F.Files.state c.args.files.now).left
    (g.F.Files.state c.loop-at.files).left) back c.loop-at.invariant.waiting in
    (handed_out c.args.self.now c.find_end.new.self _ _ _ at (at + 1) _ waiting line
    c.hand_out.ensures.answer c.hand_out.ensures.ok c.hand_out.ensures.err
    c.hand_out.ensures.within).told

pub returns-in-Some-clause-stands : goal.returns-in-Some-clause-stands
returns-in-Some-clause-stands g c =
    let back = sym c.find_end.ensures.same in
    let at = c.in-Some.at in
    let line =
    subst (λ p. Begins p at (at + 1)) back
    (ended_line at c.loop-at.self c.in-Some.ensures.first) in
    let waiting =
    subst (λ p.
    IsWaiting c.args.self.now p (g.F.Files.state c.args.files.now).left
    (g.F.Files.state c.loop-at.files).left) back c.loop-at.invariant.waiting in
    (handed_out c.args.self.now c.find_end.new.self _ _ _ at (at + 1) _ waiting line
    c.hand_out.ensures.answer c.hand_out.ensures.ok c.hand_out.ensures.err
    c.hand_out.ensures.within).stands

pub returns-in-0-clause-stands : goal.returns-in-0-clause-stands
returns-in-0-clause-stands g c =
    let back = sym c.find_end.ensures.same in
    let waiting =
    subst (λ p.
    IsWaiting c.args.self.now p (g.F.Files.state c.args.files.now).left
    (g.F.Files.state c.loop-at.files).left) back c.loop-at.invariant.waiting in
    let none = nothing_held c.find_end.new.self.held (sym c.held_len.ensures ∙ c.in-0.is) in
    (ends c.args.self.now c.find_end.new.self _ _ waiting
    (sym c.is_at_end.ensures ∙ c.if-is_at_end.true) none
    (subst IsWithin back c.in_default.ensures.within)).stands

pub returns-in_default-held_len-clause-told : goal.returns-in_default-held_len-clause-told
returns-in_default-held_len-clause-told g c =
    let back = sym c.find_end.ensures.same in
    let len = c.held_len.result in
    let some : 0 < len = omega arith in
    let none = subst (λ p. HasNoEnd p.held (length p.held)) back c.in_default.ensures.first in
    let line =
    last_begins c.find_end.new.self len (sym c.is_at_end.ensures ∙ c.if-is_at_end.true)
    c.held_len.ensures some none in
    let waiting =
    subst (λ p.
    IsWaiting c.args.self.now p (g.F.Files.state c.args.files.now).left
    (g.F.Files.state c.loop-at.files).left) back c.loop-at.invariant.waiting in
    let handed = c.hand_out-in_default-held_len.ensures in
    (handed_out c.args.self.now c.find_end.new.self _ _ _ len len _ waiting line handed.answer
    handed.ok handed.err handed.within).told

pub returns-in_default-held_len-clause-stands : goal.returns-in_default-held_len-clause-stands
returns-in_default-held_len-clause-stands g c =
    let back = sym c.find_end.ensures.same in
    let len = c.held_len.result in
    let some : 0 < len = omega arith in
    let none = subst (λ p. HasNoEnd p.held (length p.held)) back c.in_default.ensures.first in
    let line =
    last_begins c.find_end.new.self len (sym c.is_at_end.ensures ∙ c.if-is_at_end.true)
    c.held_len.ensures some none in
    let waiting =
    subst (λ p.
    IsWaiting c.args.self.now p (g.F.Files.state c.args.files.now).left
    (g.F.Files.state c.loop-at.files).left) back c.loop-at.invariant.waiting in
    let handed = c.hand_out-in_default-held_len.ensures in
    (handed_out c.args.self.now c.find_end.new.self _ _ _ len len _ waiting line handed.answer
    handed.ok handed.err handed.within).stands

pub returns-then-room-eq0-clause-told : goal.returns-then-room-eq0-clause-told
returns-then-room-eq0-clause-told g c =
    let back = sym c.find_end.ensures.same in
    let none = subst (λ p. HasNoEnd p.held (length p.held)) back c.in_default.ensures.first in
    let waiting =
    subst (λ p.
    IsWaiting c.args.self.now p (g.F.Files.state c.args.files.now).left
    (g.F.Files.state c.loop-at.files).left) back c.loop-at.invariant.waiting in
    (no_room c.args.self.now c.find_end.new.self _ _ waiting
    (subst IsWithin back c.in_default.ensures.within) none
    (sym c.room-room.ensures ∙ c.if-room-eq0.true)).told

pub returns-then-room-eq0-clause-stands : goal.returns-then-room-eq0-clause-stands
returns-then-room-eq0-clause-stands g c =
    let back = sym c.find_end.ensures.same in
    let none = subst (λ p. HasNoEnd p.held (length p.held)) back c.in_default.ensures.first in
    let waiting =
    subst (λ p.
    IsWaiting c.args.self.now p (g.F.Files.state c.args.files.now).left
    (g.F.Files.state c.loop-at.files).left) back c.loop-at.invariant.waiting in
    (no_room c.args.self.now c.find_end.new.self _ _ waiting
    (subst IsWithin back c.in_default.ensures.within) none
    (sym c.room-room.ensures ∙ c.if-room-eq0.true)).stands

pub loop-at-preserved : goal.loop-at-preserved
loop-at-preserved g c =
    let waiting =
    subst (λ p.
    IsWaiting c.args.self.now p (g.F.Files.state c.args.files.now).left
    (g.F.Files.state c.loop-at.files).left) (sym
    c.find_end.ensures.same) c.loop-at.invariant.waiting in
    let going = sym c.is_at_end.ensures ∙ c.if-is_at_end.false in
    record {
      files =
          reads_then is_read_fault _ is_read_fault (Ok c.in_ok-read_more.field-0) is_read_fault _ _
          _ _ refl c.loop-at.invariant.files c.in_ok-read_more.ensures.files;
      waiting =
          waits c.args.self.now c.find_end.new.self _ _ _ _ waiting going
          c.in_ok-read_more.ensures.more;
      end = λ at_end. not_both c.find_end.new.self.at_end going (waiting.end at_end);
    }

pub returns-in_err-read_more-clause-files : goal.returns-in_err-read_more-clause-files
returns-in_err-read_more-clause-files g c =
    let is : c.from_residual.result ≡ Err c.in_err-read_more.field-0.0 = search rules in
    reads_then is_read_fault _ is_read_fault (Err c.in_err-read_more.field-0.0) is_read_fault
    c.from_residual.result _ _ _ (ap (has_failed {T = Bool} is_read_fault) is)
    c.loop-at.invariant.files
    c.in_err-read_more.ensures.files

pub returns-in_err-read_more-clause-stands : goal.returns-in_err-read_more-clause-stands
returns-in_err-read_more-clause-stands g c =
    let back = sym c.find_end.ensures.same in
    let is : c.from_residual.result ≡ Err c.in_err-read_more.field-0.0 = search rules in
    let none = subst (λ p. HasNoEnd p.held (length p.held)) back c.in_default.ensures.first in
    let waiting =
    subst (λ p.
    IsWaiting c.args.self.now p (g.F.Files.state c.args.files.now).left
    (g.F.Files.state c.loop-at.files).left) back c.loop-at.invariant.waiting in
    let read = c.in_err-read_more.ensures in
    (subst (λ (r : Result Bool LineEnd). Answer r c.args.self.now c.read_more.new.self
    (g.F.Files.state c.args.files.now).left (g.F.Files.state c.read_more.new.files).left) (sym
    is)
    (fails c.args.self.now c.find_end.new.self _ _ (g.F.Files.state c.loop-at.files).left _
    c.in_err-read_more.field-0.0 read.cause read.stays read.before read.few waiting
    (subst IsWithin back c.in_default.ensures.within) none
    (sym c.is_at_end.ensures ∙ c.if-is_at_end.false))).stands
