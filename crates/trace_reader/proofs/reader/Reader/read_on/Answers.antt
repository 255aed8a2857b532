use Rattle.std.proofs.Common.{◌∙◌, Bool, refl, sym, ap, subst, arith}
use Rattle.std.specs.Prelude.{Ok, Err, Result, IsErrOf, IsTrue}
use Rattle.trace_reader.specs.declared.reader.TraceEnd.{TraceEnd}
use Rattle.trace_reader.specs.declared.reader.TraceEnd.TheVariants.{ReadFault}
use Rattle.gtm_base.proofs.ReadPieces.{reads_then}
use Rattle.trace_reader.specs.Progress.{LinesAnswer, before_of, is_at_end, is_fault}
use Rattle.trace_reader.proofs.Told.{answer_kept, asks_nothing, asks_step, ended, failed, handed}
use Rattle.trace_reader.proofs.Told.{none_more, one_more, passed, reading_kept, refused}
use Rattle.trace_reader.proofs.Told.{says_no_fault}
use Rattle.trace_reader.proofs.reader.Reader.read_on.Goals as goal

pub returns-in-Ok-false-clause-told : goal.returns-in-Ok-false-clause-told
returns-in-Ok-false-clause-told g c =
    let lines_told =
    subst (λ more.
    LinesAnswer (Ok more) c.loop-end.self c.next_line.new.self
    (g.F.Files.state c.loop-end.files).left
    (g.F.Files.state
    c.next_line.new.files).left) c.in-Ok-false.field-0-test c.in-Ok-false.ensures.moves in
    let count =
    none_more _ _ c.in-Ok-false.field-0 c.in-Ok-false.field-0-test c.in-Ok-false.ensures.lines
    in
    (ended c.args.self.now c.loop-end.self c.next_line.new.self _ _ _
    (record { same = c.loop-end.invariant.left; stands = c.loop-end.invariant.stands })
    c.next_line.ensures.files.read lines_told count c.next_line.ensures.ended).told

pub returns-in-Ok-false-clause-stands : goal.returns-in-Ok-false-clause-stands
returns-in-Ok-false-clause-stands g c =
    let lines_told =
    subst (λ more.
    LinesAnswer (Ok more) c.loop-end.self c.next_line.new.self
    (g.F.Files.state c.loop-end.files).left
    (g.F.Files.state
    c.next_line.new.files).left) c.in-Ok-false.field-0-test c.in-Ok-false.ensures.moves in
    let count =
    none_more _ _ c.in-Ok-false.field-0 c.in-Ok-false.field-0-test c.in-Ok-false.ensures.lines
    in
    (ended c.args.self.now c.loop-end.self c.next_line.new.self _ _ _
    (record { same = c.loop-end.invariant.left; stands = c.loop-end.invariant.stands })
    c.next_line.ensures.files.read lines_told count c.next_line.ensures.ended).stands

pub returns-in-Err-clause-files : goal.returns-in-Err-clause-files
returns-in-Err-clause-files g c =
    let told : Result Bool TraceEnd = Err c.in-Err.end in
    reads_then is_fault _ is_fault told is_fault (Err c.in-Err.end) _ _ _ refl
    c.loop-end.invariant.files c.in-Err.ensures.files

pub returns-in-Err-clause-told : goal.returns-in-Err-clause-told
returns-in-Err-clause-told g c =
    (failed c.args.self.now c.loop-end.self c.next_line.new.self _ _ _
    (record { same = c.loop-end.invariant.left; stands = c.loop-end.invariant.stands })
    c.next_line.ensures.files.read c.in-Err.end c.in-Err.ensures.moves
    (λ is. let same : IsErrOf {T = Bool} (Err c.in-Err.end) ReadFault = cc in
    c.in-Err.ensures.kept same)).told

pub returns-in-Err-clause-stands : goal.returns-in-Err-clause-stands
returns-in-Err-clause-stands g c =
    (failed c.args.self.now c.loop-end.self c.next_line.new.self _ _ _
    (record { same = c.loop-end.invariant.left; stands = c.loop-end.invariant.stands })
    c.next_line.ensures.files.read c.in-Err.end c.in-Err.ensures.moves
    (λ is. let same : IsErrOf {T = Bool} (Err c.in-Err.end) ReadFault = cc in
    c.in-Err.ensures.kept same)).stands

pub loop-end-preserved : goal.loop-end-preserved
loop-end-preserved g c =
    let lines_told =
    subst (λ more.
    LinesAnswer (Ok more) c.loop-end.self c.next_line.new.self
    (g.F.Files.state c.loop-end.files).left
    (g.F.Files.state
    c.next_line.new.files).left) c.in-Ok-true.field-0-test c.in-Ok-true.ensures.moves in
    let count =
    one_more _ _ c.in-Ok-true.field-0 c.in-Ok-true.field-0-test c.in-Ok-true.ensures.lines in
    let further = lines_told.told.further in
    let kept = c.in-Ok-None.ensures.kept in
    let before_kept = ap before_of kept in
    let goes_on =
    reading_kept kept
    (passed c.args.self.now c.loop-end.self c.next_line.new.self _ _ _
    (record { same = c.loop-end.invariant.left; stands = c.loop-end.invariant.stands })
    c.next_line.ensures.files.read lines_told count
    (asks_nothing c.in-Ok-None.field-0 _ _ c.in-Ok-None.field-0-is c.in-Ok-None.ensures.judged)
    c.next_line.ensures.ended) in
    record {
      files =
          reads_then is_fault _ is_fault (Ok c.in-Ok-true.field-0) is_fault _ _ _ _ refl
          c.loop-end.invariant.files c.in-Ok-true.ensures.files;
      left = goes_on.same;
      stands = goes_on.stands;
      ended =
          ap (λ p. p.ended) kept ∙ c.next_line.ensures.ended ∙ c.loop-end.invariant.ended;
      behind = omega arith;
      files_end =
          λ at_end. c.next_line.ensures.behind_end (c.loop-end.invariant.end at_end)
          ∙ c.loop-end.invariant.files_end at_end;
      end =
          λ at_end. subst (λ p. IsTrue (is_at_end p)) (sym kept)
          (lines_told.told.end (c.loop-end.invariant.end at_end));
    }

pub returns-in-Ok-Some-clause-files : goal.returns-in-Ok-Some-clause-files
returns-in-Ok-Some-clause-files g c =
    reads_then is_fault _ is_fault (Ok c.in-Ok-true.field-0) is_fault (Ok _) _ _ _ refl
    c.loop-end.invariant.files c.in-Ok-true.ensures.files

pub returns-in-Ok-Some-clause-told : goal.returns-in-Ok-Some-clause-told
returns-in-Ok-Some-clause-told g c =
    let lines_told =
    subst (λ more.
    LinesAnswer (Ok more) c.loop-end.self c.next_line.new.self
    (g.F.Files.state c.loop-end.files).left
    (g.F.Files.state
    c.next_line.new.files).left) c.in-Ok-true.field-0-test c.in-Ok-true.ensures.moves in
    let count =
    one_more _ _ c.in-Ok-true.field-0 c.in-Ok-true.field-0-test c.in-Ok-true.ensures.lines in
    (answer_kept c.in-Ok-Some.ensures.kept
    (handed c.args.self.now c.loop-end.self c.next_line.new.self _ _ _
    (record { same = c.loop-end.invariant.left; stands = c.loop-end.invariant.stands })
    c.next_line.ensures.files.read lines_told count c.in-Ok-Some.step
    (asks_step c.in-Ok-Some.field-0 c.in-Ok-Some.step _ _ c.in-Ok-Some.field-0-is
    c.in-Ok-Some.ensures.judged) c.next_line.ensures.ended)).told

pub returns-in-Ok-Some-clause-stands : goal.returns-in-Ok-Some-clause-stands
returns-in-Ok-Some-clause-stands g c =
    let lines_told =
    subst (λ more.
    LinesAnswer (Ok more) c.loop-end.self c.next_line.new.self
    (g.F.Files.state c.loop-end.files).left
    (g.F.Files.state
    c.next_line.new.files).left) c.in-Ok-true.field-0-test c.in-Ok-true.ensures.moves in
    let count =
    one_more _ _ c.in-Ok-true.field-0 c.in-Ok-true.field-0-test c.in-Ok-true.ensures.lines in
    (answer_kept c.in-Ok-Some.ensures.kept
    (handed c.args.self.now c.loop-end.self c.next_line.new.self _ _ _
    (record { same = c.loop-end.invariant.left; stands = c.loop-end.invariant.stands })
    c.next_line.ensures.files.read lines_told count c.in-Ok-Some.step
    (asks_step c.in-Ok-Some.field-0 c.in-Ok-Some.step _ _ c.in-Ok-Some.field-0-is
    c.in-Ok-Some.ensures.judged) c.next_line.ensures.ended)).stands

pub returns-in-Err-step-clause-files : goal.returns-in-Err-step-clause-files
returns-in-Err-step-clause-files g c =
    reads_then is_fault _ is_fault (Ok c.in-Ok-true.field-0) is_fault (Err c.in-Err-step.end) _ _ _
    (says_no_fault c.in-Err-step.end _ _ c.in-Err-step.ensures.judged) c.loop-end.invariant.files
    c.in-Ok-true.ensures.files

pub returns-in-Err-step-clause-told : goal.returns-in-Err-step-clause-told
returns-in-Err-step-clause-told g c =
    let lines_told =
    subst (λ more.
    LinesAnswer (Ok more) c.loop-end.self c.next_line.new.self
    (g.F.Files.state c.loop-end.files).left
    (g.F.Files.state
    c.next_line.new.files).left) c.in-Ok-true.field-0-test c.in-Ok-true.ensures.moves in
    let count =
    one_more _ _ c.in-Ok-true.field-0 c.in-Ok-true.field-0-test c.in-Ok-true.ensures.lines in
    (answer_kept c.in-Err-step.ensures.kept
    (refused c.args.self.now c.loop-end.self c.next_line.new.self _ _ _
    (record { same = c.loop-end.invariant.left; stands = c.loop-end.invariant.stands })
    c.next_line.ensures.files.read lines_told count c.in-Err-step.end
    c.in-Err-step.ensures.judged)).told

pub returns-in-Err-step-clause-stands : goal.returns-in-Err-step-clause-stands
returns-in-Err-step-clause-stands g c =
    let lines_told =
    subst (λ more.
    LinesAnswer (Ok more) c.loop-end.self c.next_line.new.self
    (g.F.Files.state c.loop-end.files).left
    (g.F.Files.state
    c.next_line.new.files).left) c.in-Ok-true.field-0-test c.in-Ok-true.ensures.moves in
    let count =
    one_more _ _ c.in-Ok-true.field-0 c.in-Ok-true.field-0-test c.in-Ok-true.ensures.lines in
    (answer_kept c.in-Err-step.ensures.kept
    (refused c.args.self.now c.loop-end.self c.next_line.new.self _ _ _
    (record { same = c.loop-end.invariant.left; stands = c.loop-end.invariant.stands })
    c.next_line.ensures.files.read lines_told count c.in-Err-step.end
    c.in-Err-step.ensures.judged)).stands
