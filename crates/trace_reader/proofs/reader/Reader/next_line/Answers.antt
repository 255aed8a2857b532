use Rattle.std.proofs.Common.{◌≡◌, ◌+◌, true, false, refl, ap}
use Rattle.std.specs.Prelude.{Ok, Err}
use Rattle.trace_lines.specs.declared.lines.LineEnd.TheVariants.{OutOfMemory, ReadFault, TooLong}
use Rattle.trace_reader.proofs.Told.{answers_as}
use Rattle.trace_reader.proofs.reader.Reader.next_line.Goals as goal

pub returns-in-Ok-true-clause-moves : goal.returns-in-Ok-true-clause-moves
returns-in-Ok-true-clause-moves g c =
    let is : c.next_line.result ≡ Ok true = cc c.in-Ok-true.is in
    answers_as c.next_line.result (Ok true) _ c.args.self.now _ _ _ is c.self.view_is
    (record { told = c.next_line.ensures.told; stands = c.next_line.ensures.stands })

pub returns-in-Ok-false-clause-moves : goal.returns-in-Ok-false-clause-moves
returns-in-Ok-false-clause-moves g c =
    let is : c.next_line.result ≡ Ok false = cc c.in-Ok-false.is in
    answers_as c.next_line.result (Ok false) _ c.args.self.now _ _ _ is c.self.view_is
    (record { told = c.next_line.ensures.told; stands = c.next_line.ensures.stands })

pub returns-in-Err-OutOfMemory-clause-moves : goal.returns-in-Err-OutOfMemory-clause-moves
returns-in-Err-OutOfMemory-clause-moves g c =
    let is : c.next_line.result ≡ Err OutOfMemory =
    cc (c.in-Err-OutOfMemory.is, c.in-Err-OutOfMemory.field-0-is) in
    answers_as c.next_line.result (Err OutOfMemory) _ c.args.self.now _ _ _ is c.self.view_is
    (record { told = c.next_line.ensures.told; stands = c.next_line.ensures.stands })

pub returns-in-Err-ReadFault-clause-moves : goal.returns-in-Err-ReadFault-clause-moves
returns-in-Err-ReadFault-clause-moves g c =
    let is : c.next_line.result ≡ Err ReadFault =
    cc (c.in-Err-ReadFault.is, c.in-Err-ReadFault.field-0-is) in
    answers_as c.next_line.result (Err ReadFault) _ c.args.self.now _ _ _ is c.self.view_is
    (record { told = c.next_line.ensures.told; stands = c.next_line.ensures.stands })

pub returns-in-Err-TooLong-clause-moves : goal.returns-in-Err-TooLong-clause-moves
returns-in-Err-TooLong-clause-moves g c =
    let is : c.next_line.result ≡ Err TooLong =
    cc (c.in-Err-TooLong.is, c.in-Err-TooLong.field-0-is) in (
      answers_as c.next_line.result (Err TooLong) _ c.args.self.now _ _ _ is c.self.view_is
          (record { told = c.next_line.ensures.told; stands = c.next_line.ensures.stands }),
      ap (λ progress. progress.lines + 1) c.self.view_is,
      refl,
    )
