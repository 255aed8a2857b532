-- What a call gives where no call failed.
use Rattle.std.proofs.Common.{◌≡◌, ℕ, List, arith}
use Rattle.std.specs.Prelude.{Result, Ok, Err}
use Rattle.gtm_base.specs.Causes.{Rose, every}
use Rattle.gtm_base.specs.Outside.{SinkState, Writes}
use Rattle.gtm_cli.specs.Report.{TookText}

pub took_text : {T E : Type 0} (result : Result T E) (old new : SinkState) (text : List ℕ)
    → old.faults ≡ 0 → Writes every result old new text → TookText text old new
took_text (Ok value) old new text zero wrote =
    record { front = wrote.front; whole = λ still. wrote.whole }
took_text (Err error) old new text zero wrote =
    record {
      front =
          wrote.front;
      whole = λ still. let rose : Rose old.faults new.faults = wrote.counted in
          absurd (omega arith);
    }
