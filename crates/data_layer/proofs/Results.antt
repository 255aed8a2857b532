-- What is known where a call was right.
use Rattle.std.proofs.Common.{Result, Ok, Err, OnOk}

pub on_ok : {A E P Q : Type 0} (result : Result A E) → OnOk result P → (P → Q) → OnOk result Q
on_ok (Ok value) known from = from known
on_ok (Err error) known from = tt
