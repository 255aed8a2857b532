-- What an end of the engine is as a failure.
use Rattle.std.proofs.Common.{◌≡◌, ◌∙◌, ◌≤◌, ap, refl, subst, sym, ℕ, List, arith}
use Rattle.std.specs.Prelude.{false, Option, Some, None, IfSome, Result, Ok, Err, IfErr}
use Rattle.gtm_base.specs.Causes.{has_failed}
use Rattle.gtm_base.specs.Engines.{EnginesState, HandsOn, LeavesEngines}
use Rattle.gtm_base.specs.Outside.{ReadSome, followed_by}
use Rattle.gtm_cli.specs.Failures.{failure_of_run, failure_of_trace, is_out_fault, is_trace_fault}
use Rattle.gtm_cli.specs.Failures.{RefusesNone, status_of_run, trace_refusal}
use Rattle.gtm_cli.specs.Running.{TellsEnd}
use Rattle.gtm_cli.specs.declared.failures.RunFailure.{RunFailure}
use Rattle.gtm_cli.specs.declared.failures.RunFailure.TheVariants as run
use Rattle.trace_reader.specs.Progress.{fault_after, is_fault}
use Rattle.trace_reader.specs.declared.reader.TraceEnd.{TraceEnd}
use Rattle.trace_reader.specs.declared.reader.TraceEnd.TheVariants as trace
use Rattle.replay_engine.specs.RunFault.{NeverLimits, is_run_fault, run_refusal}
use Rattle.replay_engine.specs.declared.run_end.RunEnd.{RunEnd}
use Rattle.replay_engine.specs.declared.run_end.RunEnd.TheVariants.{OutOfMemory, JobLimit}
use Rattle.replay_engine.specs.declared.run_end.RunEnd.TheVariants.{EngineRefused, SinkFault}

pub out_fault_is : (end : RunEnd) → is_out_fault (failure_of_run end) ≡ is_run_fault end
out_fault_is OutOfMemory = refl
out_fault_is (EngineRefused text) = refl
out_fault_is (JobLimit step) = refl
out_fault_is SinkFault = refl

pub no_trace_fault : (end : RunEnd) → is_trace_fault (failure_of_run end) ≡ false
no_trace_fault OutOfMemory = refl
no_trace_fault (EngineRefused text) = refl
no_trace_fault (JobLimit step) = refl
no_trace_fault SinkFault = refl

ends_none : (end : RunEnd) → NeverLimits (Err end)
    → TellsEnd (status_of_run (Err (failure_of_run end))) → ⊥
ends_none OutOfMemory never tells = tells
ends_none (EngineRefused text) never tells = never
ends_none (JobLimit step) never tells = never
ends_none SinkFault never tells = tells

pub tells_no_end : (end : RunEnd) (failure : RunFailure) → failure ≡ failure_of_run end
    → NeverLimits (Err end) → TellsEnd (status_of_run (Err failure)) → ⊥
tells_no_end end failure is never =
    subst (λ f. TellsEnd (status_of_run (Err f)) → ⊥) (sym is) (ends_none end never)

-- a call that takes no step refuses no text
refuses_none : (end : RunEnd) → NeverLimits (Err end) → RefusesNone (failure_of_run end)
refuses_none OutOfMemory never = never
refuses_none (EngineRefused text) never = never
refuses_none (JobLimit step) never = absurd never
refuses_none SinkFault never = never

pub refuses_no_text : (end : RunEnd) (failure : RunFailure) → failure ≡ failure_of_run end
    → NeverLimits (Err end) → RefusesNone failure
refuses_no_text end failure is never = subst RefusesNone (sym is) (refuses_none end never)

-- and so does a reader
reader_none : (end : TraceEnd) → RefusesNone (failure_of_trace end)
reader_none trace.OutOfMemory = tt
reader_none trace.ReadFault = tt
reader_none (trace.Refused line rule) = tt

pub reader_refuses_none : (end : TraceEnd) (failure : RunFailure) → failure ≡ failure_of_trace end
    → RefusesNone failure
reader_refuses_none end failure is = subst RefusesNone (sym is) (reader_none end)

refusal_is : (end : RunEnd) → trace_refusal (failure_of_run end) ≡ run_refusal end
refusal_is OutOfMemory = refl
refusal_is (EngineRefused text) = refl
refusal_is (JobLimit step) = refl
refusal_is SinkFault = refl

-- engines that are as they were, where no text was refused
left_so : (failure : RunFailure) (state : EnginesState) → RefusesNone failure
    → IfSome (trace_refusal failure) (λ refused. LeavesEngines refused state state)
left_so run.Unread state unrefused = record { kept = refl; counted = tt; told = tt }
left_so (run.Refused line rule) state unrefused = record { kept = refl; counted = tt; told = tt }
left_so (run.EngineRefused text) state unrefused = absurd unrefused
left_so (run.JobLimit step) state unrefused = record { kept = refl; counted = tt; told = tt }
left_so run.Unwritten state unrefused = record { kept = refl; counted = tt; told = tt }
left_so run.OutOfMemory state unrefused = tt

unasked_at : {T : Type 0} (result : Result T RunFailure) (state : EnginesState)
    → IfErr result RefusesNone → HandsOn trace_refusal result state state
unasked_at (Ok value) state unrefused = record {
  later = omega arith;
  left = record { kept = refl; counted = tt; told = tt };
}
unasked_at (Err failure) state unrefused = record {
  later = omega arith;
  left = left_so failure state unrefused;
}

pub unasked : {T : Type 0} (result : Result T RunFailure) (old new : EnginesState) → new ≡ old
    → IfErr result RefusesNone → HandsOn trace_refusal result old new
unasked result old new same unrefused =
    subst (HandsOn trace_refusal result old) (sym same) (unasked_at result old unrefused)

-- a step left the engines as its failure says
pub handed_to_step : {T U : Type 0} (result : Result T RunFailure) (end : RunEnd)
    (first old new : EnginesState) → result ≡ Err (failure_of_run end) → old ≡ first
    → HandsOn {T = U} run_refusal (Err end) old new → HandsOn trace_refusal result first new
handed_to_step {T} {U} result end first old new is same hands =
    subst (λ r. HandsOn trace_refusal r first new) (sym is)
    (subst (λ s. HandsOn {T = T} trace_refusal (Err (failure_of_run end)) s new) same
    (record {
      later = hands.later;
      left =
          subst (λ told. IfSome told (λ refused. LeavesEngines refused old new))
          (sym (refusal_is end)) hands.left;
    }))

-- the engine's ends are no faults of the files
pub files_stay : {T : Type 0} (result : Result T RunFailure) (end : RunEnd)
    → result ≡ Err (failure_of_run end) → has_failed is_trace_fault result ≡ false
files_stay result end is = ap (has_failed is_trace_fault) is ∙ no_trace_fault end

trace_fault_is : (end : TraceEnd) → is_trace_fault (failure_of_trace end) ≡ is_fault end
trace_fault_is trace.OutOfMemory = refl
trace_fault_is trace.ReadFault = refl
trace_fault_is (trace.Refused line rule) = refl

-- a reader that had not ended fails as the files do
pub reader_fault_is : (ended : Option TraceEnd) (end : TraceEnd) (failure : RunFailure)
    → ended ≡ None → failure ≡ failure_of_trace end → is_trace_fault failure ≡ fault_after ended end
reader_fault_is ended end failure going is =
    ap is_trace_fault is ∙ trace_fault_is end ∙ sym (ap (λ e. fault_after e end) going)

no_out_fault : (end : TraceEnd) → is_out_fault (failure_of_trace end) ≡ false
no_out_fault trace.OutOfMemory = refl
no_out_fault trace.ReadFault = refl
no_out_fault (trace.Refused line rule) = refl

-- an answer that tells no fault of the files
pub not_failed : {T : Type 0} (result : Result T RunFailure)
    → IfErr result (λ failure. is_trace_fault failure ≡ false)
    → has_failed is_trace_fault result ≡ false
not_failed (Ok value) never = refl
not_failed (Err failure) never = never

-- the bytes that are left of a file that was read on are told where they were
pub record IsTold (new : Option (List ℕ)) : Type 0 where
  pub left : List ℕ
  pub told : new ≡ Some left

still_told : (new old : Option (List ℕ)) (bytes read : List ℕ) → old ≡ Some bytes
    → old ≡ followed_by read new → IsTold new
still_told None old bytes read is was = let never : Some bytes ≡ None = sym is ∙ was in
    absurd (cc never)
still_told (Some left) old bytes read is was = record { left = left; told = refl }

pub told_left : (old new : Option (List ℕ)) (bytes : List ℕ) → old ≡ Some bytes → ReadSome old new
    → IsTold new
told_left old new bytes is read = still_told new old bytes read.bytes is read.left
