-- Which texts engines refuse, of those that they may be asked.
use Rattle.std.proofs.Common.{◌≡◌, ℕ, List, ◌++◌, sym, subst}
use Rattle.std.specs.Prelude.{Result, Err, IfErr}
use Rattle.std.proofs.lemmas.List.Elements.{Contains-append_left, Contains-append_right}
use Rattle.replay_engine.specs.RunFault.{RefusesOnly}
use Rattle.replay_engine.specs.declared.run_end.RunEnd.{RunEnd}
use Rattle.replay_engine.specs.declared.run_end.RunEnd.TheVariants.{OutOfMemory, JobLimit}
use Rattle.replay_engine.specs.declared.run_end.RunEnd.TheVariants.{EngineRefused, SinkFault}

more_behind : (xs ys : List (List ℕ)) (end : RunEnd) → RefusesOnly xs end
    → RefusesOnly (xs ++ ys) end
more_behind xs ys OutOfMemory only = only
more_behind xs ys (EngineRefused text) only = Contains-append_left xs ys text only
more_behind xs ys (JobLimit step) only = only
more_behind xs ys SinkFault only = only

more_before : (xs ys : List (List ℕ)) (end : RunEnd) → RefusesOnly ys end
    → RefusesOnly (xs ++ ys) end
more_before xs ys OutOfMemory only = only
more_before xs ys (EngineRefused text) only = Contains-append_right xs ys text only
more_before xs ys (JobLimit step) only = only
more_before xs ys SinkFault only = only

module _ {T : Type 0} (result : Result T RunEnd) (end : RunEnd) (is : result ≡ Err end) where
  -- an error that is handed on refuses the same text
  pub refuses_only : (xs : List (List ℕ)) → RefusesOnly xs end → IfErr result (RefusesOnly xs)
  refuses_only xs only = subst (λ r. IfErr r (RefusesOnly xs)) (sym is) only

  -- one of the first texts
  pub refuses_first : (xs ys : List (List ℕ)) → RefusesOnly xs end
      → IfErr result (RefusesOnly (xs ++ ys))
  refuses_first xs ys only = refuses_only (xs ++ ys) (more_behind xs ys end only)

  -- one of the last texts
  pub refuses_last : (xs ys : List (List ℕ)) → RefusesOnly ys end
      → IfErr result (RefusesOnly (xs ++ ys))
  refuses_last xs ys only = refuses_only (xs ++ ys) (more_before xs ys end only)
