-- The steps of a run, one after the other.
use Rattle.std.proofs.Common.{◌≡◌, ◌∙◌, ap, sym, refl, ℕ, List, [], ◌∷◌, ◌++◌, Bool, true, false}
use Rattle.std.proofs.Common.{Some, None, if◌then◌else◌, append_assoc, append-nil}
use Rattle.std.specs.List.{flat_map}
use Rattle.replay_engine.specs.Jobs.{State, Ran}
use Rattle.replay_engine.specs.Run.{Run, step_run, then_steps, run_from, lines_text, step_texts}
use Rattle.replay_engine.proofs.LogLines.{lines_text-append}
use Rattle.run_log.specs.Lines.{LogLine}
use Rattle.trace_forms.specs.Steps.{Step}

-- a run that goes on behind another one
abbrev pub run_behind : Run → List Step → Run
run_behind before rest =
    record (run_from before.state rest) {
      lines =
          before.lines ++ (run_from before.state rest).lines;
    }

-- the same run with these lines before
abbrev behind_lines : List LogLine → Run → Run
behind_lines lines run = record run { lines = lines ++ run.lines }

-- a run whose first step was not over the limit
then_rest : (rest : State → Run) (ran : Ran) → ran.over ≡ false
    → then_steps rest ran ≡ record (rest ran.state) { lines = ran.lines ++ (rest ran.state).lines }
then_rest rest ran is =
    ap (λ over. if over
    then record { state = ran.state; lines = ran.lines; limit = Some ran.state.steps }
    else record (rest ran.state) { lines = ran.lines ++ (rest ran.state).lines }) is

-- a run whose first step was
then_over : (rest : State → Run) (ran : Ran) → ran.over ≡ true
    → then_steps rest ran
    ≡ record { state = ran.state; lines = ran.lines; limit = Some ran.state.steps }
then_over rest ran is =
    ap (λ over. if over
    then record { state = ran.state; lines = ran.lines; limit = Some ran.state.steps }
    else record (rest ran.state) { lines = ran.lines ++ (rest ran.state).lines }) is

pub run_then : (state : State) (step : Step) (steps : List Step)
    → (step_run state step).over ≡ false
    → run_from state (step ∷ steps)
    ≡ record (run_from (step_run state step).state steps) {
      lines =
          (step_run state step).lines ++ (run_from (step_run state step).state steps).lines;
    }
unfolding run_from
run_then state step steps within =
    then_rest (λ after. run_from after steps) (step_run state step) within

pub run_over : (state : State) (step : Step) (steps : List Step) → (step_run state step).over ≡ true
    → run_from state (step ∷ steps)
    ≡ record {
      state =
          (step_run state step).state;
      lines =
          (step_run state step).lines;
      limit = Some (step_run state step).state.steps;
    }
unfolding run_from
run_over state step steps over =
    then_over (λ after. run_from after steps) (step_run state step) over

pub run_none : (state : State)
    → run_from state [] ≡ record { state = state; lines = []; limit = None }
unfolding run_from
run_none state = refl

none_before : (state : State) (rest : List Step)
    → run_from state rest ≡ run_behind (run_from state []) rest
unfolding run_from
none_before state rest = refl

goes_on_at : (over : Bool) (state : State) (step : Step) (first rest : List Step)
    → (step_run state step).over ≡ over → (run_from state (step ∷ first)).limit ≡ None
    → ((run_from (step_run state step).state first).limit ≡ None
    → run_from (step_run state step).state (first ++ rest)
    ≡ run_behind (run_from (step_run state step).state first) rest)
    → run_from state (step ∷ (first ++ rest)) ≡ run_behind (run_from state (step ∷ first)) rest
goes_on_at true state step first rest is none later =
    let ended : Some (step_run state step).state.steps ≡ None =
    sym (ap (λ run. run.limit) (run_over state step first is)) ∙ none in
    absurd (cc ended)
goes_on_at false state step first rest is none later =
    let head = run_then state step first is in
    let goes = later (sym (ap (λ run. run.limit) head) ∙ none) in
    run_then state step (first ++ rest) is
    ∙ ap (behind_lines (step_run state step).lines) goes
    ∙ (λ i. record (run_from (run_from (step_run state step).state first).state rest) {
      lines =
          sym (append_assoc (step_run state step).lines
          (run_from (step_run state step).state first).lines
          (run_from (run_from (step_run state step).state first).state rest).lines) i;
    })
    ∙ sym (ap (λ before. run_behind before rest) head)

-- a run goes on from where its first steps end
pub goes_on : (state : State) (first rest : List Step) → (run_from state first).limit ≡ None
    → run_from state (first ++ rest) ≡ run_behind (run_from state first) rest
goes_on state [] rest none = none_before state rest
goes_on state (step ∷ first) rest none =
    goes_on_at (step_run state step).over state step first rest refl none
    (goes_on (step_run state step).state first rest)

stays_ended_at : (over : Bool) (state : State) (step : Step) (first rest : List Step) (number : ℕ)
    → (step_run state step).over ≡ over → (run_from state (step ∷ first)).limit ≡ Some number
    → ((run_from (step_run state step).state first).limit ≡ Some number
    → run_from (step_run state step).state (first ++ rest)
    ≡ run_from (step_run state step).state first)
    → run_from state (step ∷ (first ++ rest)) ≡ run_from state (step ∷ first)
stays_ended_at true state step first rest number is limit later =
    run_over state step (first ++ rest) is ∙ sym (run_over state step first is)
stays_ended_at false state step first rest number is limit later =
    let head = run_then state step first is in
    let same = later (sym (ap (λ run. run.limit) head) ∙ limit) in
    run_then state step (first ++ rest) is ∙ ap (behind_lines (step_run state step).lines) same
    ∙ sym head

-- a run that ended at the limit takes no further step
pub stays_ended : (state : State) (first rest : List Step) (number : ℕ)
    → (run_from state first).limit ≡ Some number
    → run_from state (first ++ rest) ≡ run_from state first
stays_ended state [] rest number limit =
    let never : None ≡ Some number = sym (ap (λ run. run.limit) (run_none state)) ∙ limit in
    absurd (cc never)
stays_ended state (step ∷ first) rest number limit =
    stays_ended_at (step_run state step).over state step first rest number refl limit
    (stays_ended (step_run state step).state first rest number)

-- one step more, which is not over the limit
pub one_more : (state : State) (first : List Step) (step : Step)
    → (run_from state first).limit ≡ None
    → (step_run (run_from state first).state step).over ≡ false
    → run_from state (first ++ step ∷ [])
    ≡ record {
      state =
          (step_run (run_from state first).state step).state;
      lines =
          (run_from state first).lines ++ (step_run (run_from state first).state step).lines;
      limit =
          None;
    }
one_more state first step none within =
    goes_on state first (step ∷ []) none
    ∙ ap (behind_lines (run_from state first).lines)
    (run_then (run_from state first).state step [] within)
    ∙ ap (λ (run : Run). behind_lines (run_from state first).lines
    (behind_lines (step_run (run_from state first).state step).lines run)) (run_none
    (step_run (run_from state first).state step).state)
    ∙ (λ i. record {
      state = (step_run (run_from state first).state step).state;
      lines =
          (run_from state first).lines
          ++ append-nil (step_run (run_from state first).state step).lines i;
      limit = None;
    })

-- one step more, which is
pub one_over : (state : State) (first : List Step) (step : Step)
    → (run_from state first).limit ≡ None → (step_run (run_from state first).state step).over ≡ true
    → run_from state (first ++ step ∷ [])
    ≡ record {
      state =
          (step_run (run_from state first).state step).state;
      lines =
          (run_from state first).lines ++ (step_run (run_from state first).state step).lines;
      limit =
          Some (step_run (run_from state first).state step).state.steps;
    }
one_over state first step none over =
    goes_on state first (step ∷ []) none
    ∙ ap (behind_lines (run_from state first).lines)
    (run_over (run_from state first).state step [] over)

texts_at : (over : Bool) (state : State) (step : Step) (steps : List Step)
    → (step_run state step).over ≡ over → (run_from state (step ∷ steps)).limit ≡ None
    → ((run_from (step_run state step).state steps).limit ≡ None
    → lines_text (run_from (step_run state step).state steps).lines
    ≡ flat_map (λ text. text) (step_texts (step_run state step).state steps))
    → lines_text (run_from state (step ∷ steps)).lines
    ≡ flat_map (λ text. text) (step_texts state (step ∷ steps))
texts_at true state step steps is none later =
    let ended : Some (step_run state step).state.steps ≡ None =
    sym (ap (λ run. run.limit) (run_over state step steps is)) ∙ none in
    absurd (cc ended)
texts_at false state step steps is none later =
    let head = run_then state step steps is in
    let rest = later (sym (ap (λ run. run.limit) head) ∙ none) in
    ap (λ run. lines_text run.lines) head
    ∙ lines_text-append (step_run state step).lines
    (run_from (step_run state step).state steps).lines
    ∙ ap (λ text. lines_text (step_run state step).lines ++ text) rest

-- the text of a run is that of its steps, in their order
pub texts : (state : State) (steps : List Step) → (run_from state steps).limit ≡ None
    → lines_text (run_from state steps).lines ≡ flat_map (λ text. text) (step_texts state steps)
texts state [] none = ap (λ run. lines_text run.lines) (run_none state)
texts state (step ∷ steps) none =
    texts_at (step_run state step).over state step steps refl none
    (texts (step_run state step).state steps)
