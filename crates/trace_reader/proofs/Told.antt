-- What one turn of reading tells of the trace that is left, and of the steps that were handed out.
use Rattle.std.proofs.Common.{◌≡◌, ◌+◌, ℕ, List, [], ◌∷◌, ◌++◌, length, Bool, true, false, sym, ap}
use Rattle.std.proofs.Common.{◌∙◌, subst, refl, append_assoc, append-nil, length-append, arith}
use Rattle.std.specs.Prelude.{Option, Some, None, Result, Ok, Err, IfSome, option_map}
use Rattle.std.specs.Prelude.{if◌then◌else◌}
use Rattle.std.specs.List.{flat_map}
use Rattle.std.specs.Option.{ForSome}
use Rattle.gtm_base.specs.Outside.{ReadSome, followed_by}
use Rattle.trace_forms.specs.Lines.{line_of}
use Rattle.trace_forms.specs.Steps.{Step, Reading, blank, step, bad}
use Rattle.trace_forms.specs.Views.{step_of}
use Rattle.trace_forms.specs.declared.steps.TraceStep.{TraceStep}
use Rattle.trace_lines.specs.Lines.{TraceLine, bytes_of_line, lines, size_of}
use Rattle.trace_lines.specs.Reading.{HasTooLong, rest_of}
use Rattle.trace_lines.specs.Standing as lines_at
use Rattle.trace_lines.specs.declared.lines.LineEnd.{LineEnd}
use Rattle.trace_lines.specs.declared.lines.LineEnd.TheVariants as line_ends
use Rattle.trace_reader.specs.Progress.{Progress, LinesAnswer, Tells, Judged, Moves, is_fault}
use Rattle.trace_reader.specs.Progress.{trace_left}
use Rattle.trace_reader.specs.Standing.{Leads, StandsAt}
use Rattle.trace_reader.specs.Trace.{Trace, built_reading, read_line, steps_alone, steps_until}
use Rattle.trace_reader.specs.Trace.{trace_behind, trace_from, trace_of, trace_of_lines, with_first}
use Rattle.trace_reader.specs.declared.reader.TraceEnd.{TraceEnd}
use Rattle.trace_reader.specs.declared.reader.TraceEnd.TheVariants.{OutOfMemory, ReadFault, Refused}
use Rattle.trace_reader.proofs.Turns.{bad_first, behind, blank_first, long_says, short_says}
use Rattle.trace_reader.proofs.Turns.{step_first, trace_behind-append}

-- no step was handed out since the call, and no line was bad
pub record IsReading (first now : Progress) (left_first left : Option (List ℕ)) : Type 0 where
  pub same : trace_left now left ≡ trace_left first left_first
  pub stands : (bytes : List ℕ) (done : List Step) → ForSome left_first (StandsAt bytes done first)
      → ForSome left (StandsAt bytes done now)

-- what a call answers, and where it leaves a reading
pub record Answer (result : Result (Option TraceStep) TraceEnd) (first new : Progress)
    (left_first left : Option (List ℕ)) : Type 0 where
  pub told : Tells result (trace_left first left_first) (trace_left new left)
  pub stands : (bytes : List ℕ) (done : List Step) → ForSome left_first (StandsAt bytes done first)
      → ForSome left (Leads result bytes done new)

-- where the lines leave the reading of these bytes
record Turn (answer : Result Bool LineEnd) (old new : Progress) (bytes : List ℕ) (done : List Step)
    (left : List ℕ) : Type 0 where
  pub handed : List TraceLine
  pub leads : lines_at.Leads answer bytes handed new.position left
  pub before : old.position.before ≡ length (flat_map bytes_of_line handed)
  pub counted : old.lines ≡ length handed
  pub steps : trace_of_lines handed ≡ steps_alone done
  pub going : old.ended ≡ None

same_left : (left : Option (List ℕ)) (one other : List ℕ) → left ≡ Some one → left ≡ Some other
    → one ≡ other
same_left left one other is at = let both : Some one ≡ Some other = sym is ∙ at in cc

turn_at : (answer : Result Bool LineEnd) (old new : Progress) (left later : Option (List ℕ))
    (all rest bytes : List ℕ) (done : List Step) → LinesAnswer answer old new left later
    → left ≡ Some all → later ≡ Some rest
    → StandsAt bytes done old all → Turn answer old new bytes done rest
turn_at answer old new left later all rest bytes done lines_told told is here = record {
  handed = here.handed;
  leads =
      lines_told.stands bytes here.handed
      (λ other at.
      subst (lines_at.StandsAt bytes here.handed old.position) (same_left left all other told at)
      here.stands) rest is;
  before = here.stands.before;
  counted = here.counted;
  steps = here.steps;
  going = here.going;
}

module _ (first old new : Progress) (left_first left later : Option (List ℕ))
    (reading : IsReading first old left_first left) (read : ReadSome left later) where
  turn : (answer : Result Bool LineEnd) → LinesAnswer answer old new left later
      → (bytes : List ℕ) (done : List Step) → ForSome left_first (StandsAt bytes done first)
      → ForSome later (Turn answer old new bytes done)
  turn answer lines_told bytes done here rest is =
      let told : left ≡ Some (read.bytes ++ rest) = read.left ∙ ap (followed_by read.bytes) is in
      turn_at answer old new left later (read.bytes ++ rest) rest bytes done lines_told told is
      (reading.stands bytes done here (read.bytes ++ rest) told)

  -- the same trace is left, where no line was handed out
  pub still : rest_of new.position later ≡ rest_of old.position left
      → new.position.before ≡ old.position.before → new.lines ≡ old.lines
      → trace_left new later ≡ trace_left first left_first
  still rest before count =
      (λ i. option_map (trace_from (count i) (before i)) (rest i)) ∙ reading.same

  -- a read failed
  pub faulted : LinesAnswer (Err line_ends.ReadFault) old new left later → new.lines ≡ old.lines
      → Answer (Err ReadFault) first new left_first later
  faulted lines_told count = record {
    told = still lines_told.told.stays.same lines_told.told.stays.before count;
    stands = λ bytes done here rest is.
        let at = turn (Err line_ends.ReadFault) lines_told bytes done here rest is in
        record {
          stands =
              λ some whole. ap trace_of_lines (at.leads.stands.all some whole) ∙ at.steps;
          in_time =
              at.leads.in_time;
        };
  }

  -- memory was wanting
  pub wanted : (answer : Result Bool LineEnd) → LinesAnswer answer old new left later
      → Answer (Err OutOfMemory) first new left_first later
  wanted answer lines_told = record {
    told = tt;
    stands =
        λ bytes done here rest is.
        record {
          stands =
              tt;
          in_time = (turn answer lines_told bytes done here rest is).leads.in_time;
        };
  }

  nothing_is : (count before : ℕ) (bytes : List ℕ) → bytes ≡ []
      → trace_from count before bytes ≡ steps_alone []
  unfolding trace_from lines
  nothing_is count before bytes none = ap (trace_from count before) none ∙ refl

  none_in : (rest : Option (List ℕ)) → IfSome rest (λ bytes. bytes ≡ [])
      → IfSome (option_map (trace_from old.lines old.position.before) rest)
      (λ trace. trace ≡ steps_alone [])
  none_in None none = tt
  none_in (Some bytes) none = nothing_is old.lines old.position.before bytes none

  -- no line is left
  pub ended : LinesAnswer (Ok false) old new left later → new.lines ≡ old.lines
      → new.ended ≡ old.ended → Answer (Ok None) first new left_first later
  ended lines_told count end = record {
    told = (
      still lines_told.told.stays.same lines_told.told.stays.before count,
      subst (λ t. IfSome t (λ trace. trace ≡ steps_alone [])) reading.same
          (none_in (rest_of old.position left) lines_told.told.none),
    );
    stands = λ bytes done here rest is.
        let at = turn (Ok false) lines_told bytes done here rest is in
        record {
          stands = record {
            stands =
                record {
                  handed =
                      at.handed;
                  stands =
                      at.leads.stands.stands;
                  counted =
                      count ∙ at.counted;
                  steps = at.steps;
                  going = end ∙ at.going;
                };
            all = ap trace_of_lines at.leads.stands.all ∙ at.steps;
          };
          in_time = at.leads.in_time;
        };
  }

  bad_behind : (bytes : List ℕ) (done : List Step) (handed others : List TraceLine)
      (line : TraceLine) (before rule : ℕ) → lines bytes ≡ handed ++ line ∷ others
      → trace_of_lines handed ≡ steps_alone done
      → before ≡ length (flat_map bytes_of_line handed) → read_line before line ≡ bad rule
      → trace_of bytes ≡ steps_until done (length handed + 1) rule
  bad_behind bytes done handed others line before rule lines_are steps at says =
      let same : before ≡ 0 + length (flat_map bytes_of_line handed) = omega arith in
      let number : 0 + length handed + 1 ≡ length handed + 1 = omega arith in
      ap trace_of_lines lines_are
      ∙ trace_behind-append handed (line ∷ others) 0 0 done steps
      ∙ ap (behind done)
      (bad_first (0 + length handed) (0 + length (flat_map bytes_of_line handed)) line others
      rule (subst (λ n. read_line n line ≡ bad rule) same says))
      ∙ (λ i. steps_until (append-nil done i) (number i) rule)

  bad_in : (count before rule : ℕ) (rest : Option (List ℕ))
      → IfSome rest (λ bytes. trace_from count before bytes ≡ steps_until [] (count + 1) rule)
      → IfSome (option_map (trace_from count before) rest)
      (λ trace. trace ≡ steps_until [] (count + 1) rule)
  bad_in count before rule None told = tt
  bad_in count before rule (Some bytes) told = told

  long_is : (count before : ℕ) (bytes : List ℕ) → HasTooLong before bytes
      → trace_from count before bytes ≡ steps_until [] (count + 1) 1
  unfolding trace_from
  long_is count before bytes long =
      ap (trace_behind count before) long.first
      ∙ bad_first count before long.line long.others 1 (long_says before long.line long.is)

  long_in : (rest : Option (List ℕ)) → IfSome rest (HasTooLong old.position.before)
      → IfSome rest
      (λ bytes. trace_from old.lines old.position.before bytes ≡ steps_until [] (old.lines + 1) 1)
  long_in None long = tt
  long_in (Some bytes) long = long_is old.lines old.position.before bytes long

  -- the next line is too long
  pub stopped : (line rule : ℕ) → LinesAnswer (Err line_ends.TooLong) old new left later
      → line ≡ old.lines + 1 → rule ≡ 1
      → Answer (Err (Refused line rule)) first new left_first later
  stopped line rule lines_told at_line at_rule =
      subst (λ r. Answer (Err (Refused line r)) first new left_first later) (sym at_rule)
      (subst (λ l. Answer (Err (Refused l 1)) first new left_first later) (sym at_line)
      (record {
        told =
            subst (λ t. IfSome t (λ trace. trace ≡ steps_until [] (old.lines + 1) 1)) reading.same
            (bad_in old.lines old.position.before 1 (rest_of old.position left)
            (long_in (rest_of old.position left) lines_told.told.found));
        stands = λ bytes done here rest is.
            let at = turn (Err line_ends.TooLong) lines_told bytes done here rest is in
            let long = at.leads.stands.next in
            let now = at.leads.stands.stands in
            record {
              stands =
                  bad_behind bytes done at.handed long.others long.line new.position.before 1
                  (now.lines_are ∙ ap (λ ls. at.handed ++ ls) long.first) at.steps now.before
                  (long_says new.position.before long.line long.is)
                  ∙ ap (λ n. steps_until done (n + 1) 1) (sym at.counted);
              in_time = at.leads.in_time;
            };
      }))

  module _ (lines_told : LinesAnswer (Ok true) old new left later)
      (count : new.lines ≡ old.lines + 1) where
    abbrev read_now : TraceLine
    read_now = new.position.line

    abbrev said : Reading
    said = built_reading (line_of read_now.text)

    says : (r : Reading) → said ≡ r → read_line old.position.before read_now ≡ r
    says r is = short_says old.position.before read_now lines_told.told.fits ∙ is

    by_lines : (rest : Option (List ℕ))
        → option_map (trace_from old.lines old.position.before) rest
        ≡ option_map (trace_behind old.lines old.position.before) (option_map lines rest)
    unfolding trace_from
    by_lines None = refl
    by_lines (Some bytes) = refl

    each : (f : Trace → Trace)
        → ((ls : List TraceLine)
        → trace_behind old.lines old.position.before (read_now ∷ ls)
        ≡ f (trace_behind (old.lines + 1) (old.position.before + size_of read_now) ls))
        → (rest : Option (List ℕ))
        → option_map (trace_behind old.lines old.position.before)
        (option_map (λ bytes. read_now ∷ lines bytes) rest)
        ≡ option_map f (option_map (trace_from new.lines new.position.before) rest)
    unfolding trace_from
    each f turns None = refl
    each f turns (Some bytes) =
        ap Some (turns (lines bytes)
        ∙ (λ i. f (trace_behind (sym count i) (sym lines_told.told.before i) (lines bytes))))

    -- what the line makes of the trace that was left
    left_by : (f : Trace → Trace)
        → ((ls : List TraceLine)
        → trace_behind old.lines old.position.before (read_now ∷ ls)
        ≡ f (trace_behind (old.lines + 1) (old.position.before + size_of read_now) ls))
        → trace_left old left ≡ option_map f (trace_left new later)
    left_by f turns =
        by_lines (rest_of old.position left)
        ∙ ap (option_map (trace_behind old.lines old.position.before)) lines_told.told.lines_are
        ∙ each f turns (rest_of new.position later)

    same_map : (trace : Option Trace) → option_map (λ t. t) trace ≡ trace
    same_map None = refl
    same_map (Some t) = refl

    handed_more : (bytes : List ℕ) (done more : List Step) (rest : List ℕ)
        → Turn (Ok true) old new bytes done rest → new.ended ≡ old.ended
        → ((number before : ℕ) → before ≡ old.position.before
        → trace_behind number before (read_now ∷ [])
        ≡ steps_alone more) → StandsAt bytes (done ++ more) new rest
    handed_more bytes done more rest at end asks =
        let same : 0 + length (flat_map bytes_of_line at.handed) ≡ old.position.before =
        omega (arith, at.before) in
        let counted = at.counted in
        let long = length-append at.handed (read_now ∷ []) in
        record {
          handed = at.handed ++ read_now ∷ [];
          stands = at.leads.stands;
          counted = omega arith;
          steps =
              trace_behind-append at.handed (read_now ∷ []) 0 0 done at.steps
              ∙ ap (behind done)
              (asks (0 + length at.handed) (0 + length (flat_map bytes_of_line at.handed)) same);
          going = end ∙ at.going;
        }

    -- a blank line was read
    pub passed : said ≡ blank → new.ended ≡ old.ended → IsReading first new left_first later
    passed is end = record {
      same =
          sym (left_by (λ t. t)
          (λ ls. blank_first old.lines old.position.before read_now ls (says blank is))
          ∙ same_map (trace_left new later)) ∙ reading.same;
      stands = λ bytes done here rest at_rest.
          let at = turn (Ok true) lines_told bytes done here rest at_rest in
          subst (λ steps. StandsAt bytes steps new rest) (append-nil done)
          (handed_more bytes done [] rest at end
          (λ number before same.
          blank_first number before read_now []
          (ap (λ n. read_line n read_now) same ∙ says blank is)));
    }

    -- a step was read
    pub handed : (s : TraceStep) → said ≡ step (step_of s) → new.ended ≡ old.ended
        → Answer (Ok (Some s)) first new left_first later
    handed s is end = record {
      told =
          sym reading.same
          ∙ left_by (with_first (step_of s))
          (λ ls. step_first old.lines old.position.before read_now ls (step_of s)
          (says (step (step_of s)) is));
      stands = λ bytes done here rest at_rest.
          let at = turn (Ok true) lines_told bytes done here rest at_rest in
          record {
            stands = handed_more bytes done (step_of s ∷ []) rest at end
                (λ number before same.
                step_first number before read_now [] (step_of s)
                (ap (λ n. read_line n read_now) same ∙ says (step (step_of s)) is));
            in_time = at.leads.in_time;
          };
    }

    bad_told : (rule : ℕ) → said ≡ bad rule → (rest : Option (List ℕ))
        → IfSome (option_map (trace_behind old.lines old.position.before)
        (option_map (λ bytes. read_now ∷ lines bytes) rest)) (λ trace.
        trace ≡ steps_until [] (old.lines + 1) rule)
    bad_told rule is None = tt
    bad_told rule is (Some bytes) =
        bad_first old.lines old.position.before read_now (lines bytes) rule (says (bad rule) is)

    refused_here : (rule : ℕ) → said ≡ bad rule
        → Answer (Err (Refused (old.lines + 1) rule)) first new left_first later
    refused_here rule is = record {
      told = subst (λ t. IfSome t (λ trace. trace ≡ steps_until [] (old.lines + 1) rule))
          (ap (option_map (trace_behind old.lines old.position.before))
          (sym lines_told.told.lines_are) ∙ sym (by_lines (rest_of old.position left))
          ∙ reading.same)
          (bad_told rule is (rest_of new.position later));
      stands = λ bytes done here rest at_rest.
          let at = turn (Ok true) lines_told bytes done here rest at_rest in
          let now = at.leads.stands in
          record {
            stands =
                bad_behind bytes done at.handed (lines (new.position.held ++ rest)) read_now
                old.position.before rule
                (now.lines_are
                ∙ append_assoc at.handed (read_now ∷ [])
                (lines (new.position.held ++ rest))) at.steps
                at.before (says (bad rule) is)
                ∙ ap (λ n. steps_until done (n + 1) rule) (sym at.counted);
            in_time = at.leads.in_time;
          };
    }

    -- a line was read that is bad, or memory was wanting
    pub refused : (end : TraceEnd) → Judged (Err end) new.lines said
        → Answer (Err end) first new left_first later
    refused OutOfMemory judged = wanted (Ok true) lines_told
    refused ReadFault judged = absurd judged
    refused (Refused line rule) judged =
        subst (λ l. Answer (Err (Refused l rule)) first new left_first later)
        (sym (judged.1 ∙ count)) (refused_here rule judged.0)

  -- no line was read
  pub failed : (end : TraceEnd) → Moves (Err end) old new left later
      → (end ≡ ReadFault → new.lines ≡ old.lines) → Answer (Err end) first new left_first later
  failed OutOfMemory moves kept = wanted (Err line_ends.OutOfMemory) moves
  failed ReadFault moves kept = faulted moves (kept refl)
  failed (Refused line rule) moves kept = stopped line rule moves.0 moves.1 moves.2

-- at the begin of the call
pub reading_first : (progress : Progress) (left : Option (List ℕ))
    → IsReading progress progress left left
reading_first progress left = record { same = refl; stands = λ bytes done here. here }

-- the lines' answer, under other names
pub answers_as : (answer other : Result Bool LineEnd) (old seen new : Progress)
    (left later : Option (List ℕ)) → answer ≡ other → old ≡ seen
    → LinesAnswer answer old new left later → LinesAnswer other seen new left later
answers_as answer other old seen new left later is sees told =
    subst (λ r. LinesAnswer r seen new left later) is
    (subst (λ p. LinesAnswer answer p new left later) sees told)

-- what changed nothing that is seen of the reading
pub answer_kept : {result : Result (Option TraceStep) TraceEnd} {first old new : Progress}
    {left_first left : Option (List ℕ)} → new ≡ old → Answer result first old left_first left
    → Answer result first new left_first left
answer_kept {result} {first} {left_first} {left} kept answer =
    subst (λ p. Answer result first p left_first left) (sym kept) answer

pub reading_kept : {first old new : Progress} {left_first left : Option (List ℕ)} → new ≡ old
    → IsReading first old left_first left → IsReading first new left_first left
reading_kept {first} {left_first} {left} kept reading =
    subst (λ p. IsReading first p left_first left) (sym kept) reading

-- one line more was read, or none
pub one_more : (old new : ℕ) (more : Bool) → more ≡ true → new ≡ (if more then old + 1 else old)
    → new ≡ old + 1
one_more old new true is h = h
one_more old new false is h = absurd cc

pub none_more : (old new : ℕ) (more : Bool) → more ≡ false → new ≡ (if more then old + 1 else old)
    → new ≡ old
none_more old new true is h = absurd cc
none_more old new false is h = h

-- what a line says that asks for nothing, or for a step
pub asks_nothing : (asked : Option TraceStep) (number : ℕ) (said : Reading) → asked ≡ None
    → Judged (Ok asked) number said → said ≡ blank
asks_nothing asked number said is judged = subst (λ a. Judged (Ok a) number said) is judged

pub asks_step : (asked : Option TraceStep) (s : TraceStep) (number : ℕ) (said : Reading)
    → asked ≡ Some s → Judged (Ok asked) number said → said ≡ step (step_of s)
asks_step asked s number said is judged = subst (λ a. Judged (Ok a) number said) is judged

-- no line says that a read failed
pub says_no_fault : (end : TraceEnd) (number : ℕ) (r : Reading) → Judged (Err end) number r
    → is_fault end ≡ false
says_no_fault OutOfMemory number r judged = refl
says_no_fault ReadFault number r judged = absurd judged
says_no_fault (Refused line rule) number r judged = refl

-- after an error it does not matter where the reading stands
leads_after : (end : TraceEnd) (bytes : List ℕ) (done : List Step) (new other : Progress)
    (left : List ℕ) → Leads (Err end) bytes done new left → Leads (Err end) bytes done other left
leads_after OutOfMemory bytes done new other left leads =
    record { stands = tt; in_time = leads.in_time }
leads_after ReadFault bytes done new other left leads =
    record { stands = leads.stands; in_time = leads.in_time }
leads_after (Refused line rule) bytes done new other left leads =
    record { stands = leads.stands; in_time = leads.in_time }

pub leads_as : (result : Result (Option TraceStep) TraceEnd) (end : TraceEnd) (bytes : List ℕ)
    (done : List Step) (new other : Progress) (left : List ℕ) → result ≡ Err end
    → Leads result bytes done new left → Leads result bytes done other left
leads_as result end bytes done new other left is leads =
    subst (λ r. Leads r bytes done other left) (sym is)
    (leads_after end bytes done new other left
    (subst (λ r. Leads r bytes done new left) is leads))

-- at the start the whole trace is left
pub whole_left : (bytes : List ℕ) → trace_from 0 0 bytes ≡ trace_of bytes
unfolding trace_from
whole_left bytes = refl
