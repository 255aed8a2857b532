-- The line that a `Line` stands for.
use Rattle.gtm_data.specs.Tree.{tree_of}
use Rattle.run_log.specs.Lines.{LogLine, message, command, event, model, finish}
use Rattle.run_log.specs.declared.line.Line.{Line}
use Rattle.run_log.specs.declared.line.Line.TheVariants.{Message, Command, Event, Model, End}

-- the line of the log that a value of the program is
abbrev pub line_of : Line → LogLine
line_of (Message value ignored) = message (tree_of value) ignored
line_of (Command value ignored) = command (tree_of value) ignored
line_of (Event number name) = event number name
line_of (Model value) = model (tree_of value)
line_of (End steps jobs events starts ok fail denied faults) =
    finish (record {
      steps =
          steps;
      jobs =
          jobs;
      events =
          events;
      starts = starts;
      ok = ok;
      fail = fail;
      denied = denied;
      faults = faults;
    })
