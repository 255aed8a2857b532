use Rattle.std.proofs.Common.{subst, sym}
use Rattle.std.specs.Str.{chars}
use Rattle.gtm_cli.specs.Replays.{Replays}
use Rattle.gtm_cli.proofs.HandedNames.{ends_with}
use Rattle.gtm_cli.proofs.NotLoaded.{not_loaded}
use Rattle.gtm_cli.proofs.WasRun.{was_run}
use Rattle.gtm_cli.proofs.command.run_files.Goals as goal

pub returns-in-Err-clause-run : goal.returns-in-Err-clause-run
returns-in-Err-clause-run g c =
    subst
    (λ s. Replays (record { export = chars c.args.export.now; trace = chars c.args.trace.now }) s
    (g.F.Files.state c.args.files.now) (g.F.Files.state c.load.new.files)
    (g.S.Sink.state c.args.out.now) (g.S.Sink.state c.args.out.now)
    (g.E.Engines.state c.args.engines.now))
    (sym c.status.ensures)
    (not_loaded (record { export = chars c.args.export.now; trace = chars c.args.trace.now })
    (g.F.Files.state c.args.files.now) (g.F.Files.state c.load.new.files)
    (g.S.Sink.state c.args.out.now) (g.E.Engines.state c.args.engines.now) c.requires.files
    c.in-Err.failure c.in-Err.ensures.files
    (λ bytes holds open_now. c.in-Err.ensures.within bytes holds open_now)
    (λ e holds. c.in-Err.ensures.answer e holds))

pub returns-in-Ok-clause-run : goal.returns-in-Ok-clause-run
returns-in-Ok-clause-run g c =
    subst
    (λ s. Replays (record { export = chars c.args.export.now; trace = chars c.args.trace.now }) s
    (g.F.Files.state c.args.files.now) (g.F.Files.state c.run_trace-ending.new.files)
    (g.S.Sink.state c.args.out.now)
    (g.S.Sink.state c.run_trace-ending.new.out)
    (g.E.Engines.state c.run_trace-ending.new.engines))
    (sym c.status_of_run.ensures)
    (was_run (record { export = chars c.args.export.now; trace = chars c.args.trace.now })
    (g.F.Files.state c.args.files.now) (g.F.Files.state c.load.new.files)
    (g.F.Files.state c.run_trace-ending.new.files)
    (g.S.Sink.state c.args.out.now) (g.S.Sink.state c.run_trace-ending.new.out)
    (g.E.Engines.state c.args.engines.now) (g.E.Engines.state c.run_trace-ending.new.engines)
    c.requires.files c.requires.out c.requires.engines c.in-Ok.loaded c.in-Ok.ensures.files
    (λ e holds. c.in-Ok.ensures.answer e holds) c.run_trace-ending.result
    c.run_trace-ending.ensures.files c.run_trace-ending.ensures.out
    c.run_trace-ending.ensures.engines c.run_trace-ending.ensures.runs)

pub returns-in-Ok-clause-last : goal.returns-in-Ok-clause-last
returns-in-Ok-clause-last g c = ends_with _ _ _ c.run_trace-ending.ensures.files.names
