use Rattle.serde_json.specs.View.{view}
use Rattle.export_reader.specs.FirstBroken.{tree_rules}
use Rattle.export_reader.specs.Rules.{other_format, version_in}
use Rattle.gtm_data.specs.Plain.{not_whole, too_deep}
use Rattle.export_reader.proofs.Firsts.{lacks_version}
use Rattle.export_reader.proofs.versions.judge_tree.Goals as goal

pub returns-in_ok-path-in-None-clause-judged : goal.returns-in_ok-path-in-None-clause-judged
unfolding tree_rules
returns-in_ok-path-in-None-clause-judged c =
    let d = view c.args.tree.now in
    lacks_version (not_whole d) (too_deep d) (other_format d) (version_in d) _
    c.in_ok-path-in-None.path c.in-Ok.ensures.ok.0 c.in-Ok.ensures.ok.1
    c.if-not-is_format_two.ensures c.in-None.ensures c.in_ok-path-in-None.ensures
