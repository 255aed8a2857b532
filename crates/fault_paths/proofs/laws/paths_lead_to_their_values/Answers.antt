use Rattle.std.proofs.Common.{◌≡◌, Some, encode_utf8_all}
use Rattle.std.proofs.lemmas.List.Elements.{All-weaker}
use Rattle.fault_paths.proofs.Leading.{Leads, all_lead}
use Rattle.fault_paths.proofs.laws.paths_lead_to_their_values.Goals as goal
use Rattle.gtm_data.specs.Plain.{nodes}
use Rattle.serde_json.specs.Find.{pointer}

pub returns : goal.returns
returns c d keyed =
    All-weaker (Leads d) (λ node. pointer (encode_utf8_all node.path) d ≡ Some node.value)
    (λ node leads. leads.found) (nodes d) (all_lead d keyed)
