use Rattle.std.proofs.Common.{sym, true≢false}
use Rattle.gtm_data.proofs.JsonRead.{tree_read, no_tree}
use Rattle.gtm_data.proofs.json_texts.json_of.Goals as goal

pub returns-in-Ok : goal.returns-in-Ok
returns-in-Ok c = tree_read c.args.bytes.now _ c.in-Ok.ensures.ok.0 c.in-Ok.ensures.ok.1

pub returns-else-is_memory : goal.returns-else-is_memory
returns-else-is_memory c =
    no_tree c.args.bytes.now
    (c.in-Err.ensures.err (λ memory. true≢false (sym (c.if-is_memory.ensures.1 memory))))
