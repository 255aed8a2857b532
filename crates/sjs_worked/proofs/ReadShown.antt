-- The worked scripts that are read, by the machine.
use Rattle.std.proofs.Common.{◌≡◌, Some, refl, sym, ◌∙◌, ap, subst}
use Rattle.sjs_syntax.specs.Tree.{StmtTrees}
use Rattle.sjs_grammar.specs.Grammar.{Reads}
use Rattle.sjs_grammar.specs.Tokens.{Toks}
use Rattle.sjs_table.specs.Built.{built, script_of}
use Rattle.sjs_table.specs.Notes.{stmts}
use Rattle.sjs_table.specs.Runs.{run, start, opened}
use Rattle.sjs_table.proofs.Builds.{builds}
use Rattle.sjs_sound.proofs.Sound.{reads}
use Rattle.sjs_worked.specs.Worked as worked
use Rattle.sjs_worked.specs.Worked.{AreRead, ◌&◌, none_read}

-- what the machine takes is read as the script whose notes it puts out
by_run : (ts : Toks) (p : StmtTrees) → run ts start opened ≡ Some (stmts p opened) → Reads ts p
by_run ts p h =
    let r = reads ts (stmts p opened) h in
    let same : r.0 ≡ p =
    sym (ap script_of (builds r.0))
    ∙ ap (λ o. script_of (built o)) (sym r.2)
    ∙ ap script_of (builds p) in
    subst (Reads ts) same r.1

pub are_read : AreRead worked.worked
are_read =
    by_run worked.a_sum.0 worked.a_sum.1 refl
    & by_run worked.signs_bind.0 worked.signs_bind.1 refl
    & by_run worked.from_the_left.0 worked.from_the_left.1 refl
    & by_run worked.two_lines.0 worked.two_lines.1 refl
    & by_run worked.goes_on.0 worked.goes_on.1 refl
    & by_run worked.steps.0 worked.steps.1 refl
    & by_run worked.behind.0 worked.behind.1 refl
    & by_run worked.before.0 worked.before.1 refl
    & by_run worked.minus.0 worked.minus.1 refl
    & by_run worked.typeof_.0 worked.typeof_.1 refl
    & by_run worked.choice.0 worked.choice.1 refl
    & by_run worked.arrow.0 worked.arrow.1 refl
    & by_run worked.arrow_two.0 worked.arrow_two.1 refl
    & by_run worked.arrow_none.0 worked.arrow_none.1 refl
    & by_run worked.in_round.0 worked.in_round.1 refl
    & by_run worked.call_it.0 worked.call_it.1 refl
    & by_run worked.keys.0 worked.keys.1 refl
    & by_run worked.unnamed.0 worked.unnamed.1 refl
    & by_run worked.named_one.0 worked.named_one.1 refl
    & by_run worked.a_function.0 worked.a_function.1 refl
    & by_run worked.constant.0 worked.constant.1 refl
    & by_run worked.variables.0 worked.variables.1 refl
    & by_run worked.else_near.0 worked.else_near.1 refl
    & by_run worked.a_loop.0 worked.a_loop.1 refl
    & by_run worked.do_it.0 worked.do_it.1 refl
    & by_run worked.for_all.0 worked.for_all.1 refl
    & by_run worked.for_some.0 worked.for_some.1 refl
    & by_run worked.for_value.0 worked.for_value.1 refl
    & by_run worked.for_keys.0 worked.for_keys.1 refl
    & by_run worked.a_return.0 worked.a_return.1 refl
    & by_run worked.nothing.0 worked.nothing.1 refl
    & by_run worked.block.0 worked.block.1 refl
    & none_read
