use Rattle.std.proofs.Common.{◌∙◌, sym, length, zero-add}
use Rattle.perm_model.specs.Allowed.{is_allowed}
use Rattle.perm_match.proofs.Grants.{first_failed, none_fails, all_pass}
use Rattle.perm_match.proofs.laws.the_first_denied_is_the_least.Goals as goal

pub returns-clause-none : goal.returns-clause-none
returns-clause-none c = λ policy needs.
    (none_fails (is_allowed policy) 0 needs, all_pass (is_allowed policy) 0 needs)

pub returns-clause-first : goal.returns-clause-first
returns-clause-first c = λ policy needs at found.
    let first = first_failed (is_allowed policy) 0 needs at found in
    record {
      before = first.before;
      denied = first.failed;
      behind = first.behind;
      split = first.split;
      place = sym (zero-add (length first.before)) ∙ first.place;
      allowed = first.passes;
      is = first.fails;
    }
