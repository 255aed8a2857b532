-- One call after another.
use Rattle.std.proofs.Common.{◌≡◌, ℕ, List, [], ◌∷◌, ◌++◌, Bool, true, false, refl, subst, ap, ◌∙◌}
use Rattle.std.proofs.Common.{append_assoc}
use Rattle.std.specs.List.{AllByRecursion}
use Rattle.page_world.specs.World.{WorldState}
use Rattle.variable_kinds.specs.Moment.{Moment}
use Rattle.gtm_variables.specs.declared.values.Values.{Values}
use Rattle.gtm_variables.specs.Calls.{CallRecord, Templates, with_calls}
use Rattle.gtm_variables.specs.Kept.{AddsCalls, Enters, Holds, IsCallOf, SameMoment}
use Rattle.gtm_variables.specs.Snapshot.{snapshot}
use Rattle.gtm_variables.proofs.KeptValues.{none_added, snapshot_same}

pub still_missing : (old new : Bool) → (old ≡ false → new ≡ false) → new ≡ true → old ≡ true
still_missing true new stays e = refl
still_missing false new stays e = let kept : new ≡ false = stays refl in absurd cc

pub same_chain : (a b c : Values) → SameMoment a b → SameMoment b c → SameMoment a c
same_chain a b c first second = record {
  moment = second.moment ∙ first.moment;
  spent = second.spent ∙ first.spent;
}

join : {A : Type 0} (P : A → Type 0) (xs ys : List A) → AllByRecursion P xs
    → AllByRecursion P ys → AllByRecursion P (xs ++ ys)
join P [] ys first second = second
join P (x ∷ xs) ys first second = (first.0, join P xs ys first.1 second)

with_more : (some more : List CallRecord) (templates : Templates)
    → with_calls more (with_calls some templates) ≡ with_calls (some ++ more) templates
with_more some more templates =
    let e : (templates.calls ++ some) ++ more ≡ templates.calls ++ (some ++ more) =
    append_assoc templates.calls some more in
    ap (λ calls.
    let made : Templates =
    record { outcome = templates.outcome; texts = templates.texts; calls = calls } in made) e

-- entries of one snapshot after entries of the same
pub adds_chain : (m n : Moment) (before mid now : Templates) → n ≡ m
    → AddsCalls (snapshot m before) before mid → AddsCalls (snapshot n mid) mid now
    → AddsCalls (snapshot m before) before now
adds_chain m n before mid now same first second = record {
  more = first.more ++ second.more;
  after = second.after ∙ ap (with_calls second.more) first.after
      ∙ with_more first.more second.more before;
  each = join (IsCallOf (snapshot m before)) first.more second.more first.each
      (subst (λ s. AllByRecursion (IsCallOf s) second.more)
      (ap (λ k. snapshot k mid) same ∙ snapshot_same (snapshot m before) m before mid first)
      second.each);
}

module _ {C : Type 0} (serves : C → WorldState → Type 0) (knows : C → ℕ → Type 0)
    (keeps : C → C → Type 0) (start : (a : C) → keeps a a)
    (chain : (a b c : C) → keeps a b → keeps b c → keeps a c) where
  pub holds_start : (a : C) → Holds serves knows keeps a a
  holds_start a = record {
    serves_on = λ w serves. serves;
    knows_on = λ at knows. knows;
    keeps_on = start a;
  }

  pub holds_chain : (a b c : C) → Holds serves knows keeps a b → Holds serves knows keeps b c
      → Holds serves knows keeps a c
  holds_chain a b c first second = record {
    serves_on = λ w serves. second.serves_on w (first.serves_on w serves);
    knows_on = λ at knows. second.knows_on at (first.knows_on at knows);
    keeps_on = chain a b c first.keeps_on second.keeps_on;
  }

  module _ (meaning : C → Templates) where
    -- a caller that was not entered
    pub enters_none : (m : Moment) (caller : C) → Enters meaning serves knows keeps
        (snapshot m (meaning caller)) caller caller
    enters_none m caller = record {
      calls = none_added (snapshot m (meaning caller)) (meaning caller) (meaning caller) refl;
      holds = holds_start caller;
    }

    -- a caller that was entered again
    pub enters_chain : (m n : Moment) (old mid new : C) → n ≡ m
        → Enters meaning serves knows keeps (snapshot m (meaning old)) old mid
        → Enters meaning serves knows keeps (snapshot n (meaning mid)) mid new
        → Enters meaning serves knows keeps (snapshot m (meaning old)) old new
    enters_chain m n old mid new same first second = record {
      calls = adds_chain m n (meaning old) (meaning mid) (meaning new) same first.calls
          second.calls;
      holds = holds_chain old mid new first.holds second.holds;
    }

-- the snapshot after them is the same
pub snapshot_on : (m n : Moment) (before mid : Templates) → n ≡ m
    → AddsCalls (snapshot m before) before mid → snapshot n mid ≡ snapshot m before
snapshot_on m n before mid same first =
    ap (λ k. snapshot k mid) same ∙ snapshot_same (snapshot m before) m before mid first
