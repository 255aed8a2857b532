-- A reading from which nothing was handed out since a call began.
use Rattle.std.proofs.Common.{◌≡◌, ◌∙◌, ap, sym, refl, ℕ, List, [], ◌++◌, append_assoc, Bool, true}
use Rattle.std.proofs.Common.{false, IsTrue, subst, inl, inr}
use Rattle.std.specs.Prelude.{◌⊎◌, Option, Some, None, IfSome, if◌then◌else◌}
use Rattle.std.specs.List.{flat_map}
use Rattle.std.specs.Option.{ForSome}
use Rattle.gtm_base.specs.Outside.{followed_by}
use Rattle.trace_lines.specs.Holding.{HoldsMore}
use Rattle.trace_lines.specs.Lines.{TraceLine, are_ended, bytes_of_line, lines}
use Rattle.trace_lines.specs.Reading.{Position, rest_of, waiting}
use Rattle.trace_lines.specs.Standing.{IsDone, StandsAt}

-- nothing was handed out or lost since the call
pub record IsWaiting (old now : Position) (left_old left : Option (List ℕ)) : Type 0 where
  pub rest : rest_of now left ≡ rest_of old left_old
  pub stands : (bytes : List ℕ) (handed : List TraceLine)
      → ForSome left_old (StandsAt bytes handed old) → ForSome left (StandsAt bytes handed now)
  pub before : now.before ≡ old.before
  pub end : IsTrue old.at_end → IsTrue now.at_end

-- a test is not both
pub not_both : {A : Type 0} (test : Bool) → test ≡ false → IsTrue test → A
not_both test one other = let never : false ≡ true = sym one ∙ other in absurd cc

-- what is not handed out, where more is held
waiting_more : (test : Bool) (held bytes rest : List ℕ) → (IsTrue test → (bytes ≡ []) × (rest ≡ []))
    → (held ++ bytes) ++ (if test then [] else rest) ≡ held ++ (bytes ++ rest)
waiting_more true held bytes rest end = let none = end refl in
    append_assoc held bytes [] ∙ ap (λ r. held ++ (bytes ++ r)) (sym none.1)
waiting_more false held bytes rest end = append_assoc held bytes rest

going_on : (position : Position) (rest : List ℕ) → position.at_end ≡ false
    → waiting position rest ≡ position.held ++ rest
going_on position rest going = ap (λ test. position.held ++ (if test then [] else rest)) going

rest_more : (old new : Position) (left later : Option (List ℕ)) (bytes : List ℕ)
    → old.at_end ≡ false → new.held ≡ old.held ++ bytes → left ≡ followed_by bytes later
    → (IsTrue new.at_end → (bytes ≡ []) × IfSome later (λ rest. rest ≡ []))
    → rest_of new later ≡ rest_of old left
rest_more old new left None bytes going held read end = ap (rest_of old) (sym read)
rest_more old new left (Some rest) bytes going held read end =
    ap (λ h. Some (h ++ (if new.at_end then [] else rest))) held
    ∙ ap Some (waiting_more new.at_end old.held bytes rest end
    ∙ sym (going_on old (bytes ++ rest) going))
    ∙ ap (rest_of old) (sym read)

still_ended : (handed : List TraceLine) (old new : Position) → old.at_end ≡ false
    → IsTrue (are_ended handed) ⊎ IsDone old → IsTrue (are_ended handed) ⊎ IsDone new
still_ended handed old new going (inl all) = inl all
still_ended handed old new going (inr done) = not_both old.at_end going done.at_end

stands_more : (old new : Position) (left later : Option (List ℕ))
    (more : HoldsMore old new left later) (rest bytes : List ℕ) (handed : List TraceLine)
    → old.at_end ≡ false → later ≡ Some rest
    → StandsAt bytes handed old (more.bytes ++ rest) → StandsAt bytes handed new rest
stands_more old new left later more rest bytes handed going is here =
    let same : old.held ++ (more.bytes ++ rest) ≡ new.held ++ rest =
    sym (append_assoc old.held more.bytes rest) ∙ ap (λ held. held ++ rest) (sym more.held) in
    record {
      whole = here.whole ∙ ap (λ b. flat_map bytes_of_line handed ++ b) same;
      lines_are = here.lines_are ∙ ap (λ b. handed ++ lines b) same;
      before = more.before ∙ here.before;
      fit = here.fit;
      ended = still_ended handed old new going here.ended;
      end = λ at_end. let P : Option (List ℕ) → Type 0 = λ l. IfSome l (λ r. r ≡ []) in
          subst P is (more.end at_end).1;
    }

-- more is held, or the end of the file was met
pub waits : (old position new : Position) (left_old left later : Option (List ℕ))
    → IsWaiting old position left_old left → position.at_end ≡ false
    → HoldsMore position new left later → IsWaiting old new left_old later
waits old position new left_old left later it going more = record {
  rest = rest_more position new left later more.bytes going more.held more.read more.end ∙ it.rest;
  stands = λ bytes handed here rest is.
      stands_more position new left later more rest bytes handed going is
      (it.stands bytes handed here (more.bytes ++ rest)
      (more.read ∙ ap (followed_by more.bytes) is));
  before = more.before ∙ it.before;
  end = λ at_end. not_both position.at_end going (it.end at_end);
}

-- at the begin of the call
pub waits_first : (position : Position) (left : Option (List ℕ))
    → IsWaiting position position left left
waits_first position left =
    record {
      rest =
          refl;
      stands = λ bytes handed here. here;
      before = refl;
      end = λ at_end. at_end;
    }
