-- What the answers of a call say of the lines that were handed out.
use Rattle.std.proofs.Common.{◌≡◌, ◌∙◌, ap, sym, refl, ℕ, ◌+◌, ◌-◌, ◌≤◌, ◌<◌, min, List, [], ◌∷◌}
use Rattle.std.proofs.Common.{◌++◌, length, drop, append_assoc, append-nil, length-append, ⊎_elim}
use Rattle.std.proofs.Common.{Bool, true, false, IsTrue, subst, arith, inl, inr}
use Rattle.std.specs.Prelude.{◌⊎◌, ◌&&◌, ◌||◌, nat_lt, Option, Some, None, option_map, IfSome}
use Rattle.std.specs.Prelude.{Result, Ok, Err, OnOk, OnErr, IsErrOf, if◌then◌else◌}
use Rattle.std.specs.List.{flat_map}
use Rattle.std.specs.Option.{ForSome}
use Rattle.std.proofs.lemmas.Bool.{cases_lt}
use Rattle.std.proofs.lemmas.Grind.{flat_map-append}
use Rattle.std.proofs.lemmas.List.{append_cancel_right}
use Rattle.std.proofs.lemmas.List.Folds.{list_all-append}
use Rattle.gtm_base.specs.Outside.{ReadWithin, followed_by}
use Rattle.trace_lines.specs.Holding.{HasNoEnd, IsWithin, behind_line, exceeds, first_line}
use Rattle.trace_lines.specs.Holding.{room_behind}
use Rattle.trace_lines.specs.Lines.{TraceLine, are_ended, bytes_of_line, is_too_long, lines}
use Rattle.trace_lines.specs.Lines.{shows_too_long, some_too_long}
use Rattle.trace_lines.specs.Reading.{HasTooLong, Position, Tells, rest_of}
use Rattle.trace_lines.specs.Standing.{IsDone, Leads, StandsAt, StopsInTime}
use Rattle.trace_lines.specs.declared.lines.LineEnd.{LineEnd}
use Rattle.trace_lines.specs.declared.lines.LineEnd.TheVariants.{OutOfMemory, ReadFault, TooLong}
use Rattle.trace_lines.specs.declared.lines.TheConstants.{MAX_LINE, MAX_TRACE, PIECE}
use Rattle.trace_lines.proofs.Cuts.{bare_lacks, lines-nil}
use Rattle.trace_lines.proofs.FirstLine.{Begins, bare_whole, begins_long, long_line}
use Rattle.trace_lines.proofs.Shown.{finished_are, front_lines, front_of, held_shows}
use Rattle.trace_lines.proofs.Shown.{some_too_long-append}
use Rattle.trace_lines.proofs.Waiting.{IsWaiting, not_both}

-- what a call answers, and where it leaves a reading
pub record Answer (result : Result Bool LineEnd) (old new : Position)
    (left_old left : Option (List ℕ)) : Type 0 where
  pub told : Tells result old new (rest_of old left_old) (rest_of new left)
  pub stands : (bytes : List ℕ) (handed : List TraceLine)
      → ForSome left_old (StandsAt bytes handed old) → ForSome left (Leads result bytes handed new)

-- the bytes that were read are those of the lines, and those that were held
read_is : (bytes read flat held left : List ℕ) → bytes ≡ flat ++ (held ++ left)
    → bytes ≡ read ++ left → read ≡ flat ++ held
read_is bytes read flat held left whole is =
    append_cancel_right read (flat ++ held) left
    (sym is ∙ whole ∙ sym (append_assoc flat held left))

-- no byte was read behind the first that shows that a line is too long, where no more than these
-- were read since
in_time : (bytes : List ℕ) (handed : List TraceLine) (position : Position) (more left : List ℕ)
    → StandsAt bytes handed position (more ++ left) → length (position.held ++ more) ≤ MAX_LINE + 1
    → position.before + length (position.held ++ more) ≤ MAX_TRACE + 1 → StopsInTime bytes left
in_time bytes handed position more left here few ends =
    let same : position.held ++ (more ++ left) ≡ (position.held ++ more) ++ left =
    sym (append_assoc position.held more left) in
    let whole : bytes ≡ flat_map bytes_of_line handed ++ ((position.held ++ more) ++ left) =
    here.whole ∙ ap (λ b. flat_map bytes_of_line handed ++ b) same in
    let before = here.before in
    record {
      unshown = λ read is.
          subst (λ r. shows_too_long (front_of r) ≡ false)
          (sym (read_is bytes read (flat_map bytes_of_line handed) (position.held ++ more) left
          whole is))
          (held_shows handed 0 (position.held ++ more) left bytes
          (record {
            lines_are = here.lines_are ∙ ap (λ b. handed ++ lines b) same;
            whole = whole;
            fit = here.fit;
            within = omega arith;
            few = few;
            ends = omega arith;
          }));
    }

in_time_here : (bytes : List ℕ) (handed : List TraceLine) (position : Position) (left : List ℕ)
    → StandsAt bytes handed position left → IsWithin position → StopsInTime bytes left
in_time_here bytes handed position left here within =
    let line = within.line in
    let trace = within.trace in
    let long = length-append position.held [] in
    in_time bytes handed position [] left here (omega arith) (omega arith)

-- where the end was met nothing more counts
none_behind_end : (test : Bool) (rest : List ℕ) → IsTrue test → (if test then [] else rest) ≡ []
none_behind_end true rest is = refl
none_behind_end false rest is = absurd cc

-- the next line is too long
pub stops : (old position : Position) (left_old left : Option (List ℕ))
    → IsWaiting old position left_old left → IsWithin position
    → ((rest : List ℕ) → (IsTrue position.at_end → rest ≡ [])
    → HasTooLong position.before (position.held ++ rest)) → Answer (Err
    TooLong) old position left_old left
stops old position left_old left it within found = record {
  told = record {
    stays = record { same = it.rest; before = it.before };
    found =
        subst (λ rest. IfSome rest (HasTooLong old.before)) it.rest
        (subst (λ before. IfSome (rest_of position left) (HasTooLong before)) it.before
        (found_in left));
  };
  stands = λ bytes handed here rest is.
      let now = it.stands bytes handed here rest is in
      record {
        stands =
            record { stands = now; next = found rest now.end };
        in_time =
            in_time_here bytes handed position rest now within;
      };
}
  where
    found_in : (l : Option (List ℕ)) → IfSome (rest_of position l) (HasTooLong position.before)
    found_in None = tt
    found_in (Some rest) =
        found (if position.at_end then [] else rest) (none_behind_end position.at_end rest)

-- how long the first line is
line_exceeds : (position : Position) (len size : ℕ) → Begins position len size
    → is_too_long position.before (first_line position len size)
    ≡ exceeds len (position.before + size)
line_exceeds position len size it = λ i. exceeds (it.len_is i) (position.before + it.size_is i)

-- the line that begins what is held is too long
refuses : (old position : Position) (left_old left : Option (List ℕ)) (len size : ℕ)
    → IsWaiting old position left_old left → IsWithin position → Begins position len size
    → exceeds len (position.before + size) ≡ true → Answer (Err TooLong) old position left_old left
refuses old position left_old left len size it within line long =
    stops old position left_old left it within
    (λ rest end.
    record {
      line =
          first_line position len size;
      others =
          _;
      first = line.lines_are rest end;
      is = line_exceeds position len size line ∙ long;
    })

ended_more : (handed : List TraceLine) (position : Position) (len size : ℕ)
    → Begins position len size → IsTrue (are_ended handed) ⊎ IsDone position
    → IsTrue (nat_lt len size) ⊎ (IsTrue position.at_end × (drop size position.held ≡ []))
    → IsTrue (are_ended (handed ++ first_line position len size ∷ []))
    ⊎ IsDone (behind_line position len size)
ended_more handed position len size line (inl all) (inl is) =
    inl (list_all-append (λ l. l.ended) handed (first_line position len size ∷ [])
    ∙ (λ i. all i && (is i && true)))
ended_more handed position len size line ended (inr done) =
    inr (record { at_end = done.0; held = done.1 })
ended_more handed position len size line (inr done) (inl is) =
    let none = ap length done.held in
    let some = line.some in
    let bytes = ap length line.bytes_are in
    let size_is = line.size_is in
    let long =
    length-append (bytes_of_line (first_line position len size)) (drop size position.held) in
    absurd (omega arith)

-- where the reading stands behind the line
stands_behind : (bytes : List ℕ) (handed : List TraceLine) (position : Position) (left : List ℕ)
    (len size : ℕ) → Begins position len size → exceeds len (position.before + size) ≡ false
    → StandsAt bytes handed position left
    → StandsAt bytes (handed ++ first_line position len size ∷ [])
    (behind_line position len size) left
stands_behind bytes handed position left len size line fits here =
    let this = first_line position len size in
    let behind : List ℕ = drop size position.held in
    let joined : flat_map bytes_of_line (handed ++ this ∷ [])
    ≡ flat_map bytes_of_line handed ++ bytes_of_line this =
    flat_map-append bytes_of_line handed (this ∷ [])
    ∙ ap (λ b. flat_map bytes_of_line handed ++ b) (append-nil (bytes_of_line this)) in
    let cut : position.held ++ left ≡ bytes_of_line this ++ (behind ++ left) =
    ap (λ b. b ++ left) line.bytes_are ∙ append_assoc (bytes_of_line this) behind left in
    let before = here.before in
    let size_is = line.size_is in
    let count = ap length joined in
    let long = length-append (flat_map bytes_of_line handed) (bytes_of_line this) in
    let start : position.before ≡ 0 + length (flat_map bytes_of_line handed) = omega arith in
    record {
      whole =
          here.whole
          ∙ ap (λ b. flat_map bytes_of_line handed ++ b) cut
          ∙ sym (append_assoc (flat_map bytes_of_line handed) (bytes_of_line this) (behind ++ left))
          ∙ ap (λ b. b ++ (behind ++ left)) (sym joined);
      lines_are =
          here.lines_are ∙ ap (λ ls. handed ++ ls) (line.lines_are left here.end)
          ∙ sym (append_assoc handed (this ∷ []) (lines (behind ++ left)));
      before = omega arith;
      fit =
          some_too_long-append handed (this ∷ []) 0 here.fit
          (subst (λ n. some_too_long n (this ∷ []) ≡ false) start
          (ap (λ test. test || false) (line_exceeds position len size line ∙ fits)));
      ended = ended_more handed position len size line here.ended line.ended;
      end = here.end;
    }

goes_on_in : (position : Position) (len size : ℕ) → Begins position len size
    → (left : Option (List ℕ))
    → option_map lines (rest_of position left)
    ≡ option_map (λ bytes. first_line position len size ∷ lines bytes)
    (rest_of (behind_line position len size) left)
goes_on_in position len size line None = refl
goes_on_in position len size line (Some rest) =
    ap Some (line.lines_are (if position.at_end then [] else rest)
    (none_behind_end position.at_end rest))

-- the line that begins what is held is handed out
pub hands : (old position : Position) (left_old left : Option (List ℕ)) (len size : ℕ)
    → IsWaiting old position left_old left → IsWithin (behind_line position len size)
    → Begins position len size
    → exceeds len (position.before + size) ≡ false
    → Answer (Ok true) old (behind_line position len size) left_old left
hands old position left_old left len size it within line fits =
    let some = line.some in
    let before = it.before in
    let size_is = line.size_is in
    record {
      told = record {
        lines_are = ap (option_map lines) (sym it.rest) ∙ goes_on_in position len size line left;
        fits =
            ap (λ n. is_too_long n (first_line position len size)) (sym before)
            ∙ line_exceeds position len size line ∙ fits;
        before = omega arith;
        further = omega arith;
        end = it.end;
      };
      stands = λ bytes handed here rest is.
          let now =
          stands_behind bytes handed position rest len size line fits
          (it.stands bytes handed here rest is) in
          record {
            stands =
                now;
            in_time =
                in_time_here bytes (handed ++ first_line position len size ∷ [])
                (behind_line position len size) rest now within;
          };
    }

handed_at : (test : Bool) (old position new : Position) (left_old left : Option (List ℕ))
    (len size : ℕ) (result : Result Bool LineEnd) → IsWaiting old position left_old left
    → Begins position len size
    → exceeds len (position.before + size) ≡ test → result ≡ (if test then Err TooLong else Ok true)
    → OnOk result (new ≡ behind_line position len size) → OnErr result (new ≡ position)
    → IsWithin new → Answer result old new left_old left
handed_at true old position new left_old left len size result it line test is ok err within =
    let same : new ≡ position = rw is at err in
    subst (λ r. Answer r old new left_old left) (sym is)
    (subst (λ n. Answer (Err TooLong) old n left_old left) (sym same)
    (refuses old position left_old left len size it (subst IsWithin same within) line test))
handed_at false old position new left_old left len size result it line test is ok err within =
    let same : new ≡ behind_line position len size = rw is at ok in
    subst (λ r. Answer r old new left_old left) (sym is)
    (subst (λ n. Answer (Ok true) old n left_old left) (sym same)
    (hands old position left_old left len size it (subst IsWithin same within) line test))

-- the line that begins what is held is handed out, or is too long
pub handed_out : (old position new : Position) (left_old left : Option (List ℕ)) (len size : ℕ)
    (result : Result Bool LineEnd) → IsWaiting old position left_old left → Begins position len size
    → result ≡ (if exceeds len (position.before + size) then Err TooLong else Ok true)
    → OnOk result (new ≡ behind_line position len size) → OnErr result (new ≡ position)
    → IsWithin new → Answer result old new left_old left
handed_out old position new left_old left len size result it line is ok err within =
    handed_at (exceeds len (position.before + size)) old position new left_old left len size result
    it line refl is ok err within

held_none : (test : Bool) (held rest : List ℕ) → IsTrue test → held ≡ []
    → held ++ (if test then [] else rest) ≡ []
held_none true held rest at_end none = ap (λ h. h ++ []) none
held_none false held rest at_end none = absurd cc

-- nothing is held, and the end was met
pub ends : (old position : Position) (left_old left : Option (List ℕ))
    → IsWaiting old position left_old left → IsTrue position.at_end → position.held ≡ []
    → IsWithin position
    → Answer (Ok false) old position left_old left
ends old position left_old left it at_end none within = record {
  told = record {
    stays = record { same = it.rest; before = it.before };
    none = subst (λ rest. IfSome rest (λ bytes. bytes ≡ [])) it.rest (none_in left);
    held = none;
    at_end = at_end;
  };
  stands = λ bytes handed here rest is.
      let now = it.stands bytes handed here rest is in
      let nothing : position.held ++ rest ≡ [] =
      ap (λ r. position.held ++ r) (now.end at_end) ∙ ap (λ h. h ++ []) none in
      record {
        stands = record {
          stands = now;
          all =
              now.lines_are ∙ ap (λ b. handed ++ lines b) nothing
              ∙ ap (λ ls. handed ++ ls) lines-nil ∙ append-nil handed;
          held = none;
          none = now.end at_end;
        };
        in_time = in_time_here bytes handed position rest now within;
      };
}
  where
    none_in : (l : Option (List ℕ)) → IfSome (rest_of position l) (λ bytes. bytes ≡ [])
    none_in None = tt
    none_in (Some rest) = held_none position.at_end position.held rest at_end none

too_much : (held before : ℕ)
    → min (min PIECE (MAX_LINE + 1 - held)) (MAX_TRACE + 1 - (before + held)) ≡ 0
    → (MAX_LINE < held) ⊎ (MAX_TRACE < before + held)
too_much held before none =
    ⊎_elim (λ (below : held < MAX_LINE + 1). inr (omega arith))
    (λ (from : MAX_LINE + 1 ≤ held). inl (omega arith)) (cases_lt held (MAX_LINE + 1))

-- there is no room for the rest of the line
pub no_room : (old position : Position) (left_old left : Option (List ℕ))
    → IsWaiting old position left_old left → IsWithin position
    → HasNoEnd position.held (length position.held) → room_behind position ≡ 0
    → Answer (Err TooLong) old position left_old left
no_room old position left_old left it within none full =
    let before = within.before in
    let much = too_much (length position.held) position.before full in
    let some : 0 < length position.held = omega arith in
    stops old position left_old left it within
    (λ rest end.
    let line = begins_long position.held rest some none in
    record {
      line =
          line.line;
      others =
          line.others;
      first =
          line.first;
      is = long_line position.before position.held line.line line.text much;
    })

all_ended : (handed : List TraceLine) (position : Position) → position.at_end ≡ false
    → IsTrue (are_ended handed) ⊎ IsDone position → are_ended handed ≡ true
all_ended handed position going (inl all) = all
all_ended handed position going (inr done) = not_both position.at_end going done.at_end

-- a read failed
failed : (old position : Position) (left_old left : Option (List ℕ))
    → IsWaiting old position left_old left → IsWithin position
    → HasNoEnd position.held (length position.held) → position.at_end ≡ false
    → Answer (Err ReadFault) old position left_old left
failed old position left_old left it within none going = record {
  told = record {
    stays = record { same = it.rest; before = it.before };
    going = was_going old.at_end it.end;
    none = bare_lacks position.held (bare_whole position.held none);
  };
  stands = λ bytes handed here rest is.
      let now = it.stands bytes handed here rest is in
      let all = all_ended handed position going now.ended in
      record {
        stands = record {
          stands = now;
          all = λ read whole.
              finished_are handed position.held read
              (ap lines (read_is bytes read (flat_map bytes_of_line handed) position.held rest
              now.whole whole) ∙ front_lines handed position.held rest bytes now.lines_are now.whole all)
              all (bare_whole position.held none);
        };
        in_time = in_time_here bytes handed position rest now within;
      };
}
  where
    was_going : (test : Bool) → (IsTrue test → IsTrue position.at_end) → test ≡ false
    was_going true end = not_both position.at_end going (end refl)
    was_going false end = refl

-- memory was wanting, when no more bytes were read than there was room for
lost : (old position new : Position) (left_old left later : Option (List ℕ))
    → IsWaiting old position left_old left → IsWithin position → new.before ≡ position.before
    → ReadWithin (room_behind position) left later
    → Answer (Err OutOfMemory) old new left_old later
lost old position new left_old left later it within same read = record {
  told = same ∙ it.before;
  stands = λ bytes handed here rest is.
      let now =
      it.stands bytes handed here (read.bytes ++ rest)
      (read.left ∙ ap (followed_by read.bytes) is) in
      let few = read.few in
      let line = within.line in
      let trace = within.trace in
      let long = length-append position.held read.bytes in
      record {
        stands =
            tt;
        in_time =
            in_time bytes handed position read.bytes rest now (omega arith) (omega arith);
      };
}

-- no more was read
pub fails : (old position new : Position) (left_old left later : Option (List ℕ)) (cause : LineEnd)
    → ¬ IsErrOf {T = Unit {0}} (Err cause) TooLong
    → (IsErrOf {T = Unit {0}} (Err cause) ReadFault → (new ≡ position) × (later ≡ left))
    → new.before ≡ position.before → ReadWithin (room_behind position) left later
    → IsWaiting old position left_old left → IsWithin position
    → HasNoEnd position.held (length position.held) → position.at_end ≡ false
    → Answer (Err cause) old new left_old later
fails old position new left_old left later OutOfMemory other stays kept read it within none going =
    lost old position new left_old left later it within kept read
fails old position new left_old left later TooLong other stays kept read it within none going =
    absurd (other refl)
fails old position new left_old left later ReadFault other stays kept read it within none going =
    let same = stays refl in
    subst (λ n. Answer (Err ReadFault) old n left_old later) (sym same.0)
    (subst (λ l. Answer (Err ReadFault) old position left_old l) (sym same.1)
    (failed old position left_old left it within none going))

-- no bytes are held
pub nothing_held : (held : List ℕ) → length held ≡ 0 → held ≡ []
nothing_held [] is = refl
nothing_held (b ∷ held) is = absurd (omega arith)
