-- Runs of characters that pass a test.
use Rattle.std.proofs.Common.{◌≡◌, ℕ, ◌≤◌, not, List, [], ◌∷◌, ◌++◌, length, Bool, true, false}
use Rattle.std.proofs.Common.{refl, ap, arith}
use Rattle.std.specs.Prelude.{if◌then◌else◌}
use Rattle.std.specs.List.{list_all}
use Rattle.std.proofs.lemmas.Bool.Decides.{nat_tests}
use Rattle.sjs_lexer.specs.Reading.{skip_while}

-- the first character, if there is one, fails the test
abbrev pub fails_first : (ℕ → Bool) → List ℕ → Bool
fails_first passes [] = true
fails_first passes (c ∷ cs) = not (passes c)

pub record IsRun (passes : ℕ → Bool) (text rest : List ℕ) : Type 0 where
  pub word : List ℕ
  pub split : text ≡ word ++ rest
  pub all : list_all passes word ≡ true
  pub stops : fails_first passes rest ≡ true

pub run_of : (passes : ℕ → Bool) (text : List ℕ) → IsRun passes text (skip_while passes text)
run_of passes [] = record { word = []; split = refl; all = refl; stops = refl }
run_of passes (c ∷ cs) =
    elim (passes c) as
    (λ b. passes c ≡ b → IsRun passes (c ∷ cs) (if b then skip_while passes cs else c ∷ cs)) [
      | true ↦ λ yes.
          let run = run_of passes cs in
          record {
            word =
                c ∷ run.word;
            split =
                ap (λ t. c ∷ t) run.split;
            all = rw (yes, run.all);
            stops = run.stops;
          }
      | false ↦ λ no. record { word = []; split = refl; all = refl; stops = rw no }
    ] refl

-- no run of such characters at the front is longer than one that stops
pub longest_run : (passes : ℕ → Bool) (word rest other more : List ℕ) → word ++ rest ≡ other ++ more
    → list_all passes other ≡ true → fails_first passes rest ≡ true → length other ≤ length word
longest_run passes word rest [] more split all stops = omega arith
longest_run passes [] rest (d ∷ ds) more split all stops =
    let stop : fails_first passes (d ∷ (ds ++ more)) ≡ true = rw split at stops in
    grind (arith, nat_tests)
longest_run passes (c ∷ cs) rest (d ∷ ds) more split all stops =
    let tail : cs ++ rest ≡ ds ++ more = cc in
    let rest_all : list_all passes ds ≡ true = grind (arith, nat_tests) in
    let less : length ds ≤ length cs = longest_run passes cs rest ds more tail rest_all stops in
    omega arith
