-- Pieces that are put behind a text.
use Rattle.std.proofs.Common.{◌≡◌, ℕ, List, ◌++◌, append_assoc}

pub joined : (old first second third new a b c d : List ℕ) → first ≡ old ++ a → second ≡ first ++ b
    → third ≡ second ++ c → new ≡ third ++ d → new ≡ old ++ (a ++ b ++ c ++ d)
joined old first second third new a b c d is_first is_second is_third is_new =
    rw (is_new, is_third, is_second, is_first) (simp append_assoc)

pub joined_two : (old first new a b : List ℕ) → first ≡ old ++ a → new ≡ first ++ b
    → new ≡ old ++ (a ++ b)
joined_two old first new a b is_first is_new = rw (is_new, is_first) (append_assoc old a b)
