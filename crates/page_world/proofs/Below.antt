-- Keys at and below a key.
use Rattle.std.proofs.Common.{◌≡◌, ℕ, List, [], ◌∷◌, Bool, true, false}
use Rattle.std.proofs.Common.{if◌then◌else◌, refl, sym, ap, ◌∙◌}
use Rattle.std.specs.Prelude.{◌==◌, ◌&&◌}
use Rattle.std.specs.Str.{bytes_eq}
use Rattle.std.proofs.lemmas.Bool.{eqb-true}
use Rattle.gtm_data.specs.Paths.{dotted, onto_first}
use Rattle.page_world.specs.Parts.{goes_below, is_within}
use Rattle.page_world.specs.Returns.{begins_with}

abbrev Path : Type 0
Path = List (List ℕ)

-- the parts of a text, from those behind its first character
abbrev parts_of : Bool → ℕ → Path → Path
parts_of dot c parts = if dot then [] ∷ parts else onto_first c parts

both_assoc : (a b c : Bool) → ((a && b) && c) ≡ (a && (b && c))
both_assoc true b c = refl
both_assoc false b c = refl

-- ---- nothing is left of the key
end_at : (dot : Bool) (c : ℕ) (parts : Path)
    → dot ≡ begins_with ([] ∷ []) (parts_of dot c parts)
end_at true c parts = refl
end_at false c [] = refl
end_at false c (part ∷ parts) = refl

end_of_key : (other : List ℕ) → goes_below other ≡ begins_with ([] ∷ []) (dotted other)
end_of_key [] = refl
end_of_key (c ∷ cs) = end_at (c == 46) c (dotted cs)

-- ---- nothing is left of the other key
-- a text has a first part
HasFirst : Path → Type 0
HasFirst [] = ⊥
HasFirst (part ∷ parts) = Unit {0}

first_at : (dot : Bool) (c : ℕ) (parts : Path) → HasFirst (parts_of dot c parts)
unfolding HasFirst
first_at true c parts = tt
first_at false c [] = tt
first_at false c (part ∷ parts) = tt

has_first : (cs : List ℕ) → HasFirst (dotted cs)
unfolding HasFirst
has_first [] = tt
has_first (c ∷ cs) = first_at (c == 46) c (dotted cs)

no_more : (dot : Bool) (c : ℕ) (parts : Path) → HasFirst parts
    → false ≡ begins_with (parts_of dot c parts) ([] ∷ [])
unfolding HasFirst
no_more true c [] some = absurd some
no_more true c (part ∷ parts) some = refl
no_more false c [] some = absurd some
no_more false c (part ∷ parts) some = refl

-- ---- a character of both is left
unlike : (c d : ℕ) (dot_c dot_d : Bool) → (c == 46) ≡ dot_c → (d == 46) ≡ dot_d
    → (dot_c ≡ dot_d → ⊥) → (d == c) ≡ false
unlike c d dot_c dot_d is_c is_d apart =
    elim (d == c) as (λ test. (d == c) ≡ test → test ≡ false) [
      | true ↦ λ same.
          absurd (apart (sym is_c ∙ ap (λ n. n == 46) (sym (eqb-true d c same)) ∙ is_d))
      | false ↦ λ same. refl
    ] refl

alike : (c d : ℕ) (test : Bool) → (c == 46) ≡ true → (d == 46) ≡ true → test ≡ (d == c)
    → test ≡ true
alike c d test is_c is_d e =
    e ∙ ap (λ n. n == c) (eqb-true d 46 is_d) ∙ ap (λ n. 46 == n) (eqb-true c 46 is_c)

turn : (dot_c dot_d : Bool) (c d : ℕ) (front parts : Path) (rest : Bool)
    → (c == 46) ≡ dot_c → (d == 46) ≡ dot_d → HasFirst front → HasFirst parts
    → rest ≡ begins_with front parts
    → ((d == c) && rest) ≡ begins_with (parts_of dot_c c front) (parts_of dot_d d parts)
unfolding HasFirst
turn true true c d front parts rest is_c is_d some others later =
    ap (λ test. test && rest) (alike c d (d == c) is_c is_d refl) ∙ later
turn true false c d front [] rest is_c is_d some others later = absurd others
turn true false c d front (part ∷ parts) rest is_c is_d some others later =
    ap (λ test. test && rest) (unlike c d true false is_c is_d (λ e. cc))
turn false true c d [] parts rest is_c is_d some others later = absurd some
turn false true c d (first ∷ front) parts rest is_c is_d some others later =
    ap (λ test. test && rest) (unlike c d false true is_c is_d (λ e. cc))
turn false false c d [] parts rest is_c is_d some others later = absurd some
turn false false c d (first ∷ front) [] rest is_c is_d some others later = absurd others
turn false false c d (first ∷ front) (part ∷ parts) rest is_c is_d some others later =
    ap (λ test. (d == c) && test) later
    ∙ sym (both_assoc (d == c) (bytes_eq part first) (begins_with front parts))

pub is_within-parts : (key other : List ℕ)
    → is_within key other ≡ begins_with (dotted key) (dotted other)
is_within-parts [] other = end_of_key other
is_within-parts (c ∷ cs) [] = no_more (c == 46) c (dotted cs) (has_first cs)
is_within-parts (c ∷ cs) (d ∷ ds) =
    turn (c == 46) (d == 46) c d (dotted cs) (dotted ds) (is_within cs ds) refl refl
    (has_first cs) (has_first ds) (is_within-parts cs ds)
