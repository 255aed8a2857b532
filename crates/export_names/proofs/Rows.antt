-- Worked rows: texts and their pieces.
use Rattle.std.proofs.Common.{◌≡◌, [], ◌∷◌, codes, refl}
use Rattle.export_names.specs.Cut.{literal, name, first_name, cut_within, cut}

a_name_within : cut (codes "a{{b}}c")
    ≡ literal (codes "a") ∷ name (codes "b") ∷ literal (codes "c") ∷ []
unfolding first_name cut_within cut
a_name_within = refl

an_empty_text : cut (codes "") ≡ []
unfolding first_name cut_within cut
an_empty_text = refl

names_alone : cut (codes "{{a}}{{}}") ≡ name (codes "a") ∷ name (codes "") ∷ []
unfolding first_name cut_within cut
names_alone = refl

an_unclosed_name : cut (codes "{{a}} {{b}") ≡ name (codes "a") ∷ literal (codes " {{b}") ∷ []
unfolding first_name cut_within cut
an_unclosed_name = refl

three_braces : cut (codes "{{{a}}}") ≡ name (codes "{a") ∷ literal (codes "}") ∷ []
unfolding first_name cut_within cut
three_braces = refl

a_name_in_a_name : cut (codes "{{a{{b}}}}") ≡ name (codes "a{{b") ∷ literal (codes "}}") ∷ []
unfolding first_name cut_within cut
a_name_in_a_name = refl
