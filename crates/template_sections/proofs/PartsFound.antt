-- The parts of a list of lines: there are some, and they are the only ones.
use Rattle.std.proofs.Common.{◌≡◌, ◌∙◌, ℕ, ◌+◌, ◌&&◌, List, [], ◌∷◌, ◌++◌, length, Bool, true}
use Rattle.std.proofs.Common.{false}
use Rattle.std.proofs.Common.{Option, Some, None, refl, sym, ap, add_assoc, zero-add, add-zero}
use Rattle.std.specs.Prelude.{Result}
use Rattle.std.specs.List.{list_all}
use Rattle.template_sections.specs.Cut.{IsCut, outcome}
use Rattle.template_sections.specs.Headings.{heading_name}
use Rattle.template_sections.specs.Lines.{lines}
use Rattle.template_sections.specs.Parts.{Part, AreParts, IsCutInto, lines_of, is_text}
use Rattle.template_sections.specs.Parts.{size, placed, has_no_name}
use Rattle.template_sections.specs.Scan.{headings_from, put_heading}
use Rattle.template_sections.specs.declared.cutting.SectionEnd.{SectionEnd}
use Rattle.template_sections.specs.declared.cutting.Sections.{Sections}
use Rattle.template_sections.specs.declared.headings.Heading.{Heading}

-- the first part of these lines, and what is behind it
pub record Partition (place : ℕ) (ls : List (List ℕ)) : Type 0 where
  pub first : List (List ℕ)
  pub ps : List Part
  pub split : ls ≡ first ++ lines_of ps
  pub text : list_all is_text first ≡ true
  pub are : AreParts ps
  pub headings : headings_from place ls ≡ placed (place + size first) ps

pub partition : (place : ℕ) (ls : List (List ℕ)) → Partition place ls
partition place [] = record {
  first = [];
  ps = [];
  split = refl;
  text = refl;
  are = tt;
  headings = refl;
}
partition place (l ∷ ls) =
    let rest = partition (place + length l) ls in
    elim (heading_name l) as (λ o. heading_name l ≡ o → Partition place (l ∷ ls)) [
      | None ↦ λ is. record {
        first = l ∷ rest.first;
        ps = rest.ps;
        split = ap (λ t. l ∷ t) rest.split;
        text = ap (λ o. has_no_name o && list_all is_text rest.first) is ∙ rest.text;
        are = rest.are;
        headings =
            ap
            (λ o. put_heading o place (place + length l) (headings_from (place + length l) ls))
            is
            ∙ rest.headings
            ∙ ap (λ n. placed n rest.ps) (add_assoc place (length l) (size rest.first));
      }
      | Some title ↦ λ is. record {
        first = [];
        ps = record { name = title; heading = l; body = rest.first } ∷ rest.ps;
        split = ap (λ t. l ∷ t) rest.split;
        text = refl;
        are = (record { named = is; text = rest.text }, rest.are);
        headings =
            ap
            (λ o. put_heading o place (place + length l) (headings_from (place + length l) ls))
            is
            ∙ ap
            (λ hs. put_heading (Some title) place (place + length l) hs)
            rest.headings
            ∙ ap
            (λ n. placed n (record { name = title; heading = l; body = rest.first } ∷ rest.ps))
            (sym (add-zero place));
      }
    ] refl

-- what comes of the headings comes of the parts
pub cut_from_headings : (text : List ℕ) (hs : List Heading) (result : Result Sections SectionEnd)
    → hs ≡ headings_from 0 (lines text) → result ≡ outcome text hs → IsCut text result
cut_from_headings text hs result found is =
    let all = partition 0 (lines text) in
    record {
      first = all.first;
      parts = all.ps;
      are = record { split = all.split; text = all.text; parts = all.are };
      is = is ∙ ap (outcome text) (found ∙ all.headings
          ∙ ap (λ n. placed n all.ps) (zero-add (size all.first)));
    }

-- the same two, read off the lines
pub first_with : Option (List ℕ) → List ℕ → List (List ℕ) → List (List ℕ)
first_with None l ls = l ∷ ls
first_with (Some title) l ls = []

pub first_in : List (List ℕ) → List (List ℕ)
first_in [] = []
first_in (l ∷ ls) = first_with (heading_name l) l (first_in ls)

pub parts_with : Option (List ℕ) → List ℕ → List (List ℕ) → List Part → List Part
parts_with None l body ps = ps
parts_with (Some title) l body ps = record { name = title; heading = l; body = body } ∷ ps

pub parts_in : List (List ℕ) → List Part
parts_in [] = []
parts_in (l ∷ ls) = parts_with (heading_name l) l (first_in ls) (parts_in ls)

no_name_of : (o : Option (List ℕ)) → has_no_name o ≡ true → o ≡ None
no_name_of None is = refl
no_name_of (Some title) is = cc

pub text_and : (a b : Bool) → (a && b) ≡ true → (a ≡ true) × (b ≡ true)
text_and true b is = (refl, is)
text_and false b is = cc

first_of_parts : (ps : List Part) → AreParts ps → first_in (lines_of ps) ≡ []
unfolding first_in first_with
first_of_parts [] are = refl
first_of_parts (p ∷ ps) are =
    ap (λ o. first_with o p.heading (first_in (p.body ++ lines_of ps))) are.0.named

pub first_found : (first : List (List ℕ)) (ps : List Part) → list_all is_text first ≡ true
    → AreParts ps → first_in (first ++ lines_of ps) ≡ first
unfolding first_in first_with
first_found [] ps text are = first_of_parts ps are
first_found (l ∷ ls) ps text are =
    let both = text_and (is_text l) (list_all is_text ls) text in
    ap (λ o. first_with o l (first_in (ls ++ lines_of ps))) (no_name_of (heading_name l) both.0)
    ∙ ap (λ t. l ∷ t) (first_found ls ps both.1 are)

pub parts_behind : (first : List (List ℕ)) (ps : List Part) → list_all is_text first ≡ true
    → parts_in (first ++ lines_of ps) ≡ parts_in (lines_of ps)
unfolding parts_in parts_with
parts_behind [] ps text = refl
parts_behind (l ∷ ls) ps text =
    let both = text_and (is_text l) (list_all is_text ls) text in
    ap
    (λ o. parts_with o l (first_in (ls ++ lines_of ps)) (parts_in (ls ++ lines_of ps)))
    (no_name_of (heading_name l) both.0)
    ∙ parts_behind ls ps both.1

pub parts_found : (ps : List Part) → AreParts ps → parts_in (lines_of ps) ≡ ps
unfolding parts_in parts_with
parts_found [] are = refl
parts_found (p ∷ ps) are =
    ap
    (λ o. parts_with o p.heading (first_in (p.body ++ lines_of ps))
    (parts_in (p.body ++ lines_of ps)))
    are.0.named
    ∙ ap
    (λ b. parts_with (Some p.name) p.heading b (parts_in (p.body ++ lines_of ps)))
    (first_found p.body ps are.0.text are.1)
    ∙ ap
    (λ qs. parts_with (Some p.name) p.heading p.body qs)
    (parts_behind p.body ps are.0.text ∙ parts_found ps are.1)

pub one_first : (text : List ℕ) (first other : List (List ℕ)) (ps qs : List Part)
    → IsCutInto text first ps → IsCutInto text other qs → first ≡ other
one_first text first other ps qs some more =
    sym (first_found first ps some.text some.parts)
    ∙ ap first_in (sym some.split ∙ more.split)
    ∙ first_found other qs more.text more.parts

pub one_list : (text : List ℕ) (first other : List (List ℕ)) (ps qs : List Part)
    → IsCutInto text first ps → IsCutInto text other qs → ps ≡ qs
one_list text first other ps qs some more =
    sym (parts_behind first ps some.text ∙ parts_found ps some.parts)
    ∙ ap parts_in (sym some.split ∙ more.split)
    ∙ parts_behind other qs more.text ∙ parts_found qs more.parts
