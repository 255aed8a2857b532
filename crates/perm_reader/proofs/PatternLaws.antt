-- Patterns are kept as they are written.
use Rattle.std.proofs.Common.{◌≡◌, ◌∙◌, ℕ, ◌&&◌, ◌||◌, List, [], ◌∷◌, ◌++◌, Bool, true, false}
use Rattle.std.proofs.Common.{Option}
use Rattle.std.proofs.Common.{Some, None, refl, sym, ap, subst, arith, append-nil}
use Rattle.std.specs.Prelude.{◌==◌, if◌then◌else◌, option_map, codes}
use Rattle.std.specs.List.{list_any}
use Rattle.std.proofs.lemmas.Bool.Decides.{nat_tests}
use Rattle.perm_model.specs.Addresses.{text_or_nothing}
use Rattle.perm_model.specs.Texts.{is_nothing}
use Rattle.perm_model.specs.declared.grants.AddressPattern.TheVariants.{Pattern}
use Rattle.perm_reader.specs.Patterns.{behind, before_slash, from_slash, pattern_behind}
use Rattle.perm_reader.specs.Patterns.{address_pattern, IsAddressPattern, BeginsWithSlash}
use Rattle.perm_reader.specs.Patterns.{is_authority, before_last_star}

behind_split : (front text rest : List ℕ) → behind front text ≡ Some rest
    → text ≡ front ++ rest
behind_split [] text rest is = cc
behind_split (c ∷ cs) [] rest is = cc
behind_split (c ∷ cs) (d ∷ ds) rest is =
    elim (c == d) as
    (λ b. (c == d) ≡ b → (if b then behind cs ds else None) ≡ Some rest
    → (d ∷ ds) ≡ c ∷ (cs ++ rest)) [
      | true ↦ λ same is.
          let e : d ≡ c = grind (arith, nat_tests) in
          ap (λ k. k ∷ ds) e ∙ ap (λ t. c ∷ t) (behind_split cs ds rest is)
      | false ↦ λ other is. cc
    ] refl is

behind_front : (front rest : List ℕ) → behind front (front ++ rest) ≡ Some rest
behind_front [] rest = refl
behind_front (c ∷ cs) rest =
    let same : (c == c) ≡ true = grind (arith, nat_tests) in
    ap (λ b. if b then behind cs (cs ++ rest) else None) same ∙ behind_front cs rest

slash_split : (text : List ℕ) → text ≡ before_slash text ++ text_or_nothing (from_slash text)
slash_split [] = refl
slash_split (c ∷ cs) =
    elim (c == 47) as
    (λ b. (c ∷ cs) ≡ (if b then [] else c ∷ before_slash cs)
    ++ text_or_nothing (if b then Some (c ∷ cs) else from_slash cs)) [
      | true ↦ refl
      | false ↦ ap (λ t. c ∷ t) (slash_split cs)
    ]

no_slash_before : (text : List ℕ) → list_any (λ c. c == 47) (before_slash text) ≡ false
no_slash_before [] = refl
no_slash_before (c ∷ cs) =
    elim (c == 47) as
    (λ b. (c == 47) ≡ b
    → list_any (λ k. k == 47) (if b then [] else c ∷ before_slash cs) ≡ false) [
      | true ↦ λ is. refl
      | false ↦ λ is. ap (λ b. b || list_any (λ k. k == 47) (before_slash cs)) is
          ∙ no_slash_before cs
    ] refl

slash_first : (text : List ℕ) → BeginsWithSlash (from_slash text)
slash_first [] = tt
slash_first (c ∷ cs) =
    elim (c == 47) as
    (λ b. (c == 47) ≡ b → BeginsWithSlash (if b then Some (c ∷ cs) else from_slash cs)) [
      | true ↦ λ is. let e : c ≡ 47 = grind (arith, nat_tests) in (cs, ap (λ k. k ∷ cs) e)
      | false ↦ λ is. slash_first cs
    ] refl

before_path : (path : Option (List ℕ)) → BeginsWithSlash path
    → before_slash (text_or_nothing path) ≡ []
before_path None is = refl
before_path (Some path) is = ap before_slash is.1

from_path : (path : Option (List ℕ)) → BeginsWithSlash path
    → from_slash (text_or_nothing path) ≡ path
from_path None is = refl
from_path (Some path) is = ap from_slash is.1 ∙ ap (λ t. Some t) (sym is.1)

or_none : (a b : Bool) → (a || b) ≡ false → (a ≡ false) × (b ≡ false)
or_none true b is = cc
or_none false b is = (refl, is)

before_both : (front rest : List ℕ) → list_any (λ c. c == 47) front ≡ false
    → before_slash (front ++ rest) ≡ front ++ before_slash rest
before_both [] rest none = refl
before_both (c ∷ cs) rest none =
    let both = or_none (c == 47) (list_any (λ k. k == 47) cs) none in
    ap (λ b. if b then [] else c ∷ before_slash (cs ++ rest)) both.0
    ∙ ap (λ t. c ∷ t) (before_both cs rest both.1)

from_both : (front rest : List ℕ) → list_any (λ c. c == 47) front ≡ false
    → from_slash (front ++ rest) ≡ from_slash rest
from_both [] rest none = refl
from_both (c ∷ cs) rest none =
    let both = or_none (c == 47) (list_any (λ k. k == 47) cs) none in
    ap (λ b. if b then Some (c ∷ (cs ++ rest)) else from_slash (cs ++ rest)) both.0
    ∙ from_both cs rest both.1

of_rest : (text rest authority : List ℕ) (path : Option (List ℕ))
    → text ≡ codes "https://" ++ rest → pattern_behind (Some rest) ≡ Some (Pattern authority path)
    → IsAddressPattern text authority path
of_rest text rest authority path split is =
    elim (is_authority (before_slash rest)) as
    (λ b. is_authority (before_slash rest) ≡ b
    → (if b then Some (Pattern (before_slash rest) (from_slash rest)) else None)
    ≡ Some (Pattern authority path) → IsAddressPattern text authority path) [
      | true ↦ λ host is.
          let front : before_slash rest ≡ authority = cc in
          let back : from_slash rest ≡ path = cc in
          record {
            split =
                split
                ∙ ap (λ t. codes "https://" ++ t)
                (slash_split rest
                ∙ ap (λ t. t ++ text_or_nothing (from_slash rest)) front
                ∙ ap (λ p. authority ++ text_or_nothing p) back);
            host = ap is_authority (sym front) ∙ host;
            one_part = ap (list_any (λ c. c == 47)) (sym front) ∙ no_slash_before rest;
            rest = subst BeginsWithSlash back (slash_first rest);
          }
      | false ↦ λ host is. cc
    ] refl is

pub pattern_of : (text authority : List ℕ) (path : Option (List ℕ))
    → address_pattern text ≡ Some (Pattern authority path) → IsAddressPattern text authority path
pattern_of text authority path is =
    elim (behind (codes "https://") text) as
    (λ o. behind (codes "https://") text ≡ o → pattern_behind o ≡ Some (Pattern authority path)
    → IsAddressPattern text authority path) [
      | None ↦ λ e is. cc
      | Some rest ↦ λ e is.
          of_rest text rest authority path (behind_split (codes "https://") text rest e) is
    ] refl is

pub pattern_found : (text authority : List ℕ) (path : Option (List ℕ))
    → IsAddressPattern text authority path → address_pattern text ≡ Some (Pattern authority path)
pattern_found text authority path is =
    let rest = authority ++ text_or_nothing path in
    let front : before_slash rest ≡ authority =
    before_both authority (text_or_nothing path) is.one_part
    ∙ ap (λ t. authority ++ t) (before_path path is.rest) ∙ append-nil authority in
    let back : from_slash rest ≡ path =
    from_both authority (text_or_nothing path) is.one_part ∙ from_path path is.rest in
    ap address_pattern is.split
    ∙ ap pattern_behind (behind_front (codes "https://") rest)
    ∙ ap
    (λ a. if is_authority a then Some (Pattern a (from_slash rest)) else None) front
    ∙ ap (λ p. if is_authority authority then Some (Pattern authority p) else None) back
    ∙ ap (λ b. if b then Some (Pattern authority path) else None) is.host

no_more : (cs : List ℕ) → is_nothing (cs ++ 42 ∷ []) ≡ false
no_more [] = refl
no_more (c ∷ cs) = refl

and_false : (a b : Bool) → b ≡ false → (a && b) ≡ false
and_false true b is = is
and_false false b is = refl

pub star_behind : (front : List ℕ) → before_last_star (front ++ 42 ∷ []) ≡ Some front
star_behind [] = refl
star_behind (c ∷ cs) =
    let text = cs ++ 42 ∷ [] in
    ap
    (λ b. if b then Some [] else option_map (λ t. c ∷ t) (before_last_star text))
    (and_false (c == 42) (is_nothing text) (no_more cs))
    ∙ ap (option_map (λ t. c ∷ t)) (star_behind cs)

behind_first : (c : ℕ) (cs front : List ℕ) (o : Option (List ℕ)) → before_last_star cs ≡ o
    → ((f : List ℕ) → before_last_star cs ≡ Some f → cs ≡ f ++ 42 ∷ [])
    → option_map (λ t. c ∷ t) o ≡ Some front → (c ∷ cs) ≡ front ++ 42 ∷ []
behind_first c cs front None e rest is = cc
behind_first c cs front (Some f) e rest is =
    let same : c ∷ f ≡ front = cc in
    ap (λ t. c ∷ t) (rest f e) ∙ ap (λ t. t ++ 42 ∷ []) same

alone : (c : ℕ) (cs front : List ℕ) → (c == 42 && is_nothing cs) ≡ true
    → Some [] ≡ Some front → (c ∷ cs) ≡ front ++ 42 ∷ []
alone c [] front last is =
    let e : c ≡ 42 = grind (arith, nat_tests) in
    let none : [] ≡ front = cc in
    ap (λ k. k ∷ []) e ∙ ap (λ t. t ++ 42 ∷ []) none
alone c (d ∷ ds) front last is = absurd (let no : false ≡ true =
    sym (and_false (c == 42) false refl) ∙ last in cc)

pub star_of : (text front : List ℕ) → before_last_star text ≡ Some front
    → text ≡ front ++ 42 ∷ []
star_of [] front is = cc
star_of (c ∷ cs) front is =
    elim (c == 42 && is_nothing cs) as
    (λ b. (c == 42 && is_nothing cs) ≡ b
    → (if b then Some [] else option_map (λ t. c ∷ t) (before_last_star cs)) ≡ Some front
    → (c ∷ cs) ≡ front ++ 42 ∷ []) [
      | true ↦ λ last is. alone c cs front last is
      | false ↦ λ other is. behind_first c cs front (before_last_star cs) refl (star_of cs) is
    ] refl is
