-- Members that were put to their places, in order of the bytes of their keys.
use Rattle.std.proofs.Common.{◌≡◌, ◌≤◌, ℕ, zero, suc, List, [], ◌∷◌, Option, Some, None, Ordering}
use Rattle.std.proofs.Common.{Less, Equal, Greater, option_map, refl, sym, ap, ◌∙◌, arith}
use Rattle.std.specs.Prelude.{IsSome, insert, encode_utf8_all, ⊤}
use Rattle.std.specs.Ordering.{nat_cmp, match_ordering}
use Rattle.std.specs.Cmp.Lexicographic.{slice_cmp}
use Rattle.std.specs.Str.{chars}
use Rattle.serde_json.specs.Data as json
use Rattle.serde_json.specs.Data.{put, depth, members_depth}
use Rattle.gtm_data.specs.declared.data.Data.{Data}
use Rattle.gtm_data.specs.Parsing.{AllWhole, MembersWhole, place_for}
use Rattle.gtm_data.specs.Plain.{tree_in, entries_in}
use Rattle.gtm_data.specs.Tree.{entry, tree_of, entries_of}

-- the member with this key and value is this pair, and nests at most so many levels deep
abbrev pub Matches : ℕ → List ℕ → json.Data → List ℕ × Data → Type 0
Matches levels key d pair =
    (key ≡ encode_utf8_all pair.0) × (pair.0 ≡ chars key) × (tree_of pair.1 ≡ tree_in d)
    × AllWhole d × (depth d ≤ levels)

-- the same of each member, in order
abbrev pub AllMatch : ℕ → json.Members → List (List ℕ × Data) → Type 0
AllMatch levels json.no_members [] = ⊤
AllMatch levels json.no_members (p ∷ ps) = ⊥
AllMatch levels (json.member key d ms) [] = ⊥
AllMatch levels (json.member key d ms) (p ∷ ps) = Matches levels key d p × AllMatch levels ms ps

module _ (levels : ℕ) where
  pub matched_entries : (ms : json.Members) (ps : List (List ℕ × Data)) → AllMatch levels ms ps
      → entries_of ps ≡ entries_in ms
  unfolding entries_in
  matched_entries json.no_members [] h = refl
  matched_entries json.no_members (p ∷ ps) h = absurd h
  matched_entries (json.member key d ms) [] h = absurd h
  matched_entries (json.member key d ms) (p ∷ ps) h =
      λ i. entry (h.0.1 i) (h.0.2 i) (matched_entries ms ps h.1 i)

  pub matched_whole : (ms : json.Members) (ps : List (List ℕ × Data)) → AllMatch levels ms ps
      → MembersWhole ms
  matched_whole json.no_members [] h = tt
  matched_whole json.no_members (p ∷ ps) h = absurd h
  matched_whole (json.member key d ms) [] h = absurd h
  matched_whole (json.member key d ms) (p ∷ ps) h = (h.0.3, matched_whole ms ps h.1)

  pub matched_within : (ms : json.Members) (ps : List (List ℕ × Data)) → AllMatch levels ms ps
      → members_depth ms ≤ levels
  matched_within json.no_members [] h = omega arith
  matched_within json.no_members (p ∷ ps) h = absurd h
  matched_within (json.member key d ms) [] h = absurd h
  matched_within (json.member key d ms) (p ∷ ps) h =
      let first = h.0.4 in let rest = matched_within ms ps h.1 in omega arith

module _ (levels : ℕ) (key name : List ℕ) (d : json.Data) (value : Data)
    (here : Matches levels key d (name, value)) where
  at_place : (o : Ordering) (other : List ℕ) (e : json.Data) (ms : json.Members)
      (p : List ℕ × Data) (ps : List (List ℕ × Data)) (later : Option ℕ) (at : ℕ)
      → AllMatch levels (json.member other e ms) (p ∷ ps)
      → ((place : ℕ) → later ≡ Some place
      → AllMatch levels (put key d ms) (insert ps place (name, value)))
      → match_ordering o (Some 0) None (option_map suc later) ≡ Some at
      → AllMatch levels
      (match_ordering o (json.member key d (json.member other e ms)) (json.member other d ms)
      (json.member other e (put key d ms)))
      (insert (p ∷ ps) at (name, value))
  at_place Less other e ms p ps later zero h more is = (here, h)
  at_place Less other e ms p ps later (suc at) h more is = absurd (cc)
  at_place Equal other e ms p ps later at h more is = absurd (cc)
  at_place Greater other e ms p ps None at h more is = absurd (cc)
  at_place Greater other e ms p ps (Some place) zero h more is = absurd (cc)
  at_place Greater other e ms p ps (Some place) (suc at) h more is =
      let same : place ≡ at = cc in (h.0, more at (ap Some same))

  -- the member goes to its place among the pairs as it does among the members
  pub matched_put : (ms : json.Members) (ps : List (List ℕ × Data)) (at : ℕ)
      → AllMatch levels ms ps → place_for key ps ≡ Some at
      → AllMatch levels (put key d ms) (insert ps at (name, value))
  matched_put json.no_members [] zero h is = (here, tt)
  matched_put json.no_members [] (suc at) h is = absurd (cc)
  matched_put json.no_members (p ∷ ps) at h is = absurd h
  matched_put (json.member other e ms) [] at h is = absurd h
  matched_put (json.member other e ms) (p ∷ ps) at h is =
      let same : slice_cmp nat_cmp key (encode_utf8_all p.0) ≡ slice_cmp nat_cmp key other =
      ap (slice_cmp nat_cmp key) (sym h.0.0) in
      at_place (slice_cmp nat_cmp key other) other e ms p ps (place_for key ps) at h
      (λ place found. matched_put ms ps place h.1 found)
      (ap (λ o. match_ordering o (Some 0) None (option_map suc (place_for key ps))) (sym same)
      ∙ is)

pub place_there : (place : Option ℕ) → IsSome place → (at : ℕ) × (place ≡ Some at)
place_there None there = absurd (cc)
place_there (Some at) there = (at, refl)
