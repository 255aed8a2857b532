-- The places of keys: how they stand in a map, and what is found among them.
use Rattle.std.proofs.Common.{◌≡◌, ◌∙◌, ap, sym, refl, ℕ, suc, ◌+◌, List, [], ◌∷◌, ◌++◌, length}
use Rattle.std.proofs.Common.{Bool, true, false, cond, map, not, ◌||◌, arith, true≢false}
use Rattle.std.proofs.Common.{Ordering, Less, Equal, Greater, ◌<◌, ◌≤◌, get_or, take}
use Rattle.std.proofs.lemmas.List.{length-take-le}
use Rattle.std.proofs.Math.Seq.{take-length, take-suc}
use Rattle.std.proofs.lemmas.Bool.Decides.{nat_tests}
use Rattle.std.specs.Prelude.{Option, Some, None, option_map, encode_utf8_all, if◌then◌else◌}
use Rattle.std.specs.Prelude.{String, string_bytes, nat_lt, option_and_then, IfSome, IfNone, insert}
use Rattle.std.specs.BTreeMap.{insert_entry}
use Rattle.std.specs.Cmp.Lexicographic.{slice_cmp}
use Rattle.std.specs.Map.{lookup}
use Rattle.std.specs.Ordering.{is_eq, nat_cmp, match_ordering}
use Rattle.std.specs.Str.{bytes_eq}
use Rattle.std.specs.declared.alloc.Global.{Global}
use Rattle.std.proofs.lemmas.Map.Lookups.{exact_bytes}
use Rattle.std.proofs.lemmas.Map.Text.{is_eq-slice_cmp}
use Rattle.std.proofs.lemmas.Slice.Eq.{bytes_eq-Decides}
use Rattle.gtm_base.specs.KeyPlaces.{Places, kept_place, with_place, with_places}
use Rattle.gtm_base.specs.KeyPlaces.{places_of}
use Rattle.gtm_base.specs.declared.key_places.TheConstants.{MAX_SCANNED}
use Rattle.gtm_base.specs.Keys.{has_key, distinct_keys, place_of}
use Rattle.gtm_base.proofs.Characters.{bytes_eq-encoded}
use Rattle.std.proofs.lemmas.Option.{slice_get_within}
use Rattle.std.proofs.lemmas.List.Edits.{length-insert}
use Rattle.gtm_base.proofs.KeyLaws.{not_true}
use Rattle.gtm_base.proofs.Lookups.{found_at}
use Rattle.gtm_base.proofs.Pairs.{and_true, bytes_eq-sym, or_false}

some_same : {A : Type 0} {x y : A} → Some x ≡ Some y → x ≡ y
some_same is = cc

abbrev Entry : Type 0
Entry = String Global × ℕ

abbrev pub in_bytes : Entry → List ℕ × ℕ
in_bytes entry = (string_bytes entry.0, entry.1)

-- what is found at these bytes
abbrev pub found_by : List ℕ → Places → Option ℕ
found_by bytes places = lookup (λ key. is_eq (slice_cmp nat_cmp bytes key)) places

-- a place is put at these bytes
abbrev pub put_bytes : ℕ → Places → List ℕ → Places
put_bytes at places bytes = insert_entry (slice_cmp nat_cmp) places bytes at

-- what is found by a text among entries is found by its bytes among their bytes
pub found_in_bytes : (bytes : List ℕ) (entries : List Entry)
    → lookup (λ key. is_eq (slice_cmp nat_cmp bytes (string_bytes key))) entries
    ≡ lookup (λ key. is_eq (slice_cmp nat_cmp bytes key)) (map in_bytes entries)
found_in_bytes bytes [] = refl
found_in_bytes bytes (entry ∷ entries) =
    ap (cond (is_eq (slice_cmp nat_cmp bytes (string_bytes entry.0))) (Some entry.1))
    (found_in_bytes bytes entries)

abbrev by_bytes : String Global → String Global → Ordering
by_bytes some other = slice_cmp nat_cmp (string_bytes some) (string_bytes other)

put_at : (order : Ordering) (key : String Global) (at : ℕ) (entry : Entry) (entries more : List Entry)
    (placed : Places) → map in_bytes more ≡ placed
    → map in_bytes (match_ordering order ((key, at) ∷ entry ∷ entries) ((entry.0, at) ∷ entries)
    (entry ∷ more))
    ≡ match_ordering order ((string_bytes key, at) ∷ in_bytes entry ∷ map in_bytes entries)
    ((string_bytes entry.0, at) ∷ map in_bytes entries) (in_bytes entry ∷ placed)
put_at Less key at entry entries more placed same = refl
put_at Equal key at entry entries more placed same = refl
put_at Greater key at entry entries more placed same = ap (λ rest. in_bytes entry ∷ rest) same

-- an entry is put among entries where its bytes are put among their bytes
pub put_in_bytes : (key : String Global) (at : ℕ) (entries : List Entry)
    → map in_bytes (insert_entry by_bytes entries key at)
    ≡ insert_entry (slice_cmp nat_cmp) (map in_bytes entries) (string_bytes key) at
put_in_bytes key at [] = refl
put_in_bytes key at (entry ∷ entries) =
    put_at (slice_cmp nat_cmp (string_bytes key) (string_bytes entry.0)) key at entry entries
    (insert_entry by_bytes entries key at)
    (insert_entry (slice_cmp nat_cmp) (map in_bytes entries) (string_bytes key) at)
    (put_in_bytes key at entries)

-- one more pair behind the others
pub with_places-push : {A : Type 0} (at : ℕ) (pairs : List (List ℕ × A)) (pair : List ℕ × A)
    (places : Places)
    → with_places at (pairs ++ pair ∷ []) places
    ≡ with_place pair.0 (at + length pairs) (with_places at pairs places)
with_places-push at [] pair places =
    let none : at ≡ at + 0 = omega arith in ap (λ n. with_place pair.0 n places) none
with_places-push at (first ∷ pairs) pair places =
    let next : suc at + length pairs ≡ at + suc (length pairs) = omega arith in
    with_places-push (suc at) pairs pair (with_place first.0 at places)
    ∙ ap (λ n. with_place pair.0 n (with_places (suc at) pairs (with_place first.0 at places))) next

-- the first pairs, with one more of them
pub with_places-more : {A : Type 0} (pairs : List (List ℕ × A)) (at : ℕ) (pair : List ℕ × A)
    → at < length pairs → pair ≡ get_or pairs at pair
    → with_places 0 (take (at + 1) pairs) []
    ≡ with_place pair.0 at (with_places 0 (take at pairs) [])
with_places-more pairs at pair within is =
    let le : at ≤ length pairs = omega arith in
    let all : 0 + length (take at pairs) ≡ length (take at pairs) = omega arith in
    let next : at + 1 ≡ suc at = omega arith in
    ap (λ n. with_places 0 (take n pairs) []) next
    ∙ ap (λ front. with_places 0 front [])
    (take-suc pairs at pair within ∙ ap (λ p. take at pairs ++ p ∷ []) (sym is))
    ∙ with_places-push 0 (take at pairs) pair []
    ∙ ap (λ n. with_place pair.0 n (with_places 0 (take at pairs) []))
    (all ∙ length-take-le at pairs le)

-- the places that are kept of pairs, by whether these are many
kept_of : {A : Type 0} (many : Bool) (front : List (List ℕ × A)) (kept : Places)
    → Some kept ≡ (if many then Some (with_places 0 front []) else None)
    → (many ≡ true) × (kept ≡ with_places 0 front [])
kept_of true front kept is = (refl, some_same is)
kept_of false front kept is = absurd (cc)

-- one more of many pairs
pub places_of-more : {A : Type 0} (pairs : List (List ℕ × A)) (last : ℕ) (pair : List ℕ × A)
    (kept : Places) → length pairs ≡ last + 1 → pair ≡ get_or pairs last pair
    → Some kept ≡ places_of (take last pairs)
    → Some (with_place pair.0 last kept) ≡ places_of pairs
places_of-more pairs last pair kept count is before =
    let le : last ≤ length pairs = omega arith in
    let within : last < length pairs = omega arith in
    let front = take last pairs in
    let both = kept_of (nat_lt MAX_SCANNED (length front)) front kept before in
    let many : nat_lt MAX_SCANNED (length pairs) ≡ true =
    grind (arith, nat_tests, both.0, length-take-le last pairs le) in
    let all : take (last + 1) pairs ≡ pairs = ap (λ n. take n pairs) (sym count) ∙ take-length pairs in
    rw many
    (ap (λ places. Some (with_place pair.0 last places)) both.1
    ∙ ap Some (sym (with_places-more pairs last pair within is))
    ∙ ap (λ ps. Some (with_places 0 ps [])) all)

one_test : (test : Bool) (some other rest : Option ℕ)
    → cond test some rest ≡ cond test some (cond test other rest)
one_test true some other rest = refl
one_test false some other rest = refl

two_tests : (test other : Bool) (a b rest : Option ℕ) → (test ≡ true → other ≡ true → ⊥)
    → cond test a (cond other b rest) ≡ cond other b (cond test a rest)
two_tests true true a b rest apart = absurd (apart refl refl)
two_tests true false a b rest apart = refl
two_tests false other a b rest apart = refl

not_both : (key bytes other : List ℕ) → slice_cmp nat_cmp key other ≡ Greater
    → is_eq (slice_cmp nat_cmp bytes other) ≡ true → bytes_eq bytes key ≡ true → ⊥
not_both key bytes other greater one two =
    let first : bytes ≡ other = (bytes_eq-Decides bytes other).0 (sym (is_eq-slice_cmp bytes other) ∙ one) in
    let second : bytes ≡ key = (bytes_eq-Decides bytes key).0 two in
    let same : bytes_eq key other ≡ true = (bytes_eq-Decides key other).1 (sym second ∙ first) in
    true≢false (sym same ∙ sym (is_eq-slice_cmp key other) ∙ ap is_eq greater)

put_found : (order : Ordering) (key bytes : List ℕ) (at : ℕ) (entry : List ℕ × ℕ)
    (entries more : Places) → slice_cmp nat_cmp key entry.0 ≡ order
    → found_by bytes more ≡ cond (bytes_eq bytes key) (Some at) (found_by bytes entries)
    → found_by bytes
    (match_ordering order ((key, at) ∷ entry ∷ entries) ((entry.0, at) ∷ entries) (entry ∷ more))
    ≡ cond (bytes_eq bytes key) (Some at) (found_by bytes (entry ∷ entries))
put_found Less key bytes at entry entries more is rest =
    ap (λ test. cond test (Some at) (found_by bytes (entry ∷ entries))) (is_eq-slice_cmp bytes key)
put_found Equal key bytes at entry entries more is rest =
    let same : key ≡ entry.0 = exact_bytes key entry.0 is in
    let tests : is_eq (slice_cmp nat_cmp bytes entry.0) ≡ bytes_eq bytes key =
    is_eq-slice_cmp bytes entry.0 ∙ ap (bytes_eq bytes) (sym same) in
    rw tests (one_test (bytes_eq bytes key) (Some at) (Some entry.1) (found_by bytes entries))
put_found Greater key bytes at entry entries more is rest =
    let test = is_eq (slice_cmp nat_cmp bytes entry.0) in
    ap (cond test (Some entry.1)) rest
    ∙ two_tests test (bytes_eq bytes key) (Some entry.1) (Some at) (found_by bytes entries)
    (not_both key bytes entry.0 is)

-- what is found once a place was put
found-put : (key bytes : List ℕ) (at : ℕ) (places : Places)
    → found_by bytes (put_bytes at places key)
    ≡ cond (bytes_eq bytes key) (Some at) (found_by bytes places)
found-put key bytes at [] = ap (λ test. cond test (Some at) None) (is_eq-slice_cmp bytes key)
found-put key bytes at (entry ∷ entries) =
    put_found (slice_cmp nat_cmp key entry.0) key bytes at entry entries
    (put_bytes at entries key) refl (found-put key bytes at entries)

kept-put : (key new : List ℕ) (at : ℕ) (places : Places)
    → kept_place key (with_place new at places)
    ≡ cond (bytes_eq new key) (Some at) (kept_place key places)
kept-put key new at places =
    found-put (encode_utf8_all new) (encode_utf8_all key) at places
    ∙ ap (λ test. cond test (Some at) (kept_place key places))
    (bytes_eq-encoded key new ∙ bytes_eq-sym key new)

-- a place, counted on from another one, and else what was kept
abbrev counted_on : ℕ → Option ℕ → Option ℕ → Option ℕ
counted_on at None kept = kept
counted_on at (Some place) kept = Some (place + at)

place_of-absent : {A : Type 0} (key : List ℕ) (pairs : List (List ℕ × A))
    → has_key key pairs ≡ false → place_of key pairs ≡ None
place_of-absent key [] lacks = refl
place_of-absent key (pair ∷ pairs) lacks =
    let both = or_false (bytes_eq pair.0 key) (has_key key pairs) lacks in
    rw both.0 (ap (option_map suc) (place_of-absent key pairs both.1))

kept_first : {A : Type 0} (test : Bool) (key : List ℕ) (pair : List ℕ × A)
    (pairs : List (List ℕ × A)) (at : ℕ) (place kept : Option ℕ) → bytes_eq pair.0 key ≡ test
    → has_key pair.0 pairs ≡ false → place_of key pairs ≡ place
    → counted_on (suc at) place (cond test (Some at) kept)
    ≡ counted_on at (if test then Some 0 else option_map suc place) kept
kept_first true key pair pairs at None kept is lacks found =
    let here : at ≡ 0 + at = omega arith in ap Some here
kept_first true key pair pairs at (Some place) kept is lacks found =
    let same : pair.0 ≡ key = (bytes_eq-Decides pair.0 key).0 is in
    let none : place_of key pairs ≡ None =
    place_of-absent key pairs (ap (λ k. has_key k pairs) (sym same) ∙ lacks) in
    let never : Some place ≡ None = sym found ∙ none in absurd (cc never)
kept_first false key pair pairs at None kept is lacks found = refl
kept_first false key pair pairs at (Some place) kept is lacks found =
    let next : place + suc at ≡ suc place + at = omega arith in ap Some next

kept_later : {A : Type 0} (key : List ℕ) (pairs : List (List ℕ × A)) (at : ℕ) (places : Places)
    → distinct_keys pairs ≡ true
    → kept_place key (with_places at pairs places)
    ≡ counted_on at (place_of key pairs) (kept_place key places)
kept_later key [] at places distinct = refl
kept_later key (pair ∷ pairs) at places distinct =
    let both = and_true (not (has_key pair.0 pairs)) (distinct_keys pairs) distinct in
    kept_later key pairs (suc at) (with_place pair.0 at places) both.1
    ∙ ap (counted_on (suc at) (place_of key pairs)) (kept-put key pair.0 at places)
    ∙ kept_first (bytes_eq pair.0 key) key pair pairs at (place_of key pairs)
    (kept_place key places) refl (not_true (has_key pair.0 pairs) both.0) refl

counted_from_start : (place : Option ℕ) → counted_on 0 place None ≡ place
counted_from_start None = refl
counted_from_start (Some place) = let none : place + 0 ≡ place = omega arith in ap Some none

-- among many pairs, the place that is kept for a key is its place
pub kept_is : {A : Type 0} (key : List ℕ) (pairs : List (List ℕ × A)) → distinct_keys pairs ≡ true
    → MAX_SCANNED < length pairs
    → option_and_then (kept_place key) (places_of pairs) ≡ place_of key pairs
kept_is key pairs distinct long =
    let many : nat_lt MAX_SCANNED (length pairs) ≡ true = grind (arith, nat_tests) in
    rw many (kept_later key pairs 0 [] distinct ∙ counted_from_start (place_of key pairs))

-- of few pairs no places are kept
pub few : {A : Type 0} (pairs : List (List ℕ × A)) → length pairs ≤ MAX_SCANNED
    → places_of pairs ≡ None
few pairs short =
    let test : nat_lt MAX_SCANNED (length pairs) ≡ false = grind (arith, nat_tests) in rw test refl

lacking_later : (test has : Bool) (place : Option ℕ)
    → (if test then Some 0 else option_map suc place) ≡ None → (place ≡ None → has ≡ false)
    → (test || has) ≡ false
lacking_later true has place is later = absurd (cc)
lacking_later false has None is later = later refl
lacking_later false has (Some at) is later = absurd (cc)

lacking : {A : Type 0} (key : List ℕ) (pairs : List (List ℕ × A)) → place_of key pairs ≡ None
    → has_key key pairs ≡ false
lacking key [] is = refl
lacking key (pair ∷ pairs) is =
    lacking_later (bytes_eq pair.0 key) (has_key key pairs) (place_of key pairs) is
    (lacking key pairs)

-- a place lies among the pairs
pub place_within : {A : Type 0} (key : List ℕ) (pairs : List (List ℕ × A)) (place : Option ℕ)
    → place_of key pairs ≡ place → IfSome place (λ at. at < length pairs)
place_within key pairs None is = tt
place_within key pairs (Some at) is =
    let found = found_at key pairs at is in slice_get_within pairs at (key, found.value) found.pair

-- a key without a place is nobody's
pub place_lacks : {A : Type 0} (key : List ℕ) (pairs : List (List ℕ × A)) (place : Option ℕ)
    → place_of key pairs ≡ place → IfNone place (has_key key pairs ≡ false)
place_lacks key pairs None is = lacking key pairs is
place_lacks key pairs (Some at) is = tt

-- one more of few pairs
pub few_more : {A : Type 0} (pairs : List (List ℕ × A)) (at : ℕ) (pair : List ℕ × A)
    → at ≤ length pairs → length pairs < MAX_SCANNED → places_of (insert pairs at pair) ≡ None
few_more pairs at pair within short =
    let count = length-insert pairs at pair within in
    let le : length (insert pairs at pair) ≤ MAX_SCANNED = rw count (omega arith) in
    few (insert pairs at pair) le
