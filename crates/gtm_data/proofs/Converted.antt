-- JSON values beside the data made of them.
use Rattle.std.proofs.Common.{◌≡◌, ℕ, List, [], ◌∷◌, ◌++◌, map, String, Global, Ordering, Less}
use Rattle.std.proofs.Common.{Equal, string_bytes, string_cmp, nat_cmp, Bool, true, false, ◌||◌}
use Rattle.std.proofs.Common.{refl, sym, ap, ◌∙◌}
use Rattle.std.proofs.lemmas.Cmp.{nat_list_cmp_total, tied_itself}
use Rattle.std.proofs.lemmas.Slice.Eq.{bytes_eq-Decides}
use Rattle.std.proofs.lemmas.Str.{encodes-chars, IsUtf8-string_bytes}
use Rattle.std.specs.Prelude.{encode_utf8_all}
use Rattle.std.specs.Cmp.Lexicographic.{slice_cmp}
use Rattle.std.specs.List.{AllByRecursion}
use Rattle.std.specs.List.Sorted.{IsStrictlySortedBy}
use Rattle.std.specs.Map.{keys_of}
use Rattle.std.specs.Str.{chars, bytes_eq}
use Rattle.serde_json.specs.View.{view, items_view, members_view}
use Rattle.serde_json.specs.declared.value.Value.{Value}
use Rattle.serde_json.proofs.Views.{Entry}
use Rattle.gtm_base.specs.Keys.{has_key}
use Rattle.gtm_data.specs.declared.data.Data.{Data}
use Rattle.gtm_data.specs.Distinct.{has_member}
use Rattle.gtm_data.specs.Tree.{Tree, Entries, none, entry, item, trees, tree_of, entries_of}
use Rattle.gtm_data.specs.Plain.{tree_in, trees_in, entries_in}

pub trees_in-map : (values : List Value)
    → trees (map (λ v. tree_in (view v)) values) ≡ trees_in (items_view values)
unfolding trees_in
trees_in-map [] = refl
trees_in-map (v ∷ values) = ap (item (tree_in (view v))) (trees_in-map values)

abbrev behind : Entries → List ℕ → Tree → Entries
behind none key t = entry key t none
behind (entry other u es) key t = entry other u (behind es key t)

entries_of-push : (members : List (List ℕ × Data)) (key : List ℕ) (d : Data)
    → entries_of (members ++ (key, d) ∷ []) ≡ behind (entries_of members) key (tree_of d)
entries_of-push [] key d = refl
entries_of-push (m ∷ members) key d = ap (entry m.0 (tree_of m.1)) (entries_of-push members key d)

entries_in-push : (done : List Entry) (e : Entry)
    → entries_in (members_view (done ++ e ∷ []))
    ≡ behind (entries_in (members_view done)) (chars (string_bytes e.0)) (tree_in (view e.1))
unfolding entries_in
entries_in-push [] e = refl
entries_in-push (d ∷ done) e =
    ap (entry (chars (string_bytes d.0)) (tree_in (view d.1))) (entries_in-push done e)

-- one more member
pub pushed : (members : List (List ℕ × Data)) (key : List ℕ) (d : Data) (done : List Entry)
    (e : Entry) → entries_of members ≡ entries_in (members_view done)
    → key ≡ chars (string_bytes e.0) → tree_of d ≡ tree_in (view e.1)
    → entries_of (members ++ (key, d) ∷ []) ≡ entries_in (members_view (done ++ e ∷ []))
pushed members key d done e same named valued =
    entries_of-push members key d ∙ (λ i. behind (same i) (named i) (valued i))
    ∙ sym (entries_in-push done e)

has_key-entries : (key : List ℕ) (members : List (List ℕ × Data))
    → has_key key members ≡ has_member key (entries_of members)
has_key-entries key [] = refl
has_key-entries key (m ∷ members) = ap (λ b. bytes_eq m.0 key || b) (has_key-entries key members)

not_less : {o : Ordering} → o ≡ Equal → o ≡ Less → ⊥
not_less e f = cc

apart_at : (b : Bool) (d e : String Global) → string_cmp d e ≡ Less
    → bytes_eq (chars (string_bytes d)) (chars (string_bytes e)) ≡ b → b ≡ false
apart_at true d e less is =
    let same : string_bytes d ≡ string_bytes e
    =
    sym (encodes-chars (string_bytes d) (IsUtf8-string_bytes d))
    ∙ ap encode_utf8_all
    ((bytes_eq-Decides (chars (string_bytes d)) (chars (string_bytes e))).0 is)
    ∙ encodes-chars (string_bytes e) (IsUtf8-string_bytes e) in
    let tied : string_cmp d e ≡ Equal =
    ap (slice_cmp nat_cmp (string_bytes d)) (sym same)
    ∙ tied_itself nat_list_cmp_total (string_bytes d) in
    absurd (not_less tied less)
apart_at false d e less is = refl

below_middle : (first : Entry) (es : List Entry) (e : Entry) (more : List Entry)
    → AllByRecursion (λ y. string_cmp first.0 y ≡ Less) (keys_of (es ++ e ∷ more))
    → string_cmp first.0 e.0 ≡ Less
below_middle first [] e more h = h.0
below_middle first (x ∷ es) e more h = below_middle first es e more h.1

is_new : (done : List Entry) (e : Entry) (more : List Entry)
    → IsStrictlySortedBy string_cmp (keys_of (done ++ e ∷ more))
    → has_member (chars (string_bytes e.0)) (entries_in (members_view done)) ≡ false
unfolding IsStrictlySortedBy entries_in
is_new [] e more h = refl
is_new (d ∷ done) e more h =
    λ i. apart_at _ d.0 e.0 (below_middle d done e more h.0) refl i || is_new done e more h.1 i

-- the key of a member is in none of those before it, since they are sorted
pub new_key : (members : List (List ℕ × Data)) (done : List Entry) (e : Entry) (more : List Entry)
    → entries_of members ≡ entries_in (members_view done)
    → IsStrictlySortedBy string_cmp (keys_of (done ++ e ∷ more))
    → has_key (chars (string_bytes e.0)) members ≡ false
new_key members done e more same sorted =
    has_key-entries (chars (string_bytes e.0)) members
    ∙ ap (has_member (chars (string_bytes e.0))) same ∙ is_new done e more sorted
