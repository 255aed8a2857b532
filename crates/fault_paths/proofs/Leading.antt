-- The path of each value leads to it.
use Rattle.std.proofs.Common.{◌≡◌, ◌⊎◌, inl, inr, ℕ, suc, ◌+◌, ◌≤◌, ◌<◌, ◌^◌, List, [], ◌∷◌, ◌++◌}
use Rattle.std.proofs.Common.{Some, None, All, map, refl, sym, ap, ◌∙◌, arith, append-nil, decimal}
use Rattle.std.proofs.Common.{encode_utf8_all, bytes_eq, Bool, false, true, find, subst, Option}
use Rattle.std.proofs.Common.{option_map, option_and_then, chars}
use Rattle.std.proofs.Common.{Ordering, Less, Equal, Greater, is_eq}
use Rattle.std.specs.Ordering.{match_ordering, nat_cmp}
use Rattle.std.specs.Cmp.Lexicographic.{slice_cmp}
use Rattle.std.specs.List.{flat_map}
use Rattle.std.specs.Prelude.{if◌then◌else◌}
use Rattle.std.specs.Str.{IsUtf8}
use Rattle.std.proofs.lemmas.List.Elements.{All-append, All-cons, All-head, All-map, All-nil}
use Rattle.std.proofs.lemmas.List.Elements.{All-tail, All-weaker}
use Rattle.std.proofs.lemmas.Fmt.{IsAscii-decimal}
use Rattle.std.proofs.lemmas.Map.Text.{is_eq-slice_cmp}
use Rattle.std.proofs.lemmas.Slice.Eq.{bytes_eq-Decides}
use Rattle.std.proofs.lemmas.Str.{encode_ascii, encodes-IsAscii, encodes-chars}
use Rattle.fault_paths.specs.Keyed.{IsKeyed, AreKeyed, HaveEachKey, count_of}
use Rattle.fault_paths.proofs.Escapes.{encoded-append, lacks, no_slash, read_back}
use Rattle.fault_paths.proofs.Places.{index_of-decimal, plain_digits}
use Rattle.gtm_data.specs.Plain.{Node, index_step, inside, item_nodes, key_step, member_nodes}
use Rattle.gtm_data.specs.Plain.{first_path, nodes, pointer_char, root}
use Rattle.serde_json.proofs.Paths.{Lacks, walk_last, walk_part}
use Rattle.serde_json.specs.Data as json
use Rattle.serde_json.specs.Find.{index_of, get_item, get_member, pointer, step, walk}

slash_first : (rest : List ℕ) → encode_utf8_all (47 ∷ rest) ≡ 47 ∷ encode_utf8_all rest
slash_first rest = ap (λ bs. bs ++ encode_utf8_all rest) (encode_ascii 47 (omega arith))

-- a path is empty, or begins with a slash; and it leads to the value
pub record Leads (d : json.Data) (node : Node) : Type 0 where
  pub form : (node.path ≡ []) ⊎ ((rest : List ℕ) × (node.path ≡ 47 ∷ rest))
  pub found : pointer (encode_utf8_all node.path) d ≡ Some node.value

pub at_root : (d : json.Data) → Leads d (root d)
at_root d = record { form = inl refl; found = refl }

-- a part that leads from one value to another
pub record IsPart (d child : json.Data) (part : List ℕ) : Type 0 where
  pub bare : Lacks 47 (encode_utf8_all part)
  pub leads : step (encode_utf8_all part) d ≡ Some child

module _ (d child : json.Data) (part : List ℕ) (is : IsPart d child part) where
  at_end : (value : json.Data) → pointer [] child ≡ Some value
      → walk [] (encode_utf8_all part ++ []) d ≡ Some value
  at_end value found =
      ap (λ text. walk [] text d) (append-nil (encode_utf8_all part))
      ∙ walk_last (encode_utf8_all part) d is.bare ∙ is.leads ∙ found

  further : (rest : List ℕ) (value : json.Data)
      → pointer (47 ∷ encode_utf8_all rest) child ≡ Some value
      → walk [] (encode_utf8_all part ++ 47 ∷ encode_utf8_all rest) d ≡ Some value
  further rest value found =
      walk_part (encode_utf8_all part) (encode_utf8_all rest) d is.bare
      ∙ ap (option_and_then (walk [] (encode_utf8_all rest))) is.leads ∙ found

  walked : (path : List ℕ) (value : json.Data)
      → ((path ≡ []) ⊎ ((rest : List ℕ) × (path ≡ 47 ∷ rest)))
      → pointer (encode_utf8_all path) child ≡ Some value
      → walk [] (encode_utf8_all (part ++ path)) d ≡ Some value
  walked path value (inl empty) found =
      ap (λ text. walk [] text d) (encoded-append part path)
      ∙ ap (λ p. walk [] (encode_utf8_all part ++ encode_utf8_all p) d) empty
      ∙ at_end value (ap (λ p. pointer (encode_utf8_all p) child) (sym empty) ∙ found)
  walked path value (inr (rest, slashed)) found =
      ap (λ text. walk [] text d) (encoded-append part path)
      ∙ ap (λ p. walk [] (encode_utf8_all part ++ encode_utf8_all p) d) slashed
      ∙ ap (λ text. walk [] (encode_utf8_all part ++ text) d) (slash_first rest)
      ∙ further rest value
      (ap (λ text. pointer text child) (sym (slash_first rest))
      ∙ ap (λ p. pointer (encode_utf8_all p) child) (sym slashed) ∙ found)

  pub leads_on : (node : Node) → Leads child node → Leads d (inside (47 ∷ part) node)
  leads_on node leads = record {
    form = inr (part ++ node.path, refl);
    found =
        ap (λ text. pointer text d) (slash_first (part ++ node.path))
        ∙ walked node.path node.value leads.form leads.found;
  }

-- the part of an item, and of a member
item_part : (all : json.Items) (child : json.Data) (place : ℕ) → place < 2 ^ 64
    → get_item place all ≡ Some child → IsPart (json.array all) child (decimal place)
item_part all child place small there = record {
  bare = lacks 47 (decimal place) (omega arith) (plain_digits place small);
  leads =
      ap (λ digits. option_and_then (λ i. get_item i all) (index_of digits))
      (encodes-IsAscii (decimal place) (IsAscii-decimal place small))
      ∙ ap (option_and_then (λ i. get_item i all)) (index_of-decimal place small) ∙ there;
}

member_part : (all : json.Members) (child : json.Data) (key : List ℕ) → IsUtf8 key
    → get_member key all ≡ Some child
    → IsPart (json.object all) child (flat_map pointer_char (chars key))
member_part all child key utf8 there = record {
  bare = lacks 47 (flat_map pointer_char (chars key)) (omega arith) (no_slash (chars key));
  leads =
      ap (λ k. get_member k all) (read_back (chars key) ∙ encodes-chars key utf8) ∙ there;
}

-- the key of the first member leads to it
first_member : (key : List ℕ) (d : json.Data) (ms : json.Members)
    → get_member key (json.member key d ms) ≡ Some d
first_member key d ms = met (slice_cmp nat_cmp key key) refl
  where
    same : bytes_eq key key ≡ true
    same = (bytes_eq-Decides key key).1 refl

    met : (order : Ordering) → slice_cmp nat_cmp key key ≡ order
        → match_ordering order (get_member key ms) (Some d) (get_member key ms) ≡ Some d
    met Less is =
        let wrong : false ≡ true = sym (ap is_eq is) ∙ is_eq-slice_cmp key key ∙ same in
        absurd (cc wrong)
    met Equal is = refl
    met Greater is =
        let wrong : false ≡ true = sym (ap is_eq is) ∙ is_eq-slice_cmp key key ∙ same in
        absurd (cc wrong)

-- and the others lead on
later_member : (key other : List ℕ) (d found : json.Data) (ms : json.Members)
    → get_member key ms ≡ None → get_member other ms ≡ Some found
    → get_member other (json.member key d ms) ≡ Some found
later_member key other d found ms once there = met (slice_cmp nat_cmp other key) refl
  where
    met : (order : Ordering) → slice_cmp nat_cmp other key ≡ order
        → match_ordering order (get_member other ms) (Some d) (get_member other ms) ≡ Some found
    met Less is = there
    met Equal is =
        let equal : bytes_eq other key ≡ true = sym (is_eq-slice_cmp other key) ∙ ap is_eq is in
        let same : other ≡ key = (bytes_eq-Decides other key).0 equal in
        let wrong : Some found ≡ None = sym there ∙ ap (λ k. get_member k ms) same ∙ once in
        absurd (cc wrong)
    met Greater is = there

alone : (d : json.Data) → All (Leads d) (root d ∷ [])
alone d = All-cons (Leads d) (root d) [] (at_root d) (All-nil (Leads d))

mutual
  unfolding nodes item_nodes member_nodes IsKeyed AreKeyed HaveEachKey

  pub all_lead : (d : json.Data) → IsKeyed d → All (Leads d) (nodes d)
  all_lead json.null keyed = alone json.null
  all_lead (json.boolean b) keyed = alone (json.boolean b)
  all_lead (json.number x) keyed = alone (json.number x)
  all_lead (json.string s) keyed = alone (json.string s)
  all_lead (json.array ds) keyed =
      All-cons (Leads (json.array ds)) (root (json.array ds)) (item_nodes 0 ds) (at_root (json.array ds))
      (items_lead ds 0 ds
      (λ k. let same : 0 + k ≡ k = omega arith in ap (λ p. get_item p ds) same)
      (omega (arith, keyed.0)) keyed.1)
  all_lead (json.object ms) keyed =
      All-cons (Leads (json.object ms)) (root (json.object ms)) (member_nodes ms) (at_root (json.object ms))
      (members_lead ms ms (λ key d there. there) keyed)

  items_lead : (all : json.Items) (place : ℕ) (ds : json.Items)
      → ((k : ℕ) → get_item (place + k) all ≡ get_item k ds) → place + count_of ds ≤ 2 ^ 64
      → AreKeyed ds → All (Leads (json.array all)) (item_nodes place ds)
  items_lead all place json.no_items behind few keyed = All-nil (Leads (json.array all))
  items_lead all place (json.item d ds) behind few keyed =
      let first : place ≡ place + 0 = omega arith in
      let there : get_item place all ≡ Some d = ap (λ p. get_item p all) first ∙ behind 0 in
      All-append (Leads (json.array all)) (map (inside (index_step place)) (nodes d))
      (item_nodes (place + 1) ds)
      (All-map (Leads (json.array all)) (inside (index_step place)) (nodes d)
      (All-weaker (Leads d) (λ n. Leads (json.array all) (inside (index_step place) n))
      (leads_on (json.array all) d (decimal place) (item_part all d place (omega arith) there))
      (nodes d) (all_lead d keyed.0)))
      (items_lead all (place + 1) ds
      (λ k. let next : place + 1 + k ≡ place + suc k = omega arith in
      ap (λ p. get_item p all) next ∙ behind (suc k)) (omega arith) keyed.1)

  members_lead : (all ms : json.Members)
      → ((key : List ℕ) (d : json.Data) → get_member key ms ≡ Some d → get_member key all ≡ Some d)
      → HaveEachKey ms → All (Leads (json.object all)) (member_nodes ms)
  members_lead all json.no_members behind keyed = All-nil (Leads (json.object all))
  members_lead all (json.member key d ms) behind keyed =
      All-append (Leads (json.object all)) (map (inside (key_step (chars key))) (nodes d))
      (member_nodes ms)
      (All-map (Leads (json.object all)) (inside (key_step (chars key))) (nodes d)
      (All-weaker (Leads d) (λ n. Leads (json.object all) (inside (key_step (chars key)) n))
      (leads_on (json.object all) d (flat_map pointer_char (chars key))
      (member_part all d key keyed.0 (behind key d (first_member key d ms))))
      (nodes d) (all_lead d keyed.2)))
      (members_lead all ms
      (λ other found there. behind other found (later_member key other d found ms keyed.1 there))
      keyed.3)

module _ (P : Node → Type 0) (holds : Node → Bool) where
  met_first : (test : Bool) (n node : Node) (ns : List Node) → holds n ≡ test → P n
      → (find holds ns ≡ Some node → P node × (holds node ≡ true))
      → (if test then Some n else find holds ns) ≡ Some node → P node × (holds node ≡ true)
  met_first true n node ns is has rest found =
      let same : n ≡ node = cc in (subst P same has, ap holds (sym same) ∙ is)
  met_first false n node ns is has rest found = rest found

  first_has : (ns : List Node) (node : Node) → All P ns → find holds ns ≡ Some node
      → P node × (holds node ≡ true)
  first_has [] node all found = absurd (cc found)
  first_has (n ∷ ns) node all found =
      met_first (holds n) n node ns refl (All-head P n ns all)
      (first_has ns node (All-tail P n ns all)) found

-- the path of the first value of which something holds leads to such a value
module _ (d : json.Data) (holds : Node → Bool) (path : List ℕ) (keyed : IsKeyed d) where
  told : (found : Option Node) → find holds (nodes d) ≡ found
      → option_map (λ node. node.path) found ≡ Some path
      → (node : Node) × (pointer (encode_utf8_all path) d ≡ Some node.value)
      × (holds node ≡ true)
  told None is tells = absurd (cc tells)
  told (Some node) is tells =
      let has = first_has (Leads d) holds (nodes d) node (all_lead d keyed) is in
      let same : node.path ≡ path = cc in (
        node,
        ap (λ p. pointer (encode_utf8_all p) d) (sym same) ∙ has.0.found,
        has.1,
      )

  pub first_leads : first_path holds (nodes d) ≡ Some path
      → (node : Node) × (pointer (encode_utf8_all path) d ≡ Some node.value)
      × (holds node ≡ true)
  first_leads is = told (find holds (nodes d)) refl is
