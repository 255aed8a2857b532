-- A JSON tree that is not too deep, by its depth.
use Rattle.std.proofs.Common.{◌≡◌, ◌≤◌, ◌<◌, ◌↔◌, ℕ, zero, suc, ◌+◌, List, [], ◌∷◌, Bool, true}
use Rattle.std.proofs.Common.{false, ◌&&◌, Option, Some, None, option_map, refl, sym, ap, ◌∙◌}
use Rattle.std.proofs.Common.{arith}
use Rattle.std.proofs.lemmas.Bool.{lt-leb}
use Rattle.std.specs.Prelude.{nat_le, find, if◌then◌else◌}
use Rattle.std.specs.Option.{option_or}
use Rattle.serde_json.specs.Data.{Data, null, boolean, number, string, array, object, Items}
use Rattle.serde_json.specs.Data.{no_items, item, Members, no_members, member, depth, items_depth}
use Rattle.serde_json.specs.Data.{members_depth}
use Rattle.std.specs.Str.{chars}
use Rattle.gtm_data.specs.Tree.{Tree}
use Rattle.gtm_data.specs.Plain.{Node, root, index_step, key_step, nodes, item_nodes, member_nodes}
use Rattle.gtm_data.specs.Plain.{first_path, is_nest, is_nest_below, too_deep, not_whole}
use Rattle.gtm_data.specs.Plain.{tree_unless, plain, tree_in}
use Rattle.gtm_data.specs.declared.limits.TheConstants.{MAX_DEPTH}
use Rattle.gtm_data.proofs.Nodes.{under, first_path-item, first_path-member, is_nest_below-inside}

neither : (step : List ℕ) (some other : Option (List ℕ)) → option_or (under step some) other ≡ None
    → (some ≡ None) × (other ≡ None)
neither step None other e = (refl, e)
neither step (Some path) other e = cc

none : (step : List ℕ) (some other : Option (List ℕ)) → some ≡ None → other ≡ None
    → option_or (under step some) other ≡ None
none step None other e f = f
none step (Some path) other e f = cc

abbrev below : ℕ → Node → Bool
below allowed = is_nest_below allowed

told : (b : Bool) (n : Node) (ns : List Node) (holds : Node → Bool) → b ≡ true
    → option_map (λ node. node.path) (if b then Some n else find holds ns) ≡ Some n.path
told true n ns holds e = refl
told false n ns holds e = cc

passed : (b : Bool) (n : Node) (ns : List Node) (holds : Node → Bool) → b ≡ false
    → option_map (λ node. node.path) (if b then Some n else find holds ns) ≡ first_path holds ns
passed true n ns holds e = cc
passed false n ns holds e = refl

and_false : (b : Bool) → (b && false) ≡ false
and_false true = refl
and_false false = refl

-- a List or Map that may not be there
nest_told : (d : Data) (ns : List Node) → is_nest d ≡ true
    → first_path (below 0) (root d ∷ ns) ≡ Some []
nest_told d ns is = let e : is_nest_below 0 (root d) ≡ true = ap (λ b. b && nat_le 0 0) is in
    told (is_nest_below 0 (root d)) (root d) ns (below 0) e

-- and one that may
nest_passed : (allowed : ℕ) (d : Data) (ns : List Node) → 0 < allowed
    → first_path (below allowed) (root d ∷ ns) ≡ first_path (below allowed) ns
nest_passed allowed d ns some =
    let e : is_nest_below allowed (root d) ≡ false =
    ap (λ b. is_nest d && b) (lt-leb allowed 0 some) ∙ and_false (is_nest d) in
    passed (is_nest_below allowed (root d)) (root d) ns (below allowed) e

mutual
  unfolding nodes item_nodes member_nodes

  shallow : (d : Data) (allowed : ℕ) → (first_path (below allowed) (nodes d) ≡ None)
      ↔ (depth d ≤ allowed)
  shallow null allowed = (λ _. omega arith, λ _. refl)
  shallow (boolean b) allowed = (λ _. omega arith, λ _. refl)
  shallow (number x) allowed = (λ _. omega arith, λ _. refl)
  shallow (string s) allowed = (λ _. omega arith, λ _. refl)
  shallow (array ds) zero = let there = nest_told (array ds) (item_nodes 0 ds) refl in
      (λ e. cc there, λ h. absurd (omega arith))
  shallow (array ds) (suc allowed) =
      let past = nest_passed (suc allowed) (array ds) (item_nodes 0 ds) (omega arith) in
      let within = items_shallow ds allowed 0 in
      (λ e. let h = within.0 (sym past ∙ e) in omega arith, λ h. past ∙ within.1 (omega arith))
  shallow (object ms) zero = let there = nest_told (object ms) (member_nodes ms) refl in
      (λ e. cc there, λ h. absurd (omega arith))
  shallow (object ms) (suc allowed) =
      let past = nest_passed (suc allowed) (object ms) (member_nodes ms) (omega arith) in
      let within = members_shallow ms allowed in
      (λ e. let h = within.0 (sym past ∙ e) in omega arith, λ h. past ∙ within.1 (omega arith))

  items_shallow : (ds : Items) (allowed place : ℕ)
      → (first_path (below (suc allowed)) (item_nodes place ds) ≡ None) ↔ (items_depth ds ≤ allowed)
  items_shallow no_items allowed place = (λ _. omega arith, λ _. refl)
  items_shallow (item d ds) allowed place =
      let all =
      first_path-item (below allowed) (below (suc allowed))
      (is_nest_below-inside allowed (suc allowed) (omega arith)) place d ds in
      let first = shallow d allowed in
      let rest = items_shallow ds allowed (place + 1) in (
        λ e. let both = neither (index_step place) _ _ (sym all ∙ e) in let h = first.0 both.0 in
            let k = rest.0 both.1 in
            omega arith,
        λ h. all ∙ none (index_step place) _ _ (first.1 (omega arith)) (rest.1 (omega arith)),
      )

  members_shallow : (ms : Members) (allowed : ℕ)
      → (first_path (below (suc allowed)) (member_nodes ms) ≡ None) ↔ (members_depth ms ≤ allowed)
  members_shallow no_members allowed = (λ _. omega arith, λ _. refl)
  members_shallow (member key d ms) allowed =
      let all =
      first_path-member (below allowed) (below (suc allowed))
      (is_nest_below-inside allowed (suc allowed) (omega arith)) key d ms in
      let first = shallow d allowed in
      let rest = members_shallow ms allowed in (
        λ e. let both = neither (key_step (chars key)) _ _ (sym all ∙ e) in let h = first.0 both.0 in
            let k = rest.0 both.1 in
            omega arith,
        λ h. all ∙ none (key_step (chars key)) _ _ (first.1 (omega arith)) (rest.1 (omega arith)),
      )

pub too_deep-depth : (d : Data) → (too_deep d ≡ None) ↔ (depth d ≤ MAX_DEPTH)
too_deep-depth d = shallow d MAX_DEPTH

unless : (bad deep : Option (List ℕ)) (t : Tree) → bad ≡ None → (tree_unless bad deep t ≡ Some t)
    ↔ (deep ≡ None)
unless None None t e = (λ _. refl, λ _. refl)
unless None (Some path) t e = (λ f. cc, λ f. cc)
unless (Some path) deep t e = cc

pub plain-depth : (d : Data) → not_whole d ≡ None → (plain d ≡ Some (tree_in d))
    ↔ (depth d ≤ MAX_DEPTH)
plain-depth d good =
    let told = unless (not_whole d) (too_deep d) (tree_in d) good in
    let deep = too_deep-depth d in
    (λ e. deep.0 (told.0 e), λ h. told.1 (deep.1 h))
