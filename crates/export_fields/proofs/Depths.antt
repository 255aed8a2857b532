-- What is inside nests less.
use Rattle.std.proofs.Common.{◌≡◌, ℕ, ◌<◌, ◌≤◌, List, [], ◌∷◌, Option, Some, None, Ordering, Less}
use Rattle.std.proofs.Common.{Equal, Greater, length, get_or, arith, zero, suc, sym, subst}
use Rattle.std.specs.Ordering.{match_ordering, nat_cmp}
use Rattle.std.specs.Cmp.Lexicographic.{slice_cmp}
use Rattle.serde_json.specs.Data.{Data, null, boolean, number, string, array, object, Members}
use Rattle.serde_json.specs.Data.{no_members, member, depth, items_depth, members_depth}
use Rattle.serde_json.specs.Find.{get, get_member}
use Rattle.serde_json.specs.View.{view, items_view}
use Rattle.serde_json.specs.declared.value.Value.{Value}

-- a value, where there is one, nests at most so deep
abbrev Within : Option Data → ℕ → Type 0
Within None n = Unit {0}
Within (Some d) n = depth d ≤ n

-- and then at most any deeper
more : (o : Option Data) (m n : ℕ) → m ≤ n → Within o m → Within o n
more None m n h w = tt
more (Some d) m n h w = omega arith

-- the value that an order chooses
chosen : (o : Ordering) (r : Option Data) (d : Data) (n : ℕ) → Within r n → depth d ≤ n
    → Within (match_ordering o r (Some d) r) n
chosen Less r d n w h = w
chosen Equal r d n w h = h
chosen Greater r d n w h = w

-- the member that `get_member` finds
member_within : (key : List ℕ) (ms : Members) → Within (get_member key ms) (members_depth ms)
member_within key no_members = tt
member_within key (member k d ms) =
    chosen (slice_cmp nat_cmp key k) (get_member key ms) d _
    (more (get_member key ms) _ _ (omega arith) (member_within key ms)) (omega arith)

-- the value that `get` finds
get_within : (key : List ℕ) (d : Data) → Within (get key d) (depth d)
get_within key null = tt
get_within key (boolean b) = tt
get_within key (number n) = tt
get_within key (string s) = tt
get_within key (array ds) = tt
get_within key (object ms) = more (get_member key ms) _ _ (omega arith) (member_within key ms)

-- a value at a key nests no deeper than the object
pub get_depth : (key : List ℕ) (d e : Data) → Some e ≡ get key d → depth e ≤ depth d
get_depth key d e found = let P : Option Data → Type 0 = λ o. Within o (depth d) in
    subst P (sym found) (get_within key d)

-- an item nests no deeper than its list
pub item_depth : (vs : List Value) (i : ℕ) (v : Value) → i < length vs
    → depth (view (get_or vs i v)) ≤ items_depth (items_view vs)
item_depth [] i v h = absurd (omega arith)
item_depth (x ∷ vs) zero v h = omega arith
item_depth (x ∷ vs) (suc i) v h = omega (arith, item_depth vs i v (omega arith))
