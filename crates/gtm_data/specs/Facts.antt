-- What is known of a page, with trees for values.
use Rattle.std.specs.Prelude.{ℕ, ℤ, List, Option}
use Rattle.gtm_base.specs.declared.address.Address.{Address}
use Rattle.gtm_data.specs.Tree.{Tree, tree_of}
use Rattle.gtm_data.specs.declared.facts.PageFact.{PageFact}
use Rattle.gtm_data.specs.declared.facts.PageFact.TheVariants as facts

-- what is known of a page
pub data Fact : Type 0 where
  -- the address, the referrer, the title, the character set and the region, where they are told,
  -- and the two addresses where they were read
  page : (url referrer title charset region : Option (List ℕ))
      → (url_address referrer_address : Option Address) → Fact
  -- all values of the cookie of a name
  cookie : (name : List ℕ) → (values : List (List ℕ)) → Fact
  -- the value of a global variable
  global : (key : List ℕ) → (value : Tree) → Fact
  -- what a global function returns
  returns : (key : List ℕ) → (value : Tree) → Fact
  -- the time in milliseconds
  time : ℤ → Fact
  -- the container's public name and the number of its version
  ids : (public_id version_id : List ℕ) → Fact

-- the fact of a page that a value is
abbrev pub fact_of : PageFact → Fact
fact_of (facts.Page url referrer title charset region url_address referrer_address) =
    page url referrer title charset region url_address referrer_address
fact_of (facts.Cookie name values) = cookie name values
fact_of (facts.Global key value) = global key (tree_of value)
fact_of (facts.Returns key value) = returns key (tree_of value)
fact_of (facts.Time ms) = time ms
fact_of (facts.Ids public_id version_id) = ids public_id version_id
