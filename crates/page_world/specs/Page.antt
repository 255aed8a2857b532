-- What is known of a page.
use Rattle.std.specs.Prelude.{ℕ, ℤ, pos, List, [], Option, None}
use Rattle.gtm_base.specs.declared.address.Address.{Address}
use Rattle.gtm_data.specs.Tree.{Tree, object, none}
use Rattle.page_world.specs.Returns.{Returned, nothing_told}

-- what is known of a page, with trees for values
pub record PageState : Type 0 where
  pub url : List ℕ
  -- the parts of the url, where it is no malformed address
  pub url_address : Option Address
  pub referrer : List ℕ
  pub referrer_address : Option Address
  pub title : List ℕ
  pub charset : List ℕ
  pub region : List ℕ
  -- in milliseconds
  pub time : ℤ
  -- the container's public name, and the number of its version
  pub public_id : List ℕ
  pub version_id : List ℕ
  -- the values of each cookie, in order
  pub cookies : List (List ℕ × List (List ℕ))
  -- the page's global variables: a Map
  pub globals : Tree
  -- what the page's functions return, by the parts of their keys
  pub returns : Returned

-- before the first fact
abbrev pub empty_page : PageState
empty_page = record {
  url = [];
  url_address = None;
  referrer = [];
  referrer_address = None;
  title = [];
  charset = [];
  region = [];
  time = pos 0;
  public_id = [];
  version_id = [];
  cookies = [];
  globals = object none;
  returns = nothing_told;
}
