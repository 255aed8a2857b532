-- What is known of a page after a fact.
use Rattle.std.specs.Prelude.{ℕ, List, Option, unwrap_or, if◌then◌else◌}
use Rattle.std.specs.Option.{option_map_or}
use Rattle.gtm_base.specs.declared.address.Address.{Address}
use Rattle.gtm_data.specs.Facts.{Fact, page, cookie, global, returns, time, ids}
use Rattle.gtm_data.specs.Paths.{dotted}
use Rattle.gtm_data.specs.Tree.{Tree, foreign}
use Rattle.page_world.specs.Globals.{is_blocked, set_at}
use Rattle.page_world.specs.Page.{PageState}
use Rattle.page_world.specs.Pairs.{with_key}
use Rattle.page_world.specs.Returns.{forgotten, with_return}

-- the global at these parts has this value; what functions at and below it return is forgotten
abbrev pub set_global : List (List ℕ) → Tree → PageState → PageState
set_global parts value known = record known {
  globals = set_at parts value known.globals;
  returns = forgotten parts known.returns;
}

-- the same where the path is not blocked; else nothing changes
abbrev pub after_set : List (List ℕ) → Tree → PageState → PageState
after_set parts value known =
    if is_blocked parts known.globals then known else set_global parts value known

-- the global at these parts becomes a function, which returns this
abbrev pub set_function : List (List ℕ) → Tree → PageState → PageState
set_function parts value known = record (set_global parts foreign known) {
  returns = with_return parts value (set_global parts foreign known).returns;
}

-- the same where the path is not blocked; else nothing changes
abbrev pub after_returns : List (List ℕ) → Tree → PageState → PageState
after_returns parts value known =
    if is_blocked parts known.globals then known else set_function parts value known

-- the address that goes with a text: the new one where there is a new text
abbrev pub address_with : Option (List ℕ) → Option Address → Option Address → Option Address
address_with text new old = option_map_or (λ _. new) text old

-- what is known of a page after a fact
abbrev pub page_after : Fact → PageState → PageState
page_after (page url referrer title charset region url_address referrer_address) known =
    record known {
      url = unwrap_or url known.url;
      url_address = address_with url url_address known.url_address;
      referrer = unwrap_or referrer known.referrer;
      referrer_address = address_with referrer referrer_address known.referrer_address;
      title = unwrap_or title known.title;
      charset = unwrap_or charset known.charset;
      region = unwrap_or region known.region;
    }
page_after (cookie name values) known =
    record known { cookies = with_key name values known.cookies }
page_after (global key value) known = after_set (dotted key) value known
page_after (returns key value) known = after_returns (dotted key) value known
page_after (time ms) known = record known { time = ms }
page_after (ids public_id version_id) known =
    record known { public_id = public_id; version_id = version_id }
