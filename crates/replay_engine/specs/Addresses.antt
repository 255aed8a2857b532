-- The addresses that a step asks the engines to read.
use Rattle.std.specs.Prelude.{ℕ, List, [], ◌∷◌, ◌++◌, Option, Some, None, option_and_then}
use Rattle.std.specs.Prelude.{encode_utf8_all}
use Rattle.gtm_base.specs.Engines.{address_of}
use Rattle.gtm_base.specs.declared.address.Address.{Address}
use Rattle.gtm_data.specs.Facts.{Fact, page}
use Rattle.trace_forms.specs.Steps.{Step, fact}

-- the address that a text is; `None` for one that is malformed
abbrev pub address_in : List ℕ → Option Address
address_in text = address_of (encode_utf8_all text)

-- a fact, with its addresses read
abbrev pub filled : Fact → Fact
filled (page url referrer title charset region url_address referrer_address) =
    page url referrer title charset region (option_and_then address_in url)
    (option_and_then address_in referrer)
filled f = f

-- the text, where there is one
abbrev pub text_if : Option (List ℕ) → List (List ℕ)
text_if None = []
text_if (Some text) = text ∷ []

-- the texts that a fact may hand to the engines: the addresses of a page
abbrev pub fact_texts : Fact → List (List ℕ)
fact_texts (page url referrer title charset region url_address referrer_address) =
    text_if url ++ text_if referrer
fact_texts f = []

-- the texts that a step may hand to the engines
abbrev pub asked_texts : Step → List (List ℕ)
asked_texts (fact f) = fact_texts f
asked_texts _ = []
