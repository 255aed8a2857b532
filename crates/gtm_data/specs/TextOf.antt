-- Trees as texts.
use Rattle.std.specs.Prelude.{ℕ, List, [], ◌∷◌, true, false, codes}
use Rattle.std.specs.Fmt.{signed_decimal}
use Rattle.std.specs.List.{join_with_byte}
use Rattle.gtm_data.specs.Tree.{Tree, undefined, null, bool, whole, text, list, object, foreign}
use Rattle.gtm_data.specs.Tree.{callback, Trees, end, item}

-- a tree as a text: items are joined by commas, and a Map or a function is only named
unfoldable mutual
  pub text_of : Tree → List ℕ
  text_of undefined = codes "undefined"
  text_of null = codes "null"
  text_of (bool true) = codes "true"
  text_of (bool false) = codes "false"
  text_of (whole number) = signed_decimal number
  text_of (text t) = t
  text_of (list ts) = join_with_byte 44 (texts_of ts)
  text_of (object es) = codes "[object Object]"
  text_of foreign = codes "[function]"
  text_of (callback number) = codes "[function]"

  -- the items as texts
  pub texts_of : Trees → List (List ℕ)
  texts_of end = []
  texts_of (item t ts) = text_of t ∷ texts_of ts
