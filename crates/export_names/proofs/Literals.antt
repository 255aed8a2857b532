-- Literals are not empty.
use Rattle.std.proofs.Common.{◌≡◌, ◌≢◌, ℕ, List, [], ◌∷◌, ◌++◌, length, map, true, false, refl, ap}
use Rattle.std.proofs.Common.{sym, ◌∙◌, append-nil, arith}
use Rattle.std.specs.Prelude.{◌==◌, encode_utf8_all}
use Rattle.std.specs.Str.{chars, IsUtf8}
use Rattle.std.proofs.lemmas.Str.{chars-nil, encodes-chars}
use Rattle.export_model.specs.declared.params.Piece.{Piece}
use Rattle.export_model.specs.declared.params.Piece.TheVariants.{Literal}
use Rattle.export_names.specs.Cut.{literal, literal_of}
use Rattle.export_names.specs.Names.{NameLists, numbered}
use Rattle.export_names.proofs.Twice.{same_character}

literal_of_some : (text : List ℕ) → text ≢ [] → literal_of text ≡ literal text ∷ []
literal_of_some [] h = absurd (h refl)
literal_of_some (c ∷ cs) h = refl

module _ (names : NameLists) (pieces : List Piece) where
  -- a text that has a byte is a literal
  pub some_behind : (bytes : List ℕ) → IsUtf8 bytes → (length bytes == 0) ≡ false
      → pieces ++ Literal (chars bytes) ∷ []
      ≡ pieces ++ map (numbered names) (literal_of (chars bytes))
  some_behind [] utf8 h = cc
  some_behind (b ∷ bytes) utf8 h =
      let some : chars (b ∷ bytes) ≢ [] =
      λ e. (let none : b ∷ bytes ≡ [] =
      sym (encodes-chars (b ∷ bytes) utf8) ∙ ap encode_utf8_all e in cc) in
      ap (λ ls. pieces ++ map (numbered names) ls) (sym (literal_of_some (chars (b ∷ bytes)) some))

  -- an empty text is none
  pub none_behind : (bytes : List ℕ) → (length bytes == 0) ≡ true
      → pieces ≡ pieces ++ map (numbered names) (literal_of (chars bytes))
  none_behind [] h =
      sym (append-nil pieces)
      ∙ ap (λ text. pieces ++ map (numbered names) (literal_of text)) (sym chars-nil)
  none_behind (b ∷ bytes) h =
      absurd (let none : length (b ∷ bytes) ≡ 0 = same_character (length (b ∷ bytes)) 0 h in
      omega arith)
