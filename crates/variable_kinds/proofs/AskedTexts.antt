-- A call that asks engines goes on a call that left them, and asks among more texts.
use Rattle.std.proofs.Common.{◌≡◌, ◌<◌, ℕ, zero, suc, List, [], ◌∷◌, length, get_or, subst}
use Rattle.std.proofs.Common.{sym, arith, Result, Ok, Err}
use Rattle.std.specs.Prelude.{Contains, IsErr, IsErrAnd}
use Rattle.std.proofs.lemmas.List.Elements.{Contains-append_left, Contains-append_right}
use Rattle.gtm_base.specs.Engines.{EnginesState, HandsOn}
use Rattle.gtm_data.specs.declared.data.Data.{Data}
use Rattle.gtm_data.specs.Tree.{Tree, tree_of, trees_of}
use Rattle.variable_kinds.specs.declared.value_end.ValueEnd.{ValueEnd}
use Rattle.variable_kinds.specs.declared.value_end.ValueEnd.TheVariants.{OutOfMemory, EngineRefused}
use Rattle.variable_kinds.specs.Ends.{Asks, RefusesOnly, value_refusal}
use Rattle.variable_kinds.specs.Patterns.{row_patterns, patterns_of}

among_more : (texts more : List (List ℕ)) (end : ValueEnd)
    → ((text : List ℕ) → Contains texts text → Contains more text)
    → RefusesOnly texts end → RefusesOnly more end
among_more texts more OutOfMemory within only = tt
among_more texts more (EngineRefused text) within only = within text only

-- an error of a later call, among more texts, that is handed on
pub asks_on : {T U : Type 0} (texts more : List (List ℕ)) (result : Result U ValueEnd)
    (end : ValueEnd) (old mid new : EnginesState) → mid ≡ old
    → ((text : List ℕ) → Contains texts text → Contains more text)
    → IsErr result → IsErrAnd result (λ made. made ≡ end)
    → Asks texts {T = T} (Err end) mid new → Asks more result old new
asks_on texts more (Ok value) end old mid new same within is made asks = absurd cc
asks_on {T = T} {U = U} texts more (Err error) end old mid new same within is made asks =
    let handed : HandsOn {T = T} value_refusal (Err error) old new =
    subst (λ s. HandsOn {T = T} value_refusal (Err error) s new) same
    (subst (λ e. HandsOn {T = T} value_refusal (Err e) mid new) (sym made) asks.engines) in
    record {
      engines = record { later = handed.later; left = handed.left };
      asked = subst (RefusesOnly more) (sym made) (among_more texts more end within asks.asked);
    }

-- the patterns of a row are among those of all rows
pub row_among : (fields : Tree) (rows : List Data) (at : ℕ) (row : Data) → at < length rows
    → row ≡ get_or rows at row → (text : List ℕ)
    → Contains (row_patterns fields (tree_of row)) text
    → Contains (patterns_of fields (trees_of rows)) text
row_among fields [] at row within is text has = absurd (omega arith)
row_among fields (first ∷ rows) zero row within is text has =
    Contains-append_left (row_patterns fields (tree_of first)) (patterns_of fields (trees_of rows))
    text (subst (λ r. Contains (row_patterns fields (tree_of r)) text) is has)
row_among fields (first ∷ rows) (suc at) row within is text has =
    Contains-append_right (row_patterns fields (tree_of first)) (patterns_of fields (trees_of rows))
    text (row_among fields rows at row (omega arith) is text has)
